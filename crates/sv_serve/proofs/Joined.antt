-- A sweep serves the connections one after the other, in the order of their numbers. These lemmas
-- say what holds after one more step.
use Rattle.std.proofs.Common.{◌≡◌, ℕ, suc, subst, sym, rules, refl, zero, List, [], ◌∷◌, drop, Some, ◌<◌, ◌≤◌, inl, inr, arith}
use Rattle.std.proofs.Math.Nat.{eq-or-lt_of_le}
use Rattle.std.specs.List.{slice_get}
use Rattle.sv_history.specs.declared.event.Config.{Config}
use Rattle.sv_history.specs.Event.{PlainEvent}
use Rattle.sv_serve.specs.DriverView.{DriverView, DriverState, ForEach, Steps, driver_view}

pub for_each_one_more : {W : Type 0} (step : ℕ → Config → DriverView W → DriverView W → Type 0) (config : Config) (n m : ℕ)
    (a b c : DriverView W)
    → m ≡ suc n → ForEach n step config a b → step n config b c → ForEach m step config a c
for_each_one_more step config n m a b c is front last =
    subst (λ (k : ℕ). ForEach k step config a c) (sym is) (b, front, last)

pub for_each_equal : {W : Type 0} (step : ℕ → Config → DriverView W → DriverView W → Type 0) (config : Config) (n m : ℕ)
    (a b : DriverView W) → n
    ≡ m
    → ForEach n step config a b → ForEach m step config a b
for_each_equal step config n m a b is each = subst (λ (k : ℕ). ForEach k step config a b) is each

-- The same for steps of a driver, whatever the history of its server.
pub steps_one_more : {W J : Type 0} (notes : J → List PlainEvent → J → Type 0) (step : ℕ → Config → DriverView W → DriverView W
    → Type 0) (n m : ℕ) (first mid last : DriverState W J) → m
    ≡ suc n
    → Steps notes (ForEach n step) first mid → Steps notes (step n) mid last → Steps notes (ForEach m step) first last
steps_one_more notes step n m first mid last is front more = λ origin config history stands.
    let (h0, s0, p0) = front _ config history stands in
    let (h1, s1, p1) = more _ config h0 s0 in
    (h1, s1, for_each_one_more step config n m (driver_view first history) (driver_view mid h0) (driver_view last h1) is p0 p1)

pub steps_equal : {W J : Type 0} (notes : J → List PlainEvent → J → Type 0) (step : ℕ → Config → DriverView W → DriverView W
    → Type 0) (n m : ℕ) (first last : DriverState W J) → n ≡ m
    → Steps notes (ForEach n step) first last → Steps notes (ForEach m step) first last
steps_equal notes step n m first last is each = subst (λ (k : ℕ). Steps notes (ForEach k step) first last) is each

pub drop_from_entry : {A : Type 0} (xs : List A) (n m : ℕ) (x : A) → m ≡ suc n → slice_get xs n ≡ Some x → drop n xs ≡ x ∷ drop m xs
drop_from_entry [] n m x is here = search rules
drop_from_entry (y ∷ ys) zero m x is here = rw is (search rules)
drop_from_entry (y ∷ ys) (suc n) m x is here = rw is (drop_from_entry ys n (suc n) x refl here)

pub below_one_more : (P : ℕ → Type 0) (n m : ℕ) → m ≡ suc n → ((d : ℕ) → d < n → P d) → P n → (d : ℕ) → d < m → P d
below_one_more P n m is below last d less =
    let le : d ≤ n = omega (arith, is, less) in
    elim (eq-or-lt_of_le le) [ inl same ↦ subst P (sym same) last | inr l ↦ below d l ]
