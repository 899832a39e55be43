-- Lemmas about booleans and one-bit words.
use Rattle.std.proofs.Common.{◌≡◌, ℕ, suc, ◌*◌, ◌%◌, ◌^◌, Bool, true, false, cond, List, [], ◌∷◌, length, refl, sym, nat_lt, arith}
use Rattle.std.specs.Prelude.{◌↔◌, not, ◌&&◌, ◌||◌}
use Rattle.std.proofs.lemmas.Bool.{lt-ltb, and_parts, and_from}
use Rattle.std.specs.Bool.{beq}
use Rattle.std.specs.Int.{from_bool}
use Rattle.sv_exchange.specs.Exchange.{is_something}
use Rattle.sv_scan.specs.Condition.{bit}

pub same_bool : {P : Type 0} (a b : Bool) → (a ≡ true) ↔ P → (b ≡ true) ↔ P → a ≡ b
same_bool true true p q = refl
same_bool true false p q = sym (q.1 (p.0 refl))
same_bool false true p q = p.1 (q.0 refl)
same_bool false false p q = refl

pub cond_is_bit : (k : ℕ) (b : Bool) → cond b (2 ^ k) 0 ≡ bit k b
cond_is_bit k true = refl
cond_is_bit k false = refl

pub from_bool_is_bit : (b : Bool) → from_bool b ≡ bit 0 b
from_bool_is_bit true = refl
from_bool_is_bit false = refl

-- A boolean, shifted to bit 9 of a word.
pub shifted_bit : (b : Bool) → from_bool b * 2 ^ 9 % 2 ^ 16 ≡ bit 9 b
shifted_bit true = refl
shifted_bit false = refl

-- Two booleans are the same unless they are unequal.
pub same_unless_unequal : (a b : Bool) → not (beq a b) ≡ false → a ≡ b
same_unless_unequal true true same = refl
same_unless_unequal true false same = absurd cc
same_unless_unequal false true same = absurd cc
same_unless_unequal false false same = refl

pub nonempty_by_length : (places : List ℕ) → nat_lt 0 (length places) ≡ is_something places
nonempty_by_length [] = refl
nonempty_by_length (place ∷ places) = lt-ltb 0 (suc (length places)) (omega arith)

pub and_both : (a b : Bool) → ((a && b) ≡ true) ↔ ((b ≡ true) × (a ≡ true))
and_both a true = ((λ h. (refl, (and_parts a true h).0)), (λ h. and_from a true h.1 refl))
and_both a false = ((λ h. absurd (let none = (and_parts a false h).1 in cc)), (λ h. absurd (let none = h.0 in cc)))

pub and_not : (a b : Bool) → ((a && not b) ≡ true) ↔ ((b ≡ false) × (a ≡ true))
and_not a true = ((λ h. absurd (let none = (and_parts a false h).1 in cc)), (λ h. absurd (let none = h.0 in cc)))
and_not a false = ((λ h. (refl, (and_parts a true h).0)), (λ h. and_from a true h.1 refl))
