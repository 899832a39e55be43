-- The suspended create_link calls are equally many, counted over the queue or over the connections.
use Rattle.std.proofs.Common.{◌≡◌, ◌≢◌, ℕ, ◌+◌, ◌<◌, Bool, true, false, eqb, List, [], ◌∷◌, ◌++◌, length, Option, Some, None, refl, sym, ap, ◌∙◌, arith, inl, inr, eq-eqb, suc, zero}
use Rattle.std.specs.Prelude.{not, filter, is_some, is_none, option_map, ◌&&◌}
use Rattle.std.specs.List.{AllByRecursion, range_with_len}
use Rattle.std.proofs.lemmas.Bool.{cases_Bool, eqb-true, ne_eqb, true≢false}
use Rattle.sv_links.specs.declared.waiting.Entry.{Entry}
use Rattle.sv_links.specs.declared.waiting.Wait.{Wait}
use Rattle.sv_links.specs.Limits.{max_connections}
use Rattle.sv_links.specs.Waiting.{WaitAct, waits, link, is_lock, is_creating, creating}
use Rattle.sv_links.specs.Queue.{IsQueue, IsEntry, IsFree, IsOnce, IsBelow, creates, creations, without}
use Rattle.sv_links.proofs.Queues.{HasEntryOf, entry_from_find, once_filter, below_less, all_filter, without_free}

range_push : (a n b : ℕ) → a + n ≡ b → range_with_len a (suc n) ≡ range_with_len a n ++ b ∷ []
range_push a zero b e = ap (λ (m : ℕ). m ∷ []) (omega (arith, e))
range_push a (suc n) b e = ap (λ (ns : List ℕ). a ∷ ns) (range_push (a + 1) n b (omega (arith, e)))

abbrev one_if : Bool → ℕ
one_if true = 1
one_if false = 0

pushed : (test : ℕ → Bool) (ns : List ℕ) (n : ℕ) → length (filter test (ns ++ n ∷ [])) ≡ length (filter test ns) + one_if (test n)
pushed test [] n = elim (cases_Bool (test n)) [ inl e ↦ rw e refl | inr e ↦ rw e refl ]
pushed test (m ∷ ns) n = elim (cases_Bool (test m)) [
  | inl e ↦ rw e (omega (arith, pushed test ns n))
  | inr e ↦ rw e (pushed test ns n)
]

-- If no entry of a connection passes the test, as many pass without the connection.
passing_without_failing : (p : Entry → Bool) (n : ℕ) (xs : List Entry) → AllByRecursion (λ x. x.conn ≡ n → p x ≡ false) xs
    → length (filter p xs) ≡ length (filter p (without n xs))
passing_without_failing p n [] h = refl
passing_without_failing p n (x ∷ xs) h = elim (cases_Bool (eqb x.conn n)) [
  | inl e ↦ rw (e, h.0 (eqb-true x.conn n e)) (passing_without_failing p n xs h.1)
  | inr e ↦ elim (cases_Bool (p x)) [
    | inl k ↦ rw (e, k) (omega (arith, passing_without_failing p n xs h.1))
    | inr k ↦ rw (e, k) (passing_without_failing p n xs h.1)
  ]
]

-- If the entry of a connection passes the test, removing it leaves one fewer that does.
passing_without_one : (p : Entry → Bool) (n : ℕ) (xs : List Entry) → IsOnce xs → HasEntryOf n xs
    → AllByRecursion (λ x. x.conn ≡ n → p x ≡ true) xs → length (filter p xs) ≡ length (filter p (without n xs)) + 1
passing_without_one p n [] once among h = absurd among
passing_without_one p n (x ∷ xs) once (inl same) h =
    let free : IsFree n xs = rw (← same) once.0 in
    rw (eq-eqb x.conn n same, h.0 same, without_free n xs free) (omega arith)
passing_without_one p n (x ∷ xs) once (inr k) h = elim (cases_Bool (eqb x.conn n)) [
  | inl e ↦ let same = eqb-true x.conn n e in
      let free : IsFree n xs = rw (← same) once.0 in
      rw (e, h.0 same, without_free n xs free) (omega arith)
  | inr e ↦ elim (cases_Bool (p x)) [
    | inl t ↦ rw (e, t) (omega (arith, passing_without_one p n xs once.1 k h.1))
    | inr t ↦ rw (e, t) (passing_without_one p n xs once.1 k h.1)
  ]
]

among_without : (c n : ℕ) (xs : List Entry) → c ≢ n → HasEntryOf c xs → HasEntryOf c (without n xs)
among_without c n [] apart h = h
among_without c n (x ∷ xs) apart (inl same) = rw (ne_eqb x.conn n (λ e. apart (sym same ∙ e))) (inl same)
among_without c n (x ∷ xs) apart (inr k) = elim (cases_Bool (eqb x.conn n)) [
  | inl e ↦ rw e (among_without c n xs apart k)
  | inr e ↦ rw e (inr (among_without c n xs apart k))
]

all_to : (P Q : Entry → Type 0) → ((x : Entry) → P x → Q x) → (xs : List Entry) → AllByRecursion P xs → AllByRecursion Q xs
all_to P Q f [] h = tt
all_to P Q f (x ∷ xs) h = (f x h.0, all_to P Q f xs h.1)

-- As many entries pass the test as connections do.
passing_by_connection : (p : Entry → Bool) (test : ℕ → Bool) (n : ℕ) (xs : List Entry) → IsOnce xs → IsBelow n xs
    → AllByRecursion (λ x. p x ≡ test x.conn) xs → ((c : ℕ) → c < n → test c ≡ true → HasEntryOf c xs)
    → length (filter p xs) ≡ length (filter test (range_with_len 0 n))
passing_by_connection p test zero [] once below same among = refl
passing_by_connection p test zero (x ∷ xs) once below same among = absurd (omega (arith, below.0))
passing_by_connection p test (suc n) xs once below same among =
    let rest = passing_by_connection p test n (without n xs) (once_filter (λ x. not (eqb x.conn n)) xs once) (below_less n xs below)
    (all_filter (λ (x : Entry). p x ≡ test x.conn) (λ x. not (eqb x.conn n)) xs same)
    (λ c lt k. among_without c n xs (omega (arith, lt)) (among c (omega (arith, lt)) k)) in
    let end = ap (λ (ns : List ℕ). length (filter test ns)) (range_push 0 n n (omega arith))
    ∙ pushed test (range_with_len 0 n) n in
    elim (cases_Bool (test n)) [
      | inl e ↦
          let one = passing_without_one p n xs once (among n (omega arith) e)
          (all_to (λ x. p x ≡ test x.conn) (λ x. x.conn ≡ n → p x ≡ true) (λ x k m. k ∙ ap test m ∙ e) xs same) in
          omega (arith, one, rest, end, ap (λ (b : Bool). one_if b) e)
      | inr e ↦
          let none = passing_without_failing p n xs
          (all_to (λ x. p x ≡ test x.conn) (λ x. x.conn ≡ n → p x ≡ false) (λ x k m. k ∙ ap test m ∙ e) xs same) in
          omega (arith, none, rest, end, ap (λ (b : Bool). one_if b) e)
    ]

same_creates : (acts : List WaitAct) (x : Entry) → IsEntry acts x → creates x ≡ is_creating acts x.conn
same_creates acts x h = rw (h.0, h.2) refl

not_lock : (o : Option Wait) (b : Bool) → (is_lock o && b) ≡ true → o ≡ None → ⊥
not_lock None b e none = true≢false (sym e)
not_lock (Some wait) b e none = true≢false (ap is_some none)

pub creations_all : (acts : List WaitAct) (xs : List Entry) → IsOnce xs → IsBelow max_connections xs → IsQueue xs acts
    → creations xs ≡ creating acts
creations_all acts xs once below is = passing_by_connection creates (is_creating acts) max_connections xs once below
    (all_to (IsEntry acts) (λ x. creates x ≡ is_creating acts x.conn) (same_creates acts) xs is.each)
    (λ c lt e. entry_from_find c xs (λ none. not_lock (waits c acts) (is_none (link c acts)) e
    (is.all c ∙ ap (λ o. option_map (λ (x : Entry). x.wait) o) none)))
