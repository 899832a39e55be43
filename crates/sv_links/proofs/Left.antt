-- Which bytes of the interrupt calls are still to be sent, after the peer took some of them.
use Rattle.std.proofs.Common.{◌≡◌, ℕ, zero, suc, ◌+◌, ◌-◌, ◌*◌, ◌<◌, ◌≤◌, ltb, List, [], ◌∷◌, ◌++◌, length, drop, refl, sym, ap, ◌∙◌, arith, inl, inr}
use Rattle.std.specs.Prelude.{map, sum}
use Rattle.std.specs.List.{concat, AllByRecursion}
use Rattle.std.proofs.lemmas.Bool.{cases_Bool, ltb-true, ltb-false, lt-ltb, le-ltb}
use Rattle.std.proofs.lemmas.List.{length-append, length-drop, drop_at, drop-drop, drop-append-le}
use Rattle.sv_links.specs.Channels.{calls_left}
use Rattle.sv_links.specs.Limits.{longest_call}
use Rattle.sv_links.specs.ChannelRepresentation.{left_in}
use Rattle.sv_rpc.proofs.Cuts.{sum_cons}

-- The sizes of the remaining calls are what remains of the sizes.
pub left_sizes : (count : ℕ) (calls : List (List ℕ)) → map length (calls_left count calls) ≡ left_in count (map length calls)
left_sizes count [] = refl
left_sizes count (call ∷ calls) = elim (cases_Bool (ltb count (length call))) [
  | inl e ↦ rw e (ap (λ (n : ℕ). n ∷ map length calls) (length-drop count call))
  | inr e ↦ rw e (left_sizes (count - length call) calls)
]

pub drop_past : (count : ℕ) (xs ys : List ℕ) → length xs ≤ count → drop count (xs ++ ys) ≡ drop (count - length xs) ys
drop_past count xs ys h =
    let both : length xs + (count - length xs) ≡ count = omega arith in
    ap (λ (n : ℕ). drop n (xs ++ ys)) (sym both) ∙ sym (drop-drop (count - length xs) (length xs) (xs ++ ys))
    ∙ ap (drop (count - length xs)) (drop_at xs ys (length xs) refl)

-- The bytes of the remaining calls are what remains of the bytes.
pub left_bytes : (count : ℕ) (calls : List (List ℕ)) → concat (calls_left count calls) ≡ drop count (concat calls)
left_bytes zero [] = refl
left_bytes (suc count) [] = refl
left_bytes count (call ∷ calls) = elim (cases_Bool (ltb count (length call))) [
  | inl e ↦ let lt = ltb-true count (length call) e in rw e (sym (drop-append-le count call (concat calls) (omega arith)))
  | inr e ↦
      let le = ltb-false count (length call) e in
      rw e (left_bytes (count - length call) calls ∙ sym (drop_past count call (concat calls) le))
]

-- Taking `m` bytes and then `n` more leaves what taking `m + n` bytes leaves.
pub calls_left_twice : (m n : ℕ) (calls : List (List ℕ)) → calls_left n (calls_left m calls) ≡ calls_left (m + n) calls
calls_left_twice m n [] = refl
calls_left_twice m n (call ∷ calls) = elim (cases_Bool (ltb m (length call))) [
  | inl e ↦
      let lt = ltb-true m (length call) e in
      let size = length-drop m call in
      elim (cases_Bool (ltb (m + n) (length call))) [
        | inl k ↦
            let more = ltb-true (m + n) (length call) k in
            rw (e, k, lt-ltb n (length (drop m call)) (omega arith)) (ap (λ (call : List ℕ). call ∷ calls) (drop-drop n m call))
        | inr k ↦
            let all = ltb-false (m + n) (length call) k in
            let rest : n - length (drop m call) ≡ m + n - length call = omega arith in
            rw (e, k, le-ltb n (length (drop m call)) (omega arith)) (ap (λ (n : ℕ). calls_left n calls) rest)
      ]
  | inr e ↦
      let le = ltb-false m (length call) e in
      let rest : m - length call + n ≡ m + n - length call = omega arith in
      rw (e, le-ltb (m + n) (length call) (omega arith))
      (calls_left_twice (m - length call) n calls ∙ ap (λ (n : ℕ). calls_left n calls) rest)
]

-- A call that is appended remains whole if no more bytes were taken than the others have.
pub calls_left_append : (count : ℕ) (calls : List (List ℕ)) (call : List ℕ) → 0 < length call → count ≤ length (concat calls)
    → calls_left count (calls ++ call ∷ []) ≡ calls_left count calls ++ call ∷ []
calls_left_append count [] call some h = rw (lt-ltb count (length call) (omega arith)) (
    let none : count ≡ 0 = omega arith in rw none refl
    )
calls_left_append count (first ∷ calls) call some h = elim (cases_Bool (ltb count (length first))) [
  | inl e ↦ rw e refl
  | inr e ↦
      let le = ltb-false count (length first) e in
      rw e (calls_left_append (count - length first) calls call some (omega (arith, length-append first (concat calls), le)))
]

-- ---- sizes

-- The bytes that were taken and those that remain are all bytes.
pub taken_and_left_are_all : (count : ℕ) (sizes : List ℕ) → count ≤ sum sizes → count + sum (left_in count sizes) ≡ sum sizes
taken_and_left_are_all count [] h = omega arith
taken_and_left_are_all count (size ∷ sizes) h = elim (cases_Bool (ltb count size)) [
  | inl e ↦ let lt = ltb-true count size e in rw e (omega (arith, sum_cons (size - count) sizes, sum_cons size sizes))
  | inr e ↦
      let le = ltb-false count size e in
      rw e (omega (arith, taken_and_left_are_all (count - size) sizes (omega (arith, sum_cons size sizes)), sum_cons size sizes))
]

pub left_sizes_bounded : (most count : ℕ) (sizes : List ℕ) → AllByRecursion (λ size. size ≤ most) sizes
    → AllByRecursion (λ size. size ≤ most) (left_in count sizes)
left_sizes_bounded most count [] h = tt
left_sizes_bounded most count (size ∷ sizes) h = elim (cases_Bool (ltb count size)) [
  | inl e ↦ rw e (omega (arith, h.0), h.1)
  | inr e ↦ rw e (left_sizes_bounded most (count - size) sizes h.1)
]

pub length_left : (count : ℕ) (sizes : List ℕ) → length (left_in count sizes) ≤ length sizes
length_left count [] = omega arith
length_left count (size ∷ sizes) = elim (cases_Bool (ltb count size)) [
  | inl e ↦ rw e (omega arith)
  | inr e ↦ rw e (omega (arith, length_left (count - size) sizes))
]

-- All calls together have at most the longest call's bytes for each of them.
pub sum_bounded : (sizes : List ℕ) → AllByRecursion (λ size. size ≤ longest_call) sizes → sum sizes ≤ longest_call * length sizes
sum_bounded [] h = omega arith
sum_bounded (size ∷ sizes) h = omega (arith, sum_cons size sizes, h.0, sum_bounded sizes h.1)
