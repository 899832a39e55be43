-- `explain` shows the connections one after the other, and writes the lines of those that changed.
use Rattle.std.proofs.Common.{◌≡◌, ℕ, zero, suc, ◌+◌, ◌<◌, ◌≤◌, max, Bool, List, [], ◌∷◌, ◌++◌, length, map, Option, refl, sym, ap, subst, ◌∙◌, append-nil, arith, inl, inr, add-one}
use Rattle.std.specs.Prelude.{slice_index_or}
use Rattle.std.specs.List.{concat, range_with_len}
use Rattle.std.proofs.lemmas.Bool.{cases_eq, cases_lt}
use Rattle.std.proofs.lemmas.List.{get_or_past}
use Rattle.std.proofs.lemmas.List.Folds.{concat-append}
use Rattle.std.proofs.lemmas.List.FromFn.{map-range_with_len_more}
use Rattle.sv_print.specs.Printed.{Prints}
use Rattle.sv_print.proofs.Taking.{prints_then, prints_equal_text}
use Rattle.sv_history.specs.Act.{Act}
use Rattle.sv_explain.specs.declared.shown.ConnShown.{ConnShown}
use Rattle.sv_explain.specs.Shown.{IsConn, AreConns, never_opened}
use Rattle.sv_explain.specs.Changes.{conn_lines, conns_lines}
use Rattle.sv_server.specs.Explain.Inside.Conns.{IsPut}

-- ---- what is shown

-- What the list shows of a connection.
abbrev at : List ConnShown → ℕ → ConnShown
at conns c = slice_index_or conns c never_opened

-- One more connection is shown.
pub one_more_is_shown : (old new : List ConnShown) (n : ℕ) (one : ConnShown) (log : List Act) → IsPut n one old new
    → ((c : ℕ) → c < n → IsConn c (at old c) log) → IsConn n one log → (c : ℕ) → c < n + 1 → IsConn c (at new c) log
one_more_is_shown old new n one log put before here c below = elim (cases_eq c n) [
  | inl e ↦ rw e (rw put.0 here)
  | inr ne ↦ rw (put.1 c ne) (before c (omega (arith, ne, below)))
]

-- All connections are shown; those after the last were never opened.
pub all_are_shown : (conns : List ConnShown) (n : ℕ) (log : List Act) → length conns ≤ n → ((c : ℕ) → c < n → IsConn c (at conns c) log)
    → ((c : ℕ) → n ≤ c → c < 16 → IsConn c never_opened log) → AreConns conns log
all_are_shown conns n log le told never c lt = elim (cases_lt c n) [
  | inl below ↦ told c below
  | inr past ↦ rw (get_or_past conns c never_opened (omega (arith, le, past))) (never c past lt)
]

-- ---- the lines of the first connections

-- The texts of the numbers below `n`, joined.
abbrev upto : (ℕ → List ℕ) → ℕ → List ℕ
upto f n = concat (map f (range_with_len 0 n))

upto_more : (f : ℕ → List ℕ) (n : ℕ) → upto f (n + 1) ≡ upto f n ++ f n
upto_more f n = ap concat (map-range_with_len_more f 0 n n (omega arith)) ∙ concat-append (map f (range_with_len 0 n)) (f n ∷ [])
    ∙ ap (λ (l : List ℕ). upto f n ++ l) (append-nil (f n))

upto_same : (f g : ℕ → List ℕ) (n : ℕ) → ((c : ℕ) → c < n → f c ≡ g c) → upto f n ≡ upto g n
upto_same f g zero same = refl
upto_same f g (suc n) same =
    let step : n + 1 ≡ suc n = add-one n in
    subst (λ (k : ℕ). upto f k ≡ upto g k) step (upto_more f n
    ∙ ap (λ (l : List ℕ). l ++ f n) (upto_same f g n (λ c lt. same c (omega (arith, lt))))
    ∙ ap (λ (l : List ℕ). upto g n ++ l) (same n (omega arith)) ∙ sym (upto_more g n))

upto_quiet : (f : ℕ → List ℕ) (n m : ℕ) → n ≤ m → ((c : ℕ) → n ≤ c → f c ≡ []) → upto f m ≡ upto f n
upto_quiet f n zero le quiet = let least : 0 ≡ n = omega (arith, le) in ap (λ (k : ℕ). upto f k) least
upto_quiet f n (suc m) le quiet =
    let step : m + 1 ≡ suc m = add-one m in
    elim (cases_lt m n) [
      | inl lt ↦ let last : suc m ≡ n = omega (arith, le, lt) in ap (λ (k : ℕ). upto f k) last
      | inr past ↦ subst (λ (k : ℕ). upto f k ≡ upto f n) step (upto_more f m
          ∙ ap (λ (l : List ℕ). upto f m ++ l) (quiet m past) ∙ append-nil (upto f m) ∙ upto_quiet f n m past quiet)
    ]

-- The lines of connection `c`.
abbrev lines_at : List ConnShown → List ConnShown → ℕ → List ℕ
lines_at old new c = conn_lines c (at old c) (at new c)

-- The lines of the connections below `n` are written. The list `now` shows these connections as
-- they are, and the others as `old` shows them.
pub record Written (old now : List ConnShown) (n : ℕ) (first last : Option (List ℕ)) (f g : Bool) : Type 0 where
  pub reached : n ≤ length now
  pub rest : (c : ℕ) → n ≤ c → at now c ≡ at old c
  pub lines : Prints first f last g (upto (lines_at old now) n)

pub written_none : (old : List ConnShown) (first : Option (List ℕ)) (f : Bool) → Prints first f first f []
    → Written old old 0 first first f f
written_none old first f none = record { reached = omega arith; rest = λ c le. refl; lines = none }

-- The lines of one more connection are written.
pub written_more : (old now new : List ConnShown) (n : ℕ) (one : ConnShown) (first mid last : Option (List ℕ)) (f g h : Bool)
    → Written old now n first mid f g → IsPut n one now new → Prints mid g last h (conn_lines n (at now n) one)
    → Written old new (n + 1) first last f h
written_more old now new n one first mid last f g h was put line = record {
  reached = omega (arith, put.2, was.reached, max_reaches (length now) n);
  rest = λ c le. put.1 c (λ e. absurd (omega (arith, e, le))) ∙ was.rest c (omega (arith, le));
  lines = prints_equal_text first last f h _ _ (sym (upto_more (lines_at old new) n)) (prints_then first mid last f g h _ _
      (prints_equal_text first mid f g _ _ (upto_same (lines_at old now) (lines_at old new) n
      (λ c lt. ap (λ (x : ConnShown). conn_lines c (at old c) x) (sym (put.1 c (λ e. absurd (omega (arith, e, lt))))))) was.lines)
      (prints_equal_text mid last g h _ _ (ap (λ (x : ConnShown). conn_lines n x one) (was.rest n (omega arith))
      ∙ ap (λ (x : ConnShown). conn_lines n (at old n) x) (sym put.0)) line));
}
  where
    max_reaches : (a n : ℕ) → n + 1 ≤ max a (n + 1)
    max_reaches a n = grind arith

never_quiet : (c : ℕ) → conn_lines c never_opened never_opened ≡ []
never_quiet c = refl

-- The lines of all connections are written.
pub written_all : (old now : List ConnShown) (n : ℕ) (first last : Option (List ℕ)) (f g : Bool) → Written old now n first last f g
    → length old ≤ n → length now ≤ n → n ≤ 16 → Prints first f last g (conns_lines old now)
written_all old now n first last f g was old_le now_le le =
    let quiet : (c : ℕ) → n ≤ c → lines_at old now c ≡ [] =
    λ c past. rw (
      get_or_past old c never_opened (omega (arith, old_le, past)),
      get_or_past now c never_opened (omega (arith, now_le, past)),
    ) (never_quiet c) in
    prints_equal_text first last f g _ _ (sym (upto_quiet (lines_at old now) n 16 le quiet)) was.lines

-- Setting an entry below `m` keeps a list within `m` entries.
pub put_bounded : (m n : ℕ) (one : ConnShown) (old new : List ConnShown) → IsPut n one old new → length old ≤ m → n < m → length new ≤ m
put_bounded m n one old new put le lt = put_within (length old) (length new) put.2 le lt
  where
    put_within : (a b : ℕ) → b ≡ max a (n + 1) → a ≤ m → n < m → b ≤ m
    put_within a b e le lt = grind arith
