-- One bit of the QUEStionable register's condition is the summary bit of the limit register. It is
-- what the general definition of a summary gives.
use Rattle.std.proofs.Common.{◌≡◌, ℕ, ◌<◌, ◌^◌, Bool, true, false, List, [], ◌∷◌, refl, ap, ◌∙◌, sym, arith, inl, inr, get_or}
use Rattle.std.specs.Prelude.{◌↔◌, ◌&&◌, ◌||◌, Some, None, unwrap_or, if◌then◌else◌}
use Rattle.std.specs.Int.{bit_at}
use Rattle.std.specs.List.{list_any, range_with_len}
use Rattle.std.proofs.lemmas.Bool.{cases_lt}
use Rattle.std.proofs.lemmas.List.Folds.{list_any_at}
use Rattle.std.proofs.lemmas.List.FromFn.{get_or-range_with_len}
use Rattle.std.proofs.lemmas.Nat.{mod_below}
use Rattle.std.proofs.lemmas.Nat.Bits.{bit_at_above}
use Rattle.sv_logs.specs.Since.{is_since}
use Rattle.sv_logs.proofs.Since.{both_true, either_true, is_since_is}
use Rattle.sv_status.specs.declared.register_name.RegisterName.{RegisterName}
use Rattle.sv_status.specs.Register.{without_top_bit}
use Rattle.sv_layers.specs.declared.change.RegisterChange.TheVariants.{Enable}
use Rattle.sv_layers.specs.declared.change.StatusChange.TheVariants.{Register}
use Rattle.sv_layers.specs.Act.{Act, Preset, StatusChanged}
use Rattle.sv_layers.specs.Filter.{is_same, enable, has_bit, passes, leaves}
use Rattle.sv_layers.specs.Condition.{word, summary, condition}
use Rattle.sv_layers.specs.Event.{EventStands, Summary}
use Rattle.sv_layers.proofs.EachRegister.{start_small}
use Rattle.sv_layers.proofs.Transitions.{has_bit_is_one}

some_passes_if_any : (ks : List ℕ) (is_such : ℕ → Bool) → list_any is_such ks ≡ true → (k : ℕ) × (is_such k ≡ true)
some_passes_if_any [] is_such e = absurd cc
some_passes_if_any (k ∷ ks) is_such e = elim ((either_true (is_such k) (list_any is_such ks)).0 e) [
  | inl here ↦ (k, here)
  | inr behind ↦ some_passes_if_any ks is_such behind
]

below_found : (k : ℕ) (is_such : ℕ → Bool) → k < 16 → is_such k ≡ true → list_any is_such (range_with_len 0 16) ≡ true
below_found k is_such lt e =
    let at : get_or (range_with_len 0 16) k 0 ≡ k = (let found = get_or-range_with_len 0 16 k 0 lt in omega (arith, found)) in
    list_any_at is_such (range_with_len 0 16) k 0 lt (ap is_such at ∙ e)

-- A mask is set without bit 15, so it fits in 16 bits.
set_mask_is_small : (b : Bool) (mask word : ℕ) → word < 2 ^ 16 → unwrap_or (if b then Some (without_top_bit mask) else None) word < 2 ^ 16
set_mask_is_small true mask word small = let below = mod_below mask (2 ^ 15) (omega arith) in omega (arith, below)
set_mask_is_small false mask word small = small

enable_small : (name : RegisterName) (log : List Act) → enable name log < 2 ^ 16
enable_small name [] = start_small name
enable_small name (StatusChanged (Register other (Enable mask)) ∷ log) =
    set_mask_is_small (is_same name other) mask (enable name log) (enable_small name log)
enable_small name (Preset ∷ log) = start_small name
enable_small name (_ ∷ log) = enable_small name log

enabled_below : (name : RegisterName) (log : List Act) (k : ℕ) → bit_at (enable name log) k ≡ 1 → k < 16
enabled_below name log k e = elim (cases_lt k 16) [
  | inl lt ↦ lt
  | inr le ↦ absurd (let none = bit_at_above (enable name log) 16 k (enable_small name log) le in omega (arith, none, e))
]

-- The word is the whole condition of the register. This holds for each register that has no nested
-- register.
abbrev pub IsOf : (List Act → ℕ) → RegisterName → Type 0
IsOf word name = (log : List Act) → word log ≡ condition name log

-- The word and the condition have the same transitions, so the same event bits are set.
same_passing : (word : List Act → ℕ) (name : RegisterName) → IsOf word name → (k : ℕ) (log : List Act)
    → passes word name k log ≡ passes (condition name) name k log
same_passing word name is k [] = refl
same_passing word name is k (act ∷ before) = rw (is before, is (act ∷ before)) refl

search_finds_event_bits : (word : List Act → ℕ) (name : RegisterName) → IsOf word name → (k : ℕ) (log : List Act)
    → (is_since (passes word name k) (leaves name) log ≡ true) ↔ EventStands name k log
search_finds_event_bits word name same k log =
    let is = is_since_is (passes word name k) (leaves name) log in (
      (λ e. let s = is.0 e in record {
        ago = s.ago;
        within = s.within;
        found = sym (same_passing word name same k _) ∙ s.found;
        kept = s.kept;
      }),
      (λ s. is.1 (record { ago = s.ago; within = s.within; found = same_passing word name same k _ ∙ s.found; kept = s.kept })),
    )

nested_summary_is : (word : List Act → ℕ) (name : RegisterName) → IsOf word name → (log : List Act)
    → (list_any (λ k. is_since (passes word name k) (leaves name) log && has_bit (enable name log) k) (range_with_len 0 16) ≡ true)
    ↔ Summary name log
nested_summary_is word name same log =
    let is_such : ℕ → Bool = λ k. is_since (passes word name k) (leaves name) log && has_bit (enable name log) k in (
      (λ e.
          let found = some_passes_if_any (range_with_len 0 16) is_such e in
          let both =
          (both_true (is_since (passes word name found.0) (leaves name) log) (has_bit (enable name log) found.0)).0 found.1 in
          (found.0, (search_finds_event_bits word name same found.0 log).0 both.0, (has_bit_is_one (enable name log) found.0).0 both.1)),
      (λ s. below_found s.0 is_such (enabled_below name log s.0 s.2)
          ((both_true (is_since (passes word name s.0) (leaves name) log) (has_bit (enable name log) s.0)).1
          ((search_finds_event_bits word name same s.0 log).1 s.1, (has_bit_is_one (enable name log) s.0).1 s.2))),
    )

pub summary_is : (name : RegisterName) → IsOf (word name) name → (log : List Act) → (summary name log ≡ true) ↔ Summary name log
summary_is name whole log = nested_summary_is (word name) name whole log

pub any_of_equal_tests : (ks : List ℕ) (p q : ℕ → Bool) → ((k : ℕ) → p k ≡ q k) → list_any p ks ≡ list_any q ks
any_of_equal_tests [] p q same = refl
any_of_equal_tests (k ∷ ks) p q same = ap (λ (b : Bool). b || list_any p ks) (same k)
    ∙ ap (λ (b : Bool). q k || b) (any_of_equal_tests ks p q same)
