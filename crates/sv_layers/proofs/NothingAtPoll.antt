-- A serial poll sets no summary bit and raises no request for service; it ends a pending request.
use Rattle.std.proofs.Common.{◌≡◌, ℕ, Bool, true, List, [], ◌∷◌, ◌⊎◌, inl, inr, arith, refl, ap, sym, ◌∙◌}
use Rattle.std.specs.Prelude.{◌&&◌, ◌||◌}
use Rattle.std.specs.List.{range_with_len}
use Rattle.sv_logs.specs.Since.{is_since}
use Rattle.sv_logs.proofs.Since.{since_empty, since_step, since_same, since_not_kept}
use Rattle.sv_status.specs.declared.register_name.RegisterName.{RegisterName}
use Rattle.sv_status.specs.declared.register_name.RegisterName.TheVariants.{Operation, Questionable}
use Rattle.sv_layers.specs.Act.{Act, Polled}
use Rattle.sv_layers.specs.Filter.{rise, fall, enable, has_bit, passes, leaves}
use Rattle.sv_layers.specs.Condition.{word, summary, condition}
use Rattle.sv_layers.specs.Event.{Summary}
use Rattle.sv_layers.specs.Standard.{IsAsked, IsPending, Completes, Occurs, NotCleared as StandardNotCleared, Summary as StandardSummary}
use Rattle.sv_layers.specs.StatusByte.{ServiceRequested, IsRaised, Lasts, Reason, Request}
use Rattle.sv_layers.proofs.Transitions.{Passes, NotCleared, changes, unchanged_bit_passes_none}
use Rattle.sv_layers.proofs.EachRegister.{condition_same}
use Rattle.sv_layers.proofs.LimitSummary.{any_of_equal_tests}

-- A poll changes no condition. So no transition passes a filter, and the summaries stay.
poll_keeps_summary : (name : RegisterName) (log : List Act) → summary name (Polled ∷ log) ≡ summary name log
poll_keeps_summary name log = any_of_equal_tests (range_with_len 0 16) _ _ (λ k.
    ap (λ (b : Bool). (b || is_since (passes (word name) name k) (leaves name) log) && has_bit (enable name log) k)
    (unchanged_bit_passes_none (has_bit (word name log) k) (has_bit (rise name log) k) (has_bit (fall name log) k)))

same_condition : (name : RegisterName) (log : List Act) → condition name (Polled ∷ log) ≡ condition name log
same_condition name log = condition_same name (Polled ∷ log) log refl (λ below. poll_keeps_summary below log)

poll_passes_no_filter : (name : RegisterName) (k : ℕ) (log : List Act) → Passes name k (Polled ∷ log) → ⊥
poll_passes_no_filter name k log passed =
    let told : changes k (condition name log) (condition name log) (rise name log) (fall name log) ≡ true =
    ap (λ (w : ℕ). changes k (condition name log) w (rise name log) (fall name log)) (sym (same_condition name log)) ∙ passed in
    absurd (
    let none = sym (unchanged_bit_passes_none (has_bit (condition name log) k) (has_bit (rise name log) k) (has_bit (fall name log) k))
    ∙ told in
    cc
    )

polled_summary : (name : RegisterName) (log : List Act) → Summary name (Polled ∷ log) → Summary name log
polled_summary name log s =
    (s.0, (since_same (Passes name s.0) (NotCleared name) Polled log refl (poll_passes_no_filter name s.0 log)).0 s.1, s.2)

-- A poll completes no `*OPC`: one is pending only during a measurement, which a poll doesn't end.
no_completion : (log : List Act) → Completes (Polled ∷ log) → ⊥
no_completion [] c = elim c.1 [ inl asked ↦ asked | inr waited ↦ ((since_empty IsAsked IsPending).0 waited.0).0 ]
no_completion (act ∷ log) c = elim c.1 [
  | inl asked ↦ asked
  | inr waited ↦ absurd (let pending = ((since_step IsAsked IsPending act log).0 waited.0).0.0 in let both = sym pending ∙ c.0 in cc)
]

polled_standard : (log : List Act) → StandardSummary (Polled ∷ log) → StandardSummary log
polled_standard log s = (s.0, (since_same (Occurs s.0) StandardNotCleared Polled log tt (λ occurs. no_completion log occurs.1)).0 s.1, s.2)

some_of_five : {A B C D E P Q R : Type 0} → (A → P) → (B → Q) → (D → R) → A ⊎ B ⊎ C ⊎ D ⊎ E → P ⊎ Q ⊎ C ⊎ R ⊎ E
some_of_five a b d h = grind (arith, a, b, d, h)

-- A summary bit that is set and enabled after a poll was set and enabled before it.
pub requested_before_poll : (k : ℕ) (log : List Act) → ServiceRequested k (Polled ∷ log) → ServiceRequested k log
requested_before_poll k log asks =
    let bit = some_of_five (λ h. (h.0, polled_summary Operation log h.1)) (λ h. (h.0, polled_standard log h.1))
    (λ h. (h.0, polled_summary Questionable log h.1)) asks.0 in
    (bit, asks.1)

pub poll_ends_request : (log : List Act) → Request (Polled ∷ log) → ⊥
poll_ends_request log = since_not_kept Reason Lasts Polled log (λ lasts. lasts)

pub poll_raises_none : (log : List Act) → IsRaised (Polled ∷ log) → ⊥
poll_raises_none log raised = poll_ends_request log raised.0
