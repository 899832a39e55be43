-- A log of the instrument determines at most one log of the status byte.
use Rattle.std.proofs.Common.{◌≡◌, ℕ, ◌+◌, Bool, List, [], ◌∷◌, sym, ap, ◌∙◌}
use Rattle.sv_errors.specs.ErrorQueue.{entries}
use Rattle.sv_status.specs.declared.status_byte.StatusAct.{StatusAct}
use Rattle.sv_status.specs.declared.status_byte.StatusAct.TheVariants.{Update}
use Rattle.sv_scan.specs.Condition.{bit}
use Rattle.sv_exchange.specs.Exchange.{response, is_something}
use Rattle.sv_layers.specs.Act.{Act}
use Rattle.sv_layers.specs.Inside.LayerLogs.{LayerLogs, layer_logs}
use Rattle.sv_layers.specs.Inside.Representation.{IsSummary, IsStatus, own_status}
use Rattle.sv_layers.proofs.Booleans.{same_bool}

-- The status byte with these summary bits.
abbrev summary_word : LayerLogs → Bool → Bool → Bool → ℕ
summary_word at operates happened questioned = bit 7 operates + bit 5 happened + bit 4 (is_something (response at.exchange))
    + bit 3 questioned + bit 2 (is_something (entries at.errors))

one_summary : (a b : ℕ) (at : LayerLogs) → IsSummary a at → IsSummary b at → a ≡ b
one_summary a b at s t =
    let operates = same_bool s.operates t.operates s.operation t.operation in
    let happened = same_bool s.happened t.happened s.standard t.standard in
    let questioned = same_bool s.questioned t.questioned s.questionable t.questionable in
    s.word_is ∙ ap (λ (b : Bool). summary_word at b s.happened s.questioned) operates
    ∙ ap (λ (b : Bool). summary_word at t.operates b s.questioned) happened
    ∙ ap (λ (b : Bool). summary_word at t.operates t.happened b) questioned ∙ sym t.word_is

pub one_status : (log : List Act) (a b : List StatusAct) → IsStatus log a → IsStatus log b → a ≡ b
one_status [] a b s t = s ∙ sym t
one_status (act ∷ log) a b (word, before, summary, is, made) (other, earlier, summed, are, so) =
    let words = one_summary word other (layer_logs (act ∷ log)) summary summed in
    let befores = one_status log before earlier is are in
    made ∙ ap (λ (w : ℕ). Update w (layer_logs (act ∷ log)).service ∷ own_status act before) words
    ∙ ap (λ (acts : List StatusAct). Update other (layer_logs (act ∷ log)).service ∷ own_status act acts) befores ∙ sym so
