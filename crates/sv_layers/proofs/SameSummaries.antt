-- The summary bits of the status byte agree with the summaries that the log determines.
use Rattle.std.proofs.Common.{◌≡◌, ◌+◌, false, List, [], refl, ap, arith}
use Rattle.std.specs.Prelude.{◌↔◌}
use Rattle.std.proofs.lemmas.Nat.Bits.{bit_at-zero}
use Rattle.sv_errors.specs.declared.error_queue.QueueAct.{QueueAct}
use Rattle.sv_errors.specs.ErrorQueue.{entries}
use Rattle.sv_logs.proofs.Since.{iff_transitive}
use Rattle.sv_status.specs.declared.register_name.RegisterName.{RegisterName}
use Rattle.sv_status.specs.declared.register_name.RegisterName.TheVariants.{Operation, Questionable}
use Rattle.sv_status.specs.Register as register
use Rattle.sv_status.specs.StandardEvent as standard
use Rattle.sv_status.proofs.Registers.{event_none}
use Rattle.sv_status.proofs.Words.{same_enabled}
use Rattle.sv_scan.specs.Condition.{bit}
use Rattle.sv_exchange.specs.Exchange.{ExchangeAct, response, is_something}
use Rattle.sv_layers.specs.Act.{Act}
use Rattle.sv_layers.specs.Filter.{start}
use Rattle.sv_layers.specs.Event.{Summary}
use Rattle.sv_layers.specs.Standard.{Summary as StandardSummary}
use Rattle.sv_layers.specs.Inside.LayerLogs.{layer_logs, register_acts}
use Rattle.sv_layers.specs.Inside.Representation.{IsSummary}
use Rattle.sv_layers.specs.Laws.{SameSummaries}
use Rattle.sv_layers.proofs.Either.{either_congruent, both_congruent, iff_from_equal}
use Rattle.sv_layers.proofs.Bits.{bit_le, bit_of, top_bit}
use Rattle.sv_layers.proofs.Projected.{projected}
use Rattle.sv_layers.proofs.SameWords.{same_words}
use Rattle.sv_layers.proofs.SameEvents.{same_events}
use Rattle.sv_layers.proofs.SameStandard.{same_enable, same_standard_events}

-- The logs agree on whether some event bit is set and enabled.
pub same_summary : (name : RegisterName) (log : List Act)
    → register.Summary (start name) (register_acts name (layer_logs log)) ↔ Summary name log
same_summary name log = same_enabled _ _ (same_words name log).3 (λ k. same_events name k log)

same_standard_summary : (log : List Act) → standard.Summary (layer_logs log).standard ↔ StandardSummary log
same_standard_summary log = same_enabled _ _ (same_enable log) (λ k. same_standard_events k log)

pub same_summaries : SameSummaries
same_summaries word log is k =
    let available = is_something (response (layer_logs log).exchange) in
    let errors = is_something (entries (layer_logs log).errors) in
    let seven = bit_le 7 is.operates in
    let five = bit_le 5 is.happened in
    let four = bit_le 4 available in
    let three = bit_le 3 is.questioned in
    let two = bit_le 2 errors in
    let word_is = is.word_is in
    let same_word : word ≡ bit 7 is.operates + (bit 5 is.happened + (bit 4 available + (bit 3 is.questioned + bit 2 errors))) =
    omega arith in
    let exchange = ap (λ (acts : List ExchangeAct). is_something (response acts)) (projected log).0 in
    let queue = ap (λ (acts : List QueueAct). is_something (entries acts)) (projected log).1 in
    let operation = both_congruent (iff_transitive is.operation (same_summary Operation log)) in
    let standard = both_congruent (iff_transitive is.standard (same_standard_summary log)) in
    let questionable = both_congruent (iff_transitive is.questionable (same_summary Questionable log)) in
    rw same_word (either_congruent (top_bit 7 is.operates _ k (omega arith)) operation
    (either_congruent (top_bit 5 is.happened _ k (omega arith)) standard
    (either_congruent (top_bit 4 available _ k (omega arith)) (both_congruent (iff_from_equal available _ exchange))
    (either_congruent (top_bit 3 is.questioned _ k (omega arith)) questionable
    (iff_transitive (bit_of 2 errors k) (both_congruent (iff_from_equal errors _ queue)))))))

-- Before all acts no summary bit is set.
pub no_summary : IsSummary 0 (layer_logs [])
no_summary = record {
  operates = false;
  happened = false;
  questioned = false;
  operation = ((λ e. absurd cc), (λ s. absurd (event_none s.0 s.1)));
  standard = ((λ e. absurd cc), (λ s. absurd (let none = bit_at-zero s.0 in let one = s.2 in omega arith)));
  questionable = ((λ e. absurd cc), (λ s. absurd (event_none s.0 s.1)));
  word_is = refl;
}
