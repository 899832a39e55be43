use Rattle.std.proofs.Common.{◌≡◌, List, refl}
use Rattle.sv_layers.specs.Act.{Act}
use Rattle.sv_status.specs.declared.register_name.RegisterName.{RegisterName}
use Rattle.sv_header.specs.declared.command.Question.{Question}
use Rattle.sv_header.specs.declared.command.Question.TheVariants.{StandardEvents, Error, Events}
use Rattle.sv_instrument.specs.CommandEffect.{after_query}
use Rattle.sv_instrument.proofs.Counting.{counts}
use Rattle.sv_instrument.proofs.queries.take.Goals as goal

pub returns-in-StandardEvents-clause-counts : goal.returns-in-StandardEvents-clause-counts
returns-in-StandardEvents-clause-counts g c = λ start log h. rw c.in-StandardEvents.is (counts c.apply.ensures.applied h)

pub returns-in-StandardEvents-clause-exchange : goal.returns-in-StandardEvents-clause-exchange
returns-in-StandardEvents-clause-exchange g c = c.apply.ensures.exchange

pub returns-in-Error-clause-counts : goal.returns-in-Error-clause-counts
returns-in-Error-clause-counts g c = λ start log h. rw c.in-Error.is (counts c.apply-in-Error.ensures.applied h)

pub returns-in-Error-clause-exchange : goal.returns-in-Error-clause-exchange
returns-in-Error-clause-exchange g c = c.apply-in-Error.ensures.exchange

pub returns-in-Events-clause-counts : goal.returns-in-Events-clause-counts
returns-in-Events-clause-counts g c = λ start log h. rw c.in-Events.is (counts c.apply-in-Events.ensures.applied h)

pub returns-in-Events-clause-exchange : goal.returns-in-Events-clause-exchange
returns-in-Events-clause-exchange g c = c.apply-in-Events.ensures.exchange

-- No other query removes an error or clears a register.
untaken : (asked : Question) (log : List Act) → (asked ≡ StandardEvents → ⊥) → (asked ≡ Error → ⊥)
    → ((name : RegisterName) → asked ≡ Events name → ⊥) → after_query asked log ≡ log
untaken StandardEvents log other _ _ = absurd (other refl)
untaken Error log _ other _ = absurd (other refl)
untaken (Events name) log _ _ other = absurd (other name refl)
untaken _ log _ _ _ = refl

pub returns-in_default : goal.returns-in_default
returns-in_default g c = record {
  counts = λ start log h. rw (untaken c.args.question log c.in_default.not-StandardEvents c.in_default.not-Error c.in_default.not-Events) h;
  exchange = refl;
}
