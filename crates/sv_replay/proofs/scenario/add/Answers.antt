-- The entry that is added is the one that the line describes.
use Rattle.std.proofs.Common.{length, inr, refl, sym, ◌∙◌}
use Rattle.std.proofs.lemmas.Bool.{eqb-false}
use Rattle.sv_replay.proofs.Entries.{later_entry_takes, unreadable_line_is_bad}
use Rattle.sv_replay.proofs.Scenarios.{nonzero_length_not_empty}
use Rattle.sv_replay.proofs.scenario.add.Goals as goal

pub returns-in_default : goal.returns-in_default
returns-in_default g c = (
  refl,
  unreadable_line_is_bad c.args.least c.args.line.now
      (nonzero_length_not_empty c.args.line.now (eqb-false (length c.args.line.now) 0 (sym c.if-is_empty.ensures)))
      (sym c.timely.ensures ∙ c.in_default.is),
)

pub returns-in-Ok : goal.returns-in-Ok
returns-in-Ok g c =
    inr (
      c.in-Some.entry,
      later_entry_takes c.args.least c.args.line.now c.in-Some.entry
          (sym c.in-Some.ensures),
      c.in-Ok.ensures.items,
      refl,
    )

pub returns-in-Err : goal.returns-in-Err
returns-in-Err g c = (c.in-Some.entry, later_entry_takes c.args.least c.args.line.now c.in-Some.entry (sym c.in-Some.ensures))
