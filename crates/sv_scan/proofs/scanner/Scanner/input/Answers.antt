use Rattle.std.proofs.Common.{◌≡◌, ◌∙◌, ap, Bool, true, false, refl, sym, w64, to_z, of_z}
use Rattle.std.proofs.lemmas.Bool.{ne_eqb}
use Rattle.std.proofs.lemmas.Int.{to_z-of_z}
use Rattle.sv_scan.specs.declared.touched.Touched.{Touched}
use Rattle.sv_scan.specs.declared.acts.ScanAct.TheVariants.{Input}
use Rattle.sv_scan.specs.Counted.{effective}
use Rattle.sv_errors.specs.Limits.{is_channel}
use Rattle.sv_scan.proofs.Stands.{stands_for_counted, holds_input}
use Rattle.sv_scan.proofs.scanner.Scanner.input.Goals as goal

pub returns-then-is_channel-clause-stands : goal.returns-then-is_channel-clause-stands
returns-then-is_channel-clause-stands g c acts is =
    let same : to_z w64 (of_z w64 c.args.microvolts) ≡ c.args.microvolts = to_z-of_z w64 c.args.microvolts c.ranges.microvolts in
    let legal : is_channel c.args.channel ≡ true =
    ap is_channel (sym c.from.ensures) ∙ (sym c.is_channel.ensures ∙ c.if-is_channel.true) in
    rw (c.from-then-is_channel.ensures, same) (stands_for_counted _ (Input c.args.channel c.args.microvolts) acts legal
    (holds_input _ (effective acts) c.args.channel c.args.microvolts c.self.invariant.inputs legal (rw (← c.self.view_is) at is)))

pub returns-then-is_channel-clause-untouched : goal.returns-then-is_channel-clause-untouched
returns-then-is_channel-clause-untouched g c differs =
    let touched : Bool → Touched = λ limit. record { operation = false; questionable = false; limit = limit } in
    let legal : is_channel c.args.channel ≡ true =
    ap is_channel (sym c.from.ensures) ∙ (sym c.is_channel.ensures ∙ c.if-is_channel.true) in
    rw legal (ap touched (ne_eqb c.args.channel c.self.inside.settings.monitor (rw (← c.self.view_is) at differs)))

pub returns-else-is_channel-clause-untouched : goal.returns-else-is_channel-clause-untouched
returns-else-is_channel-clause-untouched g c differs =
    let missing : is_channel c.args.channel ≡ false =
    ap is_channel (sym c.from.ensures) ∙ (sym c.is_channel.ensures ∙ c.if-is_channel.false) in
    rw missing refl
