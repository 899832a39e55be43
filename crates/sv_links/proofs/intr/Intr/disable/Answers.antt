use Rattle.std.proofs.Common.{rules, eqb, Bool}
use Rattle.std.specs.Prelude.{not}
use Rattle.std.proofs.lemmas.Fn.{filter_same}
use Rattle.sv_links.specs.declared.enabled.Enabled.{Enabled}
use Rattle.sv_links.proofs.Asking.{sorted_filter}
use Rattle.sv_links.proofs.Acts.{are_channels_disabled}
use Rattle.sv_links.proofs.intr.Intr.disable.Goals as goal

pub invariant_of-self : goal.invariant_of-self
invariant_of-self g c =
    let p : Enabled → Bool = λ other. not (eqb other.lid c.args.lid) in
    let kept = filter_same _ p _ (λ x b f' k. search rules) _ _ c.retain.ensures.filtered in
    let items = c.self.inside.enabled.items in
    (search rules, search rules, search rules, rw kept (sorted_filter p items c.self.invariant.3))

pub returns-clause-value : goal.returns-clause-value
returns-clause-value g c =
    let p : Enabled → Bool = λ other. not (eqb other.lid c.args.lid) in
    rw (← c.self.view_is) (filter_same _ p _ (λ x b f' k. search rules) _ _ c.retain.ensures.filtered)

pub returns-clause-stands : goal.returns-clause-stands
returns-clause-stands g c acts is =
    let p : Enabled → Bool = λ other. not (eqb other.lid c.args.lid) in
    let kept = filter_same _ p _ (λ x b f' k. search rules) _ _ c.retain.ensures.filtered in
    are_channels_disabled _ _ c.args.lid acts kept (rw (← c.self.view_is) at is)
