use Rattle.std.proofs.Common.{rules, eqb, Bool, List, sym, subst, ◌++◌, ◌∙◌}
use Rattle.std.specs.Prelude.{not, map}
use Rattle.std.proofs.lemmas.Fn.{filter_same}
use Rattle.sv_links.specs.declared.enabled.Enabled.{Enabled}
use Rattle.sv_links.specs.Channels.{SrqDisabled}
use Rattle.sv_links.specs.ChannelRepresentation.{Channels, AreChannels}
use Rattle.sv_links.proofs.Asking.{sorted_filter}
use Rattle.sv_links.proofs.Acts.{are_channels_without}
use Rattle.sv_links.proofs.intr.Intr.disable_connection.Goals as goal

pub invariant_of-self : goal.invariant_of-self
invariant_of-self g c =
    let p : Enabled → Bool = λ other. not (eqb other.conn c.args.conn) in
    let kept = filter_same _ p _ (λ x b f' k. search rules) _ _ c.retain.ensures.filtered in
    let items = c.self.inside.enabled.items in
    (search rules, search rules, search rules, rw kept (sorted_filter p items c.self.invariant.3))

pub returns-clause-enabled : goal.returns-clause-enabled
returns-clause-enabled g c =
    let p : Enabled → Bool = λ other. not (eqb other.conn c.args.conn) in
    rw (← c.self.view_is) (filter_same _ p _ (λ x b f' k. search rules) _ _ c.retain.ensures.filtered)

pub returns-clause-stands : goal.returns-clause-stands
returns-clause-stands g c lids acts is same =
    let p : Enabled → Bool = λ other. not (eqb other.conn c.args.conn) in
    let kept = filter_same _ p _ (λ x b f' k. search rules) _ _ c.retain.ensures.filtered in
    let now : Channels =
    record { enabled = c.self.inside.enabled.items; channels = c.self.inside.channels.items; opened = c.self.inside.opened } in
    subst (λ (links : List Enabled). AreChannels (record now { enabled = links }) (map SrqDisabled lids ++ acts))
    (rw (← c.self.view_is) at same ∙ sym kept) (are_channels_without now lids acts (rw (← c.self.view_is) at is))
