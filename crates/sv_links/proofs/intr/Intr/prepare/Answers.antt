use Rattle.std.proofs.Common.{◌≡◌, Result, Ok, Err, true, arith, ap, subst, ◌∙◌, rules}
use Rattle.std.specs.Prelude.{slice_index_or, OnOk, OnErr}
use Rattle.std.proofs.lemmas.Result.{on_ok_weaker}
use Rattle.sv_links.specs.ChannelRepresentation.{Channel, Channels, opened_for, is_prepared}
use Rattle.sv_links.proofs.Acts.{are_channels_kept, after_slice_set}
use Rattle.std.proofs.lemmas.Grind.{common_steps}
use Rattle.sv_links.proofs.intr.Intr.prepare.Goals as goal

-- The channel stays open or stays closed, whether memory is refused or not.
still_open : {A E : Type 0} (r : Result A E) (old new : Channel) → OnOk r (opened_for new.stage ≡ opened_for old.stage)
    → OnErr r (new ≡ old) → opened_for new.stage ≡ opened_for old.stage
still_open (Ok a) old new stage err = stage
still_open (Err e) old new stage err = ap (λ (kept : Channel). opened_for kept.stage) err

pub returns-clause-others : goal.returns-clause-others
returns-clause-others g c =
    let items = c.self.inside.channels.items in
    let i = c.from.result in
    let old = c.index_mut.result.now in
    on_ok_weaker c.prepare.result
    (λ stays k ready other.
    after_slice_set (λ kept. is_prepared kept.stage ≡ true) items i k c.prepare.new.self other
    (omega (arith, c.requires, c.from.ensures, c.self.invariant.0))
    (λ same. stays (ap (λ (kept : Channel). is_prepared kept.stage) c.index_mut.ensures.value
    ∙ (subst (λ k. (other : Channel) → is_prepared (slice_index_or items k other).stage ≡ true) same (rw (← c.self.view_is) at ready)) old))
    (λ apart. (rw (← c.self.view_is) at ready) other))
    c.prepare.ensures.stays

pub returns-clause-ready : goal.returns-clause-ready
returns-clause-ready g c = search rules

pub returns-clause-stands : goal.returns-clause-stands
returns-clause-stands g c acts is =
    let kept : Channels =
    record { enabled = c.self.inside.enabled.items; channels = c.self.inside.channels.items; opened = c.self.inside.opened } in
    are_channels_kept kept c.from.result c.index_mut.result.now c.prepare.new.self acts (omega (arith, c.requires, c.from.ensures))
    (omega (arith, c.requires, c.from.ensures, c.self.invariant.0)) c.index_mut.ensures.value
    (still_open c.prepare.result c.index_mut.result.now c.prepare.new.self c.prepare.ensures.open c.prepare.ensures.err)
    c.prepare.ensures.queued (rw (← c.self.view_is) at is)

pub returns-clause-enabled : goal.returns-clause-enabled
returns-clause-enabled g c = search rules

pub returns-clause-err : goal.returns-clause-err
returns-clause-err g c = grind (arith, common_steps)
