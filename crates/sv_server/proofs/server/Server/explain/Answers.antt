use Rattle.std.proofs.Common.{refl}
use Rattle.sv_history.specs.Event.{plain}
use Rattle.sv_server.proofs.OnReplay.Explained.{still_tick_is_explained, explained_acted, explained_whole}
use Rattle.sv_server.proofs.server.Server.explain.Goals as goal

pub returns-then-is_still_tick : goal.returns-then-is_still_tick
returns-then-is_still_tick g c = λ config history s.
    let (text, after, replays, stands, put) = c.replay.ensures config history s in
    still_tick_is_explained config c.args.line history (plain c.args.event) _ _ _ s
    ((c.if-is_still_tick.ensures config s.log s.represents).0 refl) _ c.replay.new.self text after replays stands put

pub returns-then-failed : goal.returns-then-failed
returns-then-failed g c = λ config history s.
    let (acted, told) = c.tell_event-done.ensures.told config s.log s.represents in
    explained_acted config c.args.line history (plain c.args.event) _ _ _ _ _ s
    (λ still. let z = (c.if-is_still_tick.ensures config s.log s.represents).1 still in cc) c.tell_event-done.ensures.within acted _ told
    c.if-failed.true

pub returns : goal.returns
returns g c = λ config history s.
    let (acted, told) = c.tell_event-done.ensures.told config s.log s.represents in
    explained_whole config c.args.line history (plain c.args.event) _ _ _ _ _ s
    (λ still. let z = (c.if-is_still_tick.ensures config s.log s.represents).1 still in cc) c.tell_event-done.ensures.within acted _ told
    c.if-failed.false _ _ _ (c.print.ensures config history (plain c.args.event) s.log)
