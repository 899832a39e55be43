use Rattle.std.proofs.Common.{ℕ, List, ap, sym, subst, ◌∙◌}
use Rattle.std.specs.Prelude.{Some}
use Rattle.std.specs.List.{fold}
use Rattle.std.proofs.lemmas.List.{take_all}
use Rattle.sv_links.specs.declared.request.Peer.{Peer}
use Rattle.sv_links.specs.declared.enabled.Enabled.{Enabled}
use Rattle.sv_links.specs.Channels.{add_call, handles_of}
use Rattle.sv_links.specs.ChannelRepresentation.{Channel, IsQueued}
use Rattle.sv_links.proofs.Calling.{calls_after_links, link_adds_call, other_link_adds_none, open_peer_is}
use Rattle.sv_links.proofs.channel.Channel.request_each.Goals as goal
use Rattle.sv_links.proofs.channel.Channel.request_each.Goals.{then-link-conn, else-link-conn}

pub loop-link-preserved : goal.loop-link-preserved
loop-link-preserved g c =
    let peer = c.in-Open.peer in
    let conn = c.args.conn in
    let links = c.args.enabled.now in
    let i = c.loop-link.link-index in
    let link = c.link-item.result in
    let here = c.link-item.is in
    let before = c.loop-link.invariant in
    let within = c.loop-link-test.true in
    elim c.if-link-conn.branch [
      | then-link-conn w ↦ record {
        is_open = rw w.self-is (w.request.ensures.stage ∙ before.is_open);
        queued = λ count calls is.
            rw (w.self-is, ← link_adds_call peer count conn links i link calls within here w.if-link-conn.true, ← w.handle.ensures.same)
            (w.request.ensures.queued count (calls_after_links peer count conn links i calls) (before.queued count calls is));
      }
      | else-link-conn w ↦ record {
        is_open = rw w.self-is before.is_open;
        queued = λ count calls is.
            rw (w.self-is, ← other_link_adds_none peer count conn links i link calls within here w.if-link-conn.false)
            (before.queued count calls is);
      }
    ]

pub returns-clause-queued : goal.returns-clause-queued
returns-clause-queued g c count calls peer there is =
    let links = c.args.enabled.now in
    let i = c.loop-link.link-index in
    let stage = sym (ap (λ (kept : Channel). kept.stage) c.self.view_is) ∙ c.in-Open.is in
    let same = open_peer_is c.args.self.now.stage c.in-Open.peer peer stage there in
    let all = take_all i links c.loop-link-test.false in
    subst (λ (add_call : List (List ℕ)). IsQueued c.loop-link.self count add_call)
    (ap (λ (p : Peer). calls_after_links p count c.args.conn links i calls) (sym same)
    ∙ ap (λ (links : List Enabled). fold (add_call (Some peer) count) calls (handles_of c.args.conn links)) all)
    (c.loop-link.invariant.queued count calls is)
