use Rattle.std.proofs.Common.{◌≡◌, ◌+◌, ◌-◌, [], ◌∷◌, length, refl, ap, arith, ℕ, ◌≤◌}
use Rattle.std.proofs.lemmas.List.{length-append}
use Rattle.sv_links.specs.Limits.{longest_call}
use Rattle.sv_links.specs.Request.{request}
use Rattle.sv_links.specs.ChannelRepresentation.{Channel}
use Rattle.sv_links.proofs.Left.{sum_bounded}
use Rattle.sv_links.proofs.Requests.{request_is_short}
use Rattle.sv_links.proofs.Sent.{is_queued_sent, open≢closed}
use Rattle.sv_links.proofs.channel.Channel.request.Goals as goal
use Rattle.sv_rpc.proofs.Cuts.{sum_push}
use Rattle.sv_rpc.proofs.Steps.{all_push}

pub put_request-requires-clause-room : goal.put_request-requires-clause-room
put_request-requires-clause-room g c =
    let inside = c.self.inside in
    let is_open = rw (← c.self.view_is) at c.requires.open in
    omega (
      arith,
      c.self.invariant.0,
      sum_bounded inside.sizes.items c.self.invariant.1,
      c.self.invariant.3 (open≢closed inside.stage c.args.peer is_open),
      c.if-len-ge-MAX_CALLS.false,
      c.len.ensures.value,
      inside.bytes.ok.0,
    )

pub invariant_of-self : goal.invariant_of-self
invariant_of-self g c =
    let inside = c.self.inside in
    let sizes = inside.sizes.items in
    let size = c.len-2.result - c.len-before.result in
    let call = request (inside.made + 1) c.args.peer c.args.handle.now in
    let size_is : size ≡ length call = omega (
      arith,
      ap length c.put_request.ensures.sent,
      length-append inside.bytes.items call,
      c.len-2.ensures,
      c.len-before.ensures,
      inside.bytes.ok.0,
      c.put_request.new.out.ok.0,
    ) in
    let short = request_is_short (inside.made + 1) c.args.peer c.args.handle.now c.requires.short in (
      rw c.push.ensures.items (omega (
        arith,
        ap length c.put_request.ensures.sent,
        length-append inside.bytes.items call,
        sum_push sizes size,
        size_is,
        c.self.invariant.0,
      )),
      rw c.push.ensures.items (all_push (λ (n : ℕ). n ≤ longest_call) sizes size c.self.invariant.1 (omega (arith, size_is, short))),
      rw c.push.ensures.items (omega (arith, length-append sizes (size ∷ []), c.if-len-ge-MAX_CALLS.false, c.len.ensures.value)),
      λ there. omega (arith, c.put_request.ensures.capacity, c.self.invariant.3 there),
    )

pub returns-clause-queued : goal.returns-clause-queued
returns-clause-queued g c count calls is =
    let inside = c.self.inside in
    let old : Channel = record { stage = inside.stage; made = inside.made; sizes = inside.sizes.items; bytes = inside.bytes.items } in
    let new : Channel = record {
      stage = inside.stage;
      made = inside.made + 1;
      sizes = c.push.new.self.items;
      bytes = c.put_request.new.out.items;
    } in
    is_queued_sent old new c.args.peer c.args.handle.now count calls (c.len-2.result - c.len-before.result) refl c.push.ensures.items
    c.put_request.ensures.sent
    (omega (
      arith,
      ap length c.put_request.ensures.sent,
      length-append inside.bytes.items (request (inside.made + 1) c.args.peer c.args.handle.now),
      c.len-2.ensures,
      c.len-before.ensures,
      inside.bytes.ok.0,
      c.put_request.new.out.ok.0,
    )) (omega (arith, c.if-len-ge-MAX_CALLS.false, c.len.ensures.value)) (omega (arith, c.if-self.false))
    (rw (← c.self.view_is) at is)
