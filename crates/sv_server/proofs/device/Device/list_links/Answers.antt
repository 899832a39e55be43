use Rattle.std.proofs.Common.{◌∙◌, refl, sym, arith}
use Rattle.sv_links.specs.Links.{live}
use Rattle.sv_history.specs.Act.{link_acts}
use Rattle.sv_server.proofs.OnShown.Lists.{one_more, all_found, past_end}
use Rattle.sv_server.proofs.OnShown.Links.{listed, next_is}
use Rattle.sv_server.proofs.device.Device.list_links.Goals as goal

pub loop-init : goal.loop-init
loop-init g c = record {
  count = rw c.clear.ensures refl;
  are = λ config acts old. c.clear.ensures;
  next = c.first_link-next.ensures;
}

pub returns-in-None : goal.returns-in-None
returns-in-None g c = λ config acts old.
    let links = live (link_acts acts) in
    all_found listed links c.loop.counter c.loop.found.items
    (past_end links c.loop.counter (sym (c.loop.invariant.next config acts old) ∙ c.in-None.is)) (c.loop.invariant.are config acts old)

pub loop-preserved : goal.loop-preserved
loop-preserved g c = record {
  count = omega (arith, c.push.ensures.len, c.loop.invariant.count);
  are = λ config acts old. one_more listed (live (link_acts acts)) c.loop.counter c.in-Some.link c.loop.found.items c.push.new.self.items
      (sym (c.loop.invariant.next config acts old) ∙ c.in-Some.is) c.push.ensures.items (c.loop.invariant.are config acts old);
  next = λ config acts old.
      let is = rw (← c.self.view_is) at old in
      c.after-next.ensures (link_acts acts) is.0 ∙ next_is (live (link_acts acts)) _ c.loop.counter c.in-Some.link is.0.rising
      (sym (c.loop.invariant.next config acts old) ∙ c.in-Some.is);
}

pub returns : goal.returns
returns g c = λ config acts old.
    let is = rw (← c.self.view_is) at old in
    all_found listed (live (link_acts acts)) c.loop.counter c.loop.found.items
    (omega (arith, is.5.0, c.loop-test.false)) (c.loop.invariant.are config acts old)
