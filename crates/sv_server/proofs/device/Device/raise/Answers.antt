use Rattle.std.proofs.Common.{◌≡◌, ℕ, true, refl, sym, subst, ◌∙◌, arith}
use Rattle.sv_links.specs.ChannelRepresentation.{AreChannels}
use Rattle.sv_history.proofs.Telling.{requests, requests_and_one_more}
use Rattle.sv_server.proofs.OnDevice.Raising.{Tolls, device_raised}
use Rattle.sv_server.proofs.device.Device.raise.Goals as goal

pub loop-init : goal.loop-init
loop-init g c = rw (← c.self.view_is) (record {
  tolls = λ channel_log are. are;
  enabled = refl;
  ready = λ d ready. ready;
  links = refl;
  waiting = refl;
  instrument = refl;
  config = refl;
  clock = refl;
})

pub loop-preserved : goal.loop-preserved
loop-preserved g c = record {
  tolls = λ channel_log are. subst (λ l. AreChannels c.raise.new.self l) (sym (requests_and_one_more c.loop.counter true channel_log))
      (c.raise.ensures.stands (requests c.loop.counter channel_log) (c.loop.invariant.tolls channel_log are));
  enabled = c.raise.ensures.enabled ∙ c.loop.invariant.enabled;
  ready = λ d ready. c.raise.ensures.ready d (c.loop.invariant.ready d ready);
  links = c.loop.invariant.links;
  waiting = c.loop.invariant.waiting;
  instrument = c.loop.invariant.instrument;
  config = c.loop.invariant.config;
  clock = c.loop.invariant.clock;
}

pub returns-clause-stands : goal.returns-clause-stands
returns-clause-stands g c = λ config acts adds done raised.
    let all : c.loop.counter ≡ c.args.raised = omega (arith, c.loop.auto.counter-end, c.loop-test.false) in
    rw (
      c.loop.invariant.links,
      c.loop.invariant.waiting,
      c.loop.invariant.instrument,
      c.loop.invariant.config,
      c.loop.invariant.clock,
    ) (device_raised c.args.self.now c.loop.self-inside.intr config acts adds c.args.raised done raised
    (subst (λ (n : ℕ). Tolls c.args.self.now.intr c.loop.self-inside.intr n) all c.loop.invariant.tolls) c.loop.invariant.enabled
    c.loop.invariant.ready)
