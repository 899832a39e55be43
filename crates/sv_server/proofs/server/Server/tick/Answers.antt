use Rattle.std.proofs.Common.{sym, refl}
use Rattle.std.specs.Prelude.{map}
use Rattle.sv_history.specs.Act.{Applied, device_acts, instrument_acts}
use Rattle.sv_instrument.specs.Stimulus.{tick_acts}
use Rattle.sv_server.proofs.OnServer.Logs.{stands_after_tick}
use Rattle.sv_server.proofs.server.Server.tick.Goals as goal

pub returns-clause-acts : goal.returns-clause-acts
returns-clause-acts g c = λ config log rep.
    let state = rw (← c.self.view_is) at rep in (
      λ channel_log tells. rw (sym (c.if-is_at_end.ensures.answer config (device_acts log) state.device)) refl,
      refl,
      λ polled said. stands_after_tick _ config log c.tick.new.self (map Applied (tick_acts (instrument_acts (device_acts log)))) state
          (c.tick.ensures.stands config (device_acts log) state.device) c.tick.ensures.waiting,
    )
