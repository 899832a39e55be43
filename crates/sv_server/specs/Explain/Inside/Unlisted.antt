-- What is told of a server before its lists are filled.
use Rattle.std.specs.Prelude.{◌≡◌, List}
use Rattle.sv_links.specs.Links.{holder}
use Rattle.sv_layers.specs.Condition.{effective_acts}
use Rattle.sv_history.specs.Act.{Act, device_acts, link_acts, instrument_acts}
use Rattle.sv_explain.specs.declared.shown.Shown.{Shown}
use Rattle.sv_explain.specs.Shown.{settings_of, measurement_of, message_of, AreStatuses}

-- All but the lists is what the log gives.
pub record IsUnlisted (shown : Shown) (log : List Act) : Type 0 where
  pub lock : shown.links.lock ≡ holder (link_acts (device_acts log))
  pub settings : shown.scanner.settings ≡ settings_of (effective_acts (instrument_acts (device_acts log)))
  pub measurement : shown.scanner.measurement ≡ measurement_of (effective_acts (instrument_acts (device_acts log)))
  pub message : shown.exchange.message ≡ message_of (instrument_acts (device_acts log))
  pub statuses : AreStatuses shown.statuses (instrument_acts (device_acts log))
