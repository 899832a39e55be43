use Rattle.std.proofs.Common.{subst, ℕ, Bool, Option}
use Rattle.std.specs.Prelude.{option_map, not}
use Rattle.sv_links.specs.declared.waiting.Entry.{Entry}
use Rattle.sv_links.specs.Links.{holder}
use Rattle.sv_links.specs.Waiting.{IsAble, IsOldest}
use Rattle.sv_exchange.specs.Exchange.{has_ended}
use Rattle.sv_history.specs.Act.{wait_acts, link_acts, instrument_acts, exchange_acts}
use Rattle.sv_server.proofs.device.Device.oldest_able.Goals as goal

pub returns-clause-answer : goal.returns-clause-answer
returns-clause-answer g c = λ config acts old.
    let is = rw (← c.self.view_is) at old in
    let log = wait_acts acts in
    let found : Option ℕ = option_map (λ (entry : Entry). entry.conn) c.oldest_able.result in
    let locked = subst (λ (h : Option ℕ). IsOldest log (IsAble h c.can_write.result c.can_read.result log) found)
    (c.holder.ensures.answer (link_acts acts) is.0) (c.oldest_able.ensures.answer log is.4) in
    let writes = subst (λ (b : Bool). IsOldest log (IsAble (holder (link_acts acts)) b c.can_read.result log) found)
    (c.can_write.ensures.answer (instrument_acts acts) is.1) locked in
    subst (λ (b : Bool). IsOldest log (IsAble (holder (link_acts acts)) (not (has_ended (exchange_acts acts))) b log) found)
    (c.can_read.ensures.answer (instrument_acts acts) is.1) writes

pub returns-clause-entry : goal.returns-clause-entry
returns-clause-entry g c = λ config acts old. let is = rw (← c.self.view_is) at old in c.oldest_able.ensures.entry (wait_acts acts) is.4
