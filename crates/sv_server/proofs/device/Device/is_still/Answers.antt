use Rattle.std.proofs.Common.{◌≡◌, ℕ, ◌+◌, Bool, true, false, Some, None, Option, List, refl, sym, subst}
use Rattle.std.specs.Prelude.{◌↔◌, not, is_some, option_map}
use Rattle.sv_links.specs.declared.waiting.Entry.{Entry}
use Rattle.sv_links.specs.Waiting.{WaitAct, IsExpired, IsOldest}
use Rattle.sv_history.specs.Act.{wait_acts, instrument_acts}
use Rattle.sv_server.proofs.device.Device.is_still.Goals as goal

unhurried : (clock : ℕ) (acts : List WaitAct) (found : Option Entry) (none : Bool) → is_some found ≡ not none
    → IsOldest acts (IsExpired clock acts) (option_map (λ entry. entry.conn) found) → (none ≡ true) ↔ ((c : ℕ) → IsExpired clock acts c → ⊥)
unhurried clock acts None true same oldest = ((λ e. oldest), (λ h. refl))
unhurried clock acts None false same oldest = absurd cc
unhurried clock acts (Some entry) true same oldest = absurd cc
unhurried clock acts (Some entry) false same oldest = ((λ e. absurd cc), (λ h. absurd (h entry.conn oldest.0)))

pub returns-then-not-is_scanning : goal.returns-then-not-is_scanning
returns-then-not-is_scanning g c = λ config acts old.
    let is = rw (← c.self.view_is) at old in
    let found = option_map (λ entry. entry.conn) c.expired.result in
    let oldest = subst (λ (last : ℕ). IsOldest (wait_acts acts) (IsExpired (c.self.inside.clock + last) (wait_acts acts)) found)
    c.from.ensures (c.expired.ensures.answer (wait_acts acts) is.4) in
    let same = subst (λ (clock : ℕ). IsOldest (wait_acts acts) (IsExpired (clock + c.args.ticks) (wait_acts acts)) found) is.3 oldest in
    let none = unhurried _ (wait_acts acts) c.expired.result _ c.is_none.ensures same in
    let idle = sym (c.if-not-is_scanning.ensures (instrument_acts acts) is.1) in
    ((λ e. (idle, none.0 e)), (λ still. none.1 still.1))
