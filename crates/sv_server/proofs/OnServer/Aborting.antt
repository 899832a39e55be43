-- A device_abort that ends a suspended call adds no act of the device by itself, and this call was
-- suspended.
use Rattle.std.proofs.Common.{◌≡◌, ℕ, ◌&&◌, Bool, true, false, List, [], Option, Some, None, refl, sym, ap, ◌∙◌}
use Rattle.std.specs.Prelude.{is_some}
use Rattle.sv_links.specs.Links.{is_this}
use Rattle.sv_links.specs.Waiting.{waits, link}
use Rattle.sv_history.specs.declared.event.Config.{Config}
use Rattle.sv_history.specs.Act.{DeviceAct, wait_acts}
use Rattle.sv_history.specs.CoreCall.{lid_of}
use Rattle.sv_history.specs.Request.{Request, AbortRequest}
use Rattle.sv_history.specs.AbortChannel.{owner_of, if_waiting}
use Rattle.sv_history.specs.Execution.{request_effect, aborts}
use Rattle.std.proofs.lemmas.Option.{cond_some}

some_waits : (b : Bool) (lid : ℕ) (named : Option ℕ) → (b && is_this lid named) ≡ true → b ≡ true
some_waits true lid named e = refl
some_waits false lid named e = absurd cc

waiting_with : (c lid : ℕ) (acts : List DeviceAct) → (is_some (waits c (wait_acts acts)) && is_this lid (link c (wait_acts acts))) ≡ true
    → waits c (wait_acts acts) ≡ None → ⊥
waiting_with c lid acts e none =
    let some = some_waits (is_some (waits c (wait_acts acts))) lid (link c (wait_acts acts)) e in
    let z : false ≡ true = sym (ap is_some none) ∙ some in cc

where_aborted : (owner lid : Option ℕ) (acts : List DeviceAct) (d : ℕ) → if_waiting owner lid acts ≡ Some d
    → waits d (wait_acts acts) ≡ None → ⊥
where_aborted None lid acts d e none = cc
where_aborted (Some c) None acts d e none = cc
where_aborted (Some c) (Some lid) acts d e none =
    let (so, same) = cond_some (is_some (waits c (wait_acts acts)) && is_this lid (link c (wait_acts acts))) c d e in
    waiting_with c lid acts so (ap (λ (n : ℕ). waits n (wait_acts acts)) same ∙ none)

pub request_aborts : (config : Config) (polled c : ℕ) (request : Request) (acts : List DeviceAct) (d : ℕ) → aborts request acts ≡ Some d
    → ((request_effect config polled c request acts).adds ≡ []) × (waits d (wait_acts acts) ≡ None → ⊥)
request_aborts config polled c (AbortRequest xid lid) acts d e =
    (refl, where_aborted (owner_of (lid_of (Some lid)) acts) (lid_of (Some lid)) acts d e)
request_aborts config polled c _ acts d e = absurd (let z : None ≡ Some d = e in cc)
