-- device_abort (VXI-11 revision 1.0, section B.6): the suspended call on the link ends with error
-- 23.
use Rattle.std.specs.Prelude.{ℕ, List, Option, Some, None, is_some, ◌&&◌, if◌then◌else◌}
use Rattle.sv_vxi.specs.declared.error_code.ErrorCode.TheVariants.{NoError, InvalidLink}
use Rattle.sv_vxi.specs.Results.{Outcome, Plain}
use Rattle.sv_links.specs.Links.{owner, is_this}
use Rattle.sv_links.specs.Waiting.{waits, link}
use Rattle.sv_history.specs.Act.{DeviceAct, link_acts, wait_acts}

-- the connection that created a link; `None` if there is no such link
abbrev pub owner_of : Option ℕ → List DeviceAct → Option ℕ
owner_of (Some lid) acts = owner lid (link_acts acts)
owner_of None acts = None

-- the connection whose suspended call device_abort ends: connection `c`, if its suspended call
-- names link `lid`; else `None`
abbrev pub if_waiting : Option ℕ → Option ℕ → List DeviceAct → Option ℕ
if_waiting (Some c) (Some lid) acts =
    if is_some (waits c (wait_acts acts)) && is_this lid (link c (wait_acts acts)) then Some c else None
if_waiting _ _ acts = None

-- the result of device_abort: error 4 if the link that it names doesn't exist, else no error
abbrev pub abort_result : Option ℕ → List DeviceAct → Outcome
abort_result lid acts = Plain (if is_some (owner_of lid acts) then NoError else InvalidLink)
