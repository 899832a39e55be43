-- How a suspended call goes on: it resumes; it ends because its peer was connected or couldn't be
-- connected; or it ends with an error.
use Rattle.std.specs.Prelude.{ℕ, Bool, List, [], ◌∷◌, ◌++◌, Option, Some, None}
use Rattle.sv_vxi.specs.declared.error_code.ErrorCode.{ErrorCode}
use Rattle.sv_vxi.specs.declared.error_code.ErrorCode.TheVariants.{IoTimeout}
use Rattle.sv_vxi.specs.declared.error_code.ErrorCode.TheVariants.{Locked as DeviceLocked}
use Rattle.sv_vxi.specs.Arguments.{Arguments, OnLink}
use Rattle.sv_links.specs.declared.waiting.Wait.{Wait}
use Rattle.sv_links.specs.declared.waiting.Wait.TheVariants.{Lock}
use Rattle.sv_links.specs.Waiting.{Again, Left}
use Rattle.sv_history.specs.declared.event.Config.{Config}
use Rattle.sv_history.specs.Act.{DeviceAct, Waited}
use Rattle.sv_history.specs.CallOutcome.{CallOutcome, only, suspend_by}
use Rattle.sv_history.specs.Effect.{Effect, call_effect}
use Rattle.sv_history.specs.CoreCall.{CoreCall, failure}
use Rattle.sv_history.specs.CoreChannel.{own_call}
use Rattle.sv_history.specs.Interrupts.{connect_outcome}
use Rattle.sv_history.specs.Admission.{device_wait, deadline}

-- this outcome of a suspended call, with one more act: the call leaves the queue of suspended calls
abbrev pub leaving : ℕ → CallOutcome → CallOutcome
leaving c outcome = record outcome { adds = outcome.adds ++ Waited (Left c) ∷ [] }

-- what a call waits for next, after it has waited for the lock, and the call's timeout in
-- milliseconds; `None` if the call needn't wait any more
abbrev pub next_wait : Wait → Arguments → List DeviceAct → Option (Wait × ℕ)
next_wait Lock (OnLink lid call) acts = device_wait call acts
next_wait _ arguments acts = None

-- the outcome of a call that resumes: the call is suspended again, or executed
abbrev pub resume_outcome : Config → ℕ → ℕ → Arguments → Option (Wait × ℕ) → List DeviceAct → CallOutcome
resume_outcome config polled c arguments (Some wait) acts = suspend_by (Again c wait.0 (deadline config (Some wait.1) acts))
resume_outcome config polled c arguments None acts = leaving c (own_call config polled c arguments (Waited (Left c) ∷ acts))

-- the effect of a suspended call: the function `does` gives the outcome for the call's arguments;
-- if there is no call of the core channel, the effect only ends the suspension
abbrev pub effect_of : ℕ → (Arguments → CallOutcome) → Option CoreCall → Effect
effect_of c does (Some call) = call_effect call.xid (does call.arguments)
effect_of c does None = record { own = []; adds = Waited (Left c) ∷ [] }

-- The effect of a call that resumes after this wait. The call is executed; or it is suspended
-- again, with a timeout that begins now, and keeps its place in the order of suspended calls. The
-- call's link and the lock aren't checked again.
abbrev pub resume_effect : Config → ℕ → ℕ → Wait → Option CoreCall → List DeviceAct → Effect
resume_effect config polled c wait call acts =
    effect_of c (λ arguments. resume_outcome config polled c arguments (next_wait wait arguments acts) acts) call

-- the effect of a suspended call that ends with this error
abbrev pub failure_effect : ErrorCode → ℕ → Option CoreCall → Effect
failure_effect error c call = effect_of c (λ arguments. leaving c (only (failure arguments error))) call

-- the effect of a suspended create_intr_chan after its peer was connected or couldn't be connected;
-- `ok` says which
abbrev pub connect_effect : ℕ → Bool → Option CoreCall → Effect
connect_effect c ok call = effect_of c (λ arguments. leaving c (connect_outcome c ok arguments)) call

-- the error of a suspended call that times out: 11 if it waited for the lock, else 15
abbrev pub late : Wait → ErrorCode
late Lock = DeviceLocked
late _ = IoTimeout
