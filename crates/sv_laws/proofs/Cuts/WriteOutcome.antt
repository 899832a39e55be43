-- What a record that is a call of the core channel requests on any connection; and the three
-- outcomes of a write: it fails, it is suspended, or its bytes are accepted.
use Rattle.std.proofs.Common.{◌≡◌, ◌≢◌, ℕ, suc, Bool, false, eqb, List, [], ◌∷◌, length, Option, Some, None, refl, sym, ap, subst, ◌∙◌, inl, inr, ◌⊎◌, arith}
use Rattle.std.specs.Prelude.{not, pos, nat_lt, ◌==◌, Result, Ok, Err}
use Rattle.std.specs.Int.{bit_at}
use Rattle.std.proofs.lemmas.Bool.{cases_Bool, eqb-true}
use Rattle.sv_rpc.specs.declared.call.CallFault.{CallFault}
use Rattle.sv_rpc.specs.declared.call.CallFault.TheVariants.{BadHeader, Version}
use Rattle.sv_rpc.specs.declared.reply.Reply.TheVariants.{ProgUnavail}
use Rattle.sv_rpc.specs.Call.{PlainCall, call_at}
use Rattle.sv_vxi.specs.declared.error_code.ErrorCode.{ErrorCode}
use Rattle.sv_vxi.specs.declared.error_code.ErrorCode.TheVariants.{NoError, InvalidLink, ParameterError, IoTimeout, Locked as DeviceLocked}
use Rattle.sv_vxi.specs.ErrorCode.{error_number}
use Rattle.sv_vxi.specs.Arguments.{DeviceWrite, OnLink}
use Rattle.sv_vxi.specs.Results.{Size}
use Rattle.sv_links.specs.declared.waiting.Wait.{Wait}
use Rattle.sv_links.specs.declared.waiting.Wait.TheVariants.{Lock, Input as ForInput}
use Rattle.sv_links.specs.Links.{owner, is_of, holder, is_locked_out}
use Rattle.sv_links.specs.Waiting.{Entered, is_there}
use Rattle.sv_exchange.specs.Exchange.{Accepted, has_ended}
use Rattle.sv_exchange.specs.Limits.{max_message}
use Rattle.sv_layers.specs.Act.{Exchanged}
use Rattle.sv_instrument.specs.Step.{is_answerable}
use Rattle.sv_history.specs.declared.event.Config.{Config}
use Rattle.sv_history.specs.declared.event.Role.{Role}
use Rattle.sv_history.specs.declared.event.Role.TheVariants.{Core, Abort, Portmap}
use Rattle.sv_history.specs.Act.{DeviceAct, Applied, link_acts, instrument_acts, exchange_acts}
use Rattle.sv_history.specs.CallOutcome.{CallOutcome, answer_with, only, suspend_by}
use Rattle.sv_history.specs.CoreCall.{CoreCall}
use Rattle.sv_history.specs.Request.{Request, Decided, CoreRequest, program_of, request_of, core_call_of, core_call, request_for}
use Rattle.sv_history.proofs.Deciding.{header_reply, request_unless_decided, request_by_header}
use Rattle.sv_history.specs.CoreChannel.{device_write}
use Rattle.sv_history.specs.Admission.{stop_of, admission}
use Rattle.sv_history.specs.Resuming.{late}

-- ---- a call of the core channel on a connection of another program

abbrev pub IsCore : Request → CoreCall → Type 0
IsCore request call = (request ≡ CoreRequest call) ⊎ ((xid : ℕ) × (request ≡ Decided xid ProgUnavail))

core_is : (request : Request) (call : CoreCall) → core_call_of request ≡ Some call → IsCore request call
core_is (CoreRequest found) call is = let same : found ≡ call = cc in inl (ap (λ (f : CoreCall). CoreRequest f) same)
core_is _ call is = absurd cc

-- On a connection that serves another program, a call of the core channel gets PROG_UNAVAIL.
other_program_is_unavailable : (found : PlainCall) (call : CoreCall) (role : Role) → eqb (program_of Core).0 (program_of role).0 ≡ false
    → core_call_of (request_unless_decided Core found (header_reply Core found)) ≡ Some call
    → request_unless_decided role found (header_reply role found) ≡ Decided found.xid ProgUnavail
other_program_is_unavailable found call role apart is = elim (cases_Bool (found.prog == (program_of Core).0)) [
  | inl e ↦
      let same : found.prog ≡ (program_of Core).0 = eqb-true found.prog (program_of Core).0 e in
      let far : eqb found.prog (program_of role).0 ≡ false = ap (λ (n : ℕ). eqb n (program_of role).0) same ∙ apart in
      rw far refl
  | inr e ↦ absurd (let z : None ≡ Some call = rw e at is in cc)
]

core_in : (role : Role) (found : Result PlainCall CallFault) (call : CoreCall) → core_call_of (request_of Core found) ≡ Some call
    → IsCore (request_of role found) call
core_in Core found call is = core_is (request_of Core found) call is
core_in Abort (Ok found) call is =
    inr (
      found.xid,
      request_by_header Abort found ∙ other_program_is_unavailable found call Abort refl
          (ap core_call_of (sym (request_by_header Core found)) ∙ is),
    )
core_in Portmap (Ok found) call is =
    inr (
      found.xid,
      request_by_header Portmap found ∙ other_program_is_unavailable found call Portmap refl
          (ap core_call_of (sym (request_by_header Core found)) ∙ is),
    )
core_in _ (Err (Version xid)) call is = absurd cc
core_in _ (Err BadHeader) call is = absurd cc

pub core_call_on_any_role : (role : Option Role) (bytes : List ℕ) (request : Request) (call : CoreCall)
    → request_for role (Some bytes) ≡ Some request → core_call bytes ≡ Some call → IsCore request call
core_call_on_any_role None bytes request call asks is = absurd cc
core_call_on_any_role (Some role) bytes request call asks is =
    let same : request_of role (call_at bytes) ≡ request = cc in
    subst (λ (r : Request). IsCore r call) same (core_in role (call_at bytes) call is)

-- ---- the outcomes of a write

-- The write fails with an error; or it is suspended and can't resume yet; or its bytes are
-- accepted.
abbrev pub WriteCase : ℕ → ℕ → ℕ → List ℕ → List DeviceAct → CallOutcome → Type 0
WriteCase c lid flags bytes acts outcome =
    ((error : ErrorCode) × (error_number error ≢ 0) × (outcome ≡ only (Size error 0)))
    ⊎ (((wait : Wait) × (last : Option ℕ) × (error_number (late wait) ≢ 0)
    × (is_there (holder (link_acts acts)) (not (has_ended (exchange_acts acts))) (is_answerable (instrument_acts acts)) (Some lid)
    (Some wait) ≡ false)
    × (outcome ≡ suspend_by (Entered c (Some lid) wait last)))
    ⊎ ((has_ended (exchange_acts acts) ≡ false)
    × (outcome ≡ answer_with (Applied (Exchanged (Accepted bytes (bit_at flags 3 == 1))) ∷ []) (Size NoError (length bytes)))))

positive_is_an_error : (error : ErrorCode) (n : ℕ) → error_number error ≡ suc n → error_number error ≢ 0
positive_is_an_error error n is none = omega (arith, is, none)

pub accepts_write : (flags : ℕ) (bytes : List ℕ) (acts : List DeviceAct) → nat_lt max_message (length bytes) ≡ false
    → has_ended (exchange_acts acts) ≡ false → device_write flags bytes acts
    ≡ answer_with (Applied (Exchanged (Accepted bytes (bit_at flags 3 == 1))) ∷ []) (Size NoError (length bytes))
accepts_write flags bytes acts short free = rw (short, free) refl

pub write_case : (config : Config) (polled c lid io_timeout lock_timeout flags : ℕ) (bytes : List ℕ) (acts : List DeviceAct)
    → WriteCase c lid flags bytes acts (admission config polled c (OnLink (pos lid) (DeviceWrite io_timeout lock_timeout flags bytes))
    (stop_of c (OnLink (pos lid) (DeviceWrite io_timeout lock_timeout flags bytes)) acts) acts)
write_case config polled c lid io_timeout lock_timeout flags bytes acts = elim (cases_Bool (is_of c (owner lid (link_acts acts)))) [
  | inr e ↦ rw e (inl (InvalidLink, positive_is_an_error InvalidLink 3 refl, refl))
  | inl e ↦ elim (cases_Bool (nat_lt max_message (length bytes))) [
    | inl long ↦ rw (e, long) (inl (ParameterError, positive_is_an_error ParameterError 4 refl, refl))
    | inr short ↦ elim (cases_Bool (is_locked_out (holder (link_acts acts)) (Some lid))) [
      | inl out ↦ elim (cases_Bool (bit_at flags 0 == 1)) [
        | inl waiting ↦ rw (e, short, out, waiting)
            (inr (inl (Lock, _, positive_is_an_error DeviceLocked 10 refl, ap (λ (b : Bool). not b) out, refl)))
        | inr failing ↦ rw (e, short, out, failing) (inl (DeviceLocked, positive_is_an_error DeviceLocked 10 refl, refl))
      ]
      | inr held ↦ elim (cases_Bool (has_ended (exchange_acts acts))) [
        | inl ended ↦ rw (e, short, held, ended)
            (inr (inl (ForInput, _, positive_is_an_error IoTimeout 14 refl, ap (λ (b : Bool). not b) ended, refl)))
        | inr free ↦ rw (e, short, held, free) (inr (inr (refl, accepts_write flags bytes acts short free)))
      ]
    ]
  ]
]
