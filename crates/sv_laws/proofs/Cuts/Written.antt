-- If a write was answered without an error, and the reply says that all its bytes were written,
-- then its bytes were accepted and nothing else was done.
use Rattle.std.proofs.Common.{◌≡◌, ◌≢◌, ℕ, zero, suc, Bool, true, false, List, [], ◌∷◌, ◌++◌, length, Option, Some, None, refl, sym, ap, subst, ◌∙◌, inl, inr, arith, eq-eqb}
use Rattle.std.specs.Prelude.{pos, ◌==◌, ◌↔◌, slice_index_or}
use Rattle.std.specs.Int.{bit_at}
use Rattle.std.proofs.lemmas.Bool.{ne_eqb}
use Rattle.std.proofs.lemmas.List.{length-append}
use Rattle.sv_rpc.specs.declared.reply.Reply.TheVariants.{ProgUnavail}
use Rattle.sv_vxi.specs.declared.error_code.ErrorCode.{ErrorCode}
use Rattle.sv_vxi.specs.declared.error_code.ErrorCode.TheVariants.{NoError}
use Rattle.sv_vxi.specs.ErrorCode.{error_number}
use Rattle.sv_vxi.specs.Arguments.{Arguments, DeviceWrite, OnLink}
use Rattle.sv_vxi.specs.Results.{Size}
use Rattle.sv_links.specs.declared.waiting.Wait.{Wait}
use Rattle.sv_links.specs.Waiting.{Left, waits}
use Rattle.sv_exchange.specs.Exchange.{has_ended}
use Rattle.sv_history.specs.declared.event.Config.{Config}
use Rattle.sv_history.specs.Act.{Act, ConnAct, CallTaken, Replied, Waited, On, OnDevice, of, device_acts, wait_acts, exchange_acts}
use Rattle.sv_history.specs.Connection.{next_call, open_role, pending_call}
use Rattle.sv_history.specs.CallOutcome.{CallOutcome}
use Rattle.sv_history.specs.CoreCall.{CoreCall}
use Rattle.sv_history.specs.Request.{Request, core_call, core_call_in, request_for}
use Rattle.sv_history.specs.Reply.{reply_record}
use Rattle.sv_history.specs.Effect.{result_reply, acts_of, call_effect}
use Rattle.sv_history.specs.Admission.{stop_of, admission}
use Rattle.sv_history.specs.Execution.{request_effect, aborts}
use Rattle.sv_history.specs.Resuming.{failure_effect, late}
use Rattle.sv_history.specs.PolledStatus.{IsPolled}
use Rattle.sv_history.specs.Settling.{SettlesIn, IsSettled}
use Rattle.sv_history.specs.History.{taken_acts}
use Rattle.sv_laws.specs.Cuts.{without_pieces}
use Rattle.sv_history.proofs.Projections.{of_own_act}
use Rattle.sv_laws.proofs.Cuts.SameDevice.{accepts}
use Rattle.sv_laws.proofs.Cuts.NoCallTaken.{steps_take_no_call, without_pieces_of_append}
use Rattle.sv_laws.proofs.Cuts.Fed.{Taking}
use Rattle.sv_laws.proofs.Cuts.WriteOutcome.{core_call_on_any_role, WriteCase, write_case}
use Rattle.sv_laws.proofs.Cuts.Suspended.{log_with_suspended, is_there_in, only_its_timeout_is_due}

-- ---- a reply without an error is no reply with an error, and no PROG_UNAVAIL

-- The last byte of the reply's accept status, and the last byte of the error that follows it.
abbrev status_in : List ℕ → ℕ
status_in bytes = slice_index_or bytes 27 0

abbrev error_in : List ℕ → ℕ
error_in bytes = slice_index_or bytes 31 0

error_read : (xid n : ℕ) (error : ErrorCode) → error_in (result_reply xid (Size error n)) ≡ error_number error
error_read xid n NoError = refl
error_read xid n _ = refl

same_reply_has_no_error : (xid other n m : ℕ) (error : ErrorCode) → result_reply other (Size error n) ≡ result_reply xid (Size NoError m)
    → error_number error ≡ 0
same_reply_has_no_error xid other n m error same = sym (error_read other n error) ∙ ap (λ (l : List ℕ). error_in l) same
    ∙ error_read xid m NoError

unavailable_read : (xid : ℕ) → status_in (reply_record xid ProgUnavail []) ≡ 1
unavailable_read xid = refl

success_read : (xid n : ℕ) → status_in (result_reply xid (Size NoError n)) ≡ 0
success_read xid n = refl

success_is_not_unavailable : (xid other n : ℕ) → reply_record other ProgUnavail [] ≡ result_reply xid (Size NoError n) → ⊥
success_is_not_unavailable xid other n same =
    let read : status_in (reply_record other ProgUnavail []) ≡ 0 = ap (λ (l : List ℕ). status_in l) same ∙ success_read xid n in
    let z : 1 ≡ 0 = sym (unavailable_read other) ∙ read in cc

-- ---- what was taken

-- The log after a write was taken, its bytes were accepted, and it was answered.
abbrev pub log_with_write : ℕ → List ℕ → List ℕ → List ℕ → Bool → List Act → List Act
log_with_write c call reply bytes ended base = On c (Replied reply) ∷ OnDevice (accepts bytes ended) ∷ On c (CallTaken call) ∷ base

-- In the log `base` a write of these bytes is taken, its bytes are accepted, and it is answered.
-- Then the steps that are due lead to `log`.
pub record Wrote (c : ℕ) (bytes : List ℕ) (ended : Bool) (config : Config) (base log : List Act) : Type 0 where
  pub call : List ℕ
  pub reply : List ℕ
  pub polled : ℕ
  pub steps : ℕ
  pub next : next_call (of c base) ≡ Some call
  pub said : IsPolled polled (device_acts base)
  pub free : has_ended (exchange_acts (device_acts base)) ≡ false
  pub settles : SettlesIn steps config (log_with_write c call reply bytes ended base) log

abbrev bare_acts : ℕ → List Act → List ConnAct
bare_acts c log = without_pieces (of c log)

-- The connection's acts end with a reply before the steps that are due, and with a reply after the
-- same acts afterwards. Then it is the same reply.
settling_keeps_reply : (c : ℕ) (steps : ℕ) (config : Config) (mid log : List Act) (told reply : List ℕ) (rest : List ConnAct)
    → SettlesIn steps config mid log → bare_acts c mid ≡ Replied told ∷ rest → bare_acts c log ≡ Replied reply ∷ rest → told ≡ reply
settling_keeps_reply c steps config mid log told reply rest settles was is =
    let adds = steps_take_no_call steps config mid log settles in
    by_size (without_pieces (of c adds.0))
    (sym (ap (λ (l : List ConnAct). without_pieces (of c adds.0) ++ l) was) ∙ sym (without_pieces_of_append c adds.0 mid)
    ∙ ap (λ (l : List Act). bare_acts c l) (sym adds.1) ∙ is)
  where
    by_size : (front : List ConnAct) → front ++ Replied told ∷ rest ≡ Replied reply ∷ rest → told ≡ reply
    by_size [] same = cc
    by_size (act ∷ front) same =
        let size = ap (λ (l : List ConnAct). length l) same in
        absurd (omega (arith, size, length-append front (Replied told ∷ rest)))

flag_is : (flags : ℕ) (ended : Bool) → (bit_at flags 3 ≡ 1) ↔ (ended ≡ true) → (bit_at flags 3 == 1) ≡ ended
flag_is flags true so = eq-eqb (bit_at flags 3) 1 (so.1 refl)
flag_is flags false so = ne_eqb (bit_at flags 3) 1 (λ e. let z : false ≡ true = so.0 e in cc)

module _ (c lid : ℕ) (bytes : List ℕ) (ended : Bool) (config : Config) (base log : List Act) (call : List ℕ)
    (xid io_timeout lock_timeout flags : ℕ)
    (is : core_call call ≡ Some (record { xid = xid; arguments = OnLink (pos lid) (DeviceWrite io_timeout lock_timeout flags bytes) }))
    (flag : (bit_at flags 3 ≡ 1) ↔ (ended ≡ true)) (settled : IsSettled config base)
    (none : waits c (wait_acts (device_acts base)) ≡ None)
    (acts : without_pieces (of c log)
    ≡ Replied (result_reply xid (Size NoError (length bytes))) ∷ CallTaken call ∷ without_pieces (of c base)) where
  abbrev arguments : Arguments
  arguments = OnLink (pos lid) (DeviceWrite io_timeout lock_timeout flags bytes)

  abbrev reply : List ℕ
  reply = result_reply xid (Size NoError (length bytes))

  -- If the call is answered at once, the answer is this reply.
  at_once : (told : List ℕ) (steps : ℕ) → SettlesIn steps config (On c (Replied told) ∷ On c (CallTaken call) ∷ base) log → told ≡ reply
  at_once told steps settles =
      let mid = On c (Replied told) ∷ On c (CallTaken call) ∷ base in
      settling_keeps_reply c steps config mid log told reply (CallTaken call ∷ bare_acts c base) settles
      (ap without_pieces (of_own_act c (Replied told) (On c (CallTaken call) ∷ base))
      ∙ ap (λ (l : List ConnAct). Replied told ∷ without_pieces l) (of_own_act c (CallTaken call) base)) acts

  -- The call isn't suspended: otherwise it would later be answered with an error.
  never_waits : (steps : ℕ) (wait : Wait) (last : Option ℕ) → error_number (late wait) ≢ 0 → is_there_in (Some lid) wait base ≡ false
      → SettlesIn steps config (log_with_suspended c call (Some lid) wait last base) log → ⊥
  never_waits zero wait last error there settles =
      let here : bare_acts c log ≡ CallTaken call ∷ bare_acts c base =
      ap (λ (l : List Act). bare_acts c l) settles.1 ∙ ap without_pieces (of_own_act c (CallTaken call) base) in
      let z : CallTaken call ∷ bare_acts c base ≡ Replied reply ∷ CallTaken call ∷ bare_acts c base = sym here ∙ acts in cc
  never_waits (suc steps) wait last error there (mid, next, more) =
      let now = log_with_suspended c call (Some lid) wait last base in
      let told = result_reply xid (Size (late wait) 0) in
      let mine : of c now ≡ CallTaken call ∷ of c base = of_own_act c (CallTaken call) base in
      let found : core_call_in (pending_call (of c now)) ≡ Some (record { xid = xid; arguments = arguments }) =
      ap (λ (l : List ConnAct). core_call_in (pending_call l)) mine ∙ is in
      let gave : mid ≡ On c (Replied told) ∷ OnDevice (Waited (Left c)) ∷ now =
      only_its_timeout_is_due config c call (Some lid) wait last base mid settled none there next
      ∙ ap (λ (o : Option CoreCall). acts_of c (failure_effect (late wait) c o) ++ now) found in
      let was : bare_acts c mid ≡ Replied told ∷ CallTaken call ∷ bare_acts c base =
      ap (λ (l : List Act). bare_acts c l) gave ∙ ap without_pieces (of_own_act c (Replied told) (OnDevice (Waited (Left c)) ∷ now))
      ∙ ap (λ (l : List ConnAct). Replied told ∷ without_pieces l) mine in
      error (same_reply_has_no_error xid xid 0 (length bytes) (late wait)
      (settling_keeps_reply c steps config mid log told reply (CallTaken call ∷ bare_acts c base) more was acts))

  abbrev after : CallOutcome → List Act
  after outcome = (acts_of c (call_effect xid outcome) ++ On c (CallTaken call) ∷ []) ++ base

  by_case : (polled steps : ℕ) (outcome : CallOutcome) → next_call (of c base) ≡ Some call → IsPolled polled (device_acts base)
      → SettlesIn steps config (after outcome) log → WriteCase c lid flags bytes (device_acts base) outcome
      → Wrote c bytes ended config base log
  by_case polled steps outcome next said settles (inl (error, some, so)) =
      let here = subst (λ (o : CallOutcome). SettlesIn steps config (after o) log) so settles in
      absurd (some (same_reply_has_no_error xid xid 0 (length bytes) error (at_once (result_reply xid (Size error 0)) steps here)))
  by_case polled steps outcome next said settles (inr (inl (wait, last, some, there, so))) =
      absurd (never_waits steps wait last some there (subst (λ (o : CallOutcome). SettlesIn steps config (after o) log) so settles))
  by_case polled steps outcome next said settles (inr (inr (free, so))) =
      let here = subst (λ (o : CallOutcome). SettlesIn steps config (after o) log) so settles in
      record {
        call = call;
        reply = reply;
        polled = polled;
        steps = steps;
        next = next;
        said = said;
        free = free;
        settles = subst (λ (b : Bool). SettlesIn steps config (log_with_write c call reply bytes b base) log) (flag_is flags ended flag)
            here;
      }

  -- On a connection that serves another program the call isn't answered with this reply either. So
  -- the write was accepted.
  pub written : Taking c config call base log → Wrote c bytes ended config base log
  written taking =
      let role = open_role (of c base) in
      let asks = ap (request_for role) (sym taking.next) ∙ taking.asks in
      elim (core_call_on_any_role role call taking.request (record { xid = xid; arguments = arguments }) asks is) [
        | inl core ↦ by_case taking.polled taking.steps
            (admission config taking.polled c arguments (stop_of c arguments (device_acts base)) (device_acts base)) taking.next taking.said
            (as_request taking core) (write_case config taking.polled c lid io_timeout lock_timeout flags bytes (device_acts base))
        | inr (other, decided) ↦ absurd (success_is_not_unavailable xid other (length bytes)
            (at_once (reply_record other ProgUnavail []) taking.steps (as_request taking decided)))
      ]
    where
      as_request : {request : Request} (taking : Taking c config call base log) → taking.request ≡ request
          → SettlesIn taking.steps config
          (taken_acts c call (request_effect config taking.polled c request (device_acts base)) (aborts request (device_acts base)) base
          ++ base) log
      as_request taking same = subst (λ (r : Request). SettlesIn taking.steps config
          (taken_acts c call (request_effect config taking.polled c r (device_acts base)) (aborts r (device_acts base)) base ++ base) log)
          same taking.settles
