-- While no step of message exchange is due, quiet events send nothing on a connection that has no
-- suspended call.
use Rattle.std.proofs.Common.{◌≡◌, ◌≢◌, ℕ, List, [], ◌∷◌, ◌++◌, Option, Some, None, refl, sym, ap, subst, ◌∙◌, inl, inr}
use Rattle.std.specs.Prelude.{map, ◌==◌}
use Rattle.std.specs.List.{AllByRecursion}
use Rattle.std.proofs.lemmas.Bool.{cases_Bool}
use Rattle.sv_errors.specs.declared.code.Code.{Code}
use Rattle.sv_vxi.specs.declared.error_code.ErrorCode.{ErrorCode}
use Rattle.sv_links.specs.declared.waiting.Wait.{Wait}
use Rattle.sv_links.specs.Links.{LinkAct}
use Rattle.sv_links.specs.Waiting.{WaitAct, Left, waits}
use Rattle.sv_scan.specs.declared.setting.State.{State}
use Rattle.sv_scan.specs.declared.setting.State.TheVariants.{Scanning}
use Rattle.sv_exchange.specs.Exchange.{ExchangeAct, due, NothingDue}
use Rattle.sv_layers.specs.Act.{Act as InstrumentAct}
use Rattle.sv_instrument.specs.Stimulus.{where_scanning, or_nothing}
use Rattle.sv_history.specs.declared.event.Port.TheVariants.{Conn, Intr}
use Rattle.sv_history.specs.declared.event.Config.{Config}
use Rattle.sv_history.specs.Event.{PlainEvent, Open, Bytes, Took, Close, Input, External, Tick}
use Rattle.sv_history.specs.Act.{Act, ConnAct, DeviceAct, Opened, Piece, BytesTaken, Applied, Ticked, On, OnDevice, of, device_acts, wait_acts}
use Rattle.sv_history.specs.Connection.{pending_call}
use Rattle.sv_history.specs.CoreCall.{CoreCall}
use Rattle.sv_history.specs.Request.{core_call_in}
use Rattle.sv_history.specs.Effect.{acts_of}
use Rattle.sv_history.specs.Resuming.{failure_effect, late}
use Rattle.sv_history.specs.Settling.{IsNext}
use Rattle.sv_history.specs.History.{own_acts, IsLogOf}
use Rattle.sv_history.proofs.Projections.{of_device_acts, device_acts_append, of_others_effect, wait_acts_applied}
use Rattle.sv_laws.specs.Adding.{all_replies}
use Rattle.sv_laws.specs.QueryAlone.{IsQuiet}
use Rattle.sv_laws.proofs.OneLog.{one_log}
use Rattle.sv_laws.proofs.EveryLog.EachEvent.{settling_keeps}
use Rattle.sv_laws.proofs.Alone.Quiet.{Same, can_resume_unfolds, step_same, event_same}

-- Connection `c` has no suspended call, and `replies` are all bytes of the replies on it.
abbrev pub IdleWithReplies : ℕ → List ℕ → List Act → Type 0
IdleWithReplies c replies log = (waits c (wait_acts (device_acts log)) ≡ None) × (all_replies (of c log) ≡ replies)

-- The act is one of a connection, and isn't a reply.
abbrev IsSilent : ConnAct → Type 0
IsSilent act = (acts : List ConnAct) → all_replies (act ∷ acts) ≡ all_replies acts

silent_act_keeps_replies : (c d : ℕ) (act : ConnAct) (replies : List ℕ) (log : List Act) → IsSilent act → IdleWithReplies c replies log
    → IdleWithReplies c replies (On d act ∷ log)
silent_act_keeps_replies c d act replies log silent h = (
  h.0,
  elim (cases_Bool (d == c)) [
    | inl e ↦ rw e (silent (of c log) ∙ h.1)
    | inr e ↦ rw e h.1
  ],
)

instrument_keeps_replies : (c : ℕ) (adds : List InstrumentAct) (replies : List ℕ) (log : List Act) → IdleWithReplies c replies log
    → IdleWithReplies c replies (map OnDevice (map Applied adds) ++ log)
instrument_keeps_replies c adds replies log h = (
  ap (λ (l : List DeviceAct). waits c (wait_acts l)) (device_acts_append (map Applied adds) log)
      ∙ ap (waits c) (wait_acts_applied adds (device_acts log)) ∙ h.0,
  ap all_replies (of_device_acts c (map Applied adds) log) ∙ h.1,
)

leaving_keeps_none_waiting : (c d : ℕ) (acts : List WaitAct) → waits c acts ≡ None → waits c (Left d ∷ acts) ≡ None
leaving_keeps_none_waiting c d acts none = elim (cases_Bool (d == c)) [ inl e ↦ rw e refl | inr e ↦ rw e none ]

failing_call_leaves_queue : (error : ErrorCode) (d : ℕ) (call : Option CoreCall) (log : List Act)
    → wait_acts (device_acts (acts_of d (failure_effect error d call) ++ log)) ≡ Left d ∷ wait_acts (device_acts log)
failing_call_leaves_queue error d (Some call) log = refl
failing_call_leaves_queue error d None log = refl

timeout_keeps_replies : (c d : ℕ) (error : ErrorCode) (call : Option CoreCall) (wait : Wait) (replies : List ℕ) (log : List Act)
    → waits d (wait_acts (device_acts log)) ≡ Some wait → IdleWithReplies c replies log
    → IdleWithReplies c replies (acts_of d (failure_effect error d call) ++ log)
timeout_keeps_replies c d error call wait replies log for h =
    let other : c ≢ d = λ same. let z : None ≡ Some wait = sym h.0 ∙ ap (λ (n : ℕ). waits n (wait_acts (device_acts log))) same ∙ for in
    cc in (
      ap (waits c) (failing_call_leaves_queue error d call log) ∙ leaving_keeps_none_waiting c d (wait_acts (device_acts log)) h.0,
      ap all_replies (of_others_effect d c (failure_effect error d call) log other) ∙ h.1,
    )

module _ (config : Config) (acts : List ExchangeAct) (links : List LinkAct) (errors : List Code) (nothing : due acts ≡ NothingDue) (c : ℕ)
    (replies : List ℕ) where
  abbrev pub Both : List Act → Type 0
  Both log = Same acts links errors log × IdleWithReplies c replies log

  step_heard : (log new : List Act) → Both log → IsNext config log new → Both new
  step_heard log new (s, h) (inl (adds, such, is)) = (
    step_same config acts links errors nothing c log new s (inl (adds, such, is)),
    subst (IdleWithReplies c replies) (sym is) (instrument_keeps_replies c adds replies log h),
  )
  step_heard log new (s, h) (inr (none, inl (d, wait, polled, oldest, for, said, is))) = absurd (s.none d
      (subst (λ (T : Type 0). T) (can_resume_unfolds acts links log s.exchange s.linked s.held d) oldest.0))
  step_heard log new (s, h) (inr (none, inr (still, inl (adds, step, is)))) = (
    step_same config acts links errors nothing c log new s (inr (none, inr (still, inl (adds, step, is)))),
    subst (IdleWithReplies c replies) (sym is) (instrument_keeps_replies c adds replies log h),
  )
  step_heard log new (s, h) (inr (none, inr (still, inr (idle, (d, wait, oldest, for, is))))) = (
    step_same config acts links errors nothing c log new s (inr (none, inr (still, inr (idle, (d, wait, oldest, for, is))))),
    subst (IdleWithReplies c replies) (sym is)
        (timeout_keeps_replies c d (late wait) (core_call_in (pending_call (of d log))) wait replies log for h),
  )

  ticked_heard : (now : State) (log : List Act) → IdleWithReplies c replies log
      → IdleWithReplies c replies ((map OnDevice (map Applied (where_scanning now)) ++ OnDevice Ticked ∷ []) ++ log)
  ticked_heard Scanning log h = h
  ticked_heard _ log h = h

  triggered_heard : (fault : Option Code) (log : List Act) → IdleWithReplies c replies log
      → IdleWithReplies c replies (map OnDevice (map Applied (or_nothing fault)) ++ log)
  triggered_heard None log h = h
  triggered_heard (Some code) log h = h

  event_heard : (polled : ℕ) (event : PlainEvent) (log : List Act) → IsQuiet c event → IdleWithReplies c replies log
      → IdleWithReplies c replies (own_acts config polled event log ++ log)
  event_heard polled (Open d role) log quiet h = silent_act_keeps_replies c d (Opened role) replies log (λ acts. refl) h
  event_heard polled (Bytes d piece) log quiet h = silent_act_keeps_replies c d (Piece piece) replies log (λ acts. refl) h
  event_heard polled (Took (Conn d) count) log quiet h = silent_act_keeps_replies c d (BytesTaken count) replies log (λ acts. refl) h
  event_heard polled (Took (Intr d) count) log quiet h = h
  event_heard polled (Close (Intr d)) log quiet h = h
  event_heard polled (Input channel microvolts) log quiet h = h
  event_heard polled External log quiet h = triggered_heard _ log h
  event_heard polled Tick log quiet h = ticked_heard _ log h
  event_heard polled _ log quiet h = absurd quiet

  pub quiet_heard : (past events : List PlainEvent) (was log : List Act) → IsLogOf config past was → Both was
      → AllByRecursion (IsQuiet c) events → IsLogOf config (events ++ past) log → Both log
  quiet_heard past [] was log is_was both quiet is_log = subst Both (one_log config past was log is_was is_log) both
  quiet_heard past (event ∷ events) was log is_was both quiet
      (before, polled, channel_log, is_event, is_before, hears, free, said, settles) =
      let so = quiet_heard past events was before is_was both quiet.1 is_before in
      settling_keeps config Both step_heard settles.0 (own_acts config polled event before ++ before) log
      (event_same config acts links errors nothing c polled event before quiet.0 so.0, event_heard polled event before quiet.0 so.1)
      settles.1
