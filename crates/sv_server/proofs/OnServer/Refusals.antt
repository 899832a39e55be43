-- When a Refuse or an Input is refused, and what a Refuse does to the server.
use Rattle.std.proofs.Common.{◌≡◌, ◌≢◌, ℕ, ◌<◌, Bool, true, false, cond, List, [], ◌∷◌, ◌++◌, length, set, nat_lt, Option, Some, None, refl, sym, ap, ◌∙◌, subst}
use Rattle.std.specs.Prelude.{ℤ, not, is_none, Ok, Err}
use Rattle.sv_errors.specs.Limits.{is_channel}
use Rattle.sv_history.specs.declared.event.Config.{Config}
use Rattle.sv_history.specs.declared.event.Role.{Role}
use Rattle.sv_history.specs.declared.event.Did.TheVariants.{Done}
use Rattle.sv_history.specs.declared.event.Refused.{Refused}
use Rattle.sv_history.specs.declared.event.Refused.TheVariants.{NoMemory, NoRoom, NotRefusable, BadChannel, BadInput}
use Rattle.sv_history.specs.Event.{Refuse, Input}
use Rattle.sv_history.specs.Act.{Act, ConnAct, CallTaken, Replied, On, of}
use Rattle.sv_history.specs.Connection.{next_call, free, open_role}
use Rattle.sv_history.specs.CoreCall.{CoreCall}
use Rattle.sv_history.specs.Refusing.{refusable, refusable_call, refused_reply}
use Rattle.sv_history.specs.Request.{request_for}
use Rattle.sv_history.specs.History.{refuse_refusal, refuse_acts, is_shut, is_beyond}
use Rattle.sv_server.specs.Connection.Representation.{Connection}
use Rattle.sv_server.specs.Server.State.{State, Represents}
use Rattle.sv_server.specs.Server.Inside.Acting.{Acts, Refuses, IsInput}
use Rattle.sv_history.proofs.Projections.{of_own_act, of_other_act}
use Rattle.sv_history.specs.Limits.{longest_reply}
use Rattle.sv_server.proofs.OnServer.Taken.{taken_after_act}
use Rattle.sv_server.proofs.OnServer.Used.{unshut_used, used_after_act}
use Rattle.sv_server.proofs.OnServer.Logs.{acted, pending_call_is_busy}
use Rattle.sv_server.proofs.OnServer.Turning.{not_busy}

-- The next call of an open connection determines what a Refuse can answer.
pub refusable_is : (acts : List ConnAct) (role : Role) (found : Option (List ℕ)) → open_role acts ≡ Some role → next_call acts ≡ found
    → refusable acts ≡ refusable_call (request_for (Some role) found)
refusable_is acts role found opened next = ap (λ (r : Option Role). refusable_call (request_for r (next_call acts))) opened
    ∙ ap (λ (bytes : Option (List ℕ)). refusable_call (request_for (Some role) bytes)) next

-- A Refuse succeeds if there is a call that it can answer, and room for the reply.
pub refuse_allowed : (acts : List ConnAct) (call : CoreCall) → refusable acts ≡ Some call → nat_lt (free acts) longest_reply ≡ false
    → refuse_refusal acts ≡ None
refuse_allowed acts call e roomy = rw (e, roomy) refl

-- Out of memory is no reason to refuse a Refuse.
refuse_isnt_no_memory : (none short : Bool) → cond none (Some NotRefusable) (cond short (Some NoRoom) None) ≡ Some NoMemory → ⊥
refuse_isnt_no_memory true short e = absurd (let z : Some NotRefusable ≡ Some NoMemory = e in cc)
refuse_isnt_no_memory false true e = absurd (let z : Some NoRoom ≡ Some NoMemory = e in cc)
refuse_isnt_no_memory false false e = absurd (let z : None ≡ Some NoMemory = e in cc)

pub refuse_refused : (config : Config) (c : ℕ) (log : List Act) (r : Refused) (kept : Connection) (new : State)
    → is_shut c log ≡ false → Refuses (of c log) (Err r) kept → Acts config (Refuse c) log (Err r) new
refuse_refused config c log NoMemory kept new open_now why =
    absurd (refuse_isnt_no_memory (is_none (refusable (of c log))) (nat_lt (free (of c log)) longest_reply) why)
refuse_refused config c log _ kept new open_now why = λ channel_log tells. rw open_now why

-- A Refuse that isn't refused answers the next call of the connection.
pub refuse_done : (state : State) (config : Config) (log : List Act) (c : ℕ) (kept : Connection)
    → Represents state config log → length state.connections ≡ 16 → c < 16 → is_shut c log ≡ false → Refuses (of c log) (Ok tt) kept
    → Acts config (Refuse c) log (Ok Done) (record state { connections = set state.connections c kept })
refuse_done state config log c kept rep sixteen lt open_now (none, bytes, call, next, known, mine) =
    let answered = Replied (refused_reply call) in
    let mid : List Act = On c (CallTaken bytes) ∷ log in
    let others = λ (d : ℕ) (ne : d ≢ c). of_other_act c d answered mid ne ∙ of_other_act c d (CallTaken bytes) log ne in
    let here : of c (On c answered ∷ mid) ≡ answered ∷ CallTaken bytes ∷ of c log =
    of_own_act c answered mid ∙ ap (λ (l : List ConnAct). answered ∷ l) (of_own_act c (CallTaken bytes) log) in (
      λ channel_log tells. rw open_now none,
      refl,
      λ polled said. subst
          (λ (adds : List Act). Represents (record state { connections = set state.connections c kept }) config (adds ++ log))
          (sym (ap (λ (found : Option (List ℕ)). refuse_acts c found (refusable (of c log))) next ∙ ap (refuse_acts c (Some bytes)) known))
          (acted state config log (On c answered ∷ mid) c kept state.device rep sixteen lt (rw here mine) rep.device others
          (taken_after_act c log (On c answered ∷ mid) state.device.waiting others
          (λ other waits. absurd {0} (pending_call_is_busy (of c log) other waits (not_busy c log bytes next))) rep.taken)
          state.connections_used
          (used_after_act state.connections_used c log (On c answered ∷ mid) rep.connections_used (unshut_used c log open_now)
          (λ z. let e : answered ∷ CallTaken bytes ∷ of c log ≡ [] = sym here ∙ z in absurd cc) others)),
    )

-- An Input is refused for its channel or its voltage, and never for out of memory.
input_isnt_no_memory : (none far : Bool) → Some NoMemory ≡ cond none (Some BadChannel) (cond far (Some BadInput) None) → ⊥
input_isnt_no_memory true far e = absurd (let z : Some NoMemory ≡ Some BadChannel = e in cc)
input_isnt_no_memory false true e = absurd (let z : Some NoMemory ≡ Some BadInput = e in cc)
input_isnt_no_memory false false e = absurd (let z : Some NoMemory ≡ None = e in cc)

pub input_refused : (config : Config) (channel : ℕ) (microvolts : ℤ) (log : List Act) (r : Refused) (new : State)
    → IsInput channel microvolts (Err r) → Acts config (Input channel microvolts) log (Err r) new
input_refused config channel microvolts log NoMemory new why =
    absurd (input_isnt_no_memory (not (is_channel channel)) (is_beyond microvolts) why)
input_refused config channel microvolts log _ new why = λ channel_log tells. sym why
