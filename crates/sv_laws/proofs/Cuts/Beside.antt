-- Two logs: in one a write was accepted whole, in the other it was accepted in two parts. Apart
-- from that they are the same, and the same steps keep them so.
use Rattle.std.proofs.Common.{◌≡◌, ◌≢◌, ℕ, Bool, false, List, ◌∷◌, ◌++◌, None, sym, ap, subst, ◌∙◌, inl, inr}
use Rattle.std.proofs.lemmas.Bool.{cases_eq}
use Rattle.sv_errors.specs.declared.code.Code.TheVariants.{InputBufferOverrun}
use Rattle.sv_exchange.specs.Exchange.{Overran}
use Rattle.sv_layers.specs.Act.{Act as InstrumentAct, Exchanged, Reported, exchange_acts as exchanged}
use Rattle.sv_history.specs.Act.{Act, ConnAct, DeviceAct, CallTaken, Replied, Applied, On, OnDevice, of, device_acts, instrument_acts}
use Rattle.sv_history.specs.Connection.{pending_call}
use Rattle.sv_history.proofs.Projections.{of_own_act, of_other_act, of_append}
use Rattle.sv_laws.proofs.Cuts.SameExchange.{cut_write_has_same_text}
use Rattle.sv_laws.proofs.Cuts.SameStatus.{SameStatus, same_status_refl, act_keeps_same_status, text_keeps_same_status, same_status_sym}
use Rattle.sv_laws.proofs.Cuts.SameDevice.{Tells, tells_happened, accepts, tells_accepted, tells_also}
use Rattle.sv_laws.proofs.Cuts.SharedEvents.{acts_keep_same_calls}
use Rattle.sv_laws.proofs.Cuts.SharedLogs.{SameShared, acts_keep_same_shared}
use Rattle.sv_laws.proofs.Facts.{relation_of_equals}
use Rattle.sv_laws.proofs.Cuts.KeptLogs.{IsKept}
use Rattle.sv_laws.proofs.Cuts.BytesBehind.{AddsOnlyPieces, pieces_leave_device, pieces_leave_others, pieces_leave_pending_call}
use Rattle.sv_laws.proofs.Cuts.Written.{log_with_write}

-- ---- the acts of the device

-- Both logs give the same status, and lead to the same logs of the interrupt channels.
record SameTold (acts other : List DeviceAct) : Type 0 where
  status : SameStatus (instrument_acts acts) (instrument_acts other)
  tells : Tells acts other
  back : Tells other acts

same_told_refl : (acts : List DeviceAct) → SameTold acts acts
same_told_refl acts = record { status = same_status_refl (instrument_acts acts); tells = λ channel_log h. h; back = λ channel_log h. h }

same_told_sym : (acts other : List DeviceAct) → SameTold acts other → SameTold other acts
same_told_sym acts other v = assumption (same_status_sym (instrument_acts acts) (instrument_acts other) v.status)

write_keeps_same_told : (bytes : List ℕ) (ended : Bool) (acts other : List DeviceAct) → SameTold acts other
    → SameTold (accepts bytes ended ∷ acts) other
write_keeps_same_told bytes ended acts other v = record {
  status = text_keeps_same_status bytes ended (instrument_acts acts) (instrument_acts other) v.status;
  tells = λ channel_log h. v.tells channel_log (tells_accepted bytes ended acts channel_log h);
  back = λ channel_log h. tells_also bytes ended acts channel_log (v.back channel_log h);
}

act_keeps_same_told : (act : InstrumentAct) (acts other : List DeviceAct) → SameTold acts other
    → SameTold (Applied act ∷ acts) (Applied act ∷ other)
act_keeps_same_told act acts other v = record {
  status = act_keeps_same_status act (instrument_acts acts) (instrument_acts other) v.status;
  tells = tells_happened act acts other v.status v.tells;
  back = tells_happened act other acts (same_status_sym (instrument_acts acts) (instrument_acts other) v.status) v.back;
}

-- Accepting a write whole and accepting it in two parts lead to the same state of the device.
pub parts_shared : (x y : List ℕ) (ended : Bool) (acts : List DeviceAct)
    → SameShared (accepts (x ++ y) ended ∷ acts) (accepts y ended ∷ accepts x false ∷ acts)
parts_shared x y ended acts =
    let parts = write_keeps_same_told y ended (accepts x false ∷ acts) acts (write_keeps_same_told x false acts acts (same_told_refl acts))
    in
    let v = write_keeps_same_told (x ++ y) ended acts (accepts y ended ∷ accepts x false ∷ acts)
    (same_told_sym (accepts y ended ∷ accepts x false ∷ acts) acts parts) in
    assumption (sym (cut_write_has_same_text x y ended (exchanged (instrument_acts acts))))

-- The acts after it was reported that the message is too long: after the first part of a write in
-- one log, after the whole write in the other.
abbrev pub reports : List DeviceAct → List DeviceAct
reports acts = Applied (Reported InputBufferOverrun) ∷ Applied (Exchanged Overran) ∷ acts

told_reports : (acts other : List DeviceAct) → SameTold acts other → SameTold (reports acts) (reports other)
told_reports acts other v = act_keeps_same_told (Reported InputBufferOverrun) (Applied (Exchanged Overran) ∷ acts)
    (Applied (Exchanged Overran) ∷ other) (act_keeps_same_told (Exchanged Overran) acts other v)

pub long_shared : (x y : List ℕ) (ended : Bool) (acts : List DeviceAct)
    → SameShared (reports (accepts (x ++ y) ended ∷ acts)) (accepts y ended ∷ reports (accepts x false ∷ acts))
long_shared x y ended acts =
    let whole = accepts (x ++ y) ended ∷ acts in
    let first = accepts x false ∷ acts in
    let both = write_keeps_same_told (x ++ y) ended acts first
    (same_told_sym first acts (write_keeps_same_told x false acts acts (same_told_refl acts))) in
    let behind = told_reports whole first both in
    let v = same_told_sym (accepts y ended ∷ reports first) (reports whole)
    (write_keeps_same_told y ended (reports first) (reports whole) (same_told_sym (reports whole) (reports first) behind)) in
    assumption (sym (cut_write_has_same_text x y ended (exchanged (instrument_acts acts))))

-- ---- two logs

-- The device's state and each connection's pending call are the same in both logs. All acts of
-- connections other than `c` are the same.
pub record Beside (c : ℕ) (log other : List Act) : Type 0 where
  pub shared : SameShared (device_acts log) (device_acts other)
  pub calls : (d : ℕ) → pending_call (of d log) ≡ pending_call (of d other)
  pub others : (d : ℕ) → d ≢ c → of d log ≡ of d other

beside_more : (c : ℕ) (adds log other : List Act) → Beside c log other → Beside c (adds ++ log) (adds ++ other)
beside_more c adds log other v = record {
  shared = acts_keep_same_shared adds log other v.shared;
  calls = acts_keep_same_calls adds log other v.calls;
  others = λ d ne. of_append d adds log ∙ ap (λ (l : List ConnAct). of d adds ++ l) (v.others d ne) ∙ sym (of_append d adds other);
}

pub beside_kept : (c : ℕ) → IsKept (Beside c)
beside_kept c = record {
  calls = λ log other v. record { device = v.shared.device; calls = v.calls };
  more = beside_more c;
}

-- ---- more bytes come on the connection

bytes_keep_pending_call : (c d : ℕ) (base log : List Act) → AddsOnlyPieces c base log → pending_call (of d log) ≡ pending_call (of d base)
bytes_keep_pending_call c d base log came = elim (cases_eq d c) [
  | inl e ↦ rw e (pieces_leave_pending_call c base log came)
  | inr ne ↦ ap pending_call (pieces_leave_others c d base log came ne)
]

pub bytes_keep_beside : (c : ℕ) (one two log other : List Act) → AddsOnlyPieces c one log → AddsOnlyPieces c two other → Beside c one two
    → Beside c log other
bytes_keep_beside c one two log other came also v = record {
  shared = relation_of_equals SameShared (device_acts one) (device_acts two) (device_acts log) (device_acts other)
      (pieces_leave_device c one log came)
      (pieces_leave_device c two other also) v.shared;
  calls = λ d. bytes_keep_pending_call c d one log came ∙ v.calls d ∙ sym (bytes_keep_pending_call c d two other also);
  others = λ d ne. pieces_leave_others c d one log came ne ∙ v.others d ne ∙ sym (pieces_leave_others c d two other also ne);
}

-- ---- after the writes were accepted

pub write_leaves_other_connections : (c d : ℕ) (call reply bytes : List ℕ) (ended : Bool) (base : List Act) → d ≢ c
    → of d (log_with_write c call reply bytes ended base) ≡ of d base
write_leaves_other_connections c d call reply bytes ended base ne =
    of_other_act c d (Replied reply) (OnDevice (accepts bytes ended) ∷ On c (CallTaken call) ∷ base) ne
    ∙ of_other_act c d (CallTaken call) base ne

answered_write_leaves_no_call : (c d : ℕ) (call reply bytes : List ℕ) (ended : Bool) (base : List Act) → d ≡ c
    → pending_call (of d (log_with_write c call reply bytes ended base)) ≡ None
answered_write_leaves_no_call c d call reply bytes ended base same =
    subst (λ (n : ℕ). pending_call (of n (log_with_write c call reply bytes ended base)) ≡ None) (sym same)
    (ap pending_call (of_own_act c (Replied reply) (OnDevice (accepts bytes ended) ∷ On c (CallTaken call) ∷ base)))

-- Two logs end with an answered write on connection `c` each. They are `Beside` if their device's
-- states are the same, and the other connections had the same acts before the writes.
pub beside_wrote : (c : ℕ) (log other : List Act) (call reply x : List ℕ) (first : Bool) (one : List Act) (also answer y : List ℕ)
    (last : Bool) (two : List Act) (acts both : List DeviceAct)
    → ((d : ℕ) → of d log ≡ of d (log_with_write c call reply x first one))
    → ((d : ℕ) → of d other ≡ of d (log_with_write c also answer y last two))
    → ((d : ℕ) → d ≢ c → of d one ≡ of d two) → device_acts log ≡ acts → device_acts other ≡ both → SameShared acts both
    → Beside c log other
beside_wrote c log other call reply x first one also answer y last two acts both here there others p q v =
    let apart : (d : ℕ) → d ≢ c → of d log ≡ of d other = λ d ne. here d ∙ write_leaves_other_connections c d call reply x first one ne
    ∙ others d ne
    ∙ sym (write_leaves_other_connections c d also answer y last two ne) ∙ sym (there d) in
    record {
      shared = relation_of_equals SameShared acts both (device_acts log) (device_acts other) p q v;
      calls = λ d. elim (cases_eq d c) [
        | inl e ↦ ap pending_call (here d) ∙ answered_write_leaves_no_call c d call reply x first one e
            ∙ sym (answered_write_leaves_no_call c d also answer y last two e)
            ∙ sym (ap pending_call (there d))
        | inr ne ↦ ap pending_call (apart d ne)
      ];
      others = apart;
    }
