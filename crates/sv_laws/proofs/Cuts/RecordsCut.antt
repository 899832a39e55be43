-- Two histories that differ only in how bytes are split into pieces, and records into fragments,
-- send the same bytes: the law `RecordsCut`.
use Rattle.std.proofs.Common.{◌≡◌, ℕ, List, [], ◌∷◌, ◌++◌, map, refl, ap, subst, ◌∙◌}
use Rattle.sv_rpc.specs.Stream.{reading}
use Rattle.sv_links.specs.Channels.{ChannelAct}
use Rattle.sv_history.specs.declared.event.Config.{Config}
use Rattle.sv_history.specs.declared.event.Port.{Port}
use Rattle.sv_history.specs.declared.event.Port.TheVariants.{Conn, Intr}
use Rattle.sv_history.specs.Event.{PlainEvent, Bytes}
use Rattle.sv_history.specs.Act.{Act, DeviceAct, Piece, On, of, device_acts}
use Rattle.sv_history.specs.Connection.{join_pieces, stream}
use Rattle.sv_history.specs.Requests.{HearsOf}
use Rattle.sv_history.specs.History.{IsLogOf}
use Rattle.sv_laws.specs.Adding.{all_sent, Sends}
use Rattle.sv_laws.specs.Cuts.{Recut, Nothing, Same, Pieces, RecordsCut}
use Rattle.sv_laws.proofs.OneLog.{one_log, sends_in_other_history}
use Rattle.sv_history.proofs.StillSettled.{still_settled}
use Rattle.sv_laws.proofs.EveryLog.Steps.{log_settled, settled_log_stays}
use Rattle.sv_laws.proofs.Cuts.ReadsOn.{same_reading_append}
use Rattle.sv_laws.proofs.Cuts.SameDevice.{SameDevice, same_device_refl}
use Rattle.sv_laws.proofs.Cuts.SharedSteps.{SameCalls}
use Rattle.sv_laws.proofs.Cuts.SharedEvents.{SameNext}
use Rattle.sv_laws.proofs.Cuts.KeptLogs.{IsKept, kept_through_event}
use Rattle.sv_laws.proofs.Facts.{relation_of_equals}
use Rattle.sv_laws.proofs.Cuts.SameView.{Alike, next_call_same, next_request_same, alike_empty, alike_sym, acts_keep_alike, pieces_on, pieces_keep_alike}

-- ---- when only bytes come, no step becomes due

pieces_make_no_step_due : (c : ℕ) (config : Config) (pieces : List (List ℕ)) (past : List PlainEvent) (log : List Act)
    → IsLogOf config (map (Bytes c) pieces ++ past) log → (base : List Act) × IsLogOf config past base × (log ≡ pieces_on c pieces ++ base)
pieces_make_no_step_due c config [] past log is_log = (log, is_log, refl)
pieces_make_no_step_due c config (piece ∷ pieces) past log (before, polled, channel_log, is_event, was, hears, free, said, settles) =
    let settled = log_settled config (map (Bytes c) pieces ++ past) before was in
    let so = pieces_make_no_step_due c config pieces past before was in (
      so.0,
      so.1,
      settled_log_stays settles.0 config (On c (Piece piece) ∷ before) log (still_settled c (Piece piece) config before settled) settles.1
          ∙ ap (λ (l : List Act). On c (Piece piece) ∷ l) so.2,
    )

-- ---- the two logs

alike_calls : (log other : List Act) → Alike log other → SameCalls log other
alike_calls log other alike = record {
  device = subst (λ (l : List DeviceAct). SameDevice (device_acts log) l) alike.device (same_device_refl (device_acts log));
  calls = λ c. (alike.each c).call;
}

alike_kept : IsKept Alike
alike_kept = record { calls = alike_calls; more = acts_keep_alike }

alike_next : (log other : List Act) → Alike log other → SameNext log other
alike_next log other alike = record {
  now = alike_calls log other alike;
  calls = λ c. next_call_same (of c log) (of c other) (alike.each c);
  requests = λ c. next_request_same (of c log) (of c other) (alike.each c);
}

recut_logs_alike : (config : Config) {history other : List PlainEvent} → Recut config history other → (log also : List Act)
    → IsLogOf config history log → IsLogOf config other also → Alike log also
recut_logs_alike config Nothing log also x y = relation_of_equals Alike [] [] log also x.1 y.1 alike_empty
recut_logs_alike config (Same {past} {other} event recut) log also x y =
    kept_through_event Alike alike_kept alike_next config event past other log also (recut_logs_alike config recut) x y
recut_logs_alike config (Pieces {past} {other} c pieces others base is_log same recut) log also x y =
    let one = pieces_make_no_step_due c config pieces past log x in
    let two = pieces_make_no_step_due c config others other also y in
    let alike = recut_logs_alike config recut one.0 two.0 one.1 two.1 in
    let reads : reading (stream (of c one.0) ++ join_pieces pieces) ≡ reading (stream (of c one.0) ++ join_pieces others) =
    subst (λ (l : List Act). reading (stream (of c l) ++ join_pieces pieces) ≡ reading (stream (of c l) ++ join_pieces others))
    (one_log config past base one.0 is_log one.1) same in
    relation_of_equals Alike (pieces_on c pieces ++ one.0) (pieces_on c others ++ two.0) log also one.2 two.2
    (pieces_keep_alike c pieces others one.0 two.0
    (reads ∙ same_reading_append (stream (of c one.0)) (stream (of c two.0)) (join_pieces others) (alike.each c).streams) alike)

-- ---- the bytes that are sent

alike_logs_send_same : (port : Port) (channel_log : List ChannelAct) (log other : List Act) → Alike log other
    → all_sent port channel_log log ≡ all_sent port channel_log other
alike_logs_send_same (Conn c) channel_log log other alike = (alike.each c).replies
alike_logs_send_same (Intr c) channel_log log other alike = refl

sends_alike : (config : Config) (history other : List PlainEvent) (log also : List Act) (port : Port) (bytes : List ℕ)
    → IsLogOf config history log → IsLogOf config other also → Alike log also → Sends port config history bytes
    → Sends port config other bytes
sends_alike config history other log also port bytes x y alike =
    sends_in_other_history port config history other log also bytes x y (λ channel_log hears. (
      channel_log,
      subst (λ (l : List DeviceAct). HearsOf l channel_log) alike.device hears,
      alike_logs_send_same port channel_log log also alike,
    ))

pub records_cut : RecordsCut
records_cut config history other log also recut x y port bytes =
    let alike = recut_logs_alike config recut log also x y in (
      sends_alike config history other log also port bytes x y alike,
      sends_alike config other history also log port bytes y x (alike_sym log also alike),
    )
