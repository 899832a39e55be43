-- A write, and the same bytes in two writes: further events add the same bytes after both, and the
-- writes themselves differ only in the replies on their connection. This is the law `WritesCut`.
use Rattle.std.proofs.Common.{◌≡◌, ◌≢◌, ℕ, zero, suc, Bool, true, false, Some, List, [], ◌∷◌, ◌++◌, length, refl, sym, ap, subst, ◌∙◌, inl, inr, append-nil, arith}
use Rattle.std.specs.Prelude.{◌↔◌, pos}
use Rattle.std.specs.Int.{bit_at}
use Rattle.std.specs.List.{AllByRecursion}
use Rattle.std.proofs.lemmas.Bool.{cases_eq}
use Rattle.sv_vxi.specs.declared.error_code.ErrorCode.TheVariants.{NoError}
use Rattle.sv_vxi.specs.Arguments.{DeviceWrite, OnLink}
use Rattle.sv_vxi.specs.Results.{Size}
use Rattle.sv_links.specs.Channels.{ChannelAct}
use Rattle.sv_history.specs.declared.event.Config.{Config}
use Rattle.sv_history.specs.declared.event.Port.{Port}
use Rattle.sv_history.specs.declared.event.Port.TheVariants.{Conn, Intr}
use Rattle.sv_history.specs.Event.{PlainEvent}
use Rattle.sv_history.specs.Act.{Act, ConnAct, DeviceAct, CallTaken, Replied, of, device_acts, wait_acts}
use Rattle.sv_history.specs.Connection.{open_role, pending_call, records_ended, took_no_call, stream}
use Rattle.sv_history.specs.Request.{core_call}
use Rattle.sv_history.specs.Effect.{result_reply}
use Rattle.sv_history.specs.PolledStatus.{IsPolled}
use Rattle.sv_history.specs.Settling.{IsNext, SettlesIn}
use Rattle.sv_history.specs.History.{IsLogOf}
use Rattle.sv_laws.specs.Adding.{all_replies, all_sent, Adds}
use Rattle.sv_laws.specs.Cuts.{without_pieces, NoneWaits, AreCut, WritesCut}
use Rattle.sv_laws.proofs.OneLog.{sends_in_other_history}
use Rattle.sv_history.proofs.OneStep.{next_step_unique}
use Rattle.sv_laws.proofs.EveryLog.EachEvent.{fit_log, next_call_means_none_suspended}
use Rattle.sv_laws.proofs.EveryLog.Steps.{log_settled, settled_is_rested}
use Rattle.sv_laws.proofs.Cuts.ReadsOn.{same_tail_same_records}
use Rattle.sv_laws.proofs.Cuts.SameDevice.{Tells, accepts}
use Rattle.sv_laws.proofs.Cuts.SameAhead.{SameAhead}
use Rattle.sv_laws.proofs.Cuts.KeptLogs.{kept_through_steps}
use Rattle.sv_laws.proofs.Cuts.SharedLogs.{Begun, same_bytes_added}
use Rattle.sv_laws.proofs.Cuts.BytesBehind.{AddsOnlyPieces, pieces_leave_device, pieces_leave_others}
use Rattle.sv_laws.proofs.Cuts.Fed.{Fed, fed, only_bytes}
use Rattle.sv_laws.proofs.Cuts.Written.{log_with_write, Wrote, written}
use Rattle.sv_laws.proofs.Cuts.FirstPart.{Resting, reported, BecomesLong, first_part, whole_write_reports_overrun}
use Rattle.sv_laws.proofs.Cuts.Beside.{Beside, reports, parts_shared, long_shared, beside_kept, bytes_keep_beside, write_leaves_other_connections, beside_wrote}
use Rattle.sv_laws.proofs.Cuts.AllTaken.{without_pieces_shows_same, fed_all}

-- ---- the logs after the last write was accepted

-- A step that is due is the first of the steps that settle the log.
settles_after_step : (n : ℕ) (config : Config) (log mid new : List Act) → IsNext config log mid → SettlesIn n config log new
    → (m : ℕ) × SettlesIn m config mid new
settles_after_step zero config log mid new next settles = absurd (settles.0 mid next)
settles_after_step (suc n) config log mid new next (middle, also, more) =
    (n, subst (λ (l : List Act). SettlesIn n config l new) (next_step_unique config log middle mid also next) more)

-- The whole write leads to the log `whole`. Two writes, one of each part, lead to the log `last`.
-- Before each write only bytes came on the connection.
record Parts (c : ℕ) (x y : List ℕ) (ended : Bool) (config : Config) (before whole last : List Act) : Type 0 where
  single : List Act
  first : List Act
  mid : List Act
  second : List Act
  at_single : AddsOnlyPieces c before single
  at_first : AddsOnlyPieces c before first
  at_second : AddsOnlyPieces c mid second
  rests_single : Resting config single
  rests_first : Resting config first
  both : Wrote c (x ++ y) ended config single whole
  one : Wrote c x false config first mid
  other : Wrote c y ended config second last

-- Before the last write, the other connections have the same acts in both logs.
others_before : (c : ℕ) (x y : List ℕ) (ended : Bool) (config : Config) (before whole last : List Act)
    (h : Parts c x y ended config before whole last) → ((d : ℕ) → d ≢ c → of d h.mid ≡ of d h.first) → (d : ℕ) → d ≢ c
    → of d h.single ≡ of d h.second
others_before c x y ended config before whole last h same d ne =
    pieces_leave_others c d before h.single h.at_single ne ∙ sym (pieces_leave_others c d before h.first h.at_first ne) ∙ sym (same d ne)
    ∙ sym (pieces_leave_others c d h.mid h.second h.at_second ne)

-- After all steps that are due, the two logs are `Beside`.
beside_settled : (c : ℕ) (x y : List ℕ) (ended : Bool) (config : Config) (before whole last : List Act)
    (h : Parts c x y ended config before whole last) → AllByRecursion (λ b. b ≢ 10) x → Beside c whole last
beside_settled c x y ended config before whole last h line =
    elim (first_part config c h.one.call h.one.reply x h.first h.mid h.one.steps h.rests_first line h.one.free h.one.settles) [
      | inl same ↦ short same
      | inr long ↦ overlong long.0 long.1
    ]
  where
    single_at : device_acts h.single ≡ device_acts before
    single_at = pieces_leave_device c before h.single h.at_single

    first_at : device_acts h.first ≡ device_acts before
    first_at = pieces_leave_device c before h.first h.at_first

    second_at : device_acts h.second ≡ device_acts h.mid
    second_at = pieces_leave_device c h.mid h.second h.at_second

    short : h.mid ≡ log_with_write c h.one.call h.one.reply x false h.first → Beside c whole last
    short same =
        let start = log_with_write c h.both.call h.both.reply (x ++ y) ended h.single in
        let also = log_with_write c h.other.call h.other.reply y ended h.second in
        let v = beside_wrote c start also h.both.call h.both.reply (x ++ y) ended h.single h.other.call h.other.reply y ended h.second
        (accepts (x ++ y) ended ∷ device_acts before) (accepts y ended ∷ accepts x false ∷ device_acts before) (λ d. refl) (λ d. refl)
        (others_before c x y ended config before whole last h
        (λ d ne. ap (of d) same ∙ write_leaves_other_connections c d h.one.call h.one.reply x false h.first ne))
        (ap (λ (l : List DeviceAct). accepts (x ++ y) ended ∷ l) single_at)
        (ap (λ (l : List DeviceAct). accepts y ended ∷ l) (second_at ∙ ap device_acts same)
        ∙ ap (λ (l : List DeviceAct). accepts y ended ∷ accepts x false ∷ l) first_at)
        (parts_shared x y ended (device_acts before)) in
        kept_through_steps (Beside c) (beside_kept c) h.both.steps h.other.steps config start also whole last v h.both.settles
        h.other.settles

    overlong : h.mid ≡ reported (log_with_write c h.one.call h.one.reply x false h.first) → BecomesLong x (device_acts h.first)
        → Beside c whole last
    overlong same long =
        let start = log_with_write c h.both.call h.both.reply (x ++ y) ended h.single in
        let also = log_with_write c h.other.call h.other.reply y ended h.second in
        let here = subst (λ (l : List DeviceAct). BecomesLong x l) (first_at ∙ sym single_at) long in
        let next = whole_write_reports_overrun config c h.both.call h.both.reply x y ended h.single h.rests_single here in
        let rest = settles_after_step h.both.steps config start (reported start) whole next h.both.settles in
        let v = beside_wrote c (reported start) also h.both.call h.both.reply (x ++ y) ended h.single h.other.call h.other.reply y ended
        h.second (reports (accepts (x ++ y) ended ∷ device_acts before)) (accepts y ended ∷ reports (accepts x false ∷ device_acts before))
        (λ d. refl) (λ d. refl)
        (others_before c x y ended config before whole last h
        (λ d ne. ap (of d) same ∙ write_leaves_other_connections c d h.one.call h.one.reply x false h.first ne))
        (ap (λ (l : List DeviceAct). reports (accepts (x ++ y) ended ∷ l)) single_at)
        (ap (λ (l : List DeviceAct). accepts y ended ∷ l) (second_at ∙ ap device_acts same)
        ∙ ap (λ (l : List DeviceAct). accepts y ended ∷ reports (accepts x false ∷ l)) first_at)
        (long_shared x y ended (device_acts before)) in
        kept_through_steps (Beside c) (beside_kept c) rest.0 h.other.steps config (reported start) also whole last v rest.1 h.other.settles

-- ---- the bytes sent on each port

ahead_same : (acts others : List ConnAct) → acts ≡ others → SameAhead (all_replies acts) (all_replies others) acts others
ahead_same acts others same = subst (λ (l : List ConnAct). SameAhead (all_replies acts) (all_replies l) acts l) same (record {
  role = refl;
  call = refl;
  no_call = refl;
  ahead = λ more. refl;
  sends = ([], sym (append-nil (all_replies acts)), sym (append-nil (all_replies acts)));
})

beside_logs_send_same : (c : ℕ) (port : Port) (log other : List Act) → port ≢ Conn c → Beside c log other → (channel_log : List ChannelAct)
    → all_sent port channel_log log ≡ all_sent port channel_log other
beside_logs_send_same c (Conn d) log other ne v channel_log = ap all_replies (v.others d (λ e. ne (ap Conn e)))
beside_logs_send_same c (Intr d) log other ne v channel_log = refl

adds_other : (port : Port) (config : Config) (past one two : List PlainEvent) (log other : List Act) (bytes : List ℕ)
    → IsLogOf config (one ++ past) log → IsLogOf config (two ++ past) other → Tells (device_acts log) (device_acts other)
    → ((channel_log : List ChannelAct) → all_sent port channel_log log ≡ all_sent port channel_log other) → Adds port config past one bytes
    → Adds port config past two bytes
adds_other port config past one two log other bytes was also tells same (before, sends, adds) = (
  before,
  sends,
  sends_in_other_history port config (one ++ past) (two ++ past) log other (before ++ bytes) was also
      (λ channel_log hears. (channel_log, tells channel_log hears, same channel_log)) adds,
)

-- ---- the writes among the events

wrote_by : (c lid : ℕ) (config : Config) (past : List PlainEvent) (log : List Act) (bytes : List ℕ) (ended : Bool)
    (xid io_timeout lock_timeout flags : ℕ) (call : List ℕ) (rest : List ConnAct)
    → core_call call ≡ Some (record { xid = xid; arguments = OnLink (pos lid) (DeviceWrite io_timeout lock_timeout flags bytes) })
    → (bit_at flags 3 ≡ 1) ↔ (ended ≡ true) → (f : Fed c config past log (result_reply xid (Size NoError (length bytes))) call rest)
    → Wrote c bytes ended config f.base f.last
wrote_by c lid config past log bytes ended xid io_timeout lock_timeout flags call rest is flag f =
    written c lid bytes ended config f.base f.last call xid io_timeout lock_timeout flags is flag
    (log_settled config (f.earlier ++ past) f.base f.was)
    (next_call_means_none_suspended c f.base call (fit_log config (f.earlier ++ past) f.base f.was) f.taking.next) f.acts f.taking

resting : (config : Config) (history : List PlainEvent) (before base : List Act) (polled : ℕ) → IsLogOf config history base
    → device_acts base ≡ device_acts before → NoneWaits (wait_acts (device_acts before)) → IsPolled polled (device_acts base)
    → Resting config base
resting config history before base polled was same none said = record {
  rests = settled_is_rested config base (log_settled config history base was);
  none = subst (λ (l : List DeviceAct). NoneWaits (wait_acts l)) (sym same) none;
  polled = polled;
  said = said;
}

module _ (c lid : ℕ) (x y : List ℕ) (ended : Bool) (config : Config) (past one two : List PlainEvent)
    (h : AreCut c lid x y ended config past one two) where
  abbrev rest : List ConnAct
  rest = without_pieces (of c h.before)

  fed_both : Fed c config past h.whole (result_reply h.writes_both.0 (Size NoError (length (x ++ y)))) h.writes_both.4 rest
  fed_both = fed c config past one h.before h.whole _ _ rest h.one_feeds.feeding h.one_feeds.was h.one_feeds.is_log (omega arith)
      h.writes_both.7

  fed_other : Fed c config past h.cut (result_reply h.writes_second.0 (Size NoError (length y))) h.writes_second.4 h.middle
  fed_other =
      let size = ap (λ (l : List ConnAct). length l) h.writes_first.7 in
      fed c config past two h.before h.cut _ _ h.middle h.two_feeds.feeding h.two_feeds.was h.two_feeds.is_log (omega (arith, size))
      h.writes_second.7

  fed_one : Fed c config past fed_other.base (result_reply h.writes_first.0 (Size NoError (length x))) h.writes_first.4 rest
  fed_one = fed c config past fed_other.earlier h.before fed_other.base _ _ rest fed_other.feeding h.two_feeds.was fed_other.was
      (omega arith) (fed_other.same ∙ h.writes_first.7)

  parts : Parts c x y ended config h.before fed_both.last fed_other.last
  parts =
      let both = wrote_by c lid config past h.whole (x ++ y) ended _ _ _ _ h.writes_both.4 rest h.writes_both.5 h.writes_both.6 fed_both in
      let first = wrote_by c lid config past fed_other.base x false _ _ _ _ h.writes_first.4 rest h.writes_first.5 h.writes_first.6
      fed_one in
      let at_single = only_bytes c config past fed_both.earlier h.before fed_both.base fed_both.feeding h.one_feeds.was fed_both.was
      fed_both.same in
      let at_first = only_bytes c config past fed_one.earlier h.before fed_one.base fed_one.feeding h.two_feeds.was fed_one.was
      fed_one.same in
      record {
        single = fed_both.base;
        first = fed_one.base;
        mid = fed_one.last;
        second = fed_other.base;
        at_single = at_single;
        at_first = at_first;
        at_second = fed_one.came;
        rests_single = resting config (fed_both.earlier ++ past) h.before fed_both.base both.polled fed_both.was
            (pieces_leave_device c h.before fed_both.base at_single) h.none_waits both.said;
        rests_first = resting config (fed_one.earlier ++ past) h.before fed_one.base first.polled fed_one.was
            (pieces_leave_device c h.before fed_one.base at_first) h.none_waits first.said;
        both = both;
        one = first;
        other = wrote_by c lid config past h.cut y ended _ _ _ _ h.writes_second.4 h.middle h.writes_second.5 h.writes_second.6 fed_other;
      }

  beside : Beside c h.whole h.cut
  beside = bytes_keep_beside c fed_both.last fed_other.last h.whole h.cut fed_both.came fed_other.came
      (beside_settled c x y ended config h.before fed_both.last fed_other.last parts h.no_line)

  own_ahead : SameAhead (all_replies (of c h.whole)) (all_replies (of c h.cut)) (of c h.whole) (of c h.cut)
  own_ahead =
      let acts = of c h.whole in
      let others = of c h.cut in
      let one_bare = h.writes_both.7 in
      let two_bare = h.writes_second.7
      ∙ ap (λ (l : List ConnAct).
      Replied (result_reply h.writes_second.0 (Size NoError (length y))) ∷ CallTaken h.writes_second.4 ∷ l) h.writes_first.7 in
      record {
        role = (without_pieces_shows_same acts).role ∙ ap open_role one_bare
            ∙ sym ((without_pieces_shows_same others).role ∙ ap open_role two_bare);
        call = (without_pieces_shows_same acts).call ∙ ap pending_call one_bare
            ∙ sym ((without_pieces_shows_same others).call ∙ ap pending_call two_bare);
        no_call = (without_pieces_shows_same acts).no_call ∙ ap took_no_call one_bare
            ∙ sym ((without_pieces_shows_same others).no_call ∙ ap took_no_call two_bare);
        ahead = same_tail_same_records (stream acts) (stream others) (records_ended acts) (records_ended others)
            (fed_all c config past h.whole _ _ rest fed_both h.one_feeds.none_left)
            (fed_all c config past h.cut _ _ h.middle fed_other h.two_feeds.none_left) h.same_tail;
        sends = ([], sym (append-nil (all_replies acts)), sym (append-nil (all_replies others)));
      }

  each_ahead : (d : ℕ) → SameAhead (all_replies (of d h.whole)) (all_replies (of d h.cut)) (of d h.whole) (of d h.cut)
  each_ahead d = elim (cases_eq d c) [
    | inl e ↦ subst (λ (n : ℕ). SameAhead (all_replies (of n h.whole)) (all_replies (of n h.cut)) (of n h.whole) (of n h.cut)) (sym e)
        own_ahead
    | inr ne ↦ ahead_same (of d h.whole) (of d h.cut) (beside.others d ne)
  ]

  begun : Begun config (λ d. all_replies (of d h.whole)) (λ d. all_replies (of d h.cut)) (one ++ past) (two ++ past)
  begun = record {
    a = h.whole;
    b = h.cut;
    was = h.one_feeds.is_log;
    also = h.two_feeds.is_log;
    one_sent = λ d. refl;
    two_sent = λ d. refl;
    same = record { shared = beside.shared; each = each_ahead };
  }

  sent_but : (port : Port) (bytes : List ℕ) → port ≢ Conn c → Adds port config past one bytes ↔ Adds port config past two bytes
  sent_but port bytes ne = (
    adds_other port config past one two h.whole h.cut bytes h.one_feeds.is_log h.two_feeds.is_log beside.shared.tells
        (beside_logs_send_same c port h.whole h.cut ne beside),
    adds_other port config past two one h.cut h.whole bytes h.two_feeds.is_log h.one_feeds.is_log beside.shared.back
        (λ channel_log. sym (beside_logs_send_same c port h.whole h.cut ne beside channel_log)),
  )

pub writes_cut : WritesCut
writes_cut c lid x y ended config past one two events log other h is_log also port bytes = (
  same_bytes_added port config (λ d. all_replies (of d h.whole)) (λ d. all_replies (of d h.cut)) (one ++ past) (two ++ past) events log
      other bytes
      (begun c lid x y ended config past one two h) is_log also,
  sent_but c lid x y ended config past one two h port bytes,
)
