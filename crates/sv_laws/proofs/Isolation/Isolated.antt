-- While a link holds the lock, the history can go on without the events of other connections. The
-- remaining events add the same bytes to the connection and to its interrupt channel: the law
-- `Isolation`.
use Rattle.std.proofs.Common.{◌≡◌, ℕ, true, false, List, [], ◌∷◌, ◌++◌, Some, None, refl, sym, ap, subst, ◌∙◌, inl, inr, append_assoc}
use Rattle.std.specs.List.{concat}
use Rattle.std.proofs.lemmas.Bool.{cases_Bool}
use Rattle.sv_links.specs.Links.{holder}
use Rattle.sv_links.specs.Channels.{ChannelAct}
use Rattle.sv_laws.proofs.ChannelsAlike.{SameChannel, channel_sym}
use Rattle.sv_history.specs.declared.event.Config.{Config}
use Rattle.sv_history.specs.declared.event.Port.{Port}
use Rattle.sv_history.specs.declared.event.Port.TheVariants.{Conn, Intr}
use Rattle.sv_history.specs.Event.{PlainEvent, IsEvent, port_number}
use Rattle.sv_history.specs.Act.{Act, device_acts, link_acts}
use Rattle.sv_history.specs.Requests.{HearsOf}
use Rattle.sv_history.specs.PolledStatus.{IsPolled}
use Rattle.sv_history.specs.Settling.{SettlesIn}
use Rattle.sv_history.specs.History.{IsLogOf, own_acts, refusal}
use Rattle.sv_laws.specs.Adding.{all_replies, all_sent}
use Rattle.sv_laws.specs.Isolation.{is_foreign, own_events, LeavesLinksAlone, EachIs, HoldsFrom, IsLocked, Isolation}
use Rattle.sv_laws.proofs.OneLog.{one_log, sends_in_other_history}
use Rattle.sv_laws.proofs.EveryLog.Fit.{Fit}
use Rattle.sv_laws.proofs.EveryLog.EachEvent.{fit_log, fit_event}
use Rattle.sv_laws.proofs.Isolation.Alike.{TellsAs, Pair, foreign_acts_keep_pair, same_acts_keep_pair}
use Rattle.sv_laws.proofs.Isolation.OthersEvents.{foreign_event}
use Rattle.sv_laws.proofs.Isolation.OwnEvents.{refusal_same, own_event}
use Rattle.sv_laws.proofs.Isolation.Draining.{same_instrument_same_poll}
use Rattle.sv_laws.proofs.EveryLog.Steps.{settles_extends, log_settled, settled_log_stays}
use Rattle.sv_laws.proofs.Isolation.SettlesAlike.{HoldsThroughout, holds_further, settles_alike}

-- ---- the link holds the lock

holds_from : (lid : ℕ) (before whole : List Act) → HoldsFrom lid before whole → HoldsThroughout lid before whole
holds_from lid before whole holds later [] is = tt
holds_from lid before whole holds later (act ∷ acts) is = (
  holds later (act ∷ acts) is,
  holds_from lid before whole holds (later ++ act ∷ []) acts (is ∙ sym (append_assoc later (act ∷ []) (acts ++ before))),
)

-- ---- at the beginning both logs are the same

same_channel : (c : ℕ) (channel_log : List ChannelAct) → SameChannel c channel_log channel_log
same_channel c channel_log = record { opened = refl; took = refl; links = refl; sent = refl; all = refl }

begins_as_pair : (c lid : ℕ) (config : Config) (past events : List PlainEvent) (locked : IsLocked c lid config past events)
    (later : List Act)
    → locked.log ≡ later ++ locked.before → Pair c lid locked.before locked.before
begins_as_pair c lid config past events locked later is =
    let held : holder (link_acts (device_acts locked.before)) ≡ Some lid = locked.holds later [] is in
    let tells : TellsAs c (device_acts locked.before) (device_acts locked.before) = λ channel_log hears.
    (channel_log, hears, same_channel c channel_log) in
    assumption

-- ---- event by event

pub record Alone (c lid : ℕ) (config : Config) (past events : List PlainEvent) (log whole : List Act) : Type 0 where
  pub other : List Act
  pub is_log : IsLogOf config (own_events c events ++ past) other
  pub pair : Pair c lid log other
  pub holds : HoldsThroughout lid log whole

own_without : (c : ℕ) (event : PlainEvent) (events : List PlainEvent) → is_foreign c event ≡ true
    → own_events c (event ∷ events) ≡ own_events c events
own_without c event events e = rw e refl

own_with : (c : ℕ) (event : PlainEvent) (events : List PlainEvent) → is_foreign c event ≡ false
    → own_events c (event ∷ events) ≡ event ∷ own_events c events
own_with c event events e = rw e refl

-- An event of another connection is left out.
left_out : (c lid : ℕ) (config : Config) (past events : List PlainEvent) (event : PlainEvent) (polled n : ℕ)
    (whole later before log : List Act) → is_foreign c event ≡ true → LeavesLinksAlone c event before → Fit before
    → Fit (own_acts config polled event before ++ before) → SettlesIn n config (own_acts config polled event before ++ before) log
    → whole ≡ later ++ log → Alone c lid config past events before whole → Alone c lid config past (event ∷ events) log whole
left_out c lid config past events event polled n whole later before log foreign left_alone fit next settles is alone =
    let acts = own_acts config polled event before in
    let rest = settles_extends n config (acts ++ before) log settles in
    let reach : whole ≡ (later ++ rest.0) ++ (acts ++ before) =
    is ∙ ap (λ (l : List Act). later ++ l) rest.1 ∙ sym (append_assoc later rest.0 (acts ++ before)) in
    let pair = foreign_acts_keep_pair c lid acts before alone.other
    (foreign_event config polled c lid event before fit alone.pair.view.held alone.pair.view.mine foreign left_alone)
    (alone.holds (later ++ rest.0) acts reach) next.suits alone.pair in
    let further = holds_further lid before whole acts alone.holds in
    let also = fit_log config (own_events c events ++ past) alone.other alone.is_log in
    let ends = settles_alike n config c lid whole later (acts ++ before) alone.other log further is settles next also pair in
    let same = settled_log_stays ends.steps.0 config alone.other ends.last
    (log_settled config (own_events c events ++ past) alone.other alone.is_log) ends.steps.1 in
    record {
      other = alone.other;
      is_log = subst (λ (l : List PlainEvent). IsLogOf config (l ++ past) alone.other) (sym (own_without c event events foreign))
          alone.is_log;
      pair = subst (λ (l : List Act). Pair c lid log l) same ends.pair;
      holds = subst (λ (l : List Act). HoldsThroughout lid l whole) (sym rest.1) (holds_further lid (acts ++ before) whole rest.0 further);
    }

-- An event of the connection, or of no connection, comes in both histories.
in_both : (c lid : ℕ) (config : Config) (past events : List PlainEvent) (event : PlainEvent) (polled n : ℕ) (channel_log : List ChannelAct)
    (whole later before log : List Act) → is_foreign c event ≡ false → LeavesLinksAlone c event before → IsEvent event → Fit before
    → HearsOf (device_acts before) channel_log → refusal config channel_log event before ≡ None → IsPolled polled (device_acts before)
    → SettlesIn n config (own_acts config polled event before ++ before) log → whole ≡ later ++ log
    → Alone c lid config past events before whole → Alone c lid config past (event ∷ events) log whole
in_both c lid config past events event polled n channel_log whole later before log own left_alone is_event fit hears free said settles is
    alone =
    let acts = own_acts config polled event before in
    let other = alone.other in
    let rest = settles_extends n config (acts ++ before) log settles in
    let reach : whole ≡ (later ++ rest.0) ++ (acts ++ before) =
    is ∙ ap (λ (l : List Act). later ++ l) rest.1 ∙ sym (append_assoc later rest.0 (acts ++ before)) in
    let locks = alone.holds (later ++ rest.0) acts reach in
    let also = fit_log config (own_events c events ++ past) other alone.is_log in
    let tells = alone.pair.tells channel_log hears in
    let none : refusal config tells.0 event other ≡ None =
    sym (refusal_same config c lid channel_log tells.0 before other event alone.pair tells.2 own) ∙ free in
    let ours = own_event config polled c lid before other event fit alone.pair own left_alone locks in
    let pair = same_acts_keep_pair c lid acts before other ours.1 locks alone.pair in
    let further = holds_further lid before whole acts alone.holds in
    let next = fit_event config event polled channel_log before free fit in
    let behind : Fit (acts ++ other) =
    subst (λ (l : List Act). Fit (l ++ other)) (sym ours.0) (fit_event config event polled tells.0 other none also) in
    let ends = settles_alike n config c lid whole later (acts ++ before) (acts ++ other) log further is settles next behind pair in
    record {
      other = ends.last;
      is_log = subst (λ (l : List PlainEvent). IsLogOf config (l ++ past) ends.last) (sym (own_with c event events own)) (
        other,
        polled,
        tells.0,
        is_event,
        alone.is_log,
        tells.1,
        none,
        same_instrument_same_poll polled (device_acts before) (device_acts other) alone.pair.view.instrument said,
        (ends.steps.0, subst (λ (l : List Act). SettlesIn ends.steps.0 config (l ++ other) ends.last) ours.0 ends.steps.1),
      );
      pair = ends.pair;
      holds = subst (λ (l : List Act). HoldsThroughout lid l whole) (sym rest.1) (holds_further lid (acts ++ before) whole rest.0 further);
    }

pub own_events_alone : (c lid : ℕ) (config : Config) (past all events : List PlainEvent) (locked : IsLocked c lid config past all)
    (later log : List Act) → locked.log ≡ later ++ log → EachIs (LeavesLinksAlone c) config past events → IsLogOf config
    (events ++ past) log
    → Alone c lid config past events log locked.log
own_events_alone c lid config past all [] locked later log is left_alone is_log =
    let same : log ≡ locked.before = one_log config past log locked.before is_log locked.was in
    subst (λ (l : List Act). Alone c lid config past [] l locked.log) (sym same) (record {
      other = locked.before;
      is_log = locked.was;
      pair = begins_as_pair c lid config past all locked later (is ∙ ap (λ (l : List Act). later ++ l) same);
      holds = holds_from lid locked.before locked.log locked.holds;
    })
own_events_alone c lid config past all (event ∷ events) locked later log is left_alone
    (before, polled, channel_log, is_event, was, hears, free, said, (n, settles)) =
    let acts = own_acts config polled event before in
    let rest = settles_extends n config (acts ++ before) log settles in
    let reach : locked.log ≡ ((later ++ rest.0) ++ acts) ++ before =
    is ∙ ap (λ (l : List Act). later ++ l) rest.1 ∙ sym (append_assoc later rest.0 (acts ++ before))
    ∙ sym (append_assoc (later ++ rest.0) acts before) in
    let alone = own_events_alone c lid config past all events locked ((later ++ rest.0) ++ acts) before reach left_alone.0 was in
    let fit = fit_log config (events ++ past) before was in
    let so = left_alone.1 before was in
    elim (cases_Bool (is_foreign c event)) [
      | inl e ↦ left_out c lid config past events event polled n locked.log later before log e so fit
          (fit_event config event polled channel_log before free fit) settles is alone
      | inr e ↦ in_both c lid config past events event polled n channel_log locked.log later before log e so is_event fit hears free said
          settles is alone
    ]

-- ---- the bytes that are added

sent_same : (c lid : ℕ) (port : Port) (log other : List Act) (channel_log also : List ChannelAct) → port_number port ≡ c
    → Pair c lid log other → SameChannel c channel_log also → all_sent port channel_log log ≡ all_sent port also other
sent_same c lid (Conn d) log other channel_log also e pair same = rw e (ap all_replies pair.own)
sent_same c lid (Intr d) log other channel_log also e pair same = rw e (ap concat same.all)

pub isolation : Isolation
isolation c lid config past events locked =
    let alone = own_events_alone c lid config past events events locked [] locked.log refl locked.left_alone locked.is_log in
    let other = alone.other in
    let own = own_events c events in (
      (other, alone.is_log),
      (λ port bytes mine. (
        (λ adds. (
          adds.0,
          adds.1,
          sends_in_other_history port config (events ++ past) (own ++ past) locked.log other _ locked.is_log alone.is_log
              (λ channel_log hears.
              let tells = alone.pair.tells channel_log hears in
              (tells.0, tells.1, sent_same c lid port locked.log other channel_log tells.0 mine alone.pair tells.2)) adds.2,
        )),
        (λ adds. (
          adds.0,
          adds.1,
          sends_in_other_history port config (own ++ past) (events ++ past) other locked.log _ alone.is_log locked.is_log
              (λ channel_log hears.
              let tells = alone.pair.back channel_log hears in
              let same = channel_sym c channel_log tells.0 tells.2 in
              (tells.0, tells.1, sym (sent_same c lid port locked.log other tells.0 channel_log mine alone.pair same))) adds.2,
        )),
      )),
    )
