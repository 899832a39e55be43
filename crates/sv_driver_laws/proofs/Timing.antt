-- Sweeps and stimuli add exactly the timed events that `IsTimely` states.
use Rattle.std.proofs.Common.{◌≡◌, ℕ, zero, suc, ◌+◌, ◌-◌, ◌<◌, ◌≤◌, min, eqb, true, false, List, [], ◌∷◌, ◌++◌, length, filter, Result, Ok, Err, refl, sym, ap, subst, ◌∙◌, inl, inr, append_assoc, append-nil, arith, eq-eqb, nat_lt, lt-ltb, le-ltb}
use Rattle.std.specs.Prelude.{◌==◌, ⊤, if◌then◌else◌}
use Rattle.std.proofs.Math.Nat.{eq-or-lt_of_le}
use Rattle.std.proofs.lemmas.Bool.{ne_eqb, cond_both}
use Rattle.sv_history.specs.declared.event.Config.{Config}
use Rattle.sv_history.specs.declared.event.Did.{Did}
use Rattle.sv_history.specs.declared.event.Did.TheVariants.{Done}
use Rattle.sv_history.specs.declared.event.Refused.{Refused}
use Rattle.sv_history.specs.declared.event.Role.TheVariants.{Core, Abort, Portmap}
use Rattle.sv_history.specs.declared.event.Port.TheVariants.{Conn, Intr}
use Rattle.sv_history.specs.Event.{PlainEvent, Tick}
use Rattle.sv_history.specs.Act.{device_acts}
use Rattle.sv_history.specs.History.{last_clock, history_after}
use Rattle.sv_history.proofs.AlwaysTold.{channel_log_exists}
use Rattle.sv_replay.specs.Entry.{stimulus_event, IsAccepted}
use Rattle.sv_replay.specs.Scenario.{IsScenario}
use Rattle.sv_replay.specs.declared.entry.Entry.{Entry}
use Rattle.sv_replay.specs.declared.entry.Stimulus.{Stimulus}
use Rattle.sv_replay.specs.declared.entry.Stimulus.TheVariants as stimuli
use Rattle.sv_laws.proofs.Brought.{is_tick}
use Rattle.sv_laws.proofs.TicksTaken.{ticks_taken}
use Rattle.sv_serve.specs.Heard.{Heard}
use Rattle.sv_serve.specs.DriverView.{DriverState, DriverView, driver_view, ForEach, ◌then◌}
use Rattle.sv_serve.specs.Steps.{IsApplied, ReadsFrom, Turns, Dials, WritesTo, Ends}
use Rattle.sv_serve.specs.Sweep.{PlaysOne, IsNoneDue, Plays, most_ticks, Counts, TicksOnce, Passes, Sweeps, Handed, Passing, Stimulates}
use Rattle.sv_driver_laws.specs.Timed.{is_timed, entry_events, time_events, handed_ticks, with_entry}
use Rattle.sv_driver_laws.proofs.Keeps.{allowed_event_is_applied}
use Rattle.sv_driver_laws.proofs.Idling.{Idles, idles_refl, idles_trans, idles_each, accepts_idles, reads_idles, turns_idles, dials_idles, writes_idles, ends_idles}
use Rattle.sv_serve.proofs.Suited.{stimulus_suits}

-- ---- entries of the scenario by their milliseconds

abbrev AllUpTo : ℕ → List Entry → Type 0
AllUpTo n [] = ⊤
AllUpTo n (entry ∷ entries) = (entry.tick ≤ n) × AllUpTo n entries

up_to_later : (n : ℕ) (xs : List Entry) → AllUpTo n xs → AllUpTo (suc n) xs
up_to_later n [] h = tt
up_to_later n (x ∷ xs) h = (let le = h.0 in omega (arith, le), up_to_later n xs h.1)

up_to_one_more : (n : ℕ) (xs : List Entry) (x : Entry) → AllUpTo n xs → x.tick ≤ n → AllUpTo n (xs ++ x ∷ [])
up_to_one_more n [] x h le = (le, tt)
up_to_one_more n (y ∷ ys) x h le = (h.0, up_to_one_more n ys x h.1 le)

entry_events_append : (n : ℕ) (xs ys : List Entry) → entry_events n (xs ++ ys) ≡ entry_events n ys ++ entry_events n xs
entry_events_append n [] ys = sym (append-nil (entry_events n ys))
entry_events_append n (x ∷ xs) ys =
    let own : List PlainEvent = if x.tick == n then stimulus_event x.stimulus ∷ [] else [] in
    ap (λ (l : List PlainEvent). l ++ own) (entry_events_append n xs ys) ∙ append_assoc (entry_events n ys) (entry_events n xs) own

later_entries_no_event : (n k : ℕ) (xs : List Entry) → n < k → IsScenario k xs → entry_events n xs ≡ []
later_entries_no_event n k [] lt h = refl
later_entries_no_event n k (x ∷ xs) lt h =
    let le = h.0 in
    rw (ne_eqb x.tick n (λ e. absurd (omega (arith, lt, le, e))))
    (append-nil (entry_events n xs) ∙ later_entries_no_event n x.tick xs (omega (arith, lt, le)) h.2)

past_entries_no_event : (n : ℕ) (xs : List Entry) → AllUpTo n xs → entry_events (suc n) xs ≡ []
past_entries_no_event n [] h = refl
past_entries_no_event n (x ∷ xs) h =
    let le = h.0 in
    rw (ne_eqb x.tick (suc n) (λ e. absurd (omega (arith, le, e)))) (append-nil (entry_events (suc n) xs) ∙ past_entries_no_event n xs h.1)

none_due : (n : ℕ) (xs : List Entry) → IsScenario n xs → IsNoneDue n xs → IsScenario (suc n) xs
none_due n [] h none = tt
none_due n (x ∷ xs) h none = (omega (arith, none), h.1, h.2)

scenario_from : (k n : ℕ) (xs : List Entry) → n ≤ k → IsScenario k xs → IsScenario n xs
scenario_from k n [] le h = tt
scenario_from k n (x ∷ xs) le h = (let more = h.0 in omega (arith, le, more), h.1, h.2)

abbrev events_before_entries : ℕ → List Entry → List PlainEvent
events_before_entries zero s = []
events_before_entries (suc n) s = Tick ∷ time_events n s

timed_base : (n : ℕ) (s : List Entry) → entry_events n s ++ events_before_entries n s ≡ time_events n s
timed_base zero s = append-nil (entry_events 0 s)
timed_base (suc n) s = refl

-- ---- what holds while a scenario is applied

pub record InPlay {W : Type 0} (config : Config) (s : List Entry) (n k : ℕ) (a : DriverView W) : Type 0 where
  pub past : List Entry
  pub split : s ≡ past ++ a.ahead
  pub rising : IsScenario n a.ahead
  pub upto : AllUpTo n past
  pub is : filter is_timed a.history ≡ entry_events n past ++ events_before_entries n s
  pub ticks : a.ticks ≡ n
  pub count : length (filter is_tick a.history) ≡ n
  pub within : config.clock + n ≤ last_clock
  pub reached : n ≡ min k (last_clock - config.clock)

idle_play : {W : Type 0} (config : Config) (s : List Entry) (n k : ℕ) (a b : DriverView W) → Idles a b → InPlay config s n k a
    → InPlay config s n k b
idle_play config s n k a b idle p = record {
  past = p.past;
  split = p.split ∙ ap (λ l. p.past ++ l) (sym idle.0);
  rising = subst (λ l. IsScenario n l) (sym idle.0) p.rising;
  upto = p.upto;
  is = idle.2 ∙ p.is;
  ticks = idle.1 ∙ p.ticks;
  count = ap length idle.3 ∙ p.count;
  within = p.within;
  reached = p.reached;
}

timed_here : {W : Type 0} (config : Config) (s : List Entry) (n k : ℕ) (a : DriverView W) → InPlay config s n k a → IsNoneDue n a.ahead
    → filter is_timed a.history ≡ time_events n s
timed_here config s n k a p none =
    let later : entry_events n a.ahead ≡ [] = later_entries_no_event n (suc n) a.ahead (omega arith) (none_due n a.ahead p.rising none) in
    let all : entry_events n s ≡ entry_events n p.past =
    ap (entry_events n) p.split ∙ entry_events_append n p.past a.ahead ∙ ap (λ (l : List PlainEvent). l ++ entry_events n p.past) later in
    p.is ∙ ap (λ (l : List PlainEvent). l ++ events_before_entries n s) (sym all) ∙ timed_base n s

-- ---- an entry is applied

stimulus_timed : (stimulus : Stimulus) → (is_timed (stimulus_event stimulus) ≡ true) × (is_tick (stimulus_event stimulus) ≡ false)
stimulus_timed (stimuli.Input channel microvolts) = (refl, refl)
stimulus_timed stimuli.External = (refl, refl)

play_one : {W : Type 0} (config : Config) (s : List Entry) (n k : ℕ) (a b : DriverView W) → PlaysOne config a b → InPlay config s n k a
    → InPlay config s n k b
play_one config s n k a b (entry, others, m, first, due, (result, (log, was, answers, to)), is) p =
    let event = stimulus_event entry.stimulus in
    let rising : IsScenario n (entry ∷ others) = subst (λ l. IsScenario n l) first p.rising in
    let low = rising.0 in
    let at = p.ticks in
    let now : entry.tick ≡ n = omega (arith, low, due, at) in
    let channel_log = channel_log_exists (device_acts log) in
    let done = allowed_event_is_applied config event a m channel_log.0 log was channel_log.1
    (stimulus_suits entry.stimulus channel_log.0 log rising.1)
    (result, (log, was, answers, to)) in
    let history : b.history ≡ event ∷ a.history = ap (λ m. m.history) is ∙ ap (λ m. m.history) done in
    let own : entry_events n (p.past ++ entry ∷ []) ≡ event ∷ entry_events n p.past = entry_events_append n p.past (entry ∷ []) ∙ rw
    (eq-eqb entry.tick n now) refl in
    record {
      past = p.past ++ entry ∷ [];
      split = p.split ∙ ap (λ l. p.past ++ l) first ∙ sym (append_assoc p.past (entry ∷ []) others)
          ∙ ap (λ l. (p.past ++ entry ∷ []) ++ l) (sym (ap (λ m. m.ahead) is));
      rising = subst (λ l. IsScenario n l) (sym (ap (λ m. m.ahead) is)) (scenario_from entry.tick n others low rising.2);
      upto = up_to_one_more n p.past entry p.upto (omega (arith, now));
      is = ap (filter is_timed) history ∙ rw (stimulus_timed entry.stimulus).0 (ap (λ (l : List PlainEvent). event ∷ l) p.is)
          ∙ ap (λ (l : List PlainEvent). l ++ events_before_entries n s) (sym own);
      ticks = ap (λ m. m.ticks) is ∙ ap (λ m. m.ticks) done ∙ p.ticks;
      count = ap (λ h. length (filter is_tick h)) history ∙ rw (stimulus_timed entry.stimulus).1 p.count;
      within = p.within;
      reached = p.reached;
    }

play_each : {W : Type 0} (config : Config) (s : List Entry) (n k i : ℕ) (a b : DriverView W) → ForEach i (λ j. PlaysOne) config a b
    → InPlay config s n k a → InPlay config s n k b
play_each config s n k zero a b is p = idle_play config s n k a b (idles_refl a b is) p
play_each config s n k (suc i) a b (m, front, last) p =
    play_one config s n k m b last (play_each config s n k i a m front p)

-- All entries that are due were applied.
record Rests {W : Type 0} (config : Config) (s : List Entry) (k : ℕ) (a : DriverView W) : Type 0 where
  pub n : ℕ
  pub play : InPlay config s n k a
  pub none : IsNoneDue n a.ahead

plays : {W : Type 0} (config : Config) (s : List Entry) (n k : ℕ) (a b : DriverView W) → Plays config a b → InPlay config s n k a
    → Rests config s k b
plays config s n k a b (i, each, none) p =
    let q = play_each config s n k i a b each p in
    record { n = n; play = q; none = subst (λ t. IsNoneDue t b.ahead) q.ticks none }

-- ---- a millisecond passes

pub record Played {W : Type 0} (config : Config) (s : List Entry) (k : ℕ) (a : DriverView W) : Type 0 where
  pub n : ℕ
  pub play : InPlay config s n k a

no_longer : {A : Type 0} (event : PlainEvent) (history : List PlainEvent) → event ∷ history ≡ history → A
no_longer event history e = absurd (let same = ap length e in omega (arith, same))

tick_full : {W : Type 0} (config : Config) (s : List Entry) (k : ℕ) (a m b : DriverView W) (result : Result Did Refused)
    → (r : Rests config s k a) → config.clock + r.n ≡ last_clock → history_after Tick result a.history ≡ a.history
    → m ≡ record a { history = history_after Tick result a.history } → Counts result config m b → Played config s (k + 1) b
tick_full config s k a m b (Ok did) r full same is counts = no_longer Tick a.history same
tick_full config s k a m b (Err refused) r full same is counts =
    let q = idle_play config s r.n k a b (idles_trans a m b (idles_refl a m is) (idles_refl m b counts)) r.play in
    let reached = q.reached in record {
      n = r.n;
      play = record {
        past = q.past;
        split = q.split;
        rising = q.rising;
        upto = q.upto;
        is = q.is;
        ticks = q.ticks;
        count = q.count;
        within = q.within;
        reached = omega (arith, full, reached);
      };
    }

tick_more : {W : Type 0} (config : Config) (s : List Entry) (k : ℕ) (a m b : DriverView W) → (r : Rests config s k a)
    → config.clock + r.n < last_clock → m ≡ record a { history = Tick ∷ a.history } → Counts (Ok Done) config m b
    → Played config s (k + 1) b
tick_more config s k a m b r lt is counts =
    let p = r.play in
    let at : m.ticks ≡ r.n = ap (λ m. m.ticks) is ∙ p.ticks in
    let ne : eqb m.ticks most_ticks ≡ false = ne_eqb m.ticks most_ticks (λ e. absurd (omega (arith, lt, at, e))) in
    let ticks : b.ticks ≡ m.ticks + 1 = ap (λ m. m.ticks) counts ∙ rw ne refl in
    let ahead : b.ahead ≡ a.ahead = ap (λ m. m.ahead) counts ∙ ap (λ m. m.ahead) is in
    let history : b.history ≡ Tick ∷ a.history = ap (λ m. m.history) counts ∙ ap (λ m. m.history) is in
    let here = timed_here config s r.n k a p r.none in
    let reached = p.reached in
    let count = p.count in record {
      n = suc r.n;
      play = record {
        past = p.past;
        split = p.split ∙ ap (λ l. p.past ++ l) (sym ahead);
        rising = subst (λ l. IsScenario (suc r.n) l) (sym ahead) (none_due r.n a.ahead p.rising r.none);
        upto = up_to_later r.n p.past p.upto;
        is = ap (filter is_timed) history ∙ ap (λ (l : List PlainEvent). Tick ∷ l) here
            ∙ ap (λ (l : List PlainEvent). l ++ events_before_entries (suc r.n) s) (sym (past_entries_no_event r.n p.past p.upto));
        ticks = omega (arith, ticks, at);
        count = ap (λ h. length (filter is_tick h)) history ∙ ap (λ (i : ℕ). suc i) count;
        within = omega (arith, lt);
        reached = omega (arith, lt, reached);
      };
    }

tick : {W : Type 0} (config : Config) (s : List Entry) (k : ℕ) (a b : DriverView W) → TicksOnce config a b → Rests config s k a
    → Played config s (k + 1) b
tick config s k a b (result, (m, (log, was, answers, is), counts)) r =
    let both = ticks_taken config a.history log result was answers in
    let count = r.play.count in
    let within = r.play.within in
    elim (eq-or-lt_of_le within) [
      | inl full ↦ tick_full config s k a m b result r full (both.1 (ap (λ (i : ℕ). config.clock + i) count ∙ full)) is counts
      | inr lt ↦
          let done = both.0 (subst (λ (i : ℕ). config.clock + i < last_clock) (sym count) lt) in
          tick_more config s k a m b r lt
          (is ∙ ap (λ (x : Result Did Refused). record a { history = history_after Tick x a.history }) done)
          (subst (λ (x : Result Did Refused). Counts x config m b) done counts)
    ]

pass_each : {W : Type 0} (config : Config) (s : List Entry) (k i : ℕ) (a b : DriverView W)
    → ForEach i (λ j. Plays then TicksOnce) config a b → Played config s k a → Played config s (k + i) b
pass_each config s k zero a b is p =
    subst (λ (j : ℕ). Played config s j b) (let e : k ≡ k + 0 = omega arith in e)
    (record { n = p.n; play = idle_play config s p.n k a b (idles_refl a b is) p.play })
pass_each config s k (suc i) a b (m, front, (x, played_so, ticked)) p =
    let q = pass_each config s k i a m front p in
    subst (λ (j : ℕ). Played config s j b) (let e : k + i + 1 ≡ k + suc i = omega arith in e)
    (tick config s (k + i) x b ticked (plays config s q.n (k + i) m x played_so q.play))

rests_after_passes : {W : Type 0} (config : Config) (s : List Entry) (k ticks : ℕ) (a b : DriverView W) → Passes ticks config a b
    → Played config s k a → Rests config s (k + ticks) b
rests_after_passes config s k ticks a b (m, each, last) p =
    let q = pass_each config s k ticks a m each p in plays config s q.n (k + ticks) m b last q.play

-- ---- sweeps

sweep_timed : {W : Type 0} (hears : W → Heard → W → Type 0) (config : Config) (s : List Entry) (k ticks : ℕ)
    (a b : DriverView W) → Sweeps hears ticks config a b → Played config s k a → Rests config s (k + ticks) b
sweep_timed hears config s k ticks m0 m10
    (m1, s1, (m2, s2, (m3, s3, (m4, s4, (m5, s5, (m6, s6, (m7, s7, (m8, s8, (m9, s9, s10))))))))) p =
    let front = idles_trans m0 m1 m6 (accepts_idles hears Core config m0 m1 s1) (idles_trans m1 m2 m6
    (accepts_idles hears Abort config m1 m2 s2)
    (idles_trans m2 m3 m6 (accepts_idles hears Portmap config m2 m3 s3)
    (idles_trans m3 m4 m6 (idles_each config (ReadsFrom hears) 16 (λ c. reads_idles hears c config) m3 m4 s4)
    (idles_trans m4 m5 m6 (idles_each config Turns 16 (λ c. turns_idles c config) m4 m5 s5)
    (idles_each config (Dials hears) 16 (λ c. dials_idles hears c config) m5 m6 s6))))) in
    let r = rests_after_passes config s k ticks m6 m7 s7 (record { n = p.n; play = idle_play config s p.n k m0 m6 front p.play }) in
    let rest = idles_trans m7 m8 m10
    (idles_each config (λ c. WritesTo hears (Conn c)) 16 (λ c. writes_idles hears (Conn c) config) m7 m8 s8)
    (idles_trans m8 m9 m10 (idles_each config (λ c. WritesTo hears (Intr c)) 16 (λ c. writes_idles hears (Intr c) config) m8 m9 s9)
    (idles_each config (Ends hears) 16 (λ c. ends_idles hears c config) m9 m10 s10)) in
    record {
      n = r.n;
      play = idle_play config s r.n (k + ticks) m7 m10 rest r.play;
      none = subst (λ l. IsNoneDue r.n l) (sym rest.0) r.none;
    }

-- Before the first sweep no millisecond has passed.
pub played_before_sweeps : {W J : Type 0} (config : Config) (start : DriverState W J) → config.clock ≤ last_clock → start.ticks ≡ 0
    → IsScenario 0 start.ahead → Played config start.ahead 0 (driver_view start [])
played_before_sweeps config start clock zero_ticks rising = record {
  n = 0;
  play = record {
    past = [];
    split = refl;
    rising = rising;
    upto = tt;
    is = refl;
    ticks = zero_ticks;
    count = refl;
    within = omega (arith, clock);
    reached = omega arith;
  };
}

-- After a sweep the timed events are those of all milliseconds up to then.
pub played_after_sweep : {W : Type 0} (hears : W → Heard → W → Type 0) (config : Config) (s : List Entry) (passed : List Handed) (ticks : ℕ)
    (a b : DriverView W) → Sweeps hears ticks config a b → Played config s (handed_ticks passed) a
    → Played config s (handed_ticks (Passing ticks ∷ passed)) b × (filter is_timed b.history
    ≡ time_events (min (handed_ticks (Passing ticks ∷ passed)) (last_clock - config.clock)) s)
played_after_sweep hears config s passed ticks a b sweeps p =
    let r = sweep_timed hears config s (handed_ticks passed) ticks a b sweeps p in (
      record { n = r.n; play = r.play },
      timed_here config s r.n (handed_ticks passed + ticks) b r.play r.none ∙ ap (λ (i : ℕ). time_events i s) r.play.reached,
    )

-- ---- a stimulus is handed in

-- The entry comes after all entries that were applied, and before all that are still to come.
with_entry_here : (n : ℕ) (past ahead : List Entry) (entry : Entry) → entry.tick ≡ n → AllUpTo n past → IsNoneDue n ahead
    → with_entry entry (past ++ ahead) ≡ (past ++ entry ∷ []) ++ ahead
with_entry_here n [] [] entry at upto none = refl
with_entry_here n [] (other ∷ ahead) entry at upto none = rw (lt-ltb entry.tick other.tick (omega (arith, at, none))) refl
with_entry_here n (x ∷ past) ahead entry at upto none =
    let le = upto.0 in
    rw (le-ltb entry.tick x.tick (omega (arith, at, le)))
    (ap (λ (l : List Entry). x ∷ l) (with_entry_here n past ahead entry at upto.1 none))

-- The entry adds no event to any other millisecond.
entry_other : (j : ℕ) (s : List Entry) (entry : Entry) → eqb entry.tick j ≡ false → entry_events j (with_entry entry s) ≡ entry_events j s
entry_other j [] entry ne = rw ne refl
entry_other j (x ∷ xs) entry ne = cond_both (nat_lt entry.tick x.tick) (entry ∷ x ∷ xs) (x ∷ with_entry entry xs)
    (λ (l : List Entry). entry_events j l ≡ entry_events j (x ∷ xs)) (λ e. rw ne (append-nil (entry_events j (x ∷ xs))))
    (λ e. ap (λ (l : List PlainEvent). l ++ (if x.tick == j then stimulus_event x.stimulus ∷ [] else [])) (entry_other j xs entry ne))

time_other : (i : ℕ) (s : List Entry) (entry : Entry) → i < entry.tick → time_events i (with_entry entry s) ≡ time_events i s
time_other zero s entry lt = entry_other zero s entry (ne_eqb entry.tick zero (λ e. absurd (omega (arith, lt, e))))
time_other (suc i) s entry lt =
    ap (λ (l : List PlainEvent). l ++ Tick ∷ time_events i (with_entry entry s))
    (entry_other (suc i) s entry (ne_eqb entry.tick (suc i) (λ e. absurd (omega (arith, lt, e)))))
    ∙ ap (λ (l : List PlainEvent). entry_events (suc i) s ++ Tick ∷ l) (time_other i s entry (omega (arith, lt)))

base_other : (n : ℕ) (s : List Entry) (entry : Entry) → entry.tick ≡ n
    → events_before_entries n (with_entry entry s) ≡ events_before_entries n s
base_other zero s entry at = refl
base_other (suc i) s entry at = ap (λ (l : List PlainEvent). Tick ∷ l) (time_other i s entry (omega (arith, at)))

stimulated : {W : Type 0} (config : Config) (s : List Entry) (n k : ℕ) (a b : DriverView W) (stimulus : Stimulus)
    → IsAccepted stimulus → IsApplied (stimulus_event stimulus) config a b → InPlay config s n k a → IsNoneDue n a.ahead
    → InPlay config (with_entry (record { tick = n; stimulus = stimulus }) s) n k b
stimulated config s n k a b stimulus accepted (log, was, answers, to) p none =
    let event = stimulus_event stimulus in
    let entry : Entry = record { tick = n; stimulus = stimulus } in
    let history : b.history ≡ event ∷ a.history = ap (λ m. m.history) to in
    let own : entry_events n (p.past ++ entry ∷ []) ≡ event ∷ entry_events n p.past = entry_events_append n p.past (entry ∷ []) ∙ rw
    (eq-eqb n n refl) refl in
    record {
      past = p.past ++ entry ∷ [];
      split = ap (with_entry entry) p.split ∙ with_entry_here n p.past a.ahead entry refl p.upto none
          ∙ ap (λ l. (p.past ++ entry ∷ []) ++ l) (sym (ap (λ m. m.ahead) to));
      rising = subst (λ l. IsScenario n l) (sym (ap (λ m. m.ahead) to)) p.rising;
      upto = up_to_one_more n p.past entry p.upto (omega arith);
      is = ap (filter is_timed) history ∙ rw (stimulus_timed stimulus).0 (ap (λ (l : List PlainEvent). event ∷ l) p.is)
          ∙ ap (λ (l : List PlainEvent). l ++ events_before_entries n s) (sym own)
          ∙ ap (λ (l : List PlainEvent). entry_events n (p.past ++ entry ∷ []) ++ l) (sym (base_other n s entry refl));
      ticks = ap (λ m. m.ticks) to ∙ p.ticks;
      count = ap (λ h. length (filter is_tick h)) history ∙ rw (stimulus_timed stimulus).1 p.count;
      within = p.within;
      reached = p.reached;
    }

pub handed_in : {W : Type 0} (config : Config) (s : List Entry) (k : ℕ) (a b : DriverView W) (stimulus : Stimulus)
    → IsAccepted stimulus → Stimulates stimulus config a b → Played config s k a
    → let next = with_entry (record { tick = min k (last_clock - config.clock); stimulus = stimulus }) s in
    Played config next k b × (filter is_timed b.history ≡ time_events (min k (last_clock - config.clock)) next)
handed_in config s k a b stimulus accepted (m, played_so, allowed_event_is_applied) p =
    let r = plays config s p.n k a m played_so p.play in
    let q = stimulated config s r.n k m b stimulus accepted allowed_event_is_applied r.play r.none in
    let none : IsNoneDue r.n b.ahead = subst (λ l. IsNoneDue r.n l) (sym (ap (λ m. m.ahead) allowed_event_is_applied.3)) r.none in
    subst (λ (i : ℕ). let next = with_entry (record { tick = i; stimulus = stimulus }) s in
    Played config next k b × (filter is_timed b.history ≡ time_events i next)) r.play.reached
    (record { n = r.n; play = q }, timed_here config _ r.n k b q none)
