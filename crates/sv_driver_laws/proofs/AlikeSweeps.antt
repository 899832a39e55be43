-- Two runs over recorded traces take the same calls, let the same time pass and make the same
-- sweeps, until they differ.
use Rattle.std.proofs.Common.{◌≡◌, ℕ, zero, suc, ◌<◌, ◌≤◌, Bool, true, false, cond, List, [], ◌∷◌, nat_lt, Option, Some, None, Result, Ok, Err, refl, sym, ap, subst, ◌∙◌, inl, inr, arith}
use Rattle.std.specs.Prelude.{⊤, if◌then◌else◌}
use Rattle.std.proofs.Math.Nat.{eq-or-lt_of_le}
use Rattle.std.proofs.lemmas.Bool.{cases_Bool, ltb-true, ltb-false}
use Rattle.sv_links.specs.Channels.{ChannelAct}
use Rattle.sv_history.specs.declared.event.Config.{Config}
use Rattle.sv_history.specs.declared.event.Did.{Did}
use Rattle.sv_history.specs.declared.event.Refused.{Refused}
use Rattle.sv_history.specs.declared.event.Refused.TheVariants.{NoMemory}
use Rattle.sv_history.specs.declared.event.Role.{Role}
use Rattle.sv_history.specs.declared.event.Role.TheVariants.{Core, Abort, Portmap}
use Rattle.sv_history.specs.declared.event.Port.{Port}
use Rattle.sv_history.specs.declared.event.Port.TheVariants.{Conn, Intr}
use Rattle.sv_history.specs.Event.{PlainEvent, Turn, Refuse, Tick, port_number}
use Rattle.sv_history.specs.Act.{Act, device_acts, instrument_acts}
use Rattle.sv_history.specs.Print.{is_no_memory}
use Rattle.sv_history.specs.Requests.{HearsOf}
use Rattle.sv_history.specs.History.{refusal, wants_memory, own_acts, history_after, IsLogOf, AnswersBy, Answers}
use Rattle.sv_history.proofs.Telling.{channel_log_unique}
use Rattle.sv_instrument.specs.Stimulus.{external_acts, tick_acts}
use Rattle.sv_laws.proofs.OneLog.{one_log}
use Rattle.sv_laws.proofs.NothingLost.{instrument_needs_no_memory, tick_needs_no_memory}
use Rattle.sv_replay.specs.Entry.{stimulus_event}
use Rattle.sv_replay.specs.declared.entry.Entry.{Entry}
use Rattle.sv_replay.specs.declared.entry.Stimulus.{Stimulus}
use Rattle.sv_replay.specs.declared.entry.Stimulus.TheVariants as stimuli
use Rattle.sv_serve.specs.DriverView.{ForEach, ◌then◌}
use Rattle.sv_serve.specs.Steps.{Given, IsApplied, Accepts, ReadsFrom, RefusesIf, EndsTurn, TurnsIf, Turns, Dials, WritesTo, Ends}
use Rattle.sv_serve.specs.Sweep.{PlaysOne, Plays, IsNoneDue, Counts, TicksOnce, Passes, Stimulates, Sweeps, Handed, Passing, Stimulated}
use Rattle.sv_driver_laws.specs.Determined.{MemoryDiffers}
use Rattle.sv_driver_laws.proofs.Parts.{grows_each, accepts_grows, reads_grows, turns_grows, dials_grows, passes_grows, writes_grows, ends_grows}
use Rattle.sv_driver_laws.proofs.Serving.{sweep_once}
use Rattle.sv_driver_laws.proofs.Recorded.{Records, lift_each, lift_accepts, lift_reads, lift_turns, lift_dials, lift_writes, lift_ends, lift_passes}
use Rattle.sv_driver_laws.proofs.Keeps.{Subject}
use Rattle.sv_driver_laws.proofs.Peers.{dials, passes, stimulates}
use Rattle.sv_driver_laws.proofs.Carrying.{accepts, reads, turns, writes, ends}
use Rattle.sv_driver_laws.proofs.Alike.{Matches, matches_after_keeps, each_step_matches, View, SameOrForks, Extends, next_step_alike, each_step_alike, same_then, through_records, Any, extends_by, same_answer, same_applied, accepts_alike, reads_alike, dials_alike, writes_alike, same_ends}

-- ---- calls are taken

-- Why an event is refused; `None` if it isn't refused, or if only memory for it is refused.
abbrev check_of : Result Did Refused → Option Refused
check_of (Ok did) = None
check_of (Err refused) = cond (is_no_memory refused) None (Some refused)

check_is : (config : Config) (told : List ChannelAct) (event : PlainEvent) (log : List Act) (result : Result Did Refused)
    → AnswersBy config told event log result → refusal config told event log ≡ check_of result
check_is config told event log (Ok what) h = h.0
check_is config told event log (Err NoMemory) h = h.0
check_is config told event log (Err _) h = h

same_check : (event : PlainEvent) (config : Config) (history : List PlainEvent) (log other : List Act) (one two : Result Did Refused)
    → IsLogOf config history log → IsLogOf config history other → Answers config event log one → Answers config event other two
    → check_of one ≡ check_of two
same_check event config history log other one two was also (told, hears, h) (heard, tells, k) =
    let same = one_log config history log other was also in
    let listed = channel_log_unique (device_acts other) told heard (subst (λ (l : List Act). HearsOf (device_acts l) told) same hears) tells
    in
    sym (check_is config told event log one h) ∙ ap (λ (l : List Act). refusal config told event l) same
    ∙ ap (λ (l : List ChannelAct). refusal config l event other) listed ∙ check_is config heard event other two k

refuses_now : (n : ℕ) (so : Bool) (config : Config) (a b : View) → so ≡ true → RefusesIf n so config a b
    → b ≡ record a { history = Refuse n ∷ a.history }
refuses_now n true config a b e (log, was, answers, is) = is
refuses_now n false config a b e h = absurd cc

refuses_not : (n : ℕ) (so : Bool) (config : Config) (a b : View) → so ≡ false → RefusesIf n so config a b → b ≡ a
refuses_not n true config a b e h = absurd cc
refuses_not n false config a b e is = is

-- If memory for a call is refused in one run only, the runs differ in this.
memory_differs : (n : ℕ) (refused : Refused) (config : Config) (a b c : View) → Matches a → None ≡ check_of (Err refused)
    → b ≡ record a { history = Turn n ∷ a.history } → RefusesIf n (is_no_memory refused) config a c
    → MemoryDiffers b.wire b.history c.wire c.history
memory_differs n refused config a b c told e x h = elim (cases_Bool (is_no_memory refused)) [
  | inl so ↦
      let y = refuses_now n (is_no_memory refused) config a c so h in (
        n,
        [],
        [],
        a.wire,
        [],
        [],
        a.history,
        ap (λ v. v.wire) x,
        ap (λ v. v.wire) y,
        ap (λ v. v.history) x,
        ap (λ v. v.history) y,
        told,
      )
  | inr so ↦ absurd (let z : None ≡ Some refused = rw so at e in cc)
]

both_refuse : (n : ℕ) (one two : Refused) (config : Config) (a b c : View) → check_of (Err one) ≡ check_of (Err two)
    → RefusesIf n (is_no_memory one) config a b → RefusesIf n (is_no_memory two) config a c → b ≡ c
both_refuse n one two config a b c e h k = elim (cases_Bool (is_no_memory one)) [
  | inl x ↦ elim (cases_Bool (is_no_memory two)) [
    | inl y ↦ refuses_now n (is_no_memory one) config a b x h ∙ sym (refuses_now n (is_no_memory two) config a c y k)
    | inr y ↦ absurd (let z : None ≡ Some two = rw (x, y) at e in cc)
  ]
  | inr x ↦ elim (cases_Bool (is_no_memory two)) [
    | inl y ↦ absurd (let z : Some one ≡ None = rw (x, y) at e in cc)
    | inr y ↦ refuses_not n (is_no_memory one) config a b x h ∙ sym (refuses_not n (is_no_memory two) config a c y k)
  ]
]

turn_alike : (n : ℕ) (one two : Result Did Refused) (config : Config) (a m k b c : View) → Matches a → check_of one ≡ check_of two
    → m ≡ record a { history = history_after (Turn n) one a.history } → k ≡ record a { history = history_after (Turn n) two a.history }
    → EndsTurn n one config m b → EndsTurn n two config k c → SameOrForks b c
turn_alike n (Ok did) (Ok what) config a m k b c told e x y s t = inl (s ∙ x ∙ sym y ∙ sym t)
turn_alike n (Ok did) (Err refused) config a m k b c told e x y s t =
    inr (inr (inl (memory_differs n refused config a b c told e (s ∙ x) (subst (λ v. RefusesIf n (is_no_memory refused) config v c) y t))))
turn_alike n (Err refused) (Ok did) config a m k b c told e x y s t =
    inr (inr (inr (memory_differs n refused config a c b told (sym e) (t ∙ y)
    (subst (λ v. RefusesIf n (is_no_memory refused) config v b) x s))))
turn_alike n (Err one) (Err two) config a m k b c told e x y s t = inl (both_refuse n one two config a b c e
    (subst (λ v. RefusesIf n (is_no_memory one) config v b) x s) (subst (λ v. RefusesIf n (is_no_memory two) config v c) y t))

pub turns_alike : (n : ℕ) (config : Config) (a b c : View) → Matches a → Turns n config a b → Turns n config a c → SameOrForks b c
turns_alike n config a b c told (ready, is, h) (other, so, k) = by ready h
    (subst (λ (r : Bool). TurnsIf n r config a c) (sym (same_answer _ config a.history ready other is so)) k)
  where
    by : (ready : Bool) → TurnsIf n ready config a b → TurnsIf n ready config a c → SameOrForks b c
    by false x y = inl (x ∙ sym y)
    by true (one, (m, (log, was, answers, x), s)) (two, (k, (other, also, answer, y), t)) =
        turn_alike n one two config a m k b c told (same_check (Turn n) config a.history log other one two was also answers answer) x y s t

-- ---- time passes

-- The event never needs memory.
abbrev NeedsNone : PlainEvent → Type 0
NeedsNone event = (config : Config) (polled : ℕ) (log : List Act) → wants_memory (device_acts (own_acts config polled event log)) ≡ false

-- Whether the event wasn't refused.
abbrev is_not_refused : Result Did Refused → Bool
is_not_refused (Ok did) = true
is_not_refused (Err refused) = false

not_none : (config : Config) (told : List ChannelAct) (event : PlainEvent) (log : List Act) (refused : Refused) → NeedsNone event
    → AnswersBy config told event log (Err refused) → is_no_memory refused ≡ false
not_none config told event log NoMemory needs (free, polled, said, wants) =
    absurd (let z : true ≡ false = sym wants ∙ needs config polled log in cc)
not_none config told event log _ needs h = refl

same_is_not_refused : (event : PlainEvent) (config : Config) (one two : Result Did Refused) (log other : List Act) → NeedsNone event
    → Answers config event log one → Answers config event other two → check_of one ≡ check_of two → is_not_refused one ≡ is_not_refused two
same_is_not_refused event config (Ok did) (Ok what) log other needs h k e = refl
same_is_not_refused event config (Ok did) (Err refused) log other needs h (told, hears, k) e =
    absurd (let z : None ≡ Some refused = rw (not_none config told event other refused needs k) at e in cc)
same_is_not_refused event config (Err refused) (Ok did) log other needs (told, hears, h) k e =
    absurd (let z : Some refused ≡ None = rw (not_none config told event log refused needs h) at e in cc)
same_is_not_refused event config (Err refused) (Err reason) log other needs h k e = refl

after_as : (event : PlainEvent) (one two : Result Did Refused) (history : List PlainEvent) → is_not_refused one ≡ is_not_refused two
    → history_after event one history ≡ history_after event two history
after_as event (Ok did) (Ok what) history e = refl
after_as event (Ok did) (Err refused) history e = absurd cc
after_as event (Err refused) (Ok did) history e = absurd cc
after_as event (Err refused) (Err reason) history e = refl

same_given : (event : PlainEvent) (one two : Result Did Refused) (config : Config) (a b c : View) → NeedsNone event
    → Given event one config a b → Given event two config a c → (is_not_refused one ≡ is_not_refused two) × (b ≡ c)
same_given event one two config a b c needs (log, was, answers, is) (other, also, answer, so) =
    let same = same_is_not_refused event config one two log other needs answers answer
    (same_check event config a.history log other one two was also answers answer) in
    (same, is ∙ ap (λ (h : List PlainEvent). record a { history = h }) (after_as event one two a.history same) ∙ sym so)

stimulus_needs : (stimulus : Stimulus) → NeedsNone (stimulus_event stimulus)
stimulus_needs (stimuli.Input channel microvolts) config polled log = refl
stimulus_needs stimuli.External config polled log = instrument_needs_no_memory (external_acts (instrument_acts (device_acts log)))

tick_needs : NeedsNone Tick
tick_needs config polled log = tick_needs_no_memory (tick_acts (instrument_acts (device_acts log)))

same_plays_one : (config : Config) (a b c : View) → PlaysOne config a b → PlaysOne config a c → b ≡ c
same_plays_one config a b c (entry, others, m, first, due, (one, h), x) (other, rest, k, start, late, (two, g), y) =
    let both : entry ∷ others ≡ other ∷ rest = sym first ∙ start in
    let same : entry ≡ other = cc in
    let left : others ≡ rest = cc in
    let mid = (same_given (stimulus_event entry.stimulus) one two config a m k (stimulus_needs entry.stimulus) h
    (subst (λ (e : Entry). Given (stimulus_event e.stimulus) two config a k) (sym same) g)).1 in
    x ∙ ap (λ (v : View). record v { ahead = others }) mid ∙ ap (λ (l : List Entry). record k { ahead = l }) left ∙ sym y

same_each : (config : Config) (n : ℕ) (a b c : View) → ForEach n (λ i. PlaysOne) config a b → ForEach n (λ i. PlaysOne) config a c → b ≡ c
same_each config zero a b c x y = x ∙ sym y
same_each config (suc n) a b c (m, x, s) (k, y, t) =
    same_plays_one config m b c s (subst (λ v. PlaysOne config v c) (sym (same_each config n a m k x y)) t)

not_due : (config : Config) (a b : View) → IsNoneDue a.ticks a.ahead → PlaysOne config a b → ⊥
not_due config a b none (entry, others, m, first, due, applies, is) =
    let lt : a.ticks < entry.tick = subst (IsNoneDue a.ticks) first none in omega (arith, lt, due)

abbrev plus_on_right : ℕ → ℕ → ℕ
plus_on_right n zero = n
plus_on_right n (suc i) = suc (plus_on_right n i)

-- A longer run of entries begins with a shorter run and one entry more.
longer_run_has_one_more : (config : Config) (n i : ℕ) (a c : View) → ForEach (suc (plus_on_right n i)) (λ i. PlaysOne) config a c
    → (x y : View) × ForEach n (λ i. PlaysOne) config a x × PlaysOne config x y
longer_run_has_one_more config n zero a c (m, x, s) = (m, c, x, s)
longer_run_has_one_more config n (suc i) a c (m, x, s) = longer_run_has_one_more config n i a m x

none_longer : (config : Config) (n i : ℕ) (a b c : View) → ForEach n (λ i. PlaysOne) config a b → IsNoneDue b.ticks b.ahead
    → ForEach (suc (plus_on_right n i)) (λ i. PlaysOne) config a c → ⊥
none_longer config n i a b c x none y =
    let (at, after, front, plays) = longer_run_has_one_more config n i a c y in
    not_due config b after none (subst (λ v. PlaysOne config v after) (same_each config n a at b front x) plays)

higher_is_lower_plus : (n k : ℕ) → n < k → (i : ℕ) × (k ≡ suc (plus_on_right n i))
higher_is_lower_plus n zero lt = absurd (omega (arith, lt))
higher_is_lower_plus n (suc k) lt = let le : n ≤ k = omega (arith, lt) in elim (eq-or-lt_of_le le) [
  | inl e ↦ (0, ap (λ (m : ℕ). suc m) (sym e))
  | inr less ↦ let rest = higher_is_lower_plus n k less in (suc rest.0, ap (λ (m : ℕ). suc m) rest.1)
]

same_plays : (config : Config) (a b c : View) → Plays config a b → Plays config a c → b ≡ c
same_plays config a b c (n, x, none) (k, y, nothing) = elim (cases_Bool (nat_lt n k)) [
  | inl e ↦
      let i = higher_is_lower_plus n k (ltb-true n k e) in
      absurd (none_longer config n i.0 a b c x none (subst (λ (m : ℕ). ForEach m (λ i. PlaysOne) config a c) i.1 y))
  | inr e ↦ elim (eq-or-lt_of_le (ltb-false n k e)) [
    | inl same ↦ same_each config n a b c x (subst (λ (m : ℕ). ForEach m (λ i. PlaysOne) config a c) same y)
    | inr less ↦
        let i = higher_is_lower_plus k n less in
        absurd (none_longer config k i.0 a c b y nothing (subst (λ (m : ℕ). ForEach m (λ i. PlaysOne) config a b) i.1 x))
  ]
]

same_counts : (one two : Result Did Refused) (config : Config) (a b c : View) → is_not_refused one ≡ is_not_refused two
    → Counts one config a b → Counts two config a c → b ≡ c
same_counts (Ok did) (Ok what) config a b c e x y = x ∙ sym y
same_counts (Ok did) (Err refused) config a b c e x y = absurd cc
same_counts (Err refused) (Ok did) config a b c e x y = absurd cc
same_counts (Err refused) (Err reason) config a b c e x y = x ∙ sym y

same_tick : (config : Config) (a b c : View) → TicksOnce config a b → TicksOnce config a c → b ≡ c
same_tick config a b c (one, (m, h, s)) (two, (k, g, t)) =
    let (same, mid) = same_given Tick one two config a m k tick_needs h g in
    same_counts one two config m b c same s (subst (λ v. Counts two config v c) (sym mid) t)

same_passing : (config : Config) (n : ℕ) (a b c : View) → ForEach n (λ i. Plays then TicksOnce) config a b
    → ForEach n (λ i. Plays then TicksOnce) config a c → b ≡ c
same_passing config zero a b c x y = x ∙ sym y
same_passing config (suc n) a b c (m, x, s) (k, y, t) = same_then Plays TicksOnce config m b c (same_plays config m) (same_tick config) s
    (subst (λ v. (Plays then TicksOnce) config v c) (sym (same_passing config n a m k x y)) t)

pub same_passes : (ticks : ℕ) (config : Config) (a b c : View) → Passes ticks config a b → Passes ticks config a c → b ≡ c
same_passes ticks config a b c x y =
    same_then (ForEach ticks (λ i. Plays then TicksOnce)) Plays config a b c (same_passing config ticks a) (same_plays config) x y

-- ---- a stimulus is handed in

same_stimulates : (stimulus : Stimulus) (config : Config) (a b c : View) → Stimulates stimulus config a b → Stimulates stimulus config a c
    → b ≡ c
same_stimulates stimulus config a b c x y = same_then Plays (IsApplied (stimulus_event stimulus)) config a b c (same_plays config a)
    (λ m b c. same_applied (stimulus_event stimulus) config m b c) x y

stimulus_extends : (stimulus : Stimulus) (config : Config) (a b : View) → Stimulates stimulus config a b → Extends a b
stimulus_extends stimulus config a b h =
    let k = stimulates Records (λ s. ⊤) config stimulus a b h in
    (k.piece, k.events, through_records k.piece a.wire b.wire k.through, k.grown)

-- ---- sweeps

pub sweeps_alike : (ticks : ℕ) (config : Config) (a b c : View) → Matches a → Sweeps Records ticks config a b
    → Sweeps Records ticks config a c → SameOrForks b c
sweeps_alike ticks config a b c told (m1, s1, (m2, s2, (m3, s3, (m4, s4, (m5, s5, (m6, s6, (m7, s7, (m8, s8, (m9, s9, s10)))))))))
    (n1, t1, (n2, t2, (n3, t3, (n4, t4, (n5, t5, (n6, t6, (n7, t7, (n8, t8, (n9, t9, t10))))))))) =
    let accept = λ (role : Role) (x y : View) (h : Accepts Records role config x y). extends_by (Accepts Records role) config x y
    (lift_accepts Records role config x y [] h) (accepts_grows Any Records role config x y (λ n. tt) h) in
    let write = λ (port : Port) (x y : View) (h : WritesTo Records port config x y). extends_by (WritesTo Records port) config x y
    (lift_writes Records port config x y [] h) (writes_grows Any Records port config x y ((λ n. tt), tt) h) in
    let May : Subject → Type 0 = λ s. ⊤ in
    let r1 = matches_after_keeps config a m1 (accepts Records May config (λ n. tt) Core a m1 s1) told in
    let r2 = matches_after_keeps config m1 m2 (accepts Records May config (λ n. tt) Abort m1 m2 s2) r1 in
    let r3 = matches_after_keeps config m2 m3 (accepts Records May config (λ n. tt) Portmap m2 m3 s3) r2 in
    let r4 = each_step_matches (ReadsFrom Records) config 16 kept_reading (omega arith) m3 m4 r3 s4 in
    let r5 = each_step_matches Turns config 16 kept_turning (omega arith) m4 m5 r4 s5 in
    let r6 = each_step_matches (Dials Records) config 16 kept_dialing (omega arith) m5 m6 r5 s6 in
    let r7 = matches_after_keeps config m6 m7 (passes Records May config ticks m6 m7 s7) r6 in
    let r8 = each_step_matches (λ i. WritesTo Records (Conn i)) config 16 (λ i. kept_writing (Conn i)) (omega arith) m7 m8 r7 s8 in
    let r9 = each_step_matches (λ i. WritesTo Records (Intr i)) config 16 (λ i. kept_writing (Intr i)) (omega arith) m8 m9 r8 s9 in
    let o1 = accepts_alike Core config a m1 n1 told s1 t1 in
    let o2 = next_step_alike (Accepts Records Abort) config m1 n1 m2 n2 (accepts_alike Abort config) (accept Abort) r1 o1 s2 t2 in
    let o3 = next_step_alike (Accepts Records Portmap) config m2 n2 m3 n3 (accepts_alike Portmap config) (accept Portmap) r2 o2 s3 t3 in
    let o4 = next_step_alike (ForEach 16 (ReadsFrom Records)) config m3 n3 m4 n4
    (each_step_alike (ReadsFrom Records) config 16 (λ i. reads_alike i config) reading kept_reading (omega arith))
    (λ x y h. extends_by (ForEach 16 (ReadsFrom Records)) config x y
    (lift_each Records (ReadsFrom Records) (ReadsFrom Records) config 16 (λ i. lift_reads Records i config) x y [] h)
    (grows_each Any config (ReadsFrom Records) 16 (λ i x y. reads_grows Any Records i config x y (λ bytes. tt) tt) x y h)) r3 o3 s4 t4 in
    let o5 = next_step_alike (ForEach 16 Turns) config m4 n4 m5 n5
    (each_step_alike Turns config 16 (λ i. turns_alike i config) turning kept_turning
    (omega arith))
    (λ x y h. extends_by (ForEach 16 Turns) config x y
    (lift_each Records Turns Turns config 16 (λ i. lift_turns Records i config) x y [] h)
    (grows_each Any config Turns 16 (λ i x y. turns_grows Any i config x y tt tt) x y h)) r4 o4 s5 t5 in
    let o6 = next_step_alike (ForEach 16 (Dials Records)) config m5 n5 m6 n6 (each_step_alike (Dials Records) config 16
    (λ i. dials_alike i config) dialing kept_dialing (omega arith))
    (λ x y h. extends_by (ForEach 16 (Dials Records)) config x y
    (lift_each Records (Dials Records) (Dials Records) config 16 (λ i. lift_dials Records i config) x y [] h)
    (grows_each Any config (Dials Records) 16 (λ i x y. dials_grows Any Records i config x y (λ ok. tt)) x y h)) r5 o5 s6 t6 in
    let o7 = next_step_alike (Passes ticks) config m6 n6 m7 n7 (λ x y z told h k. inl (same_passes ticks config x y z h k))
    (λ x y h. extends_by (Passes ticks) config x y (lift_passes Records ticks config x y [] h)
    (passes_grows Any ticks config x y ((λ channel microvolts. tt), tt, tt) h)) r6 o6 s7 t7 in
    let o8 = next_step_alike (ForEach 16 (λ i. WritesTo Records (Conn i))) config m7 n7 m8 n8
    (each_step_alike (λ i. WritesTo Records (Conn i)) config 16 (λ i. writes_alike (Conn i) config) (λ i. write (Conn i)) (λ i. kept_writing
    (Conn i)) (omega arith))
    (λ x y h. extends_by (ForEach 16 (λ i. WritesTo Records (Conn i))) config x y
    (lift_each Records (λ i. WritesTo Records (Conn i)) (λ i. WritesTo Records (Conn i)) config 16 (λ i. lift_writes Records
    (Conn i) config) x y [] h)
    (grows_each Any config (λ i. WritesTo Records (Conn i)) 16 (λ i x y. writes_grows Any Records (Conn i) config x y
    ((λ n. tt), tt)) x y h))
    r7 o7 s8 t8 in
    let o9 = next_step_alike (ForEach 16 (λ i. WritesTo Records (Intr i))) config m8 n8 m9 n9
    (each_step_alike (λ i. WritesTo Records (Intr i)) config 16 (λ i. writes_alike (Intr i) config) (λ i. write (Intr i)) (λ i. kept_writing
    (Intr i)) (omega arith))
    (λ x y h. extends_by (ForEach 16 (λ i. WritesTo Records (Intr i))) config x y
    (lift_each Records (λ i. WritesTo Records (Intr i)) (λ i. WritesTo Records (Intr i)) config 16 (λ i. lift_writes Records
    (Intr i) config) x y [] h)
    (grows_each Any config (λ i. WritesTo Records (Intr i)) 16 (λ i x y. writes_grows Any Records (Intr i) config x y
    ((λ n. tt), tt)) x y h))
    r8 o8 s9 t9 in
    next_step_alike (ForEach 16 (Ends Records)) config m9 n9 b c
    (each_step_alike (Ends Records) config 16 (λ i x y z told h k. inl (same_ends i config x y z h k)) ending kept_ending (omega arith))
    (λ x y h. extends_by (ForEach 16 (Ends Records)) config x y
    (lift_each Records (Ends Records) (Ends Records) config 16 (λ i. lift_ends Records i config) x y [] h)
    (grows_each Any config (Ends Records) 16 (λ i x y. ends_grows Any Records i config x y tt) x y h)) r9 o9 s10 t10
  where
    kept_reading : (i : ℕ) (x y : View) → i < 16 → ReadsFrom Records i config x y → Matches x → Matches y
    kept_reading i x y lt h = matches_after_keeps config x y (reads Records (λ s. ⊤) config i (tt, tt) tt x y h)

    kept_turning : (i : ℕ) (x y : View) → i < 16 → Turns i config x y → Matches x → Matches y
    kept_turning i x y lt h = matches_after_keeps config x y (turns Records (λ s. ⊤) config i x y h)

    kept_dialing : (i : ℕ) (x y : View) → i < 16 → Dials Records i config x y → Matches x → Matches y
    kept_dialing i x y lt h = matches_after_keeps config x y (dials Records (λ s. ⊤) config i tt x y h)

    kept_writing : (port : Port) (x y : View) → port_number port < 16 → WritesTo Records port config x y → Matches x → Matches y
    kept_writing port x y lt h = matches_after_keeps config x y (writes Records (λ s. ⊤) config port (tt, tt) x y h)

    kept_ending : (i : ℕ) (x y : View) → i < 16 → Ends Records i config x y → Matches x → Matches y
    kept_ending i x y lt h = matches_after_keeps config x y (ends Records (λ s. ⊤) config i (tt, tt) x y h)

    reading : (i : ℕ) (x y : View) → ReadsFrom Records i config x y → Extends x y
    reading i x y h = extends_by (ReadsFrom Records i) config x y (lift_reads Records i config x y [] h)
        (reads_grows Any Records i config x y (λ bytes. tt) tt h)

    turning : (i : ℕ) (x y : View) → Turns i config x y → Extends x y
    turning i x y h = extends_by (Turns i) config x y (lift_turns Records i config x y [] h) (turns_grows Any i config x y tt tt h)

    dialing : (i : ℕ) (x y : View) → Dials Records i config x y → Extends x y
    dialing i x y h = extends_by (Dials Records i) config x y (lift_dials Records i config x y [] h)
        (dials_grows Any Records i config x y (λ ok. tt) h)

    ending : (i : ℕ) (x y : View) → Ends Records i config x y → Extends x y
    ending i x y h = extends_by (Ends Records i) config x y (lift_ends Records i config x y [] h) (ends_grows Any Records i config x y tt h)

sweep_extends : (ticks : ℕ) (config : Config) (a b : View) → Sweeps Records ticks config a b → Extends a b
sweep_extends ticks config a b h =
    let k = (sweep_once Records config ticks a b h).k in (k.piece, k.events, through_records k.piece a.wire b.wire k.through, k.grown)

-- A run of sweeps and stimuli over a recorded trace.
abbrev pub Runs : Config → List Handed → View → View → Type 0
Runs config [] start now = now ≡ start
Runs config (Passing ticks ∷ handed) start now = (between : View) × Runs config handed start between
    × Sweeps Records ticks config between now
Runs config (Stimulated stimulus ∷ handed) start now = (between : View) × Runs config handed start between
    × Stimulates stimulus config between now

runs_told : (config : Config) (handed : List Handed) (start now : View) → Matches start → Runs config handed start now → Matches now
runs_told config [] start now told is = subst Matches (sym is) told
runs_told config (Passing ticks ∷ handed) start now told (m, x, s) =
    matches_after_keeps config m now (sweep_once Records config ticks m now s).k (runs_told config handed start m told x)
runs_told config (Stimulated stimulus ∷ handed) start now told (m, x, s) =
    matches_after_keeps config m now (stimulates Records (λ s. ⊤) config stimulus m now s) (runs_told config handed start m told x)

pub runs_alike : (config : Config) (handed : List Handed) (start now end : View) → Matches start → Runs config handed start now
    → Runs config handed start end → SameOrForks now end
runs_alike config [] start now end told x y = inl (x ∙ sym y)
runs_alike config (Passing ticks ∷ handed) start now end told (m, x, s) (k, y, t) =
    next_step_alike (Sweeps Records ticks) config m k now end (sweeps_alike ticks config) (sweep_extends ticks config)
    (runs_told config handed start m told x) (runs_alike config handed start m k told x y) s t
runs_alike config (Stimulated stimulus ∷ handed) start now end told (m, x, s) (k, y, t) =
    next_step_alike (Stimulates stimulus) config m k now end (λ x y z told h k. inl (same_stimulates stimulus config x y z h k))
    (stimulus_extends stimulus config) (runs_told config handed start m told x) (runs_alike config handed start m k told x y) s t
