-- Two runs over recorded traces are the same until their wires answer differently or memory is
-- refused.
use Rattle.std.proofs.Common.{◌≡◌, ◌≢◌, ◌⊎◌, ℕ, zero, suc, ◌<◌, ◌≤◌, Bool, true, false, List, [], ◌∷◌, ◌++◌, length, filter, flat_map, nat_lt, Option, Some, None, refl, sym, ap, subst, ◌∙◌, inl, inr, append_assoc, arith}
use Rattle.std.specs.Prelude.{◌==◌, ◌||◌, ⊤, min, if◌then◌else◌}
use Rattle.std.proofs.Math.Nat.{eq-or-lt_of_le}
use Rattle.std.proofs.lemmas.Bool.{cases_Bool, cases_eq, ltb-true, ltb-false}
use Rattle.sv_links.specs.Channels.{ChannelAct}
use Rattle.sv_history.specs.declared.event.Config.{Config}
use Rattle.sv_history.specs.declared.event.Dial.{Dial}
use Rattle.sv_history.specs.declared.event.Role.{Role}
use Rattle.sv_history.specs.declared.event.Port.{Port}
use Rattle.sv_history.specs.declared.event.Port.TheVariants.{Conn, Intr}
use Rattle.sv_history.specs.Event.{PlainEvent, Open, Bytes, Turn, Refuse, Took, Close, Dialed}
use Rattle.sv_history.specs.Act.{Act, device_acts}
use Rattle.sv_history.specs.Queries.{Answered, WaitOn}
use Rattle.sv_history.specs.Connection.{waiting_on}
use Rattle.sv_history.specs.Requests.{HearsOf}
use Rattle.sv_history.proofs.Telling.{channel_log_unique}
use Rattle.sv_laws.proofs.OneLog.{one_log}
use Rattle.sv_serve.specs.declared.wire.Answer.{Answer}
use Rattle.sv_serve.specs.declared.wire.Answer.TheVariants.{Got, Pending, Failed}
use Rattle.sv_serve.specs.Heard.{Heard, WasAccepted, WasRead, WasProbed, WasWritten, WasDialed, PeerAnswered, WasClosed, Through}
use Rattle.sv_serve.specs.DriverView.{DriverView, ForEach, ◌then◌}
use Rattle.sv_serve.specs.Asked.{IsLowest}
use Rattle.sv_serve.specs.Steps.{Hears, IsApplied, Remembers, dialed_of, is_wanted, Opens, Accepts, ClosesChannelOn, ClosesChannel, Closes, ClosesIf, Comes, Drops, ProbesIf, ReadsUpTo, ReadsFrom, KeepsDial, CancelsUnwanted, ConnectResult, PollResult, DialsFor, Connects, Dials, EndsWrite, WritesAll, WritesTo, EndsIf, Ends, longest_piece}
use Rattle.sv_driver_laws.specs.Served.{event_of, is_outer}
use Rattle.sv_driver_laws.proofs.Keeps.{Keeps}
use Rattle.sv_driver_laws.proofs.Reasons.{matching_append}
use Rattle.sv_driver_laws.proofs.Peers.{cancels_unwanted_keeps}
use Rattle.sv_driver_laws.specs.Determined.{question, AnswersDiffer, MemoryDiffers}
use Rattle.sv_driver_laws.proofs.Parts.{Grows, opens_grows, comes_grows, drops_grows, dials_for_grows, connect_result_grows, poll_result_grows, ends_write_grows}
use Rattle.sv_driver_laws.proofs.Recorded.{Records, Step, Lifts, lift_opens, lift_comes, lift_drops, lift_connect_result, lift_poll_result, lift_connects, lift_ends_write}

abbrev pub View : Type 0
View = DriverView (List Heard)

-- ---- how two runs can differ

abbrev pub Forks : View → View → Type 0
Forks b c = AnswersDiffer b.wire b.history c.wire c.history ⊎ MemoryDiffers b.wire b.history c.wire c.history
    ⊎ MemoryDiffers c.wire c.history b.wire b.history

-- The history's events from the wire are those that the answers of the trace cause.
abbrev pub Matches : View → Type 0
Matches a = filter is_outer a.history ≡ flat_map event_of a.wire

abbrev pub SameOrForks : View → View → Type 0
SameOrForks b c = (b ≡ c) ⊎ Forks b c

-- The trace and the history of the second state continue those of the first.
abbrev pub Extends : View → View → Type 0
Extends a b = (piece : List Heard) × (events : List PlainEvent) × (b.wire ≡ piece ++ a.wire) × (b.history ≡ events ++ a.history)

pub append_front : {A : Type 0} (xs ys zs now then_now : List A) → now ≡ xs ++ then_now → then_now ≡ ys ++ zs → now ≡ (xs ++ ys) ++ zs
append_front xs ys zs now then_now x y = x ∙ ap (λ l. xs ++ l) y ∙ sym (append_assoc xs ys zs)

memory_more : (b c d e : View) → MemoryDiffers b.wire b.history c.wire c.history → Extends b d → Extends c e
    → MemoryDiffers d.wire d.history e.wire e.history
memory_more b c d e (n, newer, later, older, events, more, past, x, y, z, w, told) (p, q, f, g) (r, s, h, k) = (
  n,
  p ++ newer,
  r ++ later,
  older,
  q ++ events,
  s ++ more,
  past,
  append_front p newer older d.wire b.wire f x,
  append_front r later older e.wire c.wire h y,
  append_front q events (Turn n ∷ past) d.history b.history g z,
  append_front s more (Refuse n ∷ past) e.history c.history k w,
  told,
)

pub forks_more : (b c d e : View) → Forks b c → Extends b d → Extends c e → Forks d e
forks_more b c d e (inl (heard, answer, newer, later, older, events, more, past, x, y, z, w, told, asked, apart)) (p, q, f, g)
    (r, s, h, k) = inl (
      heard,
      answer,
      p ++ newer,
      r ++ later,
      older,
      q ++ events,
      s ++ more,
      past,
      append_front p newer (heard ∷ older) d.wire b.wire f x,
      append_front r later (answer ∷ older) e.wire c.wire h y,
      append_front q events past d.history b.history g z,
      append_front s more past e.history c.history k w,
      told,
      asked,
      apart,
    )
forks_more b c d e (inr (inl m)) x y = inr (inl (memory_more b c d e m x y))
forks_more b c d e (inr (inr m)) x y = inr (inr (memory_more c b e d m y x))

-- Two runs that are the same, or differ from some moment on, do so after their next step too.
pub next_step_alike : (step : Step (List Heard)) (config : Config) (m n b c : View)
    → ((a b c : View) → Matches a → step config a b → step config a c → SameOrForks b c) → ((a b : View) → step config a b → Extends a b)
    → Matches m → SameOrForks m n → step config m b → step config n c → SameOrForks b c
next_step_alike step config m n b c alike more told (inl same) x y = alike m b c told x (subst (λ k. step config k c) (sym same) y)
next_step_alike step config m n b c alike more told (inr forks) x y = inr (forks_more m n b c forks (more m b x) (more n c y))

pub each_step_matches : (step : ℕ → Step (List Heard)) (config : Config) (n : ℕ)
    → ((i : ℕ) (a b : View) → i < 16 → step i config a b → Matches a → Matches b) → n ≤ 16 → (a b : View) → Matches a
    → ForEach n step config a b → Matches b
each_step_matches step config zero keeps le a b told is = subst Matches (sym is) told
each_step_matches step config (suc n) keeps le a b told (m, x, s) =
    keeps n m b (omega (arith, le)) s (each_step_matches step config n keeps (omega (arith, le)) a m told x)

pub each_step_alike : (step : ℕ → Step (List Heard)) (config : Config) (n : ℕ)
    → ((i : ℕ) (a b c : View) → Matches a → step i config a b → step i config a c → SameOrForks b c)
    → ((i : ℕ) (a b : View) → step i config a b → Extends a b) → ((i : ℕ) (a b : View) → i < 16 → step i config a b → Matches a → Matches b)
    → n ≤ 16 → (a b c : View) → Matches a → ForEach n step config a b → ForEach n step config a c → SameOrForks b c
each_step_alike step config zero alike more keeps le a b c told x y = inl (x ∙ sym y)
each_step_alike step config (suc n) alike more keeps le a b c told (m, x, s) (k, y, t) =
    next_step_alike (step n) config m k b c (alike n) (more n) (each_step_matches step config n keeps (omega (arith, le)) a m told x)
    (each_step_alike step config n alike more keeps (omega (arith, le)) a m k told x y) s t

pub same_then : (one other : Step (List Heard)) (config : Config) (a b c : View) → ((m n : View) → one config a m → one config a n → m ≡ n)
    → ((m b c : View) → other config m b → other config m c → b ≡ c) → (one then other) config a b → (one then other) config a c → b ≡ c
same_then one other config a b c first last (m, x, y) (n, z, w) = last m b c y (subst (λ k. other config k c) (sym (first m n x z)) w)

-- ---- the answers of the wire

pub through_records : (piece from to : List Heard) → Through Records piece from to → to ≡ piece ++ from
through_records [] from to is = is
through_records (heard ∷ piece) from to (between, h, is) = is ∙ ap (λ (l : List Heard). heard ∷ l) (through_records piece from between h)

abbrev pub Any : PlainEvent → Type 0
Any event = ⊤

pub extends_by : (step : Step (List Heard)) (config : Config) (a b : View) → Lifts Records step config a b [] → Grows Any a b → Extends a b
extends_by step config a b (later, (piece, is, through), h) (events, grown, all) =
    (piece, events, through_records piece a.wire b.wire through, grown)

heard_is : (heard : Heard) (config : Config) (a m : View) → Hears Records heard config a m → m ≡ record a { wire = heard ∷ a.wire }
heard_is heard config a m (wire, was, is) = is ∙ ap (λ (w : List Heard). record a { wire = w }) was

-- Both runs ask the wire the same. If the answers are equal, the runs stay the same; else they
-- differ from then on.
pub same_question_alike : {A : Type 0} (f : A → Heard) (next : A → Step (List Heard)) (config : Config) (x y : A) → (x ≡ y) ⊎ (x ≢ y)
    → (question (f x) ≡ question (f y)) → (f x ≡ f y → x ≡ y) → ((z : A) (m b c : View) → next z config m b → next z config m c → b ≡ c)
    → ((z : A) (m b : View) → next z config m b → Extends m b)
    → (a b c : View) → Matches a → (Hears Records (f x) then next x) config a b → (Hears Records (f y) then next y) config a c
    → SameOrForks b c
same_question_alike f next config x y (inl same) asked apart alike more a b c told (m, h, s) (n, k, t) =
    let one : n ≡ m = heard_is (f y) config a n k ∙ ap (λ z. record a { wire = f z ∷ a.wire }) (sym same)
    ∙ sym (heard_is (f x) config a m h) in
    inl (alike x m b c s (subst (λ z. next z config m c) (sym same) (subst (λ v. next y config v c) one t)))
same_question_alike f next config x y (inr differ) asked apart alike more a b c told (m, h, s) (n, k, t) =
    let one = heard_is (f x) config a m h in
    let two = heard_is (f y) config a n k in
    inr (forks_more m n b c (inl (
      f x,
      f y,
      [],
      [],
      a.wire,
      [],
      [],
      a.history,
      ap (λ v. v.wire) one,
      ap (λ v. v.wire) two,
      ap (λ v. v.history) one,
      ap (λ v. v.history) two,
      told,
      asked,
      (λ e. differ (apart e)),
    )) (more x m b s) (more y n c t))

-- ---- two answers are equal or not

cases_answer : {A : Type 0} (same_or_not : (a b : A) → (a ≡ b) ⊎ (a ≢ b)) (x y : Answer A) → (x ≡ y) ⊎ (x ≢ y)
cases_answer same_or_not (Got a) (Got b) = elim (same_or_not a b) [
  | inl e ↦ inl (ap Got e)
  | inr e ↦ inr (λ g. e (let z : a ≡ b = cc in z))
]
cases_answer same_or_not Pending Pending = inl refl
cases_answer same_or_not Failed Failed = inl refl
cases_answer same_or_not _ _ = inr (λ e. cc)

cases_all : (x y : Answer ⊤) → (x ≡ y) ⊎ (x ≢ y)
cases_all x y = cases_answer one x y
  where
    one : (a b : ⊤) → (a ≡ b) ⊎ (a ≢ b)
    one a b = inl refl

cases_list : (xs ys : List ℕ) → (xs ≡ ys) ⊎ (xs ≢ ys)
cases_list [] [] = inl refl
cases_list [] (y ∷ ys) = inr (λ e. cc)
cases_list (x ∷ xs) [] = inr (λ e. cc)
cases_list (x ∷ xs) (y ∷ ys) = elim (cases_eq x y) [
  | inl e ↦ elim (cases_list xs ys) [
    | inl f ↦ inl (ap (λ n. n ∷ xs) e ∙ ap (λ (l : List ℕ). y ∷ l) f)
    | inr f ↦ inr (λ g. f (let z : xs ≡ ys = cc in z))
  ]
  | inr e ↦ inr (λ g. e (let z : x ≡ y = cc in z))
]

cases_bytes : (x y : Answer (List ℕ)) → (x ≡ y) ⊎ (x ≢ y)
cases_bytes x y = cases_answer cases_list x y

cases_count : (x y : Answer ℕ) → (x ≡ y) ⊎ (x ≢ y)
cases_count x y = cases_answer cases_eq x y

-- ---- the answers of the server's queries

pub same_answer : {A : Type 0} (answer : List Act → A) (config : Config) (history : List PlainEvent) (x y : A)
    → Answered answer config history x → Answered answer config history y → x ≡ y
same_answer answer config history x y (log, was, is) (other, also, so) = is ∙ ap answer (one_log config history log other was also) ∙ sym so

same_waits : (port : Port) (config : Config) (history : List PlainEvent) (x y : List ℕ) → WaitOn port config history x
    → WaitOn port config history y → x ≡ y
same_waits port config history x y (log, told, was, hears, is) (other, heard, also, tells, so) =
    let one = one_log config history log other was also in
    let same = channel_log_unique (device_acts other) told heard (subst (λ (l : List Act). HearsOf (device_acts l) told) one hears) tells in
    is ∙ ap (λ (l : List Act). waiting_on told port l) one ∙ ap (λ (l : List ChannelAct). waiting_on l port other) same ∙ sym so

same_lowest : (one other : Option ℕ) (config : Config) (a : View) → IsLowest one config a → IsLowest other config a → one ≡ other
same_lowest (Some c) (Some d) config a (lt, shut, below) (few, closed, under) = elim (cases_Bool (nat_lt c d)) [
  | inl e ↦ absurd (let z : true ≡ false = same_answer _ config a.history true false (under c (ltb-true c d e)) shut in cc)
  | inr e ↦ elim (eq-or-lt_of_le (ltb-false c d e)) [
    | inl same ↦ ap Some (sym same)
    | inr less ↦ absurd (let z : true ≡ false = same_answer _ config a.history true false (below d less) closed in cc)
  ]
]
same_lowest (Some c) None config a (lt, shut, below) all =
    absurd (let z : true ≡ false = same_answer _ config a.history true false (all c lt) shut in cc)
same_lowest None (Some c) config a all (lt, shut, below) =
    absurd (let z : true ≡ false = same_answer _ config a.history true false (all c lt) shut in cc)
same_lowest None None config a all others = refl

-- ---- steps that depend on no answer of the wire

pub same_applied : (event : PlainEvent) (config : Config) (a b c : View) → IsApplied event config a b → IsApplied event config a c → b ≡ c
same_applied event config a b c (log, was, answers, is) (other, also, answer, so) = is ∙ sym so

same_opens : (role : Role) (number : Option ℕ) (answer : Answer ⊤) (config : Config) (a b c : View) → Opens role number answer config a b
    → Opens role number answer config a c → b ≡ c
same_opens role (Some n) (Got all) config a b c x y = same_applied (Open n role) config a b c x y
same_opens role _ _ config a b c x y = x ∙ sym y

same_closed : (heard : Heard) (config : Config) (a b c : View) → Hears Records heard config a b → Hears Records heard config a c → b ≡ c
same_closed heard config a b c x y = heard_is heard config a b x ∙ sym (heard_is heard config a c y)

same_closes_channel_on : (n : ℕ) (found : Option Dial) (config : Config) (a b c : View) → ClosesChannelOn Records n found config a b
    → ClosesChannelOn Records n found config a c → b ≡ c
same_closes_channel_on n None config a b c x y = x ∙ sym y
same_closes_channel_on n (Some dial) config a b c x y = same_then (Hears Records (WasClosed (Intr n))) (Remembers n None) config a b c
    (λ m k. same_closed (WasClosed (Intr n)) config a m k) (λ m b c x y. x ∙ sym y) x y

same_closes : (n : ℕ) (config : Config) (a b c : View) → Closes Records n config a b → Closes Records n config a c → b ≡ c
same_closes n config a b c x y =
    same_then (Hears Records (WasClosed (Conn n))) (ClosesChannel Records n then IsApplied (Close (Conn n))) config a b c
    (λ m k. same_closed (WasClosed (Conn n)) config a m k)
    (λ m b c. same_then (ClosesChannel Records n) (IsApplied (Close (Conn n))) config m b c
    (λ k l. same_closes_channel_on n (dialed_of n m) config m k l) (λ k b c. same_applied (Close (Conn n)) config k b c)) x y

same_comes : (n : ℕ) (answer : Answer (List ℕ)) (config : Config) (a b c : View) → Comes Records n answer config a b
    → Comes Records n answer config a c → b ≡ c
same_comes n (Got bytes) config a b c x y = same_applied (Bytes n bytes) config a b c x y
same_comes n Pending config a b c x y = x ∙ sym y
same_comes n Failed config a b c x y = same_closes n config a b c x y

same_drops : (n : ℕ) (answer : Answer ⊤) (config : Config) (a b c : View) → Drops Records n answer config a b
    → Drops Records n answer config a c → b ≡ c
same_drops n (Got all) config a b c x y = x ∙ sym y
same_drops n Pending config a b c x y = x ∙ sym y
same_drops n Failed config a b c x y = same_closes n config a b c x y

same_keeps_dial : (n : ℕ) (so : Bool) (config : Config) (a b c : View) → KeepsDial Records n so config a b
    → KeepsDial Records n so config a c → b ≡ c
same_keeps_dial n true config a b c x y = x ∙ sym y
same_keeps_dial n false config a b c x y = same_closes_channel_on n (dialed_of n a) config a b c x y

same_cancels : (n : ℕ) (dialed : Option Dial) (config : Config) (a b c : View) → CancelsUnwanted Records n dialed config a b
    → CancelsUnwanted Records n dialed config a c → b ≡ c
same_cancels n None config a b c x y = x ∙ sym y
same_cancels n (Some dialed) config a b c (channel, wanted, opened, wants, h) (other, wish, is_open, wishes, k) =
    let one = same_answer _ config a.history channel other opened is_open in
    let two = same_answer _ config a.history wanted wish wants wishes in
    same_keeps_dial n (channel || is_wanted dialed wanted) config a b c h
    (subst (λ (so : Bool). KeepsDial Records n so config a c)
    (sym (ap (λ (so : Bool). so || is_wanted dialed wanted) one ∙ ap (λ (d : Option Dial). other || is_wanted dialed d) two)) k)

same_connect_result : (n : ℕ) (dial : Dial) (answer : Answer ⊤) (config : Config) (a b c : View) → ConnectResult n dial answer config a b
    → ConnectResult n dial answer config a c → b ≡ c
same_connect_result n dial (Got all) config a b c x y = same_then (Remembers n (Some dial)) (IsApplied (Dialed n true)) config a b c
    (λ m k x y. x ∙ sym y) (λ m b c. same_applied (Dialed n true) config m b c) x y
same_connect_result n dial Pending config a b c x y = x ∙ sym y
same_connect_result n dial Failed config a b c x y = same_applied (Dialed n false) config a b c x y

same_poll_result : (n : ℕ) (answer : Answer ⊤) (config : Config) (a b c : View) → PollResult Records n answer config a b
    → PollResult Records n answer config a c → b ≡ c
same_poll_result n (Got all) config a b c x y = same_applied (Dialed n true) config a b c x y
same_poll_result n Pending config a b c x y = x ∙ sym y
same_poll_result n Failed config a b c x y = same_then (ClosesChannel Records n) (IsApplied (Dialed n false)) config a b c
    (λ k l. same_closes_channel_on n (dialed_of n a) config a k l) (λ k b c. same_applied (Dialed n false) config k b c) x y

same_ends_write : (port : Port) (answer : Answer ℕ) (config : Config) (a b c : View) → EndsWrite Records port answer config a b
    → EndsWrite Records port answer config a c → b ≡ c
same_ends_write port (Got n) config a b c x y = same_applied (Took port n) config a b c x y
same_ends_write port Pending config a b c x y = x ∙ sym y
same_ends_write (Conn n) Failed config a b c x y = same_closes n config a b c x y
same_ends_write (Intr n) Failed config a b c x y = same_then (ClosesChannel Records n) (IsApplied (Close (Intr n))) config a b c
    (λ k l. same_closes_channel_on n (dialed_of n a) config a k l) (λ k b c. same_applied (Close (Intr n)) config k b c) x y

same_closes_if : (n : ℕ) (so : Bool) (config : Config) (a b c : View) → ClosesIf Records n so config a b → ClosesIf Records n so config a c
    → b ≡ c
same_closes_if n true config a b c x y = same_closes n config a b c x y
same_closes_if n false config a b c x y = x ∙ sym y

same_ends_if : (n : ℕ) (faulted : Bool) (config : Config) (a b c : View) → EndsIf Records n faulted config a b
    → EndsIf Records n faulted config a c → b ≡ c
same_ends_if n false config a b c x y = x ∙ sym y
same_ends_if n true config a b c (bytes, waits, h) (more, wait, k) = same_closes_if n (length bytes == 0) config a b c h
    (subst (λ (l : List ℕ). ClosesIf Records n (length l == 0) config a c) (sym (same_waits
    (Conn n) config a.history bytes more waits wait)) k)

pub same_ends : (n : ℕ) (config : Config) (a b c : View) → Ends Records n config a b → Ends Records n config a c → b ≡ c
same_ends n config a b c (faulted, is, h) (other, so, k) = same_ends_if n faulted config a b c h
    (subst (λ (f : Bool). EndsIf Records n f config a c) (sym (same_answer _ config a.history faulted other is so)) k)

-- ---- steps that depend on an answer of the wire

-- After a step that satisfies `Keeps`, the trace and the history still belong together.
pub matches_after_keeps : (config : Config) (a b : View) → Keeps Records (λ s. ⊤) config a b → Matches a → Matches b
matches_after_keeps config a b k told = ap (filter is_outer) k.grown ∙ matching_append k.events a.history k.piece a.wire k.told told
    ∙ ap (flat_map event_of) (sym (through_records k.piece a.wire b.wire k.through))

pub accepts_alike : (role : Role) (config : Config) (a b c : View) → Matches a → Accepts Records role config a b
    → Accepts Records role config a c → SameOrForks b c
accepts_alike role config a b c told (number, answer, low, h) (other, also, lowest, k) =
    let same = same_lowest number other config a low lowest in
    same_question_alike (λ x. WasAccepted role number x) (Opens role number) config answer also (cases_all answer also) refl (λ e. cc)
    (λ x m b c. same_opens role number x config m b c)
    (λ x m b h. extends_by (Opens role number x) config m b (lift_opens Records role number x config m b [] h)
    (opens_grows Any role number x config m b (λ n. tt) h)) a b c told h
    (subst (λ (n : Option ℕ). (Hears Records (WasAccepted role n also) then Opens role n also) config a c) (sym same) k)

probes_alike : (n : ℕ) (opened : Bool) (config : Config) (a b c : View) → Matches a → ProbesIf Records n opened config a b
    → ProbesIf Records n opened config a c → SameOrForks b c
probes_alike n false config a b c told x y = inl (x ∙ sym y)
probes_alike n true config a b c told (drops, answer, overlong, h) (other, also, long, k) =
    same_question_alike (λ x. WasProbed n drops x) (Drops Records n) config answer also (cases_all answer also) refl (λ e. cc)
    (λ x m b c. same_drops n x config m b c)
    (λ x m b h. extends_by (Drops Records n x) config m b (lift_drops Records n x config m b [] h)
    (drops_grows Any Records n x config m b tt h)) a b c told h
    (subst (λ (d : Bool). (Hears Records (WasProbed n d also) then Drops Records n also) config a c)
    (sym (same_answer _ config a.history drops other overlong long)) k)

pub reads_alike : (n : ℕ) (config : Config) (a b c : View) → Matches a → ReadsFrom Records n config a b → ReadsFrom Records n config a c
    → SameOrForks b c
reads_alike n config a b c told (room, has, h) (other, had, k) =
    let same = same_answer _ config a.history room other has had in by room h (subst (λ (r : ℕ). ReadsUpTo Records r n config a c)
    (sym same) k)
  where
    by : (room : ℕ) → ReadsUpTo Records room n config a b → ReadsUpTo Records room n config a c → SameOrForks b c
    by room (inl (none, (opened, is_open, h))) (inl (nothing, (other, open_is, k))) = probes_alike n opened config a b c told h
        (subst (λ (o : Bool). ProbesIf Records n o config a c) (sym (same_answer _ config a.history opened other is_open open_is)) k)
    by room (inl (none, h)) (inr (some, also, less, k)) = absurd (omega (arith, none, some))
    by room (inr (some, answer, few, h)) (inl (none, k)) = absurd (omega (arith, none, some))
    by room (inr (some, answer, few, h)) (inr (more, also, less, k)) =
        same_question_alike (λ x. WasRead n (min room longest_piece) x) (Comes Records n) config answer also (cases_bytes answer also) refl
        (λ e. cc)
        (λ x m b c. same_comes n x config m b c)
        (λ x m b h. extends_by (Comes Records n x) config m b (lift_comes Records n x config m b [] h)
        (comes_grows Any Records n x config m b (λ bytes. tt) tt h)) a b c told h k

dials_for_alike : (n : ℕ) (wanted dialed : Option Dial) (config : Config) (a b c : View) → Matches a
    → DialsFor Records n wanted dialed config a b → DialsFor Records n wanted dialed config a c → SameOrForks b c
dials_for_alike n None dialed config a b c told x y = inl (x ∙ sym y)
dials_for_alike n (Some dial) None config a b c told (answer, h) (also, k) =
    same_question_alike (λ x. WasDialed n dial x) (ConnectResult n dial) config answer also (cases_all answer also) refl (λ e. cc)
    (λ x m b c. same_connect_result n dial x config m b c)
    (λ x m b h. extends_by (ConnectResult n dial x) config m b (lift_connect_result Records n dial x config m b [] h)
    (connect_result_grows Any n dial x config m b (λ ok. tt) h)) a b c told h k
dials_for_alike n (Some dial) (Some dialed) config a b c told (answer, h) (also, k) =
    same_question_alike (λ x. PeerAnswered n x) (PollResult Records n) config answer also (cases_all answer also) refl (λ e. cc)
    (λ x m b c. same_poll_result n x config m b c)
    (λ x m b h. extends_by (PollResult Records n x) config m b (lift_poll_result Records n x config m b [] h)
    (poll_result_grows Any Records n x config m b (λ ok. tt) h)) a b c told h k

connects_alike : (n : ℕ) (config : Config) (a b c : View) → Matches a → Connects Records n config a b → Connects Records n config a c
    → SameOrForks b c
connects_alike n config a b c told (wanted, wants, h) (other, wishes, k) = dials_for_alike n wanted (dialed_of n a) config a b c told h
    (subst (λ (w : Option Dial). DialsFor Records n w (dialed_of n a) config a c)
    (sym (same_answer _ config a.history wanted other wants wishes)) k)

pub dials_alike : (n : ℕ) (config : Config) (a b c : View) → Matches a → Dials Records n config a b → Dials Records n config a c
    → SameOrForks b c
dials_alike n config a b c told (m, h, s) (k, g, t) = next_step_alike (Connects Records n) config m k b c (connects_alike n config)
    (λ x y h. extends_by (Connects Records n) config x y (lift_connects Records n config x y [] h)
    (dials_for_grows Any Records n h.0 (dialed_of n x) config x y (λ ok. tt) h.2))
    (matches_after_keeps config a m (cancels_unwanted_keeps Records (λ s. ⊤) config n tt (dialed_of n a) a m h) told)
    (inl (same_cancels n (dialed_of n a) config a m k h g)) s t

pub writes_alike : (port : Port) (config : Config) (a b c : View) → Matches a → WritesTo Records port config a b
    → WritesTo Records port config a c → SameOrForks b c
writes_alike port config a b c told (bytes, waits, h) (other, wait, k) = by bytes h
    (subst (λ (l : List ℕ). WritesAll Records port l config a c) (sym (same_waits port config a.history bytes other waits wait)) k)
  where
    by : (bytes : List ℕ) → WritesAll Records port bytes config a b → WritesAll Records port bytes config a c → SameOrForks b c
    by bytes (inl (none, x)) (inl (nothing, y)) = inl (x ∙ sym y)
    by bytes (inl (none, x)) (inr (some, also, less, k)) = absurd (let z : 0 < 0 = subst (λ
        (l : List ℕ). 0 < length l) none some in omega (arith, z))
    by bytes (inr (some, answer, few, h)) (inl (none, y)) = absurd (let z : 0 < 0 = subst (λ
        (l : List ℕ). 0 < length l) none some in omega (arith, z))
    by bytes (inr (some, answer, few, h)) (inr (more, also, less, k)) =
        same_question_alike (λ x. WasWritten port bytes x) (EndsWrite Records port) config answer also (cases_count answer also) refl
        (λ e. cc)
        (λ x m b c. same_ends_write port x config m b c)
        (λ x m b h. extends_by (EndsWrite Records port x) config m b (lift_ends_write Records port x config m b [] h)
        (ends_write_grows Any Records port x config m b ((λ n. tt), tt) h)) a b c told h k
