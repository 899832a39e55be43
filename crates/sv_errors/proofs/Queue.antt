-- The error queue after each act: a report (also one that overflows it), a take, or a clear.
use Rattle.std.proofs.Common.{◌≡◌, ℕ, suc, ◌+◌, ◌-◌, ◌<◌, ◌≤◌, Bool, true, false, ◌&&◌, cond, List, [], ◌∷◌, ◌++◌, length, take, drop, refl, sym, ap, subst, ◌∙◌, add-one, arith, ◌⊎◌, inl, inr, length-append, length-drop}
use Rattle.std.specs.Prelude.{◌==◌, map, min, is_some, slice_get, unwrap_or}
use Rattle.std.specs.List.{AllByRecursion}
use Rattle.std.proofs.lemmas.Bool.{and_right, cases_lt, lt-ltb, le-ltb, eq-eqb, ne_eqb}
use Rattle.std.proofs.lemmas.List.{drop-drop, drop-append-le, drop-map, map_push, take_at, length-map}
use Rattle.sv_errors.specs.declared.code.Code.{Code}
use Rattle.sv_errors.specs.declared.code.Code.TheVariants.{NoError, QueueOverflow}
use Rattle.sv_errors.specs.declared.error_queue.QueueAct.{QueueAct}
use Rattle.sv_errors.specs.declared.error_queue.QueueAct.TheVariants.{Report, Take, Clear}
use Rattle.sv_errors.specs.ErrorQueue.{Counted, left, admit, take_one, count_acts, entries, is_full, up_to, report_of as newest_report, is_overtaken, entry_code, queue_codes, lost, Queue, StandsFor, most, most_lost}

-- Whether the newest act is a report, and its code.
abbrev is_report : List QueueAct → Bool
is_report acts = is_some (newest_report acts)

abbrev reported : List QueueAct → Code
reported acts = unwrap_or (newest_report acts) NoError

-- ---- the admitted reports that weren't taken

-- A report for which there is room is added as the newest.
admitted_is_newest : (before : Counted) (place : ℕ) → before.taken ≤ length before.admitted → length (left before) < most
    → left (admit before place) ≡ left before ++ place ∷ []
admitted_is_newest before place few room = rw (lt-ltb (length (left before)) most room)
    (drop-append-le before.taken before.admitted (place ∷ []) few)

-- A report to a full queue isn't admitted.
admit_full : (before : Counted) (place : ℕ) → most ≤ length (left before) → admit before place ≡ before
admit_full before place full = rw (le-ltb (length (left before)) most full) refl

any_or_none : (places : List ℕ) → (is_some (slice_get places 0) ≡ true) × (1 ≤ length places)
    ⊎ (is_some (slice_get places 0) ≡ false) × (places ≡ [])
any_or_none [] = inr (refl, refl)
any_or_none (place ∷ places) = inl (refl, omega arith)

-- A take removes the oldest.
take_removes_oldest : (before : Counted) → left (take_one before) ≡ drop 1 (left before)
take_removes_oldest before = elim (any_or_none (left before)) [
  | inl some ↦ rw some.0 (sym (drop-drop 1 before.taken before.admitted))
  | inr none ↦ rw none.0 (none.1 ∙ sym (ap (drop 1) none.1))
]

-- No more entries are taken than were admitted.
taken_admitted : (before : Counted) (place : ℕ) → before.taken ≤ length before.admitted
    → (admit before place).taken ≤ length (admit before place).admitted
taken_admitted before place few = elim (cases_lt (length (left before)) most) [
  | inl room ↦ rw (lt-ltb (length (left before)) most room) (omega (arith, length-append before.admitted (place ∷ [])))
  | inr full ↦ rw (le-ltb (length (left before)) most full) few
]

taken_taken : (before : Counted) → before.taken ≤ length before.admitted → (take_one before).taken ≤ length (take_one before).admitted
taken_taken before few = elim (any_or_none (left before)) [
  | inl some ↦ rw some.0 (omega (arith, some.1, length-drop before.taken before.admitted))
  | inr none ↦ rw none.0 few
]

-- ---- the code of an entry after one more act

up_to_more : (place : ℕ) (act : QueueAct) (acts : List QueueAct) → place ≤ length acts → up_to place (act ∷ acts) ≡ up_to place acts
up_to_more place act acts le = let e : length (act ∷ acts) - place ≡ suc (length acts - place) = omega arith in
    ap (λ (n : ℕ). drop n (act ∷ acts)) e

up_to_all : (acts : List QueueAct) → up_to (length acts) acts ≡ acts
up_to_all acts = let e : length acts - length acts ≡ 0 = omega arith in ap (λ (n : ℕ). drop n acts) e

-- What followed an older act doesn't change.
overtaken_more : (place : ℕ) (act : QueueAct) (acts : List QueueAct) → place < length acts
    → is_overtaken place (act ∷ acts) ≡ is_overtaken place acts
overtaken_more place act acts lt =
    ap (λ (b : Bool). b && is_report (up_to (place + 1) (act ∷ acts))) (lt-ltb place (suc (length acts)) (omega arith))
    ∙ ap is_report (up_to_more (place + 1) act acts (omega arith))
    ∙ sym (ap (λ (b : Bool). b && is_report (up_to (place + 1) acts)) (lt-ltb place (length acts) lt))

overtaken_newest : (acts : List QueueAct) → is_overtaken (length acts) acts ≡ false
overtaken_newest acts = ap (λ (b : Bool). b && is_report (up_to (length acts + 1) acts)) (le-ltb (length acts) (length acts) (omega arith))

-- The new act follows the newest one before it.
overtaken_next : (act : QueueAct) (acts : List QueueAct) → is_overtaken (length acts) (act ∷ acts) ≡ is_report (act ∷ acts)
overtaken_next act acts =
    ap (λ (b : Bool). b && is_report (up_to (length acts + 1) (act ∷ acts))) (lt-ltb (length acts) (suc (length acts)) (omega arith))
    ∙ ap (λ (n : ℕ). is_report (up_to n (act ∷ acts))) (add-one (length acts)) ∙ ap is_report (up_to_all (act ∷ acts))

-- The code of an entry, from the acts up to its report.
abbrev shows : List QueueAct → Bool → Code
shows acts overtaken = cond (is_full acts && overtaken) QueueOverflow (reported acts)

shown_older : (place : ℕ) (act : QueueAct) (acts : List QueueAct) → place < length acts
    → entry_code (act ∷ acts) place ≡ entry_code acts place
shown_older place act acts lt =
    ap (λ (rest : List QueueAct). shows rest (is_overtaken place (act ∷ acts))) (up_to_more place act acts (omega arith))
    ∙ ap (shows (up_to place acts)) (overtaken_more place act acts lt)

shown_next : (act : QueueAct) (acts : List QueueAct) → entry_code (act ∷ acts) (length acts) ≡ shows acts (is_report (act ∷ acts))
shown_next act acts =
    ap (λ (rest : List QueueAct). shows rest (is_overtaken (length acts) (act ∷ acts)))
    (up_to_more (length acts) act acts (omega arith) ∙ up_to_all acts) ∙ ap (shows acts) (overtaken_next act acts)

-- The newest entry has the code of its report.
shown_newest : (acts : List QueueAct) → entry_code acts (length acts) ≡ reported acts
shown_newest acts =
    ap (λ (rest : List QueueAct). shows rest (is_overtaken (length acts) acts)) (up_to_all acts) ∙ ap (shows acts) (overtaken_newest acts)
    ∙ ap (λ (b : Bool). cond b QueueOverflow (reported acts)) (and_right (is_full acts) false refl)

-- Unless an error is reported to a full queue, no entry's code changes.
shown_same : (place : ℕ) (act : QueueAct) (acts : List QueueAct) → (is_full acts && is_report (act ∷ acts)) ≡ false → place ≤ length acts
    → entry_code (act ∷ acts) place ≡ entry_code acts place
shown_same place act acts quiet le = elim (cases_lt place (length acts)) [
  | inl lt ↦ shown_older place act acts lt
  | inr ge ↦ let e : place ≡ length acts = omega arith in
      ap (entry_code (act ∷ acts)) e ∙ shown_next act acts ∙ ap (λ (b : Bool). cond b QueueOverflow (reported acts)) quiet
      ∙ sym (shown_newest acts) ∙ sym (ap (entry_code acts) e)
]

-- ---- properties of all elements

all_push : (P : ℕ → Type 0) (xs : List ℕ) (x : ℕ) → AllByRecursion P xs → P x → AllByRecursion P (xs ++ x ∷ [])
all_push P [] x all p = (p, tt)
all_push P (y ∷ xs) x all p = (all.0, all_push P xs x all.1 p)

all_weaker : (P Q : ℕ → Type 0) (xs : List ℕ) → ((x : ℕ) → P x → Q x) → AllByRecursion P xs → AllByRecursion Q xs
all_weaker P Q [] h all = tt
all_weaker P Q (x ∷ xs) h all = (h x all.0, all_weaker P Q xs h all.1)

all_rest : (P : ℕ → Type 0) (xs : List ℕ) → AllByRecursion P xs → AllByRecursion P (drop 1 xs)
all_rest P [] all = tt
all_rest P (x ∷ xs) all = all.1

map_same : (P : ℕ → Type 0) (f g : ℕ → Code) (xs : List ℕ) → ((x : ℕ) → P x → f x ≡ g x) → AllByRecursion P xs → map f xs ≡ map g xs
map_same P f g [] h all = refl
map_same P f g (x ∷ xs) h all = ap (λ (c : Code). c ∷ map f xs) (h x all.0) ∙ ap (λ (cs : List Code). g x ∷ cs) (map_same P f g xs h all.1)

-- ---- the invariant of the entries

-- The newest entry of a full queue is that of the newest act, or it has the overflow code. The
-- other entries are older.
record IsFull (acts : List QueueAct) : Type 0 where
  front : List ℕ
  last : ℕ
  split : entries acts ≡ front ++ last ∷ []
  size : length front ≡ (most - 1)
  older : AllByRecursion (λ place. place < length acts) front
  newest : (last ≡ length acts) ⊎ (last < length acts) × (entry_code acts last ≡ QueueOverflow)

-- There are at most 64 entries, each of which belongs to one of the acts.
record IsValid (acts : List QueueAct) : Type 0 where
  taken : (count_acts acts).taken ≤ length (count_acts acts).admitted
  few : length (entries acts) ≤ most
  within : AllByRecursion (λ place. place ≤ length acts) (entries acts)
  full : length (entries acts) ≡ most → IsFull acts

-- ---- a report for which there is room

entries_reported : (code : Code) (acts : List QueueAct) → IsValid acts → length (entries acts) < most
    → entries (Report code ∷ acts) ≡ entries acts ++ (length acts + 1) ∷ []
entries_reported code acts is room = admitted_is_newest (count_acts acts) (length acts + 1) is.taken room

reported_full : (code : Code) (acts : List QueueAct) → IsValid acts → length (entries acts) < most
    → length (entries (Report code ∷ acts)) ≡ most → IsFull (Report code ∷ acts)
reported_full code acts is room many =
    let split = entries_reported code acts is room in
    record {
      front = entries acts;
      last = length acts + 1;
      split = split;
      size = omega (arith, ap length split, length-append (entries acts) ((length acts + 1) ∷ []));
      older = all_weaker (λ place. place ≤ length acts) (λ place. place < length (Report code ∷ acts)) (entries acts)
          (λ place le. omega arith) is.within;
      newest = inl (add-one (length acts));
    }

valid_reported : (code : Code) (acts : List QueueAct) → IsValid acts → length (entries acts) < most → IsValid (Report code ∷ acts)
valid_reported code acts is room =
    let split = entries_reported code acts is room in
    let wider = all_weaker (λ place. place ≤ length acts) (λ place. place ≤ length (Report code ∷ acts)) (entries acts)
    (λ place le. omega arith) is.within in
    record {
      taken = taken_admitted (count_acts acts) (length acts + 1) is.taken;
      few = omega (arith, ap length split, length-append (entries acts) ((length acts + 1) ∷ []));
      within = subst (AllByRecursion (λ place. place ≤ length (Report code ∷ acts))) (sym split)
          (all_push (λ place. place ≤ length (Report code ∷ acts)) (entries acts) (length acts + 1) wider (omega arith));
      full = reported_full code acts is room;
    }

-- ---- a report to a full queue

entries_overflowed : (code : Code) (acts : List QueueAct) → most ≤ length (entries acts) → entries (Report code ∷ acts) ≡ entries acts
entries_overflowed code acts full = ap left (admit_full (count_acts acts) (length acts + 1) full)

-- The newest entry gets the overflow code.
shown_overflowed : (code : Code) (acts : List QueueAct) (last : ℕ) → length (entries acts) ≡ most
    → (last ≡ length acts) ⊎ (last < length acts) × (entry_code acts last ≡ QueueOverflow)
    → entry_code (Report code ∷ acts) last ≡ QueueOverflow
shown_overflowed code acts last many (inl e) =
    ap (entry_code (Report code ∷ acts)) e ∙ shown_next (Report code) acts
    ∙ ap (λ (b : Bool). cond (b && true) QueueOverflow (reported acts)) (eq-eqb (length (entries acts)) most many)
shown_overflowed code acts last many (inr older) = shown_older last (Report code) acts older.0 ∙ older.1

newest_within : (acts : List QueueAct) (last : ℕ) → (last ≡ length acts) ⊎ (last < length acts) × (entry_code acts last ≡ QueueOverflow)
    → last < suc (length acts)
newest_within acts last (inl e) = omega arith
newest_within acts last (inr older) = omega (arith, older.0)

overflowed_full : (code : Code) (acts : List QueueAct) → length (entries acts) ≡ most → IsFull acts → IsFull (Report code ∷ acts)
overflowed_full code acts many is = record {
  front = is.front;
  last = is.last;
  split = entries_overflowed code acts (omega arith) ∙ is.split;
  size = is.size;
  older = all_weaker (λ place. place < length acts) (λ place. place < length (Report code ∷ acts)) is.front
      (λ place lt. omega arith) is.older;
  newest = inr (newest_within acts is.last is.newest, shown_overflowed code acts is.last many is.newest);
}

valid_overflowed : (code : Code) (acts : List QueueAct) → IsValid acts → most ≤ length (entries acts) → IsValid (Report code ∷ acts)
valid_overflowed code acts is full =
    let same = entries_overflowed code acts full in
    let few = is.few in
    let many : length (entries acts) ≡ most = omega arith in
    record {
      taken = taken_admitted (count_acts acts) (length acts + 1) is.taken;
      few = omega (arith, ap length same);
      within = subst (AllByRecursion (λ place. place ≤ length (Report code ∷ acts))) (sym same)
          (all_weaker (λ place. place ≤ length acts) (λ place. place ≤ length (Report code ∷ acts)) (entries acts)
          (λ place le. omega arith) is.within);
      full = λ e. overflowed_full code acts many (is.full many);
    }

-- ---- a take

entries_taken : (acts : List QueueAct) → entries (Take ∷ acts) ≡ drop 1 (entries acts)
entries_taken acts = take_removes_oldest (count_acts acts)

valid_taken : (acts : List QueueAct) → IsValid acts → IsValid (Take ∷ acts)
valid_taken acts is =
    let rest = entries_taken acts in
    let few = is.few in
    let size : length (entries (Take ∷ acts)) ≡ length (entries acts) - 1 = ap length rest ∙ length-drop 1 (entries acts) in
    record {
      taken = taken_taken (count_acts acts) is.taken;
      few = omega arith;
      within = subst (AllByRecursion (λ place. place ≤ length (Take ∷ acts))) (sym rest)
          (all_rest (λ place. place ≤ length (Take ∷ acts)) (entries acts)
          (all_weaker (λ place. place ≤ length acts) (λ place. place ≤ length (Take ∷ acts)) (entries acts)
          (λ place le. omega arith) is.within));
      full = λ many. absurd (omega arith);
    }

-- The invariant holds after all acts.
valid : (acts : List QueueAct) → IsValid acts
valid [] = record { taken = omega arith; few = omega arith; within = tt; full = λ many. absurd (omega arith) }
valid (Report code ∷ acts) = elim (cases_lt (length (entries acts)) most) [
  | inl room ↦ valid_reported code acts (valid acts) room
  | inr full ↦
      valid_overflowed code acts (valid acts) full
]
valid (Take ∷ acts) = valid_taken acts (valid acts)
valid (Clear ∷ acts) = record { taken = omega arith; few = omega arith; within = tt; full = λ many. absurd (omega arith) }

-- ---- the codes in the queue after one more act

-- Unless an error is reported to a full queue, the entries keep their codes.
shown_entries : (act : QueueAct) (acts : List QueueAct) → (is_full acts && is_report (act ∷ acts)) ≡ false
    → map (entry_code (act ∷ acts)) (entries acts) ≡ queue_codes acts
shown_entries act acts quiet = map_same (λ place. place ≤ length acts) (entry_code (act ∷ acts)) (entry_code acts) (entries acts)
    (λ place le. shown_same place act acts quiet le) (valid acts).within

pub codes_per_entry : (acts : List QueueAct) → length (queue_codes acts) ≡ length (entries acts)
codes_per_entry acts = length-map (entries acts) (entry_code acts)

-- A report for which there is room adds its code as the newest.
pub codes_after_report : (code : Code) (acts : List QueueAct) → length (queue_codes acts) < most
    → queue_codes (Report code ∷ acts) ≡ queue_codes acts ++ code ∷ []
codes_after_report code acts few =
    let room : length (entries acts) < most = omega (arith, few, codes_per_entry acts) in
    let quiet : (is_full acts && true) ≡ false = ap (λ (b : Bool). b && true) (ne_eqb (length (entries acts)) most (λ e. omega arith)) in
    ap (map (entry_code (Report code ∷ acts))) (entries_reported code acts (valid acts) room)
    ∙ map_push (entry_code (Report code ∷ acts)) (entries acts) (length acts + 1)
    ∙ ap (λ (cs : List Code). cs ++ entry_code (Report code ∷ acts) (length acts + 1) ∷ []) (shown_entries (Report code) acts quiet)
    ∙ ap (λ (n : ℕ). queue_codes acts ++ entry_code (Report code ∷ acts) n ∷ []) (add-one (length acts))
    ∙ ap (λ (c : Code). queue_codes acts ++ c ∷ []) (shown_newest (Report code ∷ acts))

-- The codes of a full queue: those of the older entries, and that of the newest.
full_shown : (acts : List QueueAct) (now : List QueueAct) (is : IsFull acts)
    → map (entry_code now) (entries acts) ≡ map (entry_code now) is.front ++ entry_code now is.last ∷ []
full_shown acts now is = ap (map (entry_code now)) is.split ∙ map_push (entry_code now) is.front is.last

-- A report to a full queue replaces the newest code by the overflow code.
pub codes_after_overflow : (code : Code) (acts : List QueueAct) → length (queue_codes acts) ≡ most
    → queue_codes (Report code ∷ acts) ≡ take (most - 1) (queue_codes acts) ++ QueueOverflow ∷ []
codes_after_overflow code acts full =
    let many = sym (codes_per_entry acts) ∙ full in
    let is = (valid acts).full many in
    let front : take (most - 1) (queue_codes acts) ≡ map (entry_code acts) is.front =
    ap (take (most - 1)) (full_shown acts acts is) ∙ take_at (map (entry_code acts) is.front) (entry_code acts is.last ∷ []) (most - 1)
    (length-map is.front (entry_code acts) ∙ is.size) in
    ap (map (entry_code (Report code ∷ acts))) (entries_overflowed code acts (omega arith))
    ∙ full_shown acts (Report code ∷ acts) is
    ∙ ap (λ (c : Code). map (entry_code (Report code ∷ acts)) is.front ++ c ∷ []) (shown_overflowed code acts is.last many is.newest)
    ∙ ap (λ (cs : List Code). cs ++ QueueOverflow ∷ [])
    (map_same (λ place. place < length acts) (entry_code (Report code ∷ acts)) (entry_code acts) is.front
    (λ place lt. shown_older place (Report code) acts lt) is.older ∙ sym front)

-- A take removes the oldest code.
pub codes_after_take : (acts : List QueueAct) → queue_codes (Take ∷ acts) ≡ drop 1 (queue_codes acts)
codes_after_take acts =
    ap (map (entry_code (Take ∷ acts))) (entries_taken acts) ∙ sym (drop-map (entry_code (Take ∷ acts)) 1 (entries acts))
    ∙ ap (drop 1) (shown_entries Take acts (and_right (is_full acts) false refl))

-- ---- the number of lost errors

lost_reported : (code : Code) (acts : List QueueAct) → length (queue_codes acts) < most → lost (Report code ∷ acts) ≡ lost acts
lost_reported code acts few =
    let room : (length (entries acts) == most) ≡ false =
    ne_eqb (length (entries acts)) most (λ e. omega (arith, few, codes_per_entry acts)) in
    let step : lost (Report code ∷ acts) ≡ lost acts + 0 = ap (λ (b : Bool). lost acts + cond b 1 0) room in
    omega (arith, step)

lost_overflowed : (code : Code) (acts : List QueueAct) → length (queue_codes acts) ≡ most → lost (Report code ∷ acts) ≡ lost acts + 1
lost_overflowed code acts full =
    ap (λ (b : Bool). lost acts + cond b 1 0) (eq-eqb (length (entries acts)) most (sym (codes_per_entry acts) ∙ full))

-- ---- the queue stands for the acts

-- An error is reported, and there is room.
pub stands_for_reported : (queue : Queue) (code : Code) (acts : List QueueAct) → length queue.codes < most → StandsFor queue acts
    → StandsFor (record queue { codes = queue.codes ++ code ∷ [] }) (Report code ∷ acts)
stands_for_reported queue code acts room stands =
    let few : length (queue_codes acts) < most = omega (arith, room, ap length stands.codes) in
    record {
      codes = ap (λ (cs : List Code). cs ++ code ∷ []) stands.codes ∙ sym (codes_after_report code acts few);
      lost_count = stands.lost_count ∙ ap (λ (n : ℕ). min n most_lost) (sym (lost_reported code acts few));
    }

-- An error is reported to a full queue.
pub stands_for_overflowed : (queue : Queue) (code : Code) (acts : List QueueAct) → length queue.codes ≡ most → StandsFor queue acts
    → StandsFor (record { codes = take (most - 1) queue.codes ++ QueueOverflow ∷ []; lost_count = min (queue.lost_count + 1) most_lost })
    (Report code ∷ acts)
stands_for_overflowed queue code acts full stands =
    let many : length (queue_codes acts) ≡ most = sym (ap length stands.codes) ∙ full in
    record {
      codes = ap (λ (cs : List Code). take (most - 1) cs ++ QueueOverflow ∷ []) stands.codes ∙ sym (codes_after_overflow code acts many);
      lost_count = omega (arith, stands.lost_count, lost_overflowed code acts many);
    }

-- An entry is taken.
pub stands_for_taken : (queue : Queue) (acts : List QueueAct) → StandsFor queue acts
    → StandsFor (record queue { codes = drop 1 queue.codes }) (Take ∷ acts)
stands_for_taken queue acts stands =
    let same : lost (Take ∷ acts) ≡ lost acts = omega arith in
    record {
      codes = ap (drop 1) stands.codes ∙ sym (codes_after_take acts);
      lost_count = stands.lost_count ∙ ap (λ (n : ℕ). min n most_lost) (sym same);
    }

-- The queue is cleared.
pub stands_for_cleared : (queue : Queue) (acts : List QueueAct) → StandsFor queue acts
    → StandsFor (record queue { codes = [] }) (Clear ∷ acts)
stands_for_cleared queue acts stands =
    let same : lost (Clear ∷ acts) ≡ lost acts = omega arith in
    record { codes = refl; lost_count = stands.lost_count ∙ ap (λ (n : ℕ). min n most_lost) (sym same) }
