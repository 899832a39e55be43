-- A measurement scans existing channels, and memory suffices for its readings.
use Rattle.std.proofs.Common.{◌≡◌, ℕ, ◌*◌, ◌%◌, ◌<◌, ◌≤◌, ◌+◌, Bool, true, false, List, [], ◌∷◌, ◌++◌, length, length-append, Some, None, Option, refl, ap, ◌∙◌, sym, subst, arith, if◌then◌else◌}
use Rattle.std.proofs.Math.Nat.{mul-le-mul}
use Rattle.std.proofs.lemmas.Bool.{and_parts, eqb-false}
use Rattle.std.proofs.lemmas.Bool.Decides.{nat_tests}
use Rattle.std.proofs.lemmas.Nat.{mod_below}
use Rattle.std.proofs.lemmas.List.Elements.{All-get_or}
use Rattle.std.proofs.lemmas.List.Sums.{AllPass-from_list_all}
use Rattle.std.proofs.lemmas.List.Folds.{list_all-append}
use Rattle.std.specs.List.{list_all}
use Rattle.std.specs.Prelude.{◌==◌, nat_le, ◌&&◌}
use Rattle.sv_scan.specs.declared.setting.Reading.{Reading}
use Rattle.sv_scan.specs.declared.touched.Touched.{Touched}
use Rattle.sv_scan.specs.declared.setting.State.TheVariants.{Idle, Waiting, Scanning}
use Rattle.sv_errors.specs.Limits.{is_channel, is_channel_list, longest_list, most_scans, most_readings}
use Rattle.sv_scan.specs.Scan.{channel_at, state_by, is_bounded}
use Rattle.sv_scan.specs.Counted.{is_scanning}
use Rattle.sv_scan.specs.Stands.{Run, Contents}
use Rattle.sv_scan.specs.Representation.{IsValid, IsRun, IsRunOf, run_state}

-- A list that may be scanned has 1 to 128 channels.
size_is : (n : ℕ) → nat_le 1 n ≡ true → nat_le n longest_list ≡ true → (1 ≤ n) × (n ≤ longest_list)
size_is n some few = grind (arith, nat_tests)

pub scan_list_size : (channels : List ℕ) → is_channel_list channels ≡ true → (1 ≤ length channels) × (length channels ≤ longest_list)
scan_list_size channels possible =
    let parts = and_parts (nat_le 1 (length channels)) (nat_le (length channels) longest_list && list_all is_channel channels) possible in
    size_is (length channels) parts.0 (and_parts (nat_le (length channels) longest_list) (list_all is_channel channels) parts.1).0

pub scanned_channel_exists : (channels : List ℕ) (read : ℕ) → is_channel_list channels ≡ true → is_channel (channel_at channels read) ≡ true
scanned_channel_exists channels read possible =
    let size = scan_list_size channels possible in
    let parts = and_parts (nat_le 1 (length channels)) (nat_le (length channels) longest_list && list_all is_channel channels) possible in
    let all = (and_parts (nat_le (length channels) longest_list) (list_all is_channel channels) parts.1).1 in
    All-get_or (λ (channel : ℕ). is_channel channel ≡ true) channels (read % length channels) 0
    (mod_below read (length channels) (omega arith)) (AllPass-from_list_all is_channel channels all)

-- The measurement under way has its invariant.
pub run_is_valid : (contents : Contents) (capacity : ℕ) (r : Run) → contents.run ≡ Some r → IsValid contents capacity
    → IsRun r (length contents.readings)
run_is_valid contents capacity r e kept = subst (λ (o : Option Run). IsRunOf o (length contents.readings)) e kept.run

-- The next channel exists.
pub next_channel_exists : (contents : Contents) (capacity : ℕ) (r : Run) → contents.run ≡ Some r → IsValid contents capacity
    → is_channel (channel_at r.channels (length contents.readings)) ≡ true
next_channel_exists contents capacity r e kept =
    scanned_channel_exists r.channels (length contents.readings) (run_is_valid contents capacity r e kept).channels

-- While a scan is under way, not all channels of the triggered scans were read.
is_short : (all triggered : Bool) → is_scanning (if all then Idle else if triggered then Waiting else Scanning) ≡ true → triggered ≡ false
is_short true triggered e = cc
is_short false true e = cc
is_short false false e = refl

short_in : (r : Run) (read : ℕ) → is_scanning (state_by r.triggers read (length r.channels) r.scans) ≡ true
    → read ≡ r.triggers * length r.channels → ⊥
short_in r read e = eqb-false read (r.triggers * length r.channels)
    (is_short (read == r.scans * length r.channels) (read == r.triggers * length r.channels) e)

-- A measurement has at most as many readings as memory was reserved for.
few_of : (r : Run) (read : ℕ) → IsRun r read → read ≤ most_readings
few_of r read run =
    let size = scan_list_size r.channels run.channels in
    let triggers : r.triggers ≤ most_scans = omega (arith, run.scans, run.triggers) in
    let bound : r.triggers * length r.channels ≤ most_scans * longest_list = mul-le-mul triggers size.1 in
    omega (arith, run.read)

pub readings_are_few : (run : Option Run) (read : ℕ) → IsRunOf run read → read ≤ most_readings
readings_are_few None read e = omega (arith, e)
readings_are_few (Some r) read run = few_of r read run

-- One more reading keeps the invariant.
read_more : (r : Run) (read : ℕ) → IsRun r read → (read ≡ r.triggers * length r.channels → ⊥) → IsRun r (read + 1)
read_more r read run short = record {
  channels = run.channels;
  scans = run.scans;
  triggers = run.triggers;
  read = omega (arith, run.read, short);
}

-- There is room for one more reading.
room_in : (r : Run) (read capacity : ℕ) → most_readings ≤ capacity → IsRun r read → (read ≡ r.triggers * length r.channels → ⊥)
    → read < capacity
room_in r read capacity room run short = omega (arith, room, few_of r (read + 1) (read_more r read run short))

pub has_room_for_reading : (contents : Contents) (capacity : ℕ) (r : Run) → contents.run ≡ Some r → IsValid contents capacity
    → is_scanning (run_state contents.run (length contents.readings)) ≡ true → length contents.readings < capacity
has_room_for_reading contents capacity r e kept scanning =
    let run : IsRun r (length contents.readings) = subst (λ (o : Option Run). IsRunOf o (length contents.readings)) e kept.run in
    let now : is_scanning (run_state (Some r) (length contents.readings)) ≡ true =
    subst (λ (o : Option Run). is_scanning (run_state o (length contents.readings)) ≡ true) e scanning in
    room_in r (length contents.readings) capacity kept.room run (short_in r (length contents.readings) now)

-- One more reading keeps the scanner's invariants.
bounded_more : (readings : List Reading) (x : Reading) → list_all is_bounded readings ≡ true → is_bounded x ≡ true
    → list_all is_bounded (readings ++ x ∷ []) ≡ true
bounded_more readings x all one =
    list_all-append is_bounded readings (x ∷ []) ∙ ap (λ (b : Bool). b && (is_bounded x && true)) all ∙ ap (λ (b : Bool). b && true) one

pub is_valid_sample : (contents : Contents) (capacity : ℕ) (r : Run) (x : Reading) (touched : Touched) → contents.run ≡ Some r
    → IsValid contents capacity → is_scanning (run_state contents.run (length contents.readings)) ≡ true → is_bounded x ≡ true
    → IsValid (record contents { readings = contents.readings ++ x ∷ []; touched = touched }) capacity
is_valid_sample contents capacity r x touched e valid scanning one =
    let run : IsRun r (length contents.readings) = subst (λ (o : Option Run). IsRunOf o (length contents.readings)) e valid.run in
    let now : is_scanning (run_state (Some r) (length contents.readings)) ≡ true =
    subst (λ (o : Option Run). is_scanning (run_state o (length contents.readings)) ≡ true) e scanning in
    let more : IsRun r (length contents.readings + 1) =
    read_more r (length contents.readings) run (short_in r (length contents.readings) now) in
    let many : length contents.readings + 1 ≡ length (contents.readings ++ x ∷ []) = sym (length-append contents.readings (x ∷ [])) in
    record {
      inputs = valid.inputs;
      room = valid.room;
      list = valid.list;
      monitor = valid.monitor;
      range = valid.range;
      range_bounded = valid.range_bounded;
      upper = valid.upper;
      lower = valid.lower;
      count = valid.count;
      run = subst (λ (o : Option Run). IsRunOf o (length (contents.readings ++ x ∷ []))) (sym e) (subst (IsRun r) many more);
      readings = bounded_more contents.readings x valid.readings one;
    }
