-- For each log, exactly one byte is the status byte that a serial poll returns.
use Rattle.std.proofs.Common.{◌≡◌, ℕ, ◌<◌, ◌≤◌, Bool, true, false, List, [], ◌∷◌, arith}
use Rattle.std.specs.Prelude.{◌↔◌}
use Rattle.std.specs.Int.{bit_at}
use Rattle.std.proofs.lemmas.Nat.Bits.{bit_at-lt, same_from_bits}
use Rattle.sv_errors.specs.ErrorQueue.{entries}
use Rattle.sv_logs.proofs.Since.{iff_transitive}
use Rattle.sv_status.specs.declared.status_byte.StatusAct.{StatusAct}
use Rattle.sv_status.specs.StatusByte.{bits}
use Rattle.sv_status.proofs.StatusBytes.{with_bit_six, shown_bit, polled_bit}
use Rattle.sv_scan.specs.Condition.{bit}
use Rattle.sv_exchange.specs.Exchange.{response, is_something}
use Rattle.sv_layers.specs.Act.{Act}
use Rattle.sv_layers.specs.StatusByte.{PolledBit}
use Rattle.sv_layers.specs.Inside.LayerLogs.{LayerLogs, layer_logs}
use Rattle.sv_layers.specs.Inside.Representation.{LayerState, IsSummary, IsStatus, StandsFor}
use Rattle.sv_layers.proofs.SameRequests.{same_status}

bit_small : (k : ℕ) (b : Bool) (most : ℕ) → bit k true ≤ most → bit k b ≤ most
bit_small k true most le = le
bit_small k false most le = omega arith

-- The summary bits fit in a byte.
summary_small : (word : ℕ) (at : LayerLogs) → IsSummary word at → word < 256
summary_small word at s =
    let seven : bit 7 s.operates ≤ 128 = bit_small 7 s.operates 128 (omega arith) in
    let five : bit 5 s.happened ≤ 32 = bit_small 5 s.happened 32 (omega arith) in
    let three : bit 3 s.questioned ≤ 8 = bit_small 3 s.questioned 8 (omega arith) in
    let four : bit 4 (is_something (response at.exchange)) ≤ 16 = bit_small 4 (is_something (response at.exchange)) 16 (omega arith) in
    let two : bit 2 (is_something (entries at.errors)) ≤ 4 = bit_small 2 (is_something (entries at.errors)) 4 (omega arith) in
    let is = s.word_is in
    omega (arith, is, seven, five, four, three, two)

-- The summary bits of the last update fit in a byte.
last_update_fits_byte : (log : List Act) (status_log : List StatusAct) → IsStatus log status_log → bits status_log < 256
last_update_fits_byte [] status_log is = rw is (omega arith)
last_update_fits_byte (act ∷ log) status_log (word, before, summary, earlier, is) =
    rw is (summary_small word (layer_logs (act ∷ log)) summary)

pub polled_byte : (layered : LayerState) (log : List Act) → StandsFor layered log
    → (word : ℕ) × ((k : ℕ) → (bit_at word k ≡ 1) ↔ PolledBit k log)
polled_byte layered log s =
    let small : layered.status.bits < 256 = rw s.joined.status.bits (last_update_fits_byte log s.status_log s.are) in (
      with_bit_six layered.status.request layered.status.bits,
      λ k. iff_transitive (shown_bit layered.status.request layered.status.bits k small)
          (iff_transitive (polled_bit layered.status s.status_log k s.joined.status) (same_status log s.status_log s.are k).0),
    )

same_bit : (a b k : ℕ) → (bit_at a k ≡ 1) ↔ (bit_at b k ≡ 1) → bit_at a k ≡ bit_at b k
same_bit a b k same =
    let first = bit_at-lt a k in
    let second = bit_at-lt b k in
    grind (arith, first, second, same.0, same.1)

pub one_word : (P : ℕ → Type 0) (a b : ℕ) → ((k : ℕ) → (bit_at a k ≡ 1) ↔ P k) → ((k : ℕ) → (bit_at b k ≡ 1) ↔ P k) → a ≡ b
one_word P a b first second =
    same_from_bits a b (λ k. same_bit a b k ((λ h. (second k).1 ((first k).0 h)), (λ h. (first k).1 ((second k).0 h))))
