use Rattle.std.proofs.Common.{◌≡◌, ◌∙◌, ◌+◌, ◌/◌, ◌%◌, ◌<◌, ◌++◌, [], ◌∷◌, List, ℕ, refl, ap, sym, length, drop, arith, w64}
use Rattle.std.proofs.lemmas.Int.{to_z-of_z}
use Rattle.std.specs.Prelude.{decimal, unsigned_abs}
use Rattle.std.proofs.lemmas.List.{append_assoc, length-append}
use Rattle.sv_value.specs.PrintedVoltage.{six_digits, sign}
use Rattle.sv_value.proofs.Printed.{length_six, voltage_is_written, voltage_same, voltage_size}
use Rattle.sv_value.proofs.writing.write_microvolts.Goals as goal

below : (n : ℕ) → n % 1000000 < 1000000
below n = omega arith

pub returns-clause-size : goal.returns-clause-size
returns-clause-size c =
    let same = to_z-of_z w64 c.args.value c.ranges.value in
    let volts = ap length (c.as_bytes.ensures.value ∙ c.format.ensures.text
    ∙ ap (λ n. decimal (n / 1000000)) (c.unsigned_abs-magnitude.ensures.value ∙ ap unsigned_abs same)) in
    let whole = voltage_size (decimal (unsigned_abs c.args.value / 1000000)) (unsigned_abs c.args.value % 1000000)
    (below (unsigned_abs c.args.value)) in
    omega (arith, volts, whole, c.put_six.ensures.place, c.put-size-3.ensures.place, c.put-size-2.ensures.place, c.put-size.ensures.place)

pub returns-clause-text : goal.returns-clause-text
returns-clause-text c =
    let same = to_z-of_z w64 c.args.value c.ranges.value in
    let absolute = c.unsigned_abs-magnitude.ensures.value ∙ ap unsigned_abs same in
    let old : List ℕ = c.args.out.now in
    let volts : List ℕ = c.as_bytes.result.now in
    let one = c.put-size.ensures.text [] old refl refl in
    let two = c.put-size-2.ensures.text (c.sign_of.result ∷ []) (drop 1 old) (sym c.put-size.ensures.place) one in
    let three = c.put-size-3.ensures.text ((c.sign_of.result ∷ []) ++ volts) (drop (length volts) (drop 1 old))
    (omega (arith, c.put-size.ensures.place, c.put-size-2.ensures.place)) two in
    let point : length (((c.sign_of.result ∷ []) ++ volts) ++ 46 ∷ []) ≡ length volts + 2 =
    length-append ((c.sign_of.result ∷ []) ++ volts) (46 ∷ []) ∙ omega arith in
    let four = c.put_six.ensures.text (((c.sign_of.result ∷ []) ++ volts) ++ 46 ∷ []) (drop 1 (drop (length volts) (drop 1 old)))
    (omega (arith, point, c.put-size.ensures.place, c.put-size-2.ensures.place, c.put-size-3.ensures.place))
    (three ∙ simp append_assoc refl) in
    voltage_is_written old c.put_six.new.out volts (six_digits (c.unsigned_abs-magnitude.result % 1000000)) c.sign_of.result
    (length_six (c.unsigned_abs-magnitude.result % 1000000) (below c.unsigned_abs-magnitude.result)) four
    ∙ voltage_same old volts (decimal (unsigned_abs c.args.value / 1000000)) c.sign_of.result (sign c.args.value)
    (c.unsigned_abs-magnitude.result % 1000000) (unsigned_abs c.args.value % 1000000)
    (c.sign_of.ensures ∙ ap sign same) (c.as_bytes.ensures.value ∙ c.format.ensures.text ∙ ap (λ n. decimal (n / 1000000)) absolute)
    (ap (λ n. n % 1000000) absolute)
