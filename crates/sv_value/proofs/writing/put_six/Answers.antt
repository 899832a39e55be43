use Rattle.std.proofs.Common.{◌∙◌, ◌-◌, ◌++◌, List, ℕ, refl, ap, sym, length, take, drop, arith}
use Rattle.std.specs.Prelude.{replicate}
use Rattle.std.proofs.lemmas.List.{append_assoc, length-append, length-replicate}
use Rattle.sv_value.proofs.Printed.{six_digits_written, six_zeros, zeros_are, six_short}
use Rattle.sv_value.proofs.writing.put_six.Goals as goal

pub returns-clause-text : goal.returns-clause-text
returns-clause-text c text rest size e =
    let zeros : List ℕ = take (6 - length c.as_bytes-digits.result.now) (drop (length c.as_bytes-digits.result.now) six_zeros) in
    let digits = c.as_bytes-digits.ensures.value ∙ c.format.ensures.text in
    let short = six_short c.args.number c.requires.small in
    let few = ap length digits in
    let are = zeros_are (length c.as_bytes-digits.result.now) (omega (arith, few, short)) in
    let count = ap length are ∙ length-replicate (6 - length c.as_bytes-digits.result.now) 48 in
    let first = c.put-behind.ensures.text text rest size e ∙ simp append_assoc refl in
    let second = c.put.ensures.text (text ++ zeros) (drop (length zeros) rest)
    (length-append text zeros ∙ omega (arith, size, c.put-behind.ensures.place)) first in
    six_digits_written text rest zeros c.as_bytes-digits.result.now c.put.new.out _ (omega (arith, count, few, short))
    (ap (λ ds. replicate (6 - length ds) 48 ++ ds) (sym digits) ∙ ap (λ z. z ++ c.as_bytes-digits.result.now) (sym are)) second
