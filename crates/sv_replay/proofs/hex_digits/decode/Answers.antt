-- Each turn of the loop decodes one byte, or finds that the text spells no bytes.
use Rattle.std.proofs.Common.{Some, ap, sym, ◌∙◌, take, ◌++◌, option_map, arith}
use Rattle.std.proofs.lemmas.List.{take_more_set}
use Rattle.sv_replay.specs.Reading.{hex_at}
use Rattle.sv_replay.proofs.Steps.{hex_short, hex_at_non_pair, hex_last, hex_next, after_shorter, decoded_with_byte}
use Rattle.sv_replay.proofs.hex_digits.decode.Goals as goal

pub returns-in_err-buffer-clause-exact : goal.returns-in_err-buffer-clause-exact
returns-in_err-buffer-clause-exact c =
    rw c.from_residual.ensures (sym (ap (option_map (λ bytes. take c.loop-rest.len c.loop-rest.buffer ++ bytes))
    (hex_at_non_pair c.loop-rest.rest.now c.in-len2-up.len_at_least c.in_err-buffer.ensures)) ∙ c.loop-rest.invariant.0)

pub returns-then-is_empty-clause-exact : goal.returns-then-is_empty-clause-exact
returns-then-is_empty-clause-exact c =
    ap Some (take_more_set c.loop-rest.buffer c.loop-rest.len c.in_ok-buffer.field-0 (omega arith))
    ∙ sym (ap (option_map (λ bytes. take c.loop-rest.len c.loop-rest.buffer ++ bytes))
    (hex_last c.loop-rest.rest.now c.in_ok-buffer.field-0 c.in-len2-up.len_at_least c.if-is_empty.ensures c.in_ok-buffer.ensures))
    ∙ c.loop-rest.invariant.0

pub loop-rest-preserved : goal.loop-rest-preserved
loop-rest-preserved c =
    let next =
    hex_next c.loop-rest.rest.now c.skip_space-rest.result.now c.in_ok-buffer.field-0 c.in-len2-up.len_at_least c.if-is_empty.ensures
    c.in_ok-buffer.ensures c.skip_space-rest.ensures.value in (
      decoded_with_byte c.loop-rest.buffer c.loop-rest.len c.in_ok-buffer.field-0 (hex_at c.skip_space-rest.result.now) (omega arith)
          ∙ sym (ap (option_map (λ bytes. take c.loop-rest.len c.loop-rest.buffer ++ bytes)) next) ∙ c.loop-rest.invariant.0,
      omega (
        arith,
        after_shorter c.loop-rest.rest.now c.skip_space-rest.result.now c.in-len2-up.len_at_least
            c.skip_space-rest.ensures.no_longer,
      ),
    )

pub returns-clause-exact : goal.returns-clause-exact
returns-clause-exact c =
    sym (ap (option_map (λ bytes. take c.loop-rest.len c.loop-rest.buffer ++ bytes))
    (hex_short c.loop-rest.rest.now c.in_default.len_below)) ∙ c.loop-rest.invariant.0
