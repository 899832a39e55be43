use Rattle.std.proofs.Common.{◌≡◌, ◌≤◌, length, take, option_map, ◌+◌, ◌++◌}
use Rattle.sv_replay.specs.Reading.{hex_at}
use Rattle.sv_replay.proofs.hex_digits.decode.Given as goal

-- The decoded bytes, followed by those of the remaining text, are the bytes of the whole text.
abbrev pub invariant-loop-rest : goal.invariant-loop-rest
invariant-loop-rest l =
    (option_map (λ bytes. take l.len l.buffer ++ bytes) (hex_at l.rest) ≡ hex_at l.text) × (l.len + length l.rest ≤ length l.text)

-- Each turn takes at least two characters of the text.
abbrev pub decreases-loop-rest : goal.decreases-loop-rest
decreases-loop-rest l = length l.rest
