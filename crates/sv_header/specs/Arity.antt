-- How many parameters a command takes (IEEE 488.2, chapter 10; SCPI-1999, volume 2).
use Rattle.std.specs.Prelude.{ℕ}
use Rattle.sv_header.specs.declared.command.CommandId.{CommandId}
use Rattle.sv_header.specs.declared.command.CommandId.TheVariants.{Do, Ask}

-- how many parameters a command takes at most: one if its parameter is a value or a channel list,
-- else none
abbrev pub most_parameters : CommandId → ℕ
most_parameters (Do action) = 0
most_parameters (Ask question) = 0
most_parameters _ = 1
