-- The code's `Line`, as plain data.
use Rattle.sv_history.specs.Event.{plain}
use Rattle.sv_replay.specs.Line.{Line as Said, Blank, One, Ticks}
use Rattle.sv_replay.specs.declared.line.Line.{Line}
use Rattle.sv_replay.specs.declared.line.Line.TheVariants as lines

-- the code's `Line`, as plain data
abbrev pub plain_line : Line → Said
plain_line lines.Blank = Blank
plain_line (lines.One event) = One (plain event)
plain_line (lines.Ticks n) = Ticks n
