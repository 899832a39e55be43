-- The lines of events, of the calls that they take, and of the steps that follow them.
use Rattle.std.specs.Prelude.{ℕ, List, [], ◌∷◌, ◌++◌, codes, decimal}
use Rattle.hex.specs.Hex.{encode_lower}
use Rattle.sv_instrument.specs.declared.looking.Step.{Step}
use Rattle.sv_instrument.specs.declared.looking.Step.TheVariants as step
use Rattle.sv_explain.specs.declared.step.Due.{Due}
use Rattle.sv_explain.specs.declared.step.Due.TheVariants as due

-- the line of an event: `@`, the line of the script, and the clock after the event
abbrev pub head_line : ℕ → ℕ → List ℕ
head_line line clock = codes "@ " ++ (decimal line ++ 32 ∷ (decimal clock ++ 10 ∷ []))

-- the last line: the clock at the end of the script
abbrev pub end_line : ℕ → List ℕ
end_line clock = codes "@ end " ++ (decimal clock ++ 10 ∷ [])

-- the line of a record that is taken on a connection, in hexadecimal
abbrev pub call_line : ℕ → List ℕ → List ℕ
call_line c bytes = codes "- call c" ++ (decimal c ++ 32 ∷ (encode_lower bytes ++ 10 ∷ []))

-- the line of a step in which a unit starts: its place in its message, and the unit in hexadecimal
abbrev pub unit_line : List ℕ → ℕ → List ℕ → List ℕ
unit_line words place unit = words ++ (decimal place ++ 32 ∷ (encode_lower unit ++ 10 ∷ []))

-- the line of a step of message exchange
abbrev pub exchange_line : Step → List ℕ
exchange_line step.Release = codes "- release\n"
exchange_line step.Overrun = codes "- overrun\n"
exchange_line (step.Interrupt place unit) = unit_line (codes "- interrupt ") place unit.now
exchange_line (step.Unit place unit) = unit_line (codes "- unit ") place unit.now
exchange_line step.Finish = codes "- finish\n"

-- the line of a step
abbrev pub step_line : Due → List ℕ
step_line due.Nothing = []
step_line due.Fire = codes "- fire\n"
step_line (due.Resume c) = codes "- resume c" ++ (decimal c ++ 10 ∷ [])
step_line (due.Exchange step) = exchange_line step
step_line (due.TimeOut c) = codes "- timeout c" ++ (decimal c ++ 10 ∷ [])
