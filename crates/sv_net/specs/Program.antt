-- The exit status of the program.
use Rattle.std.specs.Prelude.{ℕ}
use Rattle.sv_replay.specs.declared.fault.RunFault.TheVariants.{BadLine, Input, Output, Memory}
use Rattle.sv_replay.specs.declared.scenario.ScenarioFault.{ScenarioFault}
use Rattle.sv_replay.specs.declared.scenario.ScenarioFault.TheVariants as scenario
use Rattle.sv_net.specs.declared.fault.ProgramFault.{ProgramFault}
use Rattle.sv_net.specs.declared.fault.ProgramFault.TheVariants.{BadWords, Run, Socket}

-- the exit status of the program when it stops with this fault
abbrev pub status : ProgramFault → ℕ
status BadWords = 2
status (Run (BadLine n)) = 2
status (Run Input) = 3
status (Run Output) = 3
status (Run Memory) = 3
status Socket = 3

-- the fault of the program when a scenario can't be read
abbrev pub scenario_fault : ScenarioFault → ProgramFault
scenario_fault (scenario.BadLine n) = Run (BadLine n)
scenario_fault scenario.Memory = Run Memory
