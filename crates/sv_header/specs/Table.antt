-- The table of commands. Each row has the pattern of a header, and the command that this header
-- names.
use Rattle.std.specs.Prelude.{true, false, List, [], ◌∷◌, ◌++◌}
use Prim.Native.String.{String}
use Rattle.sv_status.specs.declared.register_name.RegisterName.{RegisterName}
use Rattle.sv_status.specs.declared.register_name.RegisterName.TheVariants.{Operation, Questionable, Limit}
use Rattle.sv_header.specs.declared.command.CommandId.{CommandId}
use Rattle.sv_header.specs.declared.command.CommandId.TheVariants.{Do, Ask, Set, Configure, Measure}
use Rattle.sv_header.specs.declared.command.Action.TheVariants.{ClearStatus, TellComplete, WaitAndTell, Reset, Trigger, Wait, Preset, Initiate, Abort, Read}
use Rattle.sv_header.specs.declared.command.Question.TheVariants.{StandardEvents, Identification, StatusByte, SelfTest, Error, ErrorCount, Version, Events, Condition, Readings, Value}
use Rattle.sv_header.specs.declared.command.SettingName.{SettingName}
use Rattle.sv_header.specs.declared.command.SettingName.TheVariants.{StandardEnable, ServiceEnable, Enable, Rise, Fall, ScanList, Monitor, Range, UpperLimit, LowerLimit, Limits, Source, Count}
use Rattle.sv_header.specs.Pattern.{Part, Row, row, node, maybe}

-- the row of a common command, which has one mnemonic
abbrev common : String → CommandId → Row
common name id = row true false (node name "" ∷ []) id

-- the row of a common query
abbrev common_query : String → CommandId → Row
common_query name id = row true true (node name "" ∷ []) id

-- the row of a command that isn't common, given its nodes
abbrev command : List Part → CommandId → Row
command nodes id = row false false nodes id

-- the row of a query that isn't common, given its nodes
abbrev query : List Part → CommandId → Row
query nodes id = row false true nodes id

-- two rows: the command that sets a value, and the query that returns it
abbrev setting : List Part → SettingName → List Row
setting nodes name = command nodes (Set name) ∷ query nodes (Ask (Value name)) ∷ []

-- common commands (IEEE 488.2, chapter 10)
abbrev pub common_commands : List Row
common_commands =
    common "CLS" (Do ClearStatus)
    ∷ common "ESE" (Set StandardEnable)
    ∷ common_query "ESE" (Ask (Value StandardEnable))
    ∷ common_query "ESR" (Ask StandardEvents)
    ∷ common_query "IDN" (Ask Identification)
    ∷ common "OPC" (Do TellComplete)
    ∷ common_query "OPC" (Do WaitAndTell)
    ∷ common "RST" (Do Reset)
    ∷ common "SRE" (Set ServiceEnable)
    ∷ common_query "SRE" (Ask (Value ServiceEnable))
    ∷ common_query "STB" (Ask StatusByte)
    ∷ common "TRG" (Do Trigger)
    ∷ common_query "TST" (Ask SelfTest)
    ∷ common "WAI" (Do Wait)
    ∷ []

-- the queries of SYSTem (SCPI-1999, volume 2)
abbrev pub system_commands : List Row
system_commands =
    query (node "SYST" "EM" ∷ node "ERR" "OR" ∷ maybe "NEXT" "" ∷ []) (Ask Error)
    ∷ query (node "SYST" "EM" ∷ node "ERR" "OR" ∷ node "COUN" "T" ∷ []) (Ask ErrorCount)
    ∷ query (node "SYST" "EM" ∷ node "VERS" "ION" ∷ []) (Ask Version)
    ∷ []

-- the rows of a status register's commands. The headers of these commands begin with the nodes in
-- `place`.
abbrev register : List Part → RegisterName → List Row
register place name =
    query (place ++ maybe "EVEN" "T" ∷ []) (Ask (Events name))
    ∷ query (place ++ node "COND" "ITION" ∷ []) (Ask (Condition name))
    ∷ (setting (place ++ node "ENAB" "LE" ∷ []) (Enable name)
    ++ (setting (place ++ node "PTR" "ANSITION" ∷ []) (Rise name)
    ++ setting (place ++ node "NTR" "ANSITION" ∷ []) (Fall name)))

-- the commands of STATus
abbrev pub status_commands : List Row
status_commands =
    command (node "STAT" "US" ∷ node "PRES" "ET" ∷ []) (Do Preset)
    ∷ (register (node "STAT" "US" ∷ node "OPER" "ATION" ∷ []) Operation
    ++ (register (node "STAT" "US" ∷ node "QUES" "TIONABLE" ∷ []) Questionable
    ++ register (node "STAT" "US" ∷ node "QUES" "TIONABLE" ∷ node "LIM" "IT" ∷ []) Limit))

-- the commands that set up a measurement
abbrev pub setting_commands : List Row
setting_commands =
    setting (node "ROUT" "E" ∷ node "SCAN" "" ∷ []) ScanList
    ++ (setting (node "ROUT" "E" ∷ node "MON" "ITOR" ∷ []) Monitor
    ++ (setting (maybe "SENS" "E" ∷ node "VOLT" "AGE" ∷ maybe "DC" "" ∷ node "RANG" "E" ∷ maybe "UPP" "ER" ∷ []) Range
    ++ (setting (node "CALC" "ULATE" ∷ node "LIM" "IT" ∷ node "UPP" "ER" ∷ []) UpperLimit
    ++ (setting (node "CALC" "ULATE" ∷ node "LIM" "IT" ∷ node "LOW" "ER" ∷ []) LowerLimit
    ++ (setting (node "CALC" "ULATE" ∷ node "LIM" "IT" ∷ node "STAT" "E" ∷ []) Limits
    ++ (setting (node "TRIG" "GER" ∷ node "SOUR" "CE" ∷ []) Source
    ++ setting (node "TRIG" "GER" ∷ node "COUN" "T" ∷ []) Count))))))

-- the commands that measure
abbrev pub measuring_commands : List Row
measuring_commands =
    command (node "INIT" "IATE" ∷ maybe "IMM" "EDIATE" ∷ []) (Do Initiate)
    ∷ command (node "ABOR" "T" ∷ []) (Do Abort)
    ∷ query (node "FETC" "H" ∷ []) (Ask Readings)
    ∷ query (node "READ" "" ∷ []) (Do Read)
    ∷ command (node "CONF" "IGURE" ∷ node "VOLT" "AGE" ∷ maybe "DC" "" ∷ []) Configure
    ∷ query (node "MEAS" "URE" ∷ node "VOLT" "AGE" ∷ maybe "DC" "" ∷ []) Measure
    ∷ []

-- all commands but the common ones
abbrev pub other_commands : List Row
other_commands = system_commands ++ (status_commands ++ (setting_commands ++ measuring_commands))

-- all commands
abbrev pub table : List Row
table = common_commands ++ other_commands
