-- How often a replay read from its reader, and what each read returned.
use Rattle.std.specs.Prelude.{◌≡◌, ◌⊎◌, ℕ, ◌≤◌, List, [], ◌∷◌, length, Option, Bool, Result, Ok, Err, ⊤}
use Rattle.sv_replay.specs.declared.run_state.Run.{Run}
use Rattle.sv_replay.specs.declared.fault.RunFault.{RunFault}
use Rattle.sv_replay.specs.declared.fault.RunFault.TheVariants.{Input}
use Rattle.sv_replay.specs.declared.input.InputFault.{InputFault}
use Rattle.sv_replay.specs.Stage.{WhileGoing}

-- what a read returned: a number of bytes; `None` at the reader's end; or a fault
abbrev pub Gave : Type 0
Gave = Result (Option ℕ) InputFault

-- These reads, the newest first, led a reader from the state `first` to the state `last`.
abbrev pub Reads : {S : Type 0} → (S → Gave → S → Type 0) → S → List Gave → S → Type 0
Reads gives first [] last = last ≡ first
Reads gives first (gave ∷ reads) last = (between : _) × Reads gives first reads between × gives between gave last

-- the most reads that one run of a replay may make
abbrev pub most_reads : ℕ
most_reads = 4294967294

-- These reads led a reader from the state `first` to the state `last`, and there are at most as
-- many reads as allowed.
abbrev pub Made : {S : Type 0} → (S → Gave → S → Type 0) → S → List Gave → S → Type 0
Made gives first reads last = Reads gives first reads last × (length reads ≤ most_reads)

-- The newest read failed.
abbrev pub HasFailed : List Gave → Type 0
HasFailed = elim [ Err fault ∷ reads ↦ ⊤ | _ ↦ ⊥ ]

-- No further read is allowed: the newest read failed, or as many reads were made as are allowed.
abbrev pub IsLast : List Gave → Type 0
IsLast reads = HasFailed reads ⊎ (length reads ≡ most_reads)

-- If the result isn't a fault, the reader was read `count` times. If it is a fault, no further read
-- is allowed.
abbrev pub IsReadOn : {S : Type 0} → (S → Gave → S → Type 0) → S → S → ℕ → Result Bool InputFault → Type 0
IsReadOn gives first last count (Ok more) = (reads : List Gave) × Made gives first reads last × (length reads ≡ count)
IsReadOn gives first last count (Err fault) = (reads : List Gave) × Made gives first reads last × IsLast reads

-- If the result is the fault `Input`, `fact` holds.
abbrev pub OnInput : {A : Type 0} → Result A RunFault → Type 0 → Type 0
OnInput (Err Input) fact = fact
OnInput answer fact = ⊤

-- If the run goes on after this step, the reader was read `count` times. If the result is the fault
-- `Input`, no further read is allowed.
abbrev pub IsTurned : {S : Type 0} → (S → Gave → S → Type 0) → S → S → ℕ → Result Bool RunFault → Type 0
IsTurned gives first last count result = (reads : List Gave) × Made gives first reads last × WhileGoing result (length reads ≡ count)
    × OnInput result (IsLast reads)

-- What a step of the run does to the reader: if as many reads were made before it as the run
-- counted, `IsTurned` holds after it.
abbrev pub Turns : {S A : Type 0} → (S → Gave → S → Type 0) → S → S → Run A → Run A → Result Bool RunFault → Type 0
Turns {S} gives reader after old new result = (first : S) (reads : List Gave) → Made gives first reads reader
    → length reads ≡ old.text.reads → IsTurned gives first after new.text.reads result

-- In the run, the reader wasn't read more often than allowed. If the result is the fault `Input`,
-- no further read is allowed.
abbrev pub IsReadOut : {S : Type 0} → (S → Gave → S → Type 0) → S → S → Result ⊤ RunFault → Type 0
IsReadOut gives first last result = (reads : List Gave) × Made gives first reads last × OnInput result (IsLast reads)
