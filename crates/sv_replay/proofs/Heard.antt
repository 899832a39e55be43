-- The reads that a run made, when the run stops or returns.
use Rattle.std.proofs.Common.{◌≡◌, ◌⊎◌, ℕ, Bool, List, Result, Ok, Err, subst, sym, inl, inr, IsErr, IsErrAnd}
use Rattle.std.specs.Prelude.{⊤, IfErr}
use Rattle.sv_replay.specs.declared.fault.RunFault.{RunFault}
use Rattle.sv_replay.specs.declared.fault.RunFault.TheVariants.{Input, Output}
use Rattle.sv_replay.specs.declared.input.InputFault.{InputFault}
use Rattle.sv_server.specs.declared.replay.ReplayFault.{ReplayFault}
use Rattle.sv_server.specs.declared.replay.ReplayFault.TheVariants.{NoMemory, Write}
use Rattle.sv_replay.specs.Run.{run_fault}
use Rattle.sv_replay.specs.Stage.{WhileGoing}
use Rattle.sv_replay.specs.Reads.{Gave, Made, IsLast, IsReadOn, OnInput, IsReadOut}

-- What is claimed for a fault holds for a result that passes the fault on.
pub input_fault_passed_on : {A : Type 0} (result : Result A RunFault) (fault : RunFault) (fact : Type 0) → IsErr result
    → IsErrAnd result (λ e. e ≡ fault) → OnInput {A = A} (Err fault) fact → OnInput result fact
input_fault_passed_on (Ok a) fault fact failed is on = absurd cc
input_fault_passed_on {A = A} (Err e) fault fact failed is on = subst (λ (f : RunFault). OnInput {A = A} (Err f) fact) (sym is) on

-- If the result isn't the fault `Input`, nothing is claimed of the reads.
pub not_an_input_fault : {A : Type 0} (result : Result A RunFault) (fact : Type 0) → OnInput result ⊥ → OnInput result fact
not_an_input_fault (Err Input) fact none = absurd none
not_an_input_fault _ fact none = tt

-- A fault of a replay is never reported as `Input`.
pub replay_fault_is_not_input : (A : Type 0) (fault : ReplayFault) → OnInput {A = A} (Err (run_fault fault)) ⊥
replay_fault_is_not_input A NoMemory = tt
replay_fault_is_not_input A Write = tt

pub while_going_after_fault : (result : Result Bool RunFault) (fact : Type 0) → IsErr result → WhileGoing result fact
while_going_after_fault (Ok more) fact failed = absurd cc
while_going_after_fault (Err e) fact failed = tt

-- A failed read is the last one, and its fault is passed on.
pub read_failed : {S : Type 0} (gives : S → Gave → S → Type 0) (first last : S) (count : ℕ) (reads : List Gave)
    (result : Result Bool InputFault)
    → IsErr result → Made gives first reads last → IsLast reads → IsReadOn gives first last count result
read_failed gives first last count reads (Ok more) failed made is = absurd cc
read_failed gives first last count reads (Err fault) failed made is = (reads, made, is)

-- The reads stay as they were, whether the run returns its result or `Output` in its place.
pub read_out_after_flush : {S : Type 0} (gives : S → Gave → S → Type 0) (first last : S) (answer result : Result ⊤ RunFault)
    → (result ≡ answer) ⊎ (result ≡ Err Output) → IsReadOut gives first last answer → IsReadOut gives first last result
read_out_after_flush gives first last answer result (inl same) out = subst (λ (r : Result ⊤ RunFault). IsReadOut gives first last r)
    (sym same) out
read_out_after_flush gives first last answer result (inr failed) (reads, made, on) =
    subst (λ (r : Result ⊤ RunFault). IsReadOut gives first last r) (sym failed) (reads, made, tt)

-- After the last line, only the output can fail; no read is made.
pub read_out_at_end : {S : Type 0} (gives : S → Gave → S → Type 0) (first last : S) (result : Result ⊤ RunFault)
    → IfErr result (λ e. e ≡ Output) → IsReadOut gives first last (Ok tt) → IsReadOut gives first last result
read_out_at_end gives first last (Ok all) is out = out
read_out_at_end gives first last (Err e) is (reads, made, on) =
    subst (λ (f : RunFault). IsReadOut gives first last (Err f)) (sym is) (reads, made, tt)
