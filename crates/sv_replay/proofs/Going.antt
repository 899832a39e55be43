-- How one step of a run leads from one stage of the replay to the next.
use Rattle.std.proofs.Common.{◌≡◌, ℕ, ◌+◌, ◌<◌, true, false, Bool, List, [], ◌∷◌, ◌++◌, length, take, drop, Option, Some, None, refl, sym, ap, subst, ◌∙◌, inl, inr, append-nil, arith}
use Rattle.std.specs.Prelude.{Result, Ok, Err, ⊤, IsErr, IsErrAnd}
use Rattle.std.proofs.lemmas.List.{take_all}
use Rattle.std.specs.Io.KnownBytes.{Consumes, Appends, Keeps, IsAtEnd}
use Rattle.sv_history.specs.declared.event.Config.{Config}
use Rattle.sv_server.specs.Server.State.{State, StandsFor}
use Rattle.sv_print.proofs.Taking.{appends_none, appends_keeps, appends_then}
use Rattle.sv_replay.specs.declared.mode.Mode.{Mode}
use Rattle.sv_replay.specs.declared.fault.RunFault.{RunFault}
use Rattle.sv_replay.specs.declared.fault.RunFault.TheVariants.{BadLine, Input, Output}
use Rattle.sv_replay.specs.Text.{first_end}
use Rattle.sv_replay.specs.Script.{parts}
use Rattle.sv_replay.specs.Run.{Runs}
use Rattle.sv_replay.specs.Stage.{IsStage, IsDone, Goes, Further, StepsRun}
use Rattle.sv_replay.proofs.Parts.{parts_at_newline, parts_of_no_newline, parts_never_empty}
use Rattle.sv_replay.proofs.Staged.{DoesLine, stage_start, stage_line, stage_last, stage_stop, stage_read, stage_long, stage_output, stage_input}
use Rattle.std.proofs.KnownBytes.{Consumes-trans, Consumes-nil}

keeps_appends : (old mid new : Option (List ℕ)) (a : List ℕ) → Keeps old mid → Appends mid new a → Appends old new a
keeps_appends None mid new a x y = tt
keeps_appends (Some xs) None new a x y = elim x [ ]
keeps_appends (Some xs) (Some ys) None a x y = elim y [ ]
keeps_appends (Some xs) (Some ys) (Some zs) a x y = y ∙ ap (λ (l : List ℕ). l ++ a) x

-- If nothing more was read, a fact about what was read still holds.
nothing_more_read : (fact : List ℕ → Type 0) (read more : List ℕ) → more ≡ [] → fact read → fact (read ++ more)
nothing_more_read fact read more none holds = subst fact (sym (append-nil read) ∙ ap (λ (l : List ℕ). read ++ l) (sym none)) holds

-- A step that passes a fault on stops the run with this fault.
goes_with_fault : (config : Config) (mode : Mode) (server : State) (left : List ℕ) (number : ℕ) (rest : Option (List ℕ)) (fault : RunFault)
    (result : Result Bool RunFault)
    (read text : List ℕ) → IsErr result → IsErrAnd result (λ e. e ≡ fault)
    → Runs config mode read rest (Err fault) text → Goes config mode server left number rest result read text
goes_with_fault config mode server left number rest fault (Ok more) read text failed is runs = absurd cc
goes_with_fault config mode server left number rest fault (Err e) read text failed is runs =
    subst (λ (f : RunFault). Runs config mode read rest (Err f) text) (sym is) runs

-- A step leads from `IsStage` to what `Goes` states of its result.
abbrev pub StepLeads : Config → Mode → State → State → List ℕ → List ℕ → ℕ → ℕ → Option (List ℕ) → Option (List ℕ) → Option (List ℕ)
    → Option (List ℕ) → Result Bool RunFault → Type 0
StepLeads config mode old new left rest number next reader after first last result =
    Further reader after first last (IsStage config mode old left number) (Goes config mode new rest next after result)

pub go_line : (config : Config) (mode : Mode) (old new : State) (left line rest : List ℕ) (len number next : ℕ)
    (reader first last : Option (List ℕ))
    → first_end left ≡ Some len → line ≡ take len left → rest ≡ drop (len + 1) left
    → next ≡ number + 1 → DoesLine config mode old new line next (Ok tt) first last
    → StepLeads config mode old new left rest number next reader reader first last (Ok true)
go_line config mode old new left line rest len number next reader first last found cut is up does read text stage =
    let whole : parts left ≡ line ∷ parts rest = parts_at_newline left len found
    ∙ ap (λ (l : List ℕ). l ∷ parts (drop (len + 1) left)) (sym cut)
    ∙ ap (λ (l : List ℕ). line ∷ parts l) (sym is) in
    let (other, put, on) = stage_line config mode old new left rest line number next read text first last whole up stage does in
    ([], other, Consumes-nil reader, put, nothing_more_read (λ r. IsStage config mode new rest next r (text ++ other)) read [] refl on)

pub go_line_stop : (config : Config) (mode : Mode) (old new : State) (left line rest : List ℕ) (len number next last_number : ℕ)
    (reader first last : Option (List ℕ))
    (fault : RunFault) (result : Result Bool RunFault) → first_end left ≡ Some len
    → line ≡ take len left → next ≡ number + 1 → IsErr result → IsErrAnd result (λ e. e ≡ fault)
    → DoesLine config mode old new line next (Err fault) first last
    → StepLeads config mode old new left rest number last_number reader reader first last result
go_line_stop config mode old new left line rest len number next last_number reader first last fault result found cut up failed is does
    read text
    stage =
    let whole : parts left ≡ line ∷ parts (drop (len + 1) left) =
    parts_at_newline left len found ∙ ap (λ (l : List ℕ). l ∷ parts (drop (len + 1) left)) (sym cut) in
    let (other, put, runs) = stage_stop config mode old new left line _ number next fault read text reader first last whole up
    (inl (parts_never_empty (drop (len + 1) left))) stage does in (
      [],
      other,
      Consumes-nil reader,
      put,
      goes_with_fault config mode new rest last_number reader fault result (read ++ []) (text ++ other) failed is
          (nothing_more_read (λ r. Runs config mode r reader (Err fault) (text ++ other)) read [] refl runs),
    )

pub go_long : (config : Config) (mode : Mode) (old : State) (left : List ℕ) (number next : ℕ) (reader first : Option (List ℕ))
    → first_end left ≡ None → 65536 < length left → next ≡ number + 1
    → StepLeads config mode old old left left number number reader reader first first (Err (BadLine next))
go_long config mode old left number next reader first none long up read text stage = (
  [],
  [],
  Consumes-nil reader,
  appends_none first,
  nothing_more_read (λ r. Runs config mode r reader (Err (BadLine next)) (text ++ [])) read [] refl
      (nothing_more_read (λ t. Runs config mode read reader (Err (BadLine next)) t) text [] refl
      (stage_long config mode old left number next read text reader none long up stage)),
)

pub go_output : (config : Config) (mode : Mode) (old : State) (left : List ℕ) (number : ℕ) (reader first last : Option (List ℕ))
    (fault : RunFault)
    (result : Result Bool RunFault) → Keeps first last → fault ≡ Output
    → IsErr result → IsErrAnd result (λ e. e ≡ fault) → StepLeads config mode old old left left number number reader reader first last
    result
go_output config mode old left number reader first last fault result kept told failed is read text stage = (
  [],
  [],
  Consumes-nil reader,
  appends_keeps first first last [] (appends_none first) kept,
  goes_with_fault config mode old left number reader fault result (read ++ []) (text ++ []) failed is
      (rw told (nothing_more_read (λ r. Runs config mode r reader (Err Output) (text ++ [])) read [] refl
      (nothing_more_read (λ t. Runs config mode read reader (Err Output) t) text [] refl
      (stage_output config mode old left number read text reader stage)))),
)

pub go_input : (config : Config) (mode : Mode) (old : State) (left rest more : List ℕ) (number : ℕ)
    (reader after first last : Option (List ℕ))
    (result : Result Bool RunFault) → first_end left ≡ None → Keeps first last → Consumes reader after more → more ≡ []
    → IsErr result → IsErrAnd result (λ e. e ≡ Input) → StepLeads config mode old old left rest number number reader after first last result
go_input config mode old left rest more number reader after first last result none kept took given failed is read text stage = (
  more,
  [],
  took,
  appends_keeps first first last [] (appends_none first) kept,
  goes_with_fault config mode old rest number after Input result (read ++ more) (text ++ []) failed is
      (nothing_more_read (λ r. Runs config mode r after (Err Input) (text ++ [])) read more given
      (nothing_more_read (λ t. Runs config mode read after (Err Input) t) text [] refl
      (stage_input config mode old left number read text after none stage))),
)

pub go_read : (config : Config) (mode : Mode) (old : State) (left rest more : List ℕ) (number : ℕ)
    (reader after first last : Option (List ℕ))
    → Keeps first last → Consumes reader after more → rest ≡ left ++ more
    → StepLeads config mode old old left rest number number reader after first last (Ok true)
go_read config mode old left rest more number reader after first last kept took is read text stage = (
  more,
  [],
  took,
  appends_keeps first first last [] (appends_none first) kept,
  rw is (nothing_more_read (λ t. IsStage config mode old (left ++ more) number (read ++ more) t) text [] refl
      (stage_read config mode old left number read text more stage)),
)

-- If no new line is left, the remaining text is the last line.
last_line : (left more rest line : List ℕ) → first_end left ≡ None → rest ≡ left ++ more → more ≡ [] → line ≡ take (length rest) rest
    → parts left ≡ line ∷ []
last_line left more rest line none is given cut =
    let same : rest ≡ left = is ∙ ap (λ (l : List ℕ). left ++ l) given ∙ append-nil left in
    parts_of_no_newline left none ∙ ap (λ (l : List ℕ). l ∷ []) (sym (cut ∙ take_all (length rest) rest (omega arith) ∙ same))

pub go_last_stop : (config : Config) (mode : Mode) (old new : State) (left rest line more : List ℕ) (number next last_number : ℕ)
    (reader after first mid last : Option (List ℕ)) (fault : RunFault) (result : Result Bool RunFault) → first_end left ≡ None
    → rest ≡ left ++ more → more ≡ [] → line ≡ take (length rest) rest → next ≡ number + 1 → Consumes reader after more → IsAtEnd after
    → Keeps first mid → IsErr result → IsErrAnd result (λ e. e ≡ fault) → DoesLine config mode old new line next (Err fault) mid last
    → StepLeads config mode old new left rest number last_number reader after first last result
go_last_stop config mode old new left rest line more number next last_number reader after first mid last fault result none is given cut up
    took
    end kept
    failed told does read text stage =
    let (other, put, runs) = stage_stop config mode old new left line [] number next fault read text after mid last
    (last_line left more rest line none is given cut) up (inr end) stage does in (
      more,
      other,
      took,
      keeps_appends first mid last other kept put,
      goes_with_fault config mode new rest last_number after fault result (read ++ more) (text ++ other) failed told
          (nothing_more_read (λ r. Runs config mode r after (Err fault) (text ++ other)) read more given runs),
    )

pub go_last : (config : Config) (mode : Mode) (old new : State) (left rest line more : List ℕ) (number next last_number : ℕ)
    (reader after first mid last : Option (List ℕ)) → first_end left ≡ None → rest ≡ left ++ more → more ≡ []
    → line ≡ take (length rest) rest → next ≡ number + 1 → Consumes reader after more → IsAtEnd after → Keeps first mid
    → DoesLine config mode old new line next (Ok tt) mid last
    → StepLeads config mode old new left rest number last_number reader after first last (Ok false)
go_last config mode old new left rest line more number next last_number reader after first mid last none is given cut up took end kept
    does read
    text stage =
    let (other, put, done) = stage_last config mode old new left line number next read text mid last
    (last_line left more rest line none is given cut) up stage does in (
      more,
      other,
      took,
      keeps_appends first mid last other kept put,
      (
        end,
        nothing_more_read (λ r. IsDone config mode new r (text ++ other)) read more given done,
      ),
    )

-- What was read and printed since the start of the run, and a fact about it.
abbrev pub SoFar : Option (List ℕ) → Option (List ℕ) → Option (List ℕ) → Option (List ℕ) → (List ℕ → List ℕ → Type 0) → Type 0
SoFar reader after first last fact = (read text : List ℕ) × Consumes reader after read × Appends first last text × fact read text

pub so_far_start : (config : Config) (mode : Mode) (server : State) (left : List ℕ) (number : ℕ) (reader first : Option (List ℕ))
    → StandsFor server config [] → left ≡ [] → number ≡ 0
    → SoFar reader reader first first (λ read text. IsStage config mode server left number read text)
so_far_start config mode server left number reader first s none zero_lines = (
  [],
  [],
  Consumes-nil reader,
  appends_none first,
  subst (λ (l : List ℕ). IsStage config mode server l number [] []) (sym none)
      (subst (λ (n : ℕ). IsStage config mode server [] n [] []) (sym zero_lines) (stage_start config mode server s)),
)

-- Another step keeps the account of what was read and printed.
pub so_far_step : (config : Config) (mode own : Mode) (old new : State) (left rest : List ℕ) (number next : ℕ)
    (reader middle after first mid last : Option (List ℕ)) (result : Result Bool RunFault) → own ≡ mode
    → SoFar reader middle first mid (λ read text. IsStage config mode old left number read text)
    → StepLeads config own old new left rest number next middle after mid last result
    → SoFar reader after first last (λ read text. Goes config mode new rest next after result read text)
so_far_step config mode own old new left rest number next reader middle after first mid last result same
    (read, text, took, put, stage) going =
    let (more, other, took_more, put_more, goes) =
    subst (λ (m : Mode). StepLeads config m old new left rest number next middle after mid last result) same going read text stage in (
      read ++ more,
      text ++ other,
      Consumes-trans reader middle after read more took took_more,
      appends_then first mid last text other put put_more,
      goes,
    )

pub so_far_stop : (config : Config) (mode : Mode) (new : State) (rest : List ℕ) (next : ℕ) (reader after first last : Option (List ℕ))
    (fault : RunFault)
    (result : Result ⊤ RunFault) → IsErr result → IsErrAnd result (λ e. e ≡ fault)
    → SoFar reader after first last (λ read text. Goes config mode new rest next after (Err fault) read text)
    → StepsRun config mode new reader after first last result
so_far_stop config mode new rest next reader after first last fault (Ok all) failed is so = absurd cc
so_far_stop config mode new rest next reader after first last fault (Err e) failed is (read, text, took, put, runs) =
    (read, text, took, put, subst (λ (f : RunFault). Runs config mode read after (Err f) text) (sym is) runs)

pub so_far_end : (config : Config) (mode : Mode) (new : State) (rest : List ℕ) (next : ℕ) (reader after first last : Option (List ℕ))
    → SoFar reader after first last (λ read text. Goes config mode new rest next after (Ok false) read text)
    → StepsRun config mode new reader after first last (Ok tt)
so_far_end config mode new rest next reader after first last (read, text, took, put, (end, done)) = (read, text, took, put, done)

pub so_far_at_end : (config : Config) (mode : Mode) (new : State) (rest : List ℕ) (next : ℕ) (reader after first last : Option (List ℕ))
    → SoFar reader after first last (λ read text. Goes config mode new rest next after (Ok false) read text) → IsAtEnd after
so_far_at_end config mode new rest next reader after first last (read, text, took, put, (end, done)) = end
