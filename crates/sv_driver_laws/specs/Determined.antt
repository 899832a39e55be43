-- What a driver asks its wire, and what its server gets, follows from what the wire answers. Traces
-- (lists of the wire's answers) and histories have the newest item first.
use Rattle.std.specs.Prelude.{◌≡◌, ◌≢◌, ◌⊎◌, ℕ, List, [], ◌∷◌, ◌++◌, map, filter, flat_map}
use Rattle.std.specs.List.{AllByRecursion}
use Rattle.sv_history.specs.declared.event.Config.{Config}
use Rattle.sv_history.specs.Event.{PlainEvent, Turn, Refuse}
use Rattle.sv_serve.specs.declared.wire.Answer.{Answer}
use Rattle.sv_serve.specs.declared.wire.Answer.TheVariants.{Got, Pending, Failed}
use Rattle.sv_serve.specs.Heard.{Heard, WasAccepted, WasRead, WasProbed, WasWritten, WasDialed, PeerAnswered, WasClosed, Through}
use Rattle.sv_serve.specs.DriverView.{DriverState, Stands}
use Rattle.sv_serve.specs.Sweep.{Handed, Swept}
use Rattle.sv_driver_laws.specs.Served.{event_of, is_outer}
use Rattle.sv_driver_laws.specs.Carried.{IsCarried, InSweeps}

-- what the wire was asked: the call of its method with the answer `Pending` in place of its own
abbrev pub question : Heard → Heard
question (WasAccepted role conn answer) = WasAccepted role conn Pending
question (WasRead conn most answer) = WasRead conn most Pending
question (WasProbed conn drops answer) = WasProbed conn drops Pending
question (WasWritten port bytes answer) = WasWritten port bytes Pending
question (WasDialed conn dial answer) = WasDialed conn dial Pending
question (PeerAnswered conn answer) = PeerAnswered conn Pending
question (WasClosed port) = WasClosed port

-- The traces and histories of two runs are the same up to a moment. The wires are then asked the
-- same, and answer differently.
abbrev pub AnswersDiffer : List Heard → List PlainEvent → List Heard → List PlainEvent → Type 0
AnswersDiffer trace history other also = (heard answer : Heard) × (newer later older : List Heard) × (events more past : List PlainEvent)
    × (trace ≡ newer ++ (heard ∷ older)) × (other ≡ later ++ (answer ∷ older)) × (history ≡ events ++ past) × (also ≡ more ++ past)
    × (filter is_outer past ≡ flat_map event_of older) × (question heard ≡ question answer) × (heard ≢ answer)

-- The traces and histories of two runs are the same up to a moment. Then the same call is taken in
-- the first run, and refused in the second one, where memory for it was refused.
abbrev pub MemoryDiffers : List Heard → List PlainEvent → List Heard → List PlainEvent → Type 0
MemoryDiffers trace history other also = (c : ℕ) × (newer later older : List Heard) × (events more past : List PlainEvent)
    × (trace ≡ newer ++ older) × (other ≡ later ++ older) × (history ≡ events ++ (Turn c ∷ past)) × (also ≡ more ++ (Refuse c ∷ past))
    × (filter is_outer past ≡ flat_map event_of older)

-- Two runs are the same; or they are the same up to the first answer of the wires that differs; or
-- up to the first call for which memory is refused in one run only.
abbrev pub SameUntil : List Heard → List PlainEvent → List Heard → List PlainEvent → Type 0
SameUntil trace history other also = ((trace ≡ other) × (history ≡ also)) ⊎ AnswersDiffer trace history other also
    ⊎ MemoryDiffers trace history other also ⊎ MemoryDiffers other also trace history

-- This is what the wire was asked and answered in a run of sweeps, and the history of its server
-- and of its journal.
abbrev pub IsRun : {W J : Type 0} (hears : W → Heard → W → Type 0) (notes : J → List PlainEvent → J → Type 0) → Config
    → (start : DriverState W J) (handed : List Handed) (now : DriverState W J)
    → Swept hears notes handed start now → List Heard → List PlainEvent → Type 0
IsRun hears notes config start handed now swept trace history = Through hears trace start.wire now.wire
    × Stands (notes start.journal) now config history × IsCarried config history trace
    × InSweeps hears notes config start handed now swept history trace

-- Two drivers whose servers are new are handed the same in the same order: milliseconds, each time
-- for a sweep, and stimuli. They have the same configuration and the same scenario; their wires and
-- their journals are any two. Then what they ask, and what their servers get, is the same until a
-- wire answers differently, or memory for a call is refused.
abbrev pub Determined : {W V J K : Type 0} → (W → Heard → W → Type 0) → (J → List PlainEvent → J → Type 0) → (V → Heard → V → Type 0)
    → (K → List PlainEvent → K → Type 0) → Type 0
Determined hears notes hearing noting = (config : Config) (handed : List Handed) (start now : DriverState _ _) (begin end : DriverState _ _)
    → Stands (notes start.journal) start config [] → Stands (noting begin.journal) begin config [] → start.dials ≡ begin.dials
    → start.ahead ≡ begin.ahead → start.ticks ≡ begin.ticks → (swept : Swept hears notes handed start now)
    → (sweeps : Swept hearing noting handed begin end) → (trace other : List Heard) × (history also : List PlainEvent)
    × IsRun hears notes config start handed now swept trace history × IsRun hearing noting config begin handed end sweeps other also
    × SameUntil trace history other also

-- the answer with its value replaced by a list, so that the answers of all methods have one type
abbrev pub listed : {A : Type 0} → (A → List ℕ) → Answer A → Answer (List ℕ)
listed list (Got value) = Got (list value)
listed list Pending = Pending
listed list Failed = Failed

-- the wire's answer, without what was asked; for a close, an empty answer
abbrev pub answer_of : Heard → Answer (List ℕ)
answer_of (WasAccepted role conn answer) = listed (λ all. []) answer
answer_of (WasRead conn most answer) = answer
answer_of (WasProbed conn drops answer) = listed (λ all. []) answer
answer_of (WasWritten port bytes answer) = listed (λ n. n ∷ []) answer
answer_of (WasDialed conn dial answer) = listed (λ all. []) answer
answer_of (PeerAnswered conn answer) = listed (λ all. []) answer
answer_of (WasClosed port) = Got []

-- No call of the history is refused for lack of memory.
abbrev pub NeverRefuses : List PlainEvent → Type 0
NeverRefuses = AllByRecursion (λ event. (c : ℕ) → event ≢ Refuse c)

-- If two runs are the same until something differs (`SameUntil`), their wires gave the same answers
-- in the same order, and memory was never refused, then the runs are the same: all that was asked
-- and written, and all that happened.
abbrev pub ByAnswers : Type 0
ByAnswers = (trace other : List Heard) (history also : List PlainEvent) → SameUntil trace history other also
    → map answer_of trace ≡ map answer_of other → NeverRefuses history → NeverRefuses also → (trace ≡ other) × (history ≡ also)
