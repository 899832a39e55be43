-- A call that stops waiting for the lock is executed while the lock is free, or fails, or its
-- connection is closed.
use Rattle.std.proofs.Common.{◌≡◌, ℕ, false, List, [], ◌∷◌, ◌++◌, None, refl, sym, ap, subst, ◌∙◌, inl, inr, ◌⊎◌, append_assoc, append-nil}
use Rattle.std.specs.Prelude.{map, ⊤}
use Rattle.sv_logs.proofs.Each.{Each}
use Rattle.sv_vxi.specs.Arguments.{Arguments}
use Rattle.sv_links.specs.Links.{LinkAct, holder}
use Rattle.sv_links.specs.Waiting.{Left}
use Rattle.sv_layers.specs.Act.{Act as InstrumentAct}
use Rattle.sv_history.specs.declared.event.Config.{Config}
use Rattle.sv_history.specs.Act.{Act, ConnAct, DeviceAct, Linked, Waited, Applied, On, OnDevice, of, device_acts, link_acts}
use Rattle.sv_history.specs.Connection.{is_open}
use Rattle.sv_history.specs.CallOutcome.{CallOutcome}
use Rattle.sv_history.specs.Effect.{Effect, acts_of, replies, call_effect}
use Rattle.sv_history.specs.Resuming.{leaving}
use Rattle.sv_laws.specs.LockFair.{WaitsForLock, IsExecuted, FailsNext}
use Rattle.sv_laws.proofs.EveryLog.Done.{IsActOfCall}

-- The lock is free and the call is executed, or its connection is closed, or the call fails.
abbrev pub Ends : Config → ℕ → List Act → List Act → Type 0
Ends config c newer older = ((holder (link_acts (device_acts older)) ≡ None) × IsExecuted config c newer older)
    ⊎ (is_open (of c older) ≡ false) ⊎ FailsNext c newer older

-- If this act ends a wait for the lock, the call ends in one of these three ways.
abbrev pub EndsAt : Config → List Act → Act → List Act → Type 0
EndsAt config newer (OnDevice (Waited (Left c))) older = WaitsForLock (device_acts older) c → Ends config c newer older
EndsAt config newer act older = ⊤

-- Each call of this log that stopped waiting for the lock ends so. The acts `newer` follow the log.
abbrev pub AllEnd : Config → List Act → List Act → Type 0
AllEnd config newer [] = ⊤
AllEnd config newer (act ∷ older) = EndsAt config newer act older × AllEnd config (newer ++ act ∷ []) older

-- ---- further acts follow

ends_more : (config : Config) (c : ℕ) (more newer older : List Act) → Ends config c newer older → Ends config c (more ++ newer) older
ends_more config c more newer older (inl (free, (rest, call, polled, said, known, is))) = inl (
  free,
  (
    more ++ rest,
    call,
    polled,
    said,
    known,
    ap (λ (l : List Act). more ++ l) is ∙ sym (append_assoc more rest _),
  ),
)
ends_more config c more newer older (inr (inl shut)) = inr (inl shut)
ends_more config c more newer older (inr (inr (rest, call, error, is, known, cause))) = inr (inr (
  more ++ rest,
  call,
  error,
  ap (λ (l : List Act). more ++ l) is ∙ sym (append_assoc more rest _),
  known,
  cause,
))

ends_at_with_newer : (config : Config) (more newer : List Act) (act : Act) (older : List Act) → EndsAt config newer act older
    → EndsAt config (more ++ newer) act older
ends_at_with_newer config more newer (OnDevice (Waited (Left c))) older h = λ w. ends_more config c more newer older (h w)
ends_at_with_newer config more newer _ older h = tt

all_end_with_newer : (config : Config) (more newer log : List Act) → AllEnd config newer log → AllEnd config (more ++ newer) log
all_end_with_newer config more newer [] so = tt
all_end_with_newer config more newer (act ∷ older) so = (
  ends_at_with_newer config more newer act older so.0,
  subst (λ (l : List Act). AllEnd config l older) (sym (append_assoc more newer (act ∷ [])))
      (all_end_with_newer config more (newer ++ act ∷ []) older so.1),
)

all_end_given_newer : (config : Config) (more log : List Act) → AllEnd config [] log → AllEnd config more log
all_end_given_newer config more log so = subst (λ (l : List Act). AllEnd config l log) (append-nil more)
    (all_end_with_newer config more [] log so)

-- ---- acts by which no call leaves the queue

-- By none of these acts does a call leave the queue of suspended calls.
abbrev pub NoneLeaves : List Act → Type 0
NoneLeaves [] = ⊤
NoneLeaves (OnDevice (Waited (Left c)) ∷ acts) = ⊥
NoneLeaves (_ ∷ acts) = NoneLeaves acts

shift_acts_that_leave_none : (config : Config) (acts newer log : List Act) → NoneLeaves acts → AllEnd config (newer ++ acts) log
    → AllEnd config newer (acts ++ log)
shift_acts_that_leave_none config [] newer log h so = subst (λ (l : List Act). AllEnd config l log) (append-nil newer) so
shift_acts_that_leave_none config (OnDevice (Waited (Left c)) ∷ acts) newer log h so = absurd h
shift_acts_that_leave_none config (act ∷ acts) newer log h so = (
  tt,
  shift_acts_that_leave_none config acts (newer ++ act ∷ []) log h
      (subst (λ (l : List Act). AllEnd config l log) (sym (append_assoc newer (act ∷ []) acts)) so),
)

pub all_end_if_none_leaves : (config : Config) (acts log : List Act) → NoneLeaves acts → AllEnd config [] log
    → AllEnd config [] (acts ++ log)
all_end_if_none_leaves config acts log h so = shift_acts_that_leave_none config acts [] log h (all_end_given_newer config acts log so)

-- ---- a call leaves the queue, and these acts follow

pub all_end_after_leaving : (config : Config) (c : ℕ) (acts log : List Act) → NoneLeaves acts
    → (WaitsForLock (device_acts log) c → Ends config c acts log) → AllEnd config [] log
    → AllEnd config [] (acts ++ OnDevice (Waited (Left c)) ∷ log)
all_end_after_leaving config c acts log h ends so = shift_acts_that_leave_none config acts [] (OnDevice (Waited (Left c)) ∷ log) h
    (ends, all_end_given_newer config (acts ++ OnDevice (Waited (Left c)) ∷ []) log so)

shared_behind : (adds : List DeviceAct) (act : DeviceAct) (log : List Act)
    → map OnDevice (adds ++ act ∷ []) ++ log ≡ map OnDevice adds ++ OnDevice act ∷ log
shared_behind [] act log = refl
shared_behind (one ∷ adds) act log = ap (λ (l : List Act). OnDevice one ∷ l) (shared_behind adds act log)

acts_behind : (own : List Act) (adds : List DeviceAct) (act : DeviceAct) (log : List Act)
    → (own ++ map OnDevice (adds ++ act ∷ [])) ++ log ≡ (own ++ map OnDevice adds) ++ OnDevice act ∷ log
acts_behind [] adds act log = shared_behind adds act log
acts_behind (one ∷ own) adds act log = ap (λ (l : List Act). one ∷ l) (acts_behind own adds act log)

conn_acts_leave_none : (c : ℕ) (own : List ConnAct) (rest : List Act) → NoneLeaves rest → NoneLeaves (map (On c) own ++ rest)
conn_acts_leave_none c [] rest h = h
conn_acts_leave_none c (act ∷ own) rest h = conn_acts_leave_none c own rest h

pub all_end_after_effect : (config : Config) (c : ℕ) (effect : Effect) (log : List Act) → NoneLeaves (map OnDevice effect.adds)
    → AllEnd config [] log → AllEnd config [] (acts_of c effect ++ log)
all_end_after_effect config c effect log h so =
    all_end_if_none_leaves config (acts_of c effect) log (conn_acts_leave_none c effect.own (map OnDevice effect.adds) h) so

pub all_end_after_outcome : (config : Config) (c xid : ℕ) (outcome : CallOutcome) (log : List Act) → NoneLeaves (map OnDevice outcome.adds)
    → (WaitsForLock (device_acts log) c → Ends config c (acts_of c (call_effect xid outcome)) log) → AllEnd config [] log
    → AllEnd config [] (acts_of c (call_effect xid (leaving c outcome)) ++ log)
all_end_after_outcome config c xid outcome log h ends so =
    let own = replies xid outcome.result in
    subst (AllEnd config []) (sym (acts_behind (map (On c) own) outcome.adds (Waited (Left c)) log))
    (all_end_after_leaving config c (acts_of c (call_effect xid outcome)) log (conn_acts_leave_none c own (map OnDevice outcome.adds) h)
    ends so)

pub all_end_after_close : (config : Config) (c : ℕ) (adds : List DeviceAct) (log : List Act) → NoneLeaves (map OnDevice adds)
    → is_open (of c log) ≡ false → AllEnd config [] log → AllEnd config [] (map OnDevice (adds ++ Waited (Left c) ∷ []) ++ log)
all_end_after_close config c adds log h shut so = subst (AllEnd config []) (sym (shared_behind adds (Waited (Left c)) log))
    (all_end_after_leaving config c (map OnDevice adds) log h (λ w. inr (inl shut)) so)

pub executed_acts_leave_none : (c : ℕ) (arguments : Arguments) (adds acts : List DeviceAct) → Each (IsActOfCall c arguments) adds acts
    → NoneLeaves (map OnDevice adds)
executed_acts_leave_none c arguments [] acts h = tt
executed_acts_leave_none c arguments (Waited act ∷ adds) acts h = absurd h.0
executed_acts_leave_none c arguments (_ ∷ adds) acts h = executed_acts_leave_none c arguments adds acts h.1

pub instrument_acts_leave_none : (adds : List InstrumentAct) → NoneLeaves (map OnDevice (map Applied adds))
instrument_acts_leave_none [] = tt
instrument_acts_leave_none (act ∷ adds) = instrument_acts_leave_none adds

pub link_acts_leave_none : (links : List LinkAct) → NoneLeaves (map OnDevice (map Linked links))
link_acts_leave_none [] = tt
link_acts_leave_none (act ∷ links) = link_acts_leave_none links

-- ---- the same for a suffix of the log

pub all_end_in_suffix : (config : Config) (newer front rest : List Act) → AllEnd config front (newer ++ rest)
    → AllEnd config (front ++ newer) rest
all_end_in_suffix config [] front rest so = subst (λ (l : List Act). AllEnd config l rest) (sym (append-nil front)) so
all_end_in_suffix config (act ∷ newer) front rest so = subst (λ (l : List Act). AllEnd config l rest) (append_assoc front (act ∷ []) newer)
    (all_end_in_suffix config newer (front ++ act ∷ []) rest so.1)
