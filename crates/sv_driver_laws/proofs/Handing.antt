-- Each write passes exactly the bytes that waited on its port at that moment.
use Rattle.std.proofs.Common.{◌≡◌, ℕ, List, [], ◌∷◌, ◌++◌, filter, flat_map, refl, sym, subst, ◌∙◌, append_assoc}
use Rattle.std.specs.Prelude.{⊤}
use Rattle.sv_history.specs.declared.event.Config.{Config}
use Rattle.sv_history.specs.declared.event.Port.{Port}
use Rattle.sv_history.specs.Event.{PlainEvent}
use Rattle.sv_history.specs.Queries.{WaitOn}
use Rattle.sv_serve.specs.declared.wire.Answer.{Answer}
use Rattle.sv_serve.specs.Heard.{Heard, WasWritten}
use Rattle.sv_driver_laws.specs.Served.{event_of, is_outer}
use Rattle.sv_driver_laws.specs.Carried.{EachHeard, Once}
use Rattle.sv_driver_laws.proofs.Reasons.{once_in_longer_history}
use Rattle.sv_driver_laws.proofs.Ports.{AreSilent}

abbrev pub HandsOver : Config → List PlainEvent → List Heard → Type 0
HandsOver config history trace = EachHeard (λ heard older. (port : Port) (bytes : List ℕ) (answer : Answer ℕ)
    → heard ≡ WasWritten port bytes answer → Once (λ earlier. WaitOn port config earlier bytes) history older) trace

-- If this is a write, its bytes are those that wait on the port after this history.
abbrev pub WritesWaiting : Config → List PlainEvent → Heard → Type 0
WritesWaiting config history heard = (port : Port) (bytes : List ℕ) (answer : Answer ℕ) → heard ≡ WasWritten port bytes answer
    → WaitOn port config history bytes

abbrev pub AllWriteWaiting : Config → List PlainEvent → List Heard → Type 0
AllWriteWaiting config history [] = ⊤
AllWriteWaiting config history (heard ∷ piece) = WritesWaiting config history heard × AllWriteWaiting config history piece

abbrev pub IsNoWrite : Heard → Type 0
IsNoWrite heard = (port : Port) (bytes : List ℕ) (answer : Answer ℕ) → heard ≡ WasWritten port bytes answer → ⊥

abbrev pub NoneWritten : List Heard → Type 0
NoneWritten [] = ⊤
NoneWritten (heard ∷ piece) = IsNoWrite heard × NoneWritten piece

pub fits_none : (config : Config) (history : List PlainEvent) (heard : Heard) → IsNoWrite heard → WritesWaiting config history heard
fits_none config history heard none = λ port bytes answer e. absurd (none port bytes answer e)

pub all_fit_none : (config : Config) (history : List PlainEvent) (piece : List Heard) → NoneWritten piece
    → AllWriteWaiting config history piece
all_fit_none config history [] none = tt
all_fit_none config history (heard ∷ piece) none = (fits_none config history heard none.0, all_fit_none config history piece none.1)

pub hands_over_more_events : (config : Config) (history events : List PlainEvent) (trace : List Heard) → HandsOver config history trace
    → HandsOver config (events ++ history) trace
hands_over_more_events config history events [] h = tt
hands_over_more_events config history events (heard ∷ trace) h = (
  (λ port bytes answer e. once_in_longer_history (λ earlier. WaitOn port config earlier bytes) history events trace
      (h.0 port bytes answer e)),
  hands_over_more_events config history events trace h.1,
)

none_silent : (piece trace : List Heard) → AreSilent piece → flat_map event_of (piece ++ trace) ≡ flat_map event_of trace
none_silent [] trace silent = refl
none_silent (heard ∷ piece) trace silent = rw silent.0.0 (none_silent piece trace silent.1)

pub hands_one : (config : Config) (history : List PlainEvent) (heard : Heard) (trace : List Heard) → WritesWaiting config history heard
    → filter is_outer history ≡ flat_map event_of trace → HandsOver config history trace → HandsOver config history (heard ∷ trace)
hands_one config history heard trace fits so h = ((λ port bytes answer e. ([], history, refl, so, fits port bytes answer e)), h)

pub hands_over_silent : (config : Config) (history : List PlainEvent) (piece trace : List Heard) → AreSilent piece
    → AllWriteWaiting config history piece
    → filter is_outer history ≡ flat_map event_of trace → HandsOver config history trace → HandsOver config history (piece ++ trace)
hands_over_silent config history [] trace silent fit so h = h
hands_over_silent config history (heard ∷ piece) trace silent fit so h = hands_one config history heard (piece ++ trace) fit.0
    (so ∙ sym (none_silent piece trace silent.1)) (hands_over_silent config history piece trace silent.1 fit.1 so h)

pub hands_unwritten : (config : Config) (history : List PlainEvent) (piece trace : List Heard) → NoneWritten piece
    → HandsOver config history trace → HandsOver config history (piece ++ trace)
hands_unwritten config history [] trace none h = h
hands_unwritten config history (heard ∷ piece) trace none h =
    ((λ port bytes answer e. absurd (none.0 port bytes answer e)), hands_unwritten config history piece trace none.1 h)

pub hands_over_event : (config : Config) (before after : List PlainEvent) (event : PlainEvent) (heard : Heard)
    (newer older trace : List Heard)
    → after ≡ event ∷ before → NoneWritten newer → WritesWaiting config before heard → AreSilent older → AllWriteWaiting config before older
    → filter is_outer before ≡ flat_map event_of trace → HandsOver config before trace
    → HandsOver config after ((newer ++ heard ∷ older) ++ trace)
hands_over_event config before after event heard newer older trace grown none fits silent fit so h =
    subst (λ (l : List PlainEvent). HandsOver config l ((newer ++ heard ∷ older) ++ trace)) (sym grown)
    (subst (λ (l : List Heard). HandsOver config (event ∷ before) l) (sym (append_assoc newer (heard ∷ older) trace))
    (hands_unwritten config (event ∷ before) newer (heard ∷ older ++ trace) none
    (hands_over_more_events config before (event ∷ []) (heard ∷ older ++ trace)
    (hands_one config before heard (older ++ trace) fits (so ∙ sym (none_silent older trace silent))
    (hands_over_silent config before older trace silent fit so h)))))
