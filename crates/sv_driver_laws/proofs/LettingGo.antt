-- The socket of an interrupt channel is closed only after an answer that ends the channel, or while
-- the channel isn't open.
use Rattle.std.proofs.Common.{◌≡◌, ℕ, Bool, true, false, List, [], ◌∷◌, ◌++◌, filter, flat_map, Option, Some, None, refl, sym, subst, inl, inr, append_assoc}
use Rattle.std.specs.Prelude.{⊤, ◌⊎◌, not, ◌||◌}
use Rattle.sv_history.specs.declared.event.Config.{Config}
use Rattle.sv_history.specs.declared.event.Port.TheVariants.{Intr}
use Rattle.sv_history.specs.Event.{PlainEvent}
use Rattle.sv_history.specs.Act.{Act}
use Rattle.sv_history.specs.History.{is_port_shut, IsLogOf}
use Rattle.sv_serve.specs.Heard.{Heard, WasClosed}
use Rattle.sv_driver_laws.specs.Served.{event_of, is_outer}
use Rattle.sv_driver_laws.specs.Carried.{ends_port, EachHeard, Follows, Once}
use Rattle.sv_driver_laws.proofs.Reasons.{once_in_longer_history}
use Rattle.std.proofs.lemmas.Bool.{not-false}

abbrev pub IsShut : ℕ → Config → List PlainEvent → Type 0
IsShut c config earlier = (log : List Act) × IsLogOf config earlier log × (is_port_shut (Intr c) log ≡ true)

abbrev pub IsEnd : ℕ → Config → List PlainEvent → List Heard → Type 0
IsEnd c config history trace = Follows (ends_port (Intr c)) trace ⊎ Once (IsShut c config) history trace

abbrev pub ClosesChannelsRightly : Config → List PlainEvent → List Heard → Type 0
ClosesChannelsRightly config history trace = EachHeard (λ heard older. (c : ℕ) → heard ≡ WasClosed (Intr c) → IsEnd c config history older)
    trace

-- This doesn't close the socket of an interrupt channel.
abbrev pub ClosesNoChannel : Heard → Type 0
ClosesNoChannel heard = (c : ℕ) → heard ≡ WasClosed (Intr c) → ⊥

abbrev pub NoneClosesChannel : List Heard → Type 0
NoneClosesChannel [] = ⊤
NoneClosesChannel (heard ∷ piece) = ClosesNoChannel heard × NoneClosesChannel piece

pub closes_rightly_more : (config : Config) (history events : List PlainEvent) (trace : List Heard)
    → ClosesChannelsRightly config history trace → ClosesChannelsRightly config (events ++ history) trace
closes_rightly_more config history events [] h = tt
closes_rightly_more config history events (heard ∷ trace) h = (
  (λ c e. elim (h.0 c e) [
    | inl last ↦ inl last
    | inr shut ↦ inr (once_in_longer_history (IsShut c config) history events trace shut)
  ]),
  closes_rightly_more config history events trace h.1,
)

pub closes_rightly_none : (config : Config) (history : List PlainEvent) (piece trace : List Heard) → NoneClosesChannel piece
    → ClosesChannelsRightly config history trace → ClosesChannelsRightly config history (piece ++ trace)
closes_rightly_none config history [] trace none h = h
closes_rightly_none config history (heard ∷ piece) trace none h =
    ((λ c e. absurd (none.0 c e)), closes_rightly_none config history piece trace none.1 h)

-- These answers close at most the socket of this channel: if there is a reason for that, they may
-- follow the trace.
abbrev pub MayCloseChannel : Option ℕ → List Heard → Type 0
MayCloseChannel hung piece = (config : Config) (history : List PlainEvent) (trace : List Heard) → ((c : ℕ) → hung ≡ Some c
    → IsEnd c config history trace) → ClosesChannelsRightly config history trace → ClosesChannelsRightly config history (piece ++ trace)

pub may_close_none : (hung : Option ℕ) → MayCloseChannel hung []
may_close_none hung config history trace reason h = h

pub may_close_one : (hung : Option ℕ) (heard : Heard) → ((c : ℕ) → heard ≡ WasClosed (Intr c) → hung ≡ Some c)
    → MayCloseChannel hung (heard ∷ [])
may_close_one hung heard names config history trace reason h = ((λ c e. reason c (names c e)), h)

pub some_is_injective : (c d : ℕ) → Some c ≡ Some d → c ≡ d
some_is_injective c d e = cc

pub none_not_some : {A : Type 0} (c : ℕ) → None ≡ Some c → A
none_not_some {A} c e = absurd cc

pub shut_is_reason : (c d : ℕ) (config : Config) (history : List PlainEvent) (trace : List Heard) (log : List Act)
    → IsLogOf config history log
    → is_port_shut (Intr c) log ≡ true → filter is_outer history ≡ flat_map event_of trace → Some c ≡ Some d → IsEnd d config history trace
shut_is_reason c d config history trace log was shut so e =
    inr ([], history, refl, so, (log, was, subst (λ (n : ℕ). is_port_shut (Intr n) log ≡ true) (some_is_injective c d e) shut))

pub unwanted_is_shut : (channel wanted shut : Bool) → (channel || wanted) ≡ false → channel ≡ not shut → shut ≡ true
unwanted_is_shut true wanted shut e is = absurd cc
unwanted_is_shut false wanted shut e is = not-false shut (sym is)

pub closes_rightly_event : (config : Config) (before after : List PlainEvent) (event : PlainEvent) (heard : Heard)
    (newer older trace : List Heard) (hung : Option ℕ)
    → after ≡ event ∷ before → MayCloseChannel hung newer → ((c : ℕ) → hung ≡ Some c → ends_port (Intr c) heard ≡ true)
    → ClosesNoChannel heard → NoneClosesChannel older
    → ClosesChannelsRightly config before trace → ClosesChannelsRightly config after ((newer ++ heard ∷ older) ++ trace)
closes_rightly_event config before after event heard newer older trace hung grown adds ends none old h =
    subst (λ (l : List PlainEvent). ClosesChannelsRightly config l ((newer ++ heard ∷ older) ++ trace)) (sym grown)
    (subst (λ (l : List Heard). ClosesChannelsRightly config (event ∷ before) l) (sym (append_assoc newer (heard ∷ older) trace))
    (adds config (event ∷ before) (heard ∷ older ++ trace) (λ c e. inl (heard, older ++ trace, refl, ends c e)) (
      (λ c e. absurd (none c e)),
      closes_rightly_none config (event ∷ before) older trace old
          (closes_rightly_more config before (event ∷ []) trace h),
    )))
