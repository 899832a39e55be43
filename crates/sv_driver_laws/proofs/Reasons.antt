-- A connection that failed is closed at once. Otherwise only a connection at fault is closed, and
-- only if no bytes wait on it.
use Rattle.std.proofs.Common.{◌≡◌, ℕ, Bool, true, false, List, [], ◌∷◌, ◌++◌, filter, flat_map, Option, Some, None, sym, ap, subst, ◌∙◌, inl, inr, append_assoc, append-nil}
use Rattle.std.specs.Prelude.{⊤, ◌⊎◌}
use Rattle.std.proofs.lemmas.List.Elements.{filter-append}
use Rattle.std.proofs.lemmas.List.Concat.{flat_map-append}
use Rattle.sv_history.specs.declared.event.Config.{Config}
use Rattle.sv_history.specs.declared.event.Port.{Port}
use Rattle.sv_history.specs.declared.event.Port.TheVariants.{Conn}
use Rattle.sv_history.specs.Event.{PlainEvent, Close}
use Rattle.sv_history.specs.Act.{Act, of}
use Rattle.sv_history.specs.Connection.{waiting, is_faulted}
use Rattle.sv_history.specs.History.{IsLogOf}
use Rattle.sv_serve.specs.declared.wire.Answer.{Answer}
use Rattle.sv_serve.specs.Heard.{Heard, WasWritten, WasClosed}
use Rattle.sv_driver_laws.specs.Served.{event_of, is_outer}
use Rattle.sv_driver_laws.specs.Carried.{ends_port, ClosesAtOnce, EachHeard, Follows, Once}
use Rattle.sv_driver_laws.proofs.Ports.{AreSilent}

-- ---- answers that are no failure

abbrev pub IsNoFailure : Heard → Type 0
IsNoFailure heard = (c : ℕ) → ends_port (Conn c) heard ≡ false

abbrev pub NoneIsFailure : List Heard → Type 0
NoneIsFailure [] = ⊤
NoneIsFailure (heard ∷ piece) = IsNoFailure heard × NoneIsFailure piece

pub no_failure : {A : Type 0} (b : Bool) → b ≡ false → b ≡ true → A
no_failure {A} b off on = absurd (let z : false ≡ true = sym off ∙ on in cc)

-- If the newest answer isn't a failure, anything may come next.
closes_at_once_weaker : (next : Option Heard) (trace : List Heard) → ClosesAtOnce None trace → ClosesAtOnce next trace
closes_at_once_weaker next [] h = tt
closes_at_once_weaker next (heard ∷ trace) h = ((λ c e. absurd (let z = h.0 c e in cc)), h.1)

pub closes_at_once_append : (next : Option Heard) (one other : List Heard) → ClosesAtOnce next one → ClosesAtOnce None other
    → ClosesAtOnce next (one ++ other)
closes_at_once_append next [] other h k = closes_at_once_weaker next other k
closes_at_once_append next (heard ∷ one) other h k = (h.0, closes_at_once_append (Some heard) one other h.1 k)

pub closes_at_once_no_failure : (next : Option Heard) (piece rest : List Heard) → NoneIsFailure piece
    → ((other : Option Heard) → ClosesAtOnce other rest) → ClosesAtOnce next (piece ++ rest)
closes_at_once_no_failure next [] rest calm h = h next
closes_at_once_no_failure next (heard ∷ piece) rest calm h =
    ((λ c e. no_failure (ends_port (Conn c) heard) (calm.0 c) e), closes_at_once_no_failure (Some heard) piece rest calm.1 h)

-- ---- reasons for closing a connection

abbrev pub IsAtFault : ℕ → Config → List PlainEvent → Type 0
IsAtFault c config earlier = (log : List Act) × IsLogOf config earlier log × (is_faulted (of c log) ≡ true) × (waiting (of c log) ≡ [])

abbrev pub IsReason : ℕ → Config → List PlainEvent → List Heard → Type 0
IsReason c config history trace = Follows (ends_port (Conn c)) trace ⊎ Once (IsAtFault c config) history trace

abbrev pub HasReasons : Config → List PlainEvent → List Heard → Type 0
HasReasons config history trace = EachHeard (λ heard older. (c : ℕ) → heard ≡ WasClosed (Conn c) → IsReason c config history older) trace

-- What once held of a history once held of each longer history.
pub once_in_longer_history : (IsSo : List PlainEvent → Type 0) (history events : List PlainEvent) (trace : List Heard)
    → Once IsSo history trace → Once IsSo (events ++ history) trace
once_in_longer_history IsSo history events trace (later, earlier, is, so, then_so) =
    (events ++ later, earlier, ap (λ (l : List PlainEvent). events ++ l) is ∙ sym (append_assoc events later earlier), so, then_so)

-- If this closes a connection, there is a reason for it, whatever the trace up to the history
-- `before` is.
abbrev pub Reasons : Config → List PlainEvent → List PlainEvent → Heard → List Heard → Type 0
Reasons config history before heard older = (trace : List Heard) → filter is_outer before ≡ flat_map event_of trace
    → (c : ℕ) → heard ≡ WasClosed (Conn c) → IsReason c config history (older ++ trace)

pub reasons_more : (config : Config) (history events : List PlainEvent) (trace : List Heard) → HasReasons config history trace
    → HasReasons config (events ++ history) trace
reasons_more config history events [] h = tt
reasons_more config history events (heard ∷ trace) h = (
  (λ c e. elim (h.0 c e) [
    | inl failed ↦ inl failed
    | inr fault ↦ inr (once_in_longer_history (IsAtFault c config) history events trace fault)
  ]),
  reasons_more config history events trace h.1,
)

pub silent_reasons : (config : Config) (history : List PlainEvent) (piece trace : List Heard) → AreSilent piece
    → HasReasons config history trace → HasReasons config history (piece ++ trace)
silent_reasons config history [] trace silent h = h
silent_reasons config history (heard ∷ piece) trace silent h = (
  (λ c e. absurd (let z : Close (Conn c) ∷ [] ≡ [] = sym (ap event_of e) ∙ silent.0.0 in cc)),
  silent_reasons config history piece trace silent.1 h,
)

-- ---- what a step keeps

-- These answers lead from one history to another. Failures are followed by a close, and closes have
-- a reason.
pub record Closing (config : Config) (before after : List PlainEvent) (piece : List Heard) : Type 0 where
  pub once : ClosesAtOnce None piece
  pub reasons : (trace : List Heard) → filter is_outer before ≡ flat_map event_of trace → HasReasons config before trace
      → HasReasons config after (piece ++ trace)

-- Events and answers that match, after others that match, match together.
pub matching_append : (one other : List PlainEvent) (piece trace : List Heard) → filter is_outer one ≡ flat_map event_of piece
    → filter is_outer other ≡ flat_map event_of trace → filter is_outer (one ++ other) ≡ flat_map event_of (piece ++ trace)
matching_append one other piece trace h k = filter-append is_outer one other ∙ ap (λ (l : List PlainEvent). l ++ filter is_outer other) h
    ∙ ap (λ (l : List PlainEvent). flat_map event_of piece ++ l) k ∙ sym (flat_map-append event_of piece trace)

abbrev pub closing_silent : (config : Config) (before after : List PlainEvent) (piece : List Heard) → after ≡ before → AreSilent piece
    → NoneIsFailure piece → Closing config before after piece
closing_silent config before after piece same silent calm = record {
  once = subst (λ (l : List Heard). ClosesAtOnce None l) (append-nil piece) (closes_at_once_no_failure None piece [] calm (λ other. tt));
  reasons = λ trace so h. subst (λ (l : List PlainEvent). HasReasons config l (piece ++ trace)) (sym same)
      (silent_reasons config before piece trace silent h);
}

abbrev pub closing_more : (config : Config) (before after events : List PlainEvent) → after ≡ events ++ before
    → Closing config before after []
closing_more config before after events grown = record {
  once = tt;
  reasons = λ trace so h. subst (λ (l : List PlainEvent). HasReasons config l trace) (sym grown)
      (reasons_more config before events trace h);
}

abbrev pub closing_then : (config : Config) (a b c events : List PlainEvent) (one other : List Heard) → b ≡ events ++ a
    → filter is_outer events ≡ flat_map event_of one → Closing config a b one → Closing config b c other → Closing config a c (other ++ one)
closing_then config a b c events one other grown told x y = record {
  once = closes_at_once_append None other one y.once x.once;
  reasons = λ trace so h. subst (λ (l : List Heard). HasReasons config c l) (sym (append_assoc other one trace))
      (y.reasons (one ++ trace) (ap (filter is_outer) grown ∙ matching_append events a one trace told so) (x.reasons trace so h));
}

abbrev pub closing_event : (config : Config) (before after : List PlainEvent) (event : PlainEvent) (heard : Heard)
    (newer older : List Heard)
    → after ≡ event ∷ before → AreSilent newer → NoneIsFailure newer → AreSilent older → ClosesAtOnce (Some heard) older → IsNoFailure heard
    → Reasons config (event ∷ before) before heard older → Closing config before after (newer ++ heard ∷ older)
closing_event config before after event heard newer older grown newer_silent newer_calm older_silent older_once calm reason = record {
  once = closes_at_once_no_failure None newer (heard ∷ older) newer_calm
      (λ other. ((λ c e. no_failure (ends_port (Conn c) heard) (calm c) e), older_once));
  reasons = λ trace so h. subst (λ (l : List PlainEvent). HasReasons config l ((newer ++ heard ∷ older) ++ trace)) (sym grown)
      (subst (λ (l : List Heard). HasReasons config (event ∷ before) l) (sym (append_assoc newer (heard ∷ older) trace))
      (silent_reasons config (event ∷ before) newer (heard ∷ older ++ trace) newer_silent (
        reason trace so,
        silent_reasons config (event ∷ before) older trace older_silent
            (reasons_more config before (event ∷ []) trace h),
      )));
}

pub closed_conn_is_injective : (c d : ℕ) → WasClosed (Conn c) ≡ WasClosed (Conn d) → c ≡ d
closed_conn_is_injective c d e = cc

pub written_else : {A : Type 0} (port : Port) (bytes : List ℕ) (answer : Answer ℕ) (c : ℕ)
    → WasWritten port bytes answer ≡ WasClosed (Conn c) → A
written_else {A} port bytes answer c e = absurd cc
