-- Two lists of acts of message exchange that are the same but for how program text was accepted.
use Rattle.std.proofs.Common.{◌≡◌, ℕ, suc, ◌+◌, Bool, false, cond, List, [], ◌∷◌, ◌++◌, map, refl, sym, ap, ◌∙◌, inl, inr, append_assoc, append-nil}
use Rattle.std.proofs.lemmas.Bool.{cases_Bool}
use Rattle.std.proofs.lemmas.List.{map-append}
use Rattle.sv_exchange.specs.Exchange.{ExchangeAct, Accepted, TextDropped, UnitDone, Answered, Finished, ResponseRead, Symbol, Byte, end_mark, text, messages_finished, current, units_done, has_overrun, has_dropped, all_answers, answers, message, has_ended, joined_answers, renews, new_response, bytes_read, response, is_something, next_unit, due}
use Rattle.sv_logs.specs.Since.{since, newest}

-- The response as it was before any byte of it was read, and how many bytes of it were read.
abbrev whole_response : List ExchangeAct → List ℕ
whole_response acts = new_response (newest renews acts)

abbrev read_since : List ExchangeAct → ℕ
read_since acts = bytes_read (since renews acts)

-- All that is determined without the program text is the same.
pub record SameExchange (acts other : List ExchangeAct) : Type 0 where
  pub count : messages_finished acts ≡ messages_finished other
  pub done : units_done (current acts) ≡ units_done (current other)
  pub overrun : has_overrun (current acts) ≡ has_overrun (current other)
  pub dropped : has_dropped (current acts) ≡ has_dropped (current other)
  pub given : all_answers (current acts) ≡ all_answers (current other)
  pub whole : whole_response acts ≡ whole_response other
  pub read : read_since acts ≡ read_since other

pub same_exchange_refl : (acts : List ExchangeAct) → SameExchange acts acts
same_exchange_refl acts = assumption

-- Accepting program text in one of the lists keeps this.
pub text_keeps_same_exchange : (bytes : List ℕ) (ended : Bool) (acts other : List ExchangeAct) → SameExchange acts other
    → SameExchange (Accepted bytes ended ∷ acts) other
text_keeps_same_exchange bytes ended acts other v = assumption

pub answers_same : (acts other : List ExchangeAct) → SameExchange acts other → answers acts ≡ answers other
answers_same acts other v = rw (v.dropped, v.given) refl

-- When a message is finished, its answers become the response, if it has any.
whole_finished : (acts : List ExchangeAct)
    → whole_response (Finished ∷ acts) ≡ cond (is_something (answers acts)) (joined_answers (answers acts) ++ 10 ∷ []) (whole_response acts)
whole_finished acts = elim (cases_Bool (is_something (answers acts))) [ inl e ↦ rw e refl | inr e ↦ rw e refl ]

read_finished : (acts : List ExchangeAct) → read_since (Finished ∷ acts) ≡ cond (is_something (answers acts)) 0 (read_since acts)
read_finished acts = elim (cases_Bool (is_something (answers acts))) [ inl e ↦ rw e refl | inr e ↦ rw e refl ]

exchange_finished : (acts other : List ExchangeAct) → SameExchange acts other → SameExchange (Finished ∷ acts) (Finished ∷ other)
exchange_finished acts other v = assumption (
  ap (λ (n : ℕ). suc n) v.count,
  whole_finished acts ∙ rw (answers_same acts other v, v.whole) refl ∙ sym (whole_finished other),
  read_finished acts ∙ rw (answers_same acts other v, v.read) refl ∙ sym (read_finished other),
)

pub act_keeps_same_exchange : (act : ExchangeAct) (acts other : List ExchangeAct) → SameExchange acts other
    → SameExchange (act ∷ acts) (act ∷ other)
act_keeps_same_exchange UnitDone acts other v = assumption (ap (λ (n : ℕ). suc n) v.done)
act_keeps_same_exchange (Answered answer) acts other v = assumption (ap (λ (l : List (List ℕ)). l ++ answer ∷ []) v.given)
act_keeps_same_exchange Finished acts other v = exchange_finished acts other v
act_keeps_same_exchange (ResponseRead count) acts other v = assumption (ap (λ (n : ℕ). n + count) v.read)
act_keeps_same_exchange _ acts other v = assumption

pub response_same : (acts other : List ExchangeAct) → SameExchange acts other → response acts ≡ response other
response_same acts other v = rw (v.read, v.whole) refl

-- ---- the text

-- The text stays the same after the same act in both lists.
pub act_keeps_same_text : (act : ExchangeAct) (acts other : List ExchangeAct) → text acts ≡ text other
    → text (act ∷ acts) ≡ text (act ∷ other)
act_keeps_same_text (Accepted bytes ended) acts other same = ap (λ (l : List Symbol). l ++ (map Byte bytes ++ end_mark ended)) same
act_keeps_same_text TextDropped acts other same = refl
act_keeps_same_text _ acts other same = same

-- The text of a write that is accepted in two parts is the text of the whole write.
cut_symbols : (t : List Symbol) (x y : List ℕ) (e : List Symbol)
    → (t ++ (map Byte x ++ [])) ++ (map Byte y ++ e) ≡ t ++ (map Byte (x ++ y) ++ e)
cut_symbols t x y e = ap (λ (l : List Symbol). (t ++ l) ++ (map Byte y ++ e)) (append-nil (map Byte x))
    ∙ append_assoc t (map Byte x) (map Byte y ++ e)
    ∙ ap (λ (l : List Symbol). t ++ l) (sym (append_assoc (map Byte x) (map Byte y) e))
    ∙ ap (λ (l : List Symbol). t ++ (l ++ e)) (sym (map-append Byte x y))

pub cut_write_has_same_text : (x y : List ℕ) (ended : Bool) (acts : List ExchangeAct)
    → text (Accepted y ended ∷ Accepted x false ∷ acts) ≡ text (Accepted (x ++ y) ended ∷ acts)
cut_write_has_same_text x y ended acts = cut_symbols (text acts) x y (end_mark ended)

pub message_same : (acts other : List ExchangeAct) → SameExchange acts other → text acts ≡ text other → message acts ≡ message other
message_same acts other v same = rw (same, v.count) refl

-- ---- what is due

pub ended_same : (acts other : List ExchangeAct) → SameExchange acts other → text acts ≡ text other → has_ended acts ≡ has_ended other
ended_same acts other v same = rw (same, v.count) refl

pub next_unit_same : (acts other : List ExchangeAct) → SameExchange acts other → text acts ≡ text other → next_unit acts ≡ next_unit other
next_unit_same acts other v same =
    rw (ended_same acts other v same, v.dropped, message_same acts other v same, v.done) refl

pub due_same : (acts other : List ExchangeAct) → SameExchange acts other → text acts ≡ text other → due acts ≡ due other
due_same acts other v same = rw (
  next_unit_same acts other v same,
  message_same acts other v same,
  v.overrun,
  v.done,
  response_same acts other v,
  ended_same acts other v same,
) refl

pub same_exchange_sym : (acts other : List ExchangeAct) → SameExchange acts other → SameExchange other acts
same_exchange_sym acts other v = search sym
