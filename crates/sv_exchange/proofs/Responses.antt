-- The response after a message is finished, and after bytes are read.
use Rattle.std.proofs.Common.{◌≡◌, ℕ, cond, List, [], ◌∷◌, ◌++◌, drop, refl, sym, ap}
use Rattle.std.proofs.lemmas.List.{drop-drop}
use Rattle.sv_logs.specs.Since.{newest, since}
use Rattle.sv_exchange.specs.Exchange.{ExchangeAct, Finished, ResponseRead, is_something, renews, new_response, bytes_read, answers, joined_answers, response}

-- The response after a message with these answers is finished.
abbrev pub response_after : List (List ℕ) → List ℕ → List ℕ
response_after [] before = before
response_after (answer ∷ others) before = joined_answers (answer ∷ others) ++ 10 ∷ []

pub response_finished : (acts : List ExchangeAct) → response (Finished ∷ acts) ≡ response_after (answers acts) (response acts)
response_finished acts = at (answers acts) refl
  where
    at : (given : List (List ℕ)) → answers acts ≡ given
        → drop (bytes_read (cond (is_something given) [] (Finished ∷ since renews acts)))
        (new_response (cond (is_something given) (Finished ∷ acts) (newest renews acts)))
        ≡ response_after given (response acts)
    at [] e = refl
    at (answer ∷ others) e = ap (λ (g : List (List ℕ)). joined_answers g ++ 10 ∷ []) e

pub response_read : (acts : List ExchangeAct) (count : ℕ) → response (ResponseRead count ∷ acts) ≡ drop count (response acts)
response_read acts count = sym (drop-drop count (bytes_read (since renews acts)) (new_response (newest renews acts)))
