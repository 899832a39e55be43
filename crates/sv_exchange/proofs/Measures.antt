-- Each step that is due lowers the measure, so repeated stepping terminates.
use Rattle.std.proofs.Common.{◌≡◌, ℕ, ◌+◌, ◌<◌, ◌≤◌, ◌==◌, Bool, true, false, ◌&&◌, ◌||◌, cond, List, [], length, take, drop, refl, ap, arith}
use Rattle.std.proofs.lemmas.Bool.{ltb-true}
use Rattle.std.proofs.lemmas.List.{length-drop, length-take-le}
use Rattle.sv_exchange.specs.Exchange.{is_something}
use Rattle.sv_exchange.specs.Contents.{Contents, readable_of, shown_by, bit, text_size, exchange_measure}
use Rattle.sv_exchange.specs.Fields.{first_size, has_line, after_finish}
use Rattle.sv_text.proofs.Places.{position_within_length}

bit_small : (b : Bool) → bit b ≤ 1
bit_small true = omega arith
bit_small false = omega arith

-- The text that remains when the next message is current.
next_size : (later : List ℕ) (line pending : Bool) → has_line later ≡ line
    → text_size (line || pending) (length (take (first_size later) later))
    (length (drop (cond line (first_size later + 1) (length later)) later)) (line && pending)
    ≤ length later + bit pending
next_size later true pending e =
    let within = position_within_length (λ b. b == 10) later in
    omega (
      arith,
      ltb-true (first_size later) (length later) e,
      length-take-le (first_size later) later within,
      length-drop (first_size later + 1) later,
    )
next_size later false true e =
    let within = position_within_length (λ b. b == 10) later in
    omega (arith, within, length-take-le (first_size later) later within, length-drop (length later) later)
next_size later false false e =
    let within = position_within_length (λ b. b == 10) later in
    omega (arith, within, length-take-le (first_size later) later within)

-- A message is finished.
pub finish_measure : (contents new : Contents) → contents.ended ≡ true → new ≡ after_finish contents
    → exchange_measure new < exchange_measure contents
finish_measure contents new ended is =
    let old = ap (λ (e : Bool). text_size e (length contents.rest) (length contents.later) contents.end_pending) ended in
    let next = next_size contents.later (has_line contents.later) contents.end_pending refl in
    rw is (omega (arith, old, next, bit_small (is_something (shown_by (after_finish contents)))))

no_output_no_response : (answering : Bool) → is_something (readable_of answering []) ≡ false
no_output_no_response true = refl
no_output_no_response false = refl

-- A response is interrupted.
pub interrupt_measure : (contents new : Contents) → is_something (shown_by contents) ≡ true → new ≡ record contents { output = [] }
    → exchange_measure new < exchange_measure contents
interrupt_measure contents new some is = rw is (omega (arith, ap bit some, ap bit (no_output_no_response contents.answering)))
