-- The meaning that is read from a line of a replay is the one that the line has.
use Rattle.std.proofs.Common.{◌≡◌, ℕ, Bool, true, false, eqb, List, [], ◌∷◌, ◌++◌, Option, Some, None, option_map, option_and_then, refl, sym, subst, ap, ◌∙◌, arith}
use Rattle.std.specs.Prelude.{codes, IfSome, IsSomeAnd}
use Rattle.std.proofs.lemmas.Bool.{eqb-true, eqb-false, ne_eqb}
use Rattle.std.proofs.lemmas.Option.{none-some, same_Some, option_and_then_some}
use Rattle.sv_history.specs.declared.event.Role.{Role}
use Rattle.sv_history.specs.declared.event.Role.TheVariants.{Core, Abort, Portmap}
use Rattle.sv_history.specs.declared.event.Port.{Port}
use Rattle.sv_history.specs.declared.event.Port.TheVariants.{Conn, Intr}
use Rattle.sv_history.specs.Event.{PlainEvent, Open, Bytes, Turn, Refuse, Took, Close, Dialed, Input, External, Tick}
use Rattle.sv_replay.specs.Line.{Line, Blank, One, Ticks, IsPlain, role_word, ok_word, SaysEvent, Says}
use Rattle.sv_replay.specs.Reading.{cut_at, plain_at, voltage_at, hex_at, numbered_at, role_at, ok_at, port_at, ticks_at, open_at, bytes_at, dialed_at, input_at, traffic_at, event_at, lone_at, words_at, cut_line_at, line_at}
use Rattle.sv_replay.specs.PlainLine.{plain_line}
use Rattle.sv_replay.specs.declared.line.Line.{Line as Command}
use Rattle.sv_replay.proofs.Options.{from_mapped_some, from_cond, from_word_match}
use Rattle.sv_replay.proofs.Numbers.{AreDigits, plain_reads, plain_takes, voltage_reads, voltage_takes}
use Rattle.sv_replay.proofs.Hexes.{hex_reads, hex_takes}

-- Digits that a space follows are cut off at this space.
pub cut_reads : (digits rest : List ℕ) → AreDigits digits → cut_at (digits ++ 32 ∷ rest) ≡ Some (digits, rest)
unfolding cut_at
cut_reads [] rest are = refl
cut_reads (digit ∷ digits) rest are =
    rw (ne_eqb digit 32 (λ e. omega (arith, are.0.0)), cut_reads digits rest are.1) refl

-- A text that was cut is the first part, a space and the second part.
pub cut_takes : (text : List ℕ) (cut : List ℕ × List ℕ) → cut_at text ≡ Some cut → text ≡ cut.0 ++ 32 ∷ cut.1
unfolding cut_at
cut_takes [] cut e = absurd (none-some cut e)
cut_takes (byte ∷ bytes) cut e =
    from_cond (eqb byte 32) _ _ (Some cut) e
    (λ space e1.
    let front : List ℕ × List ℕ = ([], bytes) in
    subst (λ (c : List ℕ × List ℕ). byte ∷ bytes ≡ c.0 ++ 32 ∷ c.1) (same_Some front cut e1) (ap (λ b. b ∷ bytes) (eqb-true byte 32 space)))
    (λ _ e1. from_mapped_some (λ c. (byte ∷ c.0, c.1)) (cut_at bytes) cut e1 (λ c read e2.
    subst (λ (d : List ℕ × List ℕ). byte ∷ bytes ≡ d.0 ++ 32 ∷ d.1) e2 (ap (λ bs. byte ∷ bs) (cut_takes bytes c read))))

pub numbered_reads : (c : ℕ) (number rest : List ℕ) → IsPlain 255 number c → numbered_at (number ++ 32 ∷ rest) ≡ Some (c, rest)
unfolding numbered_at
numbered_reads c number rest is = rw (cut_reads number rest is.0.1, plain_reads 255 c number is) refl

-- A text that is read as a number of at most 255 and a rest is this number, a space and the rest.
pub numbered_takes : {P : Type 0} (text : List ℕ) (x : ℕ × List ℕ) → numbered_at text ≡ Some x
    → ((number : List ℕ) → IsPlain 255 number x.0 → text ≡ number ++ 32 ∷ x.1 → P) → P
unfolding numbered_at
numbered_takes {P} text x e then =
    option_and_then_some _ (cut_at text) x e (λ cut cut_is e1.
    option_and_then_some _ (plain_at 255 cut.0) x e1 (λ n plain e2.
    let found : ℕ × List ℕ = (n, cut.1) in
    subst (λ (y : ℕ × List ℕ). ((number : List ℕ) → IsPlain 255 number y.0 → text ≡ number ++ 32 ∷ y.1 → P) → P) (same_Some found x e2)
    (λ f. f cut.0 (plain_takes 255 n cut.0 plain) (cut_takes text cut cut_is)) then))

role_reads : (role : Role) → role_at (role_word role) ≡ Some role
unfolding role_at
role_reads Core = refl
role_reads _ = refl

role_takes : (word : List ℕ) (role : Role) → role_at word ≡ Some role → word ≡ role_word role
unfolding role_at
role_takes word role e =
    from_word_match word (codes "core") _ _ (Some role) e (λ is e1. is ∙ ap role_word (same_Some Core role e1)) (λ e1.
    from_word_match word (codes "abort") _ _ (Some role) e1 (λ is e2. is ∙ ap role_word (same_Some Abort role e2)) (λ e2.
    from_word_match word (codes "portmap") _ _ (Some role) e2 (λ is e3. is ∙ ap role_word (same_Some Portmap role e3)) (λ none.
    absurd (none-some role none))))

ok_reads : (ok : Bool) → ok_at (ok_word ok) ≡ Some ok
unfolding ok_at
ok_reads true = refl
ok_reads false = refl

ok_takes : (word : List ℕ) (ok : Bool) → ok_at word ≡ Some ok → word ≡ ok_word ok
unfolding ok_at
ok_takes word ok e =
    from_word_match word (codes "ok") _ _ (Some ok) e (λ is e1. is ∙ ap ok_word (same_Some true ok e1)) (λ e1.
    from_word_match word (codes "failed") _ _ (Some ok) e1 (λ is e2. is ∙ ap ok_word (same_Some false ok e2)) (λ none.
    absurd (none-some ok none)))

-- A line that describes an event is read as this event.
event_reads : (line : List ℕ) (event : PlainEvent) → SaysEvent line event → line_at line ≡ Some (One event)
unfolding line_at cut_at words_at event_at traffic_at lone_at open_at bytes_at dialed_at input_at port_at
event_reads line (Open c role) is = rw (is.2, numbered_reads c is.0 (role_word role) is.1, role_reads role) refl
event_reads line (Bytes c piece) is = rw (is.4, numbered_reads c is.0 is.1 is.2, hex_reads is.1 piece is.3) refl
event_reads line (Turn c) is = rw (is.2, plain_reads 255 c is.0 is.1) refl
event_reads line (Refuse c) is = rw (is.2, plain_reads 255 c is.0 is.1) refl
event_reads line (Took port count) is = absurd is
event_reads line (Close (Conn c)) is = rw (is.2, plain_reads 255 c is.0 is.1) refl
event_reads line (Close (Intr c)) is = rw (is.2, plain_reads 255 c is.0 is.1) refl
event_reads line (Dialed c ok) is = rw (is.2, numbered_reads c is.0 (ok_word ok) is.1, ok_reads ok) refl
event_reads line (Input channel microvolts) is = rw (is.4, numbered_reads channel is.0 is.1 is.2, voltage_reads is.1 microvolts is.3) refl
event_reads line External is = rw is refl
event_reads line Tick is = rw is refl

-- A line is read as the meaning that it has.
pub line_reads : (line : List ℕ) (what : Line) → Says line what → line_at line ≡ Some what
unfolding line_at cut_at words_at lone_at ticks_at
line_reads line Blank is = rw is refl
line_reads line (One event) is = event_reads line event is
line_reads line (Ticks n) is = rw (is.3, plain_reads 1000000 n is.0 is.1, ne_eqb n 0 (λ e. omega (arith, is.2))) refl

-- A line has at most one meaning.
pub line_meaning_unique : (line : List ℕ) (a b : Line) → Says line a → Says line b → a ≡ b
line_meaning_unique line a b says_a says_b = same_Some a b (sym (line_reads line a says_a) ∙ line_reads line b says_b)

-- A line that is read as a number of ticks means them.
ticks_takes : (line text : List ℕ) (what : Line) → line ≡ codes "tick" ++ 32 ∷ text → ticks_at text ≡ Some what → Says line what
unfolding ticks_at
ticks_takes line text what line_is e =
    option_and_then_some _ (plain_at 1000000 text) what e (λ n plain e1.
    from_cond (eqb n 0) _ _ (Some what) e1
    (λ _ none. absurd (none-some what none))
    (λ some e2. subst (Says line) (same_Some (Ticks n) what e2)
    (text, plain_takes 1000000 n text plain, (let h : n ≡ 0 → ⊥ = eqb-false n 0 some in omega arith), line_is)))

-- The common form of a line `word number rest`: if the rest is read as a value, the line describes
-- the event made from the number and the value.
event_after_number : {A : Type 0} (at : List ℕ → Option A) (make : ℕ → A → PlainEvent) (line text : List ℕ) (event : PlainEvent)
    → ((x : ℕ × List ℕ) (value : A) (number : List ℕ) → IsPlain 255 number x.0 → at x.1 ≡ Some value → text ≡ number ++ 32 ∷ x.1
    → SaysEvent line (make x.0 value))
    → option_and_then (λ x. option_and_then (λ value. Some (make x.0 value)) (at x.1)) (numbered_at text) ≡ Some event
    → SaysEvent line event
event_after_number at make line text event said e =
    option_and_then_some _ (numbered_at text) event e (λ x numbered e1.
    option_and_then_some _ (at x.1) event e1 (λ value read e2.
    numbered_takes text x numbered (λ number plain text_is.
    subst (SaysEvent line) (same_Some (make x.0 value) event e2) (said x value number plain read text_is))))

open_takes : (line text : List ℕ) (event : PlainEvent) → line ≡ codes "open" ++ 32 ∷ text → open_at text ≡ Some event → SaysEvent line event
unfolding open_at
open_takes line text event line_is e = event_after_number role_at Open line text event (λ x role number plain read text_is.
    (number, plain, rw (← role_takes x.1 role read) (line_is ∙ ap (λ t. codes "open " ++ t) text_is))) e

bytes_takes : (line text : List ℕ) (event : PlainEvent) → line ≡ codes "bytes" ++ 32 ∷ text → bytes_at text ≡ Some event
    → SaysEvent line event
unfolding bytes_at
bytes_takes line text event line_is e = event_after_number hex_at Bytes line text event (λ x piece number plain read text_is.
    (number, x.1, plain, hex_takes x.1 piece read, line_is ∙ ap (λ t. codes "bytes " ++ t) text_is)) e

dialed_takes : (line text : List ℕ) (event : PlainEvent) → line ≡ codes "dialed" ++ 32 ∷ text → dialed_at text ≡ Some event
    → SaysEvent line event
unfolding dialed_at
dialed_takes line text event line_is e = event_after_number ok_at Dialed line text event (λ x ok number plain read text_is.
    (number, plain, rw (← ok_takes x.1 ok read) (line_is ∙ ap (λ t. codes "dialed " ++ t) text_is))) e

input_takes : (line text : List ℕ) (event : PlainEvent) → line ≡ codes "input" ++ 32 ∷ text → input_at text ≡ Some event
    → SaysEvent line event
unfolding input_at
input_takes line text event line_is e = event_after_number voltage_at Input line text event (λ x microvolts number plain read text_is.
    (number, x.1, plain, voltage_takes x.1 microvolts read, line_is ∙ ap (λ t. codes "input " ++ t) text_is)) e

close_takes : (line text : List ℕ) (port : Port) → line ≡ codes "close" ++ 32 ∷ text → port_at text ≡ Some port
    → SaysEvent line (Close port)
unfolding port_at
close_takes line [] port line_is e = absurd (none-some port e)
close_takes line (letter ∷ number) port line_is e =
    from_cond (eqb letter 99) _ _ (Some port) e
    (λ is e1. from_mapped_some Conn (plain_at 255 number) port e1 (λ c plain port_is.
    subst (λ (p : Port). SaysEvent line (Close p)) port_is
    (number, plain_takes 255 c number plain, line_is ∙ ap (λ b. codes "close " ++ b ∷ number) (eqb-true letter 99 is))))
    (λ _ e1. from_cond (eqb letter 105) _ _ (Some port) e1
    (λ is e2. from_mapped_some Intr (plain_at 255 number) port e2 (λ c plain port_is.
    subst (λ (p : Port). SaysEvent line (Close p)) port_is
    (number, plain_takes 255 c number plain, line_is ∙ ap (λ b. codes "close " ++ b ∷ number) (eqb-true letter 105 is))))
    (λ _ none. absurd (none-some port none)))

-- The line is a word, a space and a text.
abbrev IsWords : List ℕ → List ℕ → List ℕ → Type 0
IsWords line word text = line ≡ word ++ 32 ∷ text

with_first_word : (line word w text : List ℕ) → IsWords line word text → word ≡ w → IsWords line w text
with_first_word line word w text line_is is = subst (λ (v : List ℕ). IsWords line v text) is line_is

-- A line that is read as a Bytes, Turn or Refuse event describes it.
traffic_takes : (line word text : List ℕ) (event : PlainEvent) → IsWords line word text → traffic_at word text ≡ Some event
    → SaysEvent line event
unfolding traffic_at
traffic_takes line word text event line_is e =
    from_word_match word (codes "bytes") _ _ (Some event) e
    (λ is e1. bytes_takes line text event (with_first_word line word (codes "bytes") text line_is is) e1) (λ e1.
    from_word_match word (codes "turn") _ _ (Some event) e1
    (λ is e2. from_mapped_some Turn (plain_at 255 text) event e2 (λ c plain event_is.
    subst (SaysEvent line) event_is (text, plain_takes 255 c text plain, with_first_word line word (codes "turn") text line_is is))) (λ e2.
    from_word_match word (codes "refuse") _ _ (Some event) e2
    (λ is e3. from_mapped_some Refuse (plain_at 255 text) event e3 (λ c plain event_is.
    subst (SaysEvent line) event_is (text, plain_takes 255 c text plain, with_first_word line word (codes "refuse") text line_is is)))
    (λ none.
    absurd (none-some event none))))

-- A line that is read as an event of a connection or an interrupt channel describes it.
event_takes : (line word text : List ℕ) (event : PlainEvent) → IsWords line word text → event_at word text ≡ Some event
    → SaysEvent line event
unfolding event_at
event_takes line word text event line_is e =
    from_word_match word (codes "open") _ _ (Some event) e
    (λ is e1. open_takes line text event (with_first_word line word (codes "open") text line_is is) e1) (λ e1.
    from_word_match word (codes "close") _ _ (Some event) e1 (λ is e2. from_mapped_some Close (port_at text) event e2 (λ port read event_is.
    subst (SaysEvent line) event_is (close_takes line text port (with_first_word line word (codes "close") text line_is is) read))) (λ e2.
    from_word_match word (codes "dialed") _ _ (Some event) e2
    (λ is e3. dialed_takes line text event (with_first_word line word (codes "dialed") text line_is is) e3) (λ e3.
    traffic_takes line word text event line_is e3)))

-- A line of several words has the meaning that is read from it.
words_takes : (line word text : List ℕ) (what : Line) → IsWords line word text → words_at word text ≡ Some what → Says line what
unfolding words_at
words_takes line word text what line_is e =
    from_word_match word (codes "tick") _ _ (Some what) e
    (λ is e1. ticks_takes line text what (with_first_word line word (codes "tick") text line_is is) e1)
    (λ e1.
    from_word_match word (codes "input") _ _ (Some what) e1
    (λ is e2. from_mapped_some One (input_at text) what e2 (λ event read what_is.
    subst (Says line) what_is (input_takes line text event (with_first_word line word (codes "input") text line_is is) read)))
    (λ e2. from_mapped_some One (event_at word text) what e2 (λ event read what_is.
    subst (Says line) what_is (event_takes line word text event line_is read))))

-- An empty line or a line of one word has the meaning that is read from it.
lone_takes : (line : List ℕ) (what : Line) → lone_at line ≡ Some what → Says line what
unfolding lone_at
lone_takes line what e =
    from_word_match line [] _ _ (Some what) e (λ is e1. subst (Says line) (same_Some Blank what e1) is) (λ e1.
    from_word_match line (codes "external") _ _ (Some what) e1 (λ is e2. subst (Says line) (same_Some (One External) what e2) is) (λ e2.
    from_word_match line (codes "tick") _ _ (Some what) e2 (λ is e3. subst (Says line) (same_Some (One Tick) what e3) is) (λ none.
    absurd (none-some what none))))

-- The same for a line that was cut at its first space.
cut_line_takes : (line : List ℕ) (cut : Option (List ℕ × List ℕ)) (what : Line) → cut_at line ≡ cut → cut_line_at line cut ≡ Some what
    → Says line what
cut_line_takes line None what cut_is e = lone_takes line what e
cut_line_takes line (Some cut) what cut_is e = words_takes line cut.0 cut.1 what (cut_takes line cut cut_is) e

-- A line has the meaning that is read from it.
pub line_takes : (line : List ℕ) (what : Line) → line_at line ≡ Some what → Says line what
unfolding line_at
line_takes line what e = cut_line_takes line (cut_at line) what refl e

-- The meaning that the code found is one of the line.
pub found_meaning_is_said : (line : List ℕ) (read : Option Command) → option_map plain_line read ≡ line_at line
    → IfSome read (λ l. Says line (plain_line l))
found_meaning_is_said line None e = tt
found_meaning_is_said line (Some l) e = line_takes line (plain_line l) (sym e)

-- The code finds each meaning of the line.
pub said_meaning_is_found : (line : List ℕ) (read : Option Command) (what : Line) → option_map plain_line read ≡ line_at line
    → Says line what → IsSomeAnd read (λ l. plain_line l ≡ what)
said_meaning_is_found line None what e says = absurd (none-some what (e ∙ line_reads line what says))
said_meaning_is_found line (Some l) what e says = same_Some (plain_line l) what (e ∙ line_reads line what says)
