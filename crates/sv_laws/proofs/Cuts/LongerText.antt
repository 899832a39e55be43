-- More program text makes no message shorter. Bytes without a new line end no message.
use Rattle.std.proofs.Common.{◌≡◌, ◌≢◌, ℕ, zero, suc, ◌+◌, ◌<◌, ◌≤◌, Bool, true, false, cond, List, [], ◌∷◌, ◌++◌, length, map, refl, sym, ap, subst, ◌∙◌, append-nil, arith, lt-ltb}
use Rattle.std.specs.Prelude.{slice_index_or, nat_lt, ◌==◌}
use Rattle.std.specs.List.{AllByRecursion, onto_first as onto}
use Rattle.std.proofs.lemmas.Bool.{ltb-true, ne_eqb}
use Rattle.sv_exchange.specs.Exchange.{ExchangeAct, Accepted, Symbol, Byte, End, end_mark, text, messages, messages_finished, message, has_ended, is_long}
use Rattle.sv_exchange.specs.Limits.{max_message}
use Rattle.sv_laws.proofs.Cuts.SameExchange.{cut_write_has_same_text}

-- ---- messages

-- The length of the part at place `k`; 0 if there is no such part.
abbrev pub part_length : List (List ℕ) → ℕ → ℕ
part_length parts k = length (slice_index_or parts k [])

-- No part is longer than the part at the same place in the other list.
abbrev pub NoPartLonger : List (List ℕ) → List (List ℕ) → Type 0
NoPartLonger parts others = (k : ℕ) → part_length parts k ≤ part_length others k

within_line : (parts others : List (List ℕ)) → NoPartLonger parts others → NoPartLonger ([] ∷ parts) ([] ∷ others)
within_line parts others within zero = omega arith
within_line parts others within (suc k) = within k

within_byte : (b : ℕ) (parts others : List (List ℕ)) → NoPartLonger parts others → NoPartLonger (onto b parts) (onto b others)
within_byte b [] [] within k = omega arith
within_byte b [] (other ∷ others) within zero = omega arith
within_byte b [] (other ∷ others) within (suc k) = omega arith
within_byte b (part ∷ parts) [] within zero = let le = within 0 in omega (arith, le)
within_byte b (part ∷ parts) [] within (suc k) = within (suc k)
within_byte b (part ∷ parts) (other ∷ others) within zero = let le = within 0 in omega (arith, le)
within_byte b (part ∷ parts) (other ∷ others) within (suc k) = within (suc k)

pub none_longer : (old new : List Symbol) → NoPartLonger (messages old) (messages (old ++ new))
none_longer [] new zero = omega arith
none_longer [] new (suc k) = omega arith
none_longer (End ∷ old) new k = within_line (messages old) (messages (old ++ new)) (none_longer old new) k
none_longer (Byte b ∷ old) new k = at (b == 10) (none_longer old new) k
  where
    at : (t : Bool) → NoPartLonger (messages old) (messages (old ++ new))
        → NoPartLonger (cond t ([] ∷ messages old) (onto b (messages old)))
        (cond t ([] ∷ messages (old ++ new)) (onto b (messages (old ++ new))))
    at true within = within_line (messages old) (messages (old ++ new)) within
    at false within = within_byte b (messages old) (messages (old ++ new)) within

-- ---- bytes without a new line

abbrev NoLine : List ℕ → Type 0
NoLine bytes = AllByRecursion (λ b. b ≢ 10) bytes

pub onto_keeps_count : (b : ℕ) (parts : List (List ℕ)) → 0 < length parts → (length (onto b parts) ≡ length parts)
onto_keeps_count b [] some = absurd (omega (arith, some))
onto_keeps_count b (part ∷ parts) some = refl

onto_some : (b : ℕ) (parts : List (List ℕ)) → 0 < length (onto b parts)
onto_some b [] = omega arith
onto_some b (part ∷ parts) = omega arith

pub messages_are_nonempty : (symbols : List Symbol) → 0 < length (messages symbols)
messages_are_nonempty [] = omega arith
messages_are_nonempty (End ∷ symbols) = omega arith
messages_are_nonempty (Byte b ∷ symbols) = at (b == 10)
  where
    at : (t : Bool) → 0 < length (cond t ([] ∷ messages symbols) (onto b (messages symbols)))
    at true = omega arith
    at false = onto_some b (messages symbols)

one_message : (bytes : List ℕ) → NoLine bytes → length (messages (map Byte bytes)) ≡ 1
one_message [] none = refl
one_message (b ∷ bytes) none = rw (ne_eqb b 10 none.0)
    (onto_keeps_count b (messages (map Byte bytes)) (messages_are_nonempty (map Byte bytes)) ∙ one_message bytes none.1)

no_line_keeps_count : (bytes : List ℕ) (old : List Symbol) → NoLine bytes
    → length (messages (old ++ map Byte bytes)) ≡ length (messages old)
no_line_keeps_count bytes [] none = one_message bytes none
no_line_keeps_count bytes (End ∷ old) none = ap (λ (n : ℕ). suc n) (no_line_keeps_count bytes old none)
no_line_keeps_count bytes (Byte b ∷ old) none = at (b == 10) (no_line_keeps_count bytes old none)
  where
    at : (t : Bool) → length (messages (old ++ map Byte bytes)) ≡ length (messages old)
        → length (cond t ([] ∷ messages (old ++ map Byte bytes)) (onto b (messages (old ++ map Byte bytes))))
        ≡ length (cond t ([] ∷ messages old) (onto b (messages old)))
    at true same = ap (λ (n : ℕ). suc n) same
    at false same = onto_keeps_count b (messages (old ++ map Byte bytes)) (messages_are_nonempty (old ++ map Byte bytes)) ∙ same
        ∙ sym (onto_keeps_count b (messages old) (messages_are_nonempty old))

-- ---- after bytes were accepted

pub no_line_ends_no_message : (bytes : List ℕ) (acts : List ExchangeAct) → NoLine bytes
    → has_ended (Accepted bytes false ∷ acts) ≡ has_ended acts
no_line_ends_no_message bytes acts none =
    ap (λ (l : List Symbol). nat_lt (messages_finished acts + 1) (length (messages (text acts ++ l)))) (append-nil (map Byte bytes))
    ∙ ap (λ (n : ℕ). nat_lt (messages_finished acts + 1) n) (no_line_keeps_count bytes (text acts) none)

whole_write_no_shorter : (x y : List ℕ) (ended : Bool) (acts : List ExchangeAct)
    → length (message (Accepted x false ∷ acts)) ≤ length (message (Accepted (x ++ y) ended ∷ acts))
whole_write_no_shorter x y ended acts =
    subst (λ (l : List Symbol). length (message (Accepted x false ∷ acts)) ≤ part_length (messages l) (messages_finished acts))
    (cut_write_has_same_text x y ended acts)
    (none_longer (text (Accepted x false ∷ acts)) (map Byte y ++ end_mark ended) (messages_finished acts))

-- If the first part of a write makes the message too long, the whole write does too.
pub long_part_makes_whole_long : (x y : List ℕ) (ended : Bool) (acts : List ExchangeAct) → is_long (Accepted x false ∷ acts) ≡ true
    → is_long (Accepted (x ++ y) ended ∷ acts) ≡ true
long_part_makes_whole_long x y ended acts long =
    let more : max_message < length (message (Accepted x false ∷ acts)) =
    ltb-true max_message (length (message (Accepted x false ∷ acts))) long in
    let least = whole_write_no_shorter x y ended acts in
    lt-ltb max_message (length (message (Accepted (x ++ y) ended ∷ acts))) (omega (arith, more, least))
