-- Program text is split into messages, and further text continues the last message.
use Rattle.std.proofs.Common.{◌≡◌, ℕ, zero, suc, ◌+◌, ◌==◌, Bool, true, false, not, ◌&&◌, ◌||◌, cond, List, [], ◌∷◌, ◌++◌, length, take, drop, refl, sym, ap, ◌∙◌, inl, inr, nat_lt, arith}
use Rattle.std.proofs.lemmas.Bool.{cases_lt, lt-ltb, le-ltb}
use Rattle.std.specs.List.{onto_first as onto}
use Rattle.sv_exchange.specs.Exchange.{Symbol, Byte, End, messages}
use Rattle.sv_exchange.specs.Contents.{symbols, following}
use Rattle.sv_exchange.specs.Fields.{first_size, has_line, second_at}

onto_some : (b : ℕ) (parts : List (List ℕ)) → (first : List ℕ) × (others : List (List ℕ)) × (onto b parts ≡ first ∷ others)
onto_some b [] = (b ∷ [], [], refl)
onto_some b (part ∷ parts) = (b ∷ part, parts, refl)

abbrev HasFirst : List (List ℕ) → Type 0
HasFirst parts = (first : List ℕ) × (others : List (List ℕ)) × (parts ≡ first ∷ others)

-- There is always a first message, perhaps an empty one.
pub messages_some : (symbols : List Symbol) → HasFirst (messages symbols)
messages_some [] = ([], [], refl)
messages_some (End ∷ symbols) = ([], messages symbols, refl)
messages_some (Byte b ∷ symbols) = at (b == 10)
  where
    at : (t : Bool) → HasFirst (cond t ([] ∷ messages symbols) (onto b (messages symbols)))
    at true = ([], messages symbols, refl)
    at false = onto_some b (messages symbols)

-- The last part of `before` continues with the first part of `new`, and the others follow.
abbrev ContinuesLast : List (List ℕ) → List (List ℕ) → List (List ℕ) → Type 0
ContinuesLast before after new = (k : ℕ) (last first : List ℕ) (others : List (List ℕ)) → drop k before ≡ last ∷ [] → new ≡ first ∷ others
    → drop k after ≡ (last ++ first) ∷ others

-- The same if an empty part comes before them.
continues_after_empty : (before after new : List (List ℕ)) → HasFirst before → ContinuesLast before after new
    → ContinuesLast ([] ∷ before) ([] ∷ after) new
continues_after_empty before after new some goes zero last first others h e = let f = some.2 in absurd cc
continues_after_empty before after new some goes (suc k) last first others h e = goes k last first others h e

-- The same if a byte comes before them.
continues_with_byte : (b : ℕ) (before after new : List (List ℕ)) → HasFirst before → HasFirst after → ContinuesLast before after new
    → ContinuesLast (onto b before) (onto b after) new
continues_with_byte b before after new some more goes zero last first others h e =
    let o : onto b before ≡ (b ∷ some.0) ∷ some.1 = ap (onto b) some.2 in
    let none : some.1 ≡ [] = cc in
    let front : b ∷ some.0 ≡ last = cc in
    let f = some.2 in
    ap (onto b) (goes 0 some.0 first others (cc) e) ∙ ap (λ (l : List ℕ). (l ++ first) ∷ others) front
continues_with_byte b before after new some more goes (suc k) last first others h e =
    let rest : drop k some.1 ≡ last ∷ [] = sym (ap (λ (ps : List (List ℕ)). drop (suc k) (onto b ps)) some.2) ∙ h in
    ap (λ (ps : List (List ℕ)). drop (suc k) (onto b ps)) more.2 ∙ sym (ap (drop (suc k)) more.2)
    ∙ goes (suc k) last first others (ap (drop (suc k)) some.2 ∙ rest) e

-- Further text continues the last message.
pub more_text_continues_last : (old new : List Symbol) → ContinuesLast (messages old) (messages (old ++ new)) (messages new)
more_text_continues_last [] new zero last first others h e = let l : [] ≡ last = cc in e ∙ ap (λ (l : List ℕ). (l ++ first) ∷ others) l
more_text_continues_last [] new (suc zero) last first others h e = absurd cc
more_text_continues_last [] new (suc (suc k)) last first others h e = absurd cc
more_text_continues_last (End ∷ old) new k last first others h e =
    continues_after_empty (messages old) (messages (old ++ new)) (messages new) (messages_some old)
    (more_text_continues_last old new) k last first others h e
more_text_continues_last (Byte b ∷ old) new k last first others h e = at (b == 10) (more_text_continues_last old new) k last first others h
    e
  where
    at : (t : Bool) → ContinuesLast (messages old) (messages (old ++ new)) (messages new)
        → ContinuesLast (cond t ([] ∷ messages old) (onto b (messages old)))
        (cond t ([] ∷ messages (old ++ new)) (onto b (messages (old ++ new))))
        (messages new)
    at true goes = continues_after_empty (messages old) (messages (old ++ new)) (messages new) (messages_some old) goes
    at false goes = continues_with_byte b (messages old) (messages (old ++ new)) (messages new) (messages_some old)
        (messages_some (old ++ new)) goes

-- The first message has the first `n` of the `size` bytes; a new line or END ends it.
abbrev cut_behind : ℕ → ℕ → List ℕ → Bool → List (List ℕ)
cut_behind n size bytes mark = take n bytes ∷ following (nat_lt n size || mark) (drop (cond (nat_lt n size) (n + 1) size) bytes)
    (nat_lt n size && mark)

cut_behind_cons : (b n m : ℕ) (bytes : List ℕ) (mark : Bool) → m ≡ suc n
    → onto b (cut_behind n (length bytes) bytes mark) ≡ cut_behind m (suc (length bytes)) (b ∷ bytes) mark
cut_behind_cons b n m bytes mark e =
    elim (cases_lt n (length bytes)) [
      | inl lt ↦
          let next : suc n + 1 ≡ suc (n + 1) = omega arith in
          rw (e, lt-ltb n (length bytes) lt, lt-ltb (suc n) (suc (length bytes)) (omega arith), next) refl
      | inr ge ↦ rw (e, le-ltb n (length bytes) ge, le-ltb (suc n) (suc (length bytes)) (omega arith)) refl
    ]

-- The first message of a text, and those after it.
pub first_message_is_cut : (bytes : List ℕ) (mark : Bool) → messages (symbols bytes mark) ≡ take (first_size bytes) bytes
    ∷ following (has_line bytes || mark) (drop (second_at bytes) bytes) (has_line bytes && mark)
first_message_is_cut [] true = refl
first_message_is_cut [] false = refl
first_message_is_cut (b ∷ bytes) mark = at (b == 10) (first_message_is_cut bytes mark)
  where
    at : (t : Bool) → messages (symbols bytes mark) ≡ cut_behind (first_size bytes) (length bytes) bytes mark
        → cond t ([] ∷ messages (symbols bytes mark)) (onto b (messages (symbols bytes mark)))
        ≡ cut_behind (cond (not t) (1 + first_size bytes) 0) (suc (length bytes)) (b ∷ bytes) mark
    at true h = rw (lt-ltb 0 (suc (length bytes)) (omega arith)) refl
    at false h = ap (onto b) h ∙ cut_behind_cons b (first_size bytes) (1 + first_size bytes) bytes mark (omega arith)
