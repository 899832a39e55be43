-- Two runs whose wires give the same answers, and in which memory is never refused, are the same.
use Rattle.std.proofs.Common.{◌≡◌, ℕ, List, [], ◌∷◌, ◌++◌, map, refl, sym, ap, subst, ◌∙◌, inl, inr}
use Rattle.std.specs.Prelude.{⊤}
use Rattle.std.proofs.lemmas.List.{append_cancel_right, same_from_push}
use Rattle.sv_history.specs.Event.{PlainEvent, Refuse}
use Rattle.sv_serve.specs.declared.wire.Answer.{Answer}
use Rattle.sv_serve.specs.declared.wire.Answer.TheVariants.{Got, Pending, Failed}
use Rattle.sv_serve.specs.Heard.{Heard, WasAccepted, WasRead, WasProbed, WasWritten, WasDialed, PeerAnswered, WasClosed}
use Rattle.sv_driver_laws.specs.Determined.{question, MemoryDiffers, listed, answer_of, NeverRefuses, ByAnswers}

same_listed : {A : Type 0} (list : A → List ℕ) → ((x y : A) → list x ≡ list y → x ≡ y) → (one two : Answer A)
    → listed list one ≡ listed list two → one ≡ two
same_listed list apart (Got x) (Got y) e = ap Got (apart x y (let z : list x ≡ list y = cc in z))
same_listed list apart Pending Pending e = refl
same_listed list apart Failed Failed e = refl
same_listed list apart _ _ e = absurd cc

same_all : (one two : Answer ⊤) → listed (λ all. []) one ≡ listed (λ all. []) two → one ≡ two
same_all one two e = same_listed (λ all. []) (λ x y e. refl) one two e

same_count : (one two : Answer ℕ) → listed (λ n. n ∷ []) one ≡ listed (λ n. n ∷ []) two → one ≡ two
same_count one two e = same_listed (λ n. n ∷ []) (λ x y e. cc) one two e

same_heard : (one two : Heard) → question one ≡ question two → answer_of one ≡ answer_of two → one ≡ two
same_heard (WasAccepted role conn x) (WasAccepted other also y) e h = let z = same_all x y h in cc
same_heard (WasRead conn most x) (WasRead other also y) e h = cc
same_heard (WasProbed conn drops x) (WasProbed other also y) e h = let z = same_all x y h in cc
same_heard (WasWritten port bytes x) (WasWritten other also y) e h = let z = same_count x y h in cc
same_heard (WasDialed conn dial x) (WasDialed other also y) e h = let z = same_all x y h in cc
same_heard (PeerAnswered conn x) (PeerAnswered other y) e h = let z = same_all x y h in cc
same_heard (WasClosed port) (WasClosed other) e h = cc
same_heard _ _ e h = absurd cc

map_join : (xs : List Heard) (x : Heard) (ys : List Heard)
    → map answer_of (xs ++ (x ∷ ys)) ≡ (map answer_of xs ++ answer_of x ∷ []) ++ map answer_of ys
map_join [] x ys = refl
map_join (z ∷ xs) x ys = ap (λ (l : List (Answer (List ℕ))). answer_of z ∷ l) (map_join xs x ys)

refuse_is_in_history : (events past : List PlainEvent) (c : ℕ) → NeverRefuses (events ++ (Refuse c ∷ past)) → ⊥
refuse_is_in_history [] past c h = h.0 c refl
refuse_is_in_history (event ∷ events) past c h = refuse_is_in_history events past c h.1

no_memory : (trace other : List Heard) (history also : List PlainEvent) → MemoryDiffers trace history other also → NeverRefuses also → ⊥
no_memory trace other history also (c, newer, later, older, events, more, past, x, y, z, w, told) h =
    refuse_is_in_history more past c (subst NeverRefuses w h)

pub by_answers : ByAnswers
by_answers trace other history also (inl same) answers h k = same
by_answers trace other history also
    (inr (inl (heard, answer, newer, later, older, es, fs, past, x, y, z, w, told, asked, apart))) answers h k =
    let both : (map answer_of newer ++ answer_of heard ∷ []) ++ map answer_of older
    ≡ (map answer_of later ++ answer_of answer ∷ []) ++ map answer_of older =
    sym (map_join newer heard older) ∙ ap (map answer_of) (sym x) ∙ answers ∙ ap (map answer_of) y ∙ map_join later answer older in
    let front = append_cancel_right (map answer_of newer ++ answer_of heard ∷ []) (map answer_of later ++ answer_of answer ∷ [])
    (map answer_of older) both in
    absurd (apart (same_heard heard answer asked
    (same_from_push (map answer_of newer) (map answer_of later) (answer_of heard) (answer_of answer) front).1))
by_answers trace other history also (inr (inr (inl m))) answers h k = absurd (no_memory trace other history also m k)
by_answers trace other history also (inr (inr (inr m))) answers h k = absurd (no_memory other trace also history m h)
