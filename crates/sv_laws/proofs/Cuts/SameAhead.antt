-- Two connections of which different numbers of records are finished, but the records that follow
-- are the same: so the next calls are the same, whatever bytes come.
use Rattle.std.proofs.Common.{inl, inr, ◌≡◌, ℕ, zero, suc, ◌+◌, List, [], ◌∷◌, ◌++◌, drop, slice_get, refl, sym, ap, ◌∙◌, append_assoc, append-nil, drop-drop, arith}
use Rattle.std.specs.Prelude.{◌==◌}
use Rattle.std.proofs.lemmas.Bool.{cases_Bool}
use Rattle.sv_rpc.specs.Stream.{records_of}
use Rattle.sv_history.specs.Act.{Act, ConnAct, Piece, Faulted, Replied, On, OnDevice, of}
use Rattle.sv_history.specs.Connection.{next_call, open_role, pending_call, records_ended, took_no_call, stream}
use Rattle.sv_history.specs.Request.{next_request}
use Rattle.sv_laws.specs.Adding.{all_replies}

-- The records that aren't finished are the same, whatever bytes come next.
abbrev pub Ahead : List ConnAct → List ConnAct → Type 0
Ahead acts others = (more : List ℕ)
    → drop (records_ended acts) (records_of (stream acts ++ more)) ≡ drop (records_ended others) (records_of (stream others ++ more))

-- One connection has sent `first`, the other `second`, and after that both have sent the same
-- bytes.
abbrev pub Sends : List ℕ → List ℕ → List ℕ → List ℕ → Type 0
Sends first second one two = (sent : List ℕ) × (one ≡ first ++ sent) × (two ≡ second ++ sent)

-- The connections are the same but for the records that are finished, and for the replies `first`
-- and `second` at their beginning.
pub record SameAhead (first second : List ℕ) (acts others : List ConnAct) : Type 0 where
  pub role : open_role acts ≡ open_role others
  pub call : pending_call acts ≡ pending_call others
  pub no_call : took_no_call acts ≡ took_no_call others
  pub ahead : Ahead acts others
  pub sends : Sends first second (all_replies acts) (all_replies others)

drop_one_more : (n : ℕ) (a : List (List ℕ)) → drop 1 (drop n a) ≡ drop (suc n) a
drop_one_more n a = drop-drop 1 n a ∙ ap (λ (k : ℕ). drop k a) (let next : n + 1 ≡ suc n = omega arith in next)

-- One more record is finished.
finishing_keeps_ahead : (acts others : List ConnAct) → Ahead acts others → Ahead (Faulted ∷ acts) (Faulted ∷ others)
finishing_keeps_ahead acts others same more = sym (drop_one_more (records_ended acts) (records_of (stream acts ++ more)))
    ∙ ap (λ (l : List (List ℕ)). drop 1 l) (same more) ∙ drop_one_more (records_ended others) (records_of (stream others ++ more))

pub act_keeps_same_ahead : (first second : List ℕ) (act : ConnAct) (acts others : List ConnAct) → SameAhead first second acts others
    → SameAhead first second (act ∷ acts) (act ∷ others)
act_keeps_same_ahead first second (Piece bytes) acts others v = assumption (λ (more : List ℕ).
    ap (λ (l : List ℕ). drop (records_ended acts) (records_of l)) (append_assoc (stream acts) bytes more)
    ∙ v.ahead (bytes ++ more)
    ∙ ap (λ (l : List ℕ). drop (records_ended others) (records_of l)) (sym (append_assoc (stream others) bytes more)))
act_keeps_same_ahead first second Faulted acts others v = assumption (finishing_keeps_ahead acts others v.ahead)
act_keeps_same_ahead first second (Replied bytes) acts others v =
    let sends : Sends first second (all_replies acts ++ bytes) (all_replies others ++ bytes) = (
      v.sends.0 ++ bytes,
      ap (λ (l : List ℕ). l ++ bytes) v.sends.1 ∙ append_assoc first v.sends.0 bytes,
      ap (λ (l : List ℕ). l ++ bytes) v.sends.2 ∙ append_assoc second v.sends.0 bytes,
    ) in
    assumption (finishing_keeps_ahead acts others v.ahead, sends)
act_keeps_same_ahead first second _ acts others v = assumption

-- ---- the next call

get_is_first_of_drop : (n : ℕ) (records : List (List ℕ)) → slice_get records n ≡ slice_get (drop n records) 0
get_is_first_of_drop zero [] = refl
get_is_first_of_drop zero (record_is ∷ records) = refl
get_is_first_of_drop (suc n) [] = refl
get_is_first_of_drop (suc n) (record_is ∷ records) = get_is_first_of_drop n records

next_record_same : (first second : List ℕ) (acts others : List ConnAct) → SameAhead first second acts others
    → slice_get (records_of (stream acts)) (records_ended acts) ≡ slice_get (records_of (stream others)) (records_ended others)
next_record_same first second acts others v =
    get_is_first_of_drop (records_ended acts) (records_of (stream acts))
    ∙ ap (λ (l : List ℕ). slice_get (drop (records_ended acts) (records_of l)) 0) (sym (append-nil (stream acts)))
    ∙ ap (λ (l : List (List ℕ)). slice_get l 0) (v.ahead [])
    ∙ ap (λ (l : List ℕ). slice_get (drop (records_ended others) (records_of l)) 0) (append-nil (stream others))
    ∙ sym (get_is_first_of_drop (records_ended others) (records_of (stream others)))

pub next_call_ahead : (first second : List ℕ) (acts others : List ConnAct) → SameAhead first second acts others
    → next_call acts ≡ next_call others
next_call_ahead first second acts others v = rw (v.no_call, v.call, next_record_same first second acts others v) refl

pub next_request_ahead : (first second : List ℕ) (acts others : List ConnAct) → SameAhead first second acts others
    → next_request acts ≡ next_request others
next_request_ahead first second acts others v = rw (next_call_ahead first second acts others v, v.role) refl

-- ---- the same acts added to both logs

pub acts_keep_same_ahead : (first second : List ℕ) (d : ℕ) (adds log other : List Act) → SameAhead first second (of d log) (of d other)
    → SameAhead first second (of d (adds ++ log)) (of d (adds ++ other))
acts_keep_same_ahead first second d [] log other v = v
acts_keep_same_ahead first second d (OnDevice act ∷ adds) log other v = acts_keep_same_ahead first second d adds log other v
acts_keep_same_ahead first second d (On c act ∷ adds) log other v =
    let so = acts_keep_same_ahead first second d adds log other v in
    elim (cases_Bool (c == d)) [
      | inl e ↦ rw e (act_keeps_same_ahead first second act (of d (adds ++ log)) (of d (adds ++ other)) so)
      | inr e ↦ rw e so
    ]
