-- Replies come in the order of the calls: the law `InOrder`.
use Rattle.std.proofs.Common.{◌≡◌, ℕ, zero, suc, Bool, true, false, cond, List, [], ◌∷◌, ◌++◌, length, Option, Some, None, refl, sym, ap, subst, ◌∙◌}
use Rattle.std.specs.Prelude.{slice_get, ◌||◌, is_some}
use Rattle.sv_rpc.specs.Stream.{records_of}
use Rattle.sv_history.specs.Act.{ConnAct, Opened, Piece, CallTaken, Faulted, Replied, BytesTaken, PortClosed, of}
use Rattle.sv_history.specs.Connection.{stream, pending_call, records_ended, took_no_call}
use Rattle.sv_laws.specs.InOrder.{replies, AreInOrder, InOrder}
use Rattle.sv_laws.proofs.Cuts.ReadsOn.{records_of_append}
use Rattle.sv_laws.proofs.EveryLog.EachAct.{WerePossible, acts_were_possible}
use Rattle.sv_laws.proofs.RepliesMatch.{pending_call_is_bytes, has_xid}

-- ---- a longer list of records

get_in_append : (xs ys : List (List ℕ)) (n : ℕ) (x : List ℕ) → slice_get xs n ≡ Some x → slice_get (xs ++ ys) n ≡ Some x
get_in_append [] ys n x e = absurd cc
get_in_append (y ∷ xs) ys zero x e = e
get_in_append (y ∷ xs) ys (suc n) x e = get_in_append xs ys n x e

more_in_order : (records more older : List (List ℕ)) → AreInOrder records older → AreInOrder (records ++ more) older
more_in_order records more [] h = tt
more_in_order records more (reply ∷ older) (call, is, has, h) =
    (call, get_in_append records more (length older) call is, has, more_in_order records more older h)

-- ---- the next record

next_call_is_record : (no busy : Bool) (found : Option (List ℕ)) (call : List ℕ) → cond (no || busy) None found ≡ Some call
    → (no ≡ false) × (found ≡ Some call)
next_call_is_record true busy found call e = absurd cc
next_call_is_record false true found call e = absurd cc
next_call_is_record false false found call e = (refl, e)

-- ---- the invariant

record IsOrdered (acts : List ConnAct) : Type 0 where
  done : AreInOrder (records_of (stream acts)) (replies acts)
  count : took_no_call acts ≡ false → length (replies acts) ≡ records_ended acts
  waits : (call : List ℕ) → pending_call acts ≡ Some call
      → (took_no_call acts ≡ false) × (slice_get (records_of (stream acts)) (records_ended acts) ≡ Some call)

all_ordered : (acts : List ConnAct) → WerePossible acts → IsOrdered acts
all_ordered [] all = record { done = tt; count = λ e. refl; waits = λ call e. absurd cc }
all_ordered (Opened role ∷ acts) all = record { done = tt; count = λ e. refl; waits = λ call e. absurd cc }
all_ordered (PortClosed ∷ acts) all = record { done = tt; count = λ e. refl; waits = λ call e. absurd cc }
all_ordered (Piece bytes ∷ acts) all =
    let was = all_ordered acts all.1 in
    record {
      done = subst (λ (l : List (List ℕ)). AreInOrder l (replies acts)) (sym (records_of_append (stream acts) bytes))
          (more_in_order (records_of (stream acts)) _ (replies acts) was.done);
      count = was.count;
      waits = λ call e.
          let so = was.waits call e in (
            so.0,
            subst (λ (l : List (List ℕ)). slice_get l (records_ended acts) ≡ Some call) (sym (records_of_append (stream acts) bytes))
                (get_in_append (records_of (stream acts)) _ (records_ended acts) call so.1),
          );
    }
all_ordered (CallTaken call ∷ acts) all =
    let was = all_ordered acts all.1 in
    let next = next_call_is_record (took_no_call acts) (is_some (pending_call acts))
    (slice_get (records_of (stream acts)) (records_ended acts)) call
    all.0.1 in
    record { done = was.done; count = was.count; waits = λ other e. (next.0, next.1 ∙ e) }
all_ordered (Faulted ∷ acts) all =
    record { done = (all_ordered acts all.1).done; count = λ e. absurd cc; waits = λ call e. absurd cc }
all_ordered (Replied reply ∷ acts) all =
    let was = all_ordered acts all.1 in
    let so = was.waits all.0.0 all.0.1 in
    record {
      done = (
        all.0.0,
        ap (λ (n : ℕ). slice_get (records_of (stream acts)) n) (was.count so.0) ∙ so.1,
        has_xid all.0.0 reply (pending_call_is_bytes acts all.0.0 all.1 all.0.1) all.0.2,
        was.done,
      );
      count = λ e. ap suc (was.count so.0);
      waits = λ call e. absurd cc;
    }
all_ordered (BytesTaken count ∷ acts) all =
    let was = all_ordered acts all.1 in record { done = was.done; count = was.count; waits = was.waits }

pub in_order : InOrder
in_order config history log c was = (all_ordered (of c log) (acts_were_possible config history log c was)).done
