-- If no record is left after an answered call, all records of the stream are finished. Then the
-- unfinished record at the end of the stream alone determines how further bytes are read.
use Rattle.std.proofs.Common.{◌≡◌, ℕ, suc, ◌<◌, Bool, true, false, cond, List, [], ◌∷◌, ◌++◌, length, drop, Some, None, slice_get, sym, ap, ◌∙◌, append_assoc, append-nil, arith}
use Rattle.std.specs.Prelude.{◌||◌, is_some}
use Rattle.std.proofs.lemmas.List.{length-append, length-drop, append_cancel_right}
use Rattle.std.proofs.lemmas.Option.{slice_get_within}
use Rattle.sv_rpc.specs.Stream.{records_of, tail_of}
use Rattle.sv_history.specs.declared.event.Config.{Config}
use Rattle.sv_history.specs.Event.{PlainEvent}
use Rattle.sv_history.specs.Act.{Act, ConnAct, Piece, CallTaken, Replied, of}
use Rattle.sv_history.specs.Connection.{stream, records_ended, took_no_call, pending_call}
use Rattle.sv_laws.specs.Cuts.{without_pieces}
use Rattle.sv_laws.proofs.Cuts.SameView.{SameShown}
use Rattle.sv_laws.proofs.Cuts.ReadsOn.{resumed_at, records_of_append}
use Rattle.sv_laws.proofs.Cuts.BytesBehind.{StreamContinues, pieces_leave_other_acts, pieces_extend_stream}
use Rattle.sv_laws.proofs.Cuts.Fed.{Fed, call_shows_in_acts, shown_bare}

-- ---- acts without pieces of bytes

-- Pieces of bytes change nothing of what a connection's acts show but the stream.
pub without_pieces_shows_same : (acts : List ConnAct) → SameShown acts (without_pieces acts)
without_pieces_shows_same [] = assumption
without_pieces_shows_same (Piece bytes ∷ acts) = let so = without_pieces_shows_same acts in assumption
without_pieces_shows_same (Replied bytes ∷ acts) =
    let so = without_pieces_shows_same acts in assumption (ap suc so.count, ap (λ (l : List ℕ). l ++ bytes) so.replies)
without_pieces_shows_same (_ ∷ acts) = let so = without_pieces_shows_same acts in assumption (ap suc so.count)

-- ---- streams that continue

abbrev Longer : List ConnAct → List ConnAct → Type 0
Longer acts rest = (more : List ℕ) × (stream (acts ++ rest) ≡ stream rest ++ more)

longer_piece : (bytes : List ℕ) (acts rest : List ConnAct) → Longer acts rest → Longer (Piece bytes ∷ acts) rest
longer_piece bytes acts rest (more, is) =
    (more ++ bytes, ap (λ (l : List ℕ). l ++ bytes) is ∙ append_assoc (stream rest) more bytes)

only_pieces_extend_stream : (acts rest : List ConnAct) → without_pieces acts ≡ [] → Longer acts rest
only_pieces_extend_stream [] rest none = ([], sym (append-nil (stream rest)))
only_pieces_extend_stream (Piece bytes ∷ acts) rest none = longer_piece bytes acts rest (only_pieces_extend_stream acts rest none)
only_pieces_extend_stream (_ ∷ acts) rest none = absurd cc

only_reply_extends_stream : (reply : List ℕ) (acts rest : List ConnAct) → without_pieces acts ≡ Replied reply ∷ [] → Longer acts rest
only_reply_extends_stream reply [] rest one = absurd cc
only_reply_extends_stream reply (Piece bytes ∷ acts) rest one = longer_piece bytes acts rest (only_reply_extends_stream reply acts rest one)
only_reply_extends_stream reply (Replied bytes ∷ acts) rest one = let none : without_pieces acts ≡ [] = cc in
    only_pieces_extend_stream acts rest none
only_reply_extends_stream reply (_ ∷ acts) rest one = absurd cc

module _ (c : ℕ) (config : Config) (past : List PlainEvent) (log : List Act) (reply call : List ℕ) (rest : List ConnAct)
    (fed : Fed c config past log reply call rest) where
  fed_stream : StreamContinues c fed.base log
  fed_stream =
      let shown = call_shows_in_acts c config call fed.base fed.last fed.taking in
      let one : without_pieces shown.0 ≡ Replied reply ∷ [] =
      append_cancel_right (without_pieces shown.0) (Replied reply ∷ []) (CallTaken call ∷ without_pieces (of c fed.base))
      (sym (shown_bare c call fed.base fed.last shown) ∙ fed.acts) in
      let front = only_reply_extends_stream reply shown.0 (CallTaken call ∷ of c fed.base) one in
      let behind = pieces_extend_stream c fed.last log fed.came in (
        front.0 ++ behind.0,
        behind.1 ∙ ap (λ (l : List ℕ). l ++ behind.0) (ap stream shown.2 ∙ front.1)
            ∙ append_assoc (stream (of c fed.base)) front.0 behind.0,
      )

  pub fed_bare : without_pieces (of c log) ≡ Replied reply ∷ CallTaken call ∷ without_pieces (of c fed.base)
  fed_bare = pieces_leave_other_acts c fed.last log fed.came ∙ fed.acts

  fed_count : records_ended (of c log) ≡ suc (records_ended (of c fed.base))
  fed_count = (without_pieces_shows_same (of c log)).count ∙ ap records_ended fed_bare
      ∙ ap suc (sym (without_pieces_shows_same (of c fed.base)).count)

  fed_within : records_ended (of c fed.base) < length (records_of (stream (of c fed.base)))
  fed_within = slice_get_within (records_of (stream (of c fed.base))) (records_ended (of c fed.base)) call
      (by_test (took_no_call (of c fed.base) || is_some (pending_call (of c fed.base))) fed.taking.next)
    where
      by_test : (t : Bool) → cond t None (slice_get (records_of (stream (of c fed.base))) (records_ended (of c fed.base))) ≡ Some call
          → slice_get (records_of (stream (of c fed.base))) (records_ended (of c fed.base)) ≡ Some call
      by_test true is = absurd cc
      by_test false is = is

  -- If no record is left to take, the number of finished records is the number of records in the
  -- stream.
  pub fed_all : drop (records_ended (of c log)) (records_of (stream (of c log))) ≡ []
      → length (records_of (stream (of c log))) ≡ records_ended (of c log)
  fed_all none =
      let records = records_of (stream (of c log)) in
      let before = records_of (stream (of c fed.base)) in
      let grown = fed_stream in
      let more = (resumed_at (tail_of (stream (of c fed.base))) grown.0).0 in
      let all : length records ≡ length (before ++ more) =
      ap (λ (l : List ℕ). length (records_of l)) grown.1
      ∙ ap (λ (l : List (List ℕ)). length l) (records_of_append (stream (of c fed.base)) grown.0) in
      let left : length (drop (records_ended (of c log)) records) ≡ 0 = ap (λ (l : List (List ℕ)). length l) none in
      omega (arith, all, left, length-append before more, length-drop (records_ended (of c log)) records, fed_count, fed_within)
