-- Logs that only pieces of bytes of one connection are added to: nothing else changes.
use Rattle.std.proofs.Common.{◌≡◌, ◌≢◌, ℕ, List, [], ◌∷◌, ◌++◌, refl, sym, ap, subst, ◌∙◌}
use Rattle.std.specs.Prelude.{map}
use Rattle.sv_history.specs.Act.{Act, ConnAct, Piece, On, of, device_acts}
use Rattle.sv_history.specs.Connection.{join_pieces, stream, pending_call}
use Rattle.sv_laws.specs.Cuts.{without_pieces}
use Rattle.sv_history.proofs.Projections.{of_effect, of_others_effect, device_effect}
use Rattle.sv_laws.proofs.Cuts.SameView.{pieces_extend_only_stream, only_own, pieces_on}

abbrev pub AddsOnlyPieces : ℕ → List Act → List Act → Type 0
AddsOnlyPieces c base log = (pieces : List (List ℕ)) × (log ≡ pieces_on c pieces ++ base)

pub no_pieces_added : (c : ℕ) (base log : List Act) → log ≡ base → AddsOnlyPieces c base log
no_pieces_added c base log same = ([], same)

pub one_piece_added : (c : ℕ) (piece : List ℕ) (base log new : List Act) → new ≡ On c (Piece piece) ∷ log → AddsOnlyPieces c base log
    → AddsOnlyPieces c base new
one_piece_added c piece base log new is (pieces, so) = (piece ∷ pieces, is ∙ ap (λ (l : List Act). On c (Piece piece) ∷ l) so)

behind_each : (c : ℕ) (base log : List Act) (pieces : List (List ℕ)) → AddsOnlyPieces c base log
    → AddsOnlyPieces c base (pieces_on c pieces ++ log)
behind_each c base log [] so = so
behind_each c base log (piece ∷ pieces) so =
    one_piece_added c piece base (pieces_on c pieces ++ log) (pieces_on c (piece ∷ pieces) ++ log) refl (behind_each c base log pieces so)

pub pieces_then_pieces : (c : ℕ) (base mid log : List Act) → AddsOnlyPieces c base mid → AddsOnlyPieces c mid log
    → AddsOnlyPieces c base log
pieces_then_pieces c base mid log one (pieces, is) =
    subst (λ (l : List Act). AddsOnlyPieces c base l) (sym is) (behind_each c base mid pieces one)

pub pieces_leave_device : (c : ℕ) (base log : List Act) → AddsOnlyPieces c base log → device_acts log ≡ device_acts base
pieces_leave_device c base log (pieces, is) = ap device_acts is ∙ device_effect c (only_own (map Piece pieces)) base

pub pieces_leave_others : (c d : ℕ) (base log : List Act) → AddsOnlyPieces c base log → d ≢ c → of d log ≡ of d base
pieces_leave_others c d base log (pieces, is) ne = ap (of d) is ∙ of_others_effect c d (only_own (map Piece pieces)) base ne

behind_own : (c : ℕ) (base log : List Act) (pieces : List (List ℕ)) → log ≡ pieces_on c pieces ++ base
    → of c log ≡ map Piece pieces ++ of c base
behind_own c base log pieces is = ap (of c) is ∙ of_effect c (only_own (map Piece pieces)) base

pieces_bare : (pieces : List (List ℕ)) (acts : List ConnAct) → without_pieces (map Piece pieces ++ acts) ≡ without_pieces acts
pieces_bare [] acts = refl
pieces_bare (piece ∷ pieces) acts = pieces_bare pieces acts

pub pieces_leave_other_acts : (c : ℕ) (base log : List Act) → AddsOnlyPieces c base log
    → without_pieces (of c log) ≡ without_pieces (of c base)
pieces_leave_other_acts c base log (pieces, is) = ap without_pieces (behind_own c base log pieces is) ∙ pieces_bare pieces (of c base)

pub pieces_leave_pending_call : (c : ℕ) (base log : List Act) → AddsOnlyPieces c base log
    → pending_call (of c log) ≡ pending_call (of c base)
pieces_leave_pending_call c base log (pieces, is) = ap pending_call (behind_own c base log pieces is)
    ∙ (pieces_extend_only_stream pieces (of c base)).0.call

-- The stream of connection `c` in `log` continues its stream in `base`.
abbrev pub StreamContinues : ℕ → List Act → List Act → Type 0
StreamContinues c base log = (more : List ℕ) × (stream (of c log) ≡ stream (of c base) ++ more)

pub pieces_extend_stream : (c : ℕ) (base log : List Act) → AddsOnlyPieces c base log → StreamContinues c base log
pieces_extend_stream c base log (pieces, is) =
    (join_pieces pieces, ap stream (behind_own c base log pieces is) ∙ (pieces_extend_only_stream pieces (of c base)).1)
