-- A call of `take_turn` in the proof of `allocate`. `Left` is the row of its cell, `Asks` its
-- contract, and `asks_at` what the caller passes. `asks` and `answers_bool` give what the call
-- requires, and use what it returns. Assumes `Logic`.
use Rattle.std.proofs.Common.{◌≡◌, ℕ, Bool, List, [], ◌∷◌, refl, ap}
use seplogic.Ra.Ura.{Ura}
use mir.Val.{Val, vptr, vbool}
use base.Logic.{SProp, ent, sep, ex, guard, id⊢}
use base.Fml.{Lft, Share, ftrue, fsep, flft}
use prog.Memory.{Memory}
use prog.Routine.{Routine}
use types.Logic.{Logic, sem}
use contract.Monad.{Fun}
use types.Kit.{‵, raw, ◌⊛◌, some, later, ◌$◌, ◌∵◌, !, qed, move, keep, use1, split, join, pick, fjoin, feq_i, feq_l, check, show, await, updating, now as at_once, done}
use denote.RattleType.{RattleType}
use denote.Memory.{hidden_shr}
use denote.Builtin.{u64, bool}
use denote.Steps.{nothing, only}
use denote.Triple.Statement.{Contract}
use denote.Triple.Spec.{triple_of}
use Rattle.std.specs.contracts.cell.Cell
use Rattle.failing_alloc.specs.contracts.take_turn

abbrev pub Left : RattleType
Left = Cell.the_row u64

module _ {M : Type 1} {𝓤 : Ura M} (𝓛 : Logic 𝓤) (mem : Memory → SProp 𝓤) (run : Routine → Fun 𝓤) where
  abbrev pub Asks : Contract 𝓤
  Asks = triple_of 𝓛 take_turn.signature (take_turn.spec 𝓛 mem run)

  abbrev pub asks_at : Lft → Share → ℕ × ℕ → Asks.Ghost
  asks_at κ q at = (((κ, tt), (q, tt), tt, (record { ref_ptr = at; now = record { value = tt } }, tt), (vptr at.0 at.1 ∷ [], tt)), tt)

module _ {M : Type 1} {𝓤 : Ura M} (𝓛 : Logic 𝓤) (mem : Memory → SProp 𝓤) (run : Routine → Fun 𝓤) (κ : Lft) (q : Share) (at : ℕ × ℕ) where
  open 𝓛 use {H, A}

  pub asks : ent 𝓤 (sep 𝓤 (sem 𝓛 (hidden_shr Left κ (record { value = tt }) at.0 at.1)) (A.lft κ q))
      ((Asks 𝓛 mem run).pre (asks_at 𝓛 mem run κ q at))
  asks =
      qed 𝓛 (‵ (hidden_shr Left κ (record { value = tt }) at.0 at.1) ∷ ‵ (flft κ q) ∷ []) ∵
      feq_i ! (List Val) (vptr at.0 at.1 ∷ []) (vptr at.0 at.1 ∷ []) refl $ fjoin ! $
      nothing ! $ move ! (1 ∷ []) $ fjoin ! $ nothing ! $ move ! (2 ∷ []) $ join ! $ join ! $ nothing ! $ move ! (1 ∷ []) $ done !

  pub answers_bool : (v : Val) → ent 𝓤 ((Asks 𝓛 mem run).post (asks_at 𝓛 mem run κ q at) v)
      (H.⇛ (ex 𝓤 (λ (r : Bool). guard 𝓤 (v ≡ vbool r) (A.lft κ q))))
  answers_bool v =
      qed 𝓛 (raw ((Asks 𝓛 mem run).post (asks_at 𝓛 mem run κ q at) v) ∷ []) ∵ updating ! $
      use1 𝓛 (later (some (λ (r : Bool). ((‵ (flft κ q) ⊛ ‵ ftrue) ⊛ ‵ (bool.own_val r (v ∷ []))) ⊛ some
      (λ (ws : Unit {0} × Unit {0}). ‵ (fsep ftrue ftrue) ⊛ ‵ ftrue)))) (id⊢ 𝓤 _) $
      await ! tt $ pick ! (λ r. split ! $ split ! $ move ! (1 ∷ []) $ feq_l ! (λ is_bool. split ! $ at_once ! $
      show ! (λ (b : Bool). guard 𝓤 (v ≡ vbool b) (A.lft κ q)) r $ check ! (ap only is_bool) $ keep ! (0 ∷ []) $ done !))
