-- The position of the next unit in its message.
use Rattle.std.proofs.Common.{◌≡◌, ◌≢◌, ℕ, ◌+◌, Bool, true, false, not, ◌&&◌, cond, List, [], ◌++◌, take, drop, Option, Some, None, refl, sym, ap, ◌∙◌, append_assoc, append-nil, slice_get, arith}
use Rattle.std.proofs.lemmas.List.{length-append, take_at}
use Rattle.sv_exchange.specs.Exchange.{ExchangeAct, message, current, units, units_done, next_unit}
use Rattle.sv_exchange.specs.Contents.{Contents, StandsFor}
use Rattle.sv_exchange.specs.Ahead.{IsLooked}
use Rattle.sv_exchange.specs.Place.{IsPlaceOf}
use Rattle.sv_exchange.specs.declared.ahead.Ahead.{Ahead}
use Rattle.sv_exchange.proofs.Dues.{message_by_contents, next_unit_by_contents}
use Rattle.sv_exchange.proofs.Looking.{unit_parts, unit_slice, found_unit_is_first}

-- A message that has a next unit isn't too long.
has_unit : (ended long lost : Bool) (found : Option (List ℕ)) (unit : List ℕ)
    → cond (ended && (not long && not lost)) found None ≡ Some unit → (long ≡ false) × (found ≡ Some unit)
has_unit true false false found unit e = (refl, e)
has_unit true false true found unit e = absurd cc
has_unit true true lost found unit e = absurd cc
has_unit false long lost found unit e = absurd cc

has_bytes : (rest unit : List ℕ) → slice_get (units rest) 0 ≡ Some unit → rest ≢ []
has_bytes rest unit e none =
    let nothing : None ≡ Some unit = sym (ap (λ (l : List ℕ). slice_get (units l) 0) none) ∙ e in absurd cc

-- The next unit follows the executed bytes and those that were skipped before it.
pub place_is : (contents : Contents) (acts : List ExchangeAct) (unit : List ℕ) (ahead : Ahead) → IsLooked ahead contents.rest
    → StandsFor contents acts → next_unit acts ≡ Some unit → IsPlaceOf (contents.place + ahead.start) unit acts
place_is contents acts unit ahead looked s next =
    let due = has_unit contents.ended contents.overlong contents.answers_dropped _ unit (sym (next_unit_by_contents contents acts s) ∙ next)
    in
    let placed = s.placed due.0 in
    let h = looked.begun.seen in
    let same : h.unit ≡ unit = sym (unit_slice ahead contents.rest h) ∙ found_unit_is_first ahead contents.rest unit looked due.1 in
    let behind : List ℕ = h.space ++ drop ahead.looked contents.rest in
    let rest : contents.rest ≡ h.before ++ (unit ++ behind) =
    unit_parts ahead contents.rest h ∙ ap (λ (l : List ℕ). h.before ++ (l ++ behind)) same in
    let none : units h.before ≡ [] = sym (ap units (append-nil h.before)) ∙ h.blank [] in
    let all : units (message acts) ≡ s.executed ++ units contents.rest =
    ap units (message_by_contents contents acts s) ∙ placed.units_left in (
      placed.consumed ++ h.before,
      behind,
      message_by_contents contents acts s ∙ placed.joined ∙ ap (λ (l : List ℕ). placed.consumed ++ l) rest
          ∙ sym (append_assoc placed.consumed h.before (unit ++ behind)),
      omega (arith, placed.size, h.begins, length-append placed.consumed h.before),
      placed.behind (has_bytes contents.rest unit due.1) h.before ∙ ap (λ (us : List (List ℕ)). s.executed ++ us) none
          ∙ append-nil s.executed
          ∙ sym (ap (take (units_done (current acts))) all ∙ take_at s.executed (units contents.rest) (units_done (current acts)) s.count),
    )
