-- Until a unit of a message begins, the path is the root. A unit that starts changes the path; more
-- program text and the end of a held unit don't.
use Rattle.std.proofs.Common.{◌≡◌, ℕ, zero, suc, ◌+◌, Bool, true, false, List, [], ◌∷◌, ◌++◌, Option, Some, None, Result, length, take, ap, refl, sym, subst, ◌∙◌, IsTrue, arith, cond}
use Rattle.std.proofs.lemmas.List.{reverse-append}
use Rattle.std.specs.Prelude.{reverse, slice_get}
use Rattle.sv_errors.specs.declared.code.Code.{Code}
use Rattle.sv_exchange.specs.Exchange.{ExchangeAct, Accepted, Finished, units_done, current, message, units, next_unit}
use Rattle.sv_exchange.specs.Contents.{Contents, StandsFor as Exchanges, is_open}
use Rattle.sv_exchange.proofs.Dues.{unit_due_state}
use Rattle.sv_exchange.proofs.Stands.{not_true}
use Rattle.sv_instrument.specs.declared.command.order.Order.{Order}
use Rattle.sv_instrument.specs.Command.Unit.{IsReadAs}
use Rattle.sv_layers.specs.declared.change.Awaited.{Awaited}
use Rattle.sv_layers.specs.Act.{Act, Exchanged, exchange_acts}
use Rattle.sv_layers.specs.Inside.Representation.{LayerState}
use Rattle.sv_layers.proofs.Projected.{projected}
use Rattle.sv_instrument.specs.HeldUnit.{held_unit}
use Rattle.sv_instrument.specs.Path.{IsPath, Leaves, units_begun, one_if_held}
use Rattle.sv_instrument.specs.Representation.{Kept, StandsFor, IsHeldRight}
use Rattle.sv_instrument.specs.Inside.Acted.{BeginsOne}

root_if_none_begun : (n : ℕ) (us vs : List (List ℕ)) (path : List (List ℕ)) → n ≡ 0 → Leaves (reverse (take n us)) path
    → Leaves (reverse (take n vs)) path
root_if_none_begun n us vs path e =
    subst (λ (m : ℕ). Leaves (reverse (take m us)) path → Leaves (reverse (take m vs)) path) (sym e) (λ p. p)

-- No unit of a message is done before the message has ended.
none_done : (contents : Contents) (acts : List ExchangeAct) → Exchanges contents acts → contents.ended ≡ false
    → units_done (current acts) ≡ 0
none_done contents acts s unended = sym s.count ∙ ap length (s.unbegun unended)

-- No unit is held before the message has ended.
none_held : (kept : Option Awaited) (layers : LayerState) → IsHeldRight kept layers → layers.exchange.ended ≡ false → one_if_held kept ≡ 0
none_held None layers right unended = refl
none_held (Some awaited) layers right unended =
    let z : true ≡ false = sym (unit_due_state layers.exchange right).ended ∙ unended in absurd cc

-- So no unit of a message begins before the message has ended.
pub none_begun_before_end : (kept : Kept) (log : List Act) → StandsFor kept log → IsHeldRight kept.held kept.layers
    → IsTrue (is_open kept.layers.exchange) → units_begun log ≡ 0
none_begun_before_end kept log s right open_now =
    let unended = not_true kept.layers.exchange.ended open_now in
    let joined = s.layers.stands.joined in
    let exchange = subst (λ (acts : List ExchangeAct). Exchanges kept.layers.exchange acts) (projected log).0 joined.exchange in
    let done = none_done kept.layers.exchange (exchange_acts log) exchange unended in
    let held_now : one_if_held (held_unit log) ≡ 0 = ap one_if_held (sym s.held) ∙ none_held kept.held kept.layers right unended in
    omega (arith, done, held_now)

-- More program text leaves the path unchanged.
pub accepted_path : (kept : Kept) (log : List Act) (bytes : List ℕ) (ended : Bool) → StandsFor kept log → IsHeldRight kept.held kept.layers
    → IsTrue (is_open kept.layers.exchange) → IsPath (Exchanged (Accepted bytes ended) ∷ log) kept.path
accepted_path kept log bytes ended s right open_now =
    root_if_none_begun (units_begun log) _ _ kept.path (none_begun_before_end kept log s right open_now) s.path

-- After a message is finished, the path is the root.
pub finished_path : (log : List Act) → None ≡ held_unit log → IsPath (Exchanged Finished ∷ log) []
finished_path log free =
    let none : units_begun (Exchanged Finished ∷ log) ≡ 0 = ap (λ (n : ℕ). 0 + n) (ap one_if_held (sym free)) in
    subst (λ (n : ℕ). Leaves (reverse (take n (units (message (exchange_acts (Exchanged Finished ∷ log)))))) []) (sym none) refl

take_one_more : (us : List (List ℕ)) (n : ℕ) (unit : List ℕ) → slice_get us n ≡ Some unit → take (suc n) us ≡ take n us ++ unit ∷ []
take_one_more [] n unit is = absurd cc
take_one_more (u ∷ us) zero unit is = cc
take_one_more (u ∷ us) (suc n) unit is = ap (λ (vs : List (List ℕ)). u ∷ vs) (take_one_more us n unit is)

reverse_take_one_more : (us : List (List ℕ)) (n : ℕ) (unit : List ℕ) → slice_get us n ≡ Some unit
    → reverse (take (suc n) us) ≡ unit ∷ reverse (take n us)
reverse_take_one_more us n unit is = ap (λ (vs : List (List ℕ)). reverse vs) (take_one_more us n unit is)
    ∙ reverse-append (take n us) (unit ∷ [])

some_from_cond : (b : Bool) (next : Option (List ℕ)) (unit : List ℕ) → cond b next None ≡ Some unit → next ≡ Some unit
some_from_cond true next unit is = is
some_from_cond false next unit is = absurd cc

-- After a unit starts, the path is the one that reading the unit leaves.
pub started_path : (log new : List Act) (unit : List ℕ) (front behind : List (List ℕ)) (outcome : Result Order Code) → None ≡ held_unit log
    → BeginsOne log new → next_unit (exchange_acts log) ≡ Some unit → IsPath log front → IsReadAs front unit outcome behind
    → IsPath new behind
started_path log new unit front behind outcome free begins next before read =
    let n = units_done (current (exchange_acts log)) in
    let us = units (message (exchange_acts log)) in
    let none : units_begun log ≡ n = ap (λ (k : ℕ). n + k) (ap one_if_held (sym free)) ∙ omega arith in
    let more : units_begun new ≡ suc n = begins.begun ∙ omega arith in
    let here : slice_get us n ≡ Some unit = some_from_cond _ _ unit next in
    let are : reverse (take (units_begun new) (units (message (exchange_acts new)))) ≡ unit ∷ reverse (take n us) =
    ap (λ (k : ℕ). reverse (take k (units (message (exchange_acts new))))) more
    ∙ ap (λ (text : List ℕ). reverse (take (suc n) (units text))) begins.message ∙ reverse_take_one_more us n unit here in
    let all = subst (λ (k : ℕ). Leaves (reverse (take k us)) front) none before in
    subst (λ (list : List (List ℕ)). Leaves list behind) (sym are) (front, outcome, all, read)

-- The end of a held unit leaves the path as it was since the unit started.
pub released_path : (log new : List Act) (awaited : Awaited) (path : List (List ℕ)) → Some awaited ≡ held_unit log → BeginsOne log new
    → IsPath log path → IsPath new path
released_path log new awaited path is begins before =
    let n = units_done (current (exchange_acts log)) in
    let same : units_begun log ≡ units_begun new = ap (λ (k : ℕ). n + k) (ap one_if_held (sym is)) ∙ sym begins.begun in
    let there = subst (λ (text : List ℕ). Leaves (reverse (take (units_begun log) (units text))) path) (sym begins.message) before in
    subst (λ (k : ℕ). Leaves (reverse (take k (units (message (exchange_acts new))))) path) same there
