-- A unit that is read relative to a path gives one order or error, and leaves one path.
use Rattle.std.proofs.Common.{◌≡◌, ℕ, List, sym, ap, ◌∙◌, inl, inr}
use Rattle.std.specs.Prelude.{Result, Err}
use Rattle.sv_errors.specs.declared.code.Code.{Code}
use Rattle.sv_lexer.specs.Unit.{header}
use Rattle.sv_header.specs.declared.command.CommandId.{CommandId}
use Rattle.sv_header.proofs.Clash.{one_command}
use Rattle.sv_instrument.specs.declared.command.order.Order.{Order}
use Rattle.sv_instrument.specs.Command.Unit.{IsNamed, order_of_unit}
use Rattle.sv_instrument.specs.Laws.{OneReading}
use Rattle.std.proofs.lemmas.Option.{same_Some}

named_once : (path : List (List ℕ)) (unit : List ℕ) (a b : Result Order Code) (p q : List (List ℕ)) → IsNamed path unit a p
    → IsNamed path unit b q → (a ≡ b) × (p ≡ q)
named_once path unit a b p q (inl x) (inl y) =
    let same = one_command path (header unit) x.0 y.0 x.1 y.1 in
    (x.2 ∙ ap (λ (command : CommandId). order_of_unit command unit) same ∙ sym y.2, x.3 ∙ sym y.3)
named_once path unit a b p q (inl x) (inr y) = absurd (y.0 x.0 x.1)
named_once path unit a b p q (inr x) (inl y) = absurd (x.0 y.0 y.1)
named_once path unit a b p q (inr x) (inr y) = (x.1 ∙ sym y.1, x.2 ∙ sym y.2)

pub one_reading : OneReading
one_reading path unit a b p q (inl x) (inl y) =
    (x.2 ∙ ap (λ (code : Code). Err code) (same_Some x.0 y.0 (sym x.1 ∙ y.1)) ∙ sym y.2, x.3 ∙ sym y.3)
one_reading path unit a b p q (inl x) (inr y) = absurd (let e = sym x.1 ∙ y.0 in cc)
one_reading path unit a b p q (inr x) (inl y) = absurd (let e = sym y.1 ∙ x.0 in cc)
one_reading path unit a b p q (inr x) (inr y) = named_once path unit a b p q x.1 y.1
