use Rattle.std.proofs.Common.{◌∙◌, sym, ap, refl, Some, Option, ℕ, ◌≡◌}
use Rattle.std.specs.Prelude.{not, None}
use Rattle.std.proofs.lemmas.Bool.{eqb-true}
use Rattle.sv_links.specs.Links.{is_locked_out, holder}
use Rattle.sv_links.specs.Table.{Table}
use Rattle.sv_links.proofs.Locks.{holder_is, own_number_not_locked_out, is_table_locked, is_table_locked_again}
use Rattle.sv_links.proofs.links.Links.lock.Goals as goal

pub returns-in-Some-clause-answer : goal.returns-in-Some-clause-answer
returns-in-Some-clause-answer g c acts is =
    let held = holder_is c.args.self.now acts is ∙ sym (ap (λ (table : Table). table.holder) c.self.view_is) ∙ c.in-Some.is in
    own_number_not_locked_out c.in-Some.holder c.args.lid ∙ ap (λ (holder : Option ℕ). not (is_locked_out holder (Some c.args.lid)))
    (sym held)

pub returns-in-Some-clause-stands : goal.returns-in-Some-clause-stands
returns-in-Some-clause-stands g c e acts is =
    let held = sym (ap (λ (table : Table). table.holder) c.self.view_is) ∙ c.in-Some.is
    ∙ ap Some (eqb-true c.in-Some.holder c.args.lid e) in
    is_table_locked_again c.args.self.now c.args.lid acts held is

pub returns-clause-answer : goal.returns-clause-answer
returns-clause-answer g c acts is =
    let held : holder acts ≡ None = holder_is c.args.self.now acts is
    ∙ sym (ap (λ (table : Table). table.holder) c.self.view_is) ∙ c.in_default.is in
    rw held refl

pub returns-clause-stands : goal.returns-clause-stands
returns-clause-stands g c e acts is = is_table_locked _ c.args.lid acts c.in_default.is (rw c.self.view_is is)
