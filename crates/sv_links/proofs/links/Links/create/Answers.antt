use Rattle.std.proofs.Common.{arith, ◌∙◌, sym, ap, refl, ℕ, ◌+◌, List, Option, None, rules}
use Rattle.std.specs.Prelude.{slice_index_or}
use Rattle.slab.specs.Slab.{Slab}
use Rattle.sv_links.specs.declared.links.Link.{Link}
use Rattle.std.proofs.lemmas.Bool.{false≢true}
use Rattle.sv_links.proofs.Tables.{is_table_made, may_make_when_full, may_make_without_numbers, may_make_with_room, memory≢resources, made≢resources}
use Rattle.sv_links.proofs.links.Links.create.Goals as goal
use Rattle.sv_links.proofs.links.Links.create.Goals.{then-len-ge-MAX_LINKS-via-then-len-ge-MAX_LINKS, then-len-ge-MAX_LINKS-via-else-len-ge-MAX_LINKS+then-self-ge-LAST}

pub returns-then-len-ge-MAX_LINKS-clause-refused : goal.returns-then-len-ge-MAX_LINKS-clause-refused
returns-then-len-ge-MAX_LINKS-clause-refused g c acts is =
    let old = rw (← c.self.view_is) at is in
    elim c.then-len-ge-MAX_LINKS.branch [
      | then-len-ge-MAX_LINKS-via-then-len-ge-MAX_LINKS w ↦
          (λ _. may_make_when_full _ acts old (omega (arith, w.if-len-ge-MAX_LINKS.true, c.len.ensures)), λ _. refl)
      | then-len-ge-MAX_LINKS-via-else-len-ge-MAX_LINKS+then-self-ge-LAST w ↦
          (λ _. may_make_without_numbers _ acts old w.if-self-ge-LAST.true, λ _. refl)
    ]

pub returns-then-is_err-clause-refused : goal.returns-then-is_err-clause-refused
returns-then-is_err-clause-refused g c acts is =
    let old = rw (← c.self.view_is) at is in
    let can = may_make_with_room _ acts old (omega (arith, c.if-len-ge-MAX_LINKS.false, c.len.ensures)) c.if-self-ge-LAST.false in
    (λ e. absurd (memory≢resources e), λ k. absurd (false≢true (sym k ∙ can)))

pub returns-clause-ok : goal.returns-clause-ok
returns-clause-ok g c acts is =
    let old = rw (← c.self.view_is) at is in
    let put = c.insert_reserved.ensures.updates in
    let same = ap (λ (slab : Slab Link). slab.slots) c.reserve.ensures.rest_kept in
    let free = sym (ap (λ (slots : List (Option Link)). slice_index_or slots c.insert_reserved.result None) same)
    ∙ c.insert_reserved.ensures.was_vacant in (
      ap (λ (n : ℕ). n + 1) old.made,
      is_table_made _ c.args.conn acts c.insert_reserved.new.self.slots c.insert_reserved.result
          c.saturating_sub-self-inside.result free put.changed
          (λ other apart. put.others other apart ∙ ap (λ (slots : List (Option Link)). slice_index_or slots other None) same) old,
    )

pub returns-clause-refused : goal.returns-clause-refused
returns-clause-refused g c acts is =
    let old = rw (← c.self.view_is) at is in
    let can = may_make_with_room _ acts old (omega (arith, c.if-len-ge-MAX_LINKS.false, c.len.ensures)) c.if-self-ge-LAST.false in
    (λ e. absurd (made≢resources _ e), λ k. absurd (false≢true (sym k ∙ can)))

pub returns-then-is_err-clause-err : goal.returns-then-is_err-clause-err
returns-then-is_err-clause-err g c = search rules
