use Rattle.std.proofs.Common.{sym, ◌∙◌}
use Rattle.sv_header.specs.Plain.{left_of}
use Rattle.sv_header.proofs.Walking.{is_parted, found_if_node_taken, found_if_node_omitted, found_at_later_sibling, found_below, all_if_optional, rest_if_form, none_if_other, none_if_nothing}
use Rattle.sv_header.proofs.walk.+walk.Goals.{walk-in-Some, walk-in-Some-2, walk-in-None}
use Rattle.sv_header.proofs.walk.+walk.Goals as goal

pub below-returns-in-None : goal.below-returns-in-None
below-returns-in-None t c =
    found_below c.args.query c.args.branch.now c.args.children.now c.args.left c.in_ok-left.left c.walk.result c.in_ok-left.was
    c.in-None.ensures c.walk.ensures

pub walk-returns-then-is_some : goal.walk-returns-then-is_some
walk-returns-then-is_some t c =
    let parted = is_parted c.args.branches.now _ _ _ c.min.result c.in-len1-up.len_at_least c.min.ensures c.split_at.ensures.front
    c.split_at.ensures.back in
    found_if_node_taken c.args.query c.args.branches.now _ _ _ (left_of c.args.left.now) c.match-left.taken c.below-there.result parted
    (elim c.match-left.branch [
      | walk-in-Some w ↦ rest_if_form c.args.left.now _ _ _ _ _ w.in-Some.is w.fits.ensures w.if-fits.true w.new.ensures w.taken-is
      | walk-in-Some-2 w ↦ none_if_other c.args.left.now _ _ _ _ w.in-Some.is w.fits.ensures w.if-fits.false w.taken-is
      | walk-in-None w ↦ none_if_nothing c.args.left.now _ _ w.in-None.is w.taken-is
    ])
    c.below-there.ensures (sym c.is_some.ensures ∙ c.if-is_some.true)

pub walk-returns-then-is_some-2 : goal.walk-returns-then-is_some-2
walk-returns-then-is_some-2 t c =
    let parted = is_parted c.args.branches.now _ _ _ c.min.result c.in-len1-up.len_at_least c.min.ensures c.split_at.ensures.front
    c.split_at.ensures.back in
    let all = all_if_optional c.args.branches.now _ _ _ c.args.left.now c.then_some-all.result parted c.then_some-all.ensures in
    found_if_node_omitted c.args.query c.args.branches.now _ _ _ (left_of c.args.left.now) c.then_some-all.result c.below-absent.result
    parted all c.below-absent.ensures (sym c.is_some-2.ensures ∙ c.if-is_some-2.true)

pub walk-returns : goal.walk-returns
walk-returns t c =
    let parted = is_parted c.args.branches.now _ _ _ c.min.result c.in-len1-up.len_at_least c.min.ensures c.split_at.ensures.front
    c.split_at.ensures.back in
    let all = all_if_optional c.args.branches.now _ _ _ c.args.left.now c.then_some-all.result parted c.then_some-all.ensures in
    found_at_later_sibling c.args.query c.args.branches.now _ _ _ (left_of c.args.left.now) c.match-left.taken c.then_some-all.result
    c.below-there.result c.below-absent.result c.walk.result parted (elim c.match-left.branch [
      | walk-in-Some w ↦ rest_if_form c.args.left.now _ _ _ _ _ w.in-Some.is w.fits.ensures w.if-fits.true w.new.ensures w.taken-is
      | walk-in-Some-2 w ↦ none_if_other c.args.left.now _ _ _ _ w.in-Some.is w.fits.ensures w.if-fits.false w.taken-is
      | walk-in-None w ↦ none_if_nothing c.args.left.now _ _ w.in-None.is w.taken-is
    ])
    all c.below-there.ensures
    (sym c.is_some.ensures ∙ c.if-is_some.false) c.below-absent.ensures (sym c.is_some-2.ensures ∙ c.if-is_some-2.false) c.walk.ensures
