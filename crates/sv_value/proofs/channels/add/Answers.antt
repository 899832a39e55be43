use Rattle.std.proofs.Common.{◌∙◌, sym, true, false, arith}
use Rattle.std.proofs.lemmas.Bool.{lt-ltb, le-ltb}
use Rattle.sv_value.proofs.Spans.{item_is_added}
use Rattle.sv_value.proofs.channels.add.Goals as goal

pub returns-then-len-from-ge-LONGEST_LIST : goal.returns-then-len-from-ge-LONGEST_LIST
returns-then-len-from-ge-LONGEST_LIST c =
    item_is_added _ c.in-Some.span c.args.list.now.items true (sym c.ends_of.ensures ∙ c.in-Some.is) (sym c.if-not-is_channel.ensures)
    (sym c.if-not-is_channel-2.ensures)
    (lt-ltb _ _ (omega (arith, c.len.ensures.value, c.from.ensures, c.abs_diff.ensures, c.if-len-from-ge-LONGEST_LIST.true)))

pub returns : goal.returns
returns c =
    rw c.push_run.ensures (item_is_added _ c.in-Some.span c.args.list.now.items false (sym c.ends_of.ensures ∙ c.in-Some.is)
    (sym c.if-not-is_channel.ensures) (sym c.if-not-is_channel-2.ensures)
    (le-ltb _ _ (omega (arith, c.len.ensures.value, c.from.ensures, c.abs_diff.ensures, c.if-len-from-ge-LONGEST_LIST.false))))
