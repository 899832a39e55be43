use Rattle.std.proofs.Common.{◌≤◌, ◌-◌, ◌^◌, length, refl, arith}
use Rattle.sv_lexer.proofs.Finished.{MayEnd, ends_after_header, ends_after_data, fault_if_incomplete, fault_if_long, no_fault_if_short, cut_is}
use Rattle.sv_lexer.proofs.Tokens.{cut_holds}
use Rattle.sv_lexer.proofs.partial.Partial.finish.Goals.{in-CommonMnemonic, in-ProgramData, Joined-self}
use Rattle.sv_lexer.proofs.partial.Partial.finish.Goals as goal

pub returns-in-WhiteSpace : goal.returns-in-WhiteSpace
returns-in-WhiteSpace c = fault_if_incomplete _ _ (rw (← c.self.view_is) at c.requires) c.in-WhiteSpace.is

-- The unit may end after its header, or after its program data.
may_end : (c : Joined-self) → MayEnd c.args.self.now c.match-self.data_start.0 c.match-self.data_start.1
may_end c =
    rw (← c.self.view_is) (elim c.match-self.branch [
      | in-CommonMnemonic w ↦ rw w.data_start-is (ends_after_header _ w.in-CommonMnemonic.is)
      | in-ProgramData w ↦ rw w.data_start-is (ends_after_data _ w.in-ProgramData.is)
    ])

pub returns-then-max-gt-MOST : goal.returns-then-max-gt-MOST
returns-then-max-gt-MOST c =
    let ends = may_end (goal.at.returns-then-max-gt-MOST c).Joined-self in
    fault_if_long _ _ _ _ c.max.result c.requires ends (rw (← c.self.view_is) c.max.ensures) c.if-max-gt-MOST.true

pub invariant_of-result : goal.invariant_of-result
invariant_of-result c =
    let ends = rw (← c.self.view_is) at (may_end (goal.at.invariant_of-result c).Joined-self) in
    let room : length c.args.text.now ≤ 2 ^ 64 - 1 = omega arith in
    let cut = cut_is _ _ _ _ c.max.result room (rw (← c.self.view_is) at c.requires) ends c.max.ensures c.if-max-gt-MOST.false in
    cut_holds c.args.text.now _ _ _ _ _ _ c.token_at.result cut refl refl c.token_at.ensures.text c.token_at.ensures.start
    c.token_at.ensures.kind

pub returns : goal.returns
returns c =
    let ends = may_end (goal.at.returns c).Joined-self in
    (refl, no_fault_if_short _ _ _ _ c.max.result c.requires ends (rw (← c.self.view_is) c.max.ensures) c.if-max-gt-MOST.false)
