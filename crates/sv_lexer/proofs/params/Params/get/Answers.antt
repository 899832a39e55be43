use Rattle.std.proofs.Common.{◌≡◌, ℕ, ◌+◌, List, ◌∙◌, ap, length, arith, rules}
use Rattle.sv_text.specs.White.{trim_start, trim_end}
use Rattle.sv_lexer.specs.Token.{kind_of}
use Rattle.sv_lexer.specs.Unit.{white_size}
use Rattle.sv_lexer.proofs.Standing.{white_rest}
use Rattle.sv_lexer.proofs.Tokens.{parameter_holds}
use Rattle.sv_lexer.proofs.params.Params.get.Goals as goal

-- The text without the white space in front.
start_is : (part text : List ℕ) → text ≡ trim_start part → white_size part + length text ≡ length part
start_is part text is = rw is (white_rest part)

pub overflow_sub-space : goal.overflow_sub-space
overflow_sub-space c = let rest = start_is c.in_ok-part.part.now _ c.without_start-text.ensures in omega (arith, rest)

pub returns : goal.returns
returns c =
    let held = c.self.invariant in
    let part = c.in_ok-part.ensures in
    let trimmed = c.without_end.ensures ∙ ap trim_end c.without_start-text.ensures in
    let slice = c.token_at.ensures.text ∙ trimmed in
    let kind = c.token_at.ensures.kind ∙ ap kind_of trimmed in
    let rest = start_is c.in_ok-part.part.now _ c.without_start-text.ensures in
    rw (← c.self.view_is)
    (parameter_holds c.self.inside.bytes.now _ c.in_ok-part.part.now _ c.args.index _ _ c.token_at.result held.0 held.1 held.3
    (omega (arith, held.2, c.if-index-self.false))
    part.1 part.2 part.3 (omega (arith, rest)) slice c.token_at.ensures.start kind)

pub returns-in_err-part : goal.returns-in_err-part
returns-in_err-part c = search rules
