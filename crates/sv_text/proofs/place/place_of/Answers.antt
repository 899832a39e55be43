use Rattle.std.proofs.Common.{◌≡◌, ◌∙◌, ap, ◌==◌, length, rules, tests, unwrap_or}
use Rattle.std.specs.List.{position}
use Rattle.std.proofs.lemmas.Iterator.{YieldsList-from_slice}
use Rattle.std.proofs.lemmas.Iterator.Search.{position_from_yields_List}
use Rattle.sv_text.proofs.Places.{position_or_length}
use Rattle.sv_text.proofs.place.place_of.Goals as goal

pub returns-clause-value : goal.returns-clause-value
returns-clause-value c =
    let bytes = c.args.bytes.now in
    let found : c.position.result ≡ position (λ b. b == c.args.byte) bytes =
    position_from_yields_List (λ b. b == c.args.byte) _ _ _ c.position.ensures.ran (YieldsList-from_slice bytes cc)
    (λ x b q k. search (rules, tests)) in
    c.unwrap_or.ensures ∙ ap (λ o. unwrap_or o (length bytes)) found ∙ position_or_length (λ b. b == c.args.byte) bytes
