use Rattle.std.proofs.Common.{◌∙◌, sym, subst, codes, map, rules, tests, Decides}
use Rattle.std.specs.List.{Contains}
use Rattle.std.specs.Str.{bytes_eq}
use Rattle.std.proofs.lemmas.Iterator.{YieldsList-from_slice}
use Rattle.std.proofs.lemmas.Iterator.Search.{any_from_yields_List}
use Rattle.clap.proofs.WalkLemmas.{list_any-map}
use Rattle.sv_net.proofs.Among.{decides_contains}
use Rattle.sv_net.proofs.words.has_end_of_options.Goals as goal

pub returns : goal.returns
returns g c =
    let text = g.S.AsStr.text in
    let words = c.args.words.now in
    let found = any_from_yields_List (λ word. bytes_eq (text word) (codes "--")) _ _ c.any.result c.any.ensures.ran
    (YieldsList-from_slice words c.iter.ensures.rest) (λ x b q k. search (rules, tests)) in
    subst (λ b. Decides b (Contains (map text words) (codes "--"))) (sym (found ∙ list_any-map _ text words))
    (decides_contains (codes "--") (map text words))
