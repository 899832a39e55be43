use Rattle.std.proofs.Common.{rules, ◌≡◌, ◌==◌, sym, ◌∙◌, tests}
use Rattle.std.specs.List.{list_all}
use Rattle.std.proofs.lemmas.Iterator.{YieldsList-from_slice}
use Rattle.std.proofs.lemmas.Iterator.Search.{all_from_yields_List}
use Rattle.sv_xdr.proofs.Fields.{padded_of_parts}
use Rattle.sv_xdr.proofs.reader.Reader.padded.Goals as goal

pub returns : goal.returns
returns c =
    let zeros = c.split_at-2.result.0.now in
    let all_is : c.all.result ≡ list_all (λ byte. byte == 0) zeros =
    all_from_yields_List (λ byte. byte == 0) _ _ _ c.all.ensures.ran (YieldsList-from_slice zeros cc) (λ x b q k. search (rules, tests)) in
    rw (← c.self.view_is) (padded_of_parts _ c.pad_len-pad.result _ _ c.split_at.result.1.now zeros _ c.pad_len-pad.ensures
    c.if-self-size.false c.split_at.ensures.front c.split_at.ensures.back c.split_at-2.ensures.front c.split_at-2.ensures.back
    (sym all_is ∙ c.if-not-all.false))
