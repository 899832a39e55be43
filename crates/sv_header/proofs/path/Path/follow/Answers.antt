use Rattle.std.proofs.Common.{◌≡◌, ◌∙◌, ℕ, List, [], ◌∷◌, Option, Some, None, ap, sym, ◌<◌, length, arith, rules}
use Rattle.std.specs.Borrow.{Bor}
use Rattle.std.specs.Option.{MatchOption}
use Rattle.sv_text.specs.Cut.{cut_at}
use Rattle.sv_text.specs.Header.{lead, mnemonics}
use Rattle.sv_text.specs.declared.header.Lead.{Lead}
use Rattle.sv_text.specs.declared.header.Lead.TheVariants.{Root, Onward}
use Rattle.sv_text.proofs.Parts.{at_least_one_part}
use Rattle.sv_header.specs.Plain.{sent_of}
use Rattle.sv_header.specs.Resolve.{but_last, full, kept_by, next_path, path_before}
use Rattle.sv_header.proofs.Fitting.{but_last_of_append, first_follows, resolved_small}
use Rattle.sv_header.proofs.path.Path.follow.Goals.{in-Root, in-Onward}
use Rattle.sv_header.proofs.path.Path.follow.Goals as goal

-- The first mnemonic of a text, and those after it.
first_and_others : (parts : List (List ℕ)) (first : List ℕ) (behind : Option (Bor (List ℕ)))
    → MatchOption behind (parts ≡ first ∷ []) (λ rest. parts ≡ first ∷ cut_at 58 rest.now) → parts ≡ first ∷ sent_of behind
first_and_others parts first None h = h
first_and_others parts first (Some rest) h = h

pub returns-in-Common : goal.returns-in-Common
returns-in-Common c = search rules

pub loop-behind-init : goal.loop-behind-init
loop-behind-init c =
    let parts = c.header_parts-parts.ensures in
    let before : c.match-parts.self-inside.mnemonics.items ≡ path_before (lead c.args.header.now) c.args.self.now =
    elim c.match-parts.branch [
      | in-Root w ↦ (let e : lead c.args.header.now ≡ Root = sym parts.lead ∙ w.in-Root.is in rw (e, w.self-inside-is) w.clear.ensures)
      | in-Onward w ↦ (let e : lead c.args.header.now ≡ Onward = sym parts.lead ∙ w.in-Onward.is in rw (e, w.self-inside-is) c.self.view_is)
    ] in
    let sent : mnemonics c.args.header.now ≡ c.first_part.result.0.now ∷ sent_of c.first_part.result.1 =
    ap (cut_at 58) (sym parts.body) ∙ first_and_others _ _ c.first_part.result.1 c.first_part.ensures.parts in
    let small = resolved_small c.args.self.now c.args.header.now c.requires.0 c.requires.1 in
    let begun = first_follows _ _ c.args.self.now _ c.args.header.now before sent small in
    record { same = begun.0; few = begun.1; short = begun.2 }

pub push-requires : goal.push-requires
push-requires c =
    let few = rw c.in-Some.is at c.loop-behind.invariant.few in
    let some = at_least_one_part 58 c.in-Some.rest.now in
    let lt : length c.loop-behind.self-inside.mnemonics.items < 4 = omega (arith, few, some) in
    (omega arith, lt)

pub returns : goal.returns
returns c =
    let same = rw c.in_default.is at c.loop-behind.invariant.same in
    let parts = c.header_parts-parts.ensures in
    let path : List (List ℕ) = c.args.self.now in
    let all : List (List ℕ) = full path c.args.header.now in
    let kept : next_path path c.args.header.now ≡ but_last all =
    elim c.match-parts.branch [
      | in-Root w ↦ ap (λ (l : Lead). kept_by l path all) (sym parts.lead ∙ w.in-Root.is)
      | in-Onward w ↦ ap (λ (l : Lead). kept_by l path all) (sym parts.lead ∙ w.in-Onward.is)
    ] in
    sym (but_last_of_append c.loop-behind.self-inside.mnemonics.items c.loop-behind.first.now) ∙ ap but_last same ∙ sym kept
