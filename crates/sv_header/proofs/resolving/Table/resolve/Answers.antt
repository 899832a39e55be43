use Rattle.std.proofs.Common.{◌≡◌, ◌∙◌, ◌≤◌, Bool, true, false, cond, List, length, take, drop, refl, ap, inl, inr, arith}
use Rattle.sv_header.specs.declared.branch.Branch.{Branch}
use Rattle.sv_header.specs.Inside.Tree.{IsTree, common_nodes, tree_rows, rows_with}
use Rattle.sv_header.specs.Plain.{left_of}
use Rattle.sv_header.specs.Resolve.{path_before, leads_common}
use Rattle.sv_header.proofs.Resolution.{StandsFor, walk_resolves}
use Rattle.sv_header.proofs.resolving.Table.resolve.Goals.{in-Common, in-Root, in-Common-lead, in-Onward}
use Rattle.sv_header.proofs.resolving.Table.resolve.Goals as goal

-- The nodes in which a header is looked up have the rows of its part of the table.
rows_of_roots : (common : Bool) (branches roots : List Branch) → IsTree branches
    → roots ≡ cond common (take common_nodes branches) (drop common_nodes branches) → tree_rows common roots ≡ rows_with common
rows_of_roots true branches roots tree is = ap (tree_rows true) is ∙ tree.common
rows_of_roots false branches roots tree is = ap (tree_rows false) is ∙ tree.others

pub returns : goal.returns
returns g c =
    let parts = c.header_parts-parts.ensures in
    let common : Bool = leads_common c.header_parts-parts.result.lead in
    let branches : List Branch = c.self.inside.branches.items in
    let roots : List Branch = c.match-parts.roots.now in
    let front = c.split_at.ensures.front ∙ ap (take common_nodes) c.deref.ensures.value in
    let back = c.split_at.ensures.back ∙ ap (drop common_nodes) c.deref.ensures.value in
    let chosen : roots ≡ cond common (take common_nodes branches) (drop common_nodes branches) =
    elim c.match-parts.branch [
      | in-Common w ↦ rw (w.in-Common.is, w.roots-is) front
      | in-Root w ↦ elim w.in-Root.is [ inl e ↦ rw (e, w.roots-is) back | inr e ↦ rw (e, w.roots-is) back ]
    ] in
    let before : c.match-parts-2.kept.now ≡ path_before c.header_parts-parts.result.lead c.args.path.now =
    elim c.match-parts-2.branch [
      | in-Common-lead w ↦ elim w.in-Common-lead.is [ inl e ↦ rw (e, w.kept-is) refl | inr e ↦ rw (e, w.kept-is) refl ]
      | in-Onward w ↦ rw (w.in-Onward.is, w.kept-is) w.mnemonics-kept.ensures
    ] in
    let stands : StandsFor c.args.path.now c.args.header.now common c.header_parts-parts.result.query (left_of c.new-mnemonics.result) =
    record {
      common = ap leads_common parts.lead;
      query = parts.query;
      mnemonics = rw (c.new-mnemonics.ensures, before, parts.lead, parts.body) refl;
    } in
    let whole : length roots ≤ length roots = omega arith in
    rw c.ok_or.ensures.value
    (walk_resolves c.args.path.now c.args.header.now common c.header_parts-parts.result.query _ roots c.walk.result stands
    (rows_of_roots common branches roots c.self.invariant chosen) (c.walk.ensures (length roots) whole))
