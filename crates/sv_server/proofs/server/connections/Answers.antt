use Rattle.std.proofs.Common.{◌≡◌, ℕ, ◌∷◌, ◌++◌, [], length, get_or, sym, ap, subst, ◌∙◌, arith, inl, inr}
use Rattle.std.proofs.lemmas.Bool.{cases_lt}
use Rattle.std.proofs.lemmas.List.{get_or_append_left, length-append}
use Rattle.std.proofs.Math.Seq.{get_or-append_seam}
use Rattle.sv_server.specs.Connection.Representation.{Connection, IsConnection}
use Rattle.sv_server.proofs.server.connections.Goals as goal

pub loop-preserved : goal.loop-preserved
loop-preserved g c =
    let connections = c.loop.connections.items in
    let one : Connection = c.in_ok-new.field-0 in
    let i = c.loop.counter in
    let grown : c.push.new.self.items ≡ connections ++ one ∷ [] = c.in_ok-push.ensures.items in
    let count : length connections ≡ i = c.loop.invariant.count in
    record {
      count = omega (arith, ap length grown, length-append connections (one ∷ []));
      each = λ k other lt. rw grown (elim (cases_lt k i) [
        | inl below ↦ rw (get_or_append_left connections (one ∷ []) other k (omega arith)) (c.loop.invariant.each k other below)
        | inr above ↦
            let at : k ≡ length connections = omega arith in
            let value : get_or (connections ++ one ∷ []) k other ≡ one =
            ap (λ (n : ℕ). get_or (connections ++ one ∷ []) n other) at ∙ get_or-append_seam connections one [] other in
            subst (λ (l : Connection). IsConnection l []) (sym value) c.in_ok-new.ensures
      ]);
    }
