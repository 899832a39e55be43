use Rattle.std.proofs.Common.{◌≡◌, ℕ, ◌-◌, List, [], ◌++◌, length, take, refl, sym, ap, subst, ◌∙◌, append_assoc, append-nil, arith}
use Rattle.std.proofs.lemmas.Bool.{eqb-true, eqb-false}
use Rattle.std.proofs.lemmas.List.{take-append-drop}
use Rattle.sv_rpc.specs.Representation.{InRoom}
use Rattle.sv_rpc.proofs.Goes.{goes_on_whole_piece, goes_on_reflexive, goes_on_transitive}
use Rattle.sv_rpc.proofs.Keeping.{keeps_transitive}
use Rattle.sv_rpc.proofs.Rooms.{room_fits}
use Rattle.sv_rpc.proofs.record_buf.RecordBuf.push.Goals as goal

pub loop-rest-init : goal.loop-rest-init
loop-rest-init g c = record {
  fits = λ some. room_fits c.args.self.now (length c.args.piece.now) c.requires some;
  stands = ([], refl, goes_on_reflexive c.args.self.now);
  keeps = ([], sym (append-nil c.args.self.now.records));
}

pub take_in-count-requires-clause-some : goal.take_in-count-requires-clause-some
take_in-count-requires-clause-some g c = omega (arith, eqb-false (length c.loop-rest.rest.now) 0 (sym c.loop-rest-test.ensures))

pub take_in-count-requires-clause-fits : goal.take_in-count-requires-clause-fits
take_in-count-requires-clause-fits g c = c.loop-rest.invariant.fits (take_in-count-requires-clause-some g c)

pub loop-rest-preserved : goal.loop-rest-preserved
loop-rest-preserved g c =
    let count = c.take_in-count.result in
    let rest = c.loop-rest.rest.now in
    let before = c.loop-rest.invariant.stands in
    let parts : rest ≡ take count rest ++ c.split_at.result.1.now =
    sym (take-append-drop count rest) ∙ ap (λ (l : List ℕ). take count rest ++ l) (sym c.split_at.ensures.back) in
    let size : length rest - count ≡ length c.split_at.result.1.now = omega (arith, c.split_at.ensures.back_len) in
    let kept = c.loop-rest.invariant.keeps in
    record {
      fits = λ _. subst (λ (n : ℕ). InRoom c.take_in-count.new.self n) size c.take_in-count.ensures.fits;
      stands = (
        before.0 ++ take count rest,
        before.1 ∙ ap (λ (l : List ℕ). before.0 ++ l) parts ∙ sym (append_assoc before.0 (take count rest) c.split_at.result.1.now),
        goes_on_transitive c.args.self.now c.loop-rest.self c.take_in-count.new.self before.0
            (take count rest) before.2 c.take_in-count.ensures.stands,
      );
      keeps = keeps_transitive c.args.self.now c.loop-rest.self c.take_in-count.new.self kept c.take_in-count.ensures.keeps;
    }

pub returns-clause-stands : goal.returns-clause-stands
returns-clause-stands g c =
    goes_on_whole_piece c.args.self.now c.loop-rest.self c.args.piece.now c.loop-rest.rest.now
    (eqb-true (length c.loop-rest.rest.now) 0 (sym c.loop-rest-test.ensures)) c.loop-rest.invariant.stands

pub returns-clause-keeps : goal.returns-clause-keeps
returns-clause-keeps g c = c.loop-rest.invariant.keeps
