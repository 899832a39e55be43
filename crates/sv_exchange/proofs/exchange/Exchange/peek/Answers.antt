use Rattle.std.proofs.Common.{◌≡◌, ◌∙◌, ℕ, List, Option, length, min, refl, sym, ap, arith}
use Rattle.sv_exchange.specs.Limits.{max_read}
use Rattle.sv_exchange.specs.Read.{read_count, ends_at_term}
use Rattle.sv_exchange.proofs.Dues.{readable_is}
use Rattle.sv_exchange.proofs.Places.{read_count_by_position, read_is}
use Rattle.sv_exchange.proofs.exchange.Exchange.peek.Goals.{in-Some, in-None}
use Rattle.sv_exchange.proofs.exchange.Exchange.peek.Goals as goal

pub returns-clause-value : goal.returns-clause-value
returns-clause-value g c =
    let response : List ℕ = c.shown-response.result.now in
    let same : c.match-term.term ≡ c.args.term =
    elim c.match-term.branch [ in-Some w ↦ w.term-is ∙ sym w.in-Some.is | in-None w ↦ w.term-is ] in
    let limit : c.min-limit.result ≡ min c.args.most (min max_read (length response)) =
    c.min-limit.ensures ∙ ap (min c.args.most) c.min.ensures in
    let count : c.match-term.count ≡ read_count response c.args.most c.args.term =
    elim c.match-term.branch [
      | in-Some w ↦ rw (w.count-is, w.in-Some.is)
          (read_count_by_position response c.args.most w.in-Some.last _ _ _ limit w.place_of.ensures.value w.min-count.ensures)
      | in-None w ↦ rw (w.count-is, w.in-None.is) (omega (arith, limit))
    ] in
    let character : c.ends_at.result ≡ ends_at_term response c.match-term.count c.args.term =
    c.ends_at.ensures ∙ ap (λ (t : Option ℕ). ends_at_term response c.match-term.count t) same in
    rw (← c.shown-response.ensures) (read_is _ response c.args.most c.args.term c.match-term.count count refl refl character refl)

pub returns-clause-answer : goal.returns-clause-answer
returns-clause-answer g c = λ acts s. rw (readable_is c.args.self.now acts s) (returns-clause-value g c)
