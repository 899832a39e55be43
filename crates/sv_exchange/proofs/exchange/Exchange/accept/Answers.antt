use Rattle.std.proofs.Common.{◌≡◌, ℕ, ◌+◌, ◌||◌, cond, nat_lt, drop, ◌++◌, length, refl, arith}
use Rattle.std.proofs.lemmas.Grind.{common_steps}
use Rattle.sv_exchange.proofs.Stands.{accept_stands, not_true}
use Rattle.sv_exchange.proofs.Fields.{contents_after_accept, open_message_end}
use Rattle.sv_exchange.proofs.exchange.Exchange.accept.Given.{Over}
use Rattle.sv_exchange.proofs.exchange.Exchange.accept.Goals as goal
use Rattle.sv_exchange.proofs.exchange.Exchange.accept.Goals.{After-first_message-cut}
use Rattle.sv_exchange.specs.Fields.{contents_of, after_accept}
use Rattle.sv_exchange.specs.Limits.{max_message}

-- The contents after the write, if the first unit is read from this position.
accepted : (g : Over) (c : After-first_message-cut g) (start : ℕ)
    → start ≡ cond (c.self.inside.overlong || nat_lt max_message (c.len-before.result + c.first_message-cut.result.size))
    (c.len-before.result + c.first_message-cut.result.size) 0
    → contents_of c.append.new.bytes.items start (c.len-before.result + c.first_message-cut.result.size)
    (c.len-before.result + c.first_message-cut.result.next_start) c.first_message-cut.result.ended c.first_message-cut.result.end_pending
    (c.self.inside.overlong || nat_lt max_message (c.len-before.result + c.first_message-cut.result.size))
    c.self.inside.overrun_reported c.self.inside.answers_dropped c.self.inside.answering c.self.inside.response.items c.self.inside.read 0
    ≡ after_accept c.args.self.now c.args.bytes.now c.args.ended
accepted g c start start_is =
    let unended = not_true _ (rw (← c.self.view_is) at c.requires.«open») in
    let all = open_message_end c.self.inside.ended _ _ _ _ unended c.self.invariant.0.bounds in
    let text_is : c.append.new.bytes.items ≡ drop c.self.inside.cursor c.self.inside.text.items ++ c.args.bytes.now =
    grind (arith, common_steps) in
    let before_is : c.len-before.result ≡ length (drop c.self.inside.cursor c.self.inside.text.items) = grind (arith, common_steps) in
    let cut = c.first_message-cut.ensures in
    rw (← c.self.view_is)
    (contents_after_accept c.self.inside.text.items _ c.args.bytes.now _ _ _ c.self.inside.next_start _ _ _ c.self.inside.ended _
    c.self.inside.end_pending _ c.self.inside.overlong c.self.inside.overrun_reported c.self.inside.answers_dropped
    c.self.inside.answering _
    c.self.inside.response.items c.self.inside.read c.self.inside.executed all text_is before_is cut.size cut.next_start cut.ended
    cut.end_pending start_is)

pub returns-then-self-clause-value : goal.returns-then-self-clause-value
returns-then-self-clause-value g c =
    accepted g (goal.at.returns-then-self-clause-value g c).After-first_message-cut _ (rw c.if-self.true refl)

pub returns-then-self-clause-stands : goal.returns-then-self-clause-stands
returns-then-self-clause-stands g c =
    λ acts s. accept_stands _ _ acts c.args.bytes.now c.args.ended c.requires.«open» (returns-then-self-clause-value g c) s

pub returns-else-self-clause-value : goal.returns-else-self-clause-value
returns-else-self-clause-value g c =
    accepted g (goal.at.returns-else-self-clause-value g c).After-first_message-cut _ (rw c.if-self.false refl)

pub returns-else-self-clause-stands : goal.returns-else-self-clause-stands
returns-else-self-clause-stands g c =
    λ acts s. accept_stands _ _ acts c.args.bytes.now c.args.ended c.requires.«open» (returns-else-self-clause-value g c) s

pub returns-then-self-clause-bounded : goal.returns-then-self-clause-bounded
returns-then-self-clause-bounded g c = grind (arith, common_steps)

pub returns-else-self-clause-bounded : goal.returns-else-self-clause-bounded
returns-else-self-clause-bounded g c = grind (arith, common_steps)

pub invariant_of-self-else-self : goal.invariant_of-self-else-self
invariant_of-self-else-self g c = grind (arith, common_steps)
