use Rattle.std.proofs.Common.{◌≡◌, ℕ, ◌≤◌, ◌<◌, min, ap, arith, inl, inr}
use Rattle.std.proofs.lemmas.Bool.{cases_eq}
use Rattle.sv_server.specs.Server.State.{State}
use Rattle.sv_server.proofs.OnShown.Never.{no_channel, never_opened_is_shown}
use Rattle.sv_server.proofs.server.Server.conns_to_tell.Goals as goal

pub loop-number-init : goal.loop-number-init
loop-number-init g c = λ config log rep k low high.
    absurd (omega (arith, low, high, ap (λ (s : State). s.connections_used) c.self.view_is))

pub loop-number-preserved : goal.loop-number-preserved
loop-number-preserved g c = λ config log rep k low high. elim (cases_eq k c.loop-number.number) [
  | inl e ↦ rw e (no_channel c.loop-number.number log c.loop-number-test.true (c.if-has_channel.ensures config log rep))
  | inr ne ↦ c.loop-number.invariant config log rep k low (omega (arith, ne, high))
]

above_least : (m a k : ℕ) → m ≡ min a 16 → m ≤ k → k < 16 → a ≤ k
above_least m a k e le lt = grind arith

pub returns-clause-never : goal.returns-clause-never
returns-clause-never g c = λ config log rep k le lt.
    let used : c.args.self.now.connections_used ≤ k =
    rw (← ap (λ (s : State). s.connections_used) c.self.view_is) (above_least c.min.result _ k c.min.ensures le lt) in
    never_opened_is_shown c.args.self.now config log k rep (rep.connections_used.0 k used)
    (c.loop-number.invariant config log rep k used (omega (arith, lt, c.loop-number-test.false)))
