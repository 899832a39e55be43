use Rattle.std.proofs.Common.{◌∙◌, ap, List, ℕ}
use Rattle.std.specs.Prelude.{slice_get}
use Rattle.sv_server.proofs.OnConnection.Connections.{first_kept_by_append, nonempty_after_append}
use Rattle.sv_server.proofs.connection.Connection.push.Goals as goal

pub invariant_of-self : goal.invariant_of-self
invariant_of-self g c = (
  c.self.invariant.0,
  c.self.invariant.1,
  λ busy. let kept = c.self.invariant.2 busy in
      (kept.0, nonempty_after_append _ c.push.ensures.keeps.0 _ c.push.ensures.keeps.1 kept.1, kept.2),
)

pub returns : goal.returns
returns g c = λ acts old.
    let is = rw (← c.self.view_is) at old in
    record {
      role = is.role;
      input = c.push.ensures.stands _ _ is.input;
      output = is.output;
      bounded = is.bounded;
      faulted = is.faulted;
      busy = is.busy;
      call = λ busy. ap (λ (rs : List (List ℕ)). slice_get rs 0) c.push.ensures.keeps.1
          ∙ first_kept_by_append _ c.push.ensures.keeps.0 (c.self.invariant.2 busy).1 ∙ is.call busy;
    }
