use Rattle.std.proofs.Common.{◌≡◌, Bool, true, false, sym, ap, ◌∙◌}
use Rattle.std.specs.Prelude.{not, Result, Ok, Err, MatchResult, is_ok}
use Rattle.sv_history.specs.declared.event.Refused.{Refused}
use Rattle.sv_history.specs.declared.event.Refused.TheVariants.{NoConn}
use Rattle.sv_server.proofs.server.Server.has_channel.Goals as goal

ok_told : {A : Type 0} (r : Result A Refused) (b : Bool) → MatchResult r (λ a. b ≡ false) (λ e. (e ≡ NoConn) × (b ≡ true)) → is_ok r ≡ not b
ok_told (Ok a) b is = sym (ap not is)
ok_told (Err e) b is = sym (ap not is.1)

pub returns : goal.returns
returns g c = λ config log rep. c.is_ok.ensures.value ∙ ok_told c.with_channel.result _ (c.with_channel.ensures.answer config log rep)
