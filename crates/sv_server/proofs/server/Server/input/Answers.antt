use Rattle.std.proofs.Common.{rules, ◌≡◌, ℤ, w64, to_z, of_z, false, refl, subst, [], ◌∷◌}
use Rattle.std.proofs.lemmas.Int.{to_z-of_z}
use Rattle.std.proofs.lemmas.Result.{err_from_is_err_and}
use Rattle.sv_scan.specs.declared.acts.ScanAct.TheVariants.{Input}
use Rattle.sv_layers.specs.Act.{Scanned}
use Rattle.sv_history.specs.History.{is_beyond}
use Rattle.sv_history.specs.Act.{Applied, device_acts}
use Rattle.sv_server.specs.Device.Representation.{IsDevice}
use Rattle.sv_server.proofs.OnServer.Logs.{stands_after_device_acts}
use Rattle.std.specs.Prelude.{Err}
use Rattle.sv_server.specs.Server.Inside.Acting.{IsInput}
use Rattle.sv_server.proofs.OnServer.Refusals.{input_refused}
use Rattle.sv_server.proofs.server.Server.input.Goals as goal

pub returns-clause-acts : goal.returns-clause-acts
returns-clause-acts g c = λ config log rep.
    let state = rw (← c.self.view_is) at rep in
    let known = c.in_ok-did.ensures in
    let same : to_z w64 (of_z w64 c.args.microvolts) ≡ c.args.microvolts = to_z-of_z w64 c.args.microvolts c.ranges.microvolts in
    let all : IsDevice c.input.new.self config (Applied (Scanned (Input c.args.channel c.args.microvolts)) ∷ device_acts log) =
    subst (λ (m : ℤ). IsDevice c.input.new.self config (Applied (Scanned (Input c.args.channel m)) ∷ device_acts log)) same
    (c.input.ensures.stands config (device_acts log) state.device) in
    let near : is_beyond c.args.microvolts ≡ false = search (rules, known.2) in (
      λ channel_log tells. rw (known.1, near) refl,
      known.0,
      λ polled said. stands_after_device_acts _ config log c.input.new.self (_ ∷ []) state all c.input.ensures.waiting,
    )

pub returns-in_err-did-clause-acts : goal.returns-in_err-did-clause-acts
returns-in_err-did-clause-acts g c = λ config log rep.
    let same : to_z w64 (of_z w64 c.args.microvolts) ≡ c.args.microvolts = to_z-of_z w64 c.args.microvolts c.ranges.microvolts in
    let told = err_from_is_err_and c.from_residual.result c.from_residual.ensures.1 in
    rw (told.1, told.2) (input_refused config c.args.channel c.args.microvolts log c.in_err-did.field-0.0 _
    (subst (λ (m : ℤ). IsInput c.args.channel m (Err c.in_err-did.field-0.0)) same c.in_err-did.ensures))
