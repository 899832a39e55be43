use Rattle.std.proofs.Common.{◌≡◌, ◌∙◌, true, false, refl, sym, subst}
use Rattle.std.specs.Prelude.{ℕ, Option, None, codes}
use Rattle.std.specs.Str.{bytes_eq}
use Rattle.sv_vxi.specs.declared.error_code.ErrorCode.TheVariants.{OutOfResources}
use Rattle.sv_links.specs.Links.{holder, is_locked_out}
use Rattle.sv_history.specs.Act.{link_acts}
use Rattle.sv_history.specs.Admission.{may_make_more}
use Rattle.sv_server.proofs.OnDevice.Parts.{not_false}
use Rattle.sv_server.proofs.device.Device.link_admission.Goals as goal
use Rattle.sv_server.proofs.device.Device.link_admission.Goals.{else-lock_device-via-then-lock_device+else-is_locked_out, else-lock_device-via-else-lock_device}

pub returns-then-not-may_make_more-clause-stops : goal.returns-then-not-may_make_more-clause-stops
returns-then-not-may_make_more-clause-stops g c = λ config acts is client.
    let named : bytes_eq c.args.device.now (codes "inst0") ≡ true = rw (← c.as_slice.ensures) (not_false _ c.if-ne.ensures) in
    let may : may_make_more acts ≡ false = sym (c.may_make_more.ensures config acts is) ∙ c.if-not-may_make_more.true in
    (OutOfResources, rw (named, may) refl, c.no_link-then-not-may_make_more.ensures)

pub returns-then-is_locked_out-clause-stops : goal.returns-then-is_locked_out-clause-stops
returns-then-is_locked_out-clause-stops g c = λ config acts old client.
    let is = rw (← c.self.view_is) at old in
    let named : bytes_eq c.args.device.now (codes "inst0") ≡ true = rw (← c.as_slice.ensures) (not_false _ c.if-ne.ensures) in
    let may : may_make_more acts ≡ true = sym (c.may_make_more.ensures config acts old) ∙ c.if-not-may_make_more.false in
    let locked : is_locked_out (holder (link_acts acts)) None ≡ true = subst (λ (h : Option ℕ). is_locked_out h None ≡ true)
    (c.holder.ensures.answer (link_acts acts) is.0) (sym c.is_locked_out.ensures ∙ c.if-is_locked_out.true) in
    rw (named, may, c.if-lock_device.true, locked) refl

pub returns-clause-stops : goal.returns-clause-stops
returns-clause-stops g c = λ config acts old client.
    let is = rw (← c.self.view_is) at old in
    let named : bytes_eq c.args.device.now (codes "inst0") ≡ true = rw (← c.as_slice.ensures) (not_false _ c.if-ne.ensures) in
    let may : may_make_more acts ≡ true = sym (c.may_make_more.ensures config acts old) ∙ c.if-not-may_make_more.false in
    elim c.else-lock_device.branch [
      | else-lock_device-via-then-lock_device+else-is_locked_out w ↦
          let free : is_locked_out (holder (link_acts acts)) None ≡ false = subst (λ (h : Option ℕ). is_locked_out h None ≡ false)
          (w.holder.ensures.answer (link_acts acts) is.0) (sym w.is_locked_out.ensures ∙ w.if-is_locked_out.false) in
          rw (named, may, w.if-lock_device.true, free) refl
      | else-lock_device-via-else-lock_device w ↦ rw (named, may, w.if-lock_device.false) refl
    ]
