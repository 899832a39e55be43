use Rattle.std.proofs.Common.{◌≡◌, ◌∙◌, ℕ, ◌+◌, ◌≤◌, ap, arith, cond, ℤ, Bool, true, false, List, Option, refl, rules, w64, to_z, of_z}
use Rattle.std.specs.Prelude.{◌&&◌, ◌||◌, int_lt, unsigned_abs}
use Rattle.std.proofs.lemmas.Int.{to_z-of_z}
use mir.Val.{SFits}
use Rattle.sv_scan.specs.declared.setting.Reading.{Reading}
use Rattle.sv_scan.specs.declared.acts.ScanAct.{ScanAct}
use Rattle.sv_scan.specs.Setting.{limits, upper, lower, monitor, input}
use Rattle.sv_scan.specs.Scan.{last_reading}
use Rattle.sv_scan.specs.Counted.{effective}
use Rattle.sv_scan.specs.Condition.{bit, is_below, is_above, is_outside, limit}
use Rattle.sv_scan.proofs.scanner.Scanner.conditions.Goals as goal

at_most_mask : (word mask : ℕ) (holds : Bool) → word ≡ cond holds mask 0 → word ≤ mask
at_most_mask word mask true is = omega (arith, is)
at_most_mask word mask false is = omega (arith, is)

pub overflow_add-result-4 : goal.overflow_add-result-4
overflow_add-result-4 g c =
    let low = at_most_mask c.mask_if-5.result 1 (c.self.inside.settings.limits && c.is_below.result) c.mask_if-5.ensures in
    let high = at_most_mask c.mask_if-6.result 2 (c.self.inside.settings.limits && c.is_above.result) c.mask_if-6.ensures in
    let out = at_most_mask c.mask_if-7.result 4 _ c.mask_if-7.ensures in
    omega (arith, low, high, out)

-- The limit condition, from the parts of which the code makes it.
limit_is : (log : List ScanAct) (low high out : ℕ) (limits_now below above outside : Bool) (lower_now upper_now : ℤ)
    (last : Option Reading)
    → low ≡ bit 0 (limits_now && below) → high ≡ bit 1 (limits_now && above) → out ≡ bit 2 (limits_now && outside)
    → limits_now ≡ limits log → lower_now ≡ lower log → upper_now ≡ upper log → last ≡ last_reading log
    → below ≡ is_below last lower_now → above ≡ is_above last upper_now → outside ≡ is_outside log → low + high + out ≡ limit log
limit_is log low high out limits_now below above outside lower_now upper_now last low_is high_is out_is limits_are lower_is upper_is last_is
    below_is above_is outside_is =
    rw (low_is, high_is, out_is, below_is, above_is, outside_is, last_is, limits_are, lower_is, upper_is) refl

-- Whether the live input is outside the limits, from the two comparisons that the code makes.
outside_by_comparisons : (log : List ScanAct) (live lower_now upper_now : ℤ) → live ≡ input (monitor log) log → lower_now ≡ lower log
    → upper_now ≡ upper log → (int_lt live lower_now || int_lt upper_now live) ≡ is_outside log
outside_by_comparisons log live lower_now upper_now live_is lower_is upper_is = rw (live_is, lower_is, upper_is) refl

pub returns-clause-limit : goal.returns-clause-limit
returns-clause-limit g c acts is =
    let held = rw (← c.self.view_is) at is in
    let fits : (v : ℤ) → unsigned_abs v ≤ 1000000000 → to_z w64 (of_z w64 v) ≡ v = λ v small. search rules in
    let lower_fits = fits c.self.inside.settings.lower c.self.invariant.lower in
    let upper_fits = fits c.self.inside.settings.upper c.self.invariant.upper in
    let live_fits : SFits w64 c.voltage-live.result = search rules in
    let live_is = to_z-of_z w64 c.voltage-live.result live_fits ∙ c.voltage-live.ensures
    ∙ held.inputs c.self.inside.settings.monitor c.self.invariant.monitor ∙ ap (λ (m : ℕ). input m (effective acts)) held.monitor in
    limit_is (effective acts) _ _ _ _ _ _ _ _ _ _ c.mask_if-5.ensures c.mask_if-6.ensures c.mask_if-7.ensures held.limits held.lower
    held.upper (c.last_reading-last.ensures acts is) (c.is_below.ensures ∙ ap (is_below _) lower_fits)
    (c.is_above.ensures ∙ ap (is_above _) upper_fits)
    (outside_by_comparisons (effective acts) _ _ _ live_is (lower_fits ∙ held.lower) (upper_fits ∙ held.upper))

pub returns-clause-operation : goal.returns-clause-operation
returns-clause-operation = search rules

pub returns-clause-questionable : goal.returns-clause-questionable
returns-clause-questionable = search rules
