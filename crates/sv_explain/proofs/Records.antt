-- Records are equal if their fields are.
use Rattle.std.proofs.Common.{◌≡◌, Bool, true, false, refl, ap, ◌∙◌}
use mathlib.Core.Bool.{beq}
use Rattle.sv_explain.specs.declared.shown.ConnShown.{ConnShown}
use Rattle.sv_explain.specs.declared.shown.SettingsShown.{SettingsShown}
use Rattle.sv_explain.specs.declared.shown.MeasurementShown.{MeasurementShown}

pub same_conns : (a b : ConnShown) → a.role ≡ b.role → a.faulted ≡ b.faulted → a.call ≡ b.call → a.output ≡ b.output
    → a.has_channel ≡ b.has_channel → a.requests ≡ b.requests → a ≡ b
same_conns a b role faulted call output channel requests =
    ap (λ x. record a { role = x }) role
    ∙ ap (λ x. record a { role = b.role; faulted = x }) faulted
    ∙ ap (λ x. record a { role = b.role; faulted = b.faulted; call = x }) call
    ∙ ap (λ x. record b { output = x; has_channel = a.has_channel; requests = a.requests }) output
    ∙ ap (λ x. record b { has_channel = x; requests = a.requests }) channel
    ∙ ap (λ x. record b { requests = x }) requests

pub same_settings : (a b : SettingsShown) → a.source ≡ b.source → a.count ≡ b.count → a.range ≡ b.range → a.monitor ≡ b.monitor
    → a.upper ≡ b.upper → a.lower ≡ b.lower → a.limits ≡ b.limits → a ≡ b
same_settings a b source count range monitor upper lower limits =
    ap (λ x. record a { source = x }) source
    ∙ ap (λ x. record a { source = b.source; count = x }) count
    ∙ ap (λ x. record a { source = b.source; count = b.count; range = x }) range
    ∙ ap (λ x. record b { monitor = x; upper = a.upper; lower = a.lower; limits = a.limits }) monitor
    ∙ ap (λ x. record b { upper = x; lower = a.lower; limits = a.limits }) upper
    ∙ ap (λ x. record b { lower = x; limits = a.limits }) lower
    ∙ ap (λ x. record b { limits = x }) limits

pub same_measurements : (a b : MeasurementShown) → a.state ≡ b.state → a.progress ≡ b.progress → a.readings ≡ b.readings
    → a.newest ≡ b.newest → a ≡ b
same_measurements a b state progress readings newest =
    ap (λ x. record a { state = x }) state
    ∙ ap (λ x. record a { state = b.state; progress = x }) progress
    ∙ ap (λ x. record b { readings = x; newest = a.newest }) readings
    ∙ ap (λ x. record b { newest = x }) newest

pub same_bools : (a b : Bool) → beq a b ≡ true → a ≡ b
same_bools true true e = refl
same_bools false false e = refl
same_bools true false e = absurd cc
same_bools false true e = absurd cc
