use Rattle.std.proofs.Common.{◌∙◌, ◌-◌, ap, sym, min, take, length}
use Rattle.std.specs.Str.Parse.{digits_value, digits_value_after}
use Rattle.sv_value.proofs.Capped.{capped_append, take_join}
use Rattle.sv_value.proofs.number.front_of.Goals as goal

pub returns-else-kept-whole-clause-front : goal.returns-else-kept-whole-clause-front
returns-else-kept-whole-clause-front c =
    c.value_after-front.ensures.value
    ∙ ap (λ n. min (digits_value_after 10 n (take (c.args.kept - length c.args.whole.now) c.args.fraction.now)) 1000000000000000000)
    c.value_after-else-kept-whole.ensures.value
    ∙ capped_append 1000000000000000000 c.args.whole.now (take (c.args.kept - length c.args.whole.now) c.args.fraction.now)
    ∙ ap (λ ds. min (digits_value 10 ds) 1000000000000000000)
    (sym (take_join c.args.kept c.args.whole.now c.args.fraction.now c.if-kept-whole.false))
