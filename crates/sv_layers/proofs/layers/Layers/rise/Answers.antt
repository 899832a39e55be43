use Rattle.std.proofs.Common.{◌∙◌}
use Rattle.sv_layers.proofs.SameWords.{same_words}
use Rattle.sv_layers.proofs.layers.Layers.rise.Goals as goal

pub returns : goal.returns
returns g c = λ log h. c.rise.ensures _ _ (c.register.ensures _ h.status_log h.joined) ∙ (same_words c.args.name log).1
