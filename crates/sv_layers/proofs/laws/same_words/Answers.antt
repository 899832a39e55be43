use Rattle.sv_layers.proofs.SameWords.{same_words}
use Rattle.sv_layers.proofs.laws.same_words.Goals as goal

pub returns : goal.returns
returns c = same_words
