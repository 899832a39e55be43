use Rattle.sv_lexer.proofs.Order.{tokens_come_in_order}
use Rattle.sv_lexer.proofs.laws.tokens_in_order.Goals as goal

pub returns : goal.returns
returns c = tokens_come_in_order
