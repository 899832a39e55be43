use Rattle.std.proofs.Common.{rules}
use Rattle.sv_value.proofs.Listed.{returned_list_is_valid}
use Rattle.sv_value.proofs.value.channel_list.Goals as goal

pub returns-in-Expression-clause-value : goal.returns-in-Expression-clause-value
returns-in-Expression-clause-value c = search rules

pub returns-in-Expression-clause-range : goal.returns-in-Expression-clause-range
returns-in-Expression-clause-range c = returned_list_is_valid (λ list. list.items) c.args.token.now.text.now c.channels_of.result
    c.channels_of.ensures
