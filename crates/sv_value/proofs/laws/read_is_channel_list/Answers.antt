use Rattle.sv_value.proofs.Listed.{read_channels}
use Rattle.sv_value.proofs.laws.read_is_channel_list.Goals as goal

pub returns : goal.returns
returns c = read_channels
