use Rattle.sv_xdr.proofs.Fields.{bytes_are}
use Rattle.sv_vxi.proofs.ArgumentBytes.{arguments_are}
use Rattle.sv_vxi.proofs.laws.read_as_spelled.Goals as goal

pub returns : goal.returns
returns c proc bytes all one = arguments_are proc bytes (bytes_are bytes all) one
