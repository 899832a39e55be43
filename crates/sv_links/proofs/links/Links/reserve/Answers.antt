use Rattle.std.proofs.Common.{rules}
use Rattle.sv_links.proofs.links.Links.reserve.Goals as goal

pub returns-in_err-reserve-clause-room : goal.returns-in_err-reserve-clause-room
returns-in_err-reserve-clause-room g c = search rules

pub returns-in_err-reserve-clause-rest : goal.returns-in_err-reserve-clause-rest
returns-in_err-reserve-clause-rest g c = search rules

pub returns-in_err-reserve-clause-grows : goal.returns-in_err-reserve-clause-grows
returns-in_err-reserve-clause-grows g c = search rules

pub returns-in_err-reserve-clause-succeeds : goal.returns-in_err-reserve-clause-succeeds
returns-in_err-reserve-clause-succeeds g c = search rules

pub returns-in_err-reserve-clause-stands : goal.returns-in_err-reserve-clause-stands
returns-in_err-reserve-clause-stands g c = search rules

pub returns-in_err-reserve-clause-err : goal.returns-in_err-reserve-clause-err
returns-in_err-reserve-clause-err g c = search rules

pub returns-in_ok-reserve-clause-room : goal.returns-in_ok-reserve-clause-room
returns-in_ok-reserve-clause-room g c = search rules

pub returns-in_ok-reserve-clause-rest : goal.returns-in_ok-reserve-clause-rest
returns-in_ok-reserve-clause-rest g c = search rules

pub returns-in_ok-reserve-clause-grows : goal.returns-in_ok-reserve-clause-grows
returns-in_ok-reserve-clause-grows g c = search rules

pub returns-in_ok-reserve-clause-succeeds : goal.returns-in_ok-reserve-clause-succeeds
returns-in_ok-reserve-clause-succeeds g c = search rules

pub returns-in_ok-reserve-clause-stands : goal.returns-in_ok-reserve-clause-stands
returns-in_ok-reserve-clause-stands g c = search rules

pub returns-in_ok-reserve-clause-err : goal.returns-in_ok-reserve-clause-err
returns-in_ok-reserve-clause-err g c = search rules
