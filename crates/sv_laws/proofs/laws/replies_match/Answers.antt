use Rattle.sv_laws.proofs.RepliesMatch.{replies_match}
use Rattle.sv_laws.proofs.laws.replies_match.Goals as goal

pub returns : goal.returns
returns c = replies_match
