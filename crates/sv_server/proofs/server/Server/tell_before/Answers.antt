use Rattle.sv_server.proofs.server.Server.tell_before.Goals as goal

pub returns-in-Turn : goal.returns-in-Turn
returns-in-Turn g c = λ config log rep. rw c.in-Turn.is (c.tell_taken.ensures config log rep)

pub returns-in-Refuse : goal.returns-in-Refuse
returns-in-Refuse g c = λ config log rep. rw c.in-Refuse.is (c.tell_taken-in-Refuse.ensures config log rep)
