use Rattle.sv_replay.proofs.perform.apply.Goals as goal

pub returns-in-Plain : goal.returns-in-Plain
returns-in-Plain g c = rw c.in-Plain.is c.replay.ensures

pub returns-in-Explained : goal.returns-in-Explained
returns-in-Explained g c = rw c.in-Explained.is c.explain.ensures
