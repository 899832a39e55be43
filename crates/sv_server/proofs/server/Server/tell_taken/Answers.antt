use Rattle.std.proofs.Common.{◌≡◌, ℕ, Bool, false, List, [], Option, Some, None}
use Rattle.std.specs.Prelude.{not, is_none}
use Rattle.std.specs.Option.{option_map_or}
use Rattle.sv_history.specs.Act.{of, device_acts}
use Rattle.sv_history.specs.Connection.{next_call}
use Rattle.sv_history.proofs.Unrecorded.{nothing_idle}
use Rattle.sv_explain.specs.Steps.{call_line}
use Rattle.sv_print.specs.Printed.{Prints}
use Rattle.sv_print.proofs.Taking.{prints_none, prints_then}
use Rattle.sv_server.proofs.server.Server.tell_taken.Goals as goal

-- Without a call there is no line to write.
no_call : (c : ℕ) (call : Option (List ℕ)) (old : Option (List ℕ)) (failed : Bool) → false ≡ not (is_none call)
    → Prints old failed old failed (option_map_or (call_line c) call [])
no_call c None old failed e = prints_none old failed
no_call c (Some call) old failed e = absurd cc

pub returns-in-Some-next_call : goal.returns-in-Some-next_call
returns-in-Some-next_call g c = λ config log rep.
    let held = rw (← c.self.view_is) at rep in
    rw (← (c.in-Some-next_call.ensures.answer (of c.args.conn log) (c.in-Some.ensures config log rep)))
    (prints_then _ _ _ _ _ _ _ _ (rw (c.time.ensures.answer config (device_acts log) held.device) at c.put_head.ensures) c.put_call.ensures)

pub returns-in-None-next_call : goal.returns-in-None-next_call
returns-in-None-next_call g c = λ config log rep.
    let held = rw (← c.self.view_is) at rep in
    rw (← (c.in-None-next_call.ensures.answer (of c.args.conn log) (c.in-Some.ensures config log rep)))
    (prints_then _ _ _ _ _ _ _ _ (rw (c.time.ensures.answer config (device_acts log) held.device) at c.put_head.ensures) (prints_none _ _))

pub returns-in-None : goal.returns-in-None
returns-in-None g c = λ config log rep.
    let held = rw (← c.self.view_is) at rep in
    prints_then _ _ _ _ _ _ _ _ (rw (c.time.ensures.answer config (device_acts log) held.device) at c.put_head.ensures)
    (no_call c.args.conn (next_call (of c.args.conn log)) _ _ (nothing_idle (of c.args.conn log) (c.in-None.ensures config log rep)))
