use Rattle.sv_net.proofs.words.options.told.Goals as goal

pub returns-in_err-count_of : goal.returns-in_err-count_of
returns-in_err-count_of c = rw c.from_residual.ensures (λ serve tells. c.in_err-count_of.ensures serve.core tells.0)

pub returns-in_err-count_of-2 : goal.returns-in_err-count_of-2
returns-in_err-count_of-2 c =
    rw c.from_residual-in_err-count_of-2.ensures (λ serve tells. c.in_err-count_of-2.ensures serve.abort tells.1)

pub returns-in_err-count_of-3 : goal.returns-in_err-count_of-3
returns-in_err-count_of-3 c =
    rw c.from_residual-in_err-count_of-3.ensures (λ serve tells. c.in_err-count_of-3.ensures serve.portmap tells.2)

pub returns-in_err-count_of-4 : goal.returns-in_err-count_of-4
returns-in_err-count_of-4 c =
    rw c.from_residual-in_err-count_of-4.ensures (λ serve tells. c.in_err-count_of-4.ensures serve.sweeps tells.4)

pub returns-in_err-control_of : goal.returns-in_err-control_of
returns-in_err-control_of c =
    rw c.from_residual-in_err-control_of.ensures (λ serve tells. c.in_err-control_of.ensures serve.control tells.6)
