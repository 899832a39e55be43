-- A connection without acts is idle, hasn't failed, and isn't waiting for an interrupt channel.
use Rattle.std.proofs.Common.{◌≡◌, ℕ, false, List, [], None, refl, sym, subst, rules}
use Rattle.std.specs.Prelude.{not}
use Rattle.sv_rpc.specs.Stream.{read}
use Rattle.sv_history.specs.Act.{Act, ConnAct, of}
use Rattle.sv_history.specs.Connection.{is_idle, is_overlong, is_faulted}
use Rattle.sv_history.specs.Interrupts.{dial_of}

empty_faulted : false ≡ is_faulted []
unfolding read
empty_faulted = refl

empty_idle : false ≡ not (is_idle [])
unfolding read
empty_idle = refl

empty_overlong : false ≡ is_overlong []
unfolding read
empty_overlong = refl

pub nothing_faulted : (acts : List ConnAct) → acts ≡ [] → false ≡ is_faulted acts
nothing_faulted acts none = subst (λ (l : List ConnAct). false ≡ is_faulted l) (sym none) empty_faulted

pub nothing_overlong : (acts : List ConnAct) → acts ≡ [] → false ≡ is_overlong acts
nothing_overlong acts none = subst (λ (l : List ConnAct). false ≡ is_overlong l) (sym none) empty_overlong

pub nothing_idle : (acts : List ConnAct) → acts ≡ [] → false ≡ not (is_idle acts)
nothing_idle acts none = subst (λ (l : List ConnAct). false ≡ not (is_idle l)) (sym none) empty_idle

pub nothing_dialed : (c : ℕ) (log : List Act) → of c log ≡ [] → None ≡ dial_of c log
nothing_dialed c log none = rw none (search rules)
