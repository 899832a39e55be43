-- Destroying links never increases the number of live links.
use Rattle.std.proofs.Common.{ℕ, ◌≤◌, List, [], ◌∷◌, ◌++◌, length, arith}
use Rattle.std.specs.Prelude.{filter}
use mathlib.Core.List.{reverse_aux-eq}
use Rattle.sv_links.specs.declared.links.Link.{Link}
use Rattle.sv_links.specs.Links.{LinkAct, Destroyed, live, closing}
use Rattle.sv_links.proofs.Tables.{other_than}
use Rattle.sv_links.proofs.Closing.{with_destroyed, of_conn}
use Rattle.sv_links.proofs.Counted.{length_filter_le}

pub destroyed_adds_no_live : (lid : ℕ) (acts : List LinkAct) → length (live (Destroyed lid ∷ acts)) ≤ length (live acts)
destroyed_adds_no_live lid acts = length_filter_le (other_than lid) (live acts)

destroying_adds_no_live : (ys : List Link) (acts : List LinkAct) → length (live (with_destroyed ys acts)) ≤ length (live acts)
destroying_adds_no_live [] acts = omega arith
destroying_adds_no_live (y ∷ ys) acts =
    omega (arith, destroying_adds_no_live ys (Destroyed y.lid ∷ acts), destroyed_adds_no_live y.lid acts)

pub closing_adds_no_live : (c : ℕ) (acts : List LinkAct) → length (live (closing c acts ++ acts)) ≤ length (live acts)
closing_adds_no_live c acts = rw (← reverse_aux-eq) (destroying_adds_no_live (filter (of_conn c) (live acts)) acts)
