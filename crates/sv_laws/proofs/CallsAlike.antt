-- Two logs agree on the suspended call of a connection: on what it waits for, on its deadline and
-- on its link. They still do after the same act in both, and after an act of another connection in
-- one.
use Rattle.std.proofs.Common.{◌≡◌, ◌≢◌, ℕ, eqb, List, ◌∷◌, refl, sym, inl, inr}
use Rattle.std.proofs.lemmas.Bool.{ne_eqb, cases_Bool}
use Rattle.sv_links.specs.Waiting.{WaitAct, Entered, Again, Left, waits, deadline, link}

pub record SameCall (c : ℕ) (acts other : List WaitAct) : Type 0 where
  pub wait : waits c acts ≡ waits c other
  pub until : deadline c acts ≡ deadline c other
  pub named : link c acts ≡ link c other

abbrev pub connection_of : WaitAct → ℕ
connection_of (Entered conn link wait deadline) = conn
connection_of (Again conn wait deadline) = conn
connection_of (Left conn) = conn

pub foreign_act_keeps_call : (c : ℕ) (act : WaitAct) (acts other : List WaitAct) → connection_of act ≢ c → SameCall c acts other
    → SameCall c (act ∷ acts) other
foreign_act_keeps_call c (Entered conn named wait last) acts other ne same = search (ne_eqb conn c ne)
foreign_act_keeps_call c (Again conn wait last) acts other ne same = search (ne_eqb conn c ne)
foreign_act_keeps_call c (Left conn) acts other ne same = search (ne_eqb conn c ne)

pub same_call_refl : (c : ℕ) (acts : List WaitAct) → SameCall c acts acts
same_call_refl c acts = record { wait = refl; until = refl; named = refl }

pub call_sym : (c : ℕ) (acts other : List WaitAct) → SameCall c acts other → SameCall c other acts
call_sym c acts other same = search sym

pub same_act_keeps_call : (c : ℕ) (act : WaitAct) (acts other : List WaitAct) → SameCall c acts other
    → SameCall c (act ∷ acts) (act ∷ other)
same_act_keeps_call c (Entered conn named wait last) acts other same = elim (cases_Bool (eqb conn c)) [
  | inl e ↦ record { wait = rw e refl; until = rw e refl; named = rw e refl }
  | inr e ↦ record { wait = rw e same.wait; until = rw e same.until; named = rw e same.named }
]
same_act_keeps_call c _ acts other same = search (same.wait, same.until, same.named)
