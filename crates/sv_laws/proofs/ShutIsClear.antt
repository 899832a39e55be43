-- Nothing happens on a connection that isn't open: no bytes come, and no call is pending.
use Rattle.std.proofs.Common.{◌≡◌, ℕ, true, false, List, [], ◌∷◌, Some, None, refl, sym, ap, ◌∙◌}
use Rattle.std.specs.Prelude.{is_some}
use Rattle.sv_history.specs.Act.{ConnAct, Opened, Piece, CallTaken, Faulted, Replied, BytesTaken, PortClosed, of}
use Rattle.sv_history.specs.Connection.{is_open, open_role, pending_call}
use Rattle.sv_laws.proofs.Brought.{IsClear, ShutIsClear}
use Rattle.sv_laws.proofs.EveryLog.EachAct.{WerePossible, acts_were_possible}

pub clear_has_no_pending_call : (acts : List ConnAct) → IsClear acts → pending_call acts ≡ None
clear_has_no_pending_call [] h = refl
clear_has_no_pending_call (PortClosed ∷ acts) h = refl
clear_has_no_pending_call (_ ∷ acts) h = absurd h

not_open : {A : Type 0} (acts : List ConnAct) → open_role acts ≡ None → is_open acts ≡ true → A
not_open {A} acts shut opened = absurd (let z : false ≡ true = sym (ap is_some shut) ∙ opened in cc)

not_called : {A : Type 0} (acts : List ConnAct) (call : List ℕ) → IsClear acts → pending_call acts ≡ Some call → A
not_called {A} acts call clear busy = absurd (let z : None ≡ Some call = sym (clear_has_no_pending_call acts clear) ∙ busy in cc)

all_clear : (acts : List ConnAct) → WerePossible acts → open_role acts ≡ None → IsClear acts
all_clear [] all shut = tt
all_clear (PortClosed ∷ acts) all shut = tt
all_clear (Opened role ∷ acts) all shut = absurd cc
all_clear (Piece bytes ∷ acts) all shut = not_open acts shut all.0.0
all_clear (CallTaken call ∷ acts) all shut = not_open acts shut all.0.0
all_clear (BytesTaken count ∷ acts) all shut = not_open acts shut all.0
all_clear (Faulted ∷ acts) all shut = not_called acts all.0.0 (all_clear acts all.1 shut) all.0.1
all_clear (Replied reply ∷ acts) all shut = not_called acts all.0.0 (all_clear acts all.1 shut) all.0.1

pub shut_is_clear : ShutIsClear
shut_is_clear config history log c was = all_clear (of c log) (acts_were_possible config history log c was)
