-- The suspended call that `explain` shows for a connection is the one that the acts determine.
use Rattle.std.proofs.Common.{◌≡◌, ℕ, List, Option, Some, None}
use Rattle.std.specs.Prelude.{MatchOption}
use Rattle.sv_links.specs.declared.waiting.Entry.{Entry}
use Rattle.sv_links.specs.Waiting.{WaitAct, waits, link, deadline}
use Rattle.sv_links.specs.Queue.{IsEntry}
use Rattle.sv_explain.specs.declared.shown.CallShown.{CallShown}
use Rattle.sv_explain.specs.Shown.{call_of}

-- The call that is shown for the queue's entry of a connection, or for no entry, is the one that
-- the acts determine.
pub call_told : (acts : List WaitAct) (c : ℕ) (found : Option Entry) (call : Option CallShown)
    → MatchOption found (waits c acts ≡ None) (λ entry. (entry.conn ≡ c) × IsEntry acts entry)
    → MatchOption found (call ≡ None) (λ entry. call ≡ call_of (Some entry.wait) entry.lid entry.deadline)
    → call ≡ call_of (waits c acts) (link c acts) (deadline c acts)
call_told acts c (Some entry) call (same, entered) is =
    rw (← same) (rw (entered.0, entered.1, entered.2) is)
call_told acts c None call none is = rw none is
