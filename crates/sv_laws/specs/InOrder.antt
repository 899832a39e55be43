-- Replies come in the order of the calls.
use Rattle.std.specs.Prelude.{◌≡◌, ℕ, List, [], ◌∷◌, length, Some, None, slice_get, ⊤}
use Rattle.std.specs.List.{filter_map}
use Rattle.sv_rpc.specs.Stream.{records_of}
use Rattle.sv_history.specs.declared.event.Config.{Config}
use Rattle.sv_history.specs.Event.{PlainEvent}
use Rattle.sv_history.specs.Act.{Act, ConnAct, Replied, of}
use Rattle.sv_history.specs.Connection.{acts_since_opening, stream}
use Rattle.sv_history.specs.History.{IsLogOf}
use Rattle.sv_laws.specs.Laws.{HasXidOf}

-- the replies on a connection since it opened, the newest first
abbrev pub replies : List ConnAct → List (List ℕ)
replies acts = filter_map (elim [ Replied bytes ↦ Some bytes | _ ↦ None ]) (acts_since_opening acts)

-- Each reply has the xid of the record that has its place: the first reply that of the first
-- record, the second reply that of the second record, and so on. The newest reply is first in the
-- list of replies.
abbrev pub AreInOrder : List (List ℕ) → List (List ℕ) → Type 0
AreInOrder records [] = ⊤
AreInOrder records (reply ∷ older) =
    (call : List ℕ) × (slice_get records (length older) ≡ Some call) × HasXidOf call reply × AreInOrder records older

-- The replies on a connection come in the order of the records that came on it: the k-th reply has
-- the xid of the k-th record.
abbrev pub InOrder : Type 0
InOrder = (config : Config) (history : List PlainEvent) (log : List Act) (c : ℕ) → IsLogOf config history log
    → AreInOrder (records_of (stream (of c log))) (replies (of c log))
