-- The effect of a record that was taken, or of a suspended call, as acts.
use Rattle.std.specs.Prelude.{ℕ, List, [], ◌∷◌, ◌++◌, map, Option, Some, None}
use Rattle.sv_rpc.specs.declared.reply.Reply.TheVariants.{Success}
use Rattle.sv_vxi.specs.Results.{Outcome, result_fields}
use Rattle.sv_history.specs.Act.{Act, ConnAct, DeviceAct, Replied, On, OnDevice}
use Rattle.sv_history.specs.Reply.{reply_record}
use Rattle.sv_history.specs.CallOutcome.{CallOutcome}

-- an effect of a call or record: acts of its connection, and acts of the device
pub record Effect : Type 0 where
  pub own : List ConnAct
  pub adds : List DeviceAct

-- the acts of an effect, the newest first: the acts of connection `c` come in front of the acts of
-- the device
abbrev pub acts_of : ℕ → Effect → List Act
acts_of c effect = map (On c) effect.own ++ map OnDevice effect.adds

-- the reply with this xid and this result
abbrev pub result_reply : ℕ → Outcome → List ℕ
result_reply xid result = reply_record xid Success (result_fields result)

-- the reply to a call with this xid, if the call has a result
abbrev pub replies : ℕ → Option Outcome → List ConnAct
replies xid (Some result) = Replied (result_reply xid result) ∷ []
replies xid None = []

-- the effect of a call with this xid and this outcome
abbrev pub call_effect : ℕ → CallOutcome → Effect
call_effect xid outcome = record { own = replies xid outcome.result; adds = outcome.adds }

-- the effect of a record that is answered with this reply, and does nothing else
abbrev pub only_reply : List ℕ → Effect
only_reply bytes = record { own = Replied bytes ∷ []; adds = [] }
