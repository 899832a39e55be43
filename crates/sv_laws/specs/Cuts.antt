-- Laws about cuts: how bytes are split into pieces, records into fragments (RFC 5531, section 11:
-- record marking), and text into writes (VXI-11 revision 1.0, section B.6, device_write). Under the
-- premises below, the bytes that are sent don't depend on how the input is split; only the replies
-- to the writes differ.
use Rattle.std.specs.Prelude.{◌≡◌, ◌≢◌, ◌↔◌, ℕ, pos, Bool, true, false, List, [], ◌∷◌, ◌++◌, length, drop, filter, map, Some}
use Rattle.std.specs.Int.{bit_at}
use Rattle.std.specs.List.{AllByRecursion}
use Rattle.sv_rpc.specs.Stream.{reading, records_of, tail_of}
use Rattle.sv_vxi.specs.declared.error_code.ErrorCode.TheVariants.{NoError}
use Rattle.sv_vxi.specs.Arguments.{DeviceWrite, OnLink}
use Rattle.sv_vxi.specs.Results.{Size}
use Rattle.sv_links.specs.declared.waiting.Wait.TheVariants.{Input as ForInput, Response as ForResponse}
use Rattle.sv_links.specs.Waiting.{WaitAct, waits}
use Rattle.sv_history.specs.declared.event.Config.{Config}
use Rattle.sv_history.specs.declared.event.Port.{Port}
use Rattle.sv_history.specs.declared.event.Port.TheVariants.{Conn}
use Rattle.sv_history.specs.Event.{PlainEvent, Bytes, Turn}
use Rattle.sv_history.specs.Act.{Act, ConnAct, Piece, CallTaken, Replied, of, device_acts, wait_acts}
use Rattle.sv_history.specs.Connection.{records_ended, join_pieces, stream}
use Rattle.sv_history.specs.Effect.{result_reply}
use Rattle.sv_history.specs.Request.{core_call}
use Rattle.sv_history.specs.History.{IsLogOf}
use Rattle.sv_laws.specs.Adding.{Sends, Adds}

-- ---- writes

-- The event is Bytes on connection `c`, or a Turn of this connection.
abbrev pub IsFeeding : ℕ → PlainEvent → Type 0
IsFeeding c = elim [ Bytes d piece ↦ d ≡ c | Turn d ↦ d ≡ c | _ ↦ ⊥ ]

-- the acts of a connection without the pieces of bytes that came
abbrev pub without_pieces : List ConnAct → List ConnAct
without_pieces = filter (elim [ Piece bytes ↦ false | _ ↦ true ])

-- The newest acts of a connection are a device_write of these bytes on a link, with or without the
-- END flag, and the reply to it. The reply has no error, and says that all these bytes were
-- written.
abbrev pub IsWritten : ℕ → List ℕ → Bool → List ConnAct → List ConnAct → Type 0
IsWritten lid bytes ended before acts = (xid io_timeout lock_timeout flags : ℕ) × (call : List ℕ)
    × (core_call call ≡ Some (record { xid = xid; arguments = OnLink (pos lid) (DeviceWrite io_timeout lock_timeout flags bytes) }))
    × ((bit_at flags 3 ≡ 1) ↔ (ended ≡ true)) × (acts ≡ Replied (result_reply xid (Size NoError (length bytes))) ∷ CallTaken call ∷ before)

-- These events follow the history `past`, and each is Bytes on connection `c` or a Turn of this
-- connection. The events lead from the log `before` to `log`, and leave no complete record to take
-- on the connection.
pub record Feeds (c : ℕ) (config : Config) (past events : List PlainEvent) (before log : List Act) : Type 0 where
  pub feeding : AllByRecursion (IsFeeding c) events
  pub was : IsLogOf config past before
  pub is_log : IsLogOf config (events ++ past) log
  pub none_left : drop (records_ended (of c log)) (records_of (stream (of c log))) ≡ []

-- No suspended call is a device_write that waits until the device accepts it, or a device_read that
-- waits until the device answers it.
abbrev pub NoneWaits : List WaitAct → Type 0
NoneWaits acts = (c : ℕ) → (waits c acts ≢ Some ForInput) × (waits c acts ≢ Some ForResponse)

-- Two lists of events that can follow the history `past`: `one` has a single write of the bytes x
-- ++ y; `two` has a write of x without the END flag, and then a write of y. Both lists leave the
-- same unfinished record. No byte of x is a new line, and before these events no read or write was
-- suspended (`NoneWaits`).
pub record AreCut (c lid : ℕ) (x y : List ℕ) (ended : Bool) (config : Config) (past one two : List PlainEvent) : Type 0 where
  pub before : List Act
  pub whole : List Act
  pub cut : List Act
  pub middle : List ConnAct
  pub no_line : AllByRecursion (λ b. b ≢ 10) x
  pub none_waits : NoneWaits (wait_acts (device_acts before))
  pub one_feeds : Feeds c config past one before whole
  pub two_feeds : Feeds c config past two before cut
  pub same_tail : tail_of (stream (of c whole)) ≡ tail_of (stream (of c cut))
  pub writes_both : IsWritten lid (x ++ y) ended (without_pieces (of c before)) (without_pieces (of c whole))
  pub writes_first : IsWritten lid x false (without_pieces (of c before)) middle
  pub writes_second : IsWritten lid y ended middle (without_pieces (of c cut))

-- One history ends with a single write; a second history ends with this write cut into two writes
-- (`AreCut`). The same further events add the same bytes to each port in both histories, if none of
-- these events is refused. The single write and the two writes also add the same bytes to each
-- port, except to the connection on which the writes come.
abbrev pub WritesCut : Type 0
WritesCut = (c lid : ℕ) (x y : List ℕ) (ended : Bool) (config : Config) (past one two events : List PlainEvent) (log other : List Act)
    → AreCut c lid x y ended config past one two → IsLogOf config (events ++ (one ++ past)) log
    → IsLogOf config (events ++ (two ++ past)) other → (port : Port) (bytes : List ℕ)
    → (Adds port config (one ++ past) events bytes ↔ Adds port config (two ++ past) events bytes)
    × (port ≢ Conn c → Adds port config past one bytes ↔ Adds port config past two bytes)

-- ---- pieces and fragments

-- Two histories differ only in how adjacent bytes on a connection are split into pieces, and how
-- the records of these bytes are split into fragments. Up to the end of these bytes, the
-- connection's streams in both histories have the same records and the same unfinished record.
pub data Recut (config : Config) : List PlainEvent → List PlainEvent → Type 0 where
  Nothing : Recut config [] []
  Same : {past other : List PlainEvent} (event : PlainEvent) → Recut config past other → Recut config (event ∷ past) (event ∷ other)
  Pieces : {past other : List PlainEvent} (c : ℕ) (pieces others : List (List ℕ)) (log : List Act) → IsLogOf config past log
      → reading (stream (of c log) ++ join_pieces pieces) ≡ reading (stream (of c log) ++ join_pieces others) → Recut config past other
      → Recut config (map (Bytes c) pieces ++ past) (map (Bytes c) others ++ other)

-- If two histories differ only in how bytes are split into pieces, and records into fragments
-- (`Recut`), they send the same bytes on each port.
abbrev pub RecordsCut : Type 0
RecordsCut = (config : Config) (history other : List PlainEvent) (log also : List Act) → Recut config history other
    → IsLogOf config history log → IsLogOf config other also → (port : Port) (bytes : List ℕ)
    → Sends port config history bytes ↔ Sends port config other bytes
