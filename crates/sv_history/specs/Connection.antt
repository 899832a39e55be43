-- What the acts of a connection determine. The definitions search and count the acts since the
-- connection was last opened or closed.
use Rattle.std.specs.Prelude.{ℕ, ◌+◌, ◌-◌, ◌==◌, ◌&&◌, ◌||◌, Bool, true, false, List, [], ◌∷◌, ◌++◌, length, drop, filter, Option, Some, None, is_none, is_some, slice_get, if◌then◌else◌}
use Rattle.std.specs.List.{concat, filter_map, list_any}
use Rattle.sv_logs.specs.Since.{since, last_given}
use Rattle.sv_rpc.specs.Record.{ends_overlong}
use Rattle.sv_rpc.specs.RecordBuf.{used_by}
use Rattle.sv_rpc.specs.Stream.{records_of, tail_of}
use Rattle.sv_rpc.specs.Limits.{capacity}
use Rattle.sv_links.specs.Channels.{ChannelAct, calls, waiting as channel_waiting}
use Rattle.sv_history.specs.declared.event.Role.{Role}
use Rattle.sv_history.specs.declared.event.Port.{Port}
use Rattle.sv_history.specs.declared.event.Port.TheVariants.{Conn, Intr}
use Rattle.sv_history.specs.Act.{Act, ConnAct, Opened, Piece, CallTaken, Faulted, Replied, BytesTaken, PortClosed, of}
use Rattle.sv_history.specs.Limits.{max_output}

-- if this act changes the connection's role: the new role. An opening gives the connection a role;
-- after a close the connection has no role.
abbrev pub opening : ConnAct → Option (Option Role)
opening = elim [ Opened role ↦ Some (Some role) | PortClosed ↦ Some None | _ ↦ None ]

-- the role with which the connection last opened; `None` if the connection isn't open
abbrev pub open_role : List ConnAct → Option Role
open_role = last_given opening None

-- the acts of a connection since it was last opened or closed
abbrev pub acts_since_opening : List ConnAct → List ConnAct
acts_since_opening = since (elim [ Opened role ∷ older ↦ true | PortClosed ∷ older ↦ true | _ ↦ false ])

-- the bytes of these pieces, joined from the oldest piece to the newest. In the list the newest
-- piece is first.
abbrev pub join_pieces : List (List ℕ) → List ℕ
join_pieces [] = []
join_pieces (piece ∷ pieces) = join_pieces pieces ++ piece

-- the sum of numbers
abbrev pub total : List ℕ → ℕ
total [] = 0
total (number ∷ numbers) = total numbers + number

-- all bytes that came on the connection since it opened
abbrev pub stream : List ConnAct → List ℕ
stream acts = join_pieces (filter_map (elim [ Piece bytes ↦ Some bytes | _ ↦ None ]) (acts_since_opening acts))

-- all bytes of the replies on the connection since it opened
abbrev pub bytes_sent : List ConnAct → List ℕ
bytes_sent acts = join_pieces (filter_map (elim [ Replied bytes ↦ Some bytes | _ ↦ None ]) (acts_since_opening acts))

-- how many bytes of replies the peer took since the connection opened
abbrev pub bytes_taken : List ConnAct → ℕ
bytes_taken acts = total (filter_map (elim [ BytesTaken count ↦ Some count | _ ↦ None ]) (acts_since_opening acts))

-- if this act changes which call is pending: the new pending call. A call that is taken is pending.
-- No call is pending after a reply, or after the act `Faulted`, which says that the record that was
-- taken isn't a call.
abbrev pub taking : ConnAct → Option (Option (List ℕ))
taking = elim [ CallTaken call ↦ Some (Some call) | Replied bytes ↦ Some None | Faulted ↦ Some None | _ ↦ None ]

-- the call that was taken and isn't answered yet
abbrev pub pending_call : List ConnAct → Option (List ℕ)
pending_call acts = last_given taking None (acts_since_opening acts)

-- whether a call was taken and isn't answered yet
abbrev pub is_busy : List ConnAct → Bool
is_busy acts = is_some (pending_call acts)

-- how many records of the connection are finished: those that were answered, and those that were
-- taken but aren't calls
abbrev pub records_ended : List ConnAct → ℕ
records_ended acts = length (filter (elim [ Replied bytes ↦ true | Faulted ↦ true | _ ↦ false ]) (acts_since_opening acts))

-- whether a record that isn't a call was taken
abbrev pub took_no_call : List ConnAct → Bool
took_no_call acts = list_any (elim [ Faulted ↦ true | _ ↦ false ]) (acts_since_opening acts)

-- whether the connection is open
abbrev pub is_open : List ConnAct → Bool
is_open acts = is_some (open_role acts)

-- the bytes of replies that the peer hasn't taken yet
abbrev pub bytes_left : List ConnAct → List ℕ
bytes_left acts = drop (bytes_taken acts) (bytes_sent acts)

-- the bytes that wait to be sent; none if the connection isn't open
abbrev pub waiting : List ConnAct → List ℕ
waiting acts = if is_open acts then bytes_left acts else []

-- the bytes that wait to be sent on a port; `channel_log` is the log of the interrupt channels
abbrev pub waiting_on : List ChannelAct → Port → List Act → List ℕ
waiting_on channel_log (Conn c) log = waiting (of c log)
waiting_on channel_log (Intr c) log = channel_waiting c channel_log

-- all bytes that were sent on a port since it was opened; `channel_log` is the log of the interrupt
-- channels
abbrev pub sent_on : List ChannelAct → Port → List Act → List ℕ
sent_on channel_log (Conn c) log = bytes_sent (of c log)
sent_on channel_log (Intr c) log = concat (calls c channel_log)

-- The call to take next: the first record that isn't answered. There is no call to take while a
-- call is pending, or if a record was taken that isn't a call.
abbrev pub next_call : List ConnAct → Option (List ℕ)
next_call acts = if took_no_call acts || is_busy acts then None else slice_get (records_of (stream acts)) (records_ended acts)

-- whether there is no call to take
abbrev pub is_idle : List ConnAct → Bool
is_idle acts = is_none (next_call acts)

-- whether the record at the end of the stream is too long. If so, the server stores no more bytes
-- of this connection.
abbrev pub is_overlong : List ConnAct → Bool
is_overlong acts = ends_overlong (tail_of (stream acts))

-- whether the connection is at fault and only waits to be closed: a record that isn't a call was
-- taken; or a record is too long, and all records before this record are finished
abbrev pub is_faulted : List ConnAct → Bool
is_faulted acts = took_no_call acts || (is_overlong acts && (records_ended acts == length (records_of (stream acts))))

-- how many bytes the connection can still store: a record uses room until it is answered
abbrev pub room : List ConnAct → ℕ
room acts =
    if is_open acts then capacity - used_by (drop (records_ended acts) (records_of (stream acts))) (tail_of (stream acts)) else 0

-- how many more bytes of replies the connection can store
abbrev pub free : List ConnAct → ℕ
free acts = max_output - length (bytes_left acts)
