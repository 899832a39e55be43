-- The call that reports a service request (VXI-11 revision 1.0, section B.6, device_intr_srq; RFC
-- 5531, sections 9 and 11): one record of one fragment, to the program that create_intr_chan named,
-- with the handle of the link. It has no reply.
use Rattle.std.specs.Prelude.{ℕ, true, List, [], ◌∷◌, ◌++◌, map}
use Rattle.std.specs.List.{concat}
use Rattle.sv_xdr.specs.Spelling.{Opaque, spelling}
use Rattle.sv_rpc.specs.Record.{fragment}
use Rattle.sv_rpc.specs.Reply.{call_fields}
use Rattle.sv_links.specs.declared.request.Peer.{Peer}

-- the bytes of a call of device_intr_srq (procedure 30) with this xid and this handle, to this
-- program
abbrev pub request : ℕ → Peer → List ℕ → List ℕ
request xid peer handle =
    fragment true (concat (map spelling (call_fields xid peer.prog peer.vers 30 ++ Opaque handle ∷ [])))
