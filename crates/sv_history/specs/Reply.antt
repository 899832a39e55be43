-- A reply as it is sent: one record of one fragment (RFC 5531, sections 9 and 11).
use Rattle.std.specs.Prelude.{ℕ, true, List, ◌++◌, map}
use Rattle.std.specs.List.{concat}
use Rattle.sv_xdr.specs.Spelling.{Field, spelling}
use Rattle.sv_rpc.specs.declared.reply.Reply.{Reply}
use Rattle.sv_rpc.specs.Record.{fragment}
use Rattle.sv_rpc.specs.Reply.{reply_fields}

-- the bytes of a reply: its header, then the fields of the result
abbrev pub reply_record : ℕ → Reply → List Field → List ℕ
reply_record xid reply fields = fragment true (concat (map spelling (reply_fields xid reply ++ fields)))
