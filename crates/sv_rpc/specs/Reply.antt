-- The fields of a reply before its result, and of a call before its arguments, as this server
-- writes them (RFC 5531, section 9).
use Rattle.std.specs.Prelude.{ℕ, List, [], ◌∷◌, ◌++◌}
use Rattle.sv_xdr.specs.Spelling.{Field, Unsigned, Opaque}
use Rattle.sv_rpc.specs.declared.reply.Reply.{Reply}
use Rattle.sv_rpc.specs.declared.reply.Reply.TheVariants.{Success, Mismatch, ProgUnavail, ProgMismatch, ProcUnavail, GarbageArgs}

-- no credential or no verifier: the flavor AUTH_NONE (0), with a body of length 0 (8.2)
abbrev pub no_auth : List Field
no_auth = Unsigned 0 ∷ Opaque [] ∷ []

-- the fields of a reply (message type 1) to a call that was accepted (reply status 0). `status`
-- says how the accepted call ended.
abbrev pub accepted : ℕ → ℕ → List Field
accepted xid status = Unsigned xid ∷ Unsigned 1 ∷ Unsigned 0 ∷ no_auth ++ Unsigned status ∷ []

-- The fields of a reply. A call under an RPC version other than 2 is denied (1) with RPC_MISMATCH
-- (0) and the lowest and the highest RPC version that are served, both 2.
abbrev pub reply_fields : ℕ → Reply → List Field
reply_fields xid Success = accepted xid 0
reply_fields xid ProgUnavail = accepted xid 1
reply_fields xid (ProgMismatch low high) = accepted xid 2 ++ Unsigned low ∷ Unsigned high ∷ []
reply_fields xid ProcUnavail = accepted xid 3
reply_fields xid GarbageArgs = accepted xid 4
reply_fields xid Mismatch = Unsigned xid ∷ Unsigned 1 ∷ Unsigned 1 ∷ Unsigned 0 ∷ Unsigned 2 ∷ Unsigned 2 ∷ []

-- the fields of a call before its arguments. The credential and the verifier are empty (AUTH_NONE).
abbrev pub call_fields : ℕ → ℕ → ℕ → ℕ → List Field
call_fields xid prog vers proc = Unsigned xid ∷ Unsigned 0 ∷ Unsigned 2 ∷ Unsigned prog ∷ Unsigned vers ∷ Unsigned proc ∷ no_auth ++ no_auth
