-- The header of a call (RFC 5531, section 9): the relation between bytes and the header's fields,
-- and the function that reads the fields.
use Rattle.std.specs.Prelude.{◌≢◌, ℕ, ◌≤◌, List, [], ◌∷◌, length, Result, Ok, Err, ◌==◌, if◌then◌else◌}
use Rattle.sv_xdr.specs.declared.fault.XdrFault.{XdrFault}
use Rattle.sv_xdr.specs.Spelling.{Field, Unsigned, Opaque, BeginsAll}
use Rattle.sv_xdr.specs.Reader.{unsigned_at, opaque_at}
use Rattle.sv_rpc.specs.Limits.{max_auth}
use Rattle.sv_rpc.specs.declared.call.Call.{Call}
use Rattle.sv_rpc.specs.declared.call.CallFault.{CallFault}
use Rattle.sv_rpc.specs.declared.call.CallFault.TheVariants.{BadHeader, Version}

-- a call as plain data
pub record PlainCall : Type 0 where
  pub xid : ℕ
  pub prog : ℕ
  pub vers : ℕ
  pub proc : ℕ
  pub args : List ℕ

-- a `Call` of the code, as plain data
abbrev pub plain_call : Call → PlainCall
plain_call call = record { xid = call.xid; prog = call.prog; vers = call.vers; proc = call.proc; args = call.args.now }

-- a credential or a verifier (8.2): a flavor, and a body of at most 400 bytes. The server ignores
-- the contents of both.
pub record Auth : Type 0 where
  pub flavor : ℕ
  pub body : List ℕ

-- the fields of a call before its arguments, with message type 0 (a call) and version 2 of RPC
abbrev pub heading : PlainCall → Auth → Auth → List Field
heading call credential verifier =
    Unsigned call.xid ∷ Unsigned 0 ∷ Unsigned 2 ∷ Unsigned call.prog ∷ Unsigned call.vers ∷ Unsigned call.proc
    ∷ Unsigned credential.flavor ∷ Opaque credential.body ∷ Unsigned verifier.flavor ∷ Opaque verifier.body ∷ []

-- The bytes encode this call, with some credential and verifier.
abbrev pub IsCall : List ℕ → PlainCall → Type 0
IsCall bytes call = (credential verifier : Auth) × (length credential.body ≤ max_auth) × (length verifier.body ≤ max_auth)
    × BeginsAll bytes (heading call credential verifier) call.args

-- The bytes are a call with transaction number `xid` under an RPC version other than 2. Any bytes
-- may follow the version.
abbrev pub IsOtherVersion : List ℕ → ℕ → Type 0
IsOtherVersion bytes xid = (version : ℕ) × (after : List ℕ) × (version ≢ 2)
    × BeginsAll bytes (Unsigned xid ∷ Unsigned 0 ∷ Unsigned version ∷ []) after

-- What these bytes are. `Ok`: they encode this call. `Version`: they are a call under an RPC
-- version other than 2. `BadHeader`: they are neither.
abbrev pub CallIs : List ℕ → Result PlainCall CallFault → Type 0
CallIs bytes (Ok call) = IsCall bytes call
CallIs bytes (Err (Version xid)) = IsOtherVersion bytes xid
CallIs bytes (Err BadHeader) = ((call : PlainCall) → IsCall bytes call → ⊥) × ((xid : ℕ) → IsOtherVersion bytes xid → ⊥)

-- the next step of a reading: `f` applied to the field that was read; `BadHeader` if the field
-- can't be read
infixl 10 ◌>>=◌
abbrev pub ◌>>=◌ : {A B : Type 0} → Result A XdrFault → (A → Result B CallFault) → Result B CallFault
(Ok x) >>= f = f x
(Err fault) >>= f = Err BadHeader

-- the call with this xid, read from the bytes that follow the RPC version
unfoldable pub body_at : ℕ → List ℕ → Result PlainCall CallFault
body_at xid bytes = do
  prog ← unsigned_at bytes
  vers ← unsigned_at prog.1
  proc ← unsigned_at vers.1
  flavor ← unsigned_at proc.1
  credential ← opaque_at max_auth flavor.1
  kind ← unsigned_at credential.1
  verifier ← opaque_at max_auth kind.1
  Ok (record { xid = xid; prog = prog.0; vers = vers.0; proc = proc.0; args = verifier.1 })

-- the call that these bytes encode, or why they encode none; the fields are read from left to right
unfoldable pub call_at : List ℕ → Result PlainCall CallFault
call_at bytes = do
  xid ← unsigned_at bytes
  kind ← unsigned_at xid.1
  if kind.0 == 0 then (do
    version ← unsigned_at kind.1
    if version.0 == 2 then body_at xid.0 version.1 else Err (Version xid.0)) else Err BadHeader

-- the result of the code that reads a call, as plain data
abbrev pub plain_call_result : Result Call CallFault → Result PlainCall CallFault
plain_call_result (Ok call) = Ok (plain_call call)
plain_call_result (Err fault) = Err fault
