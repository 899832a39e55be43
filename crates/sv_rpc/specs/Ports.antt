-- GETPORT of the port mapper, version 2 (RFC 1833, section 3).
use Rattle.std.specs.Prelude.{◌≡◌, ℕ, ◌&&◌, ◌==◌, List, [], ◌∷◌, Result, Ok, Err, if◌then◌else◌}
use Rattle.sv_xdr.specs.Spelling.{Field, Unsigned, BeginsAll}
use Rattle.sv_xdr.specs.Reader.{unsigned_at}
use Rattle.sv_xdr.specs.Garbage.{◌>>=◌}
use Rattle.sv_rpc.specs.declared.ports.Ports.{Ports}
use Rattle.sv_xdr.specs.declared.garbage.Garbage.{Garbage}

-- the arguments of GETPORT: a program, its version, a protocol, and a port, which is ignored
pub record Mapping : Type 0 where
  pub prog : ℕ
  pub vers : ℕ
  pub prot : ℕ
  pub port : ℕ

-- the arguments of GETPORT as XDR fields, in order
abbrev pub mapping_fields : Mapping → List Field
mapping_fields m = Unsigned m.prog ∷ Unsigned m.vers ∷ Unsigned m.prot ∷ Unsigned m.port ∷ []

-- the port in the reply: the core channel's for program 0x0607AF, the abort channel's for program
-- 0x0607B0, each at version 1 over TCP (protocol 6); 0 for anything else
abbrev pub port_of : Ports → Mapping → ℕ
port_of ports m =
    if (m.prog == 395183) && ((m.vers == 1) && (m.prot == 6)) then ports.core
    else (if (m.prog == 395184) && ((m.vers == 1) && (m.prot == 6)) then ports.abort else 0)

-- This is the answer to a GETPORT call with these bytes as arguments. Bytes after the arguments are
-- ignored. If the arguments can't be read from the bytes, the answer is `Garbage`.
abbrev pub PortIs : Ports → List ℕ → Result ℕ Garbage → Type 0
PortIs ports args (Ok port) = (m : Mapping) × (after : List ℕ) × BeginsAll args (mapping_fields m) after × (port ≡ port_of ports m)
PortIs ports args (Err garbage) = (m : Mapping) (after : List ℕ) → BeginsAll args (mapping_fields m) after → ⊥

-- the answer to a GETPORT call: the arguments are read from these bytes, from left to right
unfoldable pub port_at : Ports → List ℕ → Result ℕ Garbage
port_at ports args = do
  prog ← unsigned_at args
  vers ← unsigned_at prog.1
  prot ← unsigned_at vers.1
  port ← unsigned_at prot.1
  Ok (port_of ports (record { prog = prog.0; vers = vers.0; prot = prot.0; port = port.0 }))
