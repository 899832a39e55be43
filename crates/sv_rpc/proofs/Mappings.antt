-- GETPORT's answer is the one that the encoding of its arguments requires.
use Rattle.std.proofs.Common.{◌≡◌, ℕ, List, Result, Ok, Err, refl, sym, ◌∙◌}
use Rattle.sv_xdr.specs.declared.fault.XdrFault.{XdrFault}
use Rattle.sv_xdr.specs.declared.garbage.Garbage.{Garbage}
use Rattle.sv_xdr.specs.Garbage.{◌>>=◌}
use Rattle.sv_xdr.specs.Spelling.{Unsigned, Begins, BeginsAll}
use Rattle.sv_xdr.specs.Reader.{unsigned_at}
use Rattle.sv_xdr.proofs.Fields.{IsBytes, bytes_after, unsigned_reads, unsigned_takes}
use Rattle.sv_rpc.specs.declared.ports.Ports.{Ports}
use Rattle.sv_rpc.specs.Ports.{Mapping, mapping_fields, port_of, PortIs, port_at}

-- Arguments that encode a mapping are answered with the mapping's port.
mapping_reads : (ports : Ports) (args after : List ℕ) (m : Mapping) → BeginsAll args (mapping_fields m) after
    → port_at ports args ≡ Ok (port_of ports m)
unfolding port_at
mapping_reads ports args after m prog =
    let vers = prog.2 in
    let prot = vers.2 in
    let port = prot.2 in
    rw (
      unsigned_reads args prog.0 m.prog prog.1,
      unsigned_reads prog.0 vers.0 m.vers vers.1,
      unsigned_reads vers.0 prot.0 m.prot prot.1,
      unsigned_reads prot.0 port.0 m.port port.1,
    ) refl

-- If reading succeeds, the next field is an unsigned integer, and the rest of the reading follows.
step : {P : Type 0} (bytes : List ℕ) (f : ℕ × List ℕ → Result ℕ Garbage) (port : ℕ) → IsBytes bytes → (unsigned_at bytes >>= f) ≡ Ok port
    → ((n : ℕ) (after : List ℕ) → Begins bytes (Unsigned n) after → IsBytes after → f (n, after) ≡ Ok port → P) → P
step {P = P} bytes f port fits e then = took (unsigned_at bytes) refl e
  where
    took : (r : Result (ℕ × List ℕ) XdrFault) → unsigned_at bytes ≡ r → (r >>= f) ≡ Ok port → P
    took (Ok x) is e1 =
        let b = unsigned_takes bytes x.1 x.0 fits is in
        then x.0 x.1 b (bytes_after (Unsigned x.0) bytes x.1 fits b) e1
    took (Err fault) is e1 = absurd cc

-- An answered port is that of a mapping which the arguments encode.
port_takes : (ports : Ports) (args : List ℕ) (port : ℕ) → IsBytes args → port_at ports args ≡ Ok port → PortIs ports args (Ok port)
unfolding port_at
port_takes ports args port fits e =
    step args _ port fits e (λ prog l1 b1 fits1 e1.
    step l1 _ port fits1 e1 (λ vers l2 b2 fits2 e2.
    step l2 _ port fits2 e2 (λ prot l3 b3 fits3 e3.
    step l3 _ port fits3 e3 (λ unused l4 b4 fits4 e4.
    (record { prog = prog; vers = vers; prot = prot; port = unused }, l4, (l1, b1, (l2, b2, (l3, b3, (l4, b4, refl)))), cc)))))

-- For any arguments, the answer is the one that the definition requires.
pub port_is : (ports : Ports) (args : List ℕ) → IsBytes args → PortIs ports args (port_at ports args)
port_is ports args fits = outcome (port_at ports args) refl
  where
    outcome : (r : Result ℕ Garbage) → port_at ports args ≡ r → PortIs ports args r
    outcome (Ok port) is = port_takes ports args port fits is
    outcome (Err garbage) is = λ m after h.
        absurd (let both = sym is ∙ mapping_reads ports args after m h in cc)
