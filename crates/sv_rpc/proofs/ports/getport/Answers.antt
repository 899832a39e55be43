use Rattle.std.proofs.Common.{◌≡◌, rules, ℕ, List, Result, Ok, Err, subst, sym}
use Rattle.std.proofs.lemmas.Result.{err_from_is_err_and}
use Rattle.sv_xdr.specs.declared.fault.XdrFault.{XdrFault}
use Rattle.sv_xdr.specs.Spelling.{Unsigned, Begins}
use Rattle.sv_rpc.specs.Ports.{Mapping, port_at}
use Rattle.sv_rpc.proofs.ports.getport.Goals as goal

-- Equal bytes begin with the same field.
begins_at : (n : ℕ) {x y after : List ℕ} → x ≡ y → Begins y (Unsigned n) after → Begins x (Unsigned n) after
begins_at n {after} e h = subst (λ (l : List ℕ). Begins l (Unsigned n) after) (sym e) h

-- A field that can't be read isn't encoded there.
not_read : (fault : XdrFault) (n : ℕ) → (let r : Result ℕ XdrFault = Err fault in r) ≡ Ok n → ⊥
not_read fault n e = cc

pub returns-in_err-prot-clause-answer : goal.returns-in_err-prot-clause-answer
returns-in_err-prot-clause-answer c =
    let p = err_from_is_err_and c.from_residual-in_err-prot.result c.from_residual-in_err-prot.ensures.1 in
    rw p.1 (λ m after h.
    let prog = c.u32.ensures.only m.prog h.0 (begins_at m.prog c.new-reader.ensures h.1) in
    let vers = c.u32-2.ensures.only m.vers h.2.0 (begins_at m.vers prog.1 h.2.1) in
    not_read _ _ (c.in_err-prot.ensures.only m.prot h.2.2.0 (begins_at m.prot vers.1 h.2.2.1)).0)

pub returns-in_err-_port-clause-answer : goal.returns-in_err-_port-clause-answer
returns-in_err-_port-clause-answer c =
    let p = err_from_is_err_and c.from_residual-in_err-_port.result c.from_residual-in_err-_port.ensures.1 in
    rw p.1 (λ m after h.
    let prog = c.u32.ensures.only m.prog h.0 (begins_at m.prog c.new-reader.ensures h.1) in
    let vers = c.u32-2.ensures.only m.vers h.2.0 (begins_at m.vers prog.1 h.2.1) in
    let prot = c.u32-3.ensures.only m.prot h.2.2.0 (begins_at m.prot vers.1 h.2.2.1) in
    not_read _ _ (c.in_err-_port.ensures.only m.port h.2.2.2.0 (begins_at m.port prot.1 h.2.2.2.1)).0)

pub returns-clause-answer : goal.returns-clause-answer
returns-clause-answer c =
    let m : Mapping = record { prog = c.in_ok-prog.prog; vers = c.in_ok-vers.vers; prot = c.in_ok-prot.prot; port = c.in_ok-_port._port } in
    (m, c.u32-4.new.self, search rules, c.port_of.ensures)

pub returns-clause-exact : goal.returns-clause-exact
unfolding port_at
returns-clause-exact c = search rules
