use Rattle.std.proofs.Common.{rules, refl, pos, ◌<◌, List, [], ◌∷◌, length, ℕ, subst}
use Rattle.sv_xdr.specs.Spelling.{spelling, Signed, Opaque}
use Rattle.sv_xdr.specs.Writer.{Appends, Writes}
use Rattle.sv_xdr.proofs.Appended.{each_stops_at_fault, each_first, each_last}
use Rattle.sv_vxi.specs.ErrorCode.{unless_error}
use Rattle.sv_vxi.specs.Reason.{reason_number}
use Rattle.sv_vxi.specs.Results.{error_field}
use Rattle.sv_vxi.proofs.results.write_result.Goals as goal

pub returns-then-is_err-clause-same_buffer : goal.returns-then-is_err-clause-same_buffer
returns-then-is_err-clause-same_buffer c = refl

pub returns-then-is_err-clause-too_long : goal.returns-then-is_err-clause-too_long
returns-then-is_err-clause-too_long c = λ _. (refl, record { text = refl; rest = refl })

pub returns-in_err-i32-in-Read-2-clause-writes : goal.returns-in_err-i32-in-Read-2-clause-writes
returns-in_err-i32-in-Read-2-clause-writes c =
    rw c.in-Read.is (λ fits. search (rules, each_stops_at_fault, each_first, c.in_ok-i32-in-Read.ensures.exact))

pub returns-in_ok-i32-in-Read-2-clause-writes : goal.returns-in_ok-i32-in-Read-2-clause-writes
returns-in_ok-i32-in-Read-2-clause-writes c = rw c.in-Read.is (λ fits.
    let error = spelling (error_field c.in-Read.error) in
    let reason = spelling (Signed (unless_error c.in-Read.error (pos (reason_number c.in-Read.reason)) (pos 0))) in
    let text : List ℕ = unless_error c.in-Read.error c.in-Read.bytes.now [] in
    let first : Appends error c.args.writer.now c.i32-in-Read.new.self = search (rules, c.in_ok-i32-in-Read.ensures.exact) in
    let second : Appends reason c.i32-in-Read.new.self c.i32-in-Read-2.new.self = search (rules, c.in_ok-i32-in-Read-2.ensures.exact) in
    let last : Writes (spelling (Opaque text)) c.opaque.result c.i32-in-Read-2.new.self c.opaque.new.self =
    subst (λ (l : List ℕ). length l < 4294967296 → Writes (spelling (Opaque l)) c.opaque.result c.i32-in-Read-2.new.self c.opaque.new.self)
    (rw c.in-Read.is at (c.data-data.ensures)) c.opaque.ensures.exact fits in
    each_first error (reason ∷ spelling (Opaque text) ∷ []) c.opaque.result c.args.writer.now c.i32-in-Read.new.self c.opaque.new.self first
    (each_first reason (spelling (Opaque text) ∷ []) c.opaque.result c.i32-in-Read.new.self c.i32-in-Read-2.new.self c.opaque.new.self
    second (each_last (spelling (Opaque text)) c.opaque.result c.i32-in-Read-2.new.self c.opaque.new.self last)))
