-- The results of the calls (VXI-11 revision 1.0, sections B.5 and B.6).
use Rattle.std.specs.Prelude.{ℕ, ℤ, pos, List, [], ◌∷◌}
use Rattle.sv_xdr.specs.Spelling.{Field, Unsigned, Signed, Opaque}
use Rattle.sv_vxi.specs.declared.error_code.ErrorCode.{ErrorCode}
use Rattle.sv_vxi.specs.declared.reason.Reason.{Reason}
use Rattle.sv_vxi.specs.declared.results.VxiResult.{VxiResult}
use Rattle.sv_vxi.specs.declared.results.VxiResult.TheVariants as results
use Rattle.sv_vxi.specs.ErrorCode.{error_number, unless_error}
use Rattle.sv_vxi.specs.Reason.{reason_number}

-- the result of a call as plain data, with a variant for each form of result
pub data Outcome : Type 0 where
  Link : (error : ErrorCode) (lid : ℤ) (abort_port max_recv_size : ℕ) → Outcome
  Size : (error : ErrorCode) (size : ℕ) → Outcome
  Read : (error : ErrorCode) (reason : Reason) (bytes : List ℕ) → Outcome
  Status : (error : ErrorCode) (stb : ℕ) → Outcome
  Plain : (error : ErrorCode) → Outcome
  Data : (error : ErrorCode) (bytes : List ℕ) → Outcome

-- the first field of a result: the number of its error
abbrev pub error_field : ErrorCode → Field
error_field error = Signed (pos (error_number error))

-- The fields of a result, in order. If there is an error, all other fields are 0 or empty.
abbrev pub result_fields : Outcome → List Field
result_fields (Link error lid abort_port max_recv_size) =
    error_field error ∷ Signed (unless_error error lid (pos 0)) ∷ Unsigned (unless_error error abort_port 0)
    ∷ Unsigned (unless_error error max_recv_size 0) ∷ []
result_fields (Size error size) = error_field error ∷ Unsigned (unless_error error size 0) ∷ []
result_fields (Read error reason bytes) = error_field error ∷ Signed (unless_error error (pos (reason_number reason)) (pos 0))
    ∷ Opaque (unless_error error bytes []) ∷ []
result_fields (Status error stb) = error_field error ∷ Unsigned (unless_error error stb 0) ∷ []
result_fields (Plain error) = error_field error ∷ []
result_fields (Data error bytes) = error_field error ∷ Opaque (unless_error error bytes []) ∷ []

-- a result of the code, as plain data
abbrev pub plain_result : VxiResult → Outcome
plain_result (results.Link error lid abort_port max_recv_size) = Link error lid abort_port max_recv_size
plain_result (results.Size error size) = Size error size
plain_result (results.Read error reason bytes) = Read error reason bytes.now
plain_result (results.Status error stb) = Status error stb
plain_result (results.Plain error) = Plain error
plain_result (results.Data error bytes) = Data error bytes.now

-- the data of a result; empty if the result has no data or reports an error
abbrev pub data_of : Outcome → List ℕ
data_of (Read error reason bytes) = unless_error error bytes []
data_of (Data error bytes) = unless_error error bytes []
data_of _ = []

-- Two results have the same form: a call that can be answered with one can be answered with the
-- other.
abbrev pub SameShape : Outcome → Outcome → Type 0
SameShape (Link error lid abort_port max_recv_size) (Link error' lid' abort_port' max_recv_size') = Unit {0}
SameShape (Size error size) (Size error' size') = Unit {0}
SameShape (Read error reason bytes) (Read error' reason' bytes') = Unit {0}
SameShape (Status error stb) (Status error' stb') = Unit {0}
SameShape (Plain error) (Plain error') = Unit {0}
SameShape (Data error bytes) (Data error' bytes') = Unit {0}
SameShape _ _ = ⊥
