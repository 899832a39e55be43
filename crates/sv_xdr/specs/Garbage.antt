-- Reading the fields of arguments in order: if any of them can't be read, the arguments as a whole
-- are `Garbage`.
use Rattle.std.specs.Prelude.{Result, Ok, Err}
use Rattle.sv_xdr.specs.declared.fault.XdrFault.{XdrFault}
use Rattle.sv_xdr.specs.declared.garbage.Garbage.{Garbage}

-- the next step of a reading: `f` applied to the field that was read; `Garbage` if the field can't
-- be read
infixl 10 ◌>>=◌
abbrev pub ◌>>=◌ : {A B : Type 0} → Result A XdrFault → (A → Result B Garbage) → Result B Garbage
(Ok x) >>= f = f x
(Err fault) >>= f = Err (record {})
