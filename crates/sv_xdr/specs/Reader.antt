-- How a field is read from the front of bytes. The result is the field's value and the bytes after
-- it, or the first fault.
use Rattle.std.specs.Prelude.{◌≡◌, ℕ, ◌+◌, ℤ, Bool, true, false, List, length, take, drop, Result, Ok, Err, nat_lt, ◌==◌, if◌then◌else◌}
use Rattle.std.specs.List.{list_all}
use Rattle.std.specs.Int.{w32, from_be_bytes, cast_signed}
use Rattle.sv_xdr.specs.declared.fault.XdrFault.{XdrFault}
use Rattle.sv_xdr.specs.declared.fault.XdrFault.TheVariants.{Short, BadPad, BadBool, TooLong}
use Rattle.sv_xdr.specs.Spelling.{pad_len}

-- the next step of a reading: `f` applied to the value that the previous step returned; if that
-- step failed, its fault
infixl 10 ◌>>=◌
abbrev pub ◌>>=◌ : {A B : Type 0} → Result A XdrFault → (A → Result B XdrFault) → Result B XdrFault
(Ok x) >>= f = f x
(Err fault) >>= f = Err fault

-- A function of the code read a field from the bytes `old`. It returned this `Result`, and the
-- bytes `new` remain to be read. The `Result` and `new` agree with `read`, which a function of this
-- file returns for `old`. After a fault, all bytes of `old` remain. `view` turns a value of the
-- code into a value of the specification.
abbrev pub IsRead : {X Y : Type 0} → (X → Y) → Result X XdrFault → List ℕ → List ℕ → Result (Y × List ℕ) XdrFault → Type 0
IsRead view (Ok x) old new read = read ≡ Ok (view x, new)
IsRead view (Err fault) old new read = (read ≡ Err fault) × (new ≡ old)

-- an unsigned integer at the front of bytes, and the bytes after it
abbrev pub unsigned_at : List ℕ → Result (ℕ × List ℕ) XdrFault
unsigned_at bytes = if nat_lt (length bytes) 4 then Err Short else Ok (from_be_bytes w32 (take 4 bytes), drop 4 bytes)

-- a signed integer at the front of bytes, and the bytes after it
unfoldable pub signed_at : List ℕ → Result (ℤ × List ℕ) XdrFault
signed_at bytes = do
  n ← unsigned_at bytes
  Ok (cast_signed w32 n.0, n.1)

-- a boolean at the front of bytes, and the bytes after it
unfoldable pub boolean_at : List ℕ → Result (Bool × List ℕ) XdrFault
boolean_at bytes = do
  n ← unsigned_at bytes
  if n.0 == 0 then Ok (false, n.1) else (if n.0 == 1 then Ok (true, n.1) else Err BadBool)

-- n bytes of data at the front of bytes, and the bytes after the data and its padding
unfoldable pub padded_at : ℕ → List ℕ → Result (List ℕ × List ℕ) XdrFault
padded_at n bytes =
    if nat_lt (length bytes) (n + pad_len n) then Err Short
    else (if list_all (λ byte. byte == 0) (take (pad_len n) (drop n bytes)) then Ok (
      take n bytes,
      drop (n + pad_len n) bytes,
    ) else Err BadPad)

-- opaque data of at most `max` bytes at the front of bytes, and the bytes after the data and its
-- padding
unfoldable pub opaque_at : ℕ → List ℕ → Result (List ℕ × List ℕ) XdrFault
opaque_at max bytes = do
  n ← unsigned_at bytes
  if nat_lt max n.0 then Err TooLong else padded_at n.0 n.1
