-- What a printer did with a text: its writer accepted the whole text, or failed and accepted a
-- prefix of the text. After that, the writer is given no more bytes.
use Rattle.std.specs.Prelude.{◌≡◌, ℕ, Bool, true, false, List, Option}
use Rattle.std.specs.Io.KnownBytes.{Appends}
use Rattle.sv_print.specs.TakenByWriter.{IsFront}

-- With the text the contents of the writer, and whether it has failed, become these.
abbrev pub Prints : Option (List ℕ) → Bool → Option (List ℕ) → Bool → List ℕ → Type 0
Prints old true new failed text = (failed ≡ true) × (new ≡ old)
Prints old false new false text = Appends old new text
Prints old false new true text = (part : List ℕ) × IsFront part text × Appends old new part
