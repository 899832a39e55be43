-- A method that is called for a port changes the socket with the port's number.
use Rattle.std.proofs.Common.{◌≡◌, ℕ, ◌≤◌, List, length, None, refl, sym}
use Rattle.std.proofs.lemmas.List.{set_past, get_or_past}
use Rattle.std.specs.Prelude.{Option, slice_index_or, slice_set}
use Rattle.sv_serve.specs.declared.wire.Answer.{Answer}
use Rattle.sv_serve.specs.declared.wire.Answer.TheVariants.{Failed}
use Rattle.sv_net.specs.Sockets.{Does, At}

pub at_index : {S A : Type 0} (items : List (Option S)) (n m : ℕ) (step : S → S → Type 0) (answer : Answer A) (old new : Option S) → m ≡ n
    → old ≡ slice_index_or items m None → Does step answer old new → At n step answer items (slice_set items m new)
at_index items n m step answer old new same is does =
    let found : old ≡ slice_index_or items n None = rw (sym same) is in
    (new, rw (sym found) does, rw same refl)

-- There is no socket beyond the last number, so the method returns `Failed`.
pub at_no_index : {S A : Type 0} (items : List (Option S)) (n : ℕ) (step : S → S → Type 0) (answer : Answer A)
    → length items ≤ n → answer ≡ Failed → At n step answer items items
at_no_index items n step answer past failed = (None, rw (get_or_past items n None past) (failed, refl), sym (set_past items n None past))
