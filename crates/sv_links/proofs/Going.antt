-- The sizes of queued calls while the peer takes bytes from the first one on.
use Rattle.std.proofs.Common.{◌≡◌, ℕ, ◌-◌, ◌<◌, ◌≤◌, List, [], ◌∷◌, length, drop, Some, None, refl, ap}
use Rattle.std.specs.Prelude.{slice_get, slice_set}
use Rattle.std.specs.List.{refill}
use Rattle.std.proofs.lemmas.Bool.{lt-ltb, le-ltb}
use Rattle.std.proofs.lemmas.List.{take_at}
use Rattle.sv_links.specs.ChannelRepresentation.{left_in}

-- The peer takes a part of the first call.
pub first_call_taken_partly : (sizes lent : List ℕ) (left size : ℕ) → lent ≡ sizes → Some size ≡ slice_get sizes 0 → left < size
    → refill (length sizes) sizes (slice_set lent 0 (size - left)) ≡ left_in left sizes
first_call_taken_partly [] lent left size same first h = cc
first_call_taken_partly (x ∷ sizes) lent left size same first h =
    let is : size ≡ x = cc in
    rw (same, is, lt-ltb left x (rw is at h))
    (ap (λ (rest : List ℕ). (x - left) ∷ rest) (take_at sizes (drop (length sizes) sizes) (length sizes) refl))

-- The peer takes all of the first call.
pub first_call_taken : (sizes new : List ℕ) (left size : ℕ) → Some size ≡ slice_get sizes 0 → size ≤ left → new ≡ drop 1 sizes
    → left_in (left - size) new ≡ left_in left sizes
first_call_taken [] new left size first h rest = cc
first_call_taken (x ∷ sizes) new left size first h rest =
    let is : size ≡ x = cc in
    rw (rest, is, le-ltb left x (rw is at h)) refl

-- No call is left.
pub no_call_left : (sizes : List ℕ) (left : ℕ) → None ≡ slice_get sizes 0 → sizes ≡ left_in left sizes
no_call_left [] left h = refl
no_call_left (x ∷ sizes) left h = cc
