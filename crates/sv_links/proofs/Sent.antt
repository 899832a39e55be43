-- A channel's queue agrees with the acts when a call is appended or the peer takes bytes.
use Rattle.std.proofs.Common.{◌≡◌, ℕ, ◌+◌, ◌<◌, ◌≤◌, Bool, true, List, [], ◌∷◌, ◌++◌, length, drop, Some, refl, sym, ap, subst, ◌∙◌, arith}
use Rattle.std.specs.Prelude.{map, if◌then◌else◌}
use Rattle.std.specs.List.{concat}
use Rattle.std.proofs.lemmas.Bool.{lt-ltb}
use Rattle.std.proofs.lemmas.List.{length-append, length-drop, length-map, length_push, map_push}
use Rattle.sv_links.specs.declared.channel.Stage.{Stage}
use Rattle.sv_links.specs.declared.channel.Stage.TheVariants.{Closed, Open}
use Rattle.sv_links.specs.declared.request.Peer.{Peer}
use Rattle.sv_links.specs.Limits.{max_calls}
use Rattle.sv_links.specs.Request.{request}
use Rattle.sv_links.specs.Channels.{calls_left, may_call, add_call}
use Rattle.sv_links.specs.ChannelRepresentation.{Channel, IsQueued, left_in}
use Rattle.sv_links.proofs.Left.{left_sizes, left_bytes, calls_left_twice, calls_left_append}
use Rattle.sv_links.proofs.Requests.{request_is_some}
use Rattle.sv_rpc.proofs.EveryStream.{concat_more}

-- The peer takes bytes.
pub is_queued_taken : (old new : Channel) (before count : ℕ) (calls : List (List ℕ)) → new.made ≡ old.made
    → new.sizes ≡ left_in count old.sizes → new.bytes ≡ drop count old.bytes → count ≤ length old.bytes
    → IsQueued old before calls → IsQueued new (before + count) calls
is_queued_taken old new before count calls made sizes bytes within is = (
  made ∙ is.0,
  sizes ∙ ap (left_in count) is.1 ∙ sym (left_sizes count (calls_left before calls))
      ∙ ap (map length) (calls_left_twice before count calls),
  bytes ∙ ap (drop count) is.2 ∙ sym (left_bytes count (calls_left before calls)) ∙ ap concat (calls_left_twice before count calls),
  omega (arith, within, ap length is.2, ap length (left_bytes before calls), length-drop before (concat calls), is.3),
)

-- A call is appended.
pub is_queued_called : (old new : Channel) (count : ℕ) (calls : List (List ℕ)) (call : List ℕ) → new.made ≡ old.made + 1
    → new.sizes ≡ old.sizes ++ length call ∷ [] → new.bytes ≡ old.bytes ++ call → 0 < length call
    → IsQueued old count calls → IsQueued new count (calls ++ call ∷ [])
is_queued_called old new count calls call made sizes bytes some is =
    let left = calls_left_append count calls call some is.3 in (
      made ∙ ap (λ (n : ℕ). n + 1) is.0 ∙ sym (length_push calls call),
      sizes ∙ ap (λ (ns : List ℕ). ns ++ length call ∷ []) is.1 ∙ sym (map_push length (calls_left count calls) call)
          ∙ ap (map length) (sym left),
      bytes ∙ ap (λ (b : List ℕ). b ++ call) is.2 ∙ sym (concat_more (calls_left count calls) call) ∙ ap concat (sym left),
      omega (arith, is.3, ap length (concat_more calls call), length-append (concat calls) call),
    )

-- ---- whether a call may be appended

sizes_are : (kept : Channel) (count : ℕ) (calls : List (List ℕ)) → IsQueued kept count calls
    → length kept.sizes ≡ length (calls_left count calls)
sizes_are kept count calls is = ap length is.1 ∙ length-map (calls_left count calls) length

pub may_call_with_room : (kept : Channel) (count : ℕ) (calls : List (List ℕ)) → IsQueued kept count calls → length kept.sizes < max_calls
    → kept.made < 4294967295 → may_call count calls ≡ true
may_call_with_room kept count calls is h k =
    rw (← sizes_are kept count calls is, ← is.0, lt-ltb (length kept.sizes) max_calls h, lt-ltb kept.made 4294967295 k) refl

-- The calls, with one more if it may be appended.
abbrev calls_with_one_more : Peer → List ℕ → List (List ℕ) → Bool → List (List ℕ)
calls_with_one_more peer handle calls can = if can then calls ++ request (length calls + 1) peer handle ∷ [] else calls

-- If the queue has room and a number is left, the call is appended.
pub is_queued_sent : (old new : Channel) (peer : Peer) (handle : List ℕ) (count : ℕ) (calls : List (List ℕ)) (size : ℕ)
    → new.made ≡ old.made + 1 → new.sizes ≡ old.sizes ++ size ∷ [] → new.bytes ≡ old.bytes ++ request (old.made + 1) peer handle
    → length new.bytes ≡ length old.bytes + size → length old.sizes < max_calls → old.made < 4294967295
    → IsQueued old count calls → IsQueued new count (add_call (Some peer) count calls handle)
is_queued_sent old new peer handle count calls size made sizes bytes total few left is =
    let call = request (length calls + 1) peer handle in
    let bytes : new.bytes ≡ old.bytes ++ call = bytes ∙ ap (λ (n : ℕ). old.bytes ++ request (n + 1) peer handle) is.0 in
    let size_is : size ≡ length call = omega (arith, total, ap length bytes, length-append old.bytes call) in
    let sizes = sizes ∙ ap (λ (n : ℕ). old.sizes ++ n ∷ []) size_is in
    subst (λ (can : Bool). IsQueued new count (calls_with_one_more peer handle calls can))
    (sym (may_call_with_room old count calls is few left))
    (is_queued_called old new count calls call made sizes bytes (request_is_some (length calls + 1) peer handle) is)

pub open≢closed : (stage : Stage) (peer : Peer) → stage ≡ Open peer → stage ≡ Closed → ⊥
open≢closed stage peer e k = cc
