-- A device_intr_srq call is no longer than the limit for one.
use Rattle.std.proofs.Common.{◌≡◌, ℕ, ◌+◌, ◌^◌, ◌<◌, ◌≤◌, List, [], ◌∷◌, ◌++◌, length, Result, refl, sym, ap, ◌∙◌, arith}
use Rattle.std.specs.Prelude.{map, replicate}
use Rattle.std.specs.List.{concat}
use Rattle.std.proofs.lemmas.List.{length-append, length-replicate, append-nil}
use Rattle.std.proofs.lemmas.List.Folds.{concat-append}
use Rattle.sv_xdr.specs.declared.fault.XdrFault.{XdrFault}
use Rattle.sv_xdr.specs.declared.writer.Writer.{Writer}
use Rattle.sv_xdr.specs.Spelling.{Opaque, spelling, pad_len}
use Rattle.sv_xdr.specs.Writer.{text_of, rest_of, Writes, WritesEach}
use Rattle.sv_xdr.proofs.Appended.{each_last}
use Rattle.sv_xdr.proofs.Whole.{room_left, whole_is_written}
use Rattle.sv_rpc.specs.Reply.{call_fields}
use Rattle.sv_links.specs.declared.request.Peer.{Peer}
use Rattle.sv_links.specs.Limits.{max_handle, longest_text, longest_call}
use Rattle.sv_links.specs.Request.{request}

-- The header of a call, and the call with its handle.
abbrev pub header : ℕ → Peer → List (List ℕ)
header xid peer = map spelling (call_fields xid peer.prog peer.vers 30)

abbrev pub text : ℕ → Peer → List ℕ → List ℕ
text xid peer handle = concat (map spelling (call_fields xid peer.prog peer.vers 30 ++ Opaque handle ∷ []))

header_is_40 : (xid : ℕ) (peer : Peer) → length (concat (header xid peer)) ≡ 40
header_is_40 xid peer = refl

handle_is_short : (handle : List ℕ) → length handle ≤ max_handle → length (spelling (Opaque handle)) ≤ 4 + max_handle
handle_is_short handle h = omega (
  arith,
  length-append handle (replicate (pad_len (length handle)) 0),
  length-replicate {A = ℕ} (pad_len (length handle)) 0,
)

text_parts : (xid : ℕ) (peer : Peer) (handle : List ℕ) → text xid peer handle ≡ concat (header xid peer) ++ spelling (Opaque handle)
text_parts xid peer handle =
    concat-append (header xid peer) (spelling (Opaque handle) ∷ [])
    ∙ ap (λ (t : List ℕ). concat (header xid peer) ++ t) (append-nil (spelling (Opaque handle)))

pub text_is_short : (xid : ℕ) (peer : Peer) (handle : List ℕ) → length handle ≤ max_handle → length (text xid peer handle) ≤ longest_text
text_is_short xid peer handle h = omega (
  arith,
  ap length (text_parts xid peer handle),
  length-append (concat (header xid peer)) (spelling (Opaque handle)),
  header_is_40 xid peer,
  handle_is_short handle h,
)

pub request_is_short : (xid : ℕ) (peer : Peer) (handle : List ℕ) → length handle ≤ max_handle
    → length (request xid peer handle) ≤ longest_call
request_is_short xid peer handle h = omega (arith, text_is_short xid peer handle h)

pub request_is_some : (xid : ℕ) (peer : Peer) (handle : List ℕ) → 0 < length (request xid peer handle)
request_is_some xid peer handle = omega arith

-- If the longest call has room, the header and the handle are written completely.
pub text_is_written : (xid : ℕ) (peer : Peer) (handle : List ℕ) (r s : Result Unit XdrFault) (old mid new : Writer) → text_of old ≡ []
    → length handle ≤ max_handle → longest_text ≤ length (rest_of old) → WritesEach (header xid peer) r old mid
    → (length handle < 2 ^ 32 → Writes (spelling (Opaque handle)) s mid new) → text_of new ≡ text xid peer handle
text_is_written xid peer handle r s old mid new empty short room first second =
    let body : concat (spelling (Opaque handle) ∷ []) ≡ spelling (Opaque handle) = append-nil (spelling (Opaque handle)) in
    let one = whole_is_written (header xid peer) r old mid first (omega (arith, header_is_40 xid peer)) in
    let left = room_left (concat (header xid peer)) old mid one in
    let last = each_last (spelling (Opaque handle)) s mid new (second (omega (arith, short))) in
    let two = whole_is_written (spelling (Opaque handle) ∷ []) s mid new last
    (omega (arith, header_is_40 xid peer, left, ap length body, handle_is_short handle short)) in
    let front : text_of mid ≡ [] ++ concat (header xid peer) = one.text ∙ ap (λ (t : List ℕ). t ++ concat (header xid peer)) empty in
    let whole : text_of new ≡ ([] ++ concat (header xid peer)) ++ concat (spelling (Opaque handle) ∷ []) =
    two.text ∙ ap (λ (t : List ℕ). t ++ concat (spelling (Opaque handle) ∷ [])) front in
    whole ∙ sym (concat-append (header xid peer) (spelling (Opaque handle) ∷ []))
