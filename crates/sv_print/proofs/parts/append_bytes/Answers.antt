use Rattle.std.proofs.Common.{◌≡◌, ◌++◌, ◌∷◌, [], ◌∙◌, ◌+◌, ◌<◌, List, ℕ, ap, sym, append-nil, append_assoc, length, take, slice_index_or}
use Rattle.std.proofs.lemmas.List.{take_all, take_more}
use Rattle.sv_print.proofs.parts.append_bytes.Goals as goal

-- One more byte is appended.
one_more : (bytes start old new : List ℕ) (i : ℕ) → i < length bytes → old ≡ start ++ take i bytes
    → new ≡ old ++ slice_index_or bytes i 0 ∷ [] → new ≡ start ++ take (i + 1) bytes
one_more bytes start old new i h e is = is ∙ ap (λ (l : List ℕ). l ++ slice_index_or bytes i 0 ∷ []) e
    ∙ append_assoc start (take i bytes) (slice_index_or bytes i 0 ∷ []) ∙ ap (λ (l : List ℕ). start ++ l) (sym (take_more bytes i 0 h))

pub loop-byte-init : goal.loop-byte-init
loop-byte-init c = sym (append-nil _)

pub loop-byte-preserved : goal.loop-byte-preserved
loop-byte-preserved c =
    one_more c.args.bytes.now c.args.text.now.items c.loop-byte.text.items c.try_push.new.self.items c.loop-byte.byte-index
    c.loop-byte-test.true c.loop-byte.invariant c.in-Ok.ensures.ok

pub returns : goal.returns
returns c = λ e. c.loop-byte.invariant
    ∙ ap (λ (l : List ℕ). c.args.text.now.items ++ l) (take_all c.loop-byte.byte-index c.args.bytes.now c.loop-byte-test.false)
