-- Pieces that are written one after the other appear on the writer in this order.
use Rattle.std.proofs.Common.{◌≡◌, ℕ, suc, ◌+◌, ◌<◌, List, [], ◌∷◌, ◌++◌, length, take, drop, get_or, map, sym, ap, ◌∙◌, subst}
use Rattle.std.specs.List.{concat}
use Rattle.std.proofs.Math.Seq.{split_at}
use Rattle.std.proofs.lemmas.List.{take_more, map-append, append-nil}
use Rattle.std.proofs.lemmas.List.Folds.{concat-append}
use Rattle.sv_xdr.specs.declared.writer.Writer.{Writer}
use Rattle.sv_xdr.specs.Writer.{rest_of, Appends, Stays}
use Rattle.sv_xdr.proofs.Appended.{appends_then}

-- If the next piece is written after the first `i` pieces, the first `i + 1` are written.
pub appends_next_piece : (f : ℕ → List ℕ) (words : List ℕ) (i : ℕ) (old mid new : Writer) → i < length words
    → Appends (concat (map f (take i words))) old mid → Appends (f (get_or words i 0)) mid new
    → Appends (concat (map f (take (i + 1) words))) old new
appends_next_piece f words i old mid new h first second =
    let pieces = map f (take i words) in
    let whole : concat (map f (take (i + 1) words)) ≡ concat pieces ++ f (get_or words i 0) =
    ap (λ (l : List ℕ). concat (map f l)) (take_more words i 0 h) ∙ ap concat (map-append f (take i words) (get_or words i 0 ∷ []))
    ∙ concat-append pieces (f (get_or words i 0) ∷ []) ∙ ap (λ (l : List ℕ). concat pieces ++ l) (append-nil (f (get_or words i 0))) in
    subst (λ (l : List ℕ). Appends l old new) (sym whole) (appends_then (concat pieces) (f (get_or words i 0)) old mid new first second)

pub split_at_piece : (f : ℕ → List ℕ) (words : List ℕ) (i : ℕ) → i < length words
    → map f words ≡ map f (take i words) ++ f (get_or words i 0) ∷ map f (drop (suc i) words)
split_at_piece f words i h = ap (map f) (split_at words i 0 h) ∙ map-append f (take i words) _

pub appends_stays : (bytes : List ℕ) (old mid new : Writer) → Appends bytes old mid → Stays mid new → Appends bytes old new
appends_stays bytes old mid new first second = record {
  text = second.text ∙ first.text;
  rest = first.rest ∙ ap (λ (l : List ℕ). take (length bytes) (rest_of old) ++ l) (sym second.rest);
  fits = first.fits;
}
