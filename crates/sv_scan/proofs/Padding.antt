-- A list that is copied to the front of an array of zeros.
use Rattle.std.proofs.Common.{◌≡◌, ℕ, ◌-◌, ◌≤◌, List, ◌++◌, length, drop, replicate, ap, ◌∙◌, subst, sym, arith, length-append}
use Rattle.sv_errors.specs.Limits.{longest_list}
use Rattle.std.proofs.Math.Seq.{drop-append_seam}
use Rattle.std.proofs.lemmas.List.{drop-replicate, length-replicate}

abbrev zeros : List ℕ
zeros = replicate longest_list 0

abbrev IsPadded : List ℕ → List ℕ → Type 0
IsPadded given copied =
    (length given ≤ longest_list) × (length (copied ++ drop (length given) zeros) ≡ longest_list) × (drop (length given)
    (copied ++ drop (length given) zeros) ≡ replicate (longest_list - length given) 0)

pub is_padded : (given copied : List ℕ) → copied ≡ given → length given ≤ longest_list → IsPadded given copied
is_padded given copied same few =
    let rest : drop (length given) zeros ≡ replicate (longest_list - length given) 0 = drop-replicate (length given) longest_list 0 in
    let many : length (drop (length given) zeros) ≡ longest_list - length given =
    ap length rest ∙ length-replicate (longest_list - length given) 0 in
    subst (IsPadded given) (sym same) (
      few,
      omega (arith, few, many, length-append given (drop (length given) zeros)),
      drop-append_seam given (drop (length given) zeros) ∙ rest,
    )
