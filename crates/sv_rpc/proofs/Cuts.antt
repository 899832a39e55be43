-- How a list of lengths divides a buffer's bytes into records, and how much of the buffer these
-- records fill.
use Rattle.std.proofs.Common.{◌≡◌, ℕ, ◌+◌, ◌*◌, ◌≤◌, Bool, List, [], ◌∷◌, ◌++◌, length, take, drop, refl, sym, ap, ◌∙◌, arith}
use Rattle.std.specs.Prelude.{sum, sum_by}
use Rattle.std.proofs.lemmas.List.{length-take-le, length-drop, take-append-le, drop-append-le, drop-drop}
use Rattle.std.proofs.lemmas.List.Sums.{sum_by-append, sum_by-cons}
use Rattle.std.proofs.Math.Seq.{take-length}
use Rattle.sv_rpc.specs.Record.{Header, Data}
use Rattle.sv_rpc.specs.RecordBuf.{used_by}
use Rattle.sv_rpc.specs.Representation.{cut}

pub sum_cons : (n : ℕ) (ns : List ℕ) → sum (n ∷ ns) ≡ n + sum ns
sum_cons n ns = sum_by-cons (λ x. x) n ns

pub sum_push : (ns : List ℕ) (n : ℕ) → sum (ns ++ n ∷ []) ≡ sum ns + n
sum_push ns n = sum_by-append (λ x. x) ns (n ∷ []) ∙ ap (λ (k : ℕ). sum ns + k) (sum_cons n [] ∙ omega arith)

-- The capacity that complete records use: 4 bytes for each, and their lengths.
pub capacity_of_records : (ns : List ℕ) (bytes : List ℕ) → sum ns ≤ length bytes
    → sum_by (λ (r : List ℕ). 4 + length r) (cut ns bytes) ≡ 4 * length ns + sum ns
capacity_of_records [] bytes h = refl
capacity_of_records (n ∷ ns) bytes h =
    let total = sum_cons n ns in
    let short : sum ns ≤ length (drop n bytes) = omega (arith, length-drop n bytes) in
    let size : length (take n bytes) ≡ n = length-take-le n bytes (omega arith) in
    omega (
      arith,
      sum_by-cons (λ (r : List ℕ). 4 + length r) (take n bytes) (cut ns (drop n bytes)),
      capacity_of_records ns (drop n bytes)
          short,
    )

-- Bytes that follow the records change none of them.
pub cut_append : (ns bytes piece : List ℕ) → sum ns ≤ length bytes → cut ns (bytes ++ piece) ≡ cut ns bytes
cut_append [] bytes piece h = refl
cut_append (n ∷ ns) bytes piece h =
    let total = sum_cons n ns in
    let le : n ≤ length bytes = omega arith in
    let short : sum ns ≤ length (drop n bytes) = omega (arith, length-drop n bytes) in
    let first = take-append-le n bytes piece le in
    let others = ap (cut ns) (drop-append-le n bytes piece le) ∙ cut_append ns (drop n bytes) piece short in
    cc

-- With the length of the unfinished record, the bytes after the other records are one more record.
pub cut_push : (ns bytes : List ℕ) (n : ℕ) → sum ns + n ≡ length bytes → cut (ns ++ n ∷ []) bytes ≡ cut ns bytes ++ drop (sum ns) bytes ∷ []
cut_push [] bytes n h = let size : n ≡ length bytes = omega arith in
    ap (λ (r : List ℕ). r ∷ []) (ap (λ (k : ℕ). take k bytes) size ∙ take-length bytes)
cut_push (m ∷ ns) bytes n h =
    let total = sum_cons m ns in
    let rest : sum ns + n ≡ length (drop m bytes) = omega (arith, length-drop m bytes) in
    let behind : drop (sum ns) (drop m bytes) ≡ drop (sum (m ∷ ns)) bytes =
    drop-drop (sum ns) m bytes ∙ ap (λ (k : ℕ). drop k bytes) (sym total) in
    ap (λ (rs : List (List ℕ)). take m bytes ∷ rs)
    (cut_push ns (drop m bytes) n rest ∙ ap (λ (r : List ℕ). cut ns (drop m bytes) ++ r ∷ []) behind)

-- The capacity that the buffer uses, computed from the lengths of its fields.
pub used_at_header : (ns bytes header : List ℕ) (n : ℕ) → sum ns + n ≡ length bytes
    → used_by (cut ns bytes) (Header (drop (sum ns) bytes) header) ≡ 4 * length ns + length bytes + 4 + length header
used_at_header ns bytes header n h = omega (arith, capacity_of_records ns bytes (omega arith), length-drop (sum ns) bytes)

pub used_in_data : (ns bytes : List ℕ) (n missing : ℕ) (last : Bool) → sum ns + n ≡ length bytes
    → used_by (cut ns bytes) (Data (drop (sum ns) bytes) missing last) ≡ 4 * length ns + length bytes + 4
used_in_data ns bytes n missing last h = omega (arith, capacity_of_records ns bytes (omega arith), length-drop (sum ns) bytes)
