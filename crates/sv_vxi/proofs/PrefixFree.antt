-- No encoding of a call's arguments or of a result is a proper prefix of another one.
use Rattle.std.proofs.Common.{◌≡◌, ℕ, List, Result, Ok, [], ◌∷◌, sym, ap, subst, ◌∙◌}
use Rattle.sv_xdr.specs.declared.garbage.Garbage.{Garbage}
use Rattle.sv_xdr.specs.Spelling.{Field, Unsigned, BeginsAll}
use Rattle.sv_xdr.specs.Laws.{SameKind}
use Rattle.sv_xdr.proofs.PrefixFree.{SameKinds, fields_unique}
use Rattle.sv_vxi.specs.Arguments.{Arguments, argument_fields}
use Rattle.sv_vxi.specs.Reading.{arguments_at}
use Rattle.sv_vxi.specs.Results.{Link, Size, Read, Status, Plain, Data}
use Rattle.sv_vxi.specs.Laws.{ArgumentsPrefixFree, ResultsPrefixFree}
use Rattle.sv_vxi.proofs.ArgumentBytes.{encoded_arguments_are_read}

ok_is : (x y : Arguments) → (let r : Result Arguments Garbage = Ok x in r) ≡ Ok y → x ≡ y
ok_is x y e = cc

same_kind : (x : Field) → SameKind x x
same_kind (Unsigned n) = tt
same_kind _ = tt

same_kinds : (xs : List Field) → SameKinds xs xs
same_kinds [] = tt
same_kinds (x ∷ xs) = (same_kind x, same_kinds xs)

pub arguments_prefix_free : ArgumentsPrefixFree
arguments_prefix_free x y bytes after behind same h k =
    let one = ok_is x y (sym (encoded_arguments_are_read x bytes after h) ∙ ap (λ (n : ℕ). arguments_at n bytes) same
    ∙ encoded_arguments_are_read y bytes behind k) in (
      one,
      (fields_unique (argument_fields y) (argument_fields y) bytes after behind (same_kinds (argument_fields y))
          (subst (λ (z : Arguments). BeginsAll bytes (argument_fields z) after) one h.1) k.1).1,
    )

pub results_prefix_free : ResultsPrefixFree
results_prefix_free (Link e a b c) (Link e' a' b' c') bytes after behind shape h k =
    fields_unique _ _ bytes after behind (tt, (tt, (tt, (tt, tt)))) h k
results_prefix_free (Size e a) (Size e' a') bytes after behind shape h k = fields_unique _ _ bytes after behind (tt, (tt, tt)) h k
results_prefix_free (Read e a b) (Read e' a' b') bytes after behind shape h k =
    fields_unique _ _ bytes after behind (tt, (tt, (tt, tt))) h k
results_prefix_free (Status e a) (Status e' a') bytes after behind shape h k = fields_unique _ _ bytes after behind (tt, (tt, tt)) h k
results_prefix_free (Plain e) (Plain e') bytes after behind shape h k = fields_unique _ _ bytes after behind (tt, tt) h k
results_prefix_free (Data e a) (Data e' a') bytes after behind shape h k = fields_unique _ _ bytes after behind (tt, (tt, tt)) h k
results_prefix_free x y bytes after behind shape h k = absurd shape
