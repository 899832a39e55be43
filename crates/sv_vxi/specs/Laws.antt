-- Laws of the encoding of arguments and results.
use Rattle.std.specs.Prelude.{◌≡◌, ℕ, ◌<◌, List, ◌++◌, All, true}
use Rattle.sv_xdr.specs.Spelling.{BeginsAll}
use Rattle.sv_vxi.specs.Arguments.{Arguments, procedure_of, BeginsWith, ArgumentsAre, core_calls, abort_calls, is_one_of}
use Rattle.sv_vxi.specs.Reading.{arguments_at}
use Rattle.sv_vxi.specs.Results.{Outcome, result_fields, SameShape}

-- For each call of the core channel and for device_abort, the result of `arguments_at` is the one
-- that `ArgumentsAre` requires.
abbrev pub ArgumentsAsSpelled : Type 0
ArgumentsAsSpelled = (proc : ℕ) (bytes : List ℕ) → All (λ byte. byte < 256) bytes → is_one_of (core_calls ++ abort_calls) proc ≡ true
    → ArgumentsAre proc bytes (arguments_at proc bytes)

-- Suppose that the same bytes can be split in two ways into encoded arguments of one procedure and
-- a rest. Then both lists of arguments are equal, and so are both rests. So for each procedure, no
-- encoding of its arguments is a proper prefix of another encoding of its arguments.
abbrev pub ArgumentsPrefixFree : Type 0
ArgumentsPrefixFree = (x y : Arguments) (bytes after behind : List ℕ) → procedure_of x ≡ procedure_of y → BeginsWith bytes x after
    → BeginsWith bytes y behind
    → (x ≡ y) × (after ≡ behind)

-- Suppose that the same bytes can be split in two ways into the fields of a result and a rest, and
-- that both results have the same form. Then both lists of fields are equal, and so are both rests.
abbrev pub ResultsPrefixFree : Type 0
ResultsPrefixFree = (x y : Outcome) (bytes after behind : List ℕ) → SameShape x y → BeginsAll bytes (result_fields x) after
    → BeginsAll bytes (result_fields y) behind
    → (result_fields x ≡ result_fields y) × (after ≡ behind)
