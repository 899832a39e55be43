-- Examples for the laws about queries: data that hold one query each, and message exchange at power
-- on. They show that the premises of these laws can be met.
use Rattle.std.proofs.Common.{◌≡◌, true, false, [], ◌∷◌, Some, refl, inl, inr, arith}
use Rattle.std.specs.Prelude.{codes}
use Rattle.sv_header.specs.declared.command.Question.TheVariants as question
use Rattle.sv_header.specs.declared.command.Action.TheVariants as action
use Rattle.sv_header.specs.declared.command.CommandId.TheVariants as id
use Rattle.sv_header.specs.Pattern.{row, node, maybe}
use Rattle.sv_layers.specs.declared.change.Awaited.TheVariants.{Readings}
use Rattle.sv_instrument.specs.declared.command.order.Order.TheVariants as order
use Rattle.sv_laws.specs.QueryAlone.{IsQuery, IsAtRest, holds}

-- The query that drivers send first, with a carriage return and a new line at its end.
pub asks_identification : IsQuery (order.Ask question.Identification) (codes "*IDN?\r\n")
asks_identification = record {
  message = codes "*IDN?\r";
  lines = 1;
  unit = codes "*IDN?";
  path = [];
  cut = refl;
  one = refl;
  reads = inr (
    refl,
    inl (
      id.Ask question.Identification,
      (
        row true true (node "IDN" "" ∷ []) (id.Ask question.Identification),
        (4, omega arith, refl),
        refl,
        (refl, refl, inl (inl refl, refl)),
      ),
      refl,
      refl,
    ),
  );
}

-- A query in small letters, with a leading space and a leading colon, and with a semicolon instead
-- of a new line.
pub asks_error : IsQuery (order.Ask question.Error) (codes " :syst:error?;")
asks_error = record {
  message = codes " :syst:error?;";
  lines = 0;
  unit = codes ":syst:error?";
  path = codes "syst" ∷ [];
  cut = refl;
  one = refl;
  reads = inr (
    refl,
    inl (
      id.Ask question.Error,
      (
        row false true (node "SYST" "EM" ∷ node "ERR" "OR" ∷ maybe "NEXT" "" ∷ []) (id.Ask question.Error),
        (14, omega arith, refl),
        refl,
        (refl, refl, inl (inl refl, inl (inr refl, inr (refl, refl)))),
      ),
      refl,
      refl,
    ),
  );
}

pub reads_measurement : IsQuery (order.Do action.Read) (codes "READ?\n")
reads_measurement = record {
  message = codes "READ?";
  lines = 1;
  unit = codes "READ?";
  path = [];
  cut = refl;
  one = refl;
  reads = inr (
    refl,
    inl (
      id.Do action.Read,
      (row false true (node "READ" "" ∷ []) (id.Do action.Read), (61, omega arith, refl), refl, (refl, refl, inl (inl refl, refl))),
      refl,
      refl,
    ),
  );
}

read_holds : holds (order.Do action.Read) ≡ Some Readings
read_holds = refl

-- Message exchange is at rest at power on.
at_power_on : IsAtRest []
at_power_on = record { text_left = refl; none_left = refl }
