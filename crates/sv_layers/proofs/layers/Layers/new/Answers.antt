use Rattle.std.proofs.Common.{[], refl}
use Rattle.sv_status.specs.declared.register_name.RegisterName.TheVariants.{Operation, Questionable, Limit}
use Rattle.sv_layers.proofs.layers.Layers.new.Goals as goal

pub returns : goal.returns
returns g c = record {
  stands = record {
    status_log = [];
    are = refl;
    joined = record {
      exchange = c.in_ok-new.ensures.1;
      errors = c.in_ok-new-2.ensures;
      registers = elim [
        | Operation ↦ c.new-3.ensures
        | Questionable ↦ c.new-4.ensures
        | Limit ↦ c.nested.ensures
      ];
      standard = c.new-5.ensures;
      status = c.new-6.ensures;
      scanner = c.in_ok-new-3.ensures;
      service = refl;
      waits = refl;
    };
  };
  none = refl;
}
