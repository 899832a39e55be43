use Rattle.std.proofs.Common.{◌≡◌, length, take, drop, ◌++◌, sym, subst, length-take-le}
use Rattle.sv_serve.specs.Heard.{WasRead, bytes_of, IsWithin}
use Rattle.sv_serve.proofs.Pieces.{bytes_in_front}
use Rattle.sv_serve.proofs.reading.read_into.Goals as goal

pub returns-clause-within : goal.returns-clause-within
returns-clause-within g c =
    subst (λ n. IsWithin c.read.result n) (length-take-le c.args.size c.args.buffer.now c.requires) c.read.ensures.within

pub returns-clause-heard : goal.returns-clause-heard
returns-clause-heard g c =
    let long : length (take c.args.size c.args.buffer.now) ≡ c.args.size = length-take-le c.args.size c.args.buffer.now c.requires in
    let within = subst (λ n. IsWithin c.read.result n) (sym c.read.auto.buffer) c.read.ensures.within in
    let front = bytes_in_front c.read.result c.read.new.buffer (drop c.args.size c.args.buffer.now) within in
    subst (λ n. g.W.Wire.hears c.args.wire.now (WasRead c.args.conn n
    (bytes_of c.read.result (c.read.new.buffer ++ drop c.args.size c.args.buffer.now))) c.read.new.self) long
    (subst (λ b. g.W.Wire.hears c.args.wire.now (WasRead c.args.conn (length (take c.args.size c.args.buffer.now)) b) c.read.new.self)
    (sym front) c.read.ensures.heard)
