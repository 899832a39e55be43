use Rattle.std.proofs.Common.{◌≡◌, ℕ, ◌+◌, ◌-◌, [], length, refl, sym, subst, append-nil, arith}
use Rattle.std.proofs.lemmas.List.{length-take}
use Rattle.sv_rpc.specs.Representation.{InRoom, Keeps}
use Rattle.sv_rpc.specs.RecordBuf.{Records}
use Rattle.sv_rpc.proofs.Keeping.{byte_keeps, data_keeps}
use Rattle.sv_rpc.proofs.Rooms.{byte_room, fewer_fit, piece_room}
use Rattle.sv_rpc.proofs.Goes.{data_goes_on, long_goes_on}
use Rattle.sv_rpc.proofs.record_buf.RecordBuf.take_in.Goals as goal

pub returns-in-Header-clause-fits : goal.returns-in-Header-clause-fits
returns-in-Header-clause-fits g c =
    let one_more : length c.args.piece.now ≡ 1 + (length c.args.piece.now - 1) = omega (arith, c.requires.some) in
    byte_room c.args.self.now c.take_header.new.self _ _ (rw (← c.self.view_is, c.in-Header.is) tt) c.take_header.ensures.value
    (subst (λ (n : ℕ). InRoom c.args.self.now n) one_more c.requires.fits)

pub returns-in-Data-clause-stands : goal.returns-in-Data-clause-stands
returns-in-Data-clause-stands g c =
    data_goes_on _ _ _ _ c.args.self.now _ _ _ _ c.self.view_is c.in-Data.is c.take_data.ensures
    (omega (arith, c.min-count.ensures, length-take c.min-count.result c.args.piece.now))

pub returns-in-Header-clause-keeps : goal.returns-in-Header-clause-keeps
returns-in-Header-clause-keeps g c =
    subst (λ (h : Records). Keeps c.args.self.now h) (sym c.take_header.ensures.value)
    (byte_keeps c.args.self.now.records c.args.self.now.tail _)

pub returns-in-Data-clause-keeps : goal.returns-in-Data-clause-keeps
returns-in-Data-clause-keeps g c =
    subst (λ (h : Records). Keeps c.args.self.now h) (sym c.take_data.ensures) (data_keeps c.args.self.now.records c.args.self.now.tail _)

pub take_header-requires-clause-fits : goal.take_header-requires-clause-fits
take_header-requires-clause-fits g c =
    fewer_fit c.args.self.now 1 (length c.args.piece.now) (omega (arith, c.requires.some)) c.requires.fits

pub take_data-requires-clause-data : goal.take_data-requires-clause-data
take_data-requires-clause-data g c = rw (← c.self.view_is, c.in-Data.is) (refl, refl)

pub take_data-requires-clause-fits : goal.take_data-requires-clause-fits
take_data-requires-clause-fits g c =
    fewer_fit c.args.self.now _ (length c.args.piece.now) (omega (arith, length-take c.min-count.result c.args.piece.now)) c.requires.fits

pub returns-in-Data-clause-fits : goal.returns-in-Data-clause-fits
returns-in-Data-clause-fits g c =
    piece_room c.args.self.now c.take_data.new.self _ c.in-Data.missing c.in-Data.last (length c.args.piece.now) _
    (rw (← c.self.view_is, c.in-Data.is) (refl, refl))
    (omega (arith, c.min-count.ensures, length-take c.min-count.result c.args.piece.now)) c.take_data.ensures c.requires.fits

pub returns-in-TooLong-clause-fits : goal.returns-in-TooLong-clause-fits
returns-in-TooLong-clause-fits g c = rw (← c.self.view_is, c.in-TooLong.is) tt

pub returns-in-TooLong-clause-keeps : goal.returns-in-TooLong-clause-keeps
returns-in-TooLong-clause-keeps g c = ([], sym (append-nil c.args.self.now.records))

pub returns-in-TooLong-clause-stands : goal.returns-in-TooLong-clause-stands
returns-in-TooLong-clause-stands g c = long_goes_on _ _ _ _ c.args.self.now _ c.self.view_is c.in-TooLong.is
