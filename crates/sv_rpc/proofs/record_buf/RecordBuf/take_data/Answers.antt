use Rattle.std.proofs.Common.{◌≡◌, [], take, refl, arith}
use Rattle.sv_rpc.proofs.Records.{place_is_in_data, data_piece_fits, data_keeps, data_grown, data_ended, data_finished, ended_room}
use Rattle.sv_rpc.proofs.record_buf.RecordBuf.take_data.Goals as goal

pub append-requires : goal.append-requires
append-requires g c =
    let at = place_is_in_data _ _ _ _ _ (rw (← c.self.view_is) at c.requires.«data») in
    let room = data_piece_fits _ _ _ _ _ _ _ _ _ _ _ c.self.invariant at (rw (← c.self.view_is) at c.requires.fits) in
    omega (arith, c.self.invariant.enough)

pub invariant_of-self : goal.invariant_of-self
invariant_of-self g c =
    let at = place_is_in_data _ _ _ _ _ (rw (← c.self.view_is) at c.requires.«data») in
    let room = data_piece_fits _ _ _ _ _ _ _ _ _ _ _ c.self.invariant at (rw (← c.self.view_is) at c.requires.fits) in
    let place = rw at at c.self.invariant.at in
    data_keeps _ _ _ _ c.args.piece.now _ _ _ _ _ _ _ c.self.invariant c.append.ensures.items c.append.ensures.capacity room (
      omega arith,
      omega (arith, place.1),
      place.2,
    )

pub returns-then-piece-missing : goal.returns-then-piece-missing
returns-then-piece-missing g c =
    let at = place_is_in_data _ _ _ _ _ (rw (← c.self.view_is) at c.requires.«data») in
    data_grown _ _ _ _ c.args.piece.now _ _ _ _ _ c.self.view_is at c.self.invariant.whole c.append.ensures.items c.if-piece-missing.true

pub invariant_of-self-then-last : goal.invariant_of-self-then-last
invariant_of-self-then-last g c =
    let at = place_is_in_data _ _ _ _ _ (rw (← c.self.view_is) at c.requires.«data») in
    let room = data_piece_fits _ _ _ _ _ _ _ _ _ _ _ c.self.invariant at (rw (← c.self.view_is) at c.requires.fits) in
    let place = rw at at c.self.invariant.at in
    data_keeps _ _ _ _ c.args.piece.now _ _ _ _ _ _ _ c.self.invariant c.append.ensures.items c.append.ensures.capacity room
    (omega (arith, place.1, c.requires.some), omega (arith, place.2))

pub finish-requires-clause-fits : goal.finish-requires-clause-fits
finish-requires-clause-fits g c =
    let at = place_is_in_data _ _ _ _ _ (rw (← c.self.view_is) at c.requires.«data») in
    let room = data_piece_fits _ _ _ _ _ _ _ _ _ _ _ c.self.invariant at (rw (← c.self.view_is) at c.requires.fits) in
    let place = rw at at c.self.invariant.at in
    let none : take c.self.inside.header_len c.self.inside.header ≡ [] = rw place.2 refl in
    ended_room _ _ _ _ c.args.piece.now _ c.self.invariant.whole c.append.ensures.items none room

pub invariant_of-self-else-last : goal.invariant_of-self-else-last
invariant_of-self-else-last g c =
    let at = place_is_in_data _ _ _ _ _ (rw (← c.self.view_is) at c.requires.«data») in
    let room = data_piece_fits _ _ _ _ _ _ _ _ _ _ _ c.self.invariant at (rw (← c.self.view_is) at c.requires.fits) in
    let place = rw at at c.self.invariant.at in
    data_keeps _ _ _ _ c.args.piece.now _ _ _ _ _ _ _ c.self.invariant c.append.ensures.items c.append.ensures.capacity room
    (omega (arith, place.1, c.requires.some), omega (arith, place.2))

pub returns-then-last : goal.returns-then-last
returns-then-last g c =
    let at = place_is_in_data _ _ _ _ _ (rw (← c.self.view_is) at c.requires.«data») in
    data_finished _ _ _ _ c.args.piece.now _ _ _ _ _ _ c.self.view_is at c.self.invariant.whole c.append.ensures.items
    c.if-piece-missing.false c.if-last.true c.finish.ensures

pub returns-else-last : goal.returns-else-last
returns-else-last g c =
    let at = place_is_in_data _ _ _ _ _ (rw (← c.self.view_is) at c.requires.«data») in
    let place = rw at at c.self.invariant.at in
    let none : take c.self.inside.header_len c.self.inside.header ≡ [] = rw place.2 refl in
    data_ended _ _ _ _ c.args.piece.now _ _ _ _ _ c.self.view_is at c.self.invariant.whole c.append.ensures.items c.if-piece-missing.false
    none c.if-last.false
