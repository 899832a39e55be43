use Rattle.std.proofs.Common.{◌≡◌, ◌∙◌, ◌-◌, ℕ, ℤ, true, false, pos, ap, sym, arith, get_or, w64, to_z, of_z, rules}
use Rattle.std.proofs.lemmas.Int.{to_z-of_z}
use mir.Val.{SFits}
use Rattle.sv_scan.specs.declared.acts.ScanAct.TheVariants.{Sample}
use Rattle.sv_scan.specs.Scan.{channel_at, reading_in}
use Rattle.sv_scan.specs.Counted.{effective, is_scanning}
use Rattle.sv_scan.proofs.Runs.{scan_list_size, scanned_channel_exists, run_is_valid, has_room_for_reading, next_channel_exists, is_valid_sample}
use Rattle.sv_scan.proofs.Stands.{stands_for_counted, stands_for_dropped, holds_sample}
use Rattle.sv_scan.proofs.scanner.Scanner.sample.Goals as goal

pub returns-then-not-is_scanning-clause-answer : goal.returns-then-not-is_scanning-clause-answer
returns-then-not-is_scanning-clause-answer g c acts is =
    sym (ap is_scanning (sym (c.state.ensures.answer acts is)) ∙ sym c.is_scanning.ensures ∙ c.if-not-is_scanning.true)

pub returns-then-not-is_scanning-clause-stands : goal.returns-then-not-is_scanning-clause-stands
returns-then-not-is_scanning-clause-stands g c acts is =
    stands_for_dropped _ Sample acts (sym (returns-then-not-is_scanning-clause-answer g c acts is)) is

pub returns-in_default-clause-answer : goal.returns-in_default-clause-answer
returns-in_default-clause-answer g c acts is =
    let scanning = rw (← c.self.view_is) at (ap is_scanning (sym c.state.ensures.value) ∙ sym c.is_scanning.ensures
    ∙ c.if-not-is_scanning.false) in
    let never : false ≡ true = rw c.in_default.is at scanning in
    absurd cc

pub returns-in_default-clause-stands : goal.returns-in_default-clause-stands
returns-in_default-clause-stands g c acts is =
    stands_for_dropped _ Sample acts (sym (returns-in_default-clause-answer g c acts is)) is

pub channel-channel-requires : goal.channel-channel-requires
channel-channel-requires g c =
    let run = run_is_valid _ _ c.in-Some.run' c.in-Some.is c.self.invariant in
    omega (arith, (scan_list_size c.in-Some.run'.channels run.channels).0)

pub voltage-requires : goal.voltage-requires
voltage-requires g c =
    let run = run_is_valid _ _ c.in-Some.run' c.in-Some.is c.self.invariant in
    rw c.channel-channel.ensures (scanned_channel_exists c.in-Some.run'.channels c.len.result run.channels)

pub reading_in-reading-requires : goal.reading_in-reading-requires
reading_in-reading-requires g c =
    let fits : SFits w64 c.self.inside.settings.range = search rules in
    rw (to_z-of_z w64 c.self.inside.settings.range fits) c.self.invariant.range

pub push_reserved-requires : goal.push_reserved-requires
push_reserved-requires g c =
    let scanning = rw (← c.self.view_is) at (ap is_scanning (sym c.state.ensures.value) ∙ sym c.is_scanning.ensures
    ∙ c.if-not-is_scanning.false) in
    let room = has_room_for_reading _ _ c.in-Some.run' c.in-Some.is c.self.invariant scanning in
    omega (arith, c.self.inside.readings.ok.0, room)

pub invariant_of-self : goal.invariant_of-self
invariant_of-self g c =
    let scanning = rw (← c.self.view_is) at (ap is_scanning (sym c.state.ensures.value) ∙ sym c.is_scanning.ensures
    ∙ c.if-not-is_scanning.false) in
    let bounded = c.reading_in-reading.ensures.bounded (search rules) in
    rw (c.push_reserved.ensures.items, c.push_reserved.ensures.capacity) (is_valid_sample _ _ c.in-Some.run' _ _ c.in-Some.is
    c.self.invariant scanning bounded)

pub returns-clause-answer : goal.returns-clause-answer
returns-clause-answer g c acts is =
    sym (ap is_scanning (sym (c.state.ensures.answer acts is)) ∙ sym c.is_scanning.ensures ∙ c.if-not-is_scanning.false)

pub returns-clause-stands : goal.returns-clause-stands
returns-clause-stands g c acts is =
    let h = rw (← c.self.view_is) at is in
    let counted = sym (returns-clause-answer g c acts is) in
    let known = next_channel_exists _ _ c.in-Some.run' c.in-Some.is c.self.invariant in
    let fits : SFits w64 c.self.inside.settings.range = search rules in
    let heard : SFits w64 c.voltage.result = search rules in
    let many = c.len.ensures ∙ c.self.inside.readings.ok.0 in
    let channel = c.channel-channel.ensures ∙ ap (channel_at c.in-Some.run'.channels) many in
    let voltage = c.voltage.ensures ∙ ap (λ (n : ℕ). get_or c.self.inside.inputs (n - 1) (pos 0)) channel in
    let reading = c.reading_in-reading.ensures.value ∙ ap (λ (z : ℤ). reading_in z (to_z w64 (of_z w64 c.voltage.result)))
    (to_z-of_z w64 c.self.inside.settings.range fits)
    ∙ ap (reading_in c.self.inside.settings.range) (to_z-of_z w64 c.voltage.result heard ∙ voltage) in
    rw (c.push_reserved.ensures.items, reading) (stands_for_counted _ Sample acts counted
    (holds_sample _ (effective acts) c.in-Some.run' c.in-Some.is known h))
