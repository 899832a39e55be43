use Rattle.std.proofs.Common.{◌≡◌, ◌+◌, ◌<◌, ◌∙◌, length, sym, arith}
use Rattle.std.proofs.lemmas.Bool.{ltb-true, and_parts}
use Rattle.std.specs.Prelude.{nat_lt}
use Rattle.sv_links.specs.Links.{live, lids_left}
use Rattle.sv_links.specs.Waiting.{creating}
use Rattle.sv_links.specs.Queue.{creations}
use Rattle.sv_links.specs.Limits.{max_links}
use Rattle.sv_history.specs.Act.{link_acts, wait_acts}
use Rattle.sv_server.proofs.OnDevice.Parts.{device_more}
use Rattle.sv_server.proofs.OnDevice.Granted.{on_ok}
use Rattle.sv_server.proofs.device.Device.reserve.Goals as goal

pub returns-clause-ok : goal.returns-clause-ok
returns-clause-ok g c = λ config acts old.
    let is = rw (← c.self.view_is) at old in
    let count : creating (wait_acts acts) ≡ creations c.self.inside.waiting =
    sym (c.creating.ensures.answer (wait_acts acts) is.4) ∙ c.creating.ensures.value in
    let more = device_more _ c.reserve.new.self config acts is (c.reserve.ensures.stands (link_acts acts) is.0) c.reserve.ensures.grows in
    on_ok c.reserve.result _ _ c.reserve.ensures.room (λ room. (
      more,
      λ makes may.
          let many = length (live (link_acts acts)) + creating (wait_acts acts) in
          let few : many < max_links = ltb-true many max_links (and_parts (nat_lt many max_links) (lids_left (link_acts acts)) may).0 in
          (omega (arith, few, count), omega (arith, room, c.creating.ensures.value)),
    ))
