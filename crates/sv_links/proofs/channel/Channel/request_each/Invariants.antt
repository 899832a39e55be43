use Rattle.std.proofs.Common.{◌≡◌, ℕ, List}
use Rattle.sv_links.specs.declared.channel.Stage.TheVariants.{Open}
use Rattle.sv_links.specs.ChannelRepresentation.{IsQueued}
use Rattle.sv_links.proofs.Calling.{calls_after_links}
use Rattle.sv_links.proofs.channel.Channel.request_each.Given as goal

-- The channel is open, and has a call for each link before the index.
abbrev pub invariant-loop-link : goal.invariant-loop-link
invariant-loop-link g l = record {
  is_open : l.self.stage ≡ Open l.peer;
  queued : (count : ℕ) (calls : List (List ℕ)) → IsQueued l.fn.self count calls
      → IsQueued l.self count (calls_after_links l.peer count l.conn l.enabled l.link-index calls);
}
