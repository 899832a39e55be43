-- The calls that a service request appends to a channel, link by link.
use Rattle.std.proofs.Common.{◌≡◌, ◌≢◌, ℕ, ◌+◌, ◌<◌, eqb, List, [], ◌∷◌, ◌++◌, length, take, get_or, true, false, Some, refl, sym, ap, ◌∙◌, inl, inr, eq-eqb}
use Rattle.std.proofs.lemmas.Bool.{cases_Bool, ne_eqb}
use Rattle.std.specs.List.{fold}
use Rattle.std.proofs.lemmas.List.{take_more}
use Rattle.std.proofs.lemmas.List.Sums.{fold-append}
use Rattle.sv_links.specs.declared.enabled.Enabled.{Enabled}
use Rattle.sv_links.specs.declared.request.Peer.{Peer}
use Rattle.sv_links.specs.declared.channel.Stage.{Stage}
use Rattle.sv_links.specs.declared.channel.Stage.TheVariants.{Open}
use Rattle.sv_links.specs.Channels.{add_call, handles_of}
use Rattle.sv_links.specs.ChannelRepresentation.{opened_for}

handles_own : (conn : ℕ) (links : List Enabled) (link : Enabled) → eqb link.conn conn ≡ true
    → handles_of conn (links ++ link ∷ []) ≡ handles_of conn links ++ link.handle ∷ []
handles_own conn [] link e = rw e refl
handles_own conn (first ∷ links) link e = elim (cases_Bool (eqb first.conn conn)) [
  | inl k ↦ rw k (ap (λ (handles : List (List ℕ)). first.handle ∷ handles) (handles_own conn links link e))
  | inr k ↦ rw k (handles_own conn links link e)
]

handles_other : (conn : ℕ) (links : List Enabled) (link : Enabled) → eqb link.conn conn ≡ false
    → handles_of conn (links ++ link ∷ []) ≡ handles_of conn links
handles_other conn [] link e = rw e refl
handles_other conn (first ∷ links) link e = elim (cases_Bool (eqb first.conn conn)) [
  | inl k ↦ rw k (ap (λ (handles : List (List ℕ)). first.handle ∷ handles) (handles_other conn links link e))
  | inr k ↦ rw k (handles_other conn links link e)
]

-- The calls of the channel after the first `n` links were handled.
abbrev pub calls_after_links : Peer → ℕ → ℕ → List Enabled → ℕ → List (List ℕ) → List (List ℕ)
calls_after_links peer count conn links n calls = fold (add_call (Some peer) count) calls (handles_of conn (take n links))

-- A link of the channel's connection adds a call.
pub link_adds_call : (peer : Peer) (count conn : ℕ) (links : List Enabled) (i : ℕ) (link : Enabled) (calls : List (List ℕ))
    → i < length links → link ≡ get_or links i link → link.conn ≡ conn
    → add_call (Some peer) count (calls_after_links peer count conn links i calls) link.handle
    ≡ calls_after_links peer count conn links (i + 1) calls
link_adds_call peer count conn links i link calls lt at own =
    sym (fold-append (add_call (Some peer) count) calls (handles_of conn (take i links)) (link.handle ∷ []))
    ∙ ap (fold (add_call (Some peer) count) calls)
    (sym (ap (handles_of conn) (take_more links i link lt ∙ ap (λ (x : Enabled). take i links ++ x ∷ []) (sym at))
    ∙ handles_own conn (take i links) link (eq-eqb link.conn conn own)))

-- A link of another connection adds none.
pub other_link_adds_none : (peer : Peer) (count conn : ℕ) (links : List Enabled) (i : ℕ) (link : Enabled) (calls : List (List ℕ))
    → i < length links → link ≡ get_or links i link → link.conn ≢ conn
    → calls_after_links peer count conn links i calls ≡ calls_after_links peer count conn links (i + 1) calls
other_link_adds_none peer count conn links i link calls lt at apart =
    ap (fold (add_call (Some peer) count) calls)
    (sym (ap (handles_of conn) (take_more links i link lt ∙ ap (λ (x : Enabled). take i links ++ x ∷ []) (sym at))
    ∙ handles_other conn (take i links) link (ne_eqb link.conn conn apart)))

pub open_peer_is : (stage : Stage) (what peer : Peer) → stage ≡ Open what → opened_for stage ≡ Some peer → peer ≡ what
open_peer_is stage what peer e k = let same : Some what ≡ Some peer = sym (ap opened_for e) ∙ k in cc
