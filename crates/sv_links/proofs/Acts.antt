-- The stored state of the interrupt channels agrees with the acts after each act.
use Rattle.std.proofs.Common.{◌≡◌, ◌≢◌, ℕ, ◌+◌, ◌<◌, List, [], ◌∷◌, ◌++◌, length, Option, Some, None, refl, sym, ap, subst, ◌∙◌, inl, inr, eq-eqb, arith}
use Rattle.std.specs.Prelude.{map, slice_index_or, slice_set}
use Rattle.std.specs.List.{fold}
use Rattle.std.proofs.lemmas.Bool.{cases_eq, cases_lt, ne_eqb}
use Rattle.std.proofs.lemmas.List.{get_or-set_same, get_or-set_other, get_or_append_left}
use Rattle.std.proofs.Math.Seq.{get_or-append_seam}
use Rattle.sv_links.specs.declared.enabled.Enabled.{Enabled}
use Rattle.sv_links.specs.declared.request.Peer.{Peer}
use Rattle.sv_links.specs.Limits.{max_connections}
use Rattle.sv_links.specs.Channels.{ChannelAct, SrqEnabled, SrqDisabled, Requested, ChannelClosed, enabled_links, peer, bytes_taken, calls, add_call, handles_of}
use Rattle.sv_links.specs.ChannelRepresentation.{Channel, Channels, AreChannels, without_links, IsChannel, IsChannelFor, IsQueued, opened_for}
use Rattle.sv_links.proofs.Asking.{other_links}
use Rattle.sv_links.proofs.Rising.{with_link, links_after_enable, links_after_disable}

-- A link disables service requests.
pub are_channels_disabled : (kept : Channels) (links : List Enabled) (lid : ℕ) (acts : List ChannelAct)
    → links ≡ other_links lid kept.enabled → AreChannels kept acts → AreChannels (record kept { enabled = links }) (SrqDisabled lid ∷ acts)
are_channels_disabled kept links lid acts same is = record {
  enabled = same ∙ ap (other_links lid) is.enabled ∙ sym (links_after_disable lid acts);
  each = is.each;
  beyond = is.beyond;
  opened = is.opened;
}

-- Several links disable service requests.
pub are_channels_without : (kept : Channels) (lids : List ℕ) (acts : List ChannelAct) → AreChannels kept acts
    → AreChannels (record kept { enabled = without_links lids kept.enabled }) (map SrqDisabled lids ++ acts)
are_channels_without kept [] acts is = is
are_channels_without kept (lid ∷ lids) acts is =
    are_channels_disabled (record kept { enabled = without_links lids kept.enabled }) (without_links (lid ∷ lids) kept.enabled) lid
    (map SrqDisabled lids ++ acts) refl (are_channels_without kept lids acts is)

-- A link enables service requests.
pub are_channels_enabled : (kept : Channels) (links : List Enabled) (link : Enabled) (acts : List ChannelAct)
    → links ≡ with_link link kept.enabled → AreChannels kept acts
    → AreChannels (record kept { enabled = links }) (SrqEnabled link.lid link.conn link.handle ∷ acts)
are_channels_enabled kept links link acts same is = record {
  enabled = same ∙ ap (with_link link) is.enabled ∙ sym (links_after_enable link acts);
  each = is.each;
  beyond = is.beyond;
  opened = is.opened;
}

channel_requested : (what : Option Peer) (old new : Channel) (count : ℕ) (handles calls : List (List ℕ)) → opened_for old.stage ≡ what
    → ((count : ℕ) (calls : List (List ℕ)) (peer : Peer) → opened_for old.stage ≡ Some peer → IsQueued old count calls
    → IsQueued new count (fold (add_call (Some peer) count) calls handles))
    → IsChannelFor what old count calls → IsChannelFor what new count (fold (add_call what count) calls handles)
channel_requested None old new count handles calls opened sends is = tt
channel_requested (Some what) old new count handles calls opened sends is = sends count calls what opened is

-- A service request is raised: a call is appended for each of the connection's links.
pub is_channel_requested : (c : ℕ) (old new : Channel) (links : List Enabled) (acts : List ChannelAct) → links ≡ enabled_links acts
    → new.stage ≡ old.stage
    → ((count : ℕ) (calls : List (List ℕ)) (peer : Peer) → opened_for old.stage ≡ Some peer → IsQueued old count calls
    → IsQueued new count (fold (add_call (Some peer) count) calls (handles_of c links)))
    → IsChannel old c acts → IsChannel new c (Requested ∷ acts)
is_channel_requested c old new links acts same stage sends is = (
  ap opened_for stage ∙ is.0,
  subst (λ (links : List Enabled).
      IsChannelFor (peer c acts) new (bytes_taken c acts)
      (fold (add_call (peer c acts) (bytes_taken c acts)) (calls c acts) (handles_of c links))) same
      (channel_requested (peer c acts) old new (bytes_taken c acts) (handles_of c links) (calls c acts) is.0 sends is.1),
)

-- ---- replacing a channel

pub after_slice_set : (P : Channel → Type 0) (kept : List Channel) (i c : ℕ) (new other : Channel) → i < length kept → (c ≡ i → P new)
    → (c ≢ i → P (slice_index_or kept c other)) → P (slice_index_or (slice_set kept i new) c other)
after_slice_set P kept i c new other within here there = elim (cases_eq c i) [
  | inl e ↦
      let place = ap (λ (c : ℕ). slice_index_or (slice_set kept i new) c other) e in
      subst P (sym (place ∙ get_or-set_same kept i new other within)) (here e)
  | inr e ↦ subst P (sym (get_or-set_other kept i c new other e)) (there e)
]

pub after_append : (P : Channel → Type 0) (kept : List Channel) (i c : ℕ) (new other : Channel) → length kept ≡ i → c < i + 1 → P new
    → (c < i → P (slice_index_or kept c other)) → P (slice_index_or (kept ++ new ∷ []) c other)
after_append P kept i c new other long within here there = elim (cases_lt c i) [
  | inl below ↦ rw (get_or_append_left kept (new ∷ []) other c (omega (arith, long, below))) (there below)
  | inr above ↦
      let last : c ≡ length kept = omega (arith, long, within, above) in
      let place = ap (λ (c : ℕ). slice_index_or (kept ++ new ∷ []) c other) last in
      subst P (sym (place ∙ get_or-append_seam kept new [] other)) here
]

-- ---- a channel that stays open, or stays closed, and keeps its calls

channel_kept : (what : Option Peer) (old new : Channel) (count : ℕ) (calls : List (List ℕ))
    → ((count : ℕ) (calls : List (List ℕ)) → IsQueued old count calls → IsQueued new count calls)
    → IsChannelFor what old count calls → IsChannelFor what new count calls
channel_kept None old new count calls keeps is = tt
channel_kept (Some what) old new count calls keeps is = keeps count calls is

pub are_channels_kept : (kept : Channels) (i : ℕ) (old new : Channel) (acts : List ChannelAct) → i < max_connections
    → i < length kept.channels → old ≡ slice_index_or kept.channels i old → opened_for new.stage ≡ opened_for old.stage
    → ((count : ℕ) (calls : List (List ℕ)) → IsQueued old count calls → IsQueued new count calls) → AreChannels kept acts
    → AreChannels (record kept { channels = slice_set kept.channels i new }) acts
are_channels_kept kept i old new acts lt within value stage keeps is =
    let before : IsChannel old i acts = subst (λ c. IsChannel c i acts) (sym value) (is.each i old lt) in
    let after : IsChannel new i acts =
    (stage ∙ before.0, channel_kept (peer i acts) old new (bytes_taken i acts) (calls i acts) keeps before.1) in
    record {
      enabled = is.enabled;
      each = λ k other le.
          after_slice_set (λ c. IsChannel c k acts) kept.channels i k new other within
          (λ same. subst (λ k. IsChannel new k acts) (sym same) after)
          (λ apart. is.each k other le);
      beyond = is.beyond;
      opened = is.opened;
    }

-- A channel is closed.
pub are_channels_closed : (kept : Channels) (i : ℕ) (new : Channel) (acts : List ChannelAct) → i < length kept.channels
    → opened_for new.stage ≡ None → AreChannels kept acts
    → AreChannels (record kept { channels = slice_set kept.channels i new }) (ChannelClosed i ∷ acts)
are_channels_closed kept i new acts within stage is =
    let after : IsChannel new i (ChannelClosed i ∷ acts) = rw (eq-eqb i i refl) (stage, tt) in
    record {
      enabled = is.enabled;
      each = λ k other le.
          after_slice_set (λ c. IsChannel c k (ChannelClosed i ∷ acts)) kept.channels i k new other within
          (λ same. subst (λ k. IsChannel new k (ChannelClosed i ∷ acts)) (sym same) after)
          (λ apart. rw (ne_eqb i k (λ e. apart (sym e))) (is.each k other le));
      beyond = λ k past. elim (cases_eq i k) [
        | inl same ↦ rw (eq-eqb i k same) refl
        | inr apart ↦ rw (ne_eqb i k apart) (is.beyond k past)
      ];
      opened = is.opened;
    }
