-- While a link holds the lock, a call of another connection adds no act of the instrument, doesn't
-- take the lock, and concerns only links of its own.
use Rattle.std.proofs.Common.{◌≡◌, ◌≢◌, ℕ, Bool, true, false, List, length, nat_lt, Option, Some, None, refl, sym, ap, ◌∙◌, inl, inr}
use Rattle.std.specs.Prelude.{ℤ, pos, negsuc, codes, is_some, ◌==◌}
use Rattle.std.specs.Str.{bytes_eq}
use Rattle.std.proofs.lemmas.Bool.{cases_Bool, ne_eqb}
use Rattle.sv_logs.proofs.Each.{Each}
use Rattle.sv_vxi.specs.declared.arguments.LockWait.{LockWait}
use Rattle.sv_vxi.specs.Arguments.{LinkCall, DeviceAbort, DeviceUnlock, DeviceEnableSrq, DestroyLink, Arguments, CreateLink, OnLink, CreateIntrChan, DestroyIntrChan, lock_wait, max_handle}
use Rattle.sv_links.specs.Links.{owner, is_of, holder, is_locked_out, lids_left}
use Rattle.sv_laws.proofs.Facts.{some_injective}
use Rattle.sv_laws.proofs.LinksAlike.{owner_is_of, other_owner}
use Rattle.sv_history.specs.declared.event.Config.{Config}
use Rattle.sv_history.specs.Act.{DeviceAct, link_acts}
use Rattle.sv_history.specs.CoreCall.{lid_of, is_too_long}
use Rattle.sv_history.specs.CoreChannel.{owns}
use Rattle.sv_history.specs.Interrupts.{has_channel, is_peer}
use Rattle.sv_history.specs.Admission.{Stop, lock_stop, channel_stop, may_make_more, stop_of, admission}
use Rattle.sv_laws.proofs.Isolation.Alike.{IsForeign}
use Rattle.sv_laws.proofs.EveryLog.Done.{owns_means_owner}

-- All acts that the outcome of the call adds are foreign to connection `c`.
abbrev AreForeign : Config → ℕ → ℕ → ℕ → Arguments → List DeviceAct → Option Stop → Type 0
AreForeign config polled c d arguments acts stop = Each (IsForeign c) (admission config polled d arguments stop acts).adds acts

-- A link of another connection than the holder's is locked out.
others_link_is_locked_out : (c d lid : ℕ) (named : Option ℕ) (acts : List DeviceAct) → holder (link_acts acts) ≡ Some lid
    → owner lid (link_acts acts) ≡ Some c → d ≢ c → owns d named acts ≡ true → is_locked_out (holder (link_acts acts)) named ≡ true
others_link_is_locked_out c d lid None acts held mine ne own = absurd cc
others_link_is_locked_out c d lid (Some n) acts held mine ne own =
    let owns : owner n (link_acts acts) ≡ Some d = owns_means_owner d (Some n) acts n own refl in
    rw (held, ne_eqb n lid (λ same. ne (some_injective d c (sym owns ∙ ap (λ (m : ℕ). owner m (link_acts acts)) same ∙ mine)))) refl

-- A call that the lock stops is suspended or fails, so all its acts are foreign.
waits_or_fails : (config : Config) (polled c d : ℕ) (arguments : Arguments) (acts : List DeviceAct) (wait : LockWait) → d ≢ c
    → AreForeign config polled c d arguments acts (Some (lock_stop wait))
waits_or_fails config polled c d arguments acts wait ne = elim (cases_Bool wait.waits) [
  | inl e ↦ rw e ((ne, (λ z. absurd cc), (λ z. absurd cc)), tt)
  | inr e ↦ rw e tt
]

some_of : (found : Option LockWait) → is_some found ≡ true → (wait : LockWait) × (found ≡ Some wait)
some_of (Some wait) e = (wait, refl)
some_of None e = absurd cc

locked_out_call_is_foreign : (config : Config) (polled c d lid : ℕ) (named : ℤ) (call : LinkCall) (acts : List DeviceAct)
    → is_some (lock_wait call) ≡ true → holder (link_acts acts) ≡ Some lid → owner lid (link_acts acts) ≡ Some c → d ≢ c
    → AreForeign config polled c d (OnLink named call) acts (stop_of d (OnLink named call) acts)
locked_out_call_is_foreign config polled c d lid named call acts minds held mine ne =
    elim (cases_Bool (owns d (lid_of (Some named)) acts)) [
      | inr e ↦ rw e tt
      | inl e ↦ elim (cases_Bool (is_too_long call)) [
        | inl k ↦ rw (e, k) tt
        | inr k ↦
            let wait = some_of (lock_wait call) minds in
            rw (e, k, wait.1, others_link_is_locked_out c d lid (lid_of (Some named)) acts held mine ne e)
            (waits_or_fails config polled c d (OnLink named call) acts wait.0 ne)
      ]
    ]

fault_or_waits : (config : Config) (polled c d : ℕ) (arguments : Arguments) (acts : List DeviceAct) (there : Bool)
    (host_addr host_port prog_family : ℕ) → d ≢ c
    → AreForeign config polled c d arguments acts (Some (channel_stop there host_addr host_port prog_family))
fault_or_waits config polled c d arguments acts true host_addr host_port prog_family ne = tt
fault_or_waits config polled c d arguments acts false host_addr host_port prog_family ne = elim (cases_Bool (prog_family == 0)) [
  | inl e ↦ elim (cases_Bool (is_peer host_addr host_port)) [
    | inl k ↦ rw (e, k) ((ne, (λ z. absurd cc), (λ z. absurd cc)), tt)
    | inr k ↦ rw (e, k) tt
  ]
  | inr e ↦ rw e tt
]

pub others_call_is_foreign : (config : Config) (polled c d lid : ℕ) (arguments : Arguments) (acts : List DeviceAct)
    → holder (link_acts acts) ≡ Some lid → owner lid (link_acts acts) ≡ Some c → d ≢ c
    → AreForeign config polled c d arguments acts (stop_of d arguments acts)
others_call_is_foreign config polled c d lid (CreateLink client_id true lock_timeout device) acts held mine ne =
    elim (cases_Bool (bytes_eq device (codes "inst0"))) [
      | inl e ↦ elim (cases_Bool (may_make_more acts)) [
        | inl k ↦ rw (e, k, held) ((ne, (λ z. absurd cc), (λ z. absurd cc)), tt)
        | inr k ↦ rw (e, k) tt
      ]
      | inr e ↦ rw e tt
    ]
others_call_is_foreign config polled c d lid (CreateLink client_id false lock_timeout device) acts held mine ne =
    elim (cases_Bool (bytes_eq device (codes "inst0"))) [
      | inl e ↦ elim (cases_Bool (may_make_more acts)) [
        | inl k ↦ elim (cases_Bool (lids_left (link_acts acts))) [ inl m ↦ rw (e, k, m) (ne, tt) | inr m ↦ rw (e, k, m) tt ]
        | inr k ↦ rw (e, k) tt
      ]
      | inr e ↦ rw e tt
    ]
others_call_is_foreign config polled c d lid (OnLink (pos n) DeviceUnlock) acts held mine ne =
    elim (cases_Bool (is_of d (owner n (link_acts acts)))) [
      | inl e ↦
          let owns = owner_is_of d (owner n (link_acts acts)) e in
          let apart : lid ≢ n = λ same. ne (some_injective d c (sym owns ∙ ap (λ (m : ℕ). owner m (link_acts acts)) (sym same) ∙ mine)) in
          rw (e, held, ne_eqb lid n apart) tt
      | inr e ↦ rw e tt
    ]
others_call_is_foreign config polled c d lid (OnLink (pos n) (DeviceEnableSrq true handle)) acts held mine ne =
    elim (cases_Bool (is_of d (owner n (link_acts acts)))) [
      | inl e ↦ elim (cases_Bool (nat_lt max_handle (length handle))) [
        | inl k ↦ rw (e, e, k) tt
        | inr k ↦
            let other = other_owner c d (owner n (link_acts acts)) ne (owner_is_of d (owner n (link_acts acts)) e) in
            rw (e, e, k) ((ne, other), tt)
      ]
      | inr e ↦ rw e tt
    ]
others_call_is_foreign config polled c d lid (OnLink (pos n) (DeviceEnableSrq false handle)) acts held mine ne =
    elim (cases_Bool (is_of d (owner n (link_acts acts)))) [
      | inl e ↦
          let other = other_owner c d (owner n (link_acts acts)) ne (owner_is_of d (owner n (link_acts acts)) e) in
          rw (e, e) (other, tt)
      | inr e ↦ rw e tt
    ]
others_call_is_foreign config polled c d lid (OnLink (pos n) DestroyLink) acts held mine ne =
    elim (cases_Bool (is_of d (owner n (link_acts acts)))) [
      | inl e ↦
          let other = other_owner c d (owner n (link_acts acts)) ne (owner_is_of d (owner n (link_acts acts)) e) in
          rw e (other, tt)
      | inr e ↦ rw e tt
    ]
others_call_is_foreign config polled c d lid (OnLink (negsuc n) call) acts held mine ne = tt
others_call_is_foreign config polled c d lid (CreateIntrChan host_addr host_port prog_num prog_vers prog_family) acts held mine ne =
    fault_or_waits config polled c d (CreateIntrChan host_addr host_port prog_num prog_vers prog_family) acts
    (has_channel d acts) host_addr host_port prog_family ne
others_call_is_foreign config polled c d lid DestroyIntrChan acts held mine ne =
    elim (cases_Bool (has_channel d acts)) [ inl e ↦ rw e (ne, tt) | inr e ↦ rw e tt ]
others_call_is_foreign config polled c d lid (OnLink (pos n) DeviceAbort) acts held mine ne =
    elim (cases_Bool (is_of d (owner n (link_acts acts)))) [
      | inl e ↦ rw e tt
      | inr e ↦ rw e tt
    ]
others_call_is_foreign config polled c d lid (OnLink named call) acts held mine ne =
    locked_out_call_is_foreign config polled c d lid named call acts refl held mine ne
