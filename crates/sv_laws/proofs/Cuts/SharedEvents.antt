-- An event adds the same acts to two logs that are the same but for how program text was accepted.
use Rattle.std.proofs.Common.{◌≡◌, ℕ, List, [], ◌∷◌, ◌++◌, Option, Some, None, refl, ap, ◌∙◌}
use Rattle.std.specs.Prelude.{map, Bool, true, false, ◌==◌, if◌then◌else◌}
use Rattle.sv_vxi.specs.declared.error_code.ErrorCode.TheVariants.{Abort}
use Rattle.sv_links.specs.Links.{LinkAct, closing}
use Rattle.sv_links.specs.Waiting.{Left}
use Rattle.sv_links.specs.Channels.{ChannelClosed}
use Rattle.sv_scan.specs.declared.acts.ScanAct.{ScanAct}
use Rattle.sv_scan.specs.Counted.{effective, trigger_fault}
use Rattle.sv_scan.specs.Scan.{state}
use Rattle.sv_errors.specs.declared.source.Source.TheVariants.{External as ByInput}
use Rattle.sv_instrument.specs.Stimulus.{or_nothing, where_scanning}
use Rattle.sv_history.specs.declared.event.Port.TheVariants.{Conn}
use Rattle.sv_history.specs.declared.event.Config.{Config}
use Rattle.sv_history.specs.Event.{PlainEvent, Turn, Refuse, Took, Close, Dialed, External, Tick}
use Rattle.sv_history.specs.Act.{Act, ConnAct, Piece, CallTaken, BytesTaken, PortClosed, Linked, Waited, Channel, Applied, Ticked, On, OnDevice, of, device_acts}
use Rattle.sv_history.specs.Connection.{next_call, pending_call}
use Rattle.sv_history.specs.Request.{Request, core_call_in, next_request}
use Rattle.sv_history.specs.Effect.{acts_of}
use Rattle.sv_history.specs.Execution.{request_effect, aborts}
use Rattle.sv_history.specs.Resuming.{failure_effect, connect_effect}
use Rattle.sv_history.specs.History.{abort_acts, turn_acts, own_acts}
use Rattle.sv_laws.proofs.Cuts.SharedSteps.{SameCalls, same_device_same_effect, aborts_alike}

-- Each connection's next call, and what it requests, is the same too.
pub record SameNext (log other : List Act) : Type 0 where
  pub now : SameCalls log other
  pub calls : (d : ℕ) → next_call (of d log) ≡ next_call (of d other)
  pub requests : (d : ℕ) → next_request (of d log) ≡ next_request (of d other)

-- The acts that abort a suspended call are the same.
abort_acts_same : (found : Option ℕ) (log other : List Act) → ((d : ℕ) → pending_call (of d log) ≡ pending_call (of d other))
    → abort_acts found log ≡ abort_acts found other
abort_acts_same None log other same = refl
abort_acts_same (Some d) log other same = ap (λ (o : Option (List ℕ)). acts_of d (failure_effect Abort d (core_call_in o))) (same d)

-- Adding the same acts to both logs keeps the pending calls the same.
pub acts_keep_same_calls : (adds log other : List Act) → ((d : ℕ) → pending_call (of d log) ≡ pending_call (of d other))
    → (d : ℕ) → pending_call (of d (adds ++ log)) ≡ pending_call (of d (adds ++ other))
acts_keep_same_calls [] log other same d = same d
acts_keep_same_calls (OnDevice act ∷ adds) log other same d = acts_keep_same_calls adds log other same d
acts_keep_same_calls (On c act ∷ adds) log other same d =
    on_one act (c == d) (of d (adds ++ log)) (of d (adds ++ other)) (acts_keep_same_calls adds log other same d)
  where
    on_one : (act : ConnAct) (b : Bool) (mine also : List ConnAct) → pending_call mine ≡ pending_call also
        → pending_call (if b then act ∷ mine else mine) ≡ pending_call (if b then act ∷ also else also)
    on_one act false mine also same = same
    on_one (Piece bytes) true mine also same = same
    on_one (BytesTaken count) true mine also same = same
    on_one _ true mine also same = refl

turn_acts_same : (config : Config) (polled c : ℕ) (call : Option (List ℕ)) (request : Option Request) (log other : List Act)
    → SameNext log other → turn_acts config polled c call request log ≡ turn_acts config polled c call request other
turn_acts_same config polled c (Some bytes) (Some request) log other v =
    let effect = request_effect config polled c request (device_acts other) in
    let found = aborts request (device_acts other) in
    let acts = acts_of c effect ++ On c (CallTaken bytes) ∷ [] in
    rw (
      same_device_same_effect config polled c request (device_acts log) (device_acts other) v.now.device,
      aborts_alike request (device_acts log) (device_acts other) v.now.device,
    ) (ap (λ (l : List Act). l ++ acts)
    (abort_acts_same found (acts ++ log) (acts ++ other) (acts_keep_same_calls acts log other v.now.calls)))
turn_acts_same config polled c _ _ log other v = refl

abbrev shuts_by : ℕ → List LinkAct → List Act
shuts_by c links = map OnDevice (Channel (ChannelClosed c) ∷ map Linked (closing c links) ++ Waited (Left c) ∷ []) ++ On c PortClosed ∷ []

pub own_acts_same : (config : Config) (polled : ℕ) (event : PlainEvent) (log other : List Act) → SameNext log other
    → own_acts config polled event log ≡ own_acts config polled event other
own_acts_same config polled (Turn c) log other v =
    turn_acts_same config polled c (next_call (of c log)) (next_request (of c log)) log other v ∙ rw (v.requests c, v.calls c) refl
own_acts_same config polled (Refuse c) log other v = rw (v.requests c, v.calls c) refl
own_acts_same config polled (Close (Conn c)) log other v = ap (λ (l : List LinkAct). shuts_by c l) v.now.device.links
own_acts_same config polled (Dialed c ok) log other v =
    ap (λ (o : Option (List ℕ)). acts_of c (connect_effect c ok (core_call_in o))) (v.now.calls c)
own_acts_same config polled External log other v =
    ap (λ (l : List ScanAct). map OnDevice (map Applied (or_nothing (trigger_fault (effective l) ByInput))))
    v.now.device.instrument.status.scanned
own_acts_same config polled Tick log other v =
    ap (λ (l : List ScanAct). map OnDevice (map Applied (where_scanning (state (effective l)))) ++ OnDevice Ticked ∷ [])
    v.now.device.instrument.status.scanned
own_acts_same config polled (Took (Conn c) count) log other v = refl
own_acts_same config polled _ log other v = refl
