-- The read of a query that waits for the end of the measurement: its status on the connection, and
-- the acts that don't affect the query.
use Rattle.std.proofs.Common.{◌≡◌, ◌≢◌, ℕ, Bool, true, false, List, [], ◌∷◌, ◌++◌, length, Option, Some, None, refl, sym, ap, subst, ◌∙◌, inl, inr, ◌⊎◌, append_assoc, arith}
use Rattle.std.specs.Prelude.{◌==◌}
use Rattle.std.specs.List.{AllByRecursion}
use Rattle.std.proofs.lemmas.Bool.{cases_Bool, cases_lt, ne_eqb, eqb-true, cases_eq}
use Rattle.sv_vxi.specs.declared.error_code.ErrorCode.{ErrorCode}
use Rattle.sv_links.specs.declared.waiting.Wait.TheVariants.{Response as ForResponse}
use Rattle.sv_links.specs.Links.{LinkAct, holder}
use Rattle.sv_links.specs.Waiting.{WaitAct, Left as LeftCall, waits, deadline, IsAble}
use Rattle.sv_links.specs.Channels.{ChannelAct}
use Rattle.sv_scan.specs.declared.acts.ScanAct.{ScanAct}
use Rattle.sv_scan.specs.declared.acts.ScanAct.TheVariants.{Init}
use Rattle.sv_exchange.specs.Limits.{max_read}
use Rattle.sv_layers.specs.declared.change.Awaited.{Awaited}
use Rattle.sv_layers.specs.declared.change.Awaited.TheVariants.{Readings}
use Rattle.sv_layers.specs.Act.{Act as InstrumentAct, Scanned, exchange_acts}
use Rattle.sv_instrument.specs.HeldUnit.{held_unit}
use Rattle.sv_history.specs.Act.{Act, ConnAct, Piece, BytesTaken, Channel, Applied, Ticked, On, OnDevice, of, device_acts, link_acts, wait_acts, instrument_acts}
use Rattle.sv_history.specs.Connection.{pending_call}
use Rattle.sv_history.specs.CoreCall.{CoreCall}
use Rattle.sv_history.specs.Request.{core_call_in}
use Rattle.sv_history.specs.Effect.{acts_of}
use Rattle.sv_history.specs.Resuming.{failure_effect}
use Rattle.sv_history.proofs.Projections.{of_others_effect}
use Rattle.sv_laws.specs.Adding.{all_replies}
use Rattle.sv_laws.specs.QueryAlone.{reported, EndsAt, OneRead, UnitEnd}
use Rattle.sv_laws.proofs.Alone.Quiet.{able_after_leaving_was_able}

-- ---- the connection

-- The status of the read: whether it was taken, or the reply to it.
pub data Status : Type 0 where
  At : (taken : Bool) → Status
  Told : (reply : List ℕ) → Status

-- No call of the connection is suspended before the read is taken. Then the read is suspended until
-- there is a response, with the deadline `limit`. After the reply no call is suspended.
abbrev pub ReadHasStatus : (c limit : ℕ) → CoreCall → List ℕ → Status → List ConnAct → List WaitAct → Type 0
ReadHasStatus c limit call replies (At false) own calls = (waits c calls ≡ None) × (all_replies own ≡ replies)
ReadHasStatus c limit call replies (At true) own calls = (waits c calls ≡ Some ForResponse) × (deadline c calls ≡ Some limit)
    × (core_call_in (pending_call own) ≡ Some call) × (all_replies own ≡ replies)
ReadHasStatus c limit call replies (Told reply) own calls = (waits c calls ≡ None) × (all_replies own ≡ replies ++ reply)

-- No suspended call of another connection can resume, whether or not the device accepts a write or
-- answers a read.
abbrev pub OthersCannotResume : ℕ → List LinkAct → List WaitAct → Type 0
OthersCannotResume c links calls = (d : ℕ) → d ≢ c → (writes reads : Bool) → IsAble (holder links) writes reads calls d → ⊥

-- If the unit answers with readings, one of these acts initiated a measurement.
abbrev pub InitiatedIfReadings : Awaited → List InstrumentAct → Type 0
InitiatedIfReadings what newer = what ≡ Readings → (later earlier : List InstrumentAct) × (newer ≡ later ++ Scanned Init ∷ earlier)

-- A measurement that was initiated still was after further acts.
pub stays_initiated : (what : Awaited) (adds newer : List InstrumentAct) → InitiatedIfReadings what newer
    → InitiatedIfReadings what (adds ++ newer)
stays_initiated what adds newer initiated reads =
    let (later, earlier, is) = initiated reads in
    (adds ++ later, earlier, ap (λ (l : List InstrumentAct). adds ++ l) is ∙ sym (append_assoc adds later (Scanned Init ∷ earlier)))

-- If a unit ended in a log, it ended at the same moment in the log with more acts.
abbrev pub unit_end_with_more_acts : (what : Awaited) (base adds acts new : List InstrumentAct) → new ≡ adds ++ acts
    → UnitEnd what base acts → UnitEnd what base new
unit_end_with_more_acts what base adds acts new is e = record {
  done = e.done;
  newer = e.newer;
  more = adds ++ e.more;
  within = is ∙ ap (λ (l : List InstrumentAct). adds ++ l) e.within ∙ sym (append_assoc adds e.more e.done);
  since = e.since;
  began = e.began;
  held = e.held;
  idle = e.idle;
}

no_new_line_or_some : (answer : List ℕ) → AllByRecursion (λ b. b ≢ 10) answer ⊎ (AllByRecursion (λ b. b ≢ 10) answer → ⊥)
no_new_line_or_some [] = inl tt
no_new_line_or_some (b ∷ answer) = elim (cases_eq b 10) [
  | inl same ↦ inr (λ none. none.0 same)
  | inr other ↦ elim (no_new_line_or_some answer) [ inl none ↦ inl (other, none) | inr some ↦ inr (λ none. some none.1) ]
]

ends_at_or_not : (term : Option ℕ) (answer : List ℕ) → EndsAt term answer ⊎ (EndsAt term answer → ⊥)
ends_at_or_not None answer = inl tt
ends_at_or_not (Some term) answer = elim (cases_eq term 10) [
  | inl same ↦ elim (no_new_line_or_some answer) [ inl none ↦ inl (same, none) | inr some ↦ inr (λ ends. some ends.1) ]
  | inr other ↦ inr (λ ends. other ends.0)
]

-- Either one read can return the answer, or one read can't.
pub one_read_or_not : (term : Option ℕ) (most : ℕ) (answer : List ℕ) → OneRead term most answer ⊎ (OneRead term most answer → ⊥)
one_read_or_not term most answer = elim (cases_lt (length answer) most) [
  | inl one ↦ elim (cases_lt (length answer) max_read) [
    | inl other ↦ elim (ends_at_or_not term answer) [ inl ends ↦ inl (one, other, ends) | inr none ↦ inr (λ fits. none fits.2) ]
    | inr past ↦ inr (λ fits. let far = fits.1 in omega (arith, far, past))
  ]
  | inr past ↦ inr (λ fits. let far = fits.0 in omega (arith, far, past))
]

-- ---- logs that differ only in acts that don't affect the query

abbrev pub inside : List Act → List InstrumentAct
inside log = instrument_acts (device_acts log)

-- The new log adds only acts that don't affect the query. Message exchange, the held unit, the
-- reported errors and the links are the same, and `Others` and `Mine` still hold.
pub record Alike (c limit : ℕ) (call : CoreCall) (replies : List ℕ) (links : List LinkAct) (log new : List Act) : Type 0 where
  pub adds : List InstrumentAct
  pub is : inside new ≡ adds ++ inside log
  pub exchange : exchange_acts (inside new) ≡ exchange_acts (inside log)
  pub held : held_unit (inside new) ≡ held_unit (inside log)
  pub codes : reported (inside new) ≡ reported (inside log)
  pub linked : link_acts (device_acts new) ≡ link_acts (device_acts log)
  pub others : OthersCannotResume c links (wait_acts (device_acts log)) → OthersCannotResume c links (wait_acts (device_acts new))
  pub mine : (s : Status) → ReadHasStatus c limit call replies s (of c log) (wait_acts (device_acts log))
      → ReadHasStatus c limit call replies s (of c new) (wait_acts (device_acts new))

module _ (c limit : ℕ) (call : CoreCall) (replies : List ℕ) (links : List LinkAct) where
  pub alike_scanned : (act : ScanAct) (log : List Act) → Alike c limit call replies links log (OnDevice (Applied (Scanned act)) ∷ log)
  alike_scanned act log = record {
    adds = Scanned act ∷ [];
    is = refl;
    exchange = refl;
    held = refl;
    codes = refl;
    linked = refl;
    others = λ o. o;
    mine = λ s m. m;
  }

  -- New acts that are neither acts of the instrument nor acts on a link don't affect the query, if
  -- they keep `Others` and `Mine`.
  alike_by : (log new : List Act) → inside new ≡ inside log → link_acts (device_acts new) ≡ link_acts (device_acts log)
      → (OthersCannotResume c links (wait_acts (device_acts log)) → OthersCannotResume c links (wait_acts (device_acts new)))
      → ((s : Status) → ReadHasStatus c limit call replies s (of c log) (wait_acts (device_acts log))
      → ReadHasStatus c limit call replies s (of c new) (wait_acts (device_acts new)))
      → Alike c limit call replies links log new
  alike_by log new is linked others mine = record {
    adds = [];
    is = is;
    exchange = ap exchange_acts is;
    held = ap held_unit is;
    codes = ap reported is;
    linked = linked;
    others = others;
    mine = mine;
  }

  pub alike_ticked : (log : List Act) → Alike c limit call replies links log (OnDevice Ticked ∷ log)
  alike_ticked log = alike_by log (OnDevice Ticked ∷ log) refl refl (λ o. o) (λ s m. m)

  pub alike_channel : (act : ChannelAct) (log : List Act) → Alike c limit call replies links log (OnDevice (Channel act) ∷ log)
  alike_channel act log = alike_by log (OnDevice (Channel act) ∷ log) refl refl (λ o. o) (λ s m. m)

  mine_piece : (bytes : List ℕ) (s : Status) (own : List ConnAct) (calls : List WaitAct) → ReadHasStatus c limit call replies s own calls
      → ReadHasStatus c limit call replies s (Piece bytes ∷ own) calls
  mine_piece bytes (At true) own calls m = m
  mine_piece bytes (At false) own calls m = m
  mine_piece bytes (Told reply) own calls m = m

  mine_taken : (count : ℕ) (s : Status) (own : List ConnAct) (calls : List WaitAct) → ReadHasStatus c limit call replies s own calls
      → ReadHasStatus c limit call replies s (BytesTaken count ∷ own) calls
  mine_taken count (At true) own calls m = m
  mine_taken count (At false) own calls m = m
  mine_taken count (Told reply) own calls m = m

  on_mine : (d : ℕ) (act : ConnAct) (log : List Act) → (d ≡ c → (s : Status) (own : List ConnAct) (calls : List WaitAct)
      → ReadHasStatus c limit call replies s own calls → ReadHasStatus c limit call replies s (act ∷ own) calls)
      → (s : Status) → ReadHasStatus c limit call replies s (of c log) (wait_acts (device_acts log))
      → ReadHasStatus c limit call replies s (of c (On d act ∷ log)) (wait_acts (device_acts log))
  on_mine d act log keeps s m = elim (cases_Bool (d == c)) [
    | inl e ↦ rw e (keeps (eqb-true d c e) s (of c log) (wait_acts (device_acts log)) m)
    | inr e ↦ rw e m
  ]

  alike_on : (d : ℕ) (act : ConnAct) (log : List Act) → (d ≡ c → (s : Status) (own : List ConnAct) (calls : List WaitAct)
      → ReadHasStatus c limit call replies s own calls → ReadHasStatus c limit call replies s (act ∷ own) calls)
      → Alike c limit call replies links log (On d act ∷ log)
  alike_on d act log keeps = alike_by log (On d act ∷ log) refl refl (λ o. o) (on_mine d act log keeps)

  pub alike_piece : (d : ℕ) (bytes : List ℕ) (log : List Act) → Alike c limit call replies links log (On d (Piece bytes) ∷ log)
  alike_piece d bytes log = alike_on d (Piece bytes) log (λ e. mine_piece bytes)

  pub alike_taken : (d count : ℕ) (log : List Act) → Alike c limit call replies links log (On d (BytesTaken count) ∷ log)
  alike_taken d count log = alike_on d (BytesTaken count) log (λ e. mine_taken count)

  pub alike_other : (d : ℕ) (act : ConnAct) (log : List Act) → d ≢ c → Alike c limit call replies links log (On d act ∷ log)
  alike_other d act log ne = alike_on d act log (λ e. absurd (ne e))

  -- After a suspended call leaves the queue, still no suspended call of another connection can
  -- resume.
  pub others_left : (d : ℕ) (calls : List WaitAct) → OthersCannotResume c links calls → OthersCannotResume c links (LeftCall d ∷ calls)
  others_left d calls others e ne writes reads able = others e ne writes reads
      (able_after_leaving_was_able (holder links) writes reads d e calls able)

  mine_left : (d : ℕ) (s : Status) (own : List ConnAct) (calls : List WaitAct) → d ≢ c → ReadHasStatus c limit call replies s own calls
      → ReadHasStatus c limit call replies s own (LeftCall d ∷ calls)
  mine_left d (At true) own calls ne m = (rw (ne_eqb d c ne) m.0, m.1, m.2, m.3)
  mine_left d (At false) own calls ne m = (rw (ne_eqb d c ne) m.0, m.1)
  mine_left d (Told reply) own calls ne m = (rw (ne_eqb d c ne) m.0, m.1)

  -- A suspended call of another connection that times out doesn't affect the query.
  pub alike_failed : (error : ErrorCode) (d : ℕ) (core : Option CoreCall) (log : List Act) → d ≢ c
      → Alike c limit call replies links log (acts_of d (failure_effect error d core) ++ log)
  alike_failed error d core log ne = by core (of_others_effect d c (failure_effect error d core) log (λ e. ne (sym e)))
    where
      mine : (new : List Act) → of c new ≡ of c log → (s : Status) → ReadHasStatus c limit call replies s (of c log)
          (wait_acts (device_acts log))
          → ReadHasStatus c limit call replies s (of c new) (LeftCall d ∷ wait_acts (device_acts log))
      mine new same s m = subst (λ (l : List ConnAct). ReadHasStatus c limit call replies s l (LeftCall d ∷ wait_acts (device_acts log)))
          (sym same)
          (mine_left d s (of c log) (wait_acts (device_acts log)) ne m)

      by : (core : Option CoreCall) → of c (acts_of d (failure_effect error d core) ++ log) ≡ of c log
          → Alike c limit call replies links log (acts_of d (failure_effect error d core) ++ log)
      by (Some found) same = alike_by log (acts_of d (failure_effect error d (Some found)) ++ log) refl refl
          (others_left d (wait_acts (device_acts log))) (mine (acts_of d (failure_effect error d (Some found)) ++ log) same)
      by None same = alike_by log (acts_of d (failure_effect error d None) ++ log) refl refl
          (others_left d (wait_acts (device_acts log))) (mine (acts_of d (failure_effect error d None) ++ log) same)
