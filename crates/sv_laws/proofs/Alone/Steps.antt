-- The steps after a write of one query: the query's unit is executed and answered, and its message
-- is finished.
use Rattle.std.proofs.Common.{◌≡◌, ℕ, zero, suc, true, false, List, [], ◌∷◌, ◌++◌, None, refl, sym, ap, subst, ◌∙◌, inl, inr, arith}
use Rattle.std.specs.Prelude.{map, ◌↔◌, ⊤}
use Rattle.sv_logs.proofs.Since.{since_empty, since_skips_act, iff_transitive}
use Rattle.sv_exchange.specs.Exchange.{Finished, due, NothingDue, FinishDue}
use Rattle.sv_layers.specs.declared.change.RegisterChange.TheVariants.{ReadEvents}
use Rattle.sv_layers.specs.declared.change.StatusChange.TheVariants.{Register}
use Rattle.sv_layers.specs.Act.{Act as InstrumentAct, Exchanged, EntryTaken, exchange_acts, scan_acts, queue_acts, StatusChanged}
use Rattle.sv_layers.specs.Standard as standard
use Rattle.sv_instrument.specs.HeldUnit.{held_unit}
use Rattle.sv_instrument.specs.Step.{IsStep}
use Rattle.sv_instrument.proofs.NextStep.{step_of, nothing_due as none_due}
use Rattle.sv_history.specs.declared.event.Config.{Config}
use Rattle.sv_history.specs.Act.{Act, Applied, OnDevice, of, device_acts, link_acts, wait_acts, instrument_acts, ticks}
use Rattle.sv_history.specs.Settling.{IsNext, IsSettled, SettlesIn}
use Rattle.sv_history.proofs.Projections.{device_acts_append, link_acts_applied, wait_acts_applied, ticks_applied, instrument_acts_applied}
use Rattle.sv_laws.specs.QueryAlone.{reported}
use Rattle.sv_laws.proofs.Cuts.FirstPart.{Calm, Resting, calm_step_is_of_instrument, instrument_step_is_next}
use Rattle.sv_laws.proofs.Alone.Texts.{Over, empty_due, finished_empty, over_zero_is_at_rest, nothing_due}

-- ---- standard events

-- The act reports no error, and neither sets nor clears a bit of the standard event register.
abbrev pub IsPlain : InstrumentAct → Type 0
IsPlain (Exchanged act) = ⊤
IsPlain EntryTaken = ⊤
IsPlain (StatusChanged (Register name ReadEvents)) = ⊤
IsPlain _ = ⊥

plain_act_keeps_pending : (act : InstrumentAct) (log : List InstrumentAct) → IsPlain act → standard.Waits log
    → standard.IsPending (act ∷ log)
plain_act_keeps_pending (Exchanged act) [] plain s = absurd ((since_empty standard.IsAsked standard.IsPending).0 s).0
plain_act_keeps_pending EntryTaken [] plain s = absurd ((since_empty standard.IsAsked standard.IsPending).0 s).0
plain_act_keeps_pending (StatusChanged (Register name ReadEvents)) [] plain s =
    absurd ((since_empty standard.IsAsked standard.IsPending).0 s).0
plain_act_keeps_pending (Exchanged act) (older ∷ log) plain s = ((s.kept 0 (omega arith)).0, refl)
plain_act_keeps_pending EntryTaken (older ∷ log) plain s = ((s.kept 0 (omega arith)).0, refl)
plain_act_keeps_pending (StatusChanged (Register name ReadEvents)) (older ∷ log) plain s = ((s.kept 0 (omega arith)).0, refl)
plain_act_keeps_pending _ log plain s = absurd plain

plain_act_asks_no_opc : (act : InstrumentAct) (log : List InstrumentAct) → IsPlain act → standard.IsAsked (act ∷ log) → ⊥
plain_act_asks_no_opc (Exchanged act) log plain h = h
plain_act_asks_no_opc EntryTaken log plain h = h
plain_act_asks_no_opc (StatusChanged (Register name ReadEvents)) log plain h = h
plain_act_asks_no_opc _ log plain h = absurd plain

plain_act_completes_no_opc : (act : InstrumentAct) (log : List InstrumentAct) → IsPlain act → standard.Completes (act ∷ log) → ⊥
plain_act_completes_no_opc act log plain h = elim h.1 [
  | inl asked ↦ plain_act_asks_no_opc act log plain asked
  | inr waits ↦ absurd (let z : true ≡ false = sym h.0 ∙ (plain_act_keeps_pending act log plain waits.0).0 in cc)
]

plain_act_sets_no_standard : (k : ℕ) (act : InstrumentAct) (log : List InstrumentAct) → IsPlain act → standard.Occurs k (act ∷ log) → ⊥
plain_act_sets_no_standard k (Exchanged act) log plain h = plain_act_completes_no_opc (Exchanged act) log plain h.1
plain_act_sets_no_standard k EntryTaken log plain h = plain_act_completes_no_opc EntryTaken log plain h.1
plain_act_sets_no_standard k (StatusChanged (Register name ReadEvents)) log plain h =
    plain_act_completes_no_opc (StatusChanged (Register name ReadEvents)) log plain h.1
plain_act_sets_no_standard k _ log plain h = absurd plain

plain_act_clears_no_standard : (act : InstrumentAct) (log : List InstrumentAct) → IsPlain act → standard.NotCleared (act ∷ log)
plain_act_clears_no_standard (Exchanged act) log plain = tt
plain_act_clears_no_standard EntryTaken log plain = tt
plain_act_clears_no_standard (StatusChanged (Register name ReadEvents)) log plain = tt
plain_act_clears_no_standard _ log plain = absurd plain

-- Such an act leaves the standard event register as it is.
pub plain_act_keeps_standard : (k : ℕ) (act : InstrumentAct) (log : List InstrumentAct) → IsPlain act
    → standard.Stands k (act ∷ log) ↔ standard.Stands k log
plain_act_keeps_standard k act log plain = since_skips_act (standard.Occurs k) standard.NotCleared act log
    (plain_act_sets_no_standard k act log plain)
    (λ s. plain_act_clears_no_standard act log plain)

-- ---- a step

-- `acts` are the acts of the instrument in `log`. Links, suspended calls, clock and scanner are the
-- same as in the log `base`.
pub record Stage (base log : List Act) (acts : List InstrumentAct) : Type 0 where
  pub calm : Calm (device_acts log) (device_acts base)
  pub is : instrument_acts (device_acts log) ≡ acts

abbrev pub happened : List InstrumentAct → List Act → List Act
happened adds log = map OnDevice (map Applied adds) ++ log

pub stage_after_acts : (base log : List Act) (adds acts : List InstrumentAct) → Stage base log acts
    → scan_acts (adds ++ acts) ≡ scan_acts acts → Stage base (happened adds log) (adds ++ acts)
stage_after_acts base log adds acts s scans =
    let there : device_acts (happened adds log) ≡ map Applied adds ++ device_acts log = device_acts_append (map Applied adds) log in
    let now : instrument_acts (device_acts (happened adds log)) ≡ adds ++ acts =
    ap instrument_acts there ∙ instrument_acts_applied adds (device_acts log) ∙ ap (λ (l : List InstrumentAct). adds ++ l) s.is in
    record {
      calm = record {
        links = ap link_acts there ∙ link_acts_applied adds (device_acts log) ∙ s.calm.links;
        calls = ap wait_acts there ∙ wait_acts_applied adds (device_acts log) ∙ s.calm.calls;
        clock = ap ticks there ∙ ticks_applied adds (device_acts log) ∙ s.calm.clock;
        scans = ap scan_acts now ∙ scans ∙ ap scan_acts (sym s.is) ∙ s.calm.scans;
      };
      is = now;
    }

pub step_next : (config : Config) (base log : List Act) (adds acts : List InstrumentAct) → Resting config base → Stage base log acts
    → IsStep acts (adds ++ acts) → IsNext config log (happened adds log)
step_next config base log adds acts rest s step = instrument_step_is_next config log base (happened adds log) rest s.calm
    (adds, subst (λ (l : List InstrumentAct). IsStep l (adds ++ l)) (sym s.is) step, refl)

pub stage_settled : (config : Config) (base log : List Act) (acts : List InstrumentAct) → Resting config base → Stage base log acts
    → held_unit acts ≡ None → due (exchange_acts acts) ≡ NothingDue → IsSettled config log
stage_settled config base log acts rest s held none = λ new next.
    let step = calm_step_is_of_instrument config log base new rest s.calm next in
    none_due acts (step.0 ++ acts) (sym held) (sym none)
    (subst (λ (l : List InstrumentAct). IsStep l (step.0 ++ l)) s.is step.1)

pub finish_step : (acts : List InstrumentAct) → held_unit acts ≡ None → due (exchange_acts acts) ≡ FinishDue
    → IsStep acts (Exchanged Finished ∷ acts)
finish_step acts held finish = step_of acts (Exchanged Finished ∷ acts) None FinishDue (sym held) (sym finish) refl

-- ---- all messages are finished

-- The steps that are due lead to a log in which `bytes` is the response and all text was executed.
-- They change neither the standard event register nor the error queue.
pub record Ends (c : ℕ) (config : Config) (base log : List Act) (acts : List InstrumentAct) (bytes : List ℕ) : Type 0 where
  pub end : List Act
  pub last : List InstrumentAct
  pub steps : ℕ
  pub settles : SettlesIn steps config log end
  pub stage : Stage base end last
  pub over : Over 0 bytes (exchange_acts last)
  pub held : held_unit last ≡ None
  pub mine : of c end ≡ of c log
  pub queue : queue_acts last ≡ queue_acts acts
  pub codes : reported last ≡ reported acts
  pub stands : (k : ℕ) → standard.Stands k last ↔ standard.Stands k acts

pub finishes_all_messages : (c lines : ℕ) (config : Config) (base log : List Act) (acts : List InstrumentAct) (bytes : List ℕ)
    → Resting config base
    → Stage base log acts → Over lines bytes (exchange_acts acts) → held_unit acts ≡ None → Ends c config base log acts bytes
finishes_all_messages c zero config base log acts bytes rest s over held = record {
  end = log;
  last = acts;
  steps = 0;
  settles = (
    stage_settled config base log acts rest s held (nothing_due (exchange_acts acts)
        (over_zero_is_at_rest bytes (exchange_acts acts) over)),
    refl,
  );
  stage = s;
  over = over;
  held = held;
  mine = refl;
  queue = refl;
  codes = refl;
  stands = λ k. ((λ h. h), (λ h. h));
}
finishes_all_messages c (suc lines) config base log acts bytes rest s over held =
    let adds : List InstrumentAct = Exchanged Finished ∷ [] in
    let now = happened adds log in
    let more = finishes_all_messages c lines config base now (adds ++ acts) bytes rest (stage_after_acts base log adds acts s refl)
    (finished_empty lines bytes (exchange_acts acts) over) held in
    record {
      end = more.end;
      last = more.last;
      steps = suc more.steps;
      settles = (
        now,
        step_next config base log adds acts rest s
            (finish_step acts held (empty_due lines bytes (exchange_acts acts) over)),
        more.settles,
      );
      stage = more.stage;
      over = more.over;
      held = more.held;
      mine = more.mine;
      queue = more.queue;
      codes = more.codes;
      stands = λ k. iff_transitive (more.stands k) (plain_act_keeps_standard k (Exchanged Finished) acts tt);
    }
