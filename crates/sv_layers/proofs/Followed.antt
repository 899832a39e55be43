-- A register whose condition isn't touched by an act keeps its condition, so it needs no update.
use Rattle.std.proofs.Common.{◌≡◌, ℕ, ◌+◌, Bool, true, false, List, ◌∷◌, refl, ap, ◌∙◌, sym, subst, bit_or}
use Rattle.std.proofs.lemmas.Bool.{cond_both}
use Rattle.sv_logs.proofs.Since.{iff_transitive}
use Rattle.sv_status.specs.declared.register_name.RegisterName.{RegisterName}
use Rattle.sv_status.specs.declared.register.RegisterAct.{RegisterAct}
use Rattle.sv_status.specs.declared.register.RegisterAct.TheVariants.{Condition}
use Rattle.sv_status.specs.Register as register
use Rattle.sv_status.specs.Register.{Latches, StandsFor}
use Rattle.sv_status.proofs.Registers.{event_unchanged}
use Rattle.sv_scan.specs.declared.touched.Touched.{Touched}
use Rattle.sv_scan.specs.declared.acts.ScanAct.{ScanAct}
use Rattle.sv_scan.specs.Stands.{Contents, StandsFor as Scans}
use Rattle.sv_scan.specs.Counted.{effective, counts}
use Rattle.sv_scan.specs.Scan.{last_reading}
use Rattle.sv_scan.specs.Condition as scan
use Rattle.sv_scan.specs.Touched.{IsTouched}
use Rattle.sv_layers.specs.Act.{Act, Exchanged, Scanned, scan_acts}
use Rattle.sv_layers.specs.Filter.{start}
use Rattle.sv_layers.specs.Condition.{effective_acts, condition}
use Rattle.sv_layers.specs.Inside.LayerLogs.{own, after_begin, register_acts, layer_logs}
use Rattle.sv_layers.proofs.Projected.{begun_scanner, begun_register}
use Rattle.sv_layers.proofs.Registered.{register_acts_after_act}

-- An update with the present condition changes nothing in a register.
pub same_condition_is_kept : (start : ℕ) (latches : Latches) (acts : List RegisterAct) (word : ℕ) → word ≡ register.condition acts
    → StandsFor start latches acts → StandsFor start latches (Condition word ∷ acts)
same_condition_is_kept start latches acts word same is = record {
  begins = is.begins;
  condition = is.condition ∙ sym same;
  rise = is.rise;
  fall = is.fall;
  enable = is.enable;
  event = λ k. let step = event_unchanged k word acts same in iff_transitive (is.event k) ((step.1, step.0));
}

-- Each condition word of the scanner that isn't touched is unchanged.
abbrev pub KeepsUntouched : Touched → List ScanAct → List ScanAct → Type 0
KeepsUntouched touched after before = (touched.operation ≡ false → scan.operation after ≡ scan.operation before)
    × (touched.questionable ≡ false → scan.questionable after ≡ scan.questionable before)
    × (touched.limit ≡ false → scan.limit after ≡ scan.limit before)

untouched_words_kept_by_scan : (touched : Touched) (act : ScanAct) (acts : List ScanAct) → IsTouched touched (effective (act ∷ acts))
    → KeepsUntouched touched (effective (act ∷ acts)) (effective acts)
untouched_words_kept_by_scan touched act acts = cond_both (counts (effective acts) act) (act ∷ effective acts) (effective acts)
    (λ (log : List ScanAct). IsTouched touched log → KeepsUntouched touched log (effective acts))
    (λ e is. is)
    (λ e is. ((λ no. refl), (λ no. refl), (λ no. refl)))

pub untouched_words_kept : (touched : Touched) (act : Act) (log : List Act) → IsTouched touched (effective_acts (act ∷ log))
    → KeepsUntouched touched (effective_acts (act ∷ log)) (effective_acts log)
untouched_words_kept touched (Scanned act) log is = untouched_words_kept_by_scan touched act (scan_acts log) is
untouched_words_kept touched (Exchanged act) log is = ((λ no. refl), (λ no. refl), (λ no. refl))
untouched_words_kept touched _ log is = ((λ no. refl), (λ no. refl), (λ no. refl))

-- After the first part of an act the scanner stands for its new log, and each register for its old
-- log.
pub begun_scans : (contents : Contents) (act : Act) (log : List Act) → Scans contents (after_begin act (layer_logs log)).scanner
    → Scans contents (scan_acts (act ∷ log))
begun_scans contents act log = subst (λ (acts : List ScanAct). Scans contents acts) (begun_scanner act log)

pub begun_stands : (name : RegisterName) (act : Act) (log : List Act) (latches : Latches)
    → StandsFor (start name) latches (register_acts name (after_begin act (layer_logs log)))
    → StandsFor (start name) latches (register_acts name (layer_logs log))
begun_stands name act log latches = subst (λ (acts : List RegisterAct). StandsFor (start name) latches acts) (begun_register name act log)

-- A register that got its new condition, and then the direct effect of an act that changes
-- registers as this act does, stands for its log after this act.
pub stands_after_direct_effect : (name : RegisterName) (other act : Act) (log : List Act) (latches : Latches) (word : ℕ)
    → word ≡ condition name (act ∷ log) → ((acts : List RegisterAct) → own name other acts ≡ own name act acts)
    → StandsFor (start name) latches (own name other (Condition word ∷ register_acts name (layer_logs log)))
    → StandsFor (start name) latches (register_acts name (layer_logs (act ∷ log)))
stands_after_direct_effect name other act log latches word told same =
    subst (λ (acts : List RegisterAct). StandsFor (start name) latches acts)
    (same (Condition word ∷ register_acts name (layer_logs log))
    ∙ ap (λ (w : ℕ). own name act (Condition w ∷ register_acts name (layer_logs log))) told ∙ sym (register_acts_after_act name act log))

-- Bits 0 and 9 don't overlap, so `or` adds them.
or_of_disjoint_bits : (low high : Bool) → bit_or (scan.bit 0 low) (scan.bit 9 high) ≡ scan.bit 0 low + scan.bit 9 high
or_of_disjoint_bits true true = refl
or_of_disjoint_bits true false = refl
or_of_disjoint_bits false true = refl
or_of_disjoint_bits false false = refl

pub questionable_is : (low high : ℕ) (acts : List ScanAct) (summary : Bool) → low ≡ scan.questionable acts → high ≡ scan.bit 9 summary
    → bit_or low high ≡ scan.questionable acts + scan.bit 9 summary
questionable_is low high acts summary first second =
    ap (λ (w : ℕ). bit_or w high) first ∙ ap (λ (w : ℕ). bit_or (scan.questionable acts) w) second
    ∙ or_of_disjoint_bits (scan.is_overload (last_reading acts)) summary
