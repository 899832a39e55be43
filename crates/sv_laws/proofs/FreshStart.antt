-- After device_clear, `*RST` and `*CLS`, the instrument is fresh (`IsFresh`): the law `FreshStart`.
use Rattle.std.proofs.Common.{◌≡◌, ℕ, true, false, List, [], ◌∷◌, ◌++◌, refl, ap, subst, ◌∙◌, inl, inr, append-nil}
use Rattle.std.specs.Prelude.{map}
use Rattle.std.specs.List.{AllByRecursion}
use Rattle.sv_status.specs.declared.register_name.RegisterName.TheVariants.{Operation, Questionable}
use Rattle.sv_scan.specs.declared.acts.ScanAct.{ScanAct}
use Rattle.sv_scan.specs.declared.acts.ScanAct.TheVariants.{Reset}
use Rattle.sv_scan.specs.Setting.{scan_list, monitor, range, upper, lower, limits, source, count}
use Rattle.sv_scan.specs.Scan.{state}
use Rattle.sv_scan.specs.Counted.{effective, is_idle as idles}
use Rattle.sv_exchange.specs.Exchange.{Accepted, Finished, Symbol, Byte, end_mark, symbols_of, text, response, answers, is_something}
use Rattle.sv_layers.specs.Act.{Act, Exchanged, Purged, Scanned, Cleared, exchange_acts, scan_acts}
use Rattle.sv_layers.specs.StatusByte.{SummaryBit, PolledBit}
use Rattle.sv_instrument.specs.CommandEffect.{done}
use Rattle.sv_history.specs.Act.{instrument_acts}
use Rattle.sv_laws.specs.Conformance.{SameSettings, HasDefaults, IsCleared, IsReset}
use Rattle.sv_laws.specs.FreshStart.{IsText, IsTextOrScan, IsFresh, FreshStart}
use Rattle.sv_laws.proofs.Conformance.{settings_then, request_master, clear_clears, reset_leaves}

-- ---- text comes, and the scanner may act

text_is_either : (more : List Act) → AllByRecursion IsText more → AllByRecursion IsTextOrScan more
text_is_either [] h = tt
text_is_either (Exchanged (Accepted bytes ended) ∷ more) h = (tt, text_is_either more h.1)
text_is_either (Exchanged Finished ∷ more) h = (tt, text_is_either more h.1)
text_is_either (_ ∷ more) h = absurd h.0

settings_text : (more log : List Act) → AllByRecursion IsTextOrScan more → SameSettings (more ++ log) log
settings_text [] log h = ((λ name. (refl, refl, refl)), refl, refl)
settings_text (Exchanged act ∷ more) log h = settings_text more log h.1
settings_text (Scanned act ∷ more) log h = settings_text more log h.1
settings_text (_ ∷ more) log h = absurd h.0

scan_text : (more log : List Act) → AllByRecursion IsText more → scan_acts (more ++ log) ≡ scan_acts log
scan_text [] log h = refl
scan_text (Exchanged act ∷ more) log h = scan_text more log h.1
scan_text (_ ∷ more) log h = absurd h.0

-- There is no response, and the current message has no answers.
abbrev IsQuiet : List Act → Type 0
IsQuiet log = (response (exchange_acts log) ≡ []) × (answers (exchange_acts log) ≡ [])

-- Finishing a message without answers makes no response.
quiet_finished : (log : List Act) → IsQuiet log → IsQuiet (Exchanged Finished ∷ log)
quiet_finished log quiet = (rw quiet.1 quiet.0, refl)

quiet_text : (more log : List Act) → AllByRecursion IsTextOrScan more → IsQuiet log → IsQuiet (more ++ log)
quiet_text [] log h quiet = quiet
quiet_text (Exchanged (Accepted bytes ended) ∷ more) log h quiet = quiet_text more log h.1 quiet
quiet_text (Exchanged Finished ∷ more) log h quiet = quiet_finished (more ++ log) (quiet_text more log h.1 quiet)
quiet_text (Scanned act ∷ more) log h quiet = quiet_text more log h.1 quiet
quiet_text (_ ∷ more) log h quiet = absurd h.0

-- If the program text is all that was sent, it still is after more text was accepted.
sent_text : (more sent log : List Act) → AllByRecursion IsTextOrScan more → text (exchange_acts log) ≡ symbols_of (exchange_acts sent)
    → text (exchange_acts (more ++ log)) ≡ symbols_of (exchange_acts (more ++ sent))
sent_text [] sent log h same = same
sent_text (Exchanged (Accepted bytes ended) ∷ more) sent log h same =
    ap (λ (t : List Symbol). t ++ (map Byte bytes ++ end_mark ended)) (sent_text more sent log h.1 same)
sent_text (Exchanged Finished ∷ more) sent log h same = sent_text more sent log h.1 same
sent_text (Scanned act ∷ more) sent log h same = sent_text more sent log h.1 same
sent_text (_ ∷ more) sent log h same = absurd h.0

-- Whether the scanner has its default settings depends only on the acts of the scanner.
same_scans_same_defaults : (one two : List Act) → scan_acts one ≡ scan_acts two → HasDefaults two → HasDefaults one
same_scans_same_defaults one two same has = record {
  list = ap (λ (l : List ScanAct). scan_list (effective l)) same ∙ has.list;
  monitored = ap (λ (l : List ScanAct). monitor (effective l)) same ∙ has.monitored;
  range = ap (λ (l : List ScanAct). range (effective l)) same ∙ has.range;
  upper = ap (λ (l : List ScanAct). upper (effective l)) same ∙ has.upper;
  lower = ap (λ (l : List ScanAct). lower (effective l)) same ∙ has.lower;
  limits = ap (λ (l : List ScanAct). limits (effective l)) same ∙ has.limits;
  source = ap (λ (l : List ScanAct). source (effective l)) same ∙ has.source;
  count = ap (λ (l : List ScanAct). count (effective l)) same ∙ has.count;
  idle = ap (λ (l : List ScanAct). idles (state (effective l))) same ∙ has.idle;
}

-- ---- the status byte after *CLS

none_set : (k : ℕ) (log : List Act) → IsCleared log (done (Cleared ∷ log)) → response (exchange_acts (done (Cleared ∷ log))) ≡ []
    → SummaryBit k (done (Cleared ∷ log)) → ⊥
none_set k log clear empty (inl (is, (bit, stands, on))) = clear.events Operation bit stands
none_set k log clear empty (inr (inl (is, (bit, stands, on)))) = clear.standard bit stands
none_set k log clear empty (inr (inr (inl (is, some)))) =
    let z : false ≡ true = subst (λ (r : List ℕ). is_something r ≡ true) empty some in cc
none_set k log clear empty (inr (inr (inr (inl (is, (bit, stands, on)))))) = clear.events Questionable bit stands
none_set k log clear empty (inr (inr (inr (inr (is, some))))) = let z : false ≡ true = some in cc

none_polled : (k : ℕ) (log : List Act) → IsCleared log (done (Cleared ∷ log)) → response (exchange_acts (done (Cleared ∷ log))) ≡ []
    → PolledBit k (done (Cleared ∷ log)) → ⊥
none_polled k log clear empty (inl set) = none_set k log clear empty set
none_polled k log clear empty (inr (is, request)) =
    let master = request_master (done (Cleared ∷ log)) request in none_set master.0 log clear empty master.1.0

-- ---- a fresh start

fresh : (log first second : List Act) → AllByRecursion IsTextOrScan first → AllByRecursion IsText second
    → IsFresh log (second ++ first) (done (Cleared ∷ (second ++ done (Scanned Reset ∷ (first ++ Purged ∷ log)))))
fresh log first second one two =
    let purged = first ++ Purged ∷ log in
    let reset = done (Scanned Reset ∷ purged) in
    let sent = second ++ reset in
    let new = done (Cleared ∷ sent) in
    let was : IsReset purged reset = reset_leaves purged reset refl in
    let clear : IsCleared sent new = clear_clears sent new refl in
    let either = text_is_either second two in
    let before : IsQuiet purged = quiet_text first (Purged ∷ log) one (refl, refl) in
    let quiet : IsQuiet sent = quiet_text second reset either (was.response.0 ∙ before.0, was.response.1 ∙ before.1) in
    let came : text (exchange_acts purged) ≡ symbols_of (exchange_acts first) =
    subst (λ (l : List Act). text (exchange_acts purged) ≡ symbols_of (exchange_acts l)) (append-nil first)
    (sent_text first [] (Purged ∷ log) one refl) in
    let empty : response (exchange_acts new) ≡ [] = clear.response.0 ∙ quiet.0 in
    record {
      defaults = same_scans_same_defaults new reset (clear.scanner ∙ scan_text second reset two) was.defaults;
      events = clear.events;
      standard = clear.standard;
      status = λ k. none_polled k sent clear empty;
      queue = clear.queue;
      waits = clear.waits;
      held = refl;
      text_is = sent_text second first reset either came;
      none_left = (empty, clear.response.1 ∙ quiet.1);
      settings = settings_then new sent log clear.settings
          (settings_then sent reset log (settings_text second reset either)
          (settings_then reset purged log was.settings (settings_text first (Purged ∷ log) one)));
    }

pub fresh_start : FreshStart
fresh_start config polled c lid flags lock_timeout io_timeout acts outcome first second reset new is one did two last =
    let log = instrument_acts acts in
    rw (last, did, is) (fresh log first second one two)
