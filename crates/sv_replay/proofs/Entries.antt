-- The entry that is read from a line of a scenario is the one that the line describes.
use Rattle.std.proofs.Common.{◌≡◌, ◌≢◌, ℕ, true, cond, ltb, List, [], ◌∷◌, ◌++◌, length, Option, Some, None, refl, sym, subst, ap, ◌∙◌, inl, inr}
use Rattle.std.specs.Prelude.{codes, is_none, IfSome}
use Rattle.std.proofs.lemmas.Bool.{cases_Bool, ltb-true, ltb-false}
use Rattle.std.proofs.lemmas.Option.{none-some, same_Some, option_and_then_some}
use Rattle.sv_history.specs.History.{input_refusal}
use Rattle.sv_replay.specs.declared.entry.Entry.{Entry}
use Rattle.sv_replay.specs.declared.entry.Stimulus.{Stimulus}
use Rattle.sv_replay.specs.declared.entry.Stimulus.TheVariants.{Input, External}
use Rattle.sv_replay.specs.Line.{SaysEvent}
use Rattle.sv_replay.specs.Reading.{cut_at, numbered_at, short_at, voltage_at}
use Rattle.sv_replay.specs.Entry.{stimulus_event, IsAccepted, SaysEntry}
use Rattle.sv_replay.specs.Scenario.{SaysFrom, IsBadFrom}
use Rattle.sv_replay.specs.EntryReading.{accepted_at, lone_stimulus_at, worded_stimulus_at, cut_stimulus_at, stimulus_at, entry_at, entry_from}
use Rattle.sv_replay.proofs.Options.{from_cond, from_word_match}
use Rattle.sv_replay.proofs.Numbers.{voltage_reads, voltage_takes, short_reads, short_takes}
use Rattle.sv_replay.proofs.Lines.{cut_reads, cut_takes, numbered_reads, numbered_takes}

none_from_test : {A : Type 0} (o : Option A) → is_none o ≡ true → o ≡ None
none_from_test None is = refl
none_from_test (Some x) is = absurd cc

-- A text that describes a stimulus is read as this stimulus, if the server accepts it.
pub stimulus_reads : (text : List ℕ) (stimulus : Stimulus) → SaysEvent text (stimulus_event stimulus) → IsAccepted stimulus
    → stimulus_at text ≡ Some stimulus
unfolding stimulus_at cut_at lone_stimulus_at worded_stimulus_at accepted_at
stimulus_reads text (Input channel microvolts) is fine =
    rw (is.4, numbered_reads channel is.0 is.1 is.2, voltage_reads is.1 microvolts is.3)
    (ap (λ o. cond (is_none o) (Some (Input channel microvolts)) None) fine)
stimulus_reads text External is fine = rw is refl

-- A text that is read as an `input` describes it, and the server accepts it.
input_stimulus_takes : (text rest : List ℕ) (stimulus : Stimulus) → text ≡ codes "input" ++ 32 ∷ rest → accepted_at rest ≡ Some stimulus
    → SaysEvent text (stimulus_event stimulus) × IsAccepted stimulus
unfolding accepted_at
input_stimulus_takes text rest stimulus text_is e =
    option_and_then_some _ (numbered_at rest) stimulus e (λ x numbered e1.
    option_and_then_some _ (voltage_at x.1) stimulus e1 (λ microvolts read e2.
    from_cond (is_none (input_refusal x.0 microvolts)) _ _ (Some stimulus) e2
    (λ fine e3. numbered_takes rest x numbered (λ number plain rest_is.
    subst (λ (s : Stimulus). SaysEvent text (stimulus_event s) × IsAccepted s) (same_Some (Input x.0 microvolts) stimulus e3) (
      (number, x.1, plain, voltage_takes x.1 microvolts read, text_is ∙ ap (λ t. codes "input " ++ t) rest_is),
      none_from_test (input_refusal x.0 microvolts) fine,
    )))
    (λ _ none. absurd (none-some stimulus none))))

-- The same for a text that was cut at its first space.
cut_takes_stimulus : (text : List ℕ) (cut : Option (List ℕ × List ℕ)) (stimulus : Stimulus) → cut_at text ≡ cut
    → cut_stimulus_at text cut ≡ Some stimulus → SaysEvent text (stimulus_event stimulus) × IsAccepted stimulus
unfolding lone_stimulus_at worded_stimulus_at
cut_takes_stimulus text None stimulus cut_is e =
    from_word_match text (codes "external") _ _ (Some stimulus) e
    (λ is e1. subst (λ (s : Stimulus). SaysEvent text (stimulus_event s) × IsAccepted s) (same_Some External stimulus e1) (is, tt))
    (λ none. absurd (none-some stimulus none))
cut_takes_stimulus text (Some cut) stimulus cut_is e =
    from_word_match cut.0 (codes "input") _ _ (Some stimulus) e
    (λ is e1. input_stimulus_takes text cut.1 stimulus
    (subst (λ (w : List ℕ). text ≡ w ++ 32 ∷ cut.1) is (cut_takes text cut cut_is)) e1)
    (λ none. absurd (none-some stimulus none))

-- A text that is read as a stimulus describes it, and the server accepts it.
pub stimulus_takes : (text : List ℕ) (stimulus : Stimulus) → stimulus_at text ≡ Some stimulus
    → SaysEvent text (stimulus_event stimulus) × IsAccepted stimulus
unfolding stimulus_at
stimulus_takes text stimulus e = cut_takes_stimulus text (cut_at text) stimulus refl e

-- A line that describes an entry is read as this entry.
pub entry_reads : (line : List ℕ) (entry : Entry) → SaysEntry line entry → entry_at line ≡ Some entry
unfolding entry_at
entry_reads line entry (digits, text, is, short, says, fine, line_is) =
    rw (line_is, cut_reads digits text is.1, short_reads entry.tick digits is short, stimulus_reads text entry.stimulus says fine) refl

-- A line that is read as an entry describes it.
entry_takes : (line : List ℕ) (entry : Entry) → entry_at line ≡ Some entry → SaysEntry line entry
unfolding entry_at
entry_takes line entry e =
    option_and_then_some _ (cut_at line) entry e (λ cut cut_is e1.
    option_and_then_some _ (short_at cut.0) entry e1 (λ tick read e2.
    option_and_then_some _ (stimulus_at cut.1) entry e2 (λ stimulus acts e3.
    let found : Entry = record { tick = tick; stimulus = stimulus } in
    let takes = short_takes tick cut.0 read in
    let says = stimulus_takes cut.1 stimulus acts in
    subst (SaysEntry line) (same_Some found entry e3) (cut.0, cut.1, takes.0, takes.1, says.0, says.1, cut_takes line cut cut_is))))

pub found_stimulus_is_said : (text : List ℕ) (result : Option Stimulus) → result ≡ stimulus_at text
    → IfSome result (λ stimulus. SaysEvent text (stimulus_event stimulus) × IsAccepted stimulus)
found_stimulus_is_said text None is = tt
found_stimulus_is_said text (Some stimulus) is = stimulus_takes text stimulus (sym is)

-- A line describes at most one entry.
pub entry_unique : (line : List ℕ) (a b : Entry) → SaysEntry line a → SaysEntry line b → a ≡ b
entry_unique line a b says_a says_b = same_Some a b (sym (entry_reads line a says_a) ∙ entry_reads line b says_b)

-- A line that is read as an entry at `least` or later describes such an entry.
pub later_entry_takes : (least : ℕ) (line : List ℕ) (entry : Entry) → entry_from least line ≡ Some entry → SaysFrom least line entry
unfolding entry_from
later_entry_takes least line entry e =
    from_cond (ltb 65536 (length line)) _ _ (Some entry) e
    (λ long none. absurd (none-some entry none))
    (λ short e1. option_and_then_some _ (entry_at line) entry e1 (λ found read e2.
    from_cond (ltb found.tick least) _ _ (Some entry) e2
    (λ early none. absurd (none-some entry none))
    (λ late e3. subst (SaysFrom least line) (same_Some found entry e3)
    (ltb-false 65536 (length line) short, entry_takes line found read, ltb-false found.tick least late))))

-- A line that can't be read as an entry at `least` or later is bad, unless it is empty.
pub unreadable_line_is_bad : (least : ℕ) (line : List ℕ) → line ≢ [] → entry_from least line ≡ None → IsBadFrom least line
unfolding entry_from
unreadable_line_is_bad least line some e = elim (cases_Bool (ltb 65536 (length line))) [
  | inl long ↦ inl (ltb-true 65536 (length line) long)
  | inr short ↦
      inr (
        some,
        λ entry says. elim (cases_Bool (ltb entry.tick least)) [
          | inl early ↦ ltb-true entry.tick least early
          | inr late ↦ absurd (none-some entry (sym (rw (short, entry_reads line entry says, late) at e)))
        ],
      )
]
