-- Arguments that are added to a command in turn are its rules, in their order.
use Rattle.std.proofs.Common.{◌≡◌, ◌∙◌, ap, ap₂, sym, List, [], ◌∷◌, false}
use Rattle.std.specs.Prelude.{⊤}
use Rattle.clap.specs.Words.{App, Rule, with_rule, app_of, AddsArg, AddsInTurn}
use Rattle.clap.specs.Walk.{rule_of}
use Rattle.clap.specs.declared.builder.arg.Arg.{Arg}
use Rattle.clap.specs.declared.builder.command.Command.{Command}

-- These are the rules of the arguments. No argument is global, as clap calls one that each
-- subcommand has too.
abbrev pub HaveRules : List Arg → List Rule → Type 0
HaveRules [] [] = ⊤
HaveRules (arg ∷ args) (rule ∷ rules) = (arg.global ≡ false) × (rule_of arg ≡ rule) × HaveRules args rules
HaveRules _ _ = ⊥

-- the application after these rules were added in turn
abbrev pub with_rules : App → List Rule → App
with_rules app [] = app
with_rules app (rule ∷ rules) = with_rules (with_rule app rule) rules

pub added_rules : (old new : Command) (args : List Arg) (rules : List Rule) (app : App) → app_of old ≡ app → HaveRules args rules
    → AddsInTurn AddsArg old args new → app_of new ≡ with_rules app rules
added_rules old new [] [] app is have same = sym (ap app_of same) ∙ is
added_rules old new (arg ∷ args) (rule ∷ rules) app is (local, rule_is, have) (mid, adds, more) =
    added_rules mid new args rules (with_rule app rule) (adds.shape local ∙ ap₂ with_rule is rule_is) have more
added_rules old new [] (rule ∷ rules) app is have adds = absurd have
added_rules old new (arg ∷ args) [] app is have adds = absurd have
