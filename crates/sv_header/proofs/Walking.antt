-- Steps of the walk: the command that it finds at a node, below it, or at a later sibling.
use Rattle.std.proofs.Common.{◌≡◌, ℕ, zero, suc, ◌-◌, ◌<◌, ◌≤◌, min, get_or, Bool, true, false, List, [], ◌∷◌, ◌++◌, length, take, drop, Option, Some, None, is_some, refl, sym, ap, ◌∙◌, subst, inl, inr, arith, length-take, length-drop}
use Rattle.std.specs.Bool.{then_some}
use Rattle.std.proofs.lemmas.Bool.{cases_lt}
use Rattle.std.proofs.lemmas.List.{take_all, take_rest, drop_all}
use Rattle.sv_header.specs.declared.command.CommandId.{CommandId}
use Rattle.sv_header.specs.declared.left.Mnemonics.{Mnemonics}
use Rattle.sv_header.specs.declared.branch.Branch.{Branch}
use Rattle.std.specs.Borrow.{Bor}
use Rattle.std.specs.Prelude.{◌↔◌, IsTrue}
use Rattle.sv_header.specs.Pattern.{Part, IsForm}
use Rattle.sv_header.specs.Plain.{part, left_of, led_by, sent_of}
use Rattle.sv_header.specs.Inside.Tree.{command_of, IsParted}
use Rattle.sv_header.specs.Inside.Walk.{Takes, Ends, LeadsBelow, Leads, IsFound, OnLeft, IsBehind, IsAllOf}

take_at_most : (n : ℕ) (nodes : List Branch) → take (min n (length nodes)) nodes ≡ take n nodes
take_at_most n nodes =
    elim (cases_lt n (length nodes)) [
      | inl lt ↦ ap (λ m. take m nodes) (omega (arith, lt))
      | inr ge ↦ take_all (min n (length nodes)) nodes (omega (arith, ge)) ∙ sym (take_all n nodes ge)
    ]

drop_at_most : (n : ℕ) (nodes : List Branch) → drop (min n (length nodes)) nodes ≡ drop n nodes
drop_at_most n nodes =
    elim (cases_lt n (length nodes)) [
      | inl lt ↦ ap (λ m. drop m nodes) (omega (arith, lt))
      | inr ge ↦ drop_all (min n (length nodes)) nodes (omega (arith, ge)) ∙ sym (drop_all n nodes ge)
    ]

-- The nodes after the first one are split behind those that are below it.
pub is_parted : (branches children siblings : List Branch) (fallback : Branch) (size : ℕ) → 1 ≤ length branches
    → size ≡ min (get_or branches 0 fallback).below (length (take (length branches - 1) (drop 1 branches)))
    → children ≡ take size (take (length branches - 1) (drop 1 branches))
    → siblings ≡ drop size (take (length branches - 1) (drop 1 branches))
    → IsParted branches (get_or branches 0 fallback) children siblings
is_parted [] children siblings fallback size some is front back = absurd (omega (arith, some))
is_parted (first ∷ behind) children siblings fallback size some is front back =
    let all : take (length (first ∷ behind) - 1) (drop 1 (first ∷ behind)) ≡ behind = take_rest (first ∷ behind) 1 in
    let few : size ≡ min first.below (length behind) = is ∙ ap (λ (nodes : List Branch). min first.below (length nodes)) all in (
      refl,
      front ∙ ap (take size) all ∙ ap (λ n. take n behind) few ∙ take_at_most first.below behind,
      back ∙ ap (drop size) all ∙ ap (λ n. drop n behind) few ∙ drop_at_most first.below behind,
    )

-- The nodes below the first sibling, and the later siblings, are each fewer than all nodes.
pub parts_are_fewer : (branches : List Branch) (branch : Branch) (children siblings : List Branch)
    → IsParted branches branch children siblings → (length children < length branches) × (length siblings < length branches)
parts_are_fewer [] branch children siblings p = absurd p
parts_are_fewer (first ∷ behind) branch children siblings p =
    let front : length children ≡ length (take first.below behind) = ap length p.1 in
    let back : length siblings ≡ length (drop first.below behind) = ap length p.2 in
    (omega (arith, front, length-take first.below behind), omega (arith, back, length-drop first.below behind))

takes_unique : (left : List (List ℕ)) (part : Part) (first second : List (List ℕ)) → Takes left part first → Takes left part second
    → first ≡ second
takes_unique [] part first second a b = absurd a
takes_unique (mnemonic ∷ behind) part first second a b = a.1 ∙ sym b.1

-- The mnemonics that remain after a node lead to this command at the node or below it.
abbrev LeadsFrom : ℕ → Bool → Branch → List Branch → List (List ℕ) → CommandId → Type 0
LeadsFrom fuel query branch children left command = LeadsBelow query branch (λ rest. Leads fuel query children rest command) left command

to_first : (fuel : ℕ) (query : Bool) (first : Branch) (behind : List Branch) (branch : Branch) (children siblings : List Branch)
    → IsParted (first ∷ behind) branch children siblings → (left : List (List ℕ)) (command : CommandId)
    → LeadsFrom fuel query branch children left command → LeadsFrom fuel query first (take first.below behind) left command
to_first fuel query first behind branch children siblings p left command h =
    subst (λ nodes. LeadsFrom fuel query first nodes left command) p.1
    (subst (λ place. LeadsFrom fuel query place children left command) p.0 h)

from_first : (fuel : ℕ) (query : Bool) (first : Branch) (behind : List Branch) (branch : Branch) (children siblings : List Branch)
    → IsParted (first ∷ behind) branch children siblings → (left : List (List ℕ)) (command : CommandId)
    → LeadsFrom fuel query first (take first.below behind) left command → LeadsFrom fuel query branch children left command
from_first fuel query first behind branch children siblings p left command h =
    subst (λ place. LeadsFrom fuel query place children left command) (sym p.0)
    (subst (λ nodes. LeadsFrom fuel query first nodes left command) (sym p.1) h)

-- The walk found this command, or none, at a node or below it, with the mnemonics that remain after
-- the node.
abbrev pub FoundBelow : Bool → Branch → List Branch → Option Mnemonics → Option CommandId → Type 0
FoundBelow query branch children way found = (fuel : ℕ) → length children ≤ fuel
    → IsFound found (λ command. OnLeft way (λ left. LeadsFrom fuel query branch children left command))

-- The walk found a command after the node took the first mnemonic.
pub found_if_node_taken : (query : Bool) (branches : List Branch) (branch : Branch) (children siblings : List Branch) (left : List (List ℕ))
    (way : Option Mnemonics) (found : Option CommandId) → IsParted branches branch children siblings → IsBehind left (part branch.node) way
    → FoundBelow query branch children way found → is_some found ≡ true
    → (fuel : ℕ) → length branches ≤ fuel → IsFound found (λ command. Leads fuel query branches left command)
found_if_node_taken query [] branch children siblings left way found p w below some fuel le = absurd p
found_if_node_taken query (first ∷ behind) branch children siblings left way found p w below some zero le = absurd (omega arith)
found_if_node_taken query (first ∷ behind) branch children siblings left way None p w below some (suc fuel) le = absurd cc
found_if_node_taken query (first ∷ behind) branch children siblings left None (Some command) p w below some (suc fuel) le =
    let fewer = parts_are_fewer (first ∷ behind) branch children siblings p in
    absurd (below fuel (omega (arith, fewer.0)))
found_if_node_taken query (first ∷ behind) branch children siblings left (Some others) (Some command) p w below some (suc fuel) le =
    let fewer = parts_are_fewer (first ∷ behind) branch children siblings p in
    let takes = subst (λ place. Takes left (part place.node) (left_of others)) p.0 w in
    let on = to_first fuel query first behind branch children siblings p (left_of others) command (below fuel (omega (arith, fewer.0))) in
    inl (inl (left_of others, takes, on))

-- The walk found a command after the optional node was omitted.
pub found_if_node_omitted : (query : Bool) (branches : List Branch) (branch : Branch) (children siblings : List Branch)
    (left : List (List ℕ))
    (way : Option Mnemonics) (found : Option CommandId) → IsParted branches branch children siblings → IsAllOf left (part branch.node) way
    → FoundBelow query branch children way found → is_some found ≡ true
    → (fuel : ℕ) → length branches ≤ fuel → IsFound found (λ command. Leads fuel query branches left command)
found_if_node_omitted query [] branch children siblings left way found p w below some fuel le = absurd p
found_if_node_omitted query (first ∷ behind) branch children siblings left way found p w below some zero le = absurd (omega arith)
found_if_node_omitted query (first ∷ behind) branch children siblings left way None p w below some (suc fuel) le = absurd cc
found_if_node_omitted query (first ∷ behind) branch children siblings left None (Some command) p w below some (suc fuel) le =
    let fewer = parts_are_fewer (first ∷ behind) branch children siblings p in
    absurd (below fuel (omega (arith, fewer.0)))
found_if_node_omitted query (first ∷ behind) branch children siblings left (Some all) (Some command) p w below some (suc fuel) le =
    let fewer = parts_are_fewer (first ∷ behind) branch children siblings p in
    let may : first.node.optional ≡ true = ap (λ place. place.node.optional) (sym p.0) ∙ w.0 in
    let on = to_first fuel query first behind branch children siblings p (left_of all) command (below fuel (omega (arith, fewer.0))) in
    inl (inr (may, subst (λ rest. LeadsFrom fuel query first (take first.below behind) rest command) w.1 on))

-- No command is found at the first sibling or below it, nor at a later sibling. So none is found at
-- all.
none_found_at_siblings : (fuel : ℕ) (query : Bool) (first : Branch) (behind : List Branch) (branch : Branch)
    (children siblings : List Branch)
    (left : List (List ℕ)) (there absent : Option Mnemonics) (command : CommandId)
    → IsParted (first ∷ behind) branch children siblings → IsBehind left (part branch.node) there → IsAllOf left (part branch.node) absent
    → (OnLeft there (λ rest. LeadsFrom fuel query branch children rest command) → ⊥)
    → (OnLeft absent (λ rest. LeadsFrom fuel query branch children rest command) → ⊥)
    → (Leads fuel query siblings left command → ⊥) → Leads (suc fuel) query (first ∷ behind) left command → ⊥
none_found_at_siblings fuel query first behind branch children siblings left None absent command p w v a b c (inl (inl h)) =
    w h.0 (subst (λ place. Takes left (part place.node) h.0) (sym p.0) h.1)
none_found_at_siblings fuel query first behind branch children siblings left (Some others) absent command p w v a b c (inl (inl h)) =
    let takes = subst (λ place. Takes left (part place.node) h.0) (sym p.0) h.1 in
    let same : h.0 ≡ left_of others = takes_unique left (part branch.node) h.0 (left_of others) takes w in
    let on = from_first fuel query first behind branch children siblings p h.0 command h.2 in
    a (subst (λ rest. LeadsFrom fuel query branch children rest command) same on)
none_found_at_siblings fuel query first behind branch children siblings left there None command p w v a b c (inl (inr h)) =
    let may : branch.node.optional ≡ true = ap (λ place. place.node.optional) p.0 ∙ h.0 in
    let not_so : branch.node.optional ≡ false = v in
    let e : true ≡ false = sym may ∙ not_so in
    absurd cc
none_found_at_siblings fuel query first behind branch children siblings left there (Some all) command p w v a b c (inl (inr h)) =
    let on = from_first fuel query first behind branch children siblings p left command h.1 in
    b (subst (λ rest. LeadsFrom fuel query branch children rest command) (sym v.1) on)
none_found_at_siblings fuel query first behind branch children siblings left there absent command p w v a b c (inr h) =
    c (subst (λ nodes. Leads fuel query nodes left command) (sym p.2) h)

-- If no command is found at the first sibling or below it, the result is the one for the later
-- siblings.
pub found_at_later_sibling : (query : Bool) (branches : List Branch) (branch : Branch) (children siblings : List Branch)
    (left : List (List ℕ))
    (there absent : Option Mnemonics) (first second found : Option CommandId) → IsParted branches branch children siblings
    → IsBehind left (part branch.node) there → IsAllOf left (part branch.node) absent
    → FoundBelow query branch children there first → is_some first ≡ false
    → FoundBelow query branch children absent second → is_some second ≡ false
    → ((fuel : ℕ) → length siblings ≤ fuel → IsFound found (λ command. Leads fuel query siblings left command))
    → (fuel : ℕ) → length branches ≤ fuel → IsFound found (λ command. Leads fuel query branches left command)
found_at_later_sibling query [] branch children siblings left there absent first second found p w v a no_first b no_second c fuel le =
    absurd p
found_at_later_sibling query (node ∷ behind) branch children siblings left there absent first second found p w v a no_first b no_second c
    zero le =
    absurd (omega arith)
found_at_later_sibling query (node ∷ behind) branch children siblings left there absent (Some wrong) second found p w v a no_first b
    no_second c
    (suc fuel) le = absurd cc
found_at_later_sibling query (node ∷ behind) branch children siblings left there absent None (Some wrong) found p w v a no_first b no_second
    c
    (suc fuel) le = absurd cc
found_at_later_sibling query (node ∷ behind) branch children siblings left there absent None None (Some command) p w v a no_first b
    no_second c
    (suc fuel) le =
    let fewer = parts_are_fewer (node ∷ behind) branch children siblings p in
    inr (subst (λ nodes. Leads fuel query nodes left command) p.2 (c fuel (omega (arith, fewer.1))))
found_at_later_sibling query (node ∷ behind) branch children siblings left there absent None None None p w v a no_first b no_second c
    (suc fuel) le =
    let fewer = parts_are_fewer (node ∷ behind) branch children siblings p in
    let few : length children ≤ fuel = omega (arith, fewer.0) in
    let few_behind : length siblings ≤ fuel = omega (arith, fewer.1) in
    λ command h. none_found_at_siblings fuel query node behind branch children siblings left there absent command p w v (a fuel few command)
    (b fuel few command) (c fuel few_behind command) h

-- If the first mnemonic is a form of the node, the mnemonics after it remain.
pub rest_if_form : (left rest : Mnemonics) (node : Part) (first : Bor (List ℕ)) (fits : Bool) (taken : Option Mnemonics)
    → left.first ≡ Some first → (IsTrue fits ↔ IsForm first.now node) → fits ≡ true → left_of rest ≡ left.kept.now ++ sent_of left.sent
    → taken ≡ Some rest → IsBehind (left_of left) node taken
rest_if_form left rest node first fits taken is form does same e =
    subst (IsBehind (left_of left) node) (sym e)
    (subst (λ (f : Option (Bor (List ℕ))). Takes (led_by f (left.kept.now ++ sent_of left.sent)) node (left_of rest)) (sym is)
    (form.0 does, same))

-- The first of these mnemonics, if there is one, is no form of the node.
abbrev TakesNone : List (List ℕ) → Part → Type 0
TakesNone left node = (others : List (List ℕ)) → Takes left node others → ⊥

pub none_if_other : (left : Mnemonics) (node : Part) (first : Bor (List ℕ)) (fits : Bool) (taken : Option Mnemonics)
    → left.first ≡ Some first → (IsTrue fits ↔ IsForm first.now node) → fits ≡ false → taken ≡ None → IsBehind (left_of left) node taken
none_if_other left node first fits taken is form doesnt e =
    subst (IsBehind (left_of left) node) (sym e)
    (subst (λ (f : Option (Bor (List ℕ))). TakesNone (led_by f (left.kept.now ++ sent_of left.sent)) node) (sym is)
    (λ others takes. (let both : false ≡ true = sym doesnt ∙ form.1 takes.0 in absurd cc)))

pub none_if_nothing : (left : Mnemonics) (node : Part) (taken : Option Mnemonics) → left.first ≡ None → taken ≡ None
    → IsBehind (left_of left) node taken
none_if_nothing left node taken is e =
    subst (IsBehind (left_of left) node) (sym e)
    (subst (λ (f : Option (Bor (List ℕ))). TakesNone (led_by f (left.kept.now ++ sent_of left.sent)) node) (sym is) (λ others takes. takes))

-- All mnemonics remain at a node exactly if a header can omit this node.
pub all_if_optional : (branches : List Branch) (branch : Branch) (children siblings : List Branch) (left : Mnemonics)
    (all : Option Mnemonics)
    → IsParted branches branch children siblings → all ≡ then_some branch.node.optional left → IsAllOf (left_of left) (part branch.node) all
all_if_optional branches branch children siblings left all p is = at branch.node.optional refl is
  where
    at : (t : Bool) → branch.node.optional ≡ t → all ≡ then_some t left → IsAllOf (left_of left) (part branch.node) all
    at true may e = subst (IsAllOf (left_of left) (part branch.node)) (sym e) (may, refl)
    at false may e = subst (IsAllOf (left_of left) (part branch.node)) (sym e) may

-- If the node itself names no command for these mnemonics, the result is the one for the nodes
-- below.
below_node : (query : Bool) (branch : Branch) (children : List Branch) (left : Mnemonics) (found : Option CommandId)
    → ((command : CommandId) → Ends (left_of left) (command_of query branch) command → ⊥)
    → ((fuel : ℕ) → length children ≤ fuel → IsFound found (λ command. Leads fuel query children (left_of left) command))
    → FoundBelow query branch children (Some left) found
below_node query branch children left (Some command) none below = λ fuel le. inr (below fuel le)
below_node query branch children left None none below =
    λ fuel le command h. elim h [ inl ends ↦ none command ends | inr on ↦ below fuel le command on ]

pub found_below : (query : Bool) (branch : Branch) (children : List Branch) (way : Option Mnemonics) (left : Mnemonics)
    (found : Option CommandId) → way ≡ Some left → ((command : CommandId) → Ends (left_of left) (command_of query branch) command → ⊥)
    → ((fuel : ℕ) → length children ≤ fuel → IsFound found (λ command. Leads fuel query children (left_of left) command))
    → FoundBelow query branch children way found
found_below query branch children way left found e none below =
    subst (λ w. FoundBelow query branch children w found) (sym e) (below_node query branch children left found none below)
