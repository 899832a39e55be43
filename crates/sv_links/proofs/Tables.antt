-- After a link is created or destroyed, the table of links agrees with the acts.
use Rattle.std.proofs.Common.{◌≡◌, ◌≢◌, ℕ, ◌+◌, ◌<◌, ◌≤◌, Bool, true, false, eqb, List, [], ◌∷◌, ◌++◌, Option, Some, None, Result, Ok, Err, refl, sym, ap, ◌∙◌, arith}
use Rattle.std.specs.Prelude.{not, map, filter, length, slice_index_or, nat_lt, ◌&&◌}
use Rattle.std.specs.List.{AllByRecursion}
use Rattle.std.specs.Option.{option_eq}
use Rattle.std.proofs.lemmas.Bool.{cond_both, false≢true, le-ltb, lt-ltb, and_right}
use Rattle.std.proofs.lemmas.List.Elements.{All-filter, All-push, All-from_recursion, recursion_from_All}
use Rattle.sv_links.specs.declared.links.Link.{Link}
use Rattle.sv_links.specs.declared.links.CreateRefused.{CreateRefused}
use Rattle.sv_links.specs.declared.links.CreateRefused.TheVariants.{OutOfResources, NoMemory}
use Rattle.sv_links.specs.Limits.{max_links}
use Rattle.sv_links.specs.Links.{LinkAct, Made, Destroyed, live, may_make}
use Rattle.sv_links.specs.Table.{Table, IsTable, IsRising, count_of}
use Rattle.sv_links.proofs.Slots.{keep, kept_filter, kept_after_insert, kept_count}
use Rattle.sv_links.proofs.Locks.{holder_after_destroying, lock_destroyed}

-- The first link was made before the second.
abbrev pub IsOlder : Link → Link → Type 0
IsOlder x y = x.lid < y.lid

pub above_filter : (p : Link → Bool) (x : Link) (ys : List Link) → AllByRecursion (IsOlder x) ys → AllByRecursion (IsOlder x) (filter p ys)
above_filter p x ys h = recursion_from_All (IsOlder x) _ (All-filter p (IsOlder x) ys (All-from_recursion (IsOlder x) ys h))

pub rising_filter : (p : Link → Bool) (xs : List Link) (n : ℕ) → IsRising xs n → IsRising (filter p xs) n
rising_filter p [] n r = tt
rising_filter p (x ∷ xs) n r = cond_both (p x) (x ∷ filter p xs) (filter p xs) (λ ys. IsRising ys n)
    (λ _. (r.0, above_filter p x xs r.1, rising_filter p xs n r.2)) (λ _. rising_filter p xs n r.2)

pub rising_push : (xs : List Link) (n c : ℕ) → IsRising xs n → IsRising (xs ++ record { lid = n + 1; conn = c } ∷ []) (n + 1)
rising_push [] n c r = (omega arith, tt, tt)
rising_push (x ∷ xs) n c r = (
  omega (arith, r.0),
  recursion_from_All (IsOlder x) _ (All-push (IsOlder x) xs _ (All-from_recursion (IsOlder x) xs r.1) (omega (arith, r.0))),
  rising_push xs n c r.2,
)

abbrev pub other_than : ℕ → Link → Bool
other_than lid link = not (eqb link.lid lid)

-- A link is destroyed.
pub is_table_destroyed : (table : Table) (lid : ℕ) (acts : List LinkAct) (slots : List (Option Link)) (holder : Option ℕ)
    → slots ≡ map (keep (other_than lid)) table.slots → holder ≡ holder_after_destroying lid table.holder → IsTable table acts
    → IsTable (record table { slots = slots; holder = holder }) (Destroyed lid ∷ acts)
is_table_destroyed table lid acts slots holder kept held is = record {
  made = is.made;
  kept = rw kept (kept_filter (other_than lid) table.slots (live acts) is.kept);
  rising = rising_filter (other_than lid) (live acts) table.made is.rising;
  lock = rw held (lock_destroyed lid table.holder acts is.lock);
}

pub freed_if_holder : (lid : ℕ) (o : Option ℕ) (r : Bool) → r ≡ option_eq eqb o (Some lid) → r ≡ true → None ≡ holder_after_destroying lid o
freed_if_holder lid None r told e = refl
freed_if_holder lid (Some m) r told e = rw (sym told ∙ e) refl

pub freed_if_not_holder : (lid : ℕ) (o : Option ℕ) (r : Bool) → r ≡ option_eq eqb o (Some lid) → r ≡ false
    → o ≡ holder_after_destroying lid o
freed_if_not_holder lid None r told e = refl
freed_if_not_holder lid (Some m) r told e = rw (sym told ∙ e) refl

-- A link is made.
pub is_table_made : (table : Table) (conn : ℕ) (acts : List LinkAct) (slots : List (Option Link)) (key spare : ℕ)
    → slice_index_or table.slots key None ≡ None → slice_index_or slots key None ≡ Some (record { lid = table.made + 1; conn = conn })
    → ((other : ℕ) → other ≢ key → slice_index_or slots other None ≡ slice_index_or table.slots other None) → IsTable table acts
    → IsTable (record table { made = table.made + 1; slots = slots; spare = spare }) (Made (table.made + 1) conn ∷ acts)
is_table_made table conn acts slots key spare free put others is = record {
  made = ap (λ (n : ℕ). n + 1) is.made;
  kept = kept_after_insert table.slots slots key (record { lid = table.made + 1; conn = conn }) (live acts) free put others is.kept;
  rising = rising_push (live acts) table.made conn is.rising;
  lock = is.lock;
}

-- ---- the number of links

pub count_is_live : (table : Table) (acts : List LinkAct) → IsTable table acts → count_of table ≡ length (live acts)
count_is_live table acts is = kept_count table.slots (live acts) is.kept

pub may_make_is : (table : Table) (acts : List LinkAct) → IsTable table acts
    → may_make acts ≡ (nat_lt (count_of table) max_links && nat_lt table.made 2147483647)
may_make_is table acts is = rw (count_is_live table acts is, is.made) refl

full : (n m : ℕ) → max_links ≤ n → (nat_lt n max_links && nat_lt m 2147483647) ≡ false
full n m h = rw (le-ltb n max_links h) refl

pub may_make_when_full : (table : Table) (acts : List LinkAct) → IsTable table acts → max_links ≤ count_of table → may_make acts ≡ false
may_make_when_full table acts is h = may_make_is table acts is ∙ full (count_of table) table.made h

pub may_make_without_numbers : (table : Table) (acts : List LinkAct) → IsTable table acts → 2147483647 ≤ table.made → may_make acts ≡ false
may_make_without_numbers table acts is h = may_make_is table acts is
    ∙ and_right (nat_lt (count_of table) max_links) (nat_lt table.made 2147483647) (le-ltb table.made 2147483647 h)

pub may_make_with_room : (table : Table) (acts : List LinkAct) → IsTable table acts → count_of table < max_links → table.made < 2147483647
    → may_make acts ≡ true
may_make_with_room table acts is h k = may_make_is table acts is ∙ rw (lt-ltb (count_of table) max_links h, lt-ltb table.made 2147483647 k)
    refl

-- Whether the error is the limit on links; the other one is out of memory.
abbrev is_shortage : Result ℕ CreateRefused → Bool
is_shortage (Err OutOfResources) = true
is_shortage (Err NoMemory) = false
is_shortage (Ok lid) = false

pub memory≢resources : ◌≡◌ {A = Result ℕ CreateRefused} (Err NoMemory) (Err OutOfResources) → ⊥
memory≢resources e = false≢true (ap is_shortage e)

pub made≢resources : (lid : ℕ) → ◌≡◌ {A = Result ℕ CreateRefused} (Ok lid) (Err OutOfResources) → ⊥
made≢resources lid e = false≢true (ap is_shortage e)
