-- The state of the table of links, and when a state stands for a list of acts.
use Rattle.std.specs.Prelude.{◌≡◌, ℕ, ◌<◌, ◌≤◌, List, [], ◌∷◌, ◌++◌, is_some, count_by, Option, Some, None, ⊤}
use Rattle.std.specs.List.{AllByRecursion}
use Rattle.sv_links.specs.declared.links.Link.{Link}
use Rattle.sv_links.specs.Links.{LinkAct, links_made, live, is_locked, is_this}

-- the state of the table of links: how many links were ever made; the slots, each of which has a
-- live link or is empty; the link that holds the lock; and the number of further links for which
-- memory is reserved
pub record Table : Type 0 where
  pub made : ℕ
  pub slots : List (Option Link)
  pub holder : Option ℕ
  pub spare : ℕ

-- how many live links the table has
abbrev pub count_of : Table → ℕ
count_of table = count_by is_some table.slots

-- The slots hold exactly these links, each link in one slot, in any order.
abbrev pub IsKept : List (Option Link) → List Link → Type 0
IsKept [] links = links ≡ []
IsKept (None ∷ slots) links = IsKept slots links
IsKept (Some link ∷ slots) links =
    (before : List Link) × (after : List Link) × (links ≡ before ++ link ∷ after) × IsKept slots (before ++ after)

-- The numbers of the links rise, and none of them is above `last`.
abbrev pub IsRising : List Link → ℕ → Type 0
IsRising [] last = ⊤
IsRising (link ∷ links) last = (link.lid ≤ last) × AllByRecursion (λ other. link.lid < other.lid) links × IsRising links last

-- The table has the state that the acts determine: each live link is in one slot, and the slots
-- have nothing else.
pub record IsTable (table : Table) (acts : List LinkAct) : Type 0 where
  pub made : table.made ≡ links_made acts
  pub kept : IsKept table.slots (live acts)
  pub rising : IsRising (live acts) table.made
  pub lock : (lid : ℕ) → is_locked lid acts ≡ is_this lid table.holder
