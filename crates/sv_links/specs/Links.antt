-- Links (VXI-11 revision 1.0, sections B.4.4 and B.6): which links exist, which connection owns
-- each, and which link holds the lock. A link is live if it was made and not destroyed. In a list
-- of acts the newest act comes first.
use Rattle.std.specs.Prelude.{ℕ, ◌+◌, ◌==◌, not, ◌&&◌, ◌||◌, Bool, true, false, List, [], ◌∷◌, ◌++◌, length, map, filter, find, reverse, option_map, Option, Some, None, nat_lt}
use Rattle.std.specs.List.{filter_map}
use Rattle.std.specs.Option.{option_map_or}
use Rattle.sv_links.specs.Limits.{max_links}
use Rattle.sv_links.specs.declared.links.Link.{Link}

-- what happens to a link: it is made on a connection; it is destroyed; it gets the lock; or it
-- frees the lock
pub data LinkAct : Type 0 where
  Made : (lid conn : ℕ) → LinkAct
  Destroyed : (lid : ℕ) → LinkAct
  Locked : (lid : ℕ) → LinkAct
  Unlocked : (lid : ℕ) → LinkAct

-- how many links were ever made; the next link gets the number that is one above this count
abbrev pub links_made : List LinkAct → ℕ
links_made [] = 0
links_made (Made lid conn ∷ acts) = links_made acts + 1
links_made (_ ∷ acts) = links_made acts

-- the live links, in the order in which they were made, each with the connection that made it
abbrev pub live : List LinkAct → List Link
live [] = []
live (Made lid conn ∷ acts) = live acts ++ record { lid = lid; conn = conn } ∷ []
live (Destroyed lid ∷ acts) = filter (λ link. not (link.lid == lid)) (live acts)
live (_ ∷ acts) = live acts

-- the connection that made a link; `None` if the link isn't live
abbrev pub owner : ℕ → List LinkAct → Option ℕ
owner lid acts = option_map (λ link. link.conn) (find (λ link. link.lid == lid) (live acts))

-- whether this owner of a link is connection `conn`; false if the owner is `None`, because the link
-- isn't live
abbrev pub is_of : ℕ → Option ℕ → Bool
is_of conn owner = option_map_or (λ other. other == conn) owner false

-- the numbers of a connection's live links, in rising order
abbrev pub links_of : ℕ → List LinkAct → List ℕ
links_of conn acts = map (λ link. link.lid) (filter (λ link. link.conn == conn) (live acts))

-- whether a number remains for a further link: the highest number of a link is 2,147,483,647
abbrev pub lids_left : List LinkAct → Bool
lids_left acts = nat_lt (links_made acts) 2147483647

-- whether one more link may be made: fewer than 32 links are live, and a number remains
abbrev pub may_make : List LinkAct → Bool
may_make acts = nat_lt (length (live acts)) max_links && lids_left acts

-- the acts on links when a connection is closed, the newest first: the connection's links are
-- destroyed in the order in which they were made
abbrev pub closing : ℕ → List LinkAct → List LinkAct
closing conn acts = reverse (map Destroyed (links_of conn acts))

-- the links that ever got the lock; the link that got it last comes first. A link that got the lock
-- several times is listed several times.
abbrev pub lock_order : List LinkAct → List ℕ
lock_order = filter_map (elim [ Locked lid ↦ Some lid | _ ↦ None ])

-- whether a link got the lock, and since then neither freed the lock nor was destroyed
abbrev pub is_locked : ℕ → List LinkAct → Bool
is_locked lid [] = false
is_locked lid (Locked other ∷ acts) = other == lid || is_locked lid acts
is_locked lid (Unlocked other ∷ acts) = not (other == lid) && is_locked lid acts
is_locked lid (Destroyed other ∷ acts) = not (other == lid) && is_locked lid acts
is_locked lid (_ ∷ acts) = is_locked lid acts

-- the link that holds the lock; `None` if the lock is free. Of all links that got the lock, and
-- since then neither freed it nor were destroyed, the one that got it last holds it.
abbrev pub holder : List LinkAct → Option ℕ
holder acts = find (λ lid. is_locked lid acts) (lock_order acts)

-- whether a link other than the named one holds the lock; if no link is named, whether any link
-- holds it
abbrev pub is_locked_out : Option ℕ → Option ℕ → Bool
is_locked_out (Some holder) (Some lid) = not (lid == holder)
is_locked_out (Some holder) None = true
is_locked_out None named = false

-- whether link `lid` is the named link; false if no link is named
abbrev pub is_this : ℕ → Option ℕ → Bool
is_this lid named = option_map_or (λ other. other == lid) named false
