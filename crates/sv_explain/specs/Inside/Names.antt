-- The texts of owners, names and links, by the types of the code.
use Rattle.std.specs.Prelude.{ℕ, List, [], ◌∷◌, ◌++◌, map, codes, decimal}
use Rattle.std.specs.Borrow.{Bor}
use Rattle.sv_explain.specs.declared.lines.Owner.{Owner}
use Rattle.sv_explain.specs.declared.lines.Owner.TheVariants as owner
use Rattle.sv_explain.specs.declared.links.ListOf.{ListOf}
use Rattle.sv_explain.specs.declared.links.ListOf.TheVariants as list_of
use Rattle.sv_explain.specs.declared.shown.Listed.{Listed}
use Rattle.sv_explain.specs.Lines.{value_line}

-- the text of an owner: what stands before the names of its values
abbrev pub owner_text : Owner → List ℕ
owner_text owner.Instrument = []
owner_text owner.Operation = codes "oper."
owner_text owner.Questionable = codes "ques."
owner_text owner.Limit = codes "lim."
owner_text (owner.Conn c) = 99 ∷ (decimal c ++ 46 ∷ [])
owner_text (owner.Channel c) = 105 ∷ (decimal c ++ 46 ∷ [])

-- names, as bytes
abbrev pub texts_of : List (Bor (List ℕ)) → List (List ℕ)
texts_of names = map (λ name. name.now) names

-- the name of a list of links
abbrev pub list_name : ListOf → List ℕ
list_name list_of.Links = codes "link."
list_name list_of.Asking = codes "srq."

-- the text for a link that left a list
abbrev pub off_text : ListOf → List ℕ
off_text list_of.Links = codes "none"
off_text list_of.Asking = codes "off"

-- the text for a link that came into a list
abbrev pub on_text : ListOf → Listed → List ℕ
on_text list_of.Links link = 99 ∷ decimal link.conn
on_text list_of.Asking link = codes "on"

-- the line of a link that left a list, and of a link that came into it
abbrev pub left_line : ListOf → Listed → List ℕ
left_line of link = value_line (list_name of ++ decimal link.lid) (off_text of)

abbrev pub came_line : ListOf → Listed → List ℕ
came_line of link = value_line (list_name of ++ decimal link.lid) (on_text of link)
