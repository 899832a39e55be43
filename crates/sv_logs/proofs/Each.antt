-- If all acts of a log have a property, and all acts that are added have it, then all acts of the
-- longer log have it. The property of an act may depend on the acts before this act.
use Rattle.std.proofs.Common.{List, [], ◌∷◌, ◌++◌, sym, subst, append_assoc}
use Rattle.std.specs.Prelude.{⊤}

-- Each of these acts has the property, given the acts before it.
abbrev pub Each : {A : Type 0} → (List A → A → Type 0) → List A → List A → Type 0
Each {A} IsSuch [] before = ⊤
Each {A} IsSuch (act ∷ acts) before = IsSuch (acts ++ before) act × Each IsSuch acts before

pub each_join : {A : Type 0} (IsSuch : List A → A → Type 0) (acts more before : List A) → Each IsSuch acts (more ++ before)
    → Each IsSuch more before → Each IsSuch (acts ++ more) before
each_join {A} IsSuch [] more before h k = k
each_join {A} IsSuch (act ∷ acts) more before h k = (
  subst (λ (l : List A). IsSuch l act) (sym (append_assoc acts more before)) h.0,
  each_join IsSuch acts more before h.1 k,
)
