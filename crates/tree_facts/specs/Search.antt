-- A search for variables: for all of them, or for one.
use Rattle.std.specs.Prelude.{◌==◌, Bool, ◌||◌, List, [], ◌++◌, Option, Some, None, false}
use Rattle.std.specs.List.{list_any}
use Rattle.go_base.specs.declared.ids.VarId.{VarId}

pub record Search : Type 0 where
  -- the one that is looked for
  pub wanted : Option VarId
  -- whether it was met
  pub is_met : Bool
  -- those that were met, where all are looked for
  pub met : List VarId

-- whether a variable is one of a list
abbrev pub is_among : VarId → List VarId → Bool
is_among v list = list_any (λ (w : VarId). w.number == v.number) list

abbrev pub is_found : Option VarId → List VarId → Bool
is_found None list = false
is_found (Some v) list = is_among v list

abbrev pub added : Option VarId → List VarId → List VarId
added None list = list
added (Some v) list = []

-- the search behind the variables of a list
unfoldable pub searched : Search → List VarId → Search
searched s list =
    record { wanted = s.wanted; is_met = s.is_met || is_found s.wanted list; met = s.met ++ added s.wanted list }
