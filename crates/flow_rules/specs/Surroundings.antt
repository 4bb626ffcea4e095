-- Labels, and the statements that a branch may leave. Go specification, "Labeled statements", "Break statements",
-- "Continue statements".
use Rattle.std.specs.Prelude.{ℕ, Bool, true, false, List, [], ◌∷◌, Option, Some, None, map, nat_eq, ◌++◌, drop}
use Rattle.std.specs.List.{list_any}
use Rattle.std.specs.Prelude.{suc, option_map, min, if◌then◌else◌}
use Rattle.go_base.specs.declared.ids.NameId.{NameId}
use Rattle.go_base.specs.declared.place.Pos.{Pos}
use Rattle.flow_rules.specs.declared.around.Around.{Around}
use Rattle.flow_rules.specs.declared.around.Label.{Label}

-- what stands around a place of a body, the innermost first
pub record Surroundings : Type 0 where
  -- the names of the labels that the body has declared so far
  pub declared : List NameId
  -- the labels of the statements around the place
  pub labels : List Label
  -- the statements around the place that a break may leave
  pub around : List Around

-- whether two names are one
abbrev pub is_name : NameId → NameId → Bool
is_name m n = nat_eq m.number n.number

-- whether a body has declared a label of this name
abbrev pub is_declared : NameId → List NameId → Bool
is_declared name declared = list_any (is_name name) declared

-- whether there is a label, and it has the name
abbrev pub has_label : NameId → Option NameId → Bool
has_label name None = false
has_label name (Some label) = is_name label name

-- whether a branch means a statement: that with its label, or any where it has none
abbrev pub is_meant : Option NameId → Around → Bool
is_meant None around = true
is_meant (Some name) around = has_label name around.label

-- how many statements lie within the innermost of which a test holds
abbrev pub levels_to : (Around → Bool) → List Around → Option ℕ
levels_to test [] = None
levels_to test (first ∷ rest) = if test first then Some 0 else option_map suc (levels_to test rest)

-- the loops of the statements
abbrev pub loops : List Around → List Around
loops [] = []
loops (first ∷ rest) = if first.is_loop then first ∷ loops rest else loops rest

-- how many statements that may be left lie within the one that a break leaves
abbrev pub break_levels : Option NameId → Surroundings → Option ℕ
break_levels label s = levels_to (is_meant label) s.around

-- how many loops lie within the one that a continue goes on with
abbrev pub continue_levels : Option NameId → Surroundings → Option ℕ
continue_levels label s = levels_to (is_meant label) (loops s.around)

-- levels as a u32 holds them: past its last number none can be told from it
abbrev pub held : ℕ → ℕ
held levels = min levels 4294967295

-- the innermost of which a test holds is left by a break
abbrev pub left : (Around → Bool) → List Around → List Around
left test [] = []
left test (first ∷ rest) = if test first then record first { is_left = true } ∷ rest else first ∷ left test rest

-- a label as it is where a branch in its statement names a label
abbrev pub named : Option NameId → Label → Label
named wanted label = if has_label label.name wanted then record label { is_named = true } else label

-- at the beginning of a body
abbrev pub nothing : Surroundings
nothing = record { declared = []; labels = []; around = [] }

-- in the statement of a label
abbrev pub in_label : NameId → Pos → Surroundings → Surroundings
in_label name at s =
    record s {
      declared = if is_declared name s.declared then s.declared else s.declared ++ name ∷ [];
      labels = record { name = name; at = at; is_named = false } ∷ s.labels;
    }

-- behind the statement of the label that began last
abbrev pub behind_label : Surroundings → Surroundings
behind_label s = record s { labels = drop 1 s.labels }

-- where the label that began last stands, if no branch in its statement names it
abbrev pub unnamed : List Label → Option Pos
unnamed [] = None
unnamed (first ∷ rest) = if first.is_named then None else Some first.at

-- in a statement that a break may leave
abbrev pub in_statement : Option NameId → Bool → Surroundings → Surroundings
in_statement label is_loop s =
    record s { around = record { label = label; is_loop = is_loop; is_left = false } ∷ s.around }

-- behind the statement that was entered last
abbrev pub behind_statement : Surroundings → Surroundings
behind_statement s = record s { around = drop 1 s.around }

-- whether a break leaves the statement that was entered last
abbrev pub is_left : List Around → Bool
is_left [] = false
is_left (first ∷ rest) = first.is_left

-- behind a break: the statement that it leaves is left, and its label is named
abbrev pub behind_break : Option NameId → Surroundings → Surroundings
behind_break label s = record s { labels = map (named label) s.labels; around = left (is_meant label) s.around }

-- behind a continue: its label is named
abbrev pub behind_continue : Option NameId → Surroundings → Surroundings
behind_continue label s = record s { labels = map (named label) s.labels }
