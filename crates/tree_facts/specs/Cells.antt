-- Which variables need a cell.
use Rattle.std.specs.Prelude.{◌==◌, Bool, false, ◌&&◌, ◌||◌, List, Option, Some, None, slice_get, if◌then◌else◌}
use Rattle.std.specs.List.{list_any}
use Rattle.go_base.specs.declared.ids.FuncId.{FuncId}
use Rattle.go_base.specs.declared.ids.VarId.{VarId}
use Rattle.go_tree.specs.declared.program.Body.{Body}
use Rattle.go_tree.specs.declared.program.Program.{Program}
use Rattle.go_tree.specs.declared.variables.Variable.{Variable}
use Rattle.tree_facts.specs.Search.{is_among}
use Rattle.tree_facts.specs.Statements.{roots_in_block}

-- whether a body captures a variable of a function around it
abbrev pub captures : VarId → Option Body → Bool
captures v None = false
captures v (Some body) = is_among v body.captured

-- whether a variable of a function needs a cell there: it is a result, and a `defer` stands there; or a literal
-- captures it; or its address, or that of a part, is taken there, or a part of it is assigned
abbrev pub needs_own : List (Option Body) → Body → VarId → Bool
needs_own bodies body v =
    (body.has_defer && is_among v body.results)
    || (list_any (captures v) bodies || is_among v (roots_in_block body.block))

-- by the function of the variable; a variable of a package has none, and needs none
abbrev pub needs_of : List (Option Body) → Body → FuncId → VarId → Option FuncId → Bool
needs_of bodies body f v None = false
needs_of bodies body f v (Some own) =
    if own.number == f.number then needs_own bodies body v else is_among v body.captured

abbrev pub needs_in : List (Option Body) → FuncId → VarId → Option Variable → Option (Option Body) → Bool
needs_in bodies f v (Some declared) (Some (Some body)) = needs_of bodies body f v declared.function
needs_in bodies f v _ _ = false

-- whether a variable needs a cell in a function: one of its own, or one that it captures
abbrev pub needs_cell : Program → FuncId → VarId → Bool
needs_cell p f v = needs_in p.bodies f v (slice_get p.variables v.number) (slice_get p.bodies f.number)
