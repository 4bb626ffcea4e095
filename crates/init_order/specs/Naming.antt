-- What initialisers and functions name. Go specification, "Package initialization".
use Rattle.std.specs.Prelude.{◌+◌, ℕ, List, [], ◌∷◌, ◌++◌, Option, Some, None, replicate, nat_lt}
use Rattle.std.specs.Prelude.{slice_set, if◌then◌else◌}
use Rattle.go_graph.specs.Graph.{next}
use Rattle.init_order.specs.declared.node.Node.{Node}
use Rattle.init_order.specs.declared.node.Node.TheVariants.{Variable, Step, Function}

-- which variables, steps and functions are named by which, as a graph: variables come first, then steps, then functions
pub record Naming : Type 0 where
  pub variables : ℕ
  pub steps : ℕ
  pub functions : ℕ
  -- for each node those that it names
  pub rows : List (List ℕ)

-- the number of a node, where it is a variable, step or function
abbrev pub place : Naming → Node → Option ℕ
place names (Variable number) = if nat_lt number names.variables then Some number else None
place names (Step number) = if nat_lt number names.steps then Some (names.variables + number) else None
place names (Function number) =
    if nat_lt number names.functions then Some (names.variables + names.steps + number) else None

-- nothing names anything
abbrev pub nothing_named : ℕ → ℕ → ℕ → Naming
nothing_named variables steps functions =
    record {
      variables = variables;
      steps = steps;
      functions = functions;
      rows = replicate (variables + steps + functions) [];
    }

abbrev pub with_edge : Option ℕ → Option ℕ → List (List ℕ) → List (List ℕ)
with_edge None to rows = rows
with_edge (Some from) None rows = rows
with_edge (Some from) (Some to) rows = slice_set rows from (next rows from ++ to ∷ [])

-- one names the other
abbrev pub naming : Node → Node → Naming → Naming
naming from to names = record names { rows = with_edge (place names from) (place names to) names.rows }
