-- Which edges the graph has that is asked.
use Rattle.std.specs.Prelude.{◌↔◌, List, Option, Some, None}
use Rattle.std.specs.List.{Contains}
use Rattle.std.specs.List.Sorted.{IsStrictlySortedBy}
use Rattle.command_line.specs.declared.command.Graph.{Graph}
use Rattle.command_line.specs.declared.command.Graph.TheVariants as graph_of
use Rattle.cg_sets.specs.Candidates.{AreTypesOf}
use Rattle.cg_sets.specs.Graphs.{IsChaEdge, IsRtaEdge}
use Rattle.cg_sets.specs.InOrder.{edge_cmp}
use Rattle.cg_sets.specs.declared.edges.Edge.{Edge}
use Rattle.cg_vta.specs.Flows.{IsVtaEdge}
use Rattle.go_base.specs.declared.ids.TypeId.{TypeId}
use Rattle.go_tree.specs.declared.program.Program.{Program}
use Rattle.go_type.specs.Table.{Table}

-- exactly the edges that there are by IsOne, over a table with the program's types and those without tags: each once,
-- ascending
pub record AreEdges (program : Program) (IsOne : Table → List TypeId → Edge → Type 0) (edges : List Edge) : Type 0 where
  pub types : Table
  pub bares : List TypeId
  pub stand : AreTypesOf program types bares
  pub exact : (e : Edge) → Contains edges e ↔ IsOne types bares e
  pub ascending : IsStrictlySortedBy edge_cmp edges

-- the edges of a graph of a program
abbrev pub IsGraph : Graph → Program → List Edge → Type 0
IsGraph graph_of.Cha program edges = AreEdges program (IsChaEdge program) edges
IsGraph graph_of.Rta program edges = AreEdges program (IsRtaEdge program) edges
IsGraph graph_of.Vta program edges = AreEdges program (IsVtaEdge program) edges

-- the edges of the graph, where one is asked
abbrev pub AreAsked : Option Graph → Program → Option (List Edge) → Type 0
AreAsked None program None = Unit {0}
AreAsked None program (Some edges) = ⊥
AreAsked (Some graph) program None = ⊥
AreAsked (Some graph) program (Some edges) = IsGraph graph program edges
