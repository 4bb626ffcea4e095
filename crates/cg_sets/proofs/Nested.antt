-- An edge of any graph is one by classes and signatures alone.
use Rattle.std.proofs.Common.{◌≡◌, List}
use Rattle.go_base.specs.declared.ids.FuncId.{FuncId}
use Rattle.go_base.specs.declared.ids.TypeId.{TypeId}
use Rattle.go_tree.specs.declared.program.Program.{Program}
use Rattle.go_type.specs.Table.{Table}
use Rattle.cg_nodes.specs.declared.nodes.Called.{Called}
use Rattle.cg_nodes.specs.declared.nodes.Called.TheVariants as called
use Rattle.cg_nodes.specs.declared.nodes.Group.{Group}
use Rattle.cg_nodes.specs.declared.nodes.Node.{Node}
use Rattle.cg_nodes.specs.declared.nodes.Value.{Value}
use Rattle.cg_sets.specs.Graphs.{Gives, CalledBy, IsEdge, Anywhere, Always, IsChaEdge}
use Rattle.cg_sets.specs.declared.edges.Edge.{Edge}

module _ (p : Program) (types : Table) (bares : List TypeId) (P : Node → Value → Type 0) where
  gives_anywhere : (n first : Node) (g : Group) (f : FuncId) → Gives p types bares P n first g f → Gives p types bares (Anywhere p types bares) n first g f
  gives_anywhere _ _ _ _ (Gives.calls n first g c f answers there aim) = Gives.calls n first g c f answers tt aim
  gives_anywhere _ _ _ _ (Gives.asks n first m g h c f answers there aim more) = Gives.asks n first m g h c f answers tt aim (gives_anywhere _ _ h f more)
  gives_anywhere _ _ _ _ (Gives.asks_first n first g h c f answers there aim more) = Gives.asks_first n first g h c f answers tt aim (gives_anywhere _ _ h f more)

  called_anywhere : (c : Called) (f : FuncId) → CalledBy p types bares P c f → CalledBy p types bares (Anywhere p types bares) c f
  called_anywhere (called.Fixed f) g calls = calls
  called_anywhere (called.Chosen n first group) g calls = gives_anywhere n first group g calls

  pub edge_anywhere : (R : FuncId → Type 0) (e : Edge) → IsEdge p types bares P R e → IsChaEdge p types bares e
  edge_anywhere R e edge = record { runs = tt; callee_of = edge.callee_of; stands = edge.stands; calls = called_anywhere edge.callee_of e.callee edge.calls }
