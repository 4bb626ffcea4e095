-- What the parameters of a graph are closed under, so that each call of a run is an edge of it: P says which values
-- may be in which nodes, R which functions may run. A run never leads out of what is closed so: it starts in R, makes
-- values where P has them, moves them along flows and through calls, and calls along edges.
use Rattle.std.specs.Prelude.{◌≡◌, ◌+◌, ℕ, List, Some, None, slice_get}
use Rattle.go_base.specs.declared.ids.FuncId.{FuncId}
use Rattle.go_base.specs.declared.ids.TypeId.{TypeId}
use Rattle.go_base.specs.declared.place.Pos.{Pos}
use Rattle.go_tree.specs.declared.functions.FunctionDecl.{FunctionDecl}
use Rattle.go_tree.specs.declared.functions.FunctionForm.TheVariants as form_of
use Rattle.go_tree.specs.declared.program.Program.{Program}
use Rattle.go_type.specs.Table.{Table}
use Rattle.cg_nodes.specs.declared.nodes.Called.TheVariants as called
use Rattle.cg_nodes.specs.declared.nodes.Group.{Group}
use Rattle.cg_nodes.specs.declared.nodes.Mention.TheVariants as mention
use Rattle.cg_nodes.specs.declared.nodes.Node.{Node}
use Rattle.cg_nodes.specs.declared.nodes.Node.TheVariants as node_of
use Rattle.cg_nodes.specs.declared.nodes.Value.{Value}
use Rattle.cg_nodes.specs.declared.nodes.Value.TheVariants as value_of
use Rattle.cg_numbers.specs.Alike.{like_group, like_node, like_value}
use Rattle.cg_numbers.specs.Sites.{Stands}
use Rattle.cg_sets.specs.Candidates.{Standing, Answers}
use Rattle.cg_sets.specs.Embedding.{Calls, Asks}
use Rattle.cg_sets.specs.Graphs.{IsEdge}
use Rattle.cg_sets.specs.declared.edges.Edge.{Edge}
use Rattle.cg_vta.specs.Flows.{given_to, given_by}

module _ (p : Program) (types : Table) (bares : List TypeId) (P : Node → Value → Type 0) (R : FuncId → Type 0) where
  -- The values of a node are asked what they stand for in a group, where `first` is the node of the first argument: by
  -- a call in a function that may run; or by what such a value stands for, where that is the method of an embedded
  -- interface, a method value of an interface, or a method expression of one, which asks its first argument.
  pub data IsAsked : Node → Node → Group → Type 0 where
    by_call : (f : FuncId) (at : Pos) (n first : Node) (g : Group) → R f
        → Stands p f (mention.Call at (called.Chosen n first g)) → IsAsked n first g
    in_turn : (n first m : Node) (g h : Group) (c : Standing) → IsAsked n first g
        → Answers p types bares (like_group types bares g) c → P (like_node types bares n) c.value
        → c.aim ≡ Asks (Some m) h → IsAsked m node_of.Nothing h
    of_first : (n first : Node) (g h : Group) (c : Standing) → IsAsked n first g
        → Answers p types bares (like_group types bares g) c → P (like_node types bares n) c.value → c.aim ≡ Asks None h
        → IsAsked first node_of.Nothing h

  -- a value of a node that is asked so stands for c
  pub record IsMet (n first : Node) (g : Group) (c : Standing) : Type 0 where
    pub asked : IsAsked n first g
    pub answers : Answers p types bares (like_group types bares g) c
    pub there : P (like_node types bares n) c.value

  pub record IsClosed : Type 0 where
    -- what initialises packages may run, and `main`
    pub start : (f : FuncId) (d : FunctionDecl) → slice_get p.functions f.number ≡ Some d → d.form ≡ form_of.PackageInit
        → R f
    pub main : (f : FuncId) → p.main ≡ Some f → R f
    -- a value is where it is made, and a fault of the run where it is recovered
    pub made : (f : FuncId) (v : Value) → R f → Stands p f (mention.Seed v)
        → P (node_of.Made (like_value types bares v)) (like_value types bares v)
    pub fault : P node_of.Recover (like_value types bares (value_of.Class p.error_string))
    -- what a function that may run moves; arguments, receivers and results of a call of one function are among that
    pub flow : (f : FuncId) (n m : Node) (v : Value) → R f → Stands p f (mention.Flow n m)
        → P (like_node types bares n) v → P (like_node types bares m) v
    -- what is called may run
    pub enter : (e : Edge) → IsEdge p types bares P R e → R e.callee
    -- what is given to a call that chooses is given on to what it chooses: the arguments behind those that are skipped,
    -- and a receiver of a function type
    pub argument : (n first : Node) (g : Group) (c : Standing) (i : ℕ) (v : Value) → IsMet n first g c
        → P (node_of.Argument (like_group types bares g) (c.skip + i)) v
        → P (like_node types bares (given_to p types bares c.aim (c.base + i))) v
    pub receiver : (n first : Node) (g : Group) (c : Standing) (f : FuncId) (v : Value) → IsMet n first g c
        → c.aim ≡ Calls f → P (like_node types bares c.receiver) v → P (node_of.Parameter f 0) v
    -- and what that gives is given back
    pub result : (n first : Node) (g : Group) (c : Standing) (i : ℕ) (v : Value) → IsMet n first g c
        → P (like_node types bares (given_by p types bares c.aim i)) v
        → P (node_of.Outcome (like_group types bares g) i) v
