-- Where values go through calls, by numbers.
use Rattle.std.specs.Prelude.{◌≡◌, ◌⊎◌, ◌+◌, ◌-◌, ◌++◌, ℕ, Bool, true, List, [], ◌∷◌, Option, Some, None, nat_lt}
use Rattle.std.specs.Prelude.{if◌then◌else◌, slice_get}
use Rattle.go_base.specs.declared.ids.FuncId.{FuncId}
use Rattle.go_tree.specs.declared.program.Program.{Program}
use Rattle.cg_nodes.specs.declared.nodes.Group.{Group}
use Rattle.cg_nodes.specs.declared.nodes.Mention.TheVariants as mention
use Rattle.cg_nodes.specs.declared.nodes.Node.{Node}
use Rattle.cg_nodes.specs.declared.nodes.Node.TheVariants as node_of
use Rattle.cg_nodes.specs.declared.nodes.Value.{Value}
use Rattle.cg_numbers.specs.Alike.{like_node}
use Rattle.cg_numbers.specs.Numbered.{IsAt}
use Rattle.cg_numbers.specs.Sites.{FlowAt, Stands}
use Rattle.cg_numbers.specs.declared.numbers.Numbers.{Numbers}
use Rattle.cg_numbers.specs.declared.sites.Flow.{Flow}
use Rattle.cg_sets.specs.Candidates.{Answers, Standing}
use Rattle.cg_sets.specs.Embedding.{Calls}
use Rattle.cg_sets.specs.declared.candidates.Candidate.{Candidate}
use Rattle.cg_sets.specs.declared.candidates.Goal.{Goal}
use Rattle.cg_sets.specs.declared.candidates.Goal.TheVariants as goal_of
use Rattle.cg_solve.specs.LeastSets.{marked}
use Rattle.cg_solve.specs.Lists.{Has}
use Rattle.cg_solve.specs.declared.solving.Rule.{Rule}
use Rattle.cg_vta.specs.Choosing.{plain_rule}
use Rattle.cg_vta.specs.Flows as flows
use Rattle.cg_vta.specs.Flows.{IsCalled, Vta}
use Rattle.cg_vta.specs.declared.ways.Way.{Way}

-- ---- what was met

-- the flows that stand in the program
pub record AreFlows (p : Program) (n : Numbers) (flows : List Flow) : Type 0 where
  pub only : (x : Flow) → Has flows x
      → (f : FuncId) × (from : Node) × (to : Node) × Stands p f (mention.Flow from to) × FlowAt n x from to
  pub whole : (f : FuncId) (from to : Node) → Stands p f (mention.Flow from to)
      → (x : Flow) × Has flows x × FlowAt n x from to

abbrev pub flow_rule : Flow → Rule
flow_rule x = plain_rule x.from x.to

-- ---- through calls

abbrev pub way : Node → Node → Way
way from to = record { from = from; to = to }

-- a receiver of a function type goes to the first parameter
abbrev pub receiver_by : Goal → Option Node → List Way
receiver_by (goal_of.Function f) (Some from) = way from (node_of.Parameter f 0) ∷ []
receiver_by (goal_of.Function f) None = []
receiver_by (goal_of.Group of group) from = []
receiver_by (goal_of.First group) from = []

abbrev pub receiver_of : List Node → Candidate → List Way
receiver_of nodes c = receiver_by c.goal (slice_get nodes c.receiver)

abbrev pub receiver_way : List Node → ℕ → Candidate → List Way
receiver_way nodes k c = receiver_of nodes c

abbrev pub argument_of : Option Group → ℕ → Node
argument_of (Some g) index = node_of.Argument g index
argument_of None index = node_of.Nothing

abbrev pub outcome_of : Option Group → ℕ → Node
outcome_of (Some g) index = node_of.Outcome g index
outcome_of None index = node_of.Nothing

abbrev pub given_to : List Group → Goal → ℕ → Node
given_to groups (goal_of.Function f) index = node_of.Parameter f index
given_to groups (goal_of.Group of group) index = argument_of (slice_get groups group) index
given_to groups (goal_of.First group) index = argument_of (slice_get groups group) index

abbrev pub given_by : List Group → Goal → ℕ → Node
given_by groups (goal_of.Function f) index = node_of.Returned f index
given_by groups (goal_of.Group of group) index = outcome_of (slice_get groups group) index
given_by groups (goal_of.First group) index = outcome_of (slice_get groups group) index

-- the first arguments are not handed on
abbrev pub argument_way : List Group → Node → ℕ → Candidate → List Way
argument_way groups from place c =
    if nat_lt place c.skip then [] else way from (given_to groups c.goal ((place - c.skip) + c.base)) ∷ []

abbrev pub way_of : List Group → Node → Candidate → List Way
way_of groups (node_of.Argument g place) c = argument_way groups (node_of.Argument g place) place c
way_of groups (node_of.Outcome g index) c = way (given_by groups c.goal index) (node_of.Outcome g index) ∷ []
way_of groups _ c = []

-- the group whose calls give the values of a node, or get them
abbrev pub station : Node → Option Group
station (node_of.Argument g place) = Some g
station (node_of.Outcome g index) = Some g
station _ = None

-- the group with number k is chosen from, and the node is one of its calls
abbrev pub IsCalledAt : List Group → List Bool → Node → ℕ → Type 0
IsCalledAt groups called node k =
    (g : Group) × (station node ≡ Some g) × IsAt groups k g × (marked called k ≡ true)

-- a way of a node, by a candidate of its group
pub record IsWay (groups : List Group) (rows : ℕ → List Candidate) (called : List Bool) (node : Node) (x : Way) :
    Type 0 where
  pub number : ℕ
  pub at : IsCalledAt groups called node number
  pub candidate : Candidate
  pub stands : Has (rows number) candidate
  pub goes : Has (way_of groups node candidate) x

pub record AreWays (groups : List Group) (rows : ℕ → List Candidate) (called : List Bool) (node : Node)
    (ways : List Way) : Type 0 where
  pub only : (x : Way) → Has ways x → IsWay groups rows called node x
  pub whole : (x : Way) → IsWay groups rows called node x → Has ways x

-- ---- as rules

-- a rule by which values go from a node to another
pub record RuleAt (n : Numbers) (r : Rule) (from to : Node) : Type 0 where
  pub source : IsAt n.nodes.keys r.left from
  pub both : r.right ≡ r.left
  pub target : IsAt n.nodes.keys r.then to

abbrev pub WayAt : Numbers → Rule → Way → Type 0
WayAt n r x = RuleAt n r x.from x.to

abbrev pub PutsWay : Numbers → Way → List Rule → List Rule → Type 0
PutsWay n x old new = (r : Rule) × WayAt n r x × (new ≡ old ++ r ∷ [])

-- ways that P tells are put down, and no others
pub record Puts (n : Numbers) (P : Way → Type 0) (old new : List Rule) : Type 0 where
  pub kept : (r : Rule) → Has old r → Has new r
  pub only : (r : Rule) → Has new r → Has old r ⊎ ((x : Way) × P x × WayAt n r x)
  pub whole : (x : Way) → P x → (r : Rule) × Has new r × WayAt n r x

abbrev pub PutsWays : Numbers → List Way → List Rule → List Rule → Type 0
PutsWays n ways old new = Puts n (Has ways) old new

-- the ways of the node with a number
abbrev pub OfNode : Numbers → (ℕ → List Candidate) → List Bool → Node → Way → Type 0
OfNode n rows called node x = IsWay n.groups.keys rows called node x

-- the ways of all nodes that have a number
pub record PutsStations (n : Numbers) (rows : ℕ → List Candidate) (called : List Bool) (old new : List Rule) :
    Type 0 where
  pub kept : (r : Rule) → Has old r → Has new r
  pub only : (r : Rule) → Has new r
      → Has old r ⊎ ((node : Node) × (x : Way) × OfNode n rows called node x × WayAt n r x)
  pub whole : (k : ℕ) (node : Node) → IsAt n.nodes.keys k node → (x : Way) → OfNode n rows called node x
      → (r : Rule) × Has new r × WayAt n r x

-- ---- all

-- The rules are the flows of the program. Those from an argument are there where its node has a number, those to an
-- outcome where that one has.
pub record AreStreams (p : Program) (n : Numbers) (rules : List Rule) : Type 0 where
  pub only : (r : Rule) → Has rules r
      → (a : Node) × (b : Node) × RuleAt n r a b
      × ((v : Value) → Vta p n.likeness.types n.likeness.bares a v → Vta p n.likeness.types n.likeness.bares b v)
  pub flow : (f : FuncId) (a b : Node) → Stands p f (mention.Flow a b)
      → (r : Rule) × Has rules r
      × RuleAt n r (like_node n.likeness.types n.likeness.bares a) (like_node n.likeness.types n.likeness.bares b)
  pub argument : (g : Group) (c : Standing) (i k : ℕ) → IsCalled p n.likeness.types n.likeness.bares g
      → Answers p n.likeness.types n.likeness.bares g c → IsAt n.nodes.keys k (node_of.Argument g (c.skip + i))
      → (r : Rule) × Has rules r
      × RuleAt n r (node_of.Argument g (c.skip + i))
      (like_node n.likeness.types n.likeness.bares
      (flows.given_to p n.likeness.types n.likeness.bares c.aim (c.base + i)))
  pub result : (g : Group) (c : Standing) (i k : ℕ) → IsCalled p n.likeness.types n.likeness.bares g
      → Answers p n.likeness.types n.likeness.bares g c → IsAt n.nodes.keys k (node_of.Outcome g i)
      → (r : Rule) × Has rules r
      × RuleAt n r
      (like_node n.likeness.types n.likeness.bares (flows.given_by p n.likeness.types n.likeness.bares c.aim i))
      (node_of.Outcome g i)
  pub receiver : (g : Group) (c : Standing) (f : FuncId) → IsCalled p n.likeness.types n.likeness.bares g
      → Answers p n.likeness.types n.likeness.bares g c → c.aim ≡ Calls f
      → (r : Rule) × Has rules r
      × RuleAt n r (like_node n.likeness.types n.likeness.bares c.receiver) (node_of.Parameter f 0)
