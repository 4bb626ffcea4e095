-- Which values are in which nodes, by numbers.
use Rattle.std.specs.Prelude.{◌≡◌, ◌==◌, ◌⊎◌, ◌++◌, ℕ, Bool, true, List, [], ◌∷◌, flat_map, if◌then◌else◌}
use Rattle.go_base.specs.declared.ids.TypeId.{TypeId}
use Rattle.go_tree.specs.declared.program.Program.{Program}
use Rattle.cg_nodes.specs.declared.nodes.Node.{Node}
use Rattle.cg_nodes.specs.declared.nodes.Node.TheVariants as node_of
use Rattle.cg_nodes.specs.declared.nodes.Value.{Value}
use Rattle.cg_nodes.specs.declared.nodes.Value.TheVariants as value_of
use Rattle.cg_numbers.specs.Numbered.{IsAt, NodeAt, ValueAt}
use Rattle.cg_numbers.specs.declared.numbers.Numbers.{Numbers}
use Rattle.cg_numbers.specs.declared.sites.Call.{Call}
use Rattle.cg_numbers.specs.declared.sites.Call.TheVariants as call
use Rattle.cg_numbers.specs.declared.sites.Seed.{Seed}
use Rattle.cg_numbers.specs.declared.sites.Site.{Site}
use Rattle.cg_sets.specs.declared.candidates.Candidate.{Candidate}
use Rattle.cg_sets.specs.declared.candidates.Goal.{Goal}
use Rattle.cg_sets.specs.declared.candidates.Goal.TheVariants as goal_of
use Rattle.cg_solve.specs.LeastSets.{Derives, marked}
use Rattle.cg_solve.specs.Lists.{Has, when}
use Rattle.cg_solve.specs.declared.solving.Rule.{Rule}
use Rattle.cg_vta.specs.Flows.{Vta}
use Rattle.cg_vta.specs.declared.facts.Starts.{Starts}

-- the numbers of what is there in each program
pub record AreStarts (n : Numbers) (fault : TypeId) (starts : Starts) : Type 0 where
  pub faults : ValueAt n starts.fault (value_of.Class fault)
  pub recovers : NodeAt n starts.recover node_of.Recover
  pub empty : NodeAt n starts.nothing node_of.Nothing

-- ---- where values are made

abbrev pub seed_at : ℕ → Seed → List ℕ
seed_at k x = when (x.value == k) x.node

abbrev pub seeds_at : List Seed → Starts → ℕ → List ℕ
seeds_at seeds starts k = flat_map (seed_at k) seeds ++ when (starts.fault == k) starts.recover

-- ---- the nodes that are chosen of, and the values that may be chosen

abbrev pub call_nodes : Call → List ℕ
call_nodes (call.Fixed f) = []
call_nodes (call.Chosen of first group) = of ∷ first ∷ []

abbrev pub site_nodes : Site → List ℕ
site_nodes x = call_nodes x.call

abbrev pub goal_nodes : Goal → List ℕ
goal_nodes (goal_of.Function f) = []
goal_nodes (goal_of.Group of group) = of ∷ []
goal_nodes (goal_of.First group) = []

abbrev pub operands : Candidate → List ℕ
operands c = goal_nodes c.goal

-- a node that a call or a candidate chooses of, or that in which nothing is
pub data IsChosen (sites : List Site) (rows : ℕ → List Candidate) (nothing : ℕ) : ℕ → Type 0 where
  by_site : (x : Site) (k : ℕ) → Has sites x → Has (site_nodes x) k → IsChosen sites rows nothing k
  by_goal : (g : ℕ) (c : Candidate) (k : ℕ) → Has (rows g) c → Has (goal_nodes c.goal) k
      → IsChosen sites rows nothing k
  none : IsChosen sites rows nothing nothing

abbrev pub value_in : Candidate → List ℕ
value_in c = c.value ∷ []

-- the value of a candidate
abbrev pub IsFollowed : (ℕ → List Candidate) → ℕ → Type 0
IsFollowed rows w = (g : ℕ) × (c : Candidate) × Has (rows g) c × (c.value ≡ w)

-- ---- what is found

-- a value that is found in a node is put there, where the node is marked
abbrev pub fact_at : List Bool → ℕ → ℕ → ℕ → List ℕ
fact_at nodes value k node = if marked nodes node then when (node == k) value else []

-- the value w was followed, where that is to be
pub record Follows (rules : List Rule) (seeds : List ℕ) (nodes : List Bool) (follow : Bool) (w : ℕ)
    (old new : ℕ → List ℕ) : Type 0 where
  pub kept : (k u : ℕ) → Has (old k) u → Has (new k) u
  pub only : (k u : ℕ) → Has (new k) u → Has (old k) u ⊎ ((w ≡ u) × Derives seeds rules k)
  pub whole : (k : ℕ) → follow ≡ true → marked nodes k ≡ true → Derives seeds rules k → Has (new k) w

-- the values that are marked are in the marked nodes that a derivation from where they are made leads to
pub record AreReached (rules : List Rule) (seeds : ℕ → List ℕ) (nodes values : List Bool) (facts : ℕ → List ℕ) :
    Type 0 where
  pub only : (k w : ℕ) → Has (facts k) w → Derives (seeds w) rules k
  pub whole : (k w : ℕ) → marked nodes k ≡ true → marked values w ≡ true → Derives (seeds w) rules k
      → Has (facts k) w

-- a value stands in the row of a node where a path of flows leads there, for the nodes that are chosen of
pub record AreFacts (p : Program) (n : Numbers) (sites : List Site) (rows : ℕ → List Candidate) (nothing : ℕ)
    (facts : ℕ → List ℕ) : Type 0 where
  pub only : (k w : ℕ) (a : Node) (v : Value) → Has (facts k) w → IsAt n.nodes.keys k a → IsAt n.values.keys w v
      → Vta p n.likeness.types n.likeness.bares a v
  pub whole : (k w : ℕ) (a : Node) (v : Value) → IsChosen sites rows nothing k → IsFollowed rows w
      → IsAt n.nodes.keys k a → IsAt n.values.keys w v → Vta p n.likeness.types n.likeness.bares a v → Has (facts k) w
