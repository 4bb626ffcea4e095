-- The groups that calls choose from, by numbers.
use Rattle.std.specs.Prelude.{◌≡◌, ◌++◌, ◌↔◌, ℕ, Bool, true, List, [], ◌∷◌, Option, Some, None, slice_get}
use Rattle.go_base.specs.declared.ids.FuncId.{FuncId}
use Rattle.go_base.specs.declared.ids.TypeId.{TypeId}
use Rattle.go_tree.specs.declared.program.Program.{Program}
use Rattle.cg_nodes.specs.declared.nodes.Group.{Group}
use Rattle.cg_nodes.specs.declared.nodes.Group.TheVariants as group_of
use Rattle.cg_nodes.specs.declared.nodes.Mention.TheVariants as mention
use Rattle.cg_nodes.specs.declared.nodes.Selector.{Selector}
use Rattle.cg_nodes.specs.declared.nodes.Spot.{Spot}
use Rattle.cg_nodes.specs.declared.nodes.Value.{Value}
use Rattle.cg_nodes.specs.declared.nodes.Value.TheVariants as value_of
use Rattle.cg_numbers.specs.Numbered.{GroupAt, IsAt}
use Rattle.cg_numbers.specs.Sites.{Stands}
use Rattle.cg_numbers.specs.declared.numbers.Numbers.{Numbers}
use Rattle.cg_numbers.specs.declared.sites.Call.{Call}
use Rattle.cg_numbers.specs.declared.sites.Call.TheVariants as call
use Rattle.cg_numbers.specs.declared.sites.Site.{Site}
use Rattle.cg_sets.specs.declared.candidates.Candidate.{Candidate}
use Rattle.cg_sets.specs.declared.candidates.Goal.{Goal}
use Rattle.cg_sets.specs.declared.candidates.Goal.TheVariants as goal_of
use Rattle.cg_solve.specs.LeastSets.{marked}
use Rattle.cg_solve.specs.Lists.{Has}
use Rattle.cg_solve.specs.declared.solving.Rule.{Rule}
use Rattle.cg_vta.specs.Flows.{IsCalled}

-- ---- method values of interfaces

abbrev pub bound_in : Option Value → Option Selector
bound_in None = None
bound_in (Some (value_of.Class id)) = None
bound_in (Some (value_of.Function f)) = None
bound_in (Some (value_of.Bound f)) = None
bound_in (Some (value_of.BoundSelector at s id)) = Some s
bound_in (Some (value_of.Unbound s id)) = None

-- the method that a value with a number stands for
abbrev pub bound_at : List Value → ℕ → Option Selector
bound_at values k = bound_in (slice_get values k)

abbrev pub PutsBound : Numbers → Option Selector → List ℕ → List ℕ → Type 0
PutsBound n None old new = new ≡ old
PutsBound n (Some s) old new = (k : ℕ) × IsAt n.groups.keys k (group_of.Selected s) × (new ≡ old ++ k ∷ [])

-- the groups of the methods that values stand for, by their numbers
pub record ListsBound (n : Numbers) (groups : List ℕ) : Type 0 where
  pub only : (x : ℕ) → Has groups x
      → (i : ℕ) × (s : Selector) × (bound_at n.values.keys i ≡ Some s) × IsAt n.groups.keys x (group_of.Selected s)
  pub whole : (i : ℕ) (s : Selector) → bound_at n.values.keys i ≡ Some s
      → (x : ℕ) × Has groups x × IsAt n.groups.keys x (group_of.Selected s)

-- the groups of the methods that method values of the program stand for
pub record AreBound (p : Program) (n : Numbers) (groups : List ℕ) : Type 0 where
  pub only : (x : ℕ) → Has groups x
      → (f : FuncId) × (at : Spot) × (s : Selector) × (id : TypeId)
      × Stands p f (mention.Seed (value_of.BoundSelector at s id)) × GroupAt n x (group_of.Selected s)
  pub whole : (f : FuncId) (at : Spot) (s : Selector) (id : TypeId)
      → Stands p f (mention.Seed (value_of.BoundSelector at s id))
      → (x : ℕ) × Has groups x × GroupAt n x (group_of.Selected s)

-- ---- what follows from what

abbrev pub chosen_by : Call → List ℕ
chosen_by (call.Fixed f) = []
chosen_by (call.Chosen of first group) = group ∷ []

abbrev pub chosen_group : Site → List ℕ
chosen_group x = chosen_by x.call

-- what has one number has another
abbrev pub plain_rule : ℕ → ℕ → Rule
plain_rule from to = record { left = from; right = from; then = to }

abbrev pub goal_rule : ℕ → Goal → List Rule
goal_rule k (goal_of.Function f) = []
goal_rule k (goal_of.Group of group) = plain_rule k group ∷ []
goal_rule k (goal_of.First group) = plain_rule k group ∷ []

abbrev pub group_rule : ℕ → Candidate → List Rule
group_rule k c = goal_rule k c.goal

-- the groups that are chosen from are marked, and each has a number
pub record AreCalled (p : Program) (n : Numbers) (marks : List Bool) : Type 0 where
  pub exact : (k : ℕ) (g : Group) → IsAt n.groups.keys k g
      → (marked marks k ≡ true) ↔ IsCalled p n.likeness.types n.likeness.bares g
  pub listed : (g : Group) → IsCalled p n.likeness.types n.likeness.bares g → (k : ℕ) × IsAt n.groups.keys k g
