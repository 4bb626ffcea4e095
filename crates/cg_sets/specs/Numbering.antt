-- Candidates by numbers, and what they stand for.
use Rattle.std.specs.Prelude.{◌≡◌, ℕ, Option, Some, None}
use Rattle.go_base.specs.declared.ids.FuncId.{FuncId}
use Rattle.cg_nodes.specs.declared.nodes.Group.{Group}
use Rattle.cg_nodes.specs.declared.nodes.Node.{Node}
use Rattle.cg_numbers.specs.Numbered.{IsAt, NodeAt, GroupAt}
use Rattle.cg_numbers.specs.declared.numbers.Numbers.{Numbers}
use Rattle.cg_sets.specs.Candidates.{Standing}
use Rattle.cg_sets.specs.Embedding.{Aim, Calls, Asks}
use Rattle.cg_sets.specs.declared.candidates.Candidate.{Candidate}
use Rattle.cg_sets.specs.declared.candidates.Goal.{Goal}
use Rattle.cg_sets.specs.declared.candidates.Goal.TheVariants as goal_of

abbrev pub AsksAt : Numbers → Option Node → Group → Goal → Type 0
AsksAt n (Some place) g (goal_of.Group of group) = NodeAt n of place × GroupAt n group g
AsksAt n None g (goal_of.First group) = GroupAt n group g
AsksAt n (Some place) g (goal_of.First group) = ⊥
AsksAt n None g (goal_of.Group of group) = ⊥
AsksAt n place g (goal_of.Function f) = ⊥

abbrev pub CallsAt : FuncId → Goal → Type 0
CallsAt f (goal_of.Function g) = f ≡ g
CallsAt f (goal_of.Group of group) = ⊥
CallsAt f (goal_of.First group) = ⊥

abbrev pub AimAt : Numbers → Aim → Goal → Type 0
AimAt n (Calls f) goal = CallsAt f goal
AimAt n (Asks node g) goal = AsksAt n node g goal

pub record CandidateAt (n : Numbers) (c : Candidate) (s : Standing) : Type 0 where
  pub value : IsAt n.values.keys c.value s.value
  pub aim : AimAt n s.aim c.goal
  pub skip : c.skip ≡ s.skip
  pub base : c.base ≡ s.base
  pub receiver : NodeAt n c.receiver s.receiver
