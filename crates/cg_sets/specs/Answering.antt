-- Candidates of groups by numbers, and what they stand for.
use Rattle.std.specs.Prelude.{◌≡◌, ◌⊎◌, ◌<◌, ◌==◌, ◌&&◌, ℕ, Bool, true, false, List, [], ◌∷◌, Option, Some, None}
use Rattle.std.specs.Prelude.{slice_get, if◌then◌else◌}
use Rattle.go_base.specs.declared.ids.FuncId.{FuncId}
use Rattle.go_base.specs.declared.ids.TypeId.{TypeId}
use Rattle.go_tree.specs.declared.functions.FunctionDecl.{FunctionDecl}
use Rattle.go_tree.specs.declared.program.Program.{Program}
use Rattle.go_type.specs.declared.methods.MethodEntry.{MethodEntry}
use Rattle.cg_nodes.specs.declared.nodes.Group.{Group}
use Rattle.cg_nodes.specs.declared.nodes.Group.TheVariants as group_of
use Rattle.cg_nodes.specs.declared.nodes.Mention.TheVariants as mention
use Rattle.cg_nodes.specs.declared.nodes.Node.{Node}
use Rattle.cg_nodes.specs.declared.nodes.Node.TheVariants as node_of
use Rattle.cg_nodes.specs.declared.nodes.Selector.{Selector}
use Rattle.cg_nodes.specs.declared.nodes.Value.{Value}
use Rattle.cg_numbers.specs.Alike.{like_value}
use Rattle.cg_numbers.specs.Numbered.{IsAt, ValueAt}
use Rattle.cg_numbers.specs.Sites.{Stands}
use Rattle.cg_numbers.specs.declared.likeness.Likeness.{Likeness}
use Rattle.cg_numbers.specs.declared.numbers.Numbers.{Numbers}
use Rattle.cg_sets.specs.Candidates.{Standing, OfFunction, OfValue, OfClass, Answers, is_value_form, is_in, takes}
use Rattle.cg_sets.specs.Classes.{method_at}
use Rattle.cg_sets.specs.Embedding.{receiver_type}
use Rattle.cg_sets.specs.Numbering.{CandidateAt}
use Rattle.cg_sets.specs.declared.candidates.Candidate.{Candidate}
use Rattle.cg_sets.specs.declared.candidates.Goal.{Goal}
use Rattle.cg_sets.specs.declared.candidates.Goal.TheVariants as goal_of
use Rattle.cg_sets.specs.declared.candidates.Placed.{Placed}
use Rattle.cg_sets.specs.declared.classes.ClassMethod.{ClassMethod}
use Rattle.cg_sets.specs.declared.classes.Classes.{Classes}
use Rattle.cg_solve.specs.Lists.{Has, when}

-- ---- what rows hold

-- candidates of what P tells, each put to the row of its group's number
pub record Puts (n : Numbers) (old new : ℕ → List Candidate) (P : Group → Standing → Type 0) : Type 0 where
  pub kept : (k : ℕ) (c : Candidate) → Has (old k) c → Has (new k) c
  pub only : (k : ℕ) (c : Candidate) → Has (new k) c
      → Has (old k) c ⊎ ((g : Group) × (s : Standing) × P g s × IsAt n.groups.keys k g × CandidateAt n c s)
  pub whole : (g : Group) (s : Standing) → P g s
      → (k : ℕ) × (c : Candidate) × IsAt n.groups.keys k g × Has (new k) c × CandidateAt n c s

-- the values that are listed are those that are made in the program
pub record ListsMade (p : Program) (n : Numbers) : Type 0 where
  pub only : (v : Value) → Has n.values.keys v
      → (f : FuncId) × (u : Value) × Stands p f (mention.Seed u) × (v ≡ like_value n.likeness.types n.likeness.bares u)
  pub whole : (f : FuncId) (u : Value) → Stands p f (mention.Seed u) → (k : ℕ) × ValueAt n k u

-- ---- what stands for what

-- what the functions with numbers below k stand for
abbrev pub OfFunctions : Program → Likeness → ℕ → Group → Standing → Type 0
OfFunctions p l k g s = (f : FuncId) × (f.number < k) × OfFunction p l.types l.bares f g s

-- a value that is made in the program is listed as v
abbrev pub IsListed : Program → Likeness → Value → Type 0
IsListed p l v = (f : FuncId) × (u : Value) × Stands p f (mention.Seed u) × (v ≡ like_value l.types l.bares u)

-- what the values that are listed as v stand for
abbrev pub OfThis : Program → Likeness → Value → Group → Standing → Type 0
OfThis p l v g s =
    (f : FuncId) × (u : Value) × Stands p f (mention.Seed u) × (v ≡ like_value l.types l.bares u)
    × OfValue p l.types l.bares u g s

-- what the values with numbers below k stand for
abbrev pub OfValues : Program → Likeness → List Value → ℕ → Group → Standing → Type 0
OfValues p l values k g s = (i : ℕ) × (v : Value) × (i < k) × IsAt values i v × OfThis p l v g s

-- what classes stand for in the group with number k
abbrev pub OfGroup : Program → Likeness → List Group → ℕ → Group → Standing → Type 0
OfGroup p l groups k g s = IsAt groups k g × OfClass p l.types l.bares g s

-- what classes stand for in the groups with numbers below k
abbrev pub OfGroups : Program → Likeness → List Group → ℕ → Group → Standing → Type 0
OfGroups p l groups k g s = (i : ℕ) × (i < k) × OfGroup p l groups i g s

-- ---- what functions and values stand for

-- the signature of a function that may be a value
abbrev pub signature_by : Program → FuncId → Option FunctionDecl → Option TypeId
signature_by p f None = None
signature_by p f (Some d) = if is_value_form d.form && is_in p f then Some d.signature else None

abbrev pub signature_of : Program → FuncId → Option TypeId
signature_of p f = signature_by p f (slice_get p.functions f.number)

-- whether the first argument of a method expression is the receiver itself
abbrev pub takes_first : Program → Likeness → TypeId → Goal → Bool
takes_first p l of (goal_of.Function f) = takes p l.types l.bares of (receiver_type p.functions f)
takes_first p l of (goal_of.Group node group) = false
takes_first p l of (goal_of.First group) = false

-- k is the number of the node that the receiver comes from
abbrev pub FirstAt : Bool → Numbers → TypeId → ℕ → ℕ → Type 0
FirstAt true n signature receiver k = IsAt n.nodes.keys k (node_of.Argument (group_of.Signed signature) 0)
FirstAt false n signature receiver k = k ≡ receiver

-- whether a method has the name that is selected
abbrev pub is_selected : Selector → MethodEntry → Bool
is_selected s e = (e.name.number == s.name.number) && (e.«package» == s.«package»)

abbrev pub goal_base : Goal → ℕ
goal_base (goal_of.Function f) = 1
goal_base (goal_of.Group node group) = 0
goal_base (goal_of.First group) = 0

-- ---- where candidates go

-- a candidate for all that P tells, and none where it tells nothing
abbrev pub ArePlaced : Numbers → (Group → Standing → Type 0) → Option Placed → Type 0
ArePlaced n P None = (g : Group) (s : Standing) → P g s → ⊥
ArePlaced n P (Some x) =
    ((g : Group) × (s : Standing) × P g s)
    × ((g : Group) (s : Standing) → P g s → IsAt n.groups.keys x.group g × CandidateAt n x.candidate s)

-- what a candidate adds to a row
abbrev pub placed_in : ℕ → Option Placed → List Candidate
placed_in k None = []
placed_in k (Some x) = when (x.group == k) x.candidate

-- ---- what classes stand for

abbrev pub of_class : ℕ → ClassMethod → Candidate
of_class value x =
    record {
      value = value;
      goal = x.aiming.goal;
      skip = 0;
      base = goal_base x.aiming.goal;
      receiver = x.aiming.receiver;
    }

abbrev pub candidate_by : Option ClassMethod → Option ℕ → List Candidate
candidate_by (Some x) (Some value) = of_class value x ∷ []
candidate_by (Some x) None = []
candidate_by None value = []

-- the candidate of the class at a place, by the method of the name of a number
abbrev pub class_candidate : Classes → ℕ → ℕ → List Candidate
class_candidate cs name place = candidate_by (method_at cs place name) (slice_get cs.list.values.items place)

abbrev pub if_so : Bool → List Candidate → List Candidate
if_so test candidates = if test then candidates else []

-- ---- all

-- the row of each group that is listed has the candidates of the group, and nothing else
pub record AreAnswers (p : Program) (n : Numbers) (rows : ℕ → List Candidate) : Type 0 where
  pub only : (k : ℕ) (c : Candidate) → Has (rows k) c
      → (g : Group) × (s : Standing) × Answers p n.likeness.types n.likeness.bares g s × IsAt n.groups.keys k g
      × CandidateAt n c s
  pub whole : (k : ℕ) (g : Group) (s : Standing) → IsAt n.groups.keys k g
      → Answers p n.likeness.types n.likeness.bares g s → (c : Candidate) × Has (rows k) c × CandidateAt n c s
