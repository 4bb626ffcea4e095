-- What calls ask, and what is answered, by numbers.
use Rattle.std.specs.Prelude.{◌≡◌, ◌⊎◌, ◌≤◌, ◌++◌, ℕ, List, [], ◌∷◌, Option, Some, None, length}
use Rattle.cg_numbers.specs.Numbered.{GrowsBy, IsAt, IsOnce}
use Rattle.cg_numbers.specs.declared.sites.Call.{Call}
use Rattle.cg_numbers.specs.declared.sites.Call.TheVariants as call
use Rattle.cg_numbers.specs.declared.sites.Site.{Site}
use Rattle.cg_sets.specs.Asking.{answer_rule, target_number}
use Rattle.cg_sets.specs.declared.asking.Asked.{Asked}
use Rattle.cg_sets.specs.declared.asking.Asked.TheVariants as asked_of
use Rattle.cg_sets.specs.declared.asking.Question.{Question}
use Rattle.cg_sets.specs.declared.candidates.Candidate.{Candidate}
use Rattle.cg_sets.specs.declared.candidates.Goal.{Goal}
use Rattle.cg_sets.specs.declared.candidates.Goal.TheVariants as goal_of
use Rattle.cg_solve.specs.Lists.{Has}
use Rattle.cg_solve.specs.Tables.{row}
use Rattle.cg_solve.specs.declared.solving.Rule.{Rule}
use Rattle.cg_vta.specs.declared.asks.Ask.{Ask}
use Rattle.cg_vta.specs.declared.goals.Goals.{Goals}
use Rattle.cg_vta.specs.declared.goals.Standing.{Standing}

-- ---- what values stand for in groups

abbrev pub standing : ℕ → ℕ → Standing
standing group value = record { group = group; value = value }

-- a value stands for a goal in a group
abbrev pub HasGoal : Goals → ℕ → ℕ → Goal → Type 0
HasGoal goals g v y = (j : ℕ) × IsAt goals.standings.keys j (standing g v) × Has (row goals.rows j) y

-- each has one number, and later rows are empty
pub record IsKept (goals : Goals) : Type 0 where
  pub once : IsOnce goals.standings.keys
  pub later : (j : ℕ) → length goals.standings.keys ≤ j → row goals.rows j ≡ []

-- the goals of the candidates in rows
pub record AreGoals (rows : ℕ → List Candidate) (goals : Goals) : Type 0 where
  pub kept : IsKept goals
  pub only : (g v : ℕ) (y : Goal) → HasGoal goals g v y
      → (c : Candidate) × Has (rows g) c × (c.value ≡ v) × (c.goal ≡ y)
  pub whole : (g : ℕ) (c : Candidate) → Has (rows g) c → HasGoal goals g c.value c.goal

-- ---- asks

abbrev pub asks_for : ℕ → ℕ → ℕ → Ask
asks_for of first group = record { of = of; first = first; group = group }

abbrev pub ask_of : Call → Option Ask
ask_of (call.Fixed f) = None
ask_of (call.Chosen of first group) = Some (asks_for of first group)

-- what an ask with a goal asks in turn
abbrev pub next_ask : ℕ → Ask → Goal → Option Ask
next_ask nothing a (goal_of.Function f) = None
next_ask nothing a (goal_of.Group of group) = Some (asks_for of nothing group)
next_ask nothing a (goal_of.First group) = Some (asks_for a.first nothing group)

-- an ask was listed, if there is one that was not before
abbrev pub GrowsAs : List Ask → List Ask → Option Ask → Type 0
GrowsAs old new None = new ≡ old
GrowsAs old new (Some a) = GrowsBy old new a

abbrev pub AskedAt : List Ask → Call → Asked → Type 0
AskedAt asks (call.Fixed f) (asked_of.Fixed g) = f ≡ g
AskedAt asks (call.Fixed f) (asked_of.Answer k) = ⊥
AskedAt asks (call.Chosen of first group) (asked_of.Fixed g) = ⊥
AskedAt asks (call.Chosen of first group) (asked_of.Answer k) = IsAt asks k (asks_for of first group)

-- what a call asks
pub record IsAsked (asks : List Ask) (x : Site) (q : Question) : Type 0 where
  pub caller : q.caller ≡ x.caller
  pub at : q.at ≡ x.at
  pub asked : AskedAt asks x.call q.asked

pub record AreAsked (asks : List Ask) (sites : List Site) (questions : List Question) : Type 0 where
  pub only : (q : Question) → Has questions q → (x : Site) × Has sites x × IsAsked asks x q
  pub whole : (x : Site) → Has sites x → (q : Question) × Has questions q × IsAsked asks x q

-- ---- answers

-- t is the number of a goal, where that asks for another
abbrev pub TargetAt : List Ask → Goal → Option Ask → ℕ → Type 0
TargetAt asks y None t = t ≡ target_number y 0
TargetAt asks y (Some a) t = (k : ℕ) × IsAt asks k a × (t ≡ target_number y k)

abbrev pub PutsTarget : ℕ → ℕ → Ask → Goal → List Ask → List Rule → List Rule → Type 0
PutsTarget nothing j a y asks old new =
    (t : ℕ) × TargetAt asks y (next_ask nothing a y) t × (new ≡ old ++ answer_rule j t ∷ [])

-- the rules of the goals that P tells of an ask, with what they ask in turn
pub record PutsGoals (nothing j : ℕ) (a : Ask) (P : Goal → Type 0) (before after : List Ask) (old new : List Rule) :
    Type 0 where
  pub kept : (r : Rule) → Has old r → Has new r
  pub only : (r : Rule) → Has new r
      → Has old r ⊎ ((y : Goal) × (t : ℕ) × P y × TargetAt after y (next_ask nothing a y) t × (r ≡ answer_rule j t))
  pub whole : (y : Goal) → P y
      → (t : ℕ) × TargetAt after y (next_ask nothing a y) t × Has new (answer_rule j t)
  pub stays : (k : ℕ) (b : Ask) → IsAt before k b → IsAt after k b
  pub asks : (b : Ask) → Has after b → Has before b ⊎ ((y : Goal) × P y × (next_ask nothing a y ≡ Some b))

-- what a value in an ask's node stands for in its group
abbrev pub IsGoalOf : (ℕ → List ℕ) → (ℕ → List Candidate) → Ask → Goal → Type 0
IsGoalOf facts rows a y = (c : Candidate) × Has (rows a.group) c × Has (facts a.of) c.value × (c.goal ≡ y)

-- an ask, or one that such a one asks in turn
pub data IsRest (facts : ℕ → List ℕ) (rows : ℕ → List Candidate) (nothing : ℕ) (before : List Ask) : Ask → Type 0 where
  first : (a : Ask) → Has before a → IsRest facts rows nothing before a
  next : (a b : Ask) (y : Goal) → IsRest facts rows nothing before a → IsGoalOf facts rows a y
      → next_ask nothing a y ≡ Some b → IsRest facts rows nothing before b

-- the rules of all asks, those that others ask in turn too
pub record AreAnswered (facts : ℕ → List ℕ) (rows : ℕ → List Candidate) (nothing : ℕ) (before asks : List Ask)
    (rules : List Rule) : Type 0 where
  pub stays : (k : ℕ) (a : Ask) → IsAt before k a → IsAt asks k a
  pub asked : (a : Ask) → Has asks a → IsRest facts rows nothing before a
  pub only : (r : Rule) → Has rules r
      → (j : ℕ) × (a : Ask) × (y : Goal) × (t : ℕ) × IsAt asks j a × IsGoalOf facts rows a y
      × TargetAt asks y (next_ask nothing a y) t × (r ≡ answer_rule j t)
  pub whole : (j : ℕ) (a : Ask) (y : Goal) → IsAt asks j a → IsGoalOf facts rows a y
      → (t : ℕ) × TargetAt asks y (next_ask nothing a y) t × Has rules (answer_rule j t)
