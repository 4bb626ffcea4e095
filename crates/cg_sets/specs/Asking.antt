-- What calls ask, and the edges that the answers give.
use Rattle.std.specs.Prelude.{◌≡◌, ℕ, ◌+◌, ◌*◌, ◌/◌, ◌%◌, ◌==◌, Bool, true, false, List, [], ◌∷◌, ◌++◌, map, flat_map}
use Rattle.std.specs.Prelude.{Option, Some, None, if◌then◌else◌}
use Rattle.go_base.specs.declared.ids.FuncId.{FuncId}
use Rattle.cg_solve.specs.declared.solving.Rule.{Rule}
use Rattle.cg_solve.specs.LeastSets.{Derives}
use Rattle.cg_solve.specs.Lists.{Has}
use Rattle.cg_sets.specs.declared.asking.Asked.{Asked}
use Rattle.cg_sets.specs.declared.asking.Asked.TheVariants as asked_of
use Rattle.cg_sets.specs.declared.asking.Question.{Question}
use Rattle.cg_sets.specs.declared.candidates.Goal.{Goal}
use Rattle.cg_sets.specs.declared.candidates.Goal.TheVariants as goal_of
use Rattle.cg_sets.specs.declared.edges.Edge.{Edge}

-- ---- answers and functions have numbers: even ones and odd ones

abbrev pub answer_number : ℕ → ℕ
answer_number answer = answer * 2

abbrev pub function_number : FuncId → ℕ
function_number function = function.number * 2 + 1

abbrev pub function_from : ℕ → List FuncId
function_from n = if n % 2 == 1 then record { number = n / 2 } ∷ [] else []

abbrev pub functions_in : List ℕ → List FuncId
functions_in numbers = flat_map function_from numbers

abbrev pub target_number : Goal → ℕ → ℕ
target_number (goal_of.Function function) answer = function_number function
target_number (goal_of.Group node group) answer = answer_number answer
target_number (goal_of.First group) answer = answer_number answer

-- that an answer has a target
abbrev pub answer_rule : ℕ → ℕ → Rule
answer_rule answer target = record { left = answer_number answer; right = answer_number answer; then = target }

-- ---- what is answered

-- an answer has a function where a finite derivation leads to it
abbrev pub Gives : List Rule → ℕ → FuncId → Type 0
Gives rules answer function = Derives (answer_number answer ∷ []) rules (function_number function)

abbrev pub Calls : List Rule → Asked → FuncId → Type 0
Calls rules (asked_of.Fixed function) callee = function ≡ callee
Calls rules (asked_of.Answer answer) callee = Gives rules answer callee

-- an edge of a question
pub record HasEdge (questions : List Question) (rules : List Rule) (e : Edge) : Type 0 where
  pub question : Question
  pub stands : Has questions question
  pub caller : question.caller ≡ e.caller
  pub site : question.at ≡ e.site
  pub calls : Calls rules question.asked e.callee

-- ---- what the code gathers

abbrev pub edge_to : Question → FuncId → Edge
edge_to q callee = record { caller = q.caller; site = q.at; callee = callee }

-- the edges of a question, where the functions of answers are given
abbrev pub asked_edges : (ℕ → List FuncId) → Question → Asked → List Edge
asked_edges given q (asked_of.Fixed function) = edge_to q function ∷ []
asked_edges given q (asked_of.Answer answer) = map (edge_to q) (given answer)

abbrev pub question_edges : (ℕ → List FuncId) → Question → List Edge
question_edges given q = asked_edges given q q.asked

abbrev pub if_so : Bool → List FuncId → List FuncId
if_so test functions = if test then functions else []

-- no function stands under an answer that does not have it
abbrev pub AreSound : List Rule → (ℕ → List FuncId) → Type 0
AreSound rules given = (answer : ℕ) (f : FuncId) → Has (given answer) f → Gives rules answer f

abbrev pub answers_of : Asked → List ℕ
answers_of (asked_of.Fixed function) = []
answers_of (asked_of.Answer answer) = answer ∷ []

-- each answer that is asked for is in the list
abbrev pub AsksOf : List Question → List ℕ → Type 0
AsksOf questions answers =
    (q : Question) → Has questions q → (answer : ℕ) → q.asked ≡ asked_of.Answer answer → Has answers answer

-- each answer that is asked for has all its functions
abbrev pub AnswersAll : List Question → List Rule → (ℕ → List FuncId) → Type 0
AnswersAll questions rules given =
    (q : Question) → Has questions q → (answer : ℕ) → q.asked ≡ asked_of.Answer answer → (f : FuncId)
    → Gives rules answer f → Has (given answer) f

-- functions were put to an answer
pub record Grows (rules : List Rule) (old new : ℕ → List FuncId) (answer : ℕ) : Type 0 where
  pub sound : AreSound rules old → AreSound rules new
  pub kept : (other : ℕ) (f : FuncId) → Has (old other) f → Has (new other) f
  pub whole : (f : FuncId) → Gives rules answer f → Has (new answer) f
