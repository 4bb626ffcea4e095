-- Facts by numbers, and the rules of what is reached.
use Rattle.std.specs.Prelude.{◌≡◌, ◌+◌, ◌*◌, ◌++◌, ◌↔◌, ℕ, Bool, true, false, List, [], ◌∷◌, Option, Some, None}
use Rattle.std.specs.Prelude.{length, slice_get}
use Rattle.go_base.specs.declared.ids.FuncId.{FuncId}
use Rattle.go_tree.specs.declared.functions.FunctionDecl.{FunctionDecl}
use Rattle.go_tree.specs.declared.functions.FunctionForm.{FunctionForm}
use Rattle.go_tree.specs.declared.functions.FunctionForm.TheVariants as form_of
use Rattle.go_tree.specs.declared.program.Program.{Program}
use Rattle.cg_nodes.specs.declared.nodes.Value.{Value}
use Rattle.cg_numbers.specs.Numbered.{IsAt}
use Rattle.cg_numbers.specs.declared.numbers.Numbers.{Numbers}
use Rattle.cg_numbers.specs.declared.sites.Call.{Call}
use Rattle.cg_numbers.specs.declared.sites.Call.TheVariants as call
use Rattle.cg_numbers.specs.declared.sites.Seed.{Seed}
use Rattle.cg_numbers.specs.declared.sites.Site.{Site}
use Rattle.cg_sets.specs.Graphs.{Known, Reached, Rta}
use Rattle.cg_sets.specs.declared.by_reach.FactNumber.{FactNumber}
use Rattle.cg_sets.specs.declared.by_reach.FactNumber.TheVariants as fact
use Rattle.cg_sets.specs.declared.candidates.Candidate.{Candidate}
use Rattle.cg_sets.specs.declared.candidates.Goal.{Goal}
use Rattle.cg_sets.specs.declared.candidates.Goal.TheVariants as goal_of
use Rattle.cg_solve.specs.LeastSets.{marked}
use Rattle.cg_solve.specs.Lists.{Has, each_below, when}
use Rattle.cg_solve.specs.declared.solving.Rule.{Rule}

-- facts of the three kinds take turns
abbrev pub fact_number : FactNumber → ℕ
fact_number (fact.Reached f) = f.number * 3
fact_number (fact.Known value) = value * 3 + 1
fact_number (fact.Asked group) = group * 3 + 2

-- ---- what follows from what

abbrev pub fact_rule : FactNumber → FactNumber → FactNumber → Rule
fact_rule left right then = record { left = fact_number left; right = fact_number right; then = fact_number then }

abbrev pub call_fact : Call → FactNumber
call_fact (call.Fixed f) = fact.Reached f
call_fact (call.Chosen of first group) = fact.Asked group

abbrev pub site_rule : Site → Rule
site_rule s = fact_rule (fact.Reached s.caller) (fact.Reached s.caller) (call_fact s.call)

abbrev pub seed_rule : Seed → Rule
seed_rule s = fact_rule (fact.Reached s.function) (fact.Reached s.function) (fact.Known s.value)

abbrev pub goal_fact : Goal → FactNumber
goal_fact (goal_of.Function f) = fact.Reached f
goal_fact (goal_of.Group of group) = fact.Asked group
goal_fact (goal_of.First group) = fact.Asked group

abbrev pub candidate_rule : ℕ → Candidate → Rule
candidate_rule k c = fact_rule (fact.Asked k) (fact.Known c.value) (goal_fact c.goal)

-- the rules of the candidates in rows
pub record AreRowRules (rows : ℕ → List Candidate) (rules : List Rule) : Type 0 where
  pub only : (r : Rule) → Has rules r → (k : ℕ) × (c : Candidate) × Has (rows k) c × (r ≡ candidate_rule k c)
  pub whole : (k : ℕ) (c : Candidate) → Has (rows k) c → Has rules (candidate_rule k c)

-- ---- what holds from the start

abbrev pub main_start : Option FuncId → List ℕ
main_start None = []
main_start (Some f) = fact_number (fact.Reached f) ∷ []

abbrev pub is_init : FunctionForm → Bool
is_init form_of.PackageInit = true
is_init form_of.Init = false
is_init form_of.Function = false
is_init form_of.Method = false
is_init (form_of.Literal within) = false

abbrev pub init_start : ℕ → Option FunctionDecl → List ℕ
init_start k None = []
init_start k (Some d) = when (is_init d.form) (fact_number (fact.Reached (record { number = k })))

abbrev pub start_at : Program → ℕ → List ℕ
start_at p k = init_start k (slice_get p.functions k)

abbrev pub starts_of : Program → ℕ → List ℕ
starts_of p fault =
    (fact_number (fact.Known fault) ∷ [] ++ main_start p.main) ++ each_below (start_at p) (length p.functions)

-- ---- what is marked

abbrev pub holds : List Bool → FactNumber → Bool
holds marks f = marked marks (fact_number f)

abbrev pub is_made : List Bool → Candidate → Bool
is_made marks c = holds marks (fact.Known c.value)

abbrev pub runs_in : List Bool → Site → Bool
runs_in marks s = holds marks (fact.Reached s.caller)

abbrev pub IsMade : List Bool → Candidate → Type 0
IsMade marks c = is_made marks c ≡ true

-- the marks are those of what is reached, and of the values that are made there
pub record IsReach (p : Program) (n : Numbers) (marks : List Bool) : Type 0 where
  pub runs : (f : FuncId) → (holds marks (fact.Reached f) ≡ true) ↔ Rta p n.likeness.types n.likeness.bares (Reached f)
  pub made : (k : ℕ) (v : Value) → IsAt n.values.keys k v
      → (holds marks (fact.Known k) ≡ true) ↔ Rta p n.likeness.types n.likeness.bares (Known v)
