-- What the candidates of groups are as rules, and what calls ask, where the answers are the groups.
use Rattle.std.specs.Prelude.{◌≡◌, ℕ, List}
use Rattle.go_base.specs.declared.ids.FuncId.{FuncId}
use Rattle.go_base.specs.declared.place.Pos.{Pos}
use Rattle.go_tree.specs.declared.program.Program.{Program}
use Rattle.cg_nodes.specs.declared.nodes.Called.{Called}
use Rattle.cg_nodes.specs.declared.nodes.Mention.TheVariants as mention
use Rattle.cg_nodes.specs.declared.nodes.Value.{Value}
use Rattle.cg_numbers.specs.Sites.{Stands, SeedAt, SiteAt}
use Rattle.cg_numbers.specs.declared.numbers.Numbers.{Numbers}
use Rattle.cg_numbers.specs.declared.sites.Call.{Call}
use Rattle.cg_numbers.specs.declared.sites.Call.TheVariants as call
use Rattle.cg_numbers.specs.declared.sites.Seed.{Seed}
use Rattle.cg_numbers.specs.declared.sites.Site.{Site}
use Rattle.cg_sets.specs.Asking.{answer_number, function_number, answer_rule}
use Rattle.cg_sets.specs.declared.asking.Asked.{Asked}
use Rattle.cg_sets.specs.declared.asking.Asked.TheVariants as asked_of
use Rattle.cg_sets.specs.declared.asking.Question.{Question}
use Rattle.cg_sets.specs.declared.candidates.Candidate.{Candidate}
use Rattle.cg_sets.specs.declared.candidates.Goal.{Goal}
use Rattle.cg_sets.specs.declared.candidates.Goal.TheVariants as goal_of
use Rattle.cg_solve.specs.Lists.{Has}
use Rattle.cg_solve.specs.declared.solving.Rule.{Rule}

abbrev pub goal_number : Goal → ℕ
goal_number (goal_of.Function f) = function_number f
goal_number (goal_of.Group of group) = answer_number group
goal_number (goal_of.First group) = answer_number group

abbrev pub row_rule : ℕ → Candidate → Rule
row_rule k c = answer_rule k (goal_number c.goal)

abbrev pub asked_by : Call → Asked
asked_by (call.Fixed f) = asked_of.Fixed f
asked_by (call.Chosen of first group) = asked_of.Answer group

abbrev pub question_of : Site → Question
question_of s = record { caller = s.caller; at = s.at; asked = asked_by s.call }

-- ---- what was met

-- the calls that stand in the program
pub record AreSites (p : Program) (n : Numbers) (sites : List Site) : Type 0 where
  pub only : (x : Site) → Has sites x
      → (f : FuncId) × (at : Pos) × (c : Called) × Stands p f (mention.Call at c) × SiteAt n x f at c
  pub whole : (f : FuncId) (at : Pos) (c : Called) → Stands p f (mention.Call at c)
      → (x : Site) × Has sites x × SiteAt n x f at c

-- the values that are made in the program
pub record AreSeeds (p : Program) (n : Numbers) (seeds : List Seed) : Type 0 where
  pub only : (x : Seed) → Has seeds x → (f : FuncId) × (v : Value) × Stands p f (mention.Seed v) × SeedAt n x f v
  pub whole : (f : FuncId) (v : Value) → Stands p f (mention.Seed v) → (x : Seed) × Has seeds x × SeedAt n x f v

-- ---- rules

-- the rules of those candidates in rows that are kept
pub record AreRules (rows : ℕ → List Candidate) (Kept : Candidate → Type 0) (rules : List Rule) : Type 0 where
  pub only : (r : Rule) → Has rules r → (k : ℕ) × (c : Candidate) × Has (rows k) c × Kept c × (r ≡ row_rule k c)
  pub whole : (k : ℕ) (c : Candidate) → Has (rows k) c → Kept c → Has rules (row_rule k c)

abbrev pub IsAny : Candidate → Type 0
IsAny c = Unit {0}
