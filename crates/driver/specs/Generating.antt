-- The work on the generated program: the numbers of edges of its graphs are written, and then what the run of its code
-- writes. That the program is that of the generated text is not said yet, nor that the code is the program's.
use Rattle.std.specs.Prelude.{◌≡◌, ℕ, List, ◌∷◌, [], ◌++◌, Bool, IsTrue, codes, decimal, length}
use Rattle.cg_sets.specs.declared.edges.Edge.{Edge}
use Rattle.command_line.specs.declared.command.Graph.TheVariants as graph_of
use Rattle.go_base.specs.declared.ending.Ending.{Ending}
use Rattle.go_tree.specs.declared.program.Program.{Program}
use Rattle.program_work.specs.Graphs.{IsGraph}
use Rattle.program_work.specs.Working.{IsRun, IsSound}
use Rattle.program_work.specs.declared.outcome.Outcome.{Outcome}
use Rattle.program_work.specs.declared.outcome.Outcome.TheVariants as outcomes
use Rattle.ssa_ir.specs.declared.code.Code.{Code}
use Rattle.typed_trees.specs.Programs.{IsTypedProgram}

-- a word and a number, on a line
abbrev pub count_line : List ℕ → ℕ → List ℕ
count_line word count = word ++ (decimal count ++ 10 ∷ [])

-- how many types the program has, and how many edges its graphs
abbrev pub counts_text : ℕ → ℕ → ℕ → ℕ → List ℕ
counts_text count cha rta vta =
    count_line (codes "gen ") count
    ++ (count_line (codes "cha ") cha ++ (count_line (codes "rta ") rta ++ count_line (codes "vta ") vta))

-- the counts of a program of so many types: how many edges each of its graphs has
pub record Counts (program : Program) (count : ℕ) (text : List ℕ) : Type 0 where
  pub cha : List Edge
  pub rta : List Edge
  pub vta : List Edge
  pub is_cha : IsGraph graph_of.Cha program cha
  pub is_rta : IsGraph graph_of.Rta program rta
  pub is_vta : IsGraph graph_of.Vta program vta
  pub text_is : text ≡ counts_text count (length cha) (length rta) (length vta)

-- how many ticks the run may take
abbrev pub ticks : ℕ
ticks = 10000000

-- A text, and then what the run of a code writes, without choices. That is told where all of the output is.
pub record IsRunBehind (whole : Bool) (code : Code) (text : List ℕ) (ending : Ending) (output : List ℕ) : Type 0 where
  pub run : List ℕ
  pub is_run : IsTrue whole → IsRun code [] ticks ending run
  pub parts : output ≡ text ++ run

-- the counts of a program, and then what the run of a code writes
pub record IsGeneratedRun (whole : Bool) (count : ℕ) (ending : Ending) (output : List ℕ) : Type 0 where
  pub program : Program
  pub typed : IsTypedProgram program
  pub code : Code
  pub sound : IsSound code
  pub counts : List ℕ
  pub is_counts : Counts program count counts
  pub behind : IsRunBehind whole code counts ending output

-- the outcome of the generated program of so many types
pub record IsGenerated (whole : Bool) (count : ℕ) (outcome : Outcome) (output : List ℕ) : Type 0 where
  pub ending : Ending
  pub outcome_is : outcome ≡ outcomes.Ended ending
  pub ran : IsGeneratedRun whole count ending output
