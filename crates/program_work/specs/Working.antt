-- The work on a program that was loaded: its code is printed, a call graph listed, and it is run, each where that is
-- asked.
use Rattle.std.specs.Prelude.{◌≡◌, ℕ, List, [], ◌∷◌, ◌++◌, ◌⊎◌, Bool, Option, Some, None, true, false, All, IfSome}
use Rattle.std.specs.Prelude.{IsTrue, is_some}
use Rattle.std.specs.Io.KnownBytes.{Appends}
use Rattle.command_line.specs.declared.command.Graph.{Graph}
use Rattle.command_line.specs.declared.command.Letters.{Letters}
use Rattle.command_line.specs.declared.command.LoadCommand.{LoadCommand}
use Rattle.cg_listing.specs.Listing as listed
use Rattle.cg_sets.specs.declared.edges.Edge.{Edge}
use Rattle.ssa_runnable.specs.Runnable.{IsRunnable}
use Rattle.go_base.specs.Devices.{AppendsFront}
use Rattle.go_base.specs.declared.ending.Ending.{Ending}
use Rattle.go_base.specs.declared.place.Place.{Place}
use Rattle.go_base.specs.declared.rule.Rule.TheVariants as rules
use Rattle.go_sources.specs.declared.sources.SourceFile.{SourceFile}
use Rattle.go_tree.specs.declared.program.Program.{Program}
use Rattle.go_type.specs.Held.{IsHeld}
use Rattle.ssa_ir.specs.declared.code.Code.{Code}
use Rattle.ssa_ir.specs.declared.code.Function.{Function}
use Rattle.ssa_mean.specs.Answers.{Answers, AreAnswers}
use Rattle.ssa_mean.specs.Runs.{IsRunOf}
use Rattle.ssa_print.specs.Codes as shown
use Rattle.ssa_print.specs.Operands.{setting_of}
use Rattle.ssa_sane.specs.Sane.{IsSane}
use Rattle.ssa_typed.specs.Typed.{IsTyped}
use Rattle.typed_trees.specs.Programs.{IsTypedProgram}
use Rattle.program_work.specs.declared.outcome.Outcome.{Outcome}
use Rattle.program_work.specs.declared.outcome.Outcome.TheVariants as outcomes
use Rattle.program_work.specs.Asked.{wants_registers}
use Rattle.program_work.specs.Checking.{IsBroken}
use Rattle.program_work.specs.Graphs.{IsGraph}

-- the path of the target's first file
abbrev pub first_path : List SourceFile → List ℕ
first_path [] = []
first_path (file ∷ files) = file.path

-- the first byte of the file at a path
abbrev pub start_of : List ℕ → Place
start_of path = record { path = path; offset = 0; line = 1; column = 1 }

unfoldable pub AreSane : List Function → Type 0
AreSane functions = All IsSane functions

-- a code that is typed and runnable, of functions that are sane and of types that are held
pub record IsSound (code : Code) : Type 0 where
  pub held : IsHeld code.types
  pub sane : AreSane code.functions
  pub typed : IsTyped code
  pub runnable : IsRunnable code

-- the text of a code, with what letters show of it
abbrev pub IsTextOf : Option Code → Letters → List ℕ → Type 0
IsTextOf None letters text = ⊥
IsTextOf (Some code) letters text = shown.IsCodeText (setting_of code) letters.functions letters.counts text

-- the text of a code, where that is asked; that the code is the program's is not said yet
abbrev pub IsCodeText : Option Code → Option Letters → List ℕ → Type 0
IsCodeText of None text = text ≡ []
IsCodeText of (Some letters) text = IsTextOf of letters text

-- the listing of a graph of a program
pub record IsGraphText (files : List SourceFile) (program : Program) (graph : Graph) (text : List ℕ) : Type 0 where
  pub edges : List Edge
  pub are : IsGraph graph program edges
  pub is : listed.IsListing files program edges text

-- the listing of a graph, where one is asked
abbrev pub IsListing : List SourceFile → Program → Option Graph → List ℕ → Type 0
IsListing files program None text = text ≡ []
IsListing files program (Some graph) text = IsGraphText files program graph text

-- a run of a code with these choices and this bound writes this output, and ends so
abbrev pub IsRun : Code → List ℕ → ℕ → Ending → List ℕ → Type 0
IsRun code choices bound ending output =
    (answers : Answers) → AreAnswers code.types answers → IsRunOf code choices bound output ending

-- so does one with the choices and the bound of a command
abbrev pub IsRunBy : Option Code → LoadCommand → Ending → List ℕ → Type 0
IsRunBy None command ending output = ⊥
IsRunBy (Some code) command ending output = IsRun code command.choices command.bound ending output

-- How the work ends. What a run writes, and which ending it has, is told where all of the output is: where the work
-- came to its end, on a sink that tells what it holds.
pub data EndsIn (whole : Bool) (command : LoadCommand) (of : Option Code) (outcome : Outcome) (output : List ℕ) : Type 0
  where
    done : command.run ≡ false → outcome ≡ outcomes.Done → output ≡ [] → EndsIn whole command of outcome output
    ran : command.run ≡ true → (ending : Ending) → outcome ≡ outcomes.Ended ending
        → (IsTrue whole → IsRunBy of command ending output) → EndsIn whole command of outcome output

-- the work that a command asks for of one program, which is built: the text of a code, the listing, and what the run of
-- that code writes
pub record IsWork (whole : Bool) (command : LoadCommand) (files : List SourceFile) (program : Program)
    (outcome : Outcome) (output : List ℕ) : Type 0 where
  pub built : wants_registers command ≡ false
  pub of : Option Code
  pub sound : IfSome of IsSound
  pub code : List ℕ
  pub listing : List ℕ
  pub run : List ℕ
  pub is_code : IsCodeText of command.build code
  pub is_listing : IsListing files program command.callgraph listing
  pub ends : EndsIn whole command of outcome run
  pub parts : output ≡ code ++ (listing ++ run)

-- the right outcome of the work on a program that breaks no rule: what is asked is not built, or the work is done
pub data IsServed (whole : Bool) (command : LoadCommand) (files : List SourceFile) (program : Program)
    (outcome : Outcome) (output : List ℕ) : Type 0 where
  outside : wants_registers command ≡ true → outcome ≡ outcomes.Refused (start_of (first_path files)) rules.NotBuiltYet
      → output ≡ [] → IsServed whole command files program outcome output
  worked : IsWork whole command files program outcome output → IsServed whole command files program outcome output

-- the right outcome for files that were loaded: they break a rule; or they make a typed program, of which nothing else
-- is said yet, and what is asked of it comes to this
pub data IsResult (whole : Bool) (command : LoadCommand) (files : List SourceFile) (outcome : Outcome)
    (output : List ℕ) : Type 0 where
  broken : IsBroken files outcome → output ≡ [] → IsResult whole command files outcome output
  served : (program : Program) → IsTypedProgram program → IsServed whole command files program outcome output
      → IsResult whole command files outcome output

-- ---- what the parts of the code come to

-- what the run of a code wrote, with these choices and this bound
pub record HasRun (code : Code) (choices : List ℕ) (bound : ℕ) (ending : Ending) (old new : Option (List ℕ)) : Type 0
  where
    pub output : List ℕ
    pub appends : Appends old new output
    pub is_run : IsTrue (is_some old) → IsRun code choices bound ending output

-- the outcome where what is asked is not built, for the file at a path
abbrev pub IsNotBuilt : List ℕ → Outcome → Type 0
IsNotBuilt path outcome =
    (outcome ≡ outcomes.Refused (start_of path) rules.NotBuiltYet) ⊎ (outcome ≡ outcomes.OutOfMemory)

-- a listing was written, where one is asked
pub record Lists (files : List SourceFile) (program : Program) (graph : Option Graph) (old new : Option (List ℕ)) :
    Type 0 where
  pub text : List ℕ
  pub is_listing : IsListing files program graph text
  pub appends : Appends old new text

pub record ListsPart (files : List SourceFile) (program : Program) (graph : Option Graph) (old new : Option (List ℕ)) :
    Type 0 where
  pub text : List ℕ
  pub is_listing : IsListing files program graph text
  pub appends : AppendsFront old new text

-- a front of a listing was written, or nothing
abbrev pub ListsFront : List SourceFile → Program → Option Graph → Option (List ℕ) → Option (List ℕ) → Type 0
ListsFront files program graph old new = ListsPart files program graph old new ⊎ Appends old new []
