-- The answer of a call: which outcome is right for the words and the files, with what on standard output.
use Rattle.std.specs.Prelude.{◌≡◌, ℕ, List, [], ◌⊎◌, Option, Ok, Err, Bool, false, is_some}
use Rattle.std.specs.Io.KnownBytes.{Appends}
use Rattle.command_line.specs.CommandLine.{command_of}
use Rattle.command_line.specs.declared.command.LoadCommand.{LoadCommand}
use Rattle.command_line.specs.declared.command.Command.TheVariants as commands
use Rattle.go_base.specs.Devices.{Tree}
use Rattle.go_base.specs.declared.place.Place.{Place}
use Rattle.go_base.specs.declared.rule.Rule.{Rule}
use Rattle.go_sources.specs.declared.program.Sources.{Sources}
use Rattle.go_sources.specs.Sources.{files_of}
use Rattle.go_load.specs.Answers.{IsLoaded, Breaks}
use Rattle.program_work.specs.declared.outcome.Outcome.{Outcome}
use Rattle.program_work.specs.declared.outcome.Outcome.TheVariants as outcomes
use Rattle.driver.specs.Generating.{IsGenerated}
use Rattle.program_work.specs.Outputs.{Finishes, IsUnfinished}
use Rattle.program_work.specs.Working.{IsResult}

-- a program is there: one that was loaded for a command, or the generated one
pub data HasProgram (words : List (List ℕ)) (files : Option Tree) : Type 0 where
  loaded : (command : LoadCommand) (sources : Sources) → command_of words ≡ Ok (commands.Load command)
      → IsLoaded files command.target sources → HasProgram words files
  generated : (count : ℕ) → command_of words ≡ Ok (commands.Generate count) → HasProgram words files

-- What is asked of a program comes to this outcome, with this on standard output. What a run writes is told where the
-- output is whole, and not of a front of it.
pub data Works (whole : Bool) (words : List (List ℕ)) (files : Option Tree) (outcome : Outcome) (output : List ℕ) :
    Type 0 where
  on_loaded : (command : LoadCommand) (sources : Sources) → command_of words ≡ Ok (commands.Load command)
      → IsLoaded files command.target sources → IsResult whole command (files_of sources) outcome output
      → Works whole words files outcome output
  on_generated : (count : ℕ) → command_of words ≡ Ok (commands.Generate count)
      → IsGenerated whole count outcome output
      → Works whole words files outcome output

-- a loading rule is broken, and nothing is on standard output
pub record Refuses (words : List (List ℕ)) (files : Option Tree) (place : Place) (rule : Rule) (output : List ℕ) :
    Type 0 where
  pub command : LoadCommand
  pub asked : command_of words ≡ Ok (commands.Load command)
  pub breaks : Breaks files command.target place rule
  pub nothing : output ≡ []

-- The outcome is the right one, with this on standard output. The outcomes that speak of devices and memory are never
-- right by words and files alone, and an internal error never is.
abbrev pub IsRight : Bool → List (List ℕ) → Option Tree → Outcome → List ℕ → Type 0
IsRight whole words files outcomes.Done output = Works whole words files outcomes.Done output
IsRight whole words files (outcomes.Ended ending) output = Works whole words files (outcomes.Ended ending) output
IsRight whole words files (outcomes.Refused place rule) output =
    Refuses words files place rule output ⊎ Works whole words files (outcomes.Refused place rule) output
IsRight whole words files (outcomes.Usage word) output = (command_of words ≡ Err word) × (output ≡ [])
IsRight whole words files outcomes.ReadFault output = ⊥
IsRight whole words files outcomes.WriteFault output = ⊥
IsRight whole words files outcomes.OutOfMemory output = ⊥
IsRight whole words files outcomes.InternalError output = ⊥

-- a command to load something
pub record AsksToLoad (words : List (List ℕ)) : Type 0 where
  pub command : LoadCommand
  pub asked : command_of words ≡ Ok (commands.Load command)

-- What a call answers, and what is on standard output then: nothing after a read fault, which comes only for words
-- that name a target, and a front of a right output after a write fault, want of memory, and an internal error, which
-- comes only where a program is there.
abbrev pub Answers : List (List ℕ) → Option Tree → Outcome → Option (List ℕ) → Option (List ℕ) → Type 0
Answers words files outcomes.ReadFault old new = AsksToLoad words × Appends old new []
Answers words files outcomes.WriteFault old new = IsUnfinished (IsRight false words files) old new
Answers words files outcomes.OutOfMemory old new = IsUnfinished (IsRight false words files) old new
Answers words files outcomes.InternalError old new =
    HasProgram words files × IsUnfinished (IsRight false words files) old new
Answers words files outcome old new = Finishes (IsRight (is_some old) words files) outcome old new
