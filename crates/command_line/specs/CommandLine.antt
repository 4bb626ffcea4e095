-- What the words of a command line ask for, or the word that is to be named. Go's package `flag`, "Command line flag
-- syntax".
use Rattle.std.specs.Prelude.{ℕ, List, [], ◌∷◌, map, filter_map, Bool, false, Option, Some, None, unwrap_or, Result}
use Rattle.std.specs.Prelude.{Ok, Err, if◌then◌else◌}
use Rattle.std.specs.List.{last_or}
use Rattle.command_line.specs.declared.command.Command.{Command}
use Rattle.command_line.specs.declared.command.Command.TheVariants as commands
use Rattle.command_line.specs.declared.command.Letters.{Letters}
use Rattle.command_line.specs.declared.command.Graph.{Graph}
use Rattle.command_line.specs.declared.values.Setting.{Setting}
use Rattle.command_line.specs.declared.values.Setting.TheVariants.{Build, Callgraph, Run, Bound, Choices, Generate}
use Rattle.command_line.specs.declared.flags.Flag.{Flag}
use Rattle.command_line.specs.Flags.{Operand, Terminator, Unknown, Whole, Needs, shape_of}
use Rattle.command_line.specs.Values.{setting_of}
use Rattle.command_line.specs.Packages.{is_bad_package, target_of}

pub data Item : Type 0 where
  -- a flag with its value, and the word that it came in
  Given : (word : List ℕ) (setting : Setting) → Item
  -- a word behind the flags
  Package : (word : List ℕ) → Item
  -- a word where reading fails; nothing behind it is read
  Bad : (word : List ℕ) → Item

-- A flag that came in a word, with the items behind it; where its value is bad, the word that holds the value.
abbrev pub given : List ℕ → List ℕ → Option Setting → List Item → List Item
given word holder None items = Bad holder ∷ []
given word holder (Some setting) items = Given word setting ∷ items

abbrev mutual
  -- the items of words, from the left
  pub items_of : List (List ℕ) → List Item
  items_of [] = []
  items_of (word ∷ words) = elim (shape_of word) [
    | Operand ↦ map Package (word ∷ words)
    | Terminator ↦ map Package words
    | Unknown ↦ Bad word ∷ []
    | Whole flag value ↦ given word word (setting_of flag value) (items_of words)
    | Needs flag ↦ items_with_value word flag words
  ]

  -- the items of a flag word and of the words behind it, the first of which is its value
  pub items_with_value : List ℕ → Flag → List (List ℕ) → List Item
  items_with_value word flag [] = Bad word ∷ []
  items_with_value word flag (value ∷ words) = given word value (setting_of flag value) (items_of words)

-- What one item says.
abbrev pub bad_in : Item → Option (List ℕ)
bad_in (Bad word) = Some word
bad_in item = None

abbrev pub package_in : Item → Option (List ℕ)
package_in (Package word) = Some word
package_in item = None

abbrev pub build_in : Item → Option Letters
build_in (Given word (Build letters)) = Some letters
build_in item = None

abbrev pub callgraph_in : Item → Option Graph
callgraph_in (Given word (Callgraph graph)) = Some graph
callgraph_in item = None

abbrev pub run_in : Item → Option Bool
run_in (Given word (Run asked)) = Some asked
run_in item = None

abbrev pub bound_in : Item → Option ℕ
bound_in (Given word (Bound ticks)) = Some ticks
bound_in item = None

abbrev pub choices_in : Item → Option (List ℕ)
choices_in (Given word (Choices numbers)) = Some numbers
choices_in item = None

abbrev pub generate_in : Item → Option ℕ
generate_in (Given word (Generate count)) = Some count
generate_in item = None

-- what may not stand beside `-gen`: a flag of another name, by its word, and a package word
abbrev pub beside_in : Item → Option (List ℕ)
beside_in (Given word (Generate count)) = None
beside_in (Given word setting) = Some word
beside_in (Package word) = Some word
beside_in (Bad word) = None

-- the last that items say
abbrev pub last : {A : Type 0} → (Item → Option A) → List Item → Option A
last said items = last_or None (filter_map said items)

-- the command of a package word, with the last item of each flag
abbrev pub load_of : List Item → List ℕ → Command
load_of items word = commands.Load (record {
  target = target_of word;
  build = last build_in items;
  callgraph = last callgraph_in items;
  run = unwrap_or (last run_in items) false;
  bound = unwrap_or (last bound_in items) 10000000;
  choices = unwrap_or (last choices_in items) [];
})

-- the one package word, which is not bad
abbrev pub package_word : List (List ℕ) → Result (List ℕ) (List ℕ)
package_word [] = Err []
package_word (word ∷ []) = if is_bad_package word then Err word else Ok word
package_word (word ∷ second ∷ words) = if is_bad_package word then Err word else Err second

-- the command of the package word, where it is not bad
abbrev pub loaded : (List ℕ → Command) → Result (List ℕ) (List ℕ) → Result Command (List ℕ)
loaded command (Ok word) = Ok (command word)
loaded command (Err word) = Err word

-- `-gen` with nothing beside it; the first that stands there is named
abbrev pub alone : ℕ → List (List ℕ) → Result Command (List ℕ)
alone count [] = Ok (commands.Generate count)
alone count (word ∷ words) = Err word

-- the command of items among which no word is bad
abbrev pub asked : Option ℕ → List Item → Result Command (List ℕ)
asked (Some count) items = alone count (filter_map beside_in items)
asked None items = loaded (load_of items) (package_word (filter_map package_in items))

-- the command of items, or the word that is named: a bad one before all else
abbrev pub command_from : List (List ℕ) → List Item → Result Command (List ℕ)
command_from [] items = asked (last generate_in items) items
command_from (word ∷ words) items = Err word

-- The command of words, or the one word that is to be named.
abbrev pub command_of : List (List ℕ) → Result Command (List ℕ)
command_of words = let items = items_of words in command_from (filter_map bad_in items) items
