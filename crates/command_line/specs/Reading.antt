-- The command of words of which some have been read.
use Rattle.std.specs.Prelude.{ℕ, ◌<◌, length, String, List, [], ◌∷◌, ◌++◌, map, filter_map, string_bytes, false}
use Rattle.std.specs.Prelude.{Option, Some, None, unwrap_or, option_copied, option_to_list, Result, Err}
use Rattle.std.specs.List.{last_or}
use Rattle.std.specs.declared.alloc.Global.{Global}
use Rattle.command_line.specs.declared.command.Command.{Command}
use Rattle.command_line.specs.declared.command.Command.TheVariants as commands
use Rattle.command_line.specs.declared.settings.Settings.{Settings}
use Rattle.command_line.specs.declared.reader.Step.{Step}
use Rattle.command_line.specs.declared.reader.Step.TheVariants.{Flags, Packages}
use Rattle.command_line.specs.CommandLine.{Item, Package, items_of, alone, package_word, loaded, bad_in, package_in}
use Rattle.command_line.specs.CommandLine.{build_in, callgraph_in, run_in, bound_in, choices_in, generate_in}
use Rattle.command_line.specs.CommandLine.{beside_in}
use Rattle.command_line.specs.Packages.{target_of}

-- the last that is said, in items or before them
abbrev pub later : {A : Type 0} → Option A → (Item → Option A) → List Item → Option A
later before said items = last_or before (filter_map said items)

abbrev pub load_with : Settings → List Item → List ℕ → Command
load_with s items word = commands.Load (record {
  target = target_of word;
  build = later s.build build_in items;
  callgraph = later s.callgraph callgraph_in items;
  run = unwrap_or (later s.run run_in items) false;
  bound = unwrap_or (later s.bound bound_in items) 10000000;
  choices = unwrap_or (later s.choices choices_in items) [];
})

abbrev pub asked_with : Settings → Option ℕ → List Item → Result Command (List ℕ)
asked_with s (Some count) items = alone count (option_to_list (option_copied s.other) ++ filter_map beside_in items)
asked_with s None items = loaded (load_with s items) (package_word (filter_map package_in items))

abbrev pub command_with : Settings → List (List ℕ) → List Item → Result Command (List ℕ)
command_with s [] items = asked_with s (later s.generate generate_in items) items
command_with s (word ∷ words) items = Err word

-- the command of what was set before and of items, or the word that is to be named
abbrev pub continued : Settings → List Item → Result Command (List ℕ)
continued s items = command_with s (filter_map bad_in items) items

-- the items of the words that are left
abbrev pub items_left : Step → List Item
items_left (Flags words) = items_of (map string_bytes words.now)
items_left (Packages words) = map Package (map string_bytes words.now)

-- fewer words are left, where flags may follow
abbrev pub IsShorter : Step → List (String Global) → Type 0
IsShorter (Flags left) words = length left.now < length words
IsShorter (Packages left) words = Unit {0}
