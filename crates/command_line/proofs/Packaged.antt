-- What items say that are package words alone.
use Rattle.std.proofs.Common.{◌≡◌, ℕ, List, [], ◌∷◌, ◌++◌, map, filter_map, Option, Some, None, option_copied, option_to_list, Result, Ok, Err, refl, ap, ◌∙◌}
use Rattle.command_line.specs.declared.command.Command.{Command}
use Rattle.command_line.specs.declared.settings.Settings.{Settings}
use Rattle.command_line.specs.CommandLine.{Item, Package, alone, loaded, package_word, bad_in, package_in, build_in, callgraph_in, run_in, bound_in, choices_in, generate_in, beside_in}
use Rattle.command_line.specs.Reading.{load_with, asked_with, continued}

-- what is said of flags, and of bad words
nothing : {A : Type 0} (said : Item → Option A) → ((word : List ℕ) → said (Package word) ≡ None) → (words : List (List ℕ)) → filter_map said (map Package words) ≡ []
nothing said none [] = refl
nothing said none (word ∷ words) = rw (none word) (nothing said none words)

packages : (words : List (List ℕ)) → filter_map package_in (map Package words) ≡ words
packages [] = refl
packages (word ∷ words) = ap (λ rest. word ∷ rest) (packages words)

beside : (words : List (List ℕ)) → filter_map beside_in (map Package words) ≡ words
beside [] = refl
beside (word ∷ words) = ap (λ rest. word ∷ rest) (beside words)

-- the command of settings and the words behind the flags
abbrev pub ended : Settings → Option ℕ → List (List ℕ) → Result Command (List ℕ)
ended s (Some count) words = alone count (option_to_list (option_copied s.other) ++ words)
ended s None words = loaded (load_with s []) (package_word words)

load_with-packages : (s : Settings) (words : List (List ℕ)) (word : List ℕ) → load_with s (map Package words) word ≡ load_with s [] word
load_with-packages s words word =
    rw (
      nothing build_in (λ _. refl) words,
      nothing callgraph_in (λ _. refl) words,
      nothing run_in (λ _. refl) words,
      nothing bound_in (λ _. refl) words,
      nothing choices_in (λ _. refl) words,
    )

loaded-packages : (s : Settings) (words : List (List ℕ)) (found : Result (List ℕ) (List ℕ)) → loaded (load_with s (map Package words)) found ≡ loaded (load_with s []) found
loaded-packages s words (Ok word) = ap Ok (load_with-packages s words word)
loaded-packages s words (Err word) = refl

asked_with-packages : (s : Settings) (count : Option ℕ) (words : List (List ℕ)) → asked_with s count (map Package words) ≡ ended s count words
asked_with-packages s (Some count) words = ap (λ rest. alone count (option_to_list (option_copied s.other) ++ rest)) (beside words)
asked_with-packages s None words =
    loaded-packages s words (package_word (filter_map package_in (map Package words))) ∙ ap (λ rest. loaded (load_with s []) (package_word rest)) (packages words)

pub continued-packages : (s : Settings) (words : List (List ℕ)) → continued s (map Package words) ≡ ended s s.generate words
continued-packages s words =
    rw (nothing bad_in (λ _. refl) words, nothing generate_in (λ _. refl) words) (asked_with-packages s s.generate words)

-- a word that is named because the package words are bad
pub continued-bad : (s : Settings) (words : List (List ℕ)) (word : List ℕ) → s.generate ≡ None → package_word words ≡ Err word → continued s (map Package words) ≡ Err word
continued-bad s words word none bad =
    continued-packages s words ∙ ap (λ count. ended s count words) none ∙ ap (loaded (load_with s [])) bad
