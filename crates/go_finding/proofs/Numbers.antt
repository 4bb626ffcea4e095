-- The numbers of packages while paths grow by those of imports: a path that has a number keeps it.
use Rattle.std.proofs.Common.{◌≡◌, ℕ, ◌+◌, ◌<◌, ◌≤◌, Bool, true, false, true≢false, not, ◌||◌, cond, if◌then◌else◌, List, [], ◌∷◌, ◌++◌, length, map, refl, ap, sym, ◌∙◌, arith}
use Rattle.std.specs.List.{list_any, fold, flat_map, All}
use Rattle.std.specs.Str.{bytes_eq}
use Rattle.std.proofs.lemmas.List.Elements.{All-nil, All-cons, All-head, All-tail, All-append, All-weaker}
use Rattle.std.proofs.lemmas.Slice.Eq.{bytes_eq-Decides}
use Rattle.go_base.specs.NameTable.{place_of, with_text}
use Rattle.go_sources.specs.declared.sources.Import as numbers
use Rattle.go_finding.specs.Finding.{numbered, numbered_files}
use Rattle.go_finding.specs.Imports.{Import, import_path}
use Rattle.go_finding.specs.Linking.{imports_of_each, all_imports}
use Rattle.go_finding.specs.Programs.{File, Package, with_import, imports_in, imports_of_files, imports_of_package, import_files, link_of, links_of_file, links_from}

abbrev pub Texts : Type 0
Texts = List (List ℕ)

-- a path is among those that are known
abbrev pub IsAmong : List ℕ → Texts → Type 0
IsAmong path paths = list_any (bytes_eq path) paths ≡ true

-- the paths of imports are among those that are known
abbrev pub AreMet : Texts → List Import → Type 0
AreMet paths imports = All (λ import. list_any (bytes_eq (import_path import)) paths ≡ true) imports

-- ---- paths behind others

or_here : (a b : Bool) → a ≡ true → (a || b) ≡ true
or_here true b h = refl
or_here false b h = absurd (true≢false (sym h))

or_there : (a b : Bool) → b ≡ true → (a || b) ≡ true
or_there true b h = refl
or_there false b h = h

pub among_before : (path : List ℕ) (paths more : Texts) → IsAmong path paths → IsAmong path (paths ++ more)
among_before path [] more h = absurd (true≢false (sym h))
among_before path (first ∷ paths) more h = by (bytes_eq path first) h (among_before path paths more)
  where
    by : (b : Bool) → (b || list_any (bytes_eq path) paths) ≡ true → (IsAmong path paths → IsAmong path (paths ++ more)) → (b || list_any (bytes_eq path) (paths ++ more)) ≡ true
    by true h rest = refl
    by false h rest = rest h

among_last : (path : List ℕ) (paths : Texts) → IsAmong path (paths ++ path ∷ [])
among_last path [] = or_here (bytes_eq path path) false ((bytes_eq-Decides path path).1 refl)
among_last path (first ∷ paths) = or_there (bytes_eq path first) _ (among_last path paths)

pub place_before : (path : List ℕ) (paths more : Texts) → IsAmong path paths → place_of path (paths ++ more) ≡ place_of path paths
place_before path [] more h = absurd (true≢false (sym h))
place_before path (first ∷ paths) more h = by (bytes_eq path first) h (place_before path paths more)
  where
    by : (b : Bool) → (b || list_any (bytes_eq path) paths) ≡ true → (IsAmong path paths → place_of path (paths ++ more) ≡ place_of path paths)
        → cond (not b) (1 + place_of path (paths ++ more)) 0 ≡ cond (not b) (1 + place_of path paths) 0
    by true h rest = refl
    by false h rest = ap (λ n. 1 + n) (rest h)

-- whether a path is known shows in its place
pub place_within : (path : List ℕ) (paths : Texts) → IsAmong path paths → place_of path paths < length paths
place_within path [] h = absurd (true≢false (sym h))
place_within path (first ∷ paths) h = by (bytes_eq path first) h (place_within path paths)
  where
    by : (b : Bool) → (b || list_any (bytes_eq path) paths) ≡ true → (IsAmong path paths → place_of path paths < length paths)
        → cond (not b) (1 + place_of path paths) 0 < length (first ∷ paths)
    by true h rest = omega arith
    by false h rest = let more : place_of path paths < length paths = rest h in omega arith

pub place_behind : (path : List ℕ) (paths : Texts) → list_any (bytes_eq path) paths ≡ false → place_of path paths ≡ length paths
place_behind path [] h = refl
place_behind path (first ∷ paths) h = by (bytes_eq path first) h (place_behind path paths)
  where
    by : (b : Bool) → (b || list_any (bytes_eq path) paths) ≡ false → (list_any (bytes_eq path) paths ≡ false → place_of path paths ≡ length paths)
        → cond (not b) (1 + place_of path paths) 0 ≡ length (first ∷ paths)
    by true h rest = absurd (true≢false h)
    by false h rest = let more : place_of path paths ≡ length paths = rest h in omega arith

pub among_from_place : (path : List ℕ) (paths : Texts) → place_of path paths < length paths → IsAmong path paths
among_from_place path paths h = by (list_any (bytes_eq path) paths) refl
  where
    by : (b : Bool) → list_any (bytes_eq path) paths ≡ b → IsAmong path paths
    by true e = e
    by false e = let last : place_of path paths ≡ length paths = place_behind path paths e in absurd (omega arith)

pub new_from_place : (path : List ℕ) (paths : Texts) → length paths ≤ place_of path paths → list_any (bytes_eq path) paths ≡ false
new_from_place path paths h = by (list_any (bytes_eq path) paths) refl
  where
    by : (b : Bool) → list_any (bytes_eq path) paths ≡ b → list_any (bytes_eq path) paths ≡ false
    by true e = let within : place_of path paths < length paths = place_within path paths e in absurd (omega arith)
    by false e = e

pub with_text-there : (path : List ℕ) (paths : Texts) → IsAmong path paths → with_text path paths ≡ paths
with_text-there path paths h = ap (λ b. if b then paths else paths ++ path ∷ []) h

pub with_text-new : (path : List ℕ) (paths : Texts) → list_any (bytes_eq path) paths ≡ false → with_text path paths ≡ paths ++ path ∷ []
with_text-new path paths h = ap (λ b. if b then paths else paths ++ path ∷ []) h

-- ---- one more path

pub among_with_text : (path other : List ℕ) (paths : Texts) → IsAmong path paths → IsAmong path (with_text other paths)
among_with_text path other paths h = by (list_any (bytes_eq other) paths)
  where
    by : (b : Bool) → IsAmong path (if b then paths else paths ++ other ∷ [])
    by true = h
    by false = among_before path paths (other ∷ []) h

pub place_with_text : (path other : List ℕ) (paths : Texts) → IsAmong path paths → place_of path (with_text other paths) ≡ place_of path paths
place_with_text path other paths h = by (list_any (bytes_eq other) paths)
  where
    by : (b : Bool) → place_of path (if b then paths else paths ++ other ∷ []) ≡ place_of path paths
    by true = refl
    by false = place_before path paths (other ∷ []) h

pub among_itself : (path : List ℕ) (paths : Texts) → IsAmong path (with_text path paths)
among_itself path paths = by (list_any (bytes_eq path) paths) refl
  where
    by : (b : Bool) → list_any (bytes_eq path) paths ≡ b → IsAmong path (if b then paths else paths ++ path ∷ [])
    by true e = e
    by false e = among_last path paths

-- a path has the same place once it is known
pub place_itself : (path : List ℕ) (paths : Texts) → place_of path (with_text path paths) ≡ place_of path paths
place_itself path paths = by (list_any (bytes_eq path) paths) refl
  where
    last : (paths : Texts) → list_any (bytes_eq path) paths ≡ false → place_of path (paths ++ path ∷ []) ≡ length paths
    last [] e = ap (λ b. cond (not b) 1 0) ((bytes_eq-Decides path path).1 refl)
    last (first ∷ paths) e = step (bytes_eq path first) e (last paths)
      where
        step : (b : Bool) → (b || list_any (bytes_eq path) paths) ≡ false → (list_any (bytes_eq path) paths ≡ false → place_of path (paths ++ path ∷ []) ≡ length paths)
            → cond (not b) (1 + place_of path (paths ++ path ∷ [])) 0 ≡ length (first ∷ paths)
        step true h rest = absurd (true≢false h)
        step false h rest = let more : place_of path (paths ++ path ∷ []) ≡ length paths = rest h in omega arith

    by : (b : Bool) → list_any (bytes_eq path) paths ≡ b → place_of path (if b then paths else paths ++ path ∷ []) ≡ place_of path paths
    by true e = refl
    by false e = last paths e ∙ sym (place_behind path paths e)

-- ---- the paths of imports

pub fold_append : (paths : Texts) (imports more : List Import) → fold with_import paths (imports ++ more) ≡ fold with_import (fold with_import paths imports) more
fold_append paths [] more = refl
fold_append paths (import ∷ imports) more = fold_append (with_import paths import) imports more

pub among_fold : (path : List ℕ) (paths : Texts) (imports : List Import) → IsAmong path paths → IsAmong path (fold with_import paths imports)
among_fold path paths [] h = h
among_fold path paths (import ∷ imports) h = among_fold path (with_import paths import) imports (among_with_text path (import_path import) paths h)

pub place_fold : (path : List ℕ) (paths : Texts) (imports : List Import) → IsAmong path paths → place_of path (fold with_import paths imports) ≡ place_of path paths
place_fold path paths [] h = refl
place_fold path paths (import ∷ imports) h =
    place_fold path (with_import paths import) imports (among_with_text path (import_path import) paths h) ∙ place_with_text path (import_path import) paths h

-- imports are met by those paths that they make known
pub met_fold : (paths : Texts) (imports : List Import) → AreMet (fold with_import paths imports) imports
met_fold paths [] = All-nil (λ import. list_any (bytes_eq (import_path import)) paths ≡ true)
met_fold paths (import ∷ imports) =
    All-cons (λ other. list_any (bytes_eq (import_path other)) (fold with_import paths (import ∷ imports)) ≡ true) import imports
    (among_fold (import_path import) (with_import paths import) imports (among_itself (import_path import) paths)) (met_fold (with_import paths import) imports)

-- imports that are met stay so
pub met_grown : (paths : Texts) (more imports : List Import) → AreMet paths imports → AreMet (fold with_import paths more) imports
met_grown paths more imports met =
    All-weaker (λ import. list_any (bytes_eq (import_path import)) paths ≡ true) (λ import. list_any (bytes_eq (import_path import)) (fold with_import paths more) ≡ true)
    (λ import h. among_fold (import_path import) paths more h) imports met

pub met_append : (paths : Texts) (imports more : List Import) → AreMet paths imports → AreMet (fold with_import paths more) (imports ++ more)
met_append paths imports more met =
    All-append (λ import. list_any (bytes_eq (import_path import)) (fold with_import paths more) ≡ true) imports more (met_grown paths more imports met) (met_fold paths more)

-- ---- parts of lists

all_front : {X : Type 0} (P : X → Type 0) (xs ys : List X) → All P (xs ++ ys) → All P xs
all_front P [] ys all = All-nil P
all_front P (x ∷ xs) ys all = All-cons P x xs (All-head P x (xs ++ ys) all) (all_front P xs ys (All-tail P x (xs ++ ys) all))

all_back : {X : Type 0} (P : X → Type 0) (xs ys : List X) → All P (xs ++ ys) → All P ys
all_back P [] ys all = all
all_back P (x ∷ xs) ys all = all_back P xs ys (All-tail P x (xs ++ ys) all)

pub met_front : (paths : Texts) (imports more : List Import) → AreMet paths (imports ++ more) → AreMet paths imports
met_front paths imports more = all_front (λ import. list_any (bytes_eq (import_path import)) paths ≡ true) imports more

pub met_back : (paths : Texts) (imports more : List Import) → AreMet paths (imports ++ more) → AreMet paths more
met_back paths imports more = all_back (λ import. list_any (bytes_eq (import_path import)) paths ≡ true) imports more

-- what is made of each of two equal lists' elements
map_met : {X : Type 0} (f g : Import → X) (P : Import → Type 0) (same : (import : Import) → P import → f import ≡ g import) (imports : List Import)
    → All P imports → map f imports ≡ map g imports
map_met f g P same [] all = refl
map_met f g P same (import ∷ imports) all =
    ap (λ x. x ∷ map f imports) (same import (All-head P import imports all)) ∙ ap (λ xs. g import ∷ xs) (map_met f g P same imports (All-tail P import imports all))

-- ---- what is told by numbers stays as it is

module _ (paths : Texts) (more : List Import) where
  number_kept : (import : Import) → IsAmong (import_path import) paths → place_of (import_path import) (fold with_import paths more) ≡ place_of (import_path import) paths
  number_kept import h = place_fold (import_path import) paths more h

  abbrev numbered_at : Texts → Import → numbers.Import
  numbered_at known import = record { literal = import.literal; «package» = place_of (import_path import) known }

  pub numbered_grown : (imports : List Import) → AreMet paths imports → numbered (fold with_import paths more) imports ≡ numbered paths imports
  numbered_grown imports met =
      map_met (numbered_at (fold with_import paths more)) (numbered_at paths) (λ import. list_any (bytes_eq (import_path import)) paths ≡ true)
      (λ import h. ap (λ n. record { literal = import.literal; «package» = n }) (number_kept import h)) imports met

  pub numbered_files_grown : (files : List File) → AreMet paths (imports_of_files files) → numbered_files (fold with_import paths more) files ≡ numbered_files paths files
  numbered_files_grown [] met = refl
  numbered_files_grown (file ∷ files) met =
      ap (λ first. first ∷ numbered_files (fold with_import paths more) files) (numbered_grown (imports_in file) (met_front paths (imports_in file) (imports_of_files files) met))
      ∙ ap (λ rest. numbered paths (imports_in file) ∷ rest) (numbered_files_grown files (met_back paths (imports_in file) (imports_of_files files) met))

  pub links_of_file_grown : (from : ℕ) (file : File) → AreMet paths (imports_in file) → links_of_file (fold with_import paths more) from file ≡ links_of_file paths from file
  links_of_file_grown from file met =
      map_met (link_of (fold with_import paths more) from file) (link_of paths from file) (λ import. list_any (bytes_eq (import_path import)) paths ≡ true)
      (λ import h. ap (λ n. record { from = from; to = n; place = (link_of paths from file import).place }) (number_kept import h)) (imports_in file) met

  pub links_of_files_grown : (from : ℕ) (files : List File) → AreMet paths (imports_of_files files)
      → flat_map (links_of_file (fold with_import paths more) from) files ≡ flat_map (links_of_file paths from) files
  links_of_files_grown from [] met = refl
  links_of_files_grown from (file ∷ files) met =
      ap (λ first. first ++ flat_map (links_of_file (fold with_import paths more) from) files) (links_of_file_grown from file (met_front paths (imports_in file) (imports_of_files files) met))
      ∙ ap (λ rest. links_of_file paths from file ++ rest) (links_of_files_grown from files (met_back paths (imports_in file) (imports_of_files files) met))

  pub links_from_grown : (number : ℕ) (packages : List Package) → AreMet paths (flat_map imports_of_package packages)
      → links_from (fold with_import paths more) number packages ≡ links_from paths number packages
  links_from_grown number [] met = refl
  links_from_grown number (one ∷ packages) met =
      ap (λ first. first ++ links_from (fold with_import paths more) (number + 1) packages)
      (links_of_files_grown number (import_files one.built_in one.files) (met_front paths (imports_of_package one) (flat_map imports_of_package packages) met))
      ∙ ap (λ rest. flat_map (links_of_file paths number) (import_files one.built_in one.files) ++ rest)
      (links_from_grown (number + 1) packages (met_back paths (imports_of_package one) (flat_map imports_of_package packages) met))

  each_grown : (built_in : Bool) (files : List File) → AreMet paths (imports_of_files (import_files built_in files))
      → (if built_in then map (λ file. []) files else numbered_files (fold with_import paths more) files) ≡ (if built_in then map (λ file. []) files else numbered_files paths files)
  each_grown true files met = refl
  each_grown false files met = numbered_files_grown files met

  pub imports_of_each_grown : (one : Package) → AreMet paths (imports_of_package one) → imports_of_each (fold with_import paths more) one ≡ imports_of_each paths one
  imports_of_each_grown one met = each_grown one.built_in one.files met

  pub all_imports_grown : (packages : List Package) → AreMet paths (flat_map imports_of_package packages)
      → all_imports (fold with_import paths more) packages ≡ all_imports paths packages
  all_imports_grown [] met = refl
  all_imports_grown (one ∷ packages) met =
      ap (λ first. first ++ all_imports (fold with_import paths more) packages) (imports_of_each_grown one (met_front paths (imports_of_package one) (flat_map imports_of_package packages) met))
      ∙ ap (λ rest. imports_of_each paths one ++ rest) (all_imports_grown packages (met_back paths (imports_of_package one) (flat_map imports_of_package packages) met))
