-- Packages that are the same break the same rules, and import the same.
use Rattle.std.proofs.Common.{◌≡◌, ℕ, zero, suc, ◌+◌, ◌-◌, Bool, true, false, cond, List, [], ◌∷◌, ◌++◌, length, map, if◌then◌else◌, bytes_eq, Option, Some, codes, refl, sym, ap, ◌∙◌}
use Rattle.std.proofs.lemmas.List.Sums.{sum_by-cons}
use Rattle.std.specs.List.{find, flat_map, fold, list_any, sum_by}
use Rattle.go_ast.specs.declared.token.Token.{Token}
use Rattle.go_base.specs.NameTable.{place_of}
use Rattle.go_base.specs.declared.rule.Rule.TheVariants as rules
use Rattle.go_base.specs.declared.target.Target.{Target}
use Rattle.go_finding.specs.Imports.{Import, import_path}
use Rattle.go_finding.specs.Modules.{Broken}
use Rattle.load_laws.specs.OneReading.{IsSameFile, AreSameFiles}
use Rattle.go_finding.specs.Programs.{File, Package, Link, broken_at, imports_in, name_of, other_name, unfound_of, unfound, or_else, name_fault, import_files, package_fault, imports_of_files, imports_of_package, with_import, known, size, room_for, link_of, links_of_file, links_from, links, are_program, is_program_at, first_of_program, has_runtime, runtime_path}
use Rattle.go_finding.specs.Projects.{Project, is_import_found, target_path}
use Rattle.go_finding.specs.Reading.{max_file_bytes}
use Rattle.load_laws.proofs.SameFiles.{same_imports, same_token, same_name, same_broken}
use Rattle.load_laws.specs.OneAnswer.{IsSamePackage, AreSamePackages}

same_if : {A : Type 0} (p q : Bool) (a b c d : A) → p ≡ q → a ≡ b → c ≡ d → (if p then a else c) ≡ (if q then b else d)
same_if p q a b c d e f g =
    ap (λ (test : Bool). if test then a else c) e
    ∙ ap (λ (x : _). if q then x else c) f
    ∙ ap (λ (x : _). if q then b else x) g

-- ---- of files

same_other : (name : List ℕ) (a b : List File) → AreSameFiles a b → other_name name a ≡ other_name name b
same_other name [] [] h = refl
same_other name [] (y ∷ b) h = absurd h
same_other name (x ∷ a) [] h = absurd h
same_other name (x ∷ a) (y ∷ b) h =
    same_if (bytes_eq (name_of x) name) (bytes_eq (name_of y) name) (other_name name a) (other_name name b) (Some (broken_at x x.tree.name rules.SecondPackageName)) (Some (broken_at y y.tree.name rules.SecondPackageName))
    (ap (λ (text : List ℕ). bytes_eq text name) (same_name x y h.0))
    (same_other name a b h.1)
    (ap (λ (token : Token). Some (broken_at x token rules.SecondPackageName)) (same_token x y h.0) ∙ ap Some (same_broken x y y.tree.name rules.SecondPackageName h.0))

same_unfound_of : (project : Project) (x y : File) → IsSameFile x y → (imports : List Import) → unfound_of project x imports ≡ unfound_of project y imports
same_unfound_of project x y h [] = refl
same_unfound_of project x y h (import ∷ imports) =
    same_if (is_import_found project import.path) (is_import_found project import.path) (unfound_of project x imports) (unfound_of project y imports) (Some (broken_at x import.literal rules.NoSuchPackage)) (Some (broken_at y import.literal rules.NoSuchPackage))
    refl
    (same_unfound_of project x y h imports)
    (ap Some (same_broken x y import.literal rules.NoSuchPackage h))

same_unfound : (project : Project) (a b : List File) → AreSameFiles a b → unfound project a ≡ unfound project b
same_unfound project [] [] h = refl
same_unfound project [] (y ∷ b) h = absurd h
same_unfound project (x ∷ a) [] h = absurd h
same_unfound project (x ∷ a) (y ∷ b) h =
    ap (λ (imports : List Import). or_else (unfound_of project x imports) (unfound project a)) (same_imports x y h.0)
    ∙ ap (λ (fault : Option Broken). or_else fault (unfound project a)) (same_unfound_of project x y h.0 (imports_in y))
    ∙ ap (or_else (unfound_of project y (imports_in y))) (same_unfound project a b h.1)

same_name_fault : (target : Target) (a b : List File) → AreSameFiles a b → name_fault target a ≡ name_fault target b
same_name_fault target [] [] h = refl
same_name_fault target [] (y ∷ b) h = absurd h
same_name_fault target (x ∷ a) [] h = absurd h
same_name_fault target (x ∷ a) (y ∷ b) h =
    ap (λ (name : List ℕ). other_name name a) (same_name x y h.0) ∙ same_other (name_of y) a b h.1

same_import_files : (built_in : Bool) (a b : List File) → AreSameFiles a b → AreSameFiles (import_files built_in a) (import_files built_in b)
same_import_files true a b h = tt
same_import_files false a b h = h

pub same_fault : (project : Project) (built_in : Bool) (a b : List File) → AreSameFiles a b → package_fault project built_in a ≡ package_fault project built_in b
same_fault project built_in a b h =
    ap (λ (fault : Option Broken). or_else fault (unfound project (import_files built_in a))) (same_name_fault project.target a b h)
    ∙ ap (or_else (name_fault project.target b)) (same_unfound project (import_files built_in a) (import_files built_in b) (same_import_files built_in a b h))

same_all_imports : (a b : List File) → AreSameFiles a b → imports_of_files a ≡ imports_of_files b
same_all_imports [] [] h = refl
same_all_imports [] (y ∷ b) h = absurd h
same_all_imports (x ∷ a) [] h = absurd h
same_all_imports (x ∷ a) (y ∷ b) h =
    ap (λ (imports : List Import). imports ++ imports_of_files a) (same_imports x y h.0)
    ∙ ap (λ (imports : List Import). imports_in y ++ imports) (same_all_imports a b h.1)

abbrev bytes_in : File → ℕ
bytes_in file = length file.bytes

same_bytes : (a b : List File) → AreSameFiles a b → sum_by (λ (file : File). length file.bytes) a ≡ sum_by (λ (file : File). length file.bytes) b
same_bytes [] [] h = refl
same_bytes [] (y ∷ b) h = absurd h
same_bytes (x ∷ a) [] h = absurd h
same_bytes (x ∷ a) (y ∷ b) h =
    sum_by-cons bytes_in x a
    ∙ ap (λ (bytes : List ℕ). length bytes + sum_by bytes_in a) h.0.bytes
    ∙ ap (λ (n : ℕ). length y.bytes + n) (same_bytes a b h.1)
    ∙ sym (sum_by-cons bytes_in y b)

pub same_program : (a b : List File) → AreSameFiles a b → are_program a ≡ are_program b
same_program [] [] h = refl
same_program [] (y ∷ b) h = absurd h
same_program (x ∷ a) [] h = absurd h
same_program (x ∷ a) (y ∷ b) h = ap (λ (name : List ℕ). bytes_eq name (codes "main")) (same_name x y h.0)

abbrev link_at : List (List ℕ) → ℕ → Import → Broken → Link
link_at paths from import at = record { from = from; to = place_of (import_path import) paths; place = at.place }

map_links : (paths : List (List ℕ)) (from : ℕ) (x y : File) → IsSameFile x y → (imports : List Import) → map (link_of paths from x) imports ≡ map (link_of paths from y) imports
map_links paths from x y h [] = refl
map_links paths from x y h (import ∷ imports) =
    ap (λ (at : Broken). link_at paths from import at ∷ map (link_of paths from x) imports) (same_broken x y import.literal rules.ImportCycle h)
    ∙ ap (λ (links : List Link). link_of paths from y import ∷ links) (map_links paths from x y h imports)

same_file_links : (paths : List (List ℕ)) (from : ℕ) (x y : File) → IsSameFile x y → links_of_file paths from x ≡ links_of_file paths from y
same_file_links paths from x y h = ap (map (link_of paths from x)) (same_imports x y h) ∙ map_links paths from x y h (imports_in y)

same_files_links : (paths : List (List ℕ)) (from : ℕ) (a b : List File) → AreSameFiles a b → flat_map (links_of_file paths from) a ≡ flat_map (links_of_file paths from) b
same_files_links paths from [] [] h = refl
same_files_links paths from [] (y ∷ b) h = absurd h
same_files_links paths from (x ∷ a) [] h = absurd h
same_files_links paths from (x ∷ a) (y ∷ b) h =
    ap (λ (links : List Link). links ++ flat_map (links_of_file paths from) a) (same_file_links paths from x y h.0)
    ∙ ap (λ (links : List Link). links_of_file paths from y ++ links) (same_files_links paths from a b h.1)

-- ---- of packages

abbrev imports_with : Bool → List File → List Import
imports_with built_in files = imports_of_files (import_files built_in files)

same_package_imports : (x y : Package) → IsSamePackage x y → imports_of_package x ≡ imports_of_package y
same_package_imports x y h =
    same_all_imports (import_files x.built_in x.files) (import_files x.built_in y.files) (same_import_files x.built_in x.files y.files h.files)
    ∙ ap (λ (built_in : Bool). imports_with built_in y.files) h.built_in

same_found : (a b : List Package) → AreSamePackages a b → flat_map imports_of_package a ≡ flat_map imports_of_package b
same_found [] [] h = refl
same_found [] (y ∷ b) h = absurd h
same_found (x ∷ a) [] h = absurd h
same_found (x ∷ a) (y ∷ b) h =
    ap (λ (imports : List Import). imports ++ flat_map imports_of_package a) (same_package_imports x y h.0)
    ∙ ap (λ (imports : List Import). imports_of_package y ++ imports) (same_found a b h.1)

pub same_known : (project : Project) (a b : List Package) → AreSamePackages a b → known project a ≡ known project b
same_known project a b h = ap (fold with_import (target_path project ∷ [])) (same_found a b h)

same_size : (x y : Package) → IsSamePackage x y → size x ≡ size y
same_size x y h = same_if x.built_in y.built_in 0 0 (sum_by bytes_in x.files) (sum_by bytes_in y.files) h.built_in refl (same_bytes x.files y.files h.files)

same_sizes : (a b : List Package) → AreSamePackages a b → sum_by size a ≡ sum_by size b
same_sizes [] [] h = refl
same_sizes [] (y ∷ b) h = absurd h
same_sizes (x ∷ a) [] h = absurd h
same_sizes (x ∷ a) (y ∷ b) h =
    sum_by-cons size x a
    ∙ ap (λ (n : ℕ). n + sum_by size a) (same_size x y h.0)
    ∙ ap (λ (n : ℕ). size y + n) (same_sizes a b h.1)
    ∙ sym (sum_by-cons size y b)

pub same_room : (project : Project) (built_in : Bool) (a b : List Package) → AreSamePackages a b → room_for project a built_in ≡ room_for project b built_in
same_room project built_in a b h = ap (λ (n : ℕ). if built_in then max_file_bytes else project.limit - n) (same_sizes a b h)

abbrev links_with : List (List ℕ) → ℕ → Bool → List File → List Link
links_with paths number built_in files = flat_map (links_of_file paths number) (import_files built_in files)

same_package_links : (paths : List (List ℕ)) (number : ℕ) (x y : Package) → IsSamePackage x y → links_with paths number x.built_in x.files ≡ links_with paths number y.built_in y.files
same_package_links paths number x y h =
    same_files_links paths number (import_files x.built_in x.files) (import_files x.built_in y.files) (same_import_files x.built_in x.files y.files h.files)
    ∙ ap (λ (built_in : Bool). links_with paths number built_in y.files) h.built_in

same_links_from : (paths : List (List ℕ)) (number : ℕ) (a b : List Package) → AreSamePackages a b → links_from paths number a ≡ links_from paths number b
same_links_from paths number [] [] h = refl
same_links_from paths number [] (y ∷ b) h = absurd h
same_links_from paths number (x ∷ a) [] h = absurd h
same_links_from paths number (x ∷ a) (y ∷ b) h =
    ap (λ (links : List Link). links ++ links_from paths (number + 1) a) (same_package_links paths number x y h.0)
    ∙ ap (λ (links : List Link). links_with paths number y.built_in y.files ++ links) (same_links_from paths (number + 1) a b h.1)

pub same_links : (project : Project) (a b : List Package) → AreSamePackages a b → links project a ≡ links project b
same_links project a b h =
    ap (λ (paths : List (List ℕ)). links_from paths 0 a) (same_known project a b h) ∙ same_links_from (known project b) 0 a b h

same_program_at : (a b : List Package) → AreSamePackages a b → (number : ℕ) → is_program_at a number ≡ is_program_at b number
same_program_at [] [] h number = refl
same_program_at [] (y ∷ b) h number = absurd h
same_program_at (x ∷ a) [] h number = absurd h
same_program_at (x ∷ a) (y ∷ b) h zero = same_program x.files y.files h.0.files
same_program_at (x ∷ a) (y ∷ b) h (suc number) = same_program_at a b h.1 number

same_find : {A : Type 0} (p q : A → Bool) → ((x : A) → p x ≡ q x) → (xs : List A) → find p xs ≡ find q xs
same_find p q h [] = refl
same_find p q h (x ∷ xs) =
    ap (λ (test : Bool). cond test (Some x) (find p xs)) (h x) ∙ ap (cond (q x) (Some x)) (same_find p q h xs)

pub same_first_of_program : (project : Project) (a b : List Package) → AreSamePackages a b → first_of_program project a ≡ first_of_program project b
same_first_of_program project a b h =
    ap (find (λ (link : Link). is_program_at a link.to)) (same_links project a b h)
    ∙ same_find (λ (link : Link). is_program_at a link.to) (λ (link : Link). is_program_at b link.to) (λ link. same_program_at a b h link.to) (links project b)

pub same_has_runtime : (project : Project) (a b : List Package) → AreSamePackages a b → has_runtime project a ≡ has_runtime project b
same_has_runtime project a b h = ap (list_any (bytes_eq runtime_path)) (same_known project a b h)
