-- Paths that are known stay known, and keep their numbers.
use Rattle.std.proofs.Common.{◌≡◌, ℕ, ◌+◌, Bool, true, false, not, cond, ◌||◌, List, [], ◌∷◌, ◌++◌, map, if◌then◌else◌, bytes_eq, refl, ap, ◌∙◌}
use Rattle.std.specs.List.{flat_map, fold, list_any}
use Rattle.std.specs.Cmp.Lexicographic.{nat_list_eq_equiv}
use Rattle.go_base.specs.NameTable.{place_of, with_text}
use Rattle.go_sources.specs.declared.sources.Import as numbers
use Rattle.go_finding.specs.Finding.{numbered, numbered_files}
use Rattle.go_finding.specs.Imports.{Import, import_path}
use Rattle.go_load.specs.Loading.{AreKnown}
use Rattle.go_finding.specs.Linking.{imports_of_each, all_imports}
use Rattle.go_finding.specs.Programs.{File, Package, import_files, imports_in, imports_of_files, imports_of_package, link_of, links_of_file, links_from, with_import}

any_push : (p q : List ℕ) (paths : List (List ℕ)) → list_any (bytes_eq p) paths ≡ true → list_any (bytes_eq p) (paths ++ q ∷ []) ≡ true
any_push p q [] h = cc
any_push p q (path ∷ paths) h = go (bytes_eq p path) (any_push p q paths) h
  where
    go : (b : Bool) → (list_any (bytes_eq p) paths ≡ true → list_any (bytes_eq p) (paths ++ q ∷ []) ≡ true) → (b || list_any (bytes_eq p) paths) ≡ true → (b || list_any (bytes_eq p) (paths ++ q ∷ [])) ≡ true
    go true more h = refl
    go false more h = more h

place_push : (p q : List ℕ) (paths : List (List ℕ)) → list_any (bytes_eq p) paths ≡ true → place_of p (paths ++ q ∷ []) ≡ place_of p paths
place_push p q [] h = cc
place_push p q (path ∷ paths) h = go (bytes_eq p path) (place_push p q paths) h
  where
    go : (b : Bool) → (list_any (bytes_eq p) paths ≡ true → place_of p (paths ++ q ∷ []) ≡ place_of p paths) → (b || list_any (bytes_eq p) paths) ≡ true
        → cond (not b) (1 + place_of p (paths ++ q ∷ [])) 0 ≡ cond (not b) (1 + place_of p paths) 0
    go true same h = refl
    go false same h = ap (λ n. 1 + n) (same h)

-- ---- one path more

pub still_known : (p q : List ℕ) (paths : List (List ℕ)) → list_any (bytes_eq p) paths ≡ true → list_any (bytes_eq p) (with_text q paths) ≡ true
still_known p q paths h = go (list_any (bytes_eq q) paths)
  where
    go : (b : Bool) → list_any (bytes_eq p) (if b then paths else paths ++ q ∷ []) ≡ true
    go true = h
    go false = any_push p q paths h

pub same_place : (p q : List ℕ) (paths : List (List ℕ)) → list_any (bytes_eq p) paths ≡ true → place_of p (with_text q paths) ≡ place_of p paths
same_place p q paths h = go (list_any (bytes_eq q) paths)
  where
    go : (b : Bool) → place_of p (if b then paths else paths ++ q ∷ []) ≡ place_of p paths
    go true = refl
    go false = place_push p q paths h

-- ---- the paths of imports more

pub known_after : (imports : List Import) (p : List ℕ) (paths : List (List ℕ)) → list_any (bytes_eq p) paths ≡ true → list_any (bytes_eq p) (fold with_import paths imports) ≡ true
known_after [] p paths h = h
known_after (import ∷ imports) p paths h = known_after imports p (with_import paths import) (still_known p (import_path import) paths h)

pub place_after : (imports : List Import) (p : List ℕ) (paths : List (List ℕ)) → list_any (bytes_eq p) paths ≡ true → place_of p (fold with_import paths imports) ≡ place_of p paths
place_after [] p paths h = refl
place_after (import ∷ imports) p paths h =
    place_after imports p (with_import paths import) (still_known p (import_path import) paths h) ∙ same_place p (import_path import) paths h

-- ---- what has the numbers of paths that are known stays the same while paths grow

-- the second paths have those of the first, at their places
pub record Grows (paths more : List (List ℕ)) : Type 0 where
  pub known : (p : List ℕ) → list_any (bytes_eq p) paths ≡ true → list_any (bytes_eq p) more ≡ true
  pub places : (p : List ℕ) → list_any (bytes_eq p) paths ≡ true → place_of p more ≡ place_of p paths

pub grows_by_imports : (paths : List (List ℕ)) (imports : List Import) → Grows paths (fold with_import paths imports)
grows_by_imports paths imports = record { known = λ p h. known_after imports p paths h; places = λ p h. place_after imports p paths h }

pub grows_by_text : (paths : List (List ℕ)) (q : List ℕ) → Grows paths (with_text q paths)
grows_by_text paths q = record { known = λ p h. still_known p q paths h; places = λ p h. same_place p q paths h }

pub all_known : (paths more : List (List ℕ)) → Grows paths more → (imports : List Import) → AreKnown paths imports → AreKnown more imports
all_known paths more g [] h = tt
all_known paths more g (import ∷ imports) h = (g.known (import_path import) h.0, all_known paths more g imports h.1)

pub known_front : (paths : List (List ℕ)) (xs ys : List Import) → AreKnown paths (xs ++ ys) → AreKnown paths xs
known_front paths [] ys h = tt
known_front paths (x ∷ xs) ys h = (h.0, known_front paths xs ys h.1)

pub known_back : (paths : List (List ℕ)) (xs ys : List Import) → AreKnown paths (xs ++ ys) → AreKnown paths ys
known_back paths [] ys h = h
known_back paths (x ∷ xs) ys h = known_back paths xs ys h.1

pub known_both : (paths : List (List ℕ)) (xs ys : List Import) → AreKnown paths xs → AreKnown paths ys → AreKnown paths (xs ++ ys)
known_both paths [] ys h k = k
known_both paths (x ∷ xs) ys h k = (h.0, known_both paths xs ys h.1 k)

-- numbers of imports
pub same_numbers : (paths more : List (List ℕ)) → Grows paths more → (imports : List Import) → AreKnown paths imports → numbered more imports ≡ numbered paths imports
same_numbers paths more g [] h = refl
same_numbers paths more g (import ∷ imports) h =
    let one : numbers.Import = record { literal = import.literal; «package» = place_of (import_path import) paths } in
    let head : record { literal = import.literal; «package» = place_of (import_path import) more } ≡ one =
    ap (λ n. record { literal = import.literal; «package» = n }) (g.places (import_path import) h.0) in
    λ i. head i ∷ same_numbers paths more g imports h.1 i

same_files : (paths more : List (List ℕ)) → Grows paths more → (files : List File) → AreKnown paths (imports_of_files files) → numbered_files more files ≡ numbered_files paths files
same_files paths more g [] h = refl
same_files paths more g (file ∷ files) h =
    let head : numbered more (imports_in file) ≡ numbered paths (imports_in file) = same_numbers paths more g (imports_in file) (known_front paths (imports_in file) (imports_of_files files) h) in
    let rest : numbered_files more files ≡ numbered_files paths files = same_files paths more g files (known_back paths (imports_in file) (imports_of_files files) h) in
    λ i. head i ∷ rest i

same_each : (paths more : List (List ℕ)) → Grows paths more → (built_in : Bool) (files : List File) → AreKnown paths (imports_of_files (import_files built_in files))
    → (if built_in then map (λ file. []) files else numbered_files more files) ≡ (if built_in then map (λ file. []) files else numbered_files paths files)
same_each paths more g true files h = refl
same_each paths more g false files h = same_files paths more g files h

pub same_imports : (paths more : List (List ℕ)) → Grows paths more → (packages : List Package) → AreKnown paths (flat_map imports_of_package packages) → all_imports more packages ≡ all_imports paths packages
same_imports paths more g [] h = refl
same_imports paths more g (one ∷ packages) h =
    let head : imports_of_each more one ≡ imports_of_each paths one = same_each paths more g one.built_in one.files (known_front paths (imports_of_package one) (flat_map imports_of_package packages) h) in
    let rest : all_imports more packages ≡ all_imports paths packages = same_imports paths more g packages (known_back paths (imports_of_package one) (flat_map imports_of_package packages) h) in
    λ i. head i ++ rest i

-- links
same_file_links : (paths more : List (List ℕ)) → Grows paths more → (from : ℕ) (file : File) (imports : List Import) → AreKnown paths imports → map (link_of more from file) imports ≡ map (link_of paths from file) imports
same_file_links paths more g from file [] h = refl
same_file_links paths more g from file (import ∷ imports) h =
    let head : link_of more from file import ≡ link_of paths from file import =
    ap (λ n. record { from = from; to = n; place = (link_of paths from file import).place }) (g.places (import_path import) h.0) in
    λ i. head i ∷ same_file_links paths more g from file imports h.1 i

same_files_links : (paths more : List (List ℕ)) → Grows paths more → (from : ℕ) (files : List File) → AreKnown paths (imports_of_files files) → flat_map (links_of_file more from) files ≡ flat_map (links_of_file paths from) files
same_files_links paths more g from [] h = refl
same_files_links paths more g from (file ∷ files) h =
    let head : links_of_file more from file ≡ links_of_file paths from file = same_file_links paths more g from file (imports_in file) (known_front paths (imports_in file) (imports_of_files files) h) in
    let rest : flat_map (links_of_file more from) files ≡ flat_map (links_of_file paths from) files = same_files_links paths more g from files (known_back paths (imports_in file) (imports_of_files files) h) in
    λ i. head i ++ rest i

pub same_links : (paths more : List (List ℕ)) → Grows paths more → (number : ℕ) (packages : List Package) → AreKnown paths (flat_map imports_of_package packages) → links_from more number packages ≡ links_from paths number packages
same_links paths more g number [] h = refl
same_links paths more g number (one ∷ packages) h =
    let head : flat_map (links_of_file more number) (import_files one.built_in one.files) ≡ flat_map (links_of_file paths number) (import_files one.built_in one.files) =
    same_files_links paths more g number (import_files one.built_in one.files) (known_front paths (imports_of_package one) (flat_map imports_of_package packages) h) in
    let rest : links_from more (number + 1) packages ≡ links_from paths (number + 1) packages = same_links paths more g (number + 1) packages (known_back paths (imports_of_package one) (flat_map imports_of_package packages) h) in
    λ i. head i ++ rest i

-- ---- the paths of imports are among those that they make known

any_self : (p : List ℕ) (paths : List (List ℕ)) → bytes_eq p p ≡ true → list_any (bytes_eq p) (paths ++ p ∷ []) ≡ true
any_self p [] e = ap (λ b. b || false) e
any_self p (path ∷ paths) e = go (bytes_eq p path) (any_self p paths e)
  where
    go : (b : Bool) → list_any (bytes_eq p) (paths ++ p ∷ []) ≡ true → (b || list_any (bytes_eq p) (paths ++ p ∷ [])) ≡ true
    go true more = refl
    go false more = more

same_bytes : (p : List ℕ) → bytes_eq p p ≡ true
same_bytes p = nat_list_eq_equiv.refl p

joined : (p : List ℕ) (paths : List (List ℕ)) → list_any (bytes_eq p) (with_text p paths) ≡ true
joined p paths = go (list_any (bytes_eq p) paths) refl
  where
    go : (b : Bool) → list_any (bytes_eq p) paths ≡ b → list_any (bytes_eq p) (if b then paths else paths ++ p ∷ []) ≡ true
    go true h = h
    go false h = any_self p paths (same_bytes p)

pub known_now : (paths : List (List ℕ)) (imports : List Import) → AreKnown (fold with_import paths imports) imports
known_now paths [] = tt
known_now paths (import ∷ imports) =
    (known_after imports (import_path import) (with_import paths import) (joined (import_path import) paths), known_now (with_import paths import) imports)
