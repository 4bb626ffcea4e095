-- Packages that are loaded first.
use Rattle.std.proofs.Common.{◌≡◌, ℕ, ◌+◌, ◌<◌, ◌≤◌, Bool, true, false, List, [], ◌∷◌, ◌++◌, length, if◌then◌else◌, bytes_eq, Some, slice_get, refl, sym, ap, ◌∙◌, arith}
use Rattle.std.proofs.lemmas.List.{append-nil, length_push}
use Rattle.std.proofs.lemmas.Option.{slice_get_within}
use Rattle.std.specs.List.{flat_map, fold, list_any}
use Rattle.go_base.specs.NameTable.{with_text}
use Rattle.go_finding.specs.Imports.{Import, import_path}
use Rattle.go_finding.specs.Programs.{Package, known, imports_of_package, with_import, IsFront, Nothing, More}
use Rattle.go_finding.specs.Projects.{Project, target_path}

pub fold_append : {A B : Type 0} (f : B → A → B) (a : B) (xs ys : List A) → fold f a (xs ++ ys) ≡ fold f (fold f a xs) ys
fold_append f a [] ys = refl
fold_append f a (x ∷ xs) ys = fold_append f (f a x) xs ys

pub flat_more : {A X : Type 0} (f : X → List A) (xs : List X) (x : X) → flat_map f (xs ++ x ∷ []) ≡ flat_map f xs ++ f x
flat_more f [] x = append-nil (f x)
flat_more f (y ∷ ys) x = ap (λ zs. f y ++ zs) (flat_more f ys x) ∙ sym (assoc (f y) (flat_map f ys) (f x))
  where
    assoc : {A : Type 0} (a b c : List A) → (a ++ b) ++ c ≡ a ++ (b ++ c)
    assoc [] b c = refl
    assoc (x ∷ a) b c = ap (λ zs. x ∷ zs) (assoc a b c)

pub imports_more : (packages : List Package) (one : Package) → flat_map imports_of_package (packages ++ one ∷ []) ≡ flat_map imports_of_package packages ++ imports_of_package one
imports_more packages one = flat_more imports_of_package packages one

-- one package more makes the paths of its imports known
pub known_more : (project : Project) (packages : List Package) (one : Package) → known project (packages ++ one ∷ []) ≡ fold with_import (known project packages) (imports_of_package one)
known_more project packages one =
    ap (fold with_import (target_path project ∷ [])) (imports_more packages one)
    ∙ fold_append with_import (target_path project ∷ []) (flat_map imports_of_package packages) (imports_of_package one)

-- ---- no more packages are loaded than are known

longer_text : (p : List ℕ) (paths : List (List ℕ)) → length paths ≤ length (with_text p paths)
longer_text p paths = go (list_any (bytes_eq p) paths)
  where
    go : (b : Bool) → length paths ≤ length (if b then paths else paths ++ p ∷ [])
    go true = omega arith
    go false = let e : length (paths ++ p ∷ []) ≡ length paths + 1 = length_push paths p in omega arith

pub longer : (imports : List Import) (paths : List (List ℕ)) → length paths ≤ length (fold with_import paths imports)
longer [] paths = omega arith
longer (import ∷ imports) paths =
    let one : length paths ≤ length (with_import paths import) = longer_text (import_path import) paths in
    let rest : length (with_import paths import) ≤ length (fold with_import (with_import paths import) imports) = longer imports (with_import paths import) in
    omega arith

within : {X : Type 0} (xs : List X) (i : ℕ) (x : X) → slice_get xs i ≡ Some x → i < length xs
within xs i x h = slice_get_within xs i x h

pub front_known : (project : Project) (packages : List Package) → IsFront project packages → length packages ≤ length (known project packages)
front_known project _ Nothing = omega arith
front_known project _ (More packages one front next sound) =
    let there : length packages < length (known project packages) = within (known project packages) (length packages) one.path next in
    let more : length (known project packages) ≤ length (fold with_import (known project packages) (imports_of_package one)) = longer (imports_of_package one) (known project packages) in
    let e : length (known project (packages ++ one ∷ [])) ≡ length (fold with_import (known project packages) (imports_of_package one)) = ap length (known_more project packages one) in
    let l : length (packages ++ one ∷ []) ≡ length packages + 1 = length_push packages one in
    omega arith
