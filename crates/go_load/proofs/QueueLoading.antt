-- What the loading of all packages answers.
use Rattle.std.proofs.Common.{◌≡◌, ℕ, ◌+◌, ◌≤◌, List, [], ◌∷◌, ◌++◌, length, Option, Some, None, IfSome, Result, Ok, Err, string_bytes, slice_get, refl, sym, ap, ◌∙◌, subst, arith}
use Rattle.std.proofs.lemmas.List.{length-map}
use Rattle.std.specs.List.{fold}
use Rattle.go_base.specs.Devices.{Tree}
use Rattle.go_finding.specs.declared.error.LoadError.{LoadError}
use Rattle.go_finding.specs.declared.error.LoadError.TheVariants.{Refused, ReadFault, OutOfMemory}
use Rattle.go_finding.specs.declared.found.Entry.{Entry}
use Rattle.go_load.specs.declared.loader.Loader.{Loader}
use Rattle.go_load.specs.Loading.{headers_from, IsAt, LoadsPackage, LoadsQueue, PackageLoaded}
use Rattle.go_finding.specs.Programs.{Package, IsNext, known, imports_of_package, with_import, More}
use Rattle.go_finding.specs.Projects.{Project}
use Rattle.go_load.proofs.Fronts.{known_more, front_known}

-- the loader holds some packages that are loaded first
abbrev pub IsAtSome : Project → Loader → Type 0
IsAtSome project loader = (packages : List Package) × IsAt project loader packages

-- so it does now, where it did at first
abbrev pub KeepsOn : Tree → Loader → Loader → Type 0
KeepsOn files first now = (project : Project) (packages : List Package) → project.files ≡ files → IsAt project first packages → IsAtSome project now

pub at_start : (tree : Option Tree) (first : Loader) → IfSome tree (λ files. KeepsOn files first first)
at_start None first = tt
at_start (Some files) first = λ project packages files_are at. (packages, at)

length_headers : (number first : ℕ) (packages : List Package) → length (headers_from number first packages) ≡ length packages
length_headers number first [] = refl
length_headers number first (one ∷ packages) = let h : length (headers_from (number + 1) (first + length one.files) packages) ≡ length packages = length_headers (number + 1) (first + length one.files) packages in omega arith

count : (project : Project) (loader : Loader) (packages : List Package) (number : ℕ) → IsAt project loader packages → number ≡ length loader.packages.items → number ≡ length packages
count project loader packages number at e = e ∙ ap length at.holds.headers ∙ length_headers 0 0 packages

abbrev Loads : Tree → ℕ → Loader → Loader → Result (Unit {0}) LoadError → Type 0
Loads files number old new result = LoadsPackage files number old new result

loaded_at : (files : Tree) (number : ℕ) (project : Project) (packages : List Package) (old new : Loader) (result : Result (Unit {0}) LoadError) → project.files ≡ files → IsAt project old packages → number ≡ length old.packages.items → LoadsPackage files number old new result → PackageLoaded project packages old new result
loaded_at files number project packages old new result files_are at e h = h project packages files_are at.holds (count project old packages number at e)

next_path : (project : Project) (packages : List Package) (old : Loader) (path : List ℕ) → IsAt project old packages → slice_get old.found.paths (length packages) ≡ Some path → IsNext project packages path
next_path project packages old path at h = ap (λ paths. slice_get paths (length packages)) (sym at.paths) ∙ h

one_more : (project : Project) (packages : List Package) (old new : Loader) → IsAt project old packages → PackageLoaded project packages old new (Ok tt) → IsAtSome project new
one_more project packages old new at h = (
  packages ++ h.0 ∷ [],
  record {
    holds = h.3;
    paths = h.4 ∙ ap (λ paths. fold with_import paths (imports_of_package h.0)) at.paths ∙ sym (known_more project packages h.0);
    front = More packages h.0 at.front (next_path project packages old h.0.path at h.1) h.2;
  },
)

pub at_next : (tree now : Option Tree) (number : ℕ) (first old new : Loader) → now ≡ tree → number ≡ length old.packages.items → IfSome tree (λ files. KeepsOn files first old) → IfSome now (λ files. LoadsPackage files number old new (Ok tt)) → IfSome tree (λ files. KeepsOn files first new)
at_next None now number first old new same e keeps loads = tt
at_next (Some files) now number first old new same e keeps loads = λ project packages files_are at.
    let some : IsAtSome project old = keeps project packages files_are at in
    let here : LoadsPackage files number old new (Ok tt) = subst (λ (t : Option Tree). IfSome t (λ files. LoadsPackage files number old new (Ok tt))) same loads in
    one_more project some.0 old new some.1 (loaded_at files number project some.0 old new (Ok tt) files_are some.1 e here)

pub stopped : (tree now : Option Tree) (number : ℕ) (first old new last : Loader) (error : LoadError) → now ≡ tree → number ≡ length old.packages.items → IfSome tree (λ files. KeepsOn files first old) → IfSome now (λ files. LoadsPackage files number old new (Err error)) → IfSome tree (λ files. LoadsQueue files first last (Err error))
stopped None now number first old new last error same e keeps loads = tt
stopped (Some files) now number first old new last (Refused place rule) same e keeps loads = λ project packages files_are at.
    let some : IsAtSome project old = keeps project packages files_are at in
    let here : LoadsPackage files number old new (Err (Refused place rule)) = subst (λ (t : Option Tree). IfSome t (λ files. LoadsPackage files number old new (Err (Refused place rule)))) same loads in
    let h : PackageLoaded project some.0 old new (Err (Refused place rule)) = loaded_at files number project some.0 old new (Err (Refused place rule)) files_are some.1 e here in
    record { packages = some.0; path = h.0; front = some.1.front; next = next_path project some.0 old h.0 some.1 h.1; breaks = h.2 }
stopped (Some files) now number first old new last ReadFault same e keeps loads = λ project packages files_are at. tt
stopped (Some files) now number first old new last OutOfMemory same e keeps loads = λ project packages files_are at. tt

pub ended : (tree : Option Tree) (number : ℕ) (first old : Loader) → number ≡ length old.packages.items → length old.found.entries.items ≤ number → IfSome tree (λ files. KeepsOn files first old) → IfSome tree (λ files. LoadsQueue files first old (Ok tt))
ended None number first old e last keeps = tt
ended (Some files) number first old e last keeps = λ project packages files_are at.
    let some : IsAtSome project old = keeps project packages files_are at in
    let n : number ≡ length some.0 = count project old some.0 number some.1 e in
    let within : length some.0 ≤ length (known project some.0) = front_known project some.0 some.1.front in
    let paths : length old.found.paths ≡ length old.found.entries.items = ap length some.1.holds.right.paths ∙ length-map old.found.entries.items (λ (entry : Entry). string_bytes entry.path) in
    let same : length old.found.paths ≡ length (known project some.0) = ap length some.1.paths in
    record { packages = some.0; at = some.1; complete = omega arith }

pub out_of_memory : (tree : Option Tree) (first last : Loader) → IfSome tree (λ files. LoadsQueue files first last (Err OutOfMemory))
out_of_memory None first last = tt
out_of_memory (Some files) first last = λ project packages files_are at. tt
