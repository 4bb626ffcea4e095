-- The package `runtime`, and what is loaded in all.
use Rattle.std.proofs.Common.{◌≡◌, ℕ, zero, suc, ◌≤◌, Bool, true, false, not, List, [], ◌∷◌, ◌++◌, length, map, if◌then◌else◌, Option, Some, None, option_map, IfSome, Result, Ok, Err, string_bytes, bytes_eq, slice_get, inl, inr, refl, sym, ap, ◌∙◌, subst, arith}
use Rattle.std.proofs.lemmas.List.{length-map}
use Rattle.std.specs.List.{AllZip, flat_map, fold, list_any}
use Rattle.go_base.specs.Devices.{Tree}
use Rattle.go_base.specs.NameTable.{with_text}
use Rattle.go_base.specs.declared.place.Place.{Place}
use Rattle.go_base.specs.declared.rule.Rule.{Rule}
use Rattle.go_sources.specs.declared.program.Sources.{Sources}
use Rattle.go_sources.specs.BuiltIns.{built_in_named}
use Rattle.go_sources.specs.Sources.{files_of, packages_of}
use Rattle.go_finding.specs.declared.error.LoadError.{LoadError}
use Rattle.go_finding.specs.declared.error.LoadError.TheVariants.{Refused, ReadFault, OutOfMemory}
use Rattle.go_finding.specs.declared.found.Entry.{Entry}
use Rattle.go_finding.specs.declared.found.Found.{Found}
use Rattle.go_load.specs.declared.loader.Loader.{Loader}
use Rattle.go_load.specs.Answers.{IsSourcesOf}
use Rattle.go_finding.specs.Entries.{RuntimeFound}
use Rattle.go_finding.specs.Finding.{AreRight, listed}
use Rattle.go_load.specs.Loading.{view_source, AreKnown, ChecksImports, Holds, ImportsChecked, IsAt, IsBrokenBehind, IsDone, IsLink, LoadsPackage, LoadsQueue, PackageLoaded, QueueLoaded, minor_of}
use Rattle.go_finding.specs.Linking.{all_imports, broken}
use Rattle.go_finding.specs.Modules.{Broken, view_module}
use Rattle.go_finding.specs.Programs.{Package, Link, BreaksPackage, IsComplete, IsPackage, IsResult, BadPackage, BadRuntime, Kept, Added, OfProgram, OnCycle, Program, has_runtime, import_files, imports_in, imports_of_package, known, runtime_path, with_import}
use Rattle.go_finding.specs.Projects.{Project, Origin, BuiltInFile, Paths, IsOriginAt, is_built_in, target_path}
use Rattle.go_load.specs.Starting.{Finishes, HoldsAll, LoadsRuntime, RuntimeLoaded}
use Rattle.go_load.proofs.Fronts.{imports_more, known_more, longer}
use Rattle.go_load.proofs.Growth.{Grows, all_known, grows_by_text, known_both, same_imports, same_links}

-- ---- runtime is found

found_more : (project : Project) (packages : List Package) (old : Loader) (found : Found) → Holds project old packages → AreRight project found → Grows old.found.paths found.paths → Holds project (record old { found = found }) packages
found_more project packages old found h right grows = record {
  right = right;
  target = h.target;
  files = h.files;
  headers = h.headers;
  imports = h.imports ∙ sym (same_imports old.found.paths found.paths grows packages h.met);
  links = subst (λ (all : List Link). AllZip (IsLink old.files.items) old.links.items all) (sym (same_links old.found.paths found.paths grows 0 packages h.met)) h.links;
  programs = h.programs;
  left = h.left;
  met = all_known old.found.paths found.paths grows (flat_map imports_of_package packages) h.met;
}

abbrev FoundRuntime : Project → Loader → Found → Bool → Type 0
FoundRuntime project old found added = (added ≡ not (list_any (bytes_eq runtime_path) old.found.paths)) × (found.paths ≡ with_text runtime_path old.found.paths) × AreRight project found

holds_found : (project : Project) (packages : List Package) (old : Loader) (found : Found) (added : Bool) → Holds project old packages → FoundRuntime project old found added → Holds project (record old { found = found }) packages
holds_found project packages old found added h f =
    found_more project packages old found h f.2 (subst (Grows old.found.paths) (sym f.1) (grows_by_text old.found.paths runtime_path))

is_there : (b : Bool) → false ≡ not b → b ≡ true
is_there true e = refl
is_there false e = cc

is_absent : (b : Bool) → true ≡ not b → b ≡ false
is_absent true e = cc
is_absent false e = refl

pub runtime_kept : (tree : Option Tree) (old : Loader) (found : Found) (added : Bool) → added ≡ false → RuntimeFound old.found found added → IfSome tree (λ files. LoadsRuntime files old (record old { found = found }) (Ok tt))
runtime_kept None old found added e h = tt
runtime_kept (Some files) old found added e h = λ project packages files_are at count.
    let f : FoundRuntime project old found added = h project at.holds.right in
    let there : list_any (bytes_eq runtime_path) old.found.paths ≡ true = is_there (list_any (bytes_eq runtime_path) old.found.paths) (sym e ∙ f.0) in
    record {
      all = packages;
      with_runtime = Kept (ap (list_any (bytes_eq runtime_path)) (sym at.paths) ∙ there);
      holds = holds_found project packages old found added at.holds f;
      imports = at.holds.imports ∙ ap (λ paths. all_imports paths packages) at.paths;
    }

-- ---- runtime imports nothing

runtime_origin : (project : Project) (n : ℕ) (origin : Origin) → IsOriginAt project (suc n) runtime_path origin → is_built_in origin ≡ true
runtime_origin project n (BuiltInFile built_in) h = refl
runtime_origin project n (Paths paths) h = let none : built_in_named runtime_path ≡ None = h.0 in cc

some_loaded : (project : Project) (packages : List Package) → IsComplete project packages → 1 ≤ length (known project packages) → (n : ℕ) × (length packages ≡ suc n)
some_loaded project [] complete more = let e : ⊥ = omega (arith, complete, more) in absurd e
some_loaded project (one ∷ packages) complete more = (length packages, refl)

runtime_built_in : (project : Project) (packages : List Package) (one : Package) (n : ℕ) → length packages ≡ suc n → one.path ≡ runtime_path → IsPackage project packages one → one.built_in ≡ true
runtime_built_in project packages one n count path h =
    h.built_in_is ∙ runtime_origin project n h.origin (subst (λ p. IsOriginAt project (suc n) p h.origin) path (subst (λ k. IsOriginAt project k one.path h.origin) count h.origin_is))

no_imports : (one : Package) → one.built_in ≡ true → imports_of_package one ≡ []
no_imports one e = ap (λ b. flat_map imports_in (import_files b one.files)) e

-- what is known with runtime is what was known before
same_known : (project : Project) (packages : List Package) (one : Package) → one.built_in ≡ true → known project (packages ++ one ∷ []) ≡ known project packages
same_known project packages one e = known_more project packages one ∙ ap (fold with_import (known project packages)) (no_imports one e)

-- ---- runtime is loaded

get_last : (paths : List (List ℕ)) (path : List ℕ) (n : ℕ) → length paths ≡ n → slice_get (paths ++ path ∷ []) n ≡ Some path
get_last [] path zero e = refl
get_last [] path (suc n) e = let f : ⊥ = omega arith in absurd f
get_last (p ∷ paths) path zero e = let f : ⊥ = omega arith in absurd f
get_last (p ∷ paths) path (suc n) e = get_last paths path n (omega arith)

added_last : (b : Bool) (paths : List (List ℕ)) (path : List ℕ) → b ≡ false → (if b then paths else paths ++ path ∷ []) ≡ paths ++ path ∷ []
added_last true paths path e = cc
added_last false paths path e = refl

length_paths : (project : Project) (packages : List Package) (old : Loader) → IsAt project old packages → length old.found.entries.items ≡ length packages → length old.found.paths ≡ length packages
length_paths project packages old at count =
    ap length at.holds.right.paths ∙ length-map old.found.entries.items (λ (entry : Entry). string_bytes entry.path) ∙ count

last_path : (project : Project) (packages : List Package) (old : Loader) (found : Found) (path : List ℕ) → IsAt project old packages → length old.found.entries.items ≡ length packages → FoundRuntime project old found true → slice_get found.paths (length packages) ≡ Some path → path ≡ runtime_path
last_path project packages old found path at count f h =
    let absent : list_any (bytes_eq runtime_path) old.found.paths ≡ false = is_absent (list_any (bytes_eq runtime_path) old.found.paths) f.0 in
    let paths : found.paths ≡ old.found.paths ++ runtime_path ∷ [] = f.1 ∙ added_last (list_any (bytes_eq runtime_path) old.found.paths) old.found.paths runtime_path absent in
    let last : slice_get found.paths (length packages) ≡ Some runtime_path = ap (λ ps. slice_get ps (length packages)) paths ∙ get_last old.found.paths runtime_path (length packages) (length_paths project packages old at count) in
    let same : Some path ≡ Some runtime_path = sym h ∙ last in
    cc

imports_with : (project : Project) (packages : List Package) (old new : Loader) (found : Found) (one : Package) → IsAt project old packages → length old.found.entries.items ≡ length packages → FoundRuntime project old found true → one.path ≡ runtime_path → IsPackage project packages one → Holds project new (packages ++ one ∷ [])
    → new.found.paths ≡ fold with_import found.paths (imports_of_package one) → listed new.imports.items ≡ all_imports (known project (packages ++ one ∷ [])) (packages ++ one ∷ [])
imports_with project packages old new found one at count f path sound holds paths =
    holds.imports ∙ ap (λ ps. all_imports ps all) (paths ∙ ap (fold with_import found.paths) (no_imports one built)) ∙ same_imports (known project packages) found.paths grows all met ∙ ap (λ ps. all_imports ps all) (sym (same_known project packages one built))
  where
    all : List Package
    all = packages ++ one ∷ []

    complete : IsComplete project packages
    complete = let e : length (known project packages) ≡ length packages = ap length (sym at.paths) ∙ length_paths project packages old at count in omega (arith, e)

    some : (n : ℕ) × (length packages ≡ suc n)
    some = some_loaded project packages complete (longer (flat_map imports_of_package packages) (target_path project ∷ []))

    built : one.built_in ≡ true
    built = runtime_built_in project packages one some.0 some.1 path sound

    grows : Grows (known project packages) found.paths
    grows = subst (λ ps. Grows ps found.paths) at.paths (subst (Grows old.found.paths) (sym f.1) (grows_by_text old.found.paths runtime_path))

    met : AreKnown (known project packages) (flat_map imports_of_package all)
    met =
        subst (AreKnown (known project packages)) (sym (imports_more packages one))
        (known_both (known project packages) (flat_map imports_of_package packages) (imports_of_package one) (subst (λ ps. AreKnown ps (flat_map imports_of_package packages)) at.paths at.holds.met)
        (subst (AreKnown (known project packages)) (sym (no_imports one built)) tt))

absent_known : (project : Project) (packages : List Package) (old : Loader) (found : Found) → IsAt project old packages → FoundRuntime project old found true → has_runtime project packages ≡ false
absent_known project packages old found at f =
    ap (list_any (bytes_eq runtime_path)) (sym at.paths) ∙ is_absent (list_any (bytes_eq runtime_path) old.found.paths) f.0

runtime_given : (files : Tree) (number : ℕ) (project : Project) (packages : List Package) (old new : Loader) (found : Found) (result : Result (Unit {0}) LoadError) → project.files ≡ files → IsAt project old packages → number ≡ length packages → FoundRuntime project old found true
    → LoadsPackage files number (record old { found = found }) new result → PackageLoaded project packages (record old { found = found }) new result
runtime_given files number project packages old new found result files_are at n f h = h project packages files_are (holds_found project packages old found true at.holds f) n

pub runtime_added : (tree now : Option Tree) (number : ℕ) (old new : Loader) (found : Found) (added : Bool) (result : Result (Unit {0}) LoadError) → now ≡ tree → added ≡ true → RuntimeFound old.found found added → number ≡ length old.found.entries.items → IfSome now (λ files. LoadsPackage files number (record old { found = found }) new result)
    → IfSome tree (λ files. LoadsRuntime files old new result)
runtime_added None now number old new found added result same e h n loads = tt
runtime_added (Some files) now number old new found added result same e h n loads = λ project packages files_are at count.
    let f : FoundRuntime project old found true = subst (FoundRuntime project old found) e (h project at.holds.right) in
    let here : LoadsPackage files number (record old { found = found }) new result = subst (λ (t : Option Tree). IfSome t (λ files. LoadsPackage files number (record old { found = found }) new result)) same loads in
    answer project packages files_are at count f result (runtime_given files number project packages old new found result files_are at (n ∙ count) f here)
  where
    answer : (project : Project) (packages : List Package) → project.files ≡ files → IsAt project old packages → length old.found.entries.items ≡ length packages → FoundRuntime project old found true → (result : Result (Unit {0}) LoadError)
        → PackageLoaded project packages (record old { found = found }) new result → RuntimeLoaded project packages new result
    answer project packages files_are at count f (Ok x) h = record {
      all = packages ++ h.0 ∷ [];
      with_runtime = Added h.0 (absent_known project packages old found at f) (last_path project packages old found h.0.path at count f h.1) h.2;
      holds = h.3;
      imports = imports_with project packages old new found h.0 at count f (last_path project packages old found h.0.path at count f h.1) h.2 h.3 h.4;
    }
    answer project packages files_are at count f (Err (Refused place rule)) h =
        (absent_known project packages old found at f, subst (λ path. BreaksPackage project packages path (broken place rule)) (last_path project packages old found h.0 at count f h.1) h.2)
    answer project packages files_are at count f (Err ReadFault) h = tt
    answer project packages files_are at count f (Err OutOfMemory) h = tt

-- ---- all together

sources_are : (project : Project) (packages : List Package) (loader : Loader) (sources : Sources) (all : HoldsAll project packages loader) → files_of sources ≡ loader.files.items → packages_of sources ≡ loader.packages.items → sources.imports.items ≡ loader.imports.items → sources.minor ≡ minor_of (option_map view_module loader.found.root)
    → IsSourcesOf project all.all sources
sources_are project packages loader sources all files headers imports minor = record {
  files = ap (map view_source) files ∙ all.holds.files;
  headers = headers ∙ all.holds.headers;
  imports = ap listed imports ∙ all.imports;
  minor = minor ∙ ap minor_of all.holds.right.root;
}

complete_at : (project : Project) (loader : Loader) (done : IsDone project loader) → IsComplete project done.packages
complete_at project loader done =
    let e : length (known project done.packages) ≡ length done.packages = ap length (sym done.at.paths) ∙ length_paths project done.packages loader done.at done.complete in omega (arith, e)

queue_answer : (files : Tree) (first last : Loader) (result : Result (Unit {0}) LoadError) (project : Project) → project.files ≡ files → IsAt project first [] → LoadsQueue files first last result → QueueLoaded project last result
queue_answer files first last result project files_are at h = h project [] files_are at

-- the queue stops
pub queue_stopped : (tree : Option Tree) (first last : Loader) (error : LoadError) → IfSome tree (λ files. LoadsQueue files first last (Err error)) → IfSome tree (λ files. Finishes files first (Err error))
queue_stopped None first last error h = tt
queue_stopped (Some files) first last (Refused place rule) h = λ project files_are at.
    let b : IsBrokenBehind project (broken place rule) = h project [] files_are at in
    BadPackage b.packages b.path (broken place rule) b.front b.next b.breaks
queue_stopped (Some files) first last ReadFault h = λ project files_are at. tt
queue_stopped (Some files) first last OutOfMemory h = λ project files_are at. tt

-- the check of imports stops
imports_bad : (project : Project) (loader : Loader) (done : IsDone project loader) (place : Place) (rule : Rule) → ImportsChecked project done.packages (Err (Refused place rule)) → IsResult project (Err (broken place rule))
imports_bad project loader done place rule (inl (first, is)) =
    subst (λ (b : Broken). IsResult project (Err b)) (λ i. broken (sym first.place_is i) (sym is i)) (OfProgram done.packages first.link done.at.front (complete_at project loader done) first.first)
imports_bad project loader done place rule (inr (first, is)) =
    subst (λ (b : Broken). IsResult project (Err b)) (λ i. broken (sym first.place_is i) (sym is i)) (OnCycle done.packages first.index first.link done.at.front (complete_at project loader done) first.no_program first.first first.link_is)

pub imports_stopped : (tree : Option Tree) (first last : Loader) (error : LoadError) → IfSome tree (λ files. LoadsQueue files first last (Ok tt)) → ChecksImports last (Err error) → IfSome tree (λ files. Finishes files first (Err error))
imports_stopped None first last error h k = tt
imports_stopped (Some files) first last (Refused place rule) h k = λ project files_are at.
    let done : IsDone project last = h project [] files_are at in
    imports_bad project last done place rule (k project done.packages done.at.holds done.at.paths)
imports_stopped (Some files) first last ReadFault h k = λ project files_are at. tt
imports_stopped (Some files) first last OutOfMemory h k = λ project files_are at. tt

-- runtime stops, or all is loaded
pub runtime_stopped : (tree now : Option Tree) (first last end : Loader) (error : LoadError) → now ≡ tree → IfSome tree (λ files. LoadsQueue files first last (Ok tt)) → ChecksImports last (Ok tt) → IfSome now (λ files. LoadsRuntime files last end (Err error)) → IfSome tree (λ files. Finishes files first (Err error))
runtime_stopped None now first last end error same h k r = tt
runtime_stopped (Some files) now first last end (Refused place rule) same h k r = λ project files_are at.
    let done : IsDone project last = h project [] files_are at in
    let here : LoadsRuntime files last end (Err (Refused place rule)) = subst (λ (t : Option Tree). IfSome t (λ files. LoadsRuntime files last end (Err (Refused place rule)))) same r in
    let bad : RuntimeLoaded project done.packages end (Err (Refused place rule)) = here project done.packages files_are done.at done.complete in
    BadRuntime done.packages (broken place rule) done.at.front (complete_at project last done) (k project done.packages done.at.holds done.at.paths) bad.0 bad.1
runtime_stopped (Some files) now first last end ReadFault same h k r = λ project files_are at. tt
runtime_stopped (Some files) now first last end OutOfMemory same h k r = λ project files_are at. tt

pub all_loaded : (tree now : Option Tree) (first last end : Loader) (sources : Sources) → now ≡ tree → IfSome tree (λ files. LoadsQueue files first last (Ok tt)) → ChecksImports last (Ok tt) → IfSome now (λ files. LoadsRuntime files last end (Ok tt))
    → files_of sources ≡ end.files.items → packages_of sources ≡ end.packages.items → sources.imports.items ≡ end.imports.items → sources.minor ≡ minor_of (option_map view_module end.found.root) → IfSome tree (λ files. Finishes files first (Ok sources))
all_loaded None now first last end sources same h k r f p i m = tt
all_loaded (Some files) now first last end sources same h k r f p i m = λ project files_are at.
    let done : IsDone project last = h project [] files_are at in
    let here : LoadsRuntime files last end (Ok tt) = subst (λ (t : Option Tree). IfSome t (λ files. LoadsRuntime files last end (Ok tt))) same r in
    let all : HoldsAll project done.packages end = here project done.packages files_are done.at done.complete in
    (all.all, Program done.packages all.all done.at.front (complete_at project last done) (k project done.packages done.at.holds done.at.paths) all.with_runtime, sources_are project done.packages end sources all f p i m)
