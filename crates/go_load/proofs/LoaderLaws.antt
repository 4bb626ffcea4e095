-- What is loaded of one package.
use Rattle.std.proofs.Common.{◌≡◌, ℕ, zero, suc, ◌<◌, Option, Some, None, IfSome, Result, Ok, Err, List, [], ◌∷◌, length, slice_get, string_bytes, refl, sym, subst, arith}
use Rattle.go_base.specs.declared.place.Place.{Place}
use Rattle.go_base.specs.declared.rule.Rule.{Rule}
use Rattle.go_base.specs.declared.rule.Rule.TheVariants as rules
use Rattle.go_sources.specs.declared.sources.SourceFile.{SourceFile}
use Rattle.go_finding.specs.declared.error.LoadError.{LoadError}
use Rattle.go_finding.specs.declared.error.LoadError.TheVariants.{Refused, ReadFault, OutOfMemory}
use Rattle.go_finding.specs.declared.found.Entry.{Entry}
use Rattle.go_load.specs.declared.loader.Loader.{Loader}
use Rattle.go_finding.specs.Finding.{view_origin, IsRightAt}
use Rattle.go_load.specs.Loading.{Checks, ChecksFiles}
use Rattle.go_finding.specs.Linking.{broken, IfEntry}
use Rattle.go_finding.specs.Modules.{Broken}
use Rattle.go_finding.specs.Places.{first_place, Refuses}
use Rattle.go_finding.specs.Programs.{File, ReadsAll, Ends, Stops, Continues, name_fault, path_asked}
use Rattle.go_finding.specs.Projects.{FileText, Project, Origin, BuiltInFile, Paths, texts_of, texts_at, dir_named, IsOriginOfImport}
use Rattle.go_finding.proofs.Listings.{directory_texts}

-- ---- the check of the files

pub refused : (X : Type 0) (place : Place) (rule : Rule) (error : LoadError) (fault : Option Broken) → fault ≡ Some (broken place rule) → Refuses place rule error → Checks {X = X} fault (Err error)
refused X place rule (Refused at by) fault e same = rw (same.0, same.1) e
refused X place rule ReadFault fault e same = tt
refused X place rule OutOfMemory fault e same = tt

no_files : (room : ℕ) (texts : List FileText) (result : Result (List File) Broken) → ReadsAll room texts result → result ≡ Ok [] → texts ≡ []
no_files room texts result (Ends _) e = refl
no_files room texts result (Stops _ text more broken reads) e = cc
no_files room texts result (Continues _ text more file (Ok rest) reads all) e = cc
no_files room texts result (Continues _ text more file (Err broken) reads all) e = cc

built_in_has_text : (text : FileText) → text ∷ [] ≡ [] → ⊥
built_in_has_text text e = cc

import_has_files : (project : Project) (room : ℕ) (path : List ℕ) (origin : Origin) → IsOriginOfImport project path origin → ReadsAll room (texts_of project.files origin) (Ok []) → ⊥
import_has_files project room path (BuiltInFile built_in) right reads = built_in_has_text _ (no_files room (texts_of project.files (BuiltInFile built_in)) (Ok []) reads refl)
import_has_files project room path (Paths paths) right reads = directory_texts project.files (dir_named project path) paths right.1 (no_files room (texts_at project.files paths) (Ok []) reads refl)

-- what is answered at an entry without files
abbrev pub RefusesEmpty : Loader → Entry → LoadError → Type 0
RefusesEmpty loader entry error = entry.asker ≡ None → Refuses (first_place loader.target) rules.NoGoFiles error

empty_at : (project : Project) (room number : ℕ) (loader : Loader) (entry : Entry) (error : LoadError) → loader.target ≡ path_asked project.target → IsRightAt project number entry → ReadsAll room (texts_of project.files (view_origin entry.origin)) (Ok []) → RefusesEmpty loader entry error → Checks {X = Unit {0}} (name_fault project.target []) (Err error)
empty_at project room zero loader entry error t right reads refuses =
    let same : Refuses (first_place (path_asked project.target)) rules.NoGoFiles error = subst (λ (path : List ℕ). Refuses (first_place path) rules.NoGoFiles error) t (refuses right.asked) in
    refused (Unit {0}) (first_place (path_asked project.target)) rules.NoGoFiles error (name_fault project.target []) refl same
empty_at project room (suc number) loader entry error t right reads refuses = absurd (import_has_files project room (string_bytes entry.path) (view_origin entry.origin) right.origin reads)

some_at : (entries : List Entry) (number : ℕ) → number < length entries → (entry : Entry) × (slice_get entries number ≡ Some entry)
some_at [] number h = absurd (omega arith)
some_at (entry ∷ entries) zero h = (entry, refl)
some_at (entry ∷ entries) (suc number) h = some_at entries number (omega arith)

-- what is said of the entry at a number, each part of it
at_one : {P : Type 0} (one : Option Entry) (A B C : Entry → Type 0) → ((entry : Entry) → A entry → B entry → C entry → P) → ((entry : Entry) × (one ≡ Some entry)) → IfSome one A → IfSome one B → IfSome one C → P
at_one one A B C gives there a b c =
    gives there.0 (subst (λ (o : Option Entry). IfSome o A) there.1 a) (subst (λ (o : Option Entry). IfSome o B) there.1 b) (subst (λ (o : Option Entry). IfSome o C) there.1 c)

pub empty_checked : (number : ℕ) (loader : Loader) (sources : List SourceFile) (error : LoadError) → number < length loader.found.entries.items → sources ≡ [] → IfEntry loader.found number (λ entry. RefusesEmpty loader entry error) → ChecksFiles number loader sources (Err error)
empty_checked number loader sources error h none refuses = subst (λ (these : List SourceFile). ChecksFiles number loader these (Err error)) (sym none) (λ project room right t reads.
    at_one (slice_get loader.found.entries.items number) (IsRightAt project number) (λ (entry : Entry). ReadsAll room (texts_of project.files (view_origin entry.origin)) (Ok [])) (λ (entry : Entry). RefusesEmpty loader entry error)
    (λ entry a b c. empty_at project room number loader entry error t a b c) (some_at loader.found.entries.items number h) (right.entries number) reads refuses)
