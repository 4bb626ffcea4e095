-- What the loading of one package answers.
use Rattle.std.proofs.Common.{◌≡◌, ℕ, zero, suc, ◌<◌, Bool, List, [], ◌∷◌, length, map, if◌then◌else◌, Option, Some, None, option_map, IfSome, Result, Ok, Err, Vec, string_bytes, slice_get, refl, sym, ap, ◌∙◌, subst, arith}
use Rattle.std.proofs.lemmas.Option.{slice_get-map}
use Rattle.std.specs.declared.alloc.Global.{Global}
use Rattle.go_base.specs.Devices.{Tree}
use Rattle.go_base.specs.declared.place.Place.{Place}
use Rattle.go_base.specs.declared.rule.Rule.{Rule}
use Rattle.go_sources.specs.declared.sources.Import as numbers
use Rattle.go_sources.specs.declared.sources.SourceFile.{SourceFile}
use Rattle.go_sources.specs.declared.sources.SourcePackage.{SourcePackage}
use Rattle.go_finding.specs.declared.error.LoadError.{LoadError}
use Rattle.go_finding.specs.declared.error.LoadError.TheVariants.{Refused, ReadFault, OutOfMemory}
use Rattle.go_finding.specs.declared.found.Entry.{Entry}
use Rattle.go_finding.specs.declared.found.Found.{Found}
use Rattle.go_load.specs.declared.loader.Loader.{Loader}
use Rattle.go_load.specs.FileReading.{AreOf, AnswersBy, view_files}
use Rattle.go_finding.specs.Finding.{view_file, view_origin, AreRight, IsRightAt}
use Rattle.go_load.specs.Loading.{Checks, ChecksFiles, Holds, LoadsFiles, LoadsPackage, PackageLoaded, AddsPackage, told_package}
use Rattle.go_finding.specs.Linking.{broken, FindsImportsOf, IfEntry, PackageImportsFound}
use Rattle.go_finding.specs.Modules.{Broken}
use Rattle.go_finding.specs.Programs.{File, Package, Loads, Unread, Faulty, Sound, LoadsNext, ReadsAll, name_fault, package_fault, or_else, unfound, import_files}
use Rattle.go_finding.specs.Projects.{Project, Origin, texts_of, is_built_in}
use Rattle.go_finding.specs.Reading.{max_file_bytes}
use Rattle.go_load.proofs.Holding.{holds_more, package_at}

there : {A : Type 0} (xs : List A) (i : ℕ) → i < length xs → (x : A) × (slice_get xs i ≡ Some x)
there [] i h = let e : ⊥ = omega arith in absurd e
there (x ∷ xs) zero h = (x, refl)
there (x ∷ xs) (suc i) h = there xs i (omega arith)

at_entry : (found : Found) (number : ℕ) (entry : Entry) (P : Entry → Type 0) → slice_get found.entries.items number ≡ Some entry → IfEntry found number P → P entry
at_entry found number entry P e h = subst (λ (o : Option Entry). IfSome o P) e h

abbrev origin_of : Entry → Origin
origin_of entry = view_origin entry.origin

abbrev built_in_at : Entry → Bool
built_in_at entry = is_built_in (origin_of entry)

-- what its files are is what the package is
abbrev LoadsAt : Project → Loader → Entry → Result (List File) Broken → Type 0
LoadsAt project old entry result =
    Loads project (if built_in_at entry then max_file_bytes else old.left) (built_in_at entry) (texts_of project.files (origin_of entry)) result

path_at : (project : Project) (old : Loader) (number : ℕ) (entry : Entry) → AreRight project old.found → slice_get old.found.entries.items number ≡ Some entry → slice_get old.found.paths number ≡ Some (string_bytes entry.path)
path_at project old number entry right e =
    ap (λ paths. slice_get paths number) right.paths
    ∙ slice_get-map (λ (entry : Entry). string_bytes entry.path) old.found.entries.items number
    ∙ ap (option_map (λ (entry : Entry). string_bytes entry.path)) e

next_is : (project : Project) (packages : List Package) (old : Loader) (entry : Entry) (result : Result (List File) Broken) → Holds project old packages → slice_get old.found.entries.items (length packages) ≡ Some entry → LoadsAt project old entry result
    → LoadsNext project packages (string_bytes entry.path) (built_in_at entry) result
next_is project packages old entry result h e loads = record {
  origin = origin_of entry;
  origin_is = (at_entry old.found (length packages) entry (IsRightAt project (length packages)) e (h.right.entries (length packages))).origin;
  built_in_is = refl;
  loads = subst (λ room. Loads project room (built_in_at entry) (texts_of project.files (origin_of entry)) result) (ap (λ n. if built_in_at entry then max_file_bytes else n) h.left) loads;
}

breaks : (project : Project) (packages : List Package) (old new : Loader) (entry : Entry) (place : Place) (rule : Rule) → Holds project old packages → slice_get old.found.entries.items (length packages) ≡ Some entry → LoadsAt project old entry (Err (broken place rule))
    → PackageLoaded project packages old new (Err (Refused place rule))
breaks project packages old new entry place rule h e loads =
    (string_bytes entry.path, path_at project old (length packages) entry h.right e, (built_in_at entry, next_is project packages old entry (Err (broken place rule)) h e loads))

-- ---- where files are told

abbrev Told : Option Tree → (Tree → Type 0) → Type 0
Told tree P = IfSome tree P

-- it is enough to look at the entry
by_entry : (files : Tree) (number : ℕ) (old new : Loader) (result : Result (Unit {0}) LoadError) → number < length old.found.entries.items
    → ((project : Project) (packages : List Package) (entry : Entry) → project.files ≡ files → Holds project old packages → number ≡ length packages → slice_get old.found.entries.items (length packages) ≡ Some entry → PackageLoaded project packages old new result)
    → LoadsPackage files number old new result
by_entry files number old new result within f = λ project packages files_are holds at.
    let found : (entry : Entry) × (slice_get old.found.entries.items number ≡ Some entry) = there old.found.entries.items number within in
    f project packages found.0 files_are holds at (ap (slice_get old.found.entries.items) (sym at) ∙ found.1)

read_of : (files : Tree) (number : ℕ) (old : Loader) (entry : Entry) (result : Result (Vec SourceFile Global) LoadError) → slice_get old.found.entries.items number ≡ Some entry → LoadsFiles files number old result
    → AnswersBy view_files (ReadsAll (if built_in_at entry then max_file_bytes else old.left) (texts_of files (origin_of entry))) result
read_of files number old entry result e h =
    at_entry old.found number entry (λ entry. let origin = view_origin entry.origin in AnswersBy view_files (ReadsAll (if is_built_in origin then max_file_bytes else old.left) (texts_of files origin)) result) e h

read_in : (project : Project) (files : Tree) (number : ℕ) (packages : List Package) (old : Loader) (entry : Entry) (result : Result (Vec SourceFile Global) LoadError) → project.files ≡ files → number ≡ length packages → slice_get old.found.entries.items (length packages) ≡ Some entry → LoadsFiles files number old result
    → AnswersBy view_files (ReadsAll (if built_in_at entry then max_file_bytes else old.left) (texts_of project.files (origin_of entry))) result
read_in project files number packages old entry result files_are at e h =
    subst (λ (tree : Tree). AnswersBy view_files (ReadsAll (if built_in_at entry then max_file_bytes else old.left) (texts_of tree (origin_of entry))) result) (sym files_are)
    (read_of files number old entry result (ap (slice_get old.found.entries.items) at ∙ e) h)

pub unread : (tree : Option Tree) (number : ℕ) (old new : Loader) (error : LoadError) → number < length old.found.entries.items → IfSome tree (λ files. LoadsFiles files number old (Err error)) → IfSome tree (λ files. LoadsPackage files number old new (Err error))
unread None number old new error within h = tt
unread (Some files) number old new (Refused place rule) within h =
    by_entry files number old new (Err (Refused place rule)) within (λ project packages entry files_are holds at e.
    breaks project packages old new entry place rule holds e (Unread (broken place rule) (read_in project files number packages old entry (Err (Refused place rule)) files_are at e h)))
unread (Some files) number old new ReadFault within h = λ project packages files_are holds at. tt
unread (Some files) number old new OutOfMemory within h = λ project packages files_are holds at. tt

-- what the check of the files says of them
checked : (project : Project) (number : ℕ) (packages : List Package) (old : Loader) (entry : Entry) (sources : Vec SourceFile Global) (result : Result (Unit {0}) LoadError) → Holds project old packages → number ≡ length packages → slice_get old.found.entries.items (length packages) ≡ Some entry
    → ReadsAll (if built_in_at entry then max_file_bytes else old.left) (texts_of project.files (origin_of entry)) (Ok (map view_file sources.items))
    → ChecksFiles number old sources.items result → Checks (name_fault project.target (map view_file sources.items)) result
checked project number packages old entry sources result holds at e reads h =
    h project (if built_in_at entry then max_file_bytes else old.left) holds.right holds.target
    (subst (λ (o : Option Entry). IfSome o (λ entry'. ReadsAll (if built_in_at entry then max_file_bytes else old.left) (texts_of project.files (view_origin entry'.origin)) (Ok (map view_file sources.items)))) (sym (ap (slice_get old.found.entries.items) at ∙ e)) reads)

faulty_here : (tree : Option Tree) (number : ℕ) (old new : Loader) (sources : Vec SourceFile Global) (error : LoadError) → number < length old.found.entries.items → IfSome tree (λ files. LoadsFiles files number old (Ok sources)) → ChecksFiles number old sources.items (Err error)
    → IfSome tree (λ files. LoadsPackage files number old new (Err error))
faulty_here None number old new sources error within h k = tt
faulty_here (Some files) number old new sources (Refused place rule) within h k =
    by_entry files number old new (Err (Refused place rule)) within (λ project packages entry files_are holds at e.
    let reads : ReadsAll (if built_in_at entry then max_file_bytes else old.left) (texts_of project.files (origin_of entry)) (Ok (map view_file sources.items)) = read_in project files number packages old entry (Ok sources) files_are at e h in
    let fault : name_fault project.target (map view_file sources.items) ≡ Some (broken place rule) = checked project number packages old entry sources (Err (Refused place rule)) holds at e reads k in
    breaks project packages old new entry place rule holds e
    (Faulty (map view_file sources.items) (broken place rule) reads (ap (λ first. or_else first (unfound project (import_files (built_in_at entry) (map view_file sources.items)))) fault)))
faulty_here (Some files) number old new sources ReadFault within h k = λ project packages files_are holds at. tt
faulty_here (Some files) number old new sources OutOfMemory within h k = λ project packages files_are holds at. tt

-- the answer for imports, of the entry
imports_in_entry : (project : Project) (files : Tree) (number : ℕ) (packages : List Package) (old : Loader) (found : Found) (entry : Entry) (sources : List SourceFile) (result : Result (Vec (Vec numbers.Import Global) Global) LoadError) → project.files ≡ files → Holds project old packages → number ≡ length packages → slice_get old.found.entries.items (length packages) ≡ Some entry
    → FindsImportsOf files number old.found found sources result → PackageImportsFound project old.found found (built_in_at entry) (map view_file sources) result
imports_in_entry project files number packages old found entry sources result files_are holds at e h =
    at_entry old.found number entry (λ entry. PackageImportsFound project old.found found (is_built_in (view_origin entry.origin)) (map view_file sources) result)
    (ap (slice_get old.found.entries.items) at ∙ e) (h project files_are holds.right)

no_fault : (project : Project) (entry : Entry) (files : List File) (fault : Option Broken) → name_fault project.target files ≡ None → unfound project (import_files (built_in_at entry) files) ≡ fault → package_fault project (built_in_at entry) files ≡ fault
no_fault project entry files fault names imports = ap (λ first. or_else first (unfound project (import_files (built_in_at entry) files))) names ∙ imports

unfound_here : (tree now : Option Tree) (number : ℕ) (old new : Loader) (found : Found) (sources : Vec SourceFile Global) (error : LoadError) → now ≡ tree → number < length old.found.entries.items → IfSome tree (λ files. LoadsFiles files number old (Ok sources)) → ChecksFiles number old sources.items (Ok tt)
    → IfSome now (λ files. FindsImportsOf files number old.found found sources.items (Err error)) → IfSome tree (λ files. LoadsPackage files number old new (Err error))
unfound_here None now number old new found sources error same within h k imports = tt
unfound_here (Some files) now number old new found sources (Refused place rule) same within h k imports =
    by_entry files number old new (Err (Refused place rule)) within (λ project packages entry files_are holds at e.
    let reads : ReadsAll (if built_in_at entry then max_file_bytes else old.left) (texts_of project.files (origin_of entry)) (Ok (map view_file sources.items)) = read_in project files number packages old entry (Ok sources) files_are at e h in
    let names : name_fault project.target (map view_file sources.items) ≡ None = checked project number packages old entry sources (Ok tt) holds at e reads k in
    let finds : FindsImportsOf files number old.found found sources.items (Err (Refused place rule)) = subst (λ (t : Option Tree). IfSome t (λ files. FindsImportsOf files number old.found found sources.items (Err (Refused place rule)))) same imports in
    breaks project packages old new entry place rule holds e
    (Faulty (map view_file sources.items) (broken place rule) reads
    (no_fault project entry (map view_file sources.items) (Some (broken place rule)) names (imports_in_entry project files number packages old found entry sources.items (Err (Refused place rule)) files_are holds at e finds))))
unfound_here (Some files) now number old new found sources ReadFault same within h k imports = λ project packages files_are holds at. tt
unfound_here (Some files) now number old new found sources OutOfMemory same within h k imports = λ project packages files_are holds at. tt

loaded_here : (tree now : Option Tree) (number : ℕ) (old new : Loader) (found : Found) (sources : Vec SourceFile Global) (imports : Vec (Vec numbers.Import Global) Global) (told : SourcePackage) → now ≡ tree → number < length old.found.entries.items → IfSome tree (λ files. LoadsFiles files number old (Ok sources)) → AreOf number sources.items → ChecksFiles number old sources.items (Ok tt)
    → IfEntry old.found number (λ entry. told ≡ told_package number (length old.files.items) entry (map view_file sources.items))
    → IfSome now (λ files. FindsImportsOf files number old.found found sources.items (Ok imports))
    → AddsPackage number told (record old { found = found }) new sources.items imports.items
    → IfSome tree (λ files. LoadsPackage files number old new (Ok tt))
loaded_here None now number old new found sources imports told same within h of k header finds adds = tt
loaded_here (Some files) now number old new found sources imports told same within h of k header finds adds =
    by_entry files number old new (Ok tt) within (λ project packages entry files_are holds at e.
    let reads : ReadsAll (if built_in_at entry then max_file_bytes else old.left) (texts_of project.files (origin_of entry)) (Ok (map view_file sources.items)) = read_in project files number packages old entry (Ok sources) files_are at e h in
    let names : name_fault project.target (map view_file sources.items) ≡ None = checked project number packages old entry sources (Ok tt) holds at e reads k in
    let told_finds : FindsImportsOf files number old.found found sources.items (Ok imports) = subst (λ (t : Option Tree). IfSome t (λ files. FindsImportsOf files number old.found found sources.items (Ok imports))) same finds in
    let answer : PackageImportsFound project old.found found (built_in_at entry) (map view_file sources.items) (Ok imports) = imports_in_entry project files number packages old found entry sources.items (Ok imports) files_are holds at e told_finds in
    let sound : LoadsAt project old entry (Ok (map view_file sources.items)) = Sound (map view_file sources.items) reads (no_fault project entry (map view_file sources.items) None names answer.0) in
    let header_is : told ≡ told_package number (length old.files.items) entry (map view_file sources.items) = at_entry old.found number entry (λ entry. told ≡ told_package number (length old.files.items) entry (map view_file sources.items)) (ap (slice_get old.found.entries.items) at ∙ e) header in (
      package_at entry sources.items,
      path_at project old (length packages) entry holds.right e,
      next_is project packages old entry (Ok (map view_file sources.items)) holds e sound,
      holds_more project packages old new found entry told sources.items imports.items holds
          (subst (λ n. AreOf n sources.items) at of)
          (header_is ∙ ap (λ n. told_package n (length old.files.items) entry (map view_file sources.items)) at)
          answer.1 answer.2 answer.3
          (subst (λ n. AddsPackage n told (record old { found = found }) new sources.items imports.items) at adds),
      ap (λ (f : Found). f.paths) (new_found adds) ∙ answer.2,
    ))
  where
    new_found : AddsPackage number told (record old { found = found }) new sources.items imports.items → new.found ≡ found
    new_found adds = adds.found

-- ---- the same, where the files are seen through a slice

abbrev ChecksSlice : ℕ → Loader → Result (Unit {0}) LoadError → List SourceFile → Type 0
ChecksSlice number old result sources = ChecksFiles number old sources result

abbrev FindsSlice : Option Tree → ℕ → Loader → Found → Result (Vec (Vec numbers.Import Global) Global) LoadError → List SourceFile → Type 0
FindsSlice now number old found result sources = IfSome now (λ files. FindsImportsOf files number old.found found sources result)

abbrev ToldSlice : ℕ → Loader → SourcePackage → List SourceFile → Type 0
ToldSlice number old told sources = IfEntry old.found number (λ entry. told ≡ told_package number (length old.files.items) entry (map view_file sources))

pub faulty : (tree : Option Tree) (number : ℕ) (old new : Loader) (sources : Vec SourceFile Global) (error : LoadError) (seen : List SourceFile) → seen ≡ sources.items → number < length old.found.entries.items → IfSome tree (λ files. LoadsFiles files number old (Ok sources)) → ChecksFiles number old seen (Err error)
    → IfSome tree (λ files. LoadsPackage files number old new (Err error))
faulty tree number old new sources error seen e within h k =
    faulty_here tree number old new sources error within h (subst (ChecksSlice number old (Err error)) e k)

pub unfound_import : (tree now : Option Tree) (number : ℕ) (old new : Loader) (found : Found) (sources : Vec SourceFile Global) (error : LoadError) (seen also : List SourceFile) → seen ≡ sources.items → also ≡ sources.items → now ≡ tree → number < length old.found.entries.items → IfSome tree (λ files. LoadsFiles files number old (Ok sources)) → ChecksFiles number old seen (Ok tt)
    → IfSome now (λ files. FindsImportsOf files number old.found found also (Err error)) → IfSome tree (λ files. LoadsPackage files number old new (Err error))
unfound_import tree now number old new found sources error seen also e f same within h k imports =
    unfound_here tree now number old new found sources error same within h (subst (ChecksSlice number old (Ok tt)) e k) (subst (FindsSlice now number old found (Err error)) f imports)

pub loaded : (tree now : Option Tree) (number : ℕ) (old new : Loader) (found : Found) (sources : Vec SourceFile Global) (imports : Vec (Vec numbers.Import Global) Global) (told : SourcePackage) (seen package_seen also : List SourceFile) → seen ≡ sources.items → package_seen ≡ sources.items → also ≡ sources.items
    → now ≡ tree → number < length old.found.entries.items → IfSome tree (λ files. LoadsFiles files number old (Ok sources)) → AreOf number sources.items → ChecksFiles number old seen (Ok tt)
    → IfEntry old.found number (λ entry. told ≡ told_package number (length old.files.items) entry (map view_file package_seen))
    → IfSome now (λ files. FindsImportsOf files number old.found found also (Ok imports))
    → AddsPackage number told (record old { found = found }) new sources.items imports.items
    → IfSome tree (λ files. LoadsPackage files number old new (Ok tt))
loaded tree now number old new found sources imports told seen package_seen also e p f same within h of k header finds adds =
    loaded_here tree now number old new found sources imports told same within h of (subst (ChecksSlice number old (Ok tt)) e k) (subst (ToldSlice number old told) p header) (subst (FindsSlice now number old found (Ok imports)) f finds) adds
