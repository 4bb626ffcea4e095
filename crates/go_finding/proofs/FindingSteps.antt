-- The packages that imports name, found one after another.
use Rattle.std.proofs.Common.{◌≡◌, ℕ, suc, ◌+◌, ◌<◌, min, Bool, true, false, if◌then◌else◌, List, [], ◌∷◌, ◌++◌, length, get_or, take, drop, map, slice_get, Option, Some, None, unwrap_or, IfSome, Result, Ok, Err, Vec, refl, ap, sym, subst, ◌∙◌}
use Rattle.std.specs.List.{flat_map, fold}
use Rattle.std.specs.declared.alloc.Global.{Global}
use Rattle.std.proofs.lemmas.List.{map-append, take_more, take-append-drop}
use Rattle.std.proofs.lemmas.List.Concat.{flat_map-append}
use Rattle.std.proofs.Math.Seq.{drop-cons}
use Rattle.go_ast.specs.declared.token.Token.{Token}
use Rattle.go_base.specs.Devices.{Tree}
use Rattle.go_base.specs.NameTable.{place_of}
use Rattle.go_base.specs.declared.rule.Rule.{Rule}
use Rattle.go_base.specs.declared.rule.Rule.TheVariants as rules
use Rattle.go_syntax.specs.declared.decls.ImportDecl.{ImportDecl}
use Rattle.go_syntax.specs.declared.decls.ImportSpec.{ImportSpec}
use Rattle.go_sources.specs.declared.sources.Import as numbers
use Rattle.go_sources.specs.declared.sources.SourceFile.{SourceFile}
use Rattle.go_sources.specs.Packages.{text_in}
use Rattle.go_sources.specs.Places.{place_in}
use Rattle.go_finding.specs.declared.error.LoadError.{LoadError}
use Rattle.go_finding.specs.declared.error.LoadError.TheVariants.{Refused, ReadFault, OutOfMemory}
use Rattle.go_finding.specs.declared.found.Entry.{Entry}
use Rattle.go_finding.specs.declared.found.Found.{Found}
use Rattle.go_finding.specs.Finding.{view_file, view_origin, AreRight, Joins, PackageFound, FindsPackage, ImportFound, FindsImport, numbered, ImportsFound, FindsImports, listed, numbered_files, AllFound, FindsAll, IsUnfoundAt}
use Rattle.go_finding.specs.Imports.{Import, import_path, imports_of, imports_of_decl, import_of, written_path}
use Rattle.go_finding.specs.Linking.{PackageImportsFound, FindsImportsOf}
use Rattle.go_finding.specs.Modules.{Broken}
use Rattle.go_finding.specs.Places.{Refuses}
use Rattle.go_finding.specs.Programs.{File, broken_at, imports_in, imports_of_files, unfound_of, unfound, or_else, with_import}
use Rattle.go_finding.specs.Projects.{Project, is_built_in, is_import_found}
use Rattle.go_finding.proofs.Numbers.{Texts, AreMet, met_fold, fold_append, numbered_grown, numbered_files_grown, place_itself}

append-nil : {X : Type 0} (xs : List X) → xs ++ [] ≡ xs
append-nil [] = refl
append-nil (x ∷ xs) = ap (λ rest. x ∷ rest) (append-nil xs)

-- ---- one import

import_refused : (project : Project) (old new : Found) (file : File) (literal : Token) (path : Option (List ℕ)) (error : LoadError)
    → is_import_found project path ≡ false → Refuses (place_in file.path file.bytes (min literal.start (length file.bytes))) rules.NoSuchPackage error
    → ImportFound project old new file literal path (Err error)
import_refused project old new file literal path (Refused at by) none refuses = (none, same at by refuses.0 refuses.1)
  where
    same : (at : _) (by : Rule) → at ≡ place_in file.path file.bytes (min literal.start (length file.bytes)) → by ≡ rules.NoSuchPackage → IsUnfoundAt file literal (record { place = at; rule = by })
    same at by p r = rw (p, r) refl
import_refused project old new file literal path ReadFault none refuses = tt
import_refused project old new file literal path OutOfMemory none refuses = tt

-- the literal writes no path
pub import_unwritten : (tree : Option Tree) (old new : Found) (source : SourceFile) (literal : Token) (error : LoadError)
    → written_path (text_in source.bytes literal) ≡ None → Refuses (place_in source.path source.bytes (min literal.start (length source.bytes))) rules.NoSuchPackage error
    → IfSome tree (λ files. FindsImport files old new source literal (Err error))
import_unwritten None old new source literal error none refuses = tt
import_unwritten (Some files) old new source literal error none refuses = λ project same right.
    import_refused project old new (view_file source) literal (written_path (text_in source.bytes literal)) error (ap (is_import_found project) none) refuses

-- it names no package
pub import_unfound : (tree : Option Tree) (old new now : Found) (source : SourceFile) (literal : Token) (path : List ℕ) (error : LoadError)
    → written_path (text_in source.bytes literal) ≡ Some path → IfSome tree (λ files. FindsPackage files old new path (Ok None))
    → Refuses (place_in source.path source.bytes (min literal.start (length source.bytes))) rules.NoSuchPackage error
    → IfSome tree (λ files. FindsImport files old now source literal (Err error))
import_unfound None old new now source literal path error written finds refuses = tt
import_unfound (Some files) old new now source literal path error written finds refuses = λ project same right.
    import_refused project old now (view_file source) literal (written_path (text_in source.bytes literal)) error (ap (is_import_found project) written ∙ finds project same right) refuses

pub import_found : (tree : Option Tree) (old new : Found) (source : SourceFile) (literal : Token) (path : List ℕ) (number : ℕ)
    → written_path (text_in source.bytes literal) ≡ Some path → IfSome tree (λ files. FindsPackage files old new path (Ok (Some number)))
    → IfSome tree (λ files. FindsImport files old new source literal (Ok number))
import_found None old new source literal path number written finds = tt
import_found (Some files) old new source literal path number written finds = λ project same right.
    let found : PackageFound project old new path (Ok (Some number)) = finds project same right in
    (ap (is_import_found project) written ∙ found.0, subst (λ text. Joins project old new (unwrap_or text []) number) (sym written) found.1)

pub import_failed : (tree : Option Tree) (old new now : Found) (source : SourceFile) (literal : Token) (path : List ℕ) (error : LoadError)
    → IfSome tree (λ files. FindsPackage files old new path (Err error)) → IfSome tree (λ files. FindsImport files old now source literal (Err error))
import_failed None old new now source literal path error finds = tt
import_failed (Some files) old new now source literal path (Refused place rule) finds = λ project same right. absurd (finds project same right)
import_failed (Some files) old new now source literal path ReadFault finds = λ project same right. tt
import_failed (Some files) old new now source literal path OutOfMemory finds = λ project same right. tt

-- ---- the imports of a file

-- the import that a literal writes
abbrev pub import_at : List ℕ → Token → Import
import_at bytes literal = record { literal = literal; path = written_path (text_in bytes literal) }

abbrev pub imports_at : SourceFile → List Token → List Import
imports_at source literals = map (import_at source.bytes) literals

specs_again : (bytes : List ℕ) (imports : List Import) (literals : List Token) → literals ≡ map (λ (import : Import). import.literal) imports
    → map (λ (import : Import). import_at bytes import.literal) imports ≡ map (import_at bytes) literals
specs_again bytes [] literals e = ap (map (import_at bytes)) (sym e)
specs_again bytes (import ∷ imports) literals e = ap (λ rest. import_at bytes import.literal ∷ rest) (specs_again bytes imports _ refl) ∙ ap (map (import_at bytes)) (sym e)

of_specs : (bytes : List ℕ) (specs : List ImportSpec) → map (λ (import : Import). import_at bytes import.literal) (map (import_of bytes) specs) ≡ map (import_of bytes) specs
of_specs bytes [] = refl
of_specs bytes (spec ∷ specs) = ap (λ rest. import_of bytes spec ∷ rest) (of_specs bytes specs)

of_decls : (bytes : List ℕ) (decls : List ImportDecl)
    → map (λ (import : Import). import_at bytes import.literal) (flat_map (imports_of_decl bytes) decls) ≡ flat_map (imports_of_decl bytes) decls
of_decls bytes [] = refl
of_decls bytes (decl ∷ decls) =
    map-append (λ (import : Import). import_at bytes import.literal) (imports_of_decl bytes decl) (flat_map (imports_of_decl bytes) decls)
    ∙ ap (λ first. first ++ map (λ (import : Import). import_at bytes import.literal) (flat_map (imports_of_decl bytes) decls)) (of_specs bytes decl.specs.items)
    ∙ ap (λ rest. imports_of_decl bytes decl ++ rest) (of_decls bytes decls)

-- all imports of a file, from their literals
pub all_imports_at : (source : SourceFile) (literals : List Token) → literals ≡ map (λ import. import.literal) (imports_of source.bytes source.tree)
    → imports_at source literals ≡ imports_in (view_file source)
all_imports_at source literals e =
    sym (specs_again source.bytes (imports_of source.bytes source.tree) literals e) ∙ of_decls source.bytes source.tree.imports.items

-- what is known once these imports are found
pub record HasFound (project : Project) (old new : Found) (file : File) (imports : List Import) (items : List numbers.Import) : Type 0 where
  pub none : unfound_of project file imports ≡ None
  pub items_are : items ≡ numbered new.paths imports
  pub paths : new.paths ≡ fold with_import old.paths imports
  pub right : AreRight project new

-- the same, where files are told
abbrev pub FindsFront : Option Tree → Found → Found → SourceFile → List Token → List numbers.Import → Type 0
FindsFront tree old new source literals items =
    IfSome tree (λ files. (project : Project) → project.files ≡ files → AreRight project old → HasFound project old new (view_file source) (imports_at source literals) items)

pub none_found_yet : (tree : Option Tree) (old : Found) (source : SourceFile) → FindsFront tree old old source [] []
none_found_yet None old source = tt
none_found_yet (Some files) old source = λ project same right. record { none = refl; items_are = refl; paths = refl; right = right }

unfound_more : (project : Project) (file : File) (imports more : List Import) → unfound_of project file imports ≡ None → unfound_of project file (imports ++ more) ≡ unfound_of project file more
unfound_more project file [] more h = refl
unfound_more project file (import ∷ imports) more h = by (is_import_found project import.path) (unfound_more project file imports more) h
  where
    by : (b : Bool) → (unfound_of project file imports ≡ None → unfound_of project file (imports ++ more) ≡ unfound_of project file more)
        → (if b then unfound_of project file imports else Some (broken_at file import.literal rules.NoSuchPackage)) ≡ None
        → (if b then unfound_of project file (imports ++ more) else Some (broken_at file import.literal rules.NoSuchPackage)) ≡ unfound_of project file more
    by true rest h = rest h
    by false rest h = absurd (cc)

-- the number of an import that was found stays
numbered_more : (old mid new : Texts) (imports : List Import) (import : Import) (items : List numbers.Import) (number : ℕ) → items ≡ numbered mid imports
    → mid ≡ fold with_import old imports → number ≡ place_of (import_path import) mid → new ≡ with_import mid import
    → items ++ record { literal = import.literal; «package» = number } ∷ [] ≡ numbered new (imports ++ import ∷ [])
numbered_more old mid new imports import items number items_are mid_is number_is new_is =
    let met : AreMet mid imports = subst (λ paths. AreMet paths imports) (sym mid_is) (met_fold old imports) in
    let kept : numbered new imports ≡ numbered mid imports = ap (λ paths. numbered paths imports) new_is ∙ numbered_grown mid (import ∷ []) imports met in
    let last : number ≡ place_of (import_path import) new = number_is ∙ sym (place_itself (import_path import) mid) ∙ ap (place_of (import_path import)) (sym new_is) in
    ap (λ list. list ++ record { literal = import.literal; «package» = number } ∷ []) (items_are ∙ sym kept)
    ∙ ap (λ n. numbered new imports ++ record { literal = import.literal; «package» = n } ∷ []) last
    ∙ sym (map-append (λ (import : Import). record { literal = import.literal; «package» = place_of (import_path import) new }) imports (import ∷ []))

found_more : (project : Project) (old mid new : Found) (source : SourceFile) (literals : List Token) (items : List numbers.Import) (literal : Token) (number : ℕ)
    → HasFound project old mid (view_file source) (imports_at source literals) items
    → ImportFound project mid new (view_file source) literal (written_path (text_in source.bytes literal)) (Ok number)
    → HasFound project old new (view_file source) (imports_at source (literals ++ literal ∷ [])) (items ++ record { literal = literal; «package» = number } ∷ [])
found_more project old mid new source literals items literal number before found =
    let import = import_at source.bytes literal in
    let more : imports_at source (literals ++ literal ∷ []) ≡ imports_at source literals ++ import ∷ [] = map-append (import_at source.bytes) literals (literal ∷ []) in
    rw more (record {
      none = unfound_more project (view_file source) (imports_at source literals) (import ∷ []) before.none
          ∙ ap (λ b. if b then None else Some (broken_at (view_file source) literal rules.NoSuchPackage)) found.0;
      items_are = numbered_more old.paths mid.paths new.paths (imports_at source literals) import items number before.items_are before.paths found.1.number_is found.1.paths;
      paths = found.1.paths ∙ ap (λ paths. with_import paths import) before.paths ∙ sym (fold_append old.paths (imports_at source literals) (import ∷ []));
      right = found.1.right;
    })

pub found_next : (tree now : Option Tree) (old mid new : Found) (source : SourceFile) (literals : List Token) (items more : List numbers.Import) (index : ℕ) (literal : Token) (number : ℕ)
    → now ≡ tree → index < length literals → literal ≡ get_or literals index literal → more ≡ items ++ record { literal = literal; «package» = number } ∷ []
    → FindsFront tree old mid source (take index literals) items → IfSome now (λ files. FindsImport files mid new source literal (Ok number))
    → FindsFront tree old new source (take (index + 1) literals) more
found_next None now old mid new source literals items more index literal number same within is pushed before found = tt
found_next (Some files) now old mid new source literals items more index literal number same within is pushed before found = λ project told right.
    let so_far = before project told right in
    let here : IfSome (Some files) (λ files. FindsImport files mid new source literal (Ok number)) = subst (λ tree. IfSome tree (λ files. FindsImport files mid new source literal (Ok number))) same found in
    let longer : take (index + 1) literals ≡ take index literals ++ literal ∷ [] = take_more literals index literal within ∙ ap (λ token. take index literals ++ token ∷ []) (sym is) in
    subst (λ list. HasFound project old new (view_file source) (imports_at source list) more) (sym longer)
    (subst (HasFound project old new (view_file source) (imports_at source (take index literals ++ literal ∷ []))) (sym pushed) (found_more project old mid new source (take index literals) items literal number so_far (here project told so_far.right)))

split_at : (literals : List Token) (index : ℕ) (literal : Token) → index < length literals → literal ≡ get_or literals index literal
    → literals ≡ take index literals ++ (literal ∷ drop (suc index) literals)
split_at literals index literal within is =
    sym (take-append-drop index literals) ∙ ap (λ rest. take index literals ++ rest) (drop-cons literals index literal within ∙ ap (λ token. token ∷ drop (suc index) literals) (sym is))

broken_front : (project : Project) (old mid new : Found) (source : SourceFile) (literals rest : List Token) (items : List numbers.Import) (literal : Token) (error : LoadError)
    → HasFound project old mid (view_file source) (imports_at source literals) items
    → ImportFound project mid new (view_file source) literal (written_path (text_in source.bytes literal)) (Err error)
    → imports_at source (literals ++ (literal ∷ rest)) ≡ imports_in (view_file source)
    → ImportsFound project old new (view_file source) (Err error)
broken_front project old mid new source literals rest items literal (Refused place rule) before found all =
    let broken : unfound_of project (view_file source) (imports_at source literals ++ imports_at source (literal ∷ rest)) ≡ Some (broken_at (view_file source) literal rules.NoSuchPackage) =
    unfound_more project (view_file source) (imports_at source literals) (imports_at source (literal ∷ rest)) before.none
    ∙ ap (λ b. if b then unfound_of project (view_file source) (imports_at source rest) else Some (broken_at (view_file source) literal rules.NoSuchPackage)) found.0 in
    ap (unfound_of project (view_file source)) (sym all ∙ map-append (import_at source.bytes) literals (literal ∷ rest)) ∙ broken ∙ ap Some (sym found.1)
broken_front project old mid new source literals rest items literal ReadFault before found all = tt
broken_front project old mid new source literals rest items literal OutOfMemory before found all = tt

pub import_broken : (tree now : Option Tree) (old mid new last : Found) (source : SourceFile) (literals : List Token) (items : List numbers.Import) (index : ℕ) (literal : Token) (error : LoadError)
    → now ≡ tree → index < length literals → literal ≡ get_or literals index literal
    → literals ≡ map (λ import. import.literal) (imports_of source.bytes source.tree)
    → FindsFront tree old mid source (take index literals) items → IfSome now (λ files. FindsImport files mid new source literal (Err error))
    → IfSome tree (λ files. FindsImports files old last source (Err error))
import_broken None now old mid new last source literals items index literal error same within is all before found = tt
import_broken (Some files) now old mid new last source literals items index literal error same within is all before found = λ project told right.
    let so_far = before project told right in
    let here : IfSome (Some files) (λ files. FindsImport files mid new source literal (Err error)) = subst (λ tree. IfSome tree (λ files. FindsImport files mid new source literal (Err error))) same found in
    again project error (broken_front project old mid new source (take index literals) (drop (suc index) literals) items literal error so_far (here project told so_far.right)
    (ap (imports_at source) (sym (split_at literals index literal within is)) ∙ all_imports_at source literals all))
  where
    again : (project : Project) (error : LoadError) → ImportsFound project old new (view_file source) (Err error) → ImportsFound project old last (view_file source) (Err error)
    again project (Refused place rule) h = h
    again project ReadFault h = tt
    again project OutOfMemory h = tt

pub imports_found : (tree : Option Tree) (old new : Found) (source : SourceFile) (literals front : List Token) (imports : Vec numbers.Import Global)
    → literals ≡ map (λ import. import.literal) (imports_of source.bytes source.tree) → front ≡ literals
    → FindsFront tree old new source front imports.items → IfSome tree (λ files. FindsImports files old new source (Ok imports))
imports_found None old new source literals front imports all whole before = tt
imports_found (Some files) old new source literals front imports all whole before = λ project told right.
    let found = before project told right in
    let are : imports_at source front ≡ imports_in (view_file source) = ap (imports_at source) whole ∙ all_imports_at source literals all in
    (ap (unfound_of project (view_file source)) (sym are) ∙ found.none, found.items_are ∙ ap (numbered new.paths) are, found.paths ∙ ap (fold with_import old.paths) are, found.right)

-- ---- the imports of files

abbrev Lists : Type 0
Lists = List (Vec numbers.Import Global)

-- what is known once the imports of these files are found
pub record HasFoundAll (project : Project) (old new : Found) (files : List File) (all : Lists) : Type 0 where
  pub none : unfound project files ≡ None
  pub lists_are : listed all ≡ numbered_files new.paths files
  pub paths : new.paths ≡ fold with_import old.paths (imports_of_files files)
  pub right : AreRight project new

abbrev pub FindsFrontFiles : Option Tree → Found → Found → List SourceFile → Lists → Type 0
FindsFrontFiles tree old new sources all =
    IfSome tree (λ files. (project : Project) → project.files ≡ files → AreRight project old → HasFoundAll project old new (map view_file sources) all)

pub no_files_yet : (tree : Option Tree) (old : Found) → FindsFrontFiles tree old old [] []
no_files_yet None old = tt
no_files_yet (Some files) old = λ project same right. record { none = refl; lists_are = refl; paths = refl; right = right }

or_else_none : (a b : Option Broken) → or_else a b ≡ None → (a ≡ None) × (b ≡ None)
or_else_none None b h = (refl, h)
or_else_none (Some broken) b h = absurd (cc)

unfound_files_more : (project : Project) (files more : List File) → unfound project files ≡ None → unfound project (files ++ more) ≡ unfound project more
unfound_files_more project [] more h = refl
unfound_files_more project (file ∷ files) more h =
    let parts = or_else_none (unfound_of project file (imports_in file)) (unfound project files) h in
    ap (λ first. or_else first (unfound project (files ++ more))) parts.0 ∙ unfound_files_more project files more parts.1

last_none : (project : Project) (file : File) → unfound_of project file (imports_in file) ≡ None → unfound project (file ∷ []) ≡ None
last_none project file h = ap (λ first. or_else first None) h

files_more : (project : Project) (old mid new : Found) (files : List File) (all : Lists) (file : File) (imports : Vec numbers.Import Global)
    → HasFoundAll project old mid files all → ImportsFound project mid new file (Ok imports)
    → HasFoundAll project old new (files ++ file ∷ []) (all ++ imports ∷ [])
files_more project old mid new files all file imports before found =
    let met : AreMet mid.paths (imports_of_files files) = subst (λ paths. AreMet paths (imports_of_files files)) (sym before.paths) (met_fold old.paths (imports_of_files files)) in
    let kept : numbered_files new.paths files ≡ numbered_files mid.paths files =
    ap (λ paths. numbered_files paths files) found.2 ∙ numbered_files_grown mid.paths (imports_in file) files met in
    let last : imports_of_files (files ++ file ∷ []) ≡ imports_of_files files ++ imports_in file =
    flat_map-append imports_in files (file ∷ []) ∙ ap (λ rest. imports_of_files files ++ rest) (append-nil (imports_in file)) in
    record {
      none = unfound_files_more project files (file ∷ []) before.none ∙ last_none project file found.0;
      lists_are = map-append (λ (imports : Vec numbers.Import Global). imports.items) all (imports ∷ [])
          ∙ ap (λ lists. lists ++ imports.items ∷ []) (before.lists_are ∙ sym kept)
          ∙ ap (λ list. numbered_files new.paths files ++ list ∷ []) found.1
          ∙ sym (map-append (λ file. numbered new.paths (imports_in file)) files (file ∷ []));
      paths = found.2 ∙ ap (λ paths. fold with_import paths (imports_in file)) before.paths ∙ sym (fold_append old.paths (imports_of_files files) (imports_in file))
          ∙ ap (fold with_import old.paths) (sym last);
      right = found.3;
    }

pub files_next : (tree now : Option Tree) (old mid new : Found) (sources : List SourceFile) (all more : Lists) (index : ℕ) (source : SourceFile) (imports : Vec numbers.Import Global)
    → now ≡ tree → index < length sources → source ≡ get_or sources index source → more ≡ all ++ imports ∷ []
    → FindsFrontFiles tree old mid (take index sources) all → IfSome now (λ files. FindsImports files mid new source (Ok imports))
    → FindsFrontFiles tree old new (take (index + 1) sources) more
files_next None now old mid new sources all more index source imports same within is pushed before found = tt
files_next (Some files) now old mid new sources all more index source imports same within is pushed before found = λ project told right.
    let so_far = before project told right in
    let here : IfSome (Some files) (λ files. FindsImports files mid new source (Ok imports)) = subst (λ tree. IfSome tree (λ files. FindsImports files mid new source (Ok imports))) same found in
    let longer : map view_file (take (index + 1) sources) ≡ map view_file (take index sources) ++ view_file source ∷ [] =
    ap (map view_file) (take_more sources index source within ∙ ap (λ one. take index sources ++ one ∷ []) (sym is)) ∙ map-append view_file (take index sources) (source ∷ []) in
    subst (λ list. HasFoundAll project old new list more) (sym longer)
    (subst (HasFoundAll project old new (map view_file (take index sources) ++ view_file source ∷ [])) (sym pushed) (files_more project old mid new (map view_file (take index sources)) all (view_file source) imports so_far (here project told so_far.right)))

split_files : (sources : List SourceFile) (index : ℕ) (source : SourceFile) → index < length sources → source ≡ get_or sources index source
    → map view_file sources ≡ map view_file (take index sources) ++ (view_file source ∷ map view_file (drop (suc index) sources))
split_files sources index source within is =
    ap (map view_file) (sym (take-append-drop index sources) ∙ ap (λ rest. take index sources ++ rest) (drop-cons sources index source within ∙ ap (λ one. one ∷ drop (suc index) sources) (sym is)))
    ∙ map-append view_file (take index sources) (source ∷ drop (suc index) sources)

files_broken : (project : Project) (old mid new last : Found) (files more : List File) (all : Lists) (file : File) (error : LoadError)
    → HasFoundAll project old mid files all → ImportsFound project mid new file (Err error) → AllFound project old last (files ++ (file ∷ more)) (Err error)
files_broken project old mid new last files more all file (Refused place rule) before found =
    unfound_files_more project files (file ∷ more) before.none ∙ ap (λ first. or_else first (unfound project more)) found
files_broken project old mid new last files more all file ReadFault before found = tt
files_broken project old mid new last files more all file OutOfMemory before found = tt

pub file_broken : (tree now : Option Tree) (old mid new last : Found) (sources : List SourceFile) (all : Lists) (index : ℕ) (source : SourceFile) (error : LoadError)
    → now ≡ tree → index < length sources → source ≡ get_or sources index source
    → FindsFrontFiles tree old mid (take index sources) all → IfSome now (λ files. FindsImports files mid new source (Err error))
    → IfSome tree (λ files. FindsAll files old last sources (Err error))
file_broken None now old mid new last sources all index source error same within is before found = tt
file_broken (Some files) now old mid new last sources all index source error same within is before found = λ project told right.
    let so_far = before project told right in
    let here : IfSome (Some files) (λ files. FindsImports files mid new source (Err error)) = subst (λ tree. IfSome tree (λ files. FindsImports files mid new source (Err error))) same found in
    subst (λ list. AllFound project old last list (Err error)) (sym (split_files sources index source within is))
    (files_broken project old mid new last (map view_file (take index sources)) (map view_file (drop (suc index) sources)) all (view_file source) error so_far (here project told so_far.right))

pub all_found : (tree : Option Tree) (old new : Found) (sources front : List SourceFile) (all : Vec (Vec numbers.Import Global) Global) → front ≡ sources
    → FindsFrontFiles tree old new front all.items → IfSome tree (λ files. FindsAll files old new sources (Ok all))
all_found None old new sources front all whole before = tt
all_found (Some files) old new sources front all whole before = λ project told right.
    let found = subst (λ list. HasFoundAll project old new (map view_file list) all.items) whole (before project told right) in
    (found.none, found.lists_are, found.paths, found.right)

-- ---- the imports of a package

pub package_of_paths : (tree : Option Tree) (number : ℕ) (old new : Found) (sources : List SourceFile) (result : Result (Vec (Vec numbers.Import Global) Global) LoadError) (entry : Entry)
    → slice_get old.entries.items number ≡ Some entry → is_built_in (view_origin entry.origin) ≡ false
    → IfSome tree (λ files. FindsAll files old new sources result) → IfSome tree (λ files. FindsImportsOf files number old new sources result)
package_of_paths None number old new sources result entry is paths finds = tt
package_of_paths (Some files) number old new sources result entry is paths finds = λ project told right.
    let found : PackageImportsFound project old new false (map view_file sources) result = same project result (finds project told right) in
    let here : PackageImportsFound project old new (is_built_in (view_origin entry.origin)) (map view_file sources) result =
    subst (λ b. PackageImportsFound project old new b (map view_file sources) result) (sym paths) found in
    subst (λ one. IfSome one (λ entry. PackageImportsFound project old new (is_built_in (view_origin entry.origin)) (map view_file sources) result)) (sym is) here
  where
    same : (project : Project) (result : Result (Vec (Vec numbers.Import Global) Global) LoadError) → AllFound project old new (map view_file sources) result
        → PackageImportsFound project old new false (map view_file sources) result
    same project (Ok all) h = h
    same project (Err (Refused place rule)) h = h
    same project (Err ReadFault) h = tt
    same project (Err OutOfMemory) h = tt

pub package_built_in : (tree : Option Tree) (number : ℕ) (old : Found) (sources : List SourceFile) (all : Vec (Vec numbers.Import Global) Global) (entry : Entry)
    → slice_get old.entries.items number ≡ Some entry → is_built_in (view_origin entry.origin) ≡ true → listed all.items ≡ map (λ file. []) sources
    → IfSome tree (λ files. FindsImportsOf files number old old sources (Ok all))
package_built_in None number old sources all entry is built_in lists = tt
package_built_in (Some files) number old sources all entry is built_in lists = λ project told right.
    let found : PackageImportsFound project old old true (map view_file sources) (Ok all) = (refl, lists ∙ sym (nothing sources), refl, right) in
    let here : PackageImportsFound project old old (is_built_in (view_origin entry.origin)) (map view_file sources) (Ok all) =
    subst (λ b. PackageImportsFound project old old b (map view_file sources) (Ok all)) (sym built_in) found in
    subst (λ one. IfSome one (λ entry. PackageImportsFound project old old (is_built_in (view_origin entry.origin)) (map view_file sources) (Ok all))) (sym is) here
  where
    nothing : (sources : List SourceFile) → map {B = List numbers.Import} (λ (file : File). []) (map view_file sources) ≡ map {B = List numbers.Import} (λ (file : SourceFile). []) sources
    nothing [] = refl
    nothing (source ∷ sources) = ap (λ rest. [] ∷ rest) (nothing sources)
