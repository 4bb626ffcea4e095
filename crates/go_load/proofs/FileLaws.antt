-- What the reading of a package's files says, file after file.
use Rattle.std.proofs.Common.{◌≡◌, inr, ℕ, suc, ◌+◌, ◌-◌, ◌<◌, ◌≤◌, Option, Some, None, IfSome, Result, Ok, Err, List, [], ◌∷◌, ◌++◌, length, map, drop, get_or, String, Vec, string_bytes, refl, sym, ap, subst, ◌∙◌, add-one, drop-cons}
use Rattle.std.specs.List.{cons_option}
use Rattle.std.specs.declared.alloc.Global.{Global}
use Rattle.std.proofs.lemmas.List.Elements.{All-nil, All-push, All-same}
use Rattle.go_base.specs.Devices.{Tree, file_at}
use Rattle.go_base.specs.declared.line.TheConstants.{MAX_FILE_BYTES}
use Rattle.go_base.specs.declared.rule.Rule.TheVariants as rules
use Rattle.go_syntax.specs.declared.decls.FileTree.{FileTree}
use Rattle.go_sources.specs.declared.built_in.BuiltIn.{BuiltIn}
use Rattle.go_sources.specs.declared.sources.SourceFile.{SourceFile}
use Rattle.go_sources.specs.BuiltIns.{built_in_path, built_in_text}
use Rattle.go_sources.specs.Places.{place_in}
use Rattle.go_sources.specs.Sources.{IsText, AreTold}
use Rattle.go_finding.specs.declared.error.LoadError.{LoadError}
use Rattle.go_finding.specs.declared.error.LoadError.TheVariants.{Refused, ReadFault, OutOfMemory}
use Rattle.go_load.specs.FileReading.{text_of, ReadsText, ReadsPath, ReadsPaths, ReadsBuiltIn, AreOf}
use Rattle.go_finding.specs.Finding.{view_file}
use Rattle.go_finding.specs.Modules.{Broken, ReadsWhole}
use Rattle.go_finding.specs.Places.{first_place, Refuses}
use Rattle.go_finding.specs.Programs.{File, Reads, TooLarge, TooMuch, Bad, Good, with_file, ReadsAll, Ends, Stops, Continues}
use Rattle.go_finding.specs.Projects.{FileText, text_at, texts_at}
use Rattle.go_sources.specs.Reading.{HasTree}
use Rattle.go_finding.specs.Reading.{BreaksText, ReadsTree}

-- ---- one text

pub too_much : (path bytes : List ℕ) (room : ℕ) (error : LoadError) → length bytes ≤ MAX_FILE_BYTES → room < length bytes → Refuses (place_in path [] 0) rules.ProgramTooLarge error → ReadsText path bytes room (Err error)
too_much path bytes room (Refused at by) small over same = rw (same.0, same.1) (TooMuch small over)
too_much path bytes room ReadFault small over same = tt
too_much path bytes room OutOfMemory small over same = tt

pub bad_text : (path bytes those : List ℕ) (room : ℕ) (error : LoadError) → length bytes ≤ MAX_FILE_BYTES → length bytes ≤ room → those ≡ bytes → ReadsTree path those (Err error) → ReadsText path bytes room (Err error)
bad_text path bytes those room (Refused place rule) small within b breaks = Bad small within place rule (subst (λ (text : List ℕ). BreaksText path text place rule) b breaks)
bad_text path bytes those room ReadFault small within b breaks = tt
bad_text path bytes those room OutOfMemory small within b breaks = tt

pub good_text : (path bytes there those : List ℕ) (room : ℕ) (tree : FileTree) → length bytes ≤ MAX_FILE_BYTES → length bytes ≤ room → HasTree bytes tree → there ≡ path → those ≡ bytes → Reads room (text_of path bytes) (Ok (record { path = there; bytes = those; tree = tree }))
good_text path bytes there those room tree small within fine p b = rw (p, b) (Good small within tree fine)

-- ---- the file at one path

pub whole_refused : (tree : Option Tree) (path : List ℕ) (room : ℕ) (error : LoadError) → IfSome tree (λ files. ReadsWhole files path (Err error)) → IfSome tree (λ files. ReadsPath files path room (Err error))
whole_refused None path room error answer = tt
whole_refused (Some files) path room (Refused place rule) answer =
    let large : Reads room (text_of path answer.0) (Err (record { place = first_place path; rule = rules.FileTooLarge })) = TooLarge answer.2 in
    (answer.0, answer.1, rw (answer.3, answer.4) large)
whole_refused (Some files) path room ReadFault answer = tt
whole_refused (Some files) path room OutOfMemory answer = tt

pub text_refused : (tree : Option Tree) (path : List ℕ) (room : ℕ) (found : Option (Vec ℕ Global)) (bytes : Vec ℕ Global) (error : LoadError) → found ≡ Some bytes → IfSome tree (λ files. ReadsWhole files path (Ok found)) → ReadsText path bytes.items room (Err error) → IfSome tree (λ files. ReadsPath files path room (Err error))
text_refused None path room found bytes error f there reads = tt
text_refused (Some files) path room found bytes (Refused place rule) f there reads =
    let here : ReadsWhole files path (Ok (Some bytes)) = subst (λ (o : Option (Vec ℕ Global)). ReadsWhole files path (Ok o)) f there in
    (bytes.items, here, reads)
text_refused (Some files) path room found bytes ReadFault f there reads = tt
text_refused (Some files) path room found bytes OutOfMemory f there reads = tt

-- ---- files before others

abbrev pub with_files : List File → Result (List File) Broken → Result (List File) Broken
with_files [] rest = rest
with_files (file ∷ files) rest = with_file file (with_files files rest)

with_files-push : (files : List File) (file : File) (rest : Result (List File) Broken) → with_files (files ++ file ∷ []) rest ≡ with_files files (with_file file rest)
with_files-push [] file rest = refl
with_files-push (one ∷ files) file rest = ap (with_file one) (with_files-push files file rest)

with_files-none : (files : List File) → with_files files (Ok []) ≡ Ok files
with_files-none [] = refl
with_files-none (file ∷ files) = ap (with_file file) (with_files-none files)

with_files-broken : (files : List File) (broken : Broken) → with_files files (Err broken) ≡ Err broken
with_files-broken [] broken = refl
with_files-broken (file ∷ files) broken = ap (with_file file) (with_files-broken files broken)

view_file-push : (sources : List SourceFile) (source : SourceFile) → map view_file (sources ++ source ∷ []) ≡ map view_file sources ++ view_file source ∷ []
view_file-push [] source = refl
view_file-push (one ∷ sources) source = ap (λ (files : List File). view_file one ∷ files) (view_file-push sources source)

-- ---- the files at the paths from an index on

abbrev pub texts_from : Tree → List (String Global) → ℕ → List FileText
texts_from files paths index = texts_at files (map string_bytes (drop index paths))

-- what is read of the paths from an index on, with these files before it, is what is read of all
abbrev pub ReadsBehind : Tree → List (String Global) → ℕ → ℕ → ℕ → List SourceFile → Type 0
ReadsBehind files paths room left index sources =
    (rest : Result (List File) Broken) → ReadsAll left (texts_from files paths index) rest
    → ReadsAll room (texts_at files (map string_bytes paths)) (with_files (map view_file sources) rest)

texts_next : (files : Tree) (paths : List (String Global)) (index : ℕ) (path : String Global) → index < length paths → path ≡ get_or paths index path → texts_from files paths index ≡ cons_option (text_at files (string_bytes path)) (texts_from files paths (index + 1))
texts_next files paths index path h e =
    let here : drop index paths ≡ path ∷ drop (index + 1) paths = rw add-one (drop-cons paths index path h ∙ ap (λ (one : String Global). one ∷ drop (suc index) paths) (sym e)) in
    ap (λ (these : List (String Global)). texts_at files (map string_bytes these)) here

text_absent : (files : Tree) (path : List ℕ) (texts : List FileText) → file_at files path ≡ None → cons_option (text_at files path) texts ≡ texts
text_absent files path texts e = rw e refl

text_there : (files : Tree) (path bytes : List ℕ) (texts : List FileText) → file_at files path ≡ Some bytes → cons_option (text_at files path) texts ≡ text_of path bytes ∷ texts
text_there files path bytes texts e = rw e refl

absent_next : (files : Tree) (paths : List (String Global)) (room left index : ℕ) (sources : List SourceFile) (path : String Global) → index < length paths → path ≡ get_or paths index path → file_at files (string_bytes path) ≡ None → ReadsBehind files paths room left index sources → ReadsBehind files paths room left (index + 1) sources
absent_next files paths room left index sources path h e none behind = λ rest reads.
    let same : texts_from files paths index ≡ texts_from files paths (index + 1) = texts_next files paths index path h e ∙ text_absent files (string_bytes path) (texts_from files paths (index + 1)) none in
    behind rest (subst (λ (texts : List FileText). ReadsAll left texts rest) (sym same) reads)

texts_with : (files : Tree) (paths : List (String Global)) (index : ℕ) (path : String Global) (bytes : List ℕ) → index < length paths → path ≡ get_or paths index path → file_at files (string_bytes path) ≡ Some bytes → texts_from files paths index ≡ text_of (string_bytes path) bytes ∷ texts_from files paths (index + 1)
texts_with files paths index path bytes h e there =
    texts_next files paths index path h e ∙ text_there files (string_bytes path) bytes (texts_from files paths (index + 1)) there

read_next : (files : Tree) (paths : List (String Global)) (room left index : ℕ) (sources : List SourceFile) (path : String Global) (source : SourceFile) → index < length paths → path ≡ get_or paths index path → file_at files (string_bytes path) ≡ Some source.bytes → Reads left (text_of (string_bytes path) source.bytes) (Ok (view_file source)) → ReadsBehind files paths room left index sources → ReadsBehind files paths room (left - length source.bytes) (index + 1) (sources ++ source ∷ [])
read_next files paths room left index sources path source h e there reads behind = λ rest more.
    let text : FileText = text_of (string_bytes path) source.bytes in
    let file : File = view_file source in
    let texts : List FileText = texts_from files paths (index + 1) in
    let goes : ReadsAll left (text ∷ texts) (with_file file rest) = Continues left text texts file rest reads more in
    let here : ReadsAll left (texts_from files paths index) (with_file file rest) =
    subst (λ (these : List FileText). ReadsAll left these (with_file file rest)) (sym (texts_with files paths index path source.bytes h e there)) goes in
    let same : with_files (map view_file sources) (with_file file rest) ≡ with_files (map view_file (sources ++ source ∷ [])) rest =
    sym (ap (λ (all : List File). with_files all rest) (view_file-push sources source) ∙ with_files-push (map view_file sources) file rest) in
    subst (ReadsAll room (texts_at files (map string_bytes paths))) same (behind (with_file file rest) here)

stops_here : (files : Tree) (paths : List (String Global)) (room left index : ℕ) (sources : List SourceFile) (path : String Global) (bytes : List ℕ) (broken : Broken) → index < length paths → path ≡ get_or paths index path → file_at files (string_bytes path) ≡ Some bytes → Reads left (text_of (string_bytes path) bytes) (Err broken) → ReadsBehind files paths room left index sources → ReadsAll room (texts_at files (map string_bytes paths)) (Err broken)
stops_here files paths room left index sources path bytes broken h e there reads behind =
    let text : FileText = text_of (string_bytes path) bytes in
    let texts : List FileText = texts_from files paths (index + 1) in
    let stops : ReadsAll left (text ∷ texts) (Err broken) = Stops left text texts broken reads in
    let here : ReadsAll left (texts_from files paths index) (Err broken) =
    subst (λ (these : List FileText). ReadsAll left these (Err broken)) (sym (texts_with files paths index path bytes h e there)) stops in
    subst (ReadsAll room (texts_at files (map string_bytes paths))) (with_files-broken (map view_file sources) broken) (behind (Err broken) here)

ends_here : (files : Tree) (paths : List (String Global)) (room left index : ℕ) (sources : List SourceFile) → drop index paths ≡ [] → ReadsBehind files paths room left index sources → ReadsAll room (texts_at files (map string_bytes paths)) (Ok (map view_file sources))
ends_here files paths room left index sources e behind =
    let here : ReadsAll left (texts_from files paths index) (Ok []) = rw e (Ends left) in
    subst (ReadsAll room (texts_at files (map string_bytes paths))) (with_files-none (map view_file sources)) (behind (Ok []) here)

-- ---- where files are told

-- the answer at a path, where files are told
abbrev pub TellsPath : Option Tree → List ℕ → ℕ → Result (Option SourceFile) LoadError → Type 0
TellsPath tree path room result = IfSome tree (λ files. ReadsPath files path room result)

abbrev pub TellsBehind : Option Tree → List (String Global) → ℕ → ℕ → ℕ → List SourceFile → Type 0
TellsBehind tree paths room left index sources = IfSome tree (λ files. ReadsBehind files paths room left index sources)

pub tells_first : (tree : Option Tree) (paths : List (String Global)) (room : ℕ) → TellsBehind tree paths room room 0 []
tells_first None paths room = tt
tells_first (Some files) paths room = λ rest reads. reads

moved : (tree now : Option Tree) (path text : List ℕ) (room : ℕ) (result other : Result (Option SourceFile) LoadError) → now ≡ tree → text ≡ path → result ≡ other → TellsPath now text room result → TellsPath tree path room other
moved tree now path text room result other t x r told =
    subst (λ (one : Result (Option SourceFile) LoadError). TellsPath tree path room one) r
    (subst (λ (one : List ℕ). TellsPath tree one room result) x (subst (λ (one : Option Tree). TellsPath one text room result) t told))

found_is : (found other : Option SourceFile) → found ≡ other → ◌≡◌ {A = Result (Option SourceFile) LoadError} (Ok found) (Ok other)
found_is found other f = ap (λ (one : Option SourceFile). Ok one) f

pub tells_absent : (tree now : Option Tree) (paths : List (String Global)) (room left index : ℕ) (sources : List SourceFile) (path : String Global) (text : List ℕ) (found : Option SourceFile) → now ≡ tree → text ≡ string_bytes path → found ≡ None → index < length paths → path ≡ get_or paths index path → TellsPath now text left (Ok found) → TellsBehind tree paths room left index sources → TellsBehind tree paths room left (index + 1) sources
tells_absent None now paths room left index sources path text found t x f h e answer behind = tt
tells_absent (Some files) now paths room left index sources path text found t x f h e answer behind =
    absent_next files paths room left index sources path h e (moved (Some files) now (string_bytes path) text left (Ok found) (Ok None) t x (found_is found None f) answer) behind

pub tells_read : (tree now : Option Tree) (paths : List (String Global)) (room left rest index : ℕ) (sources all : List SourceFile) (path : String Global) (text : List ℕ) (found : Option SourceFile) (source : SourceFile) → now ≡ tree → text ≡ string_bytes path → found ≡ Some source → index < length paths → path ≡ get_or paths index path → TellsPath now text left (Ok found) → all ≡ sources ++ source ∷ [] → rest ≡ left - length source.bytes → TellsBehind tree paths room left index sources → TellsBehind tree paths room rest (index + 1) all
tells_read None now paths room left rest index sources all path text found source t x f h e answer a r behind = tt
tells_read (Some files) now paths room left rest index sources all path text found source t x f h e answer a r behind =
    let told : TellsPath (Some files) (string_bytes path) left (Ok (Some source)) = moved (Some files) now (string_bytes path) text left (Ok found) (Ok (Some source)) t x (found_is found (Some source) f) answer in
    subst (λ (n : ℕ). ReadsBehind files paths room n (index + 1) all) (sym r)
    (subst (λ (these : List SourceFile). ReadsBehind files paths room (left - length source.bytes) (index + 1) these) (sym a) (read_next files paths room left index sources path source h e told.0 told.2 behind))

pub tells_stop : (tree now : Option Tree) (paths : List (String Global)) (room left index : ℕ) (sources : List SourceFile) (path : String Global) (text : List ℕ) (error : LoadError) → now ≡ tree → text ≡ string_bytes path → index < length paths → path ≡ get_or paths index path → TellsPath now text left (Err error) → TellsBehind tree paths room left index sources → IfSome tree (λ files. ReadsPaths files paths room (Err error))
tells_stop None now paths room left index sources path text error t x h e answer behind = tt
tells_stop (Some files) now paths room left index sources path text (Refused place rule) t x h e answer behind =
    let told : TellsPath (Some files) (string_bytes path) left (Err (Refused place rule)) = moved (Some files) now (string_bytes path) text left (Err (Refused place rule)) (Err (Refused place rule)) t x refl answer in
    stops_here files paths room left index sources path told.0 (record { place = place; rule = rule }) h e told.1 told.2 behind
tells_stop (Some files) now paths room left index sources path text ReadFault t x h e answer behind = tt
tells_stop (Some files) now paths room left index sources path text OutOfMemory t x h e answer behind = tt

pub tells_all : (tree : Option Tree) (paths : List (String Global)) (room left index : ℕ) (sources : Vec SourceFile Global) → drop index paths ≡ [] → TellsBehind tree paths room left index sources.items → IfSome tree (λ files. ReadsPaths files paths room (Ok sources))
tells_all None paths room left index sources e behind = tt
tells_all (Some files) paths room left index sources e behind = ends_here files paths room left index sources.items e behind

-- one more file is told, and is of the package

pub told_next : (tree now : Option Tree) (sources all : List SourceFile) (found : Option SourceFile) (source : SourceFile) → now ≡ tree → found ≡ Some source → IfSome found (λ source. IsText now source.path source.bytes) → all ≡ sources ++ source ∷ [] → AreTold tree sources → AreTold tree all
told_next tree now sources all found source t f text a told =
    let one : IsText now source.path source.bytes = subst (λ (o : Option SourceFile). IfSome o (λ (one : SourceFile). IsText now one.path one.bytes)) f text in
    let here : IsText tree source.path source.bytes = subst (λ (o : Option Tree). IsText o source.path source.bytes) t one in
    All-same (λ (file : SourceFile). IsText tree file.path file.bytes) all (sources ++ source ∷ []) a (All-push (λ (file : SourceFile). IsText tree file.path file.bytes) sources source told here)

pub of_next : (number : ℕ) (sources all : List SourceFile) (found : Option SourceFile) (source : SourceFile) → found ≡ Some source → IfSome found (λ source. source.package ≡ number) → all ≡ sources ++ source ∷ [] → AreOf number sources → AreOf number all
of_next number sources all found source f one a of =
    All-same (λ (file : SourceFile). file.package ≡ number) all (sources ++ source ∷ []) a
    (All-push (λ (file : SourceFile). file.package ≡ number) sources source of (subst (λ (o : Option SourceFile). IfSome o (λ (one : SourceFile). one.package ≡ number)) f one))

-- ---- built-in packages

pub built_in_read : (built_in : BuiltIn) (path text : List ℕ) (source : SourceFile) (sources : Vec SourceFile Global) → path ≡ built_in_path built_in → text ≡ built_in_text built_in → ReadsText path text MAX_FILE_BYTES (Ok source) → sources.items ≡ source ∷ [] → ReadsBuiltIn built_in (Ok sources)
built_in_read built_in path text source sources p x reads s =
    let here : Reads MAX_FILE_BYTES (text_of (built_in_path built_in) (built_in_text built_in)) (Ok (view_file source)) =
    subst (λ (bytes : List ℕ). Reads MAX_FILE_BYTES (text_of (built_in_path built_in) bytes) (Ok (view_file source))) x (subst (λ (name : List ℕ). Reads MAX_FILE_BYTES (text_of name text) (Ok (view_file source))) p reads) in
    let all : ReadsAll MAX_FILE_BYTES (text_of (built_in_path built_in) (built_in_text built_in) ∷ []) (Ok (view_file source ∷ [])) =
    Continues MAX_FILE_BYTES (text_of (built_in_path built_in) (built_in_text built_in)) [] (view_file source) (Ok []) here (Ends (MAX_FILE_BYTES - length (built_in_text built_in))) in
    subst (λ (these : List SourceFile). ReadsAll MAX_FILE_BYTES (text_of (built_in_path built_in) (built_in_text built_in) ∷ []) (Ok (map view_file these))) (sym s) all

pub built_in_refused : (built_in : BuiltIn) (path text : List ℕ) (error : LoadError) → path ≡ built_in_path built_in → text ≡ built_in_text built_in → ReadsText path text MAX_FILE_BYTES (Err error) → ReadsBuiltIn built_in (Err error)
built_in_refused built_in path text (Refused place rule) p x reads =
    let broken : Broken = record { place = place; rule = rule } in
    let here : Reads MAX_FILE_BYTES (text_of (built_in_path built_in) (built_in_text built_in)) (Err broken) =
    subst (λ (bytes : List ℕ). Reads MAX_FILE_BYTES (text_of (built_in_path built_in) bytes) (Err broken)) x (subst (λ (name : List ℕ). Reads MAX_FILE_BYTES (text_of name text) (Err broken)) p reads) in
    Stops MAX_FILE_BYTES (text_of (built_in_path built_in) (built_in_text built_in)) [] broken here
built_in_refused built_in path text ReadFault p x reads = tt
built_in_refused built_in path text OutOfMemory p x reads = tt

pub built_in_told : (built_in : BuiltIn) (path text : List ℕ) (source : SourceFile) (sources : List SourceFile) → path ≡ built_in_path built_in → text ≡ built_in_text built_in → source.path ≡ path → source.bytes ≡ text → sources ≡ source ∷ [] → (files : Option Tree) → AreTold files sources
built_in_told built_in path text source sources p x sp sb s files =
    All-same (λ (file : SourceFile). IsText files file.path file.bytes) sources ([] ++ source ∷ []) s
    (All-push (λ (file : SourceFile). IsText files file.path file.bytes) [] source (All-nil (λ (file : SourceFile). IsText files file.path file.bytes)) (inr (built_in, sp ∙ p, sb ∙ x)))

pub built_in_of : (number : ℕ) (source : SourceFile) (sources : List SourceFile) → source.package ≡ number → sources ≡ source ∷ [] → AreOf number sources
built_in_of number source sources one s =
    All-same (λ (file : SourceFile). file.package ≡ number) sources ([] ++ source ∷ []) s
    (All-push (λ (file : SourceFile). file.package ≡ number) [] source (All-nil (λ (file : SourceFile). file.package ≡ number)) one)
