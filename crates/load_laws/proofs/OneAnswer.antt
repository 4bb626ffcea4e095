-- Where files are told, the answer for a target is one.
use Rattle.std.proofs.Common.{◌≡◌, inl, inr, ℕ, suc, ◌+◌, Bool, true, false, List, [], ◌∷◌, ◌++◌, length, map, if◌then◌else◌, codes, ◌&&◌, ◌==◌, Result, Ok, Err, refl, sym, ap, subst, ◌∙◌}
use Rattle.std.specs.List.{AllZip}
use Rattle.go_base.specs.Devices.{Tree}
use Rattle.go_base.specs.declared.target.Target.{Target}
use Rattle.load_laws.proofs.OneProject.{one_project, one_bad_module, bad_or_project}
use Rattle.go_load.specs.Answers.{BreaksFirst, IsSourcesOf, AreSourcesOf, IsAnswer, IsAnswerIn}
use Rattle.go_finding.specs.Finding.{numbered, numbered_files}
use Rattle.go_finding.specs.Imports.{Import}
use Rattle.go_load.specs.Loading.{view_source, files_from, headers_from, header}
use Rattle.go_finding.specs.Linking.{broken, imports_of_each, all_imports}
use Rattle.go_finding.specs.Modules.{Broken}
use Rattle.load_laws.specs.OneReading.{IsSameFile, AreSameFiles}
use Rattle.go_finding.specs.Programs.{File, Package, IsResult, known, are_program, imports_in}
use Rattle.go_finding.specs.Projects.{Project}
use Rattle.go_finding.specs.declared.error.LoadError.{LoadError}
use Rattle.go_finding.specs.declared.error.LoadError.TheVariants.{Refused, ReadFault, OutOfMemory}
use Rattle.go_sources.specs.Sources.{files_of}
use Rattle.go_sources.specs.declared.program.Sources.{Sources}
use Rattle.go_sources.specs.declared.sources.Import as numbers
use Rattle.go_sources.specs.declared.sources.SourceFile.{SourceFile}
use Rattle.go_sources.specs.declared.sources.SourcePackage.{SourcePackage}
use Rattle.load_laws.proofs.OneResult.{one_result}
use Rattle.load_laws.proofs.SameFiles.{same_imports}
use Rattle.load_laws.proofs.SamePackages.{same_known, same_program}
use Rattle.load_laws.specs.OneAnswer.{IsSamePackage, AreSamePackages, IsSameSource, AreSameSources, IsSameAnswer}

-- ---- programs

append_zip : {A : Type 0} (R : A → A → Type 0) (a b c d : List A) → AllZip R a b → AllZip R c d → AllZip R (a ++ c) (b ++ d)
append_zip R [] [] c d h k = k
append_zip R [] (y ∷ b) c d h k = absurd h
append_zip R (x ∷ a) [] c d h k = absurd h
append_zip R (x ∷ a) (y ∷ b) c d h k = (h.0, append_zip R a b c d h.1 k)

-- a file and the number of its package
abbrev IsSamePlaced : File × ℕ → File × ℕ → Type 0
IsSamePlaced a b = IsSameFile a.0 b.0 × (a.1 ≡ b.1)

abbrev placed : ℕ → File → File × ℕ
placed number file = (file, number)

place_files : (number : ℕ) (a b : List File) → AreSameFiles a b → AllZip IsSamePlaced (map (placed number) a) (map (placed number) b)
place_files number [] [] h = tt
place_files number [] (y ∷ b) h = absurd h
place_files number (x ∷ a) [] h = absurd h
place_files number (x ∷ a) (y ∷ b) h = ((h.0, refl), place_files number a b h.1)

same_files_from : (number : ℕ) (a b : List Package) → AreSamePackages a b → AllZip IsSamePlaced (files_from number a) (files_from number b)
same_files_from number [] [] h = tt
same_files_from number [] (y ∷ b) h = absurd h
same_files_from number (x ∷ a) [] h = absurd h
same_files_from number (x ∷ a) (y ∷ b) h =
    append_zip IsSamePlaced (map (placed number) x.files) (map (placed number) y.files) (files_from (number + 1) a) (files_from (number + 1) b)
    (place_files number x.files y.files h.0.files)
    (same_files_from (number + 1) a b h.1)

seen_sources : (a b : List SourceFile) → AllZip IsSamePlaced (map view_source a) (map view_source b) → AllZip IsSameSource a b
seen_sources [] [] h = tt
seen_sources [] (y ∷ b) h = absurd h
seen_sources (x ∷ a) [] h = absurd h
seen_sources (x ∷ a) (y ∷ b) h =
    (record { path = h.0.0.path; bytes = h.0.0.bytes; tree = h.0.0.tree; number = h.0.1 }, seen_sources a b h.1)

same_count : (a b : List File) → AreSameFiles a b → length a ≡ length b
same_count [] [] h = refl
same_count [] (y ∷ b) h = absurd h
same_count (x ∷ a) [] h = absurd h
same_count (x ∷ a) (y ∷ b) h = ap suc (same_count a b h.1)

abbrev header_with : ℕ → ℕ → List ℕ → Bool → Bool → SourcePackage
header_with number first path program built_in =
    record { path = path; label = if (number == 0) && program then codes "main" else path; built_in = built_in; first_file = first }

same_header : (number first : ℕ) (x y : Package) → IsSamePackage x y → header number first x ≡ header number first y
same_header number first x y h =
    ap (λ (path : List ℕ). header_with number first path (are_program x.files) x.built_in) h.path
    ∙ ap (λ (program : Bool). header_with number first y.path program x.built_in) (same_program x.files y.files h.files)
    ∙ ap (header_with number first y.path (are_program y.files)) h.built_in

same_headers : (number first : ℕ) (a b : List Package) → AreSamePackages a b → headers_from number first a ≡ headers_from number first b
same_headers number first [] [] h = refl
same_headers number first [] (y ∷ b) h = absurd h
same_headers number first (x ∷ a) [] h = absurd h
same_headers number first (x ∷ a) (y ∷ b) h =
    ap (λ (one : SourcePackage). one ∷ headers_from (number + 1) (first + length x.files) a) (same_header number first x y h.0)
    ∙ ap (λ (n : ℕ). header number first y ∷ headers_from (number + 1) (first + n) a) (same_count x.files y.files h.0.files)
    ∙ ap (λ (all : List SourcePackage). header number first y ∷ all) (same_headers (number + 1) (first + length y.files) a b h.1)

abbrev nothing_in : File → List numbers.Import
nothing_in file = []

same_nothing : (a b : List File) → AreSameFiles a b → map nothing_in a ≡ map nothing_in b
same_nothing [] [] h = refl
same_nothing [] (y ∷ b) h = absurd h
same_nothing (x ∷ a) [] h = absurd h
same_nothing (x ∷ a) (y ∷ b) h = ap (λ (all : List (List numbers.Import)). [] ∷ all) (same_nothing a b h.1)

same_numbered : (paths : List (List ℕ)) (a b : List File) → AreSameFiles a b → numbered_files paths a ≡ numbered_files paths b
same_numbered paths [] [] h = refl
same_numbered paths [] (y ∷ b) h = absurd h
same_numbered paths (x ∷ a) [] h = absurd h
same_numbered paths (x ∷ a) (y ∷ b) h =
    ap (λ (imports : List Import). numbered paths imports ∷ numbered_files paths a) (same_imports x y h.0)
    ∙ ap (λ (all : List (List numbers.Import)). numbered paths (imports_in y) ∷ all) (same_numbered paths a b h.1)

abbrev each_with : List (List ℕ) → Bool → List File → List (List numbers.Import)
each_with paths built_in files = if built_in then map (λ file. []) files else numbered_files paths files

same_each_with : (paths : List (List ℕ)) (built_in : Bool) (a b : List File) → AreSameFiles a b → each_with paths built_in a ≡ each_with paths built_in b
same_each_with paths true a b h = same_nothing a b h
same_each_with paths false a b h = same_numbered paths a b h

same_each : (paths : List (List ℕ)) (x y : Package) → IsSamePackage x y → imports_of_each paths x ≡ imports_of_each paths y
same_each paths x y h =
    same_each_with paths x.built_in x.files y.files h.files ∙ ap (λ (built_in : Bool). each_with paths built_in y.files) h.built_in

same_all_imports : (paths : List (List ℕ)) (a b : List Package) → AreSamePackages a b → all_imports paths a ≡ all_imports paths b
same_all_imports paths [] [] h = refl
same_all_imports paths [] (y ∷ b) h = absurd h
same_all_imports paths (x ∷ a) [] h = absurd h
same_all_imports paths (x ∷ a) (y ∷ b) h =
    ap (λ (all : List (List numbers.Import)). all ++ all_imports paths a) (same_each paths x y h.0)
    ∙ ap (λ (all : List (List numbers.Import)). imports_of_each paths y ++ all) (same_all_imports paths a b h.1)

same_sources : (project : Project) (p q : List Package) (a b : Sources) → AreSamePackages p q → IsSourcesOf project p a → IsSourcesOf project q b → AreSameSources a b
same_sources project p q a b same h k =
    let placed : AllZip IsSamePlaced (map view_source (files_of a)) (map view_source (files_of b)) =
    subst (λ (all : List (File × ℕ)). AllZip IsSamePlaced all (map view_source (files_of b))) (sym h.files)
    (subst (AllZip IsSamePlaced (files_from 0 p)) (sym k.files) (same_files_from 0 p q same)) in
    record {
      files = seen_sources (files_of a) (files_of b) placed;
      packages = h.headers ∙ same_headers 0 0 p q same ∙ sym k.headers;
      imports =
          h.imports ∙ ap (λ (paths : List (List ℕ)). all_imports paths p) (same_known project p q same)
          ∙ same_all_imports (known project q) p q same ∙ sym k.imports;
      minor = h.minor ∙ sym k.minor;
    }

-- ---- answers

never_ok : {P : Type 0} (project other : Project) (packages : List Package) (bad : Broken) → project ≡ other → IsResult project (Ok packages) → IsResult other (Err bad) → P
never_ok project other packages bad e h k = absurd (one_result other (Ok packages) (Err bad) (subst (λ (p : Project). IsResult p (Ok packages)) e h) k)

loaded_or_broken : (files : Tree) (target : Target) (limit : ℕ) (sources : Sources) (bad : Broken) → AreSourcesOf files target limit sources → BreaksFirst files target limit bad → ⊥
loaded_or_broken files target limit sources bad h (inl k) = bad_or_project files target limit bad h.project k h.project_is
loaded_or_broken files target limit sources bad h (inr k) =
    never_ok h.project k.project h.packages bad (one_project files target limit h.project k.project h.project_is k.project_is) h.result k.result

one_first : (files : Tree) (target : Target) (limit : ℕ) (a b : Broken) → BreaksFirst files target limit a → BreaksFirst files target limit b → a ≡ b
one_first files target limit a b (inl h) (inl k) = one_bad_module files target a b h k
one_first files target limit a b (inl h) (inr k) = absurd (bad_or_project files target limit a k.project h k.project_is)
one_first files target limit a b (inr h) (inl k) = absurd (bad_or_project files target limit b h.project k h.project_is)
one_first files target limit a b (inr h) (inr k) =
    let e : h.project ≡ k.project = one_project files target limit h.project k.project h.project_is k.project_is in
    one_result k.project (Err a) (Err b) (subst (λ (p : Project). IsResult p (Err a)) e h.result) k.result

one_program : (files : Tree) (target : Target) (limit : ℕ) (a b : Sources) → AreSourcesOf files target limit a → AreSourcesOf files target limit b → AreSameSources a b
one_program files target limit a b h k =
    let e : h.project ≡ k.project = one_project files target limit h.project k.project h.project_is k.project_is in
    let result : IsResult k.project (Ok h.packages) = subst (λ (p : Project). IsResult p (Ok h.packages)) e h.result in
    let sources : IsSourcesOf k.project h.packages a = subst (λ (p : Project). IsSourcesOf p h.packages a) e h.sources_are in
    same_sources k.project h.packages k.packages a b (one_result k.project (Ok h.packages) (Ok k.packages) result k.result) sources k.sources_are

pub one_answer : (files : Tree) (target : Target) (limit : ℕ) (a b : Result Sources LoadError) → IsAnswer files target limit a → IsAnswer files target limit b → IsSameAnswer a b
one_answer files target limit (Ok a) (Ok b) h k = one_program files target limit a b h k
one_answer files target limit (Ok a) (Err (Refused place rule)) h k = loaded_or_broken files target limit a (broken place rule) h k
one_answer files target limit (Ok a) (Err ReadFault) h k = tt
one_answer files target limit (Ok a) (Err OutOfMemory) h k = tt
one_answer files target limit (Err (Refused place rule)) (Ok b) h k = loaded_or_broken files target limit b (broken place rule) k h
one_answer files target limit (Err (Refused place rule)) (Err (Refused at by)) h k =
    let e : broken place rule ≡ broken at by = one_first files target limit (broken place rule) (broken at by) h k in
    (ap (λ (spot : Broken). spot.place) e, ap (λ (spot : Broken). spot.rule) e)
one_answer files target limit (Err (Refused place rule)) (Err ReadFault) h k = tt
one_answer files target limit (Err (Refused place rule)) (Err OutOfMemory) h k = tt
one_answer files target limit (Err ReadFault) b h k = tt
one_answer files target limit (Err OutOfMemory) b h k = tt

pub one_answer_in : (project : Project) (a b : Result Sources LoadError) → IsAnswerIn project a → IsAnswerIn project b → IsSameAnswer a b
one_answer_in project (Ok a) (Ok b) h k = same_sources project h.0 k.0 a b (one_result project (Ok h.0) (Ok k.0) h.1 k.1) h.2 k.2
one_answer_in project (Ok a) (Err (Refused place rule)) h k = never_ok project project h.0 (broken place rule) refl h.1 k
one_answer_in project (Ok a) (Err ReadFault) h k = tt
one_answer_in project (Ok a) (Err OutOfMemory) h k = tt
one_answer_in project (Err (Refused place rule)) (Ok b) h k = never_ok project project k.0 (broken place rule) refl k.1 h
one_answer_in project (Err (Refused place rule)) (Err (Refused at by)) h k =
    let e : broken place rule ≡ broken at by = one_result project (Err (broken place rule)) (Err (broken at by)) h k in
    (ap (λ (spot : Broken). spot.place) e, ap (λ (spot : Broken). spot.rule) e)
one_answer_in project (Err (Refused place rule)) (Err ReadFault) h k = tt
one_answer_in project (Err (Refused place rule)) (Err OutOfMemory) h k = tt
one_answer_in project (Err ReadFault) b h k = tt
one_answer_in project (Err OutOfMemory) b h k = tt
