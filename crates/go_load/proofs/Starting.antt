-- The target is found, and what is loaded from there.
use Rattle.std.proofs.Common.{◌≡◌, ℕ, zero, suc, ◌-◌, List, [], ◌∷◌, map, Option, Some, None, option_map, IfSome, Result, Ok, Err, Vec, String, string_bytes, slice_get, inl, inr, refl, sym, ap, ◌∙◌, subst, arith}
use Rattle.std.specs.List.{AllZip}
use Rattle.std.specs.declared.alloc.Global.{Global}
use Rattle.go_base.specs.Devices.{Tree}
use Rattle.go_base.specs.declared.target.Target.{Target}
use Rattle.go_base.specs.declared.target.Target.TheVariants as targets
use Rattle.go_sources.specs.declared.program.Sources.{Sources}
use Rattle.go_sources.specs.Sources.{AreTold, files_of}
use Rattle.go_finding.specs.declared.error.LoadError.{LoadError}
use Rattle.go_finding.specs.declared.error.LoadError.TheVariants.{Refused, ReadFault, OutOfMemory}
use Rattle.go_finding.specs.declared.find_module.Module as modules
use Rattle.go_finding.specs.declared.found.Entry.{Entry}
use Rattle.go_finding.specs.declared.found.Found.{Found}
use Rattle.go_finding.specs.declared.links.Link.{Link}
use Rattle.go_load.specs.declared.loader.Loader.{Loader}
use Rattle.go_load.specs.Answers.{max_program_bytes, sound_module, HasStopped, IsAnswer, IsAnswerIn, IsLoaded, IsProjectOf}
use Rattle.go_finding.specs.Finding.{listed, view_origin, AreRight, BeginsWith, IsRightAt}
use Rattle.go_finding.specs.GoPaths.{ListsGoPaths}
use Rattle.go_load.specs.Loading.{view_source, IsAt, IsLink}
use Rattle.go_finding.specs.Modules.{view_module, AnswersModule, Governs, IsTargetDir}
use Rattle.go_finding.specs.Programs.{Nothing, path_asked}
use Rattle.go_finding.specs.Projects.{Project, Paths, IsOriginOfTarget, path_of_target, target_path}
use Rattle.go_finding.specs.Refusals.{Stops}
use Rattle.go_load.specs.Starting.{project_with, AnswersProject, BeginsProject, FindsTarget, Finishes, ListsTarget}

-- ---- the files of the target

pub lists_dir : (tree : Option Tree) (target : Target) (dir seen : List ℕ) (result : Result (Vec (String Global) Global) LoadError) → target ≡ targets.Dir dir → seen ≡ dir → IfSome tree (λ files. ListsGoPaths files seen result) → IfSome tree (λ files. ListsTarget files target result)
lists_dir None target dir seen result e s h = tt
lists_dir (Some files) target dir seen result e s h = subst (λ t. ListsTarget files t result) (sym e) (go result (subst (λ d. ListsGoPaths files d result) s h))
  where
    go : (result : Result (Vec (String Global) Global) LoadError) → ListsGoPaths files dir result → ListsTarget files (targets.Dir dir) result
    go (Ok paths) h = h
    go (Err (Refused place rule)) h = h
    go (Err ReadFault) h = tt
    go (Err OutOfMemory) h = tt

pub lists_file : (tree : Option Tree) (target : Target) (file seen : List ℕ) (one : String Global) (paths : Vec (String Global) Global) → target ≡ targets.File file → seen ≡ file → string_bytes one ≡ seen → paths.items ≡ one ∷ [] → IfSome tree (λ files. ListsTarget files target (Ok paths))
lists_file None target file seen one paths e s b p = tt
lists_file (Some files) target file seen one paths e s b p =
    subst (λ t. ListsTarget files t (Ok paths)) (sym e) (ap (map string_bytes) p ∙ ap (λ path. path ∷ []) (b ∙ s))

-- ---- the package of the target

begins : (project : Project) (found : Found) (root : Option modules.Module) (path : List ℕ) (files : Vec (String Global) Global) → project.root ≡ option_map view_module root → path ≡ target_path project → IsOriginOfTarget project.files project.target (Paths (map string_bytes files.items)) → BeginsWith root path files found → BeginsProject project found
begins project found root path files r p origin b = record {
  right = record {
    root = ap (option_map view_module) b.same ∙ sym r;
    paths = b.paths ∙ ap (λ q. q ∷ []) (sym b.path_is) ∙ sym (ap (map (λ (entry : Entry). string_bytes entry.path)) b.entries);
    target = ap (λ ps. slice_get ps 0) b.paths ∙ ap Some p;
    entries = λ index. subst (λ (entries : List Entry). IfSome (slice_get entries index) (IsRightAt project index)) (sym b.entries) (at index);
  };
  paths = b.paths ∙ ap (λ q. q ∷ []) p;
}
  where
    at : (index : ℕ) → IfSome (slice_get (b.entry ∷ []) index) (IsRightAt project index)
    at zero = record { origin = subst (λ o. IsOriginOfTarget project.files project.target (view_origin o)) (sym b.origin) origin; asked = b.asker }
    at (suc index) = tt

pub finds_target : (tree : Option Tree) (root : Option modules.Module) (target : Target) (paths : Vec (String Global) Global) (path : List ℕ) (found : Found) → IfSome tree (λ files. ListsTarget files target (Ok paths)) → path ≡ path_of_target (option_map view_module root) target → BeginsWith root path paths found
    → IfSome tree (λ files. FindsTarget files root target (Ok found))
finds_target None root target paths path found h p b = tt
finds_target (Some files) root target paths path found h p b = λ limit. begins (project_with files root target limit) found root path paths refl p h b

pub target_unfound : (tree : Option Tree) (root : Option modules.Module) (target : Target) (error : LoadError) → IfSome tree (λ files. ListsTarget files target (Err error)) → IfSome tree (λ files. FindsTarget files root target (Err error))
target_unfound None root target error h = tt
target_unfound (Some files) root target (Refused place rule) h = h
target_unfound (Some files) root target ReadFault h = tt
target_unfound (Some files) root target OutOfMemory h = tt

-- ---- the loader begins

-- a loader that holds nothing
pub record IsNew (loader : Loader) (found : Found) (target : List ℕ) (limit : ℕ) : Type 0 where
  pub found_is : loader.found ≡ found
  pub target_is : loader.target ≡ target
  pub files : loader.files.items ≡ []
  pub headers : loader.packages.items ≡ []
  pub imports : loader.imports.items ≡ []
  pub links : loader.links.items ≡ []
  pub programs : loader.programs.items ≡ []
  pub left : loader.left ≡ limit

less_none : (limit : ℕ) → limit ≡ limit - 0
less_none limit = omega arith

starts_at : (project : Project) (loader : Loader) (found : Found) → BeginsProject project found → IsNew loader found (path_asked project.target) project.limit → IsAt project loader []
starts_at project loader found b n = record {
  holds = record {
    right = subst (AreRight project) (sym n.found_is) b.right;
    target = n.target_is;
    files = ap (map view_source) n.files;
    headers = n.headers;
    imports = ap listed n.imports;
    links = subst (λ (kept : List Link). AllZip (IsLink loader.files.items) kept []) (sym n.links) tt;
    programs = n.programs;
    left = n.left ∙ less_none project.limit;
    met = tt;
  };
  paths = ap (λ (f : Found). f.paths) n.found_is ∙ b.paths;
  front = Nothing;
}

-- ---- the module that counts

module_is : (files : Tree) (dir : List ℕ) (root : Option modules.Module) → AnswersModule (Ok root) (Governs files dir) → Governs files dir (option_map sound_module (option_map view_module root))
module_is files dir None h = h
module_is files dir (Some root) h = h

project_is : (files : Tree) (target : Target) (limit : ℕ) (dir : List ℕ) (root : Option modules.Module) → IsTargetDir target dir → AnswersModule (Ok root) (Governs files dir) → IsProjectOf files target limit (project_with files root target limit)
project_is files target limit dir root d h = record { files_are = refl; target_is = refl; limit_is = refl; dir = dir; dir_is = d; root = module_is files dir root h }

pub module_bad : (tree : Option Tree) (target : Target) (limit : ℕ) (dir : List ℕ) (error : LoadError) → IsTargetDir target dir → IfSome tree (λ files. AnswersModule (Err error) (Governs files dir)) → IfSome tree (λ files. IsAnswer files target limit (Err error))
module_bad None target limit dir error d h = tt
module_bad (Some files) target limit dir (Refused place rule) d h = inl (record { dir = dir; dir_is = d; bad = h })
module_bad (Some files) target limit dir ReadFault d h = tt
module_bad (Some files) target limit dir OutOfMemory d h = tt

answer_of : (files : Tree) (target : Target) (limit : ℕ) (project : Project) (result : Result Sources LoadError) → IsProjectOf files target limit project → IsAnswerIn project result → IsAnswer files target limit result
answer_of files target limit project (Ok sources) p h = record { project = project; packages = h.0; project_is = p; result = h.1; sources_are = h.2 }
answer_of files target limit project (Err (Refused place rule)) p h = inr (record { project = project; project_is = p; result = h })
answer_of files target limit project (Err ReadFault) p h = tt
answer_of files target limit project (Err OutOfMemory) p h = tt

-- what is loaded of the target is the answer for its project
pub project_answered : (tree now : Option Tree) (target : Target) (limit : ℕ) (root : Option modules.Module) (found : Found) (loader : Loader) (result : Result Sources LoadError) → now ≡ tree
    → IfSome tree (λ files. FindsTarget files root target (Ok found)) → IsNew loader found (path_asked target) limit → IfSome now (λ files. Finishes files loader result) → IfSome tree (λ files. AnswersProject files root target limit result)
project_answered None now target limit root found loader result same f n h = tt
project_answered (Some files) now target limit root found loader result same f n h =
    let finishes : Finishes files loader result = subst (λ (t : Option Tree). IfSome t (λ files. Finishes files loader result)) same h in
    finishes (project_with files root target limit) refl (starts_at (project_with files root target limit) loader found (f limit) n)

-- the module is sound: the answer is that for the project of the target
pub finished : (tree now : Option Tree) (target : Target) (limit : ℕ) (dir : List ℕ) (root : Option modules.Module) (result : Result Sources LoadError) → now ≡ tree → IsTargetDir target dir → IfSome tree (λ files. AnswersModule (Ok root) (Governs files dir))
    → IfSome now (λ files. AnswersProject files root target limit result) → IfSome tree (λ files. IsAnswer files target limit result)
finished None now target limit dir root result same d m h = tt
finished (Some files) now target limit dir root result same d m h =
    let answer : AnswersProject files root target limit result = subst (λ (t : Option Tree). IfSome t (λ files. AnswersProject files root target limit result)) same h in
    answer_of files target limit (project_with files root target limit) result (project_is files target limit dir root d m) answer

-- ---- what `load` says

pub loaded_is : (tree : Option Tree) (target : Target) (sources : Sources) → AreTold tree (files_of sources) → IfSome tree (λ files. IsAnswer files target max_program_bytes (Ok sources)) → IsLoaded tree target sources
loaded_is None target sources told h = record { told = told; program = tt }
loaded_is (Some files) target sources told h = record { told = told; program = h }

pub stopped_is : (tree : Option Tree) (target : Target) (error : LoadError) → Stops tree error → IfSome tree (λ files. IsAnswer files target max_program_bytes (Err error)) → HasStopped tree target error
stopped_is None target (Refused place rule) why h = record { cause = why; first = tt }
stopped_is (Some files) target (Refused place rule) why h = record { cause = why; first = h }
stopped_is tree target ReadFault why h = tt
stopped_is tree target OutOfMemory why h = tt
