-- A target has one project at most, or one fault of its go.mod.
use Rattle.std.proofs.Common.{◌≡◌, ℕ, zero, suc, List, map, Option, Some, None, option_map, Result, Err, refl, sym, ap, subst, ◌∙◌}
use Rattle.go_base.specs.Devices.{Tree, names_in}
use Rattle.go_base.specs.declared.target.Target.{Target}
use Rattle.go_base.specs.declared.target.Target.TheVariants as targets
use Rattle.std.specs.Prelude.{filter}
use Rattle.go_load.specs.Answers.{IsProjectOf, HasBadModule, sound_module}
use Rattle.go_finding.specs.Listing.{is_go_file}
use Rattle.go_finding.specs.Modules.{Broken, Module, Governs}
use Rattle.go_finding.specs.Paths.{path_in}
use Rattle.go_finding.specs.Projects.{Project, AreGoPaths, Origin, BuiltInFile, Paths, IsDirectory, IsOriginOfTarget, IsOriginOfImport, IsOriginAt, dir_named}
use Rattle.go_sources.specs.BuiltIns.{built_in_named}
use Rattle.go_sources.specs.declared.built_in.BuiltIn.{BuiltIn}
use Rattle.load_laws.proofs.Directories.{one_module, one_target_dir}
use Rattle.load_laws.proofs.InOrder.{one_order}

abbrev Said : Type 0
Said = Option (Result Module Broken)

same_root : (a b : Option Module) → option_map sound_module a ≡ option_map sound_module b → a ≡ b
same_root None None e = refl
same_root None (Some b) e = cc e
same_root (Some a) None e = cc e
same_root (Some a) (Some b) e = cc e

never_bad : (a : Option Module) (bad : Broken) → option_map sound_module a ≡ Some (Err bad) → ⊥
never_bad None bad e = cc e
never_bad (Some a) bad e = cc e

same_project : (a b : Project) → a.files ≡ b.files → a.root ≡ b.root → a.target ≡ b.target → a.limit ≡ b.limit → a ≡ b
same_project a b f r t l =
    ap (λ (files : Tree). record { files = files; root = a.root; target = a.target; limit = a.limit }) f
    ∙ ap (λ (root : Option Module). record { files = b.files; root = root; target = a.target; limit = a.limit }) r
    ∙ ap (λ (target : Target). record { files = b.files; root = b.root; target = target; limit = a.limit }) t
    ∙ ap (λ (limit : ℕ). record { files = b.files; root = b.root; target = b.target; limit = limit }) l

-- what counts for one target's directory counts for the other's
same_said : (files : Tree) (target : Target) (dir other : List ℕ) (a b : Said) → dir ≡ other → Governs files dir a → Governs files other b → a ≡ b
same_said files target dir other a b e g h = one_module files other a b (subst (λ (d : List ℕ). Governs files d a) e g) h

pub one_project : (files : Tree) (target : Target) (limit : ℕ) (a b : Project) → IsProjectOf files target limit a → IsProjectOf files target limit b → a ≡ b
one_project files target limit a b h k =
    let dirs : h.dir ≡ k.dir = one_target_dir target h.dir k.dir h.dir_is k.dir_is in
    let roots : a.root ≡ b.root = same_root a.root b.root (same_said files target h.dir k.dir (option_map sound_module a.root) (option_map sound_module b.root) dirs h.root k.root) in
    same_project a b (h.files_are ∙ sym k.files_are) roots (h.target_is ∙ sym k.target_is) (h.limit_is ∙ sym k.limit_is)

same_bad : (a b : Broken) (x y : Said) → x ≡ Some (Err a) → y ≡ Some (Err b) → x ≡ y → a ≡ b
same_bad a b x y p q e = cc (p, q, e)

pub one_bad_module : (files : Tree) (target : Target) (a b : Broken) → HasBadModule files target a → HasBadModule files target b → a ≡ b
one_bad_module files target a b h k =
    let dirs : h.dir ≡ k.dir = one_target_dir target h.dir k.dir h.dir_is k.dir_is in
    same_bad a b (Some (Err a)) (Some (Err b)) refl refl (same_said files target h.dir k.dir (Some (Err a)) (Some (Err b)) dirs h.bad k.bad)

pub bad_or_project : (files : Tree) (target : Target) (limit : ℕ) (bad : Broken) (project : Project) → HasBadModule files target bad → IsProjectOf files target limit project → ⊥
bad_or_project files target limit bad project h k =
    let dirs : k.dir ≡ h.dir = one_target_dir target k.dir h.dir k.dir_is h.dir_is in
    never_bad project.root bad (same_said files target k.dir h.dir (option_map sound_module project.root) (Some (Err bad)) dirs k.root h.bad)

pub one_listing : (files : Tree) (dir : List ℕ) (a b : List (List ℕ)) → AreGoPaths files dir a → AreGoPaths files dir b → a ≡ b
one_listing files dir a b h k =
    let names : h.names ≡ k.names = one_order (filter is_go_file (names_in dir files)) h.names k.names h.listed.all k.listed.all h.listed.order k.listed.order in
    h.paths_are ∙ ap (λ (all : List (List ℕ)). map (path_in dir) all) names ∙ sym k.paths_are

-- ---- where the files of a package are

some_dir : (o : Option (List ℕ)) (a b : List ℕ) → o ≡ Some a → o ≡ Some b → a ≡ b
some_dir o a b p q = cc (p, q)

one_directory : (files : Tree) (named : Option (List ℕ)) (a b : List (List ℕ)) → IsDirectory files named a → IsDirectory files named b → a ≡ b
one_directory files named a b h k =
    let dirs : h.dir ≡ k.dir = some_dir named h.dir k.dir h.named_is k.named_is in
    one_listing files k.dir a b (subst (λ (dir : List ℕ). AreGoPaths files dir a) dirs h.listed) k.listed

one_origin_of_target : (files : Tree) (target : Target) (a b : Origin) → IsOriginOfTarget files target a → IsOriginOfTarget files target b → a ≡ b
one_origin_of_target files target (BuiltInFile a) b h k = absurd h
one_origin_of_target files target (Paths a) (BuiltInFile b) h k = absurd k
one_origin_of_target files (targets.File path) (Paths a) (Paths b) h k = ap Paths (h ∙ sym k)
one_origin_of_target files (targets.Dir dir) (Paths a) (Paths b) h k = ap Paths (one_listing files dir a b h k)

some_built_in : (o : Option BuiltIn) (a b : BuiltIn) → o ≡ Some a → o ≡ Some b → a ≡ b
some_built_in o a b p q = cc (p, q)

not_built_in : (o : Option BuiltIn) (a : BuiltIn) → o ≡ None → o ≡ Some a → ⊥
not_built_in o a p q = cc (p, q)

one_origin_of_import : (project : Project) (path : List ℕ) (a b : Origin) → IsOriginOfImport project path a → IsOriginOfImport project path b → a ≡ b
one_origin_of_import project path (BuiltInFile a) (BuiltInFile b) h k = ap BuiltInFile (some_built_in (built_in_named path) a b h k)
one_origin_of_import project path (BuiltInFile a) (Paths b) h k = absurd (not_built_in (built_in_named path) a k.0 h)
one_origin_of_import project path (Paths a) (BuiltInFile b) h k = absurd (not_built_in (built_in_named path) b h.0 k)
one_origin_of_import project path (Paths a) (Paths b) h k = ap Paths (one_directory project.files (dir_named project path) a b h.1 k.1)

pub one_origin : (project : Project) (index : ℕ) (path : List ℕ) (a b : Origin) → IsOriginAt project index path a → IsOriginAt project index path b → a ≡ b
one_origin project zero path a b h k = one_origin_of_target project.files project.target a b h k
one_origin project (suc index) path a b h k = one_origin_of_import project path a b h k
