-- Which go.mod counts for a directory, where files are told.
use Rattle.std.proofs.Common.{◌≡◌, ◌≢◌, inl, inr, get_or, take, ℕ, ◌<◌, Bool, true, false, nat_lt, if◌then◌else◌, Option, Some, None, option_map, IfSome, Result, Ok, Err, List, length, bytes_eq, codes, refl, ap, sym, subst, ◌∙◌, arith}
use Rattle.std.proofs.lemmas.Bool.Decides.{nat_tests}
use Rattle.go_base.specs.Devices.{Tree, file_at}
use Rattle.go_base.specs.declared.line.TheConstants.{MAX_FILE_BYTES}
use Rattle.go_base.specs.declared.rule.Rule.TheVariants as rules
use Rattle.go_sources.specs.declared.program.Sources.{Sources}
use Rattle.go_finding.specs.declared.error.LoadError.{LoadError}
use Rattle.go_finding.specs.declared.error.LoadError.TheVariants.{Refused, ReadFault, OutOfMemory}
use Rattle.go_finding.specs.declared.find_module.Module as code
use Rattle.go_base.specs.declared.target.Target.{Target}
use Rattle.go_finding.specs.Modules.{Broken, Module, go_mod_in, module_of, own_module, Governs, Own, Nowhere, Above, AnswersModule, ReadsWhole, HasModule, IsTargetDir, RespectsGoModIn, RespectsGoMod, view_module}
use Rattle.go_finding.specs.Paths.{LiesIn}
use Rattle.go_finding.specs.Places.{first_place}

-- ---- directories

behind_false : {X : Type 0} (b : Bool) (x y : X) → b ≡ false → (if b then x else y) ≡ y
behind_false true x y e = cc
behind_false false x y e = refl

behind_true : {X : Type 0} (b : Bool) (x y : X) → b ≡ true → (if b then x else y) ≡ x
behind_true true x y e = refl
behind_true false x y e = cc

pub lies_below : (path dir : List ℕ) (at : ℕ) → bytes_eq path (codes ".") ≡ false → (at < length path) × (get_or path at 0 ≡ 47) × ((i : ℕ) → at < i → i < length path → get_or path i 0 ≢ 47) → dir ≡ take at path → LiesIn path (Some dir)
lies_below path dir at other h e = (other, inl (at, record { within = h.0; slash = h.1; last = h.2 }, e))

pub lies_there : (path : List ℕ) → bytes_eq path (codes ".") ≡ false → ((i : ℕ) → i < length path → get_or path i 0 ≢ 47) → LiesIn path (Some (codes "."))
lies_there path other h = (other, inr (h, refl))

abbrev failed : Broken → Result Module Broken
failed broken = Err broken

-- ---- a directory's own go.mod

above_limit : (n : ℕ) → MAX_FILE_BYTES < n → nat_lt MAX_FILE_BYTES n ≡ true
above_limit n h = grind (arith, nat_tests)

large_module : (dir bytes : List ℕ) → MAX_FILE_BYTES < length bytes → module_of dir bytes ≡ Err (record { place = first_place (go_mod_in dir); rule = rules.FileTooLarge })
large_module dir bytes h = behind_true (nat_lt MAX_FILE_BYTES (length bytes)) _ _ (above_limit (length bytes) h)

-- where it cannot be read
pub own_unread : (tree : Option Tree) (dir path : List ℕ) (error : LoadError) → path ≡ go_mod_in dir → IfSome tree (λ files. ReadsWhole files path (Err error)) → IfSome tree (λ files. AnswersModule (Err error) (λ said. own_module files dir ≡ said))
own_unread None dir path error p h = tt
own_unread (Some files) dir path (Refused place rule) p h =
    let there : file_at files (go_mod_in dir) ≡ Some h.0 = ap (file_at files) (sym p) ∙ h.1 in
    let at : place ≡ first_place (go_mod_in dir) = h.3 ∙ ap first_place p in
    let same : record { place = first_place (go_mod_in dir); rule = rules.FileTooLarge } ≡ record { place = place; rule = rule } = rw (at, h.4) refl in
    ap (option_map (module_of dir)) there ∙ ap Some (large_module dir h.0 h.2 ∙ ap failed same)
own_unread (Some files) dir path ReadFault p h = tt
own_unread (Some files) dir path OutOfMemory p h = tt

-- ---- the nearest directory

abbrev Said : Type 0
Said = Option (Result Module Broken)

-- what the nearest directory says is said of the first
abbrev Reaches : Option Tree → List ℕ → List ℕ → Type 0
Reaches tree dir nearest = IfSome tree (λ files. (said : Said) → Governs files nearest said → Governs files dir said)

-- the answer at a directory
abbrev AnswersOwn : Option Tree → List ℕ → Result (Option code.Module) LoadError → Type 0
AnswersOwn tree dir result = IfSome tree (λ files. AnswersModule result (λ said. own_module files dir ≡ said))

pub own_found : (tree now : Option Tree) (dir nearest : List ℕ) (found : Option code.Module) (root : code.Module) → now ≡ tree → found ≡ Some root → AnswersOwn now nearest (Ok found) → Reaches tree dir nearest → IfSome tree (λ files. Governs files dir (Some (Ok (view_module root))))
own_found None now dir nearest found root e f own up = tt
own_found (Some files) now dir nearest found root e f own up =
    let said : Result Module Broken = Ok (view_module root) in
    let told : AnswersOwn (Some files) nearest (Ok (Some root)) = subst (λ (o : Option code.Module). AnswersOwn (Some files) nearest (Ok o)) f (subst (λ (t : Option Tree). AnswersOwn t nearest (Ok found)) e own) in
    up (Some said) (Own nearest said told)

own_none : (now : Option Tree) (files : Tree) (nearest : List ℕ) (found : Option code.Module) → now ≡ Some files → found ≡ None → AnswersOwn now nearest (Ok found) → own_module files nearest ≡ None
own_none now files nearest found e f own =
    subst (λ (o : Option code.Module). AnswersOwn (Some files) nearest (Ok o)) f (subst (λ (t : Option Tree). AnswersOwn t nearest (Ok found)) e own)

pub none_found : (tree now : Option Tree) (dir nearest : List ℕ) (found : Option code.Module) → now ≡ tree → found ≡ None → AnswersOwn now nearest (Ok found) → LiesIn nearest None → Reaches tree dir nearest → IfSome tree (λ files. Governs files dir None)
none_found None now dir nearest found e f own last up = tt
none_found (Some files) now dir nearest found e f own last up = up None (Nowhere nearest (own_none now files nearest found e f own) last)

pub next_above : (tree now : Option Tree) (dir nearest above : List ℕ) (found : Option code.Module) → now ≡ tree → found ≡ None → AnswersOwn now nearest (Ok found) → LiesIn nearest (Some above) → Reaches tree dir nearest → Reaches tree dir above
next_above None now dir nearest above found e f own next up = tt
next_above (Some files) now dir nearest above found e f own next up = λ said h.
    up said (Above nearest above said (own_none now files nearest found e f own) next h)

pub broken_found : (tree now : Option Tree) (dir nearest : List ℕ) (error : LoadError) → now ≡ tree → AnswersOwn now nearest (Err error) → Reaches tree dir nearest → IfSome tree (λ files. AnswersModule (Err error) (Governs files dir))
broken_found None now dir nearest error e own up = tt
broken_found (Some files) now dir nearest (Refused place rule) e own up =
    let said : Result Module Broken = Err (record { place = place; rule = rule }) in
    up (Some said) (Own nearest said (subst (λ (t : Option Tree). AnswersOwn t nearest (Err (Refused place rule))) e own))
broken_found (Some files) now dir nearest ReadFault e own up = tt
broken_found (Some files) now dir nearest OutOfMemory e own up = tt

-- ---- what loading makes of it

has_module : (files : Tree) (dir : List ℕ) (found : Option code.Module) → AnswersModule (Ok found) (Governs files dir) → HasModule files dir
has_module files dir None h = (None, h, tt)
has_module files dir (Some root) h = (Some (Ok (view_module root)), h, tt)

respects : (files : Tree) (dir : List ℕ) (result : Result Sources LoadError) → HasModule files dir → RespectsGoModIn files dir result
respects files dir (Ok sources) h = h
respects files dir (Err (Refused place rule)) h = inr h
respects files dir (Err ReadFault) h = tt
respects files dir (Err OutOfMemory) h = tt

pub module_found : (tree : Option Tree) (target : Target) (dir : List ℕ) (found : Option code.Module) (result : Result Sources LoadError) → IsTargetDir target dir → IfSome tree (λ files. AnswersModule (Ok found) (Governs files dir)) → IfSome tree (λ files. RespectsGoMod files target result)
module_found None target dir found result d h = tt
module_found (Some files) target dir found result d h = (dir, d, respects files dir result (has_module files dir found h))
