-- The packages that were found, and one more.
use Rattle.std.proofs.Common.{◌≡◌, ℕ, zero, suc, ◌+◌, ◌<◌, ◌≤◌, Bool, true, false, true≢false, not, nat_le, ◌||◌, List, [], ◌∷◌, ◌++◌, length, map, slice_get, Option, Some, None, option_map, IfSome, Result, Ok, Err, Vec, String, string_bytes, bytes_eq, refl, ap, sym, subst, ◌∙◌, arith}
use Rattle.std.specs.List.{list_any}
use Rattle.std.specs.declared.alloc.Global.{Global}
use Rattle.std.proofs.lemmas.Bool.Decides.{nat_tests}
use Rattle.std.proofs.lemmas.List.{map-append, length-map}
use Rattle.std.proofs.lemmas.Slice.Eq.{bytes_eq-Decides}
use Rattle.go_base.proofs.Texts.{place_holds}
use Rattle.go_base.specs.Devices.{Tree}
use Rattle.go_base.specs.NameTable.{place_of, with_text}
use Rattle.go_base.specs.declared.place.Pos.{Pos}
use Rattle.go_sources.specs.declared.built_in.BuiltIn.{BuiltIn}
use Rattle.go_sources.specs.declared.built_in.BuiltIn.TheVariants as built_ins
use Rattle.go_sources.specs.BuiltIns.{built_in_named}
use Rattle.go_finding.specs.declared.error.LoadError.{LoadError}
use Rattle.go_finding.specs.declared.error.LoadError.TheVariants.{Refused, ReadFault, OutOfMemory}
use Rattle.go_finding.specs.declared.find_module.Module as modules
use Rattle.go_finding.specs.declared.found.Entry.{Entry}
use Rattle.go_finding.specs.declared.found.Found.{Found}
use Rattle.go_finding.specs.declared.found.Origin as origins
use Rattle.go_finding.specs.declared.found.Origin.TheVariants as code
use Rattle.go_finding.specs.Entries.{IsNumbered, AddsEntry, JoinsBuiltIn, RuntimeFound, FindsDirectory, dir_in}
use Rattle.go_finding.specs.Finding.{view_origin, IsRightAt, AreRight, Joins, FindsPackage}
use Rattle.go_finding.specs.GoPaths.{ListsGoPaths}
use Rattle.go_finding.specs.Modules.{view_module}
use Rattle.go_finding.specs.Programs.{runtime_path}
use Rattle.go_finding.specs.Projects.{Project, Origin, BuiltInFile, Paths, IsOriginOfImport, IsDirectory, AreGoPaths, has_go_files, target_path, dir_named, is_found, is_found_in}
use Rattle.go_finding.proofs.Listings.{no_paths, some_paths}
use Rattle.go_finding.proofs.Numbers.{among_from_place, new_from_place, with_text-there, with_text-new}

-- ---- places in lists

get_front : {X : Type 0} (xs ys : List X) (i : ℕ) (x : X) → slice_get xs i ≡ Some x → slice_get (xs ++ ys) i ≡ Some x
get_front [] ys i x e = absurd (cc)
get_front (y ∷ xs) ys zero x e = e
get_front (y ∷ xs) ys (suc i) x e = get_front xs ys i x e

get_mapped : {X Y : Type 0} (f : X → Y) (xs : List X) (i : ℕ) (y : Y) → slice_get (map f xs) i ≡ Some y → (x : X) × (slice_get xs i ≡ Some x) × (f x ≡ y)
get_mapped f [] i y e = absurd (cc)
get_mapped f (x ∷ xs) zero y e = (x, refl, cc)
get_mapped f (x ∷ xs) (suc i) y e = get_mapped f xs i y e

more_entries : {X : Type 0} (P : ℕ → X → Type 0) (xs : List X) (x : X) → ((i : ℕ) → IfSome (slice_get xs i) (P i)) → P (length xs) x
    → (i : ℕ) → IfSome (slice_get (xs ++ x ∷ []) i) (P i)
more_entries P [] x all last zero = last
more_entries P [] x all last (suc i) = tt
more_entries P (y ∷ xs) x all last zero = all 0
more_entries P (y ∷ xs) x all last (suc i) = more_entries (λ j. P (suc j)) xs x (λ j. all (suc j)) last i

first_is : (path first : List ℕ) (paths : List (List ℕ)) → slice_get paths 0 ≡ Some first → slice_get paths 0 ≡ Some path → bytes_eq path first ≡ true
first_is path first paths e h = (bytes_eq-Decides path first).1 (cc)

first_is_not : (path first : List ℕ) (paths : List (List ℕ)) → slice_get paths 0 ≡ Some first → list_any (bytes_eq path) paths ≡ false → bytes_eq path first ≡ false
first_is_not path first [] e none = absurd (cc)
first_is_not path first (other ∷ paths) e none =
    let same : other ≡ first = cc in
    by (bytes_eq path first) (ap (λ text. bytes_eq path text || list_any (bytes_eq path) paths) (sym same) ∙ none)
  where
    by : (b : Bool) → (b || list_any (bytes_eq path) paths) ≡ false → b ≡ false
    by true h = absurd (true≢false h)
    by false h = refl

-- ---- an entry is right

abbrev path_of : Entry → List ℕ
path_of entry = string_bytes entry.path

right_behind : (project : Project) (entries : List Entry) (entry : Entry) (target : List ℕ) → slice_get (map path_of entries) 0 ≡ Some target
    → IsOriginOfImport project (string_bytes entry.path) (view_origin entry.origin) → IsRightAt project (length entries) entry
right_behind project [] entry target some is = absurd (cc)
right_behind project (first ∷ rest) entry target some is = record { origin = is; asked = tt }

-- ---- a path that has a number

counted : (project : Project) (found : Found) → AreRight project found → length found.paths ≡ length found.entries.items
counted project found right = ap length right.paths ∙ length-map found.entries.items path_of

pub joined_there : (project : Project) (old new : Found) (path : List ℕ) (number : ℕ) → AreRight project old → IsNumbered old new path number
    → number < length new.entries.items → Joins project old new path number
joined_there project old new path number right known within =
    let long : length old.paths ≡ length old.entries.items = counted project old right in
    let entries : length new.entries.items ≡ length old.entries.items = ap (λ (found : Found). length found.entries.items) known.grown in
    let place : place_of path old.paths < length old.paths = rw (← known.number_is) (omega arith) in
    let same : with_text path old.paths ≡ old.paths = with_text-there path old.paths (among_from_place path old.paths place) in
    let kept : new ≡ old = known.grown ∙ ap (λ paths. record old { paths = paths }) same in
    record { number_is = known.number_is; paths = ap (λ (found : Found). found.paths) known.grown; right = subst (AreRight project) (sym kept) right }

is_new : (project : Project) (old mid : Found) (path : List ℕ) (number : ℕ) → AreRight project old → IsNumbered old mid path number
    → length mid.entries.items ≤ number → list_any (bytes_eq path) old.paths ≡ false
is_new project old mid path number right known behind =
    let long : length old.paths ≡ length old.entries.items = counted project old right in
    let entries : length mid.entries.items ≡ length old.entries.items = ap (λ (found : Found). length found.entries.items) known.grown in
    let place : length old.paths ≤ place_of path old.paths = rw (← known.number_is) (omega arith) in
    new_from_place path old.paths place

pub joined_behind : (project : Project) (old mid new : Found) (path : List ℕ) (number : ℕ) (origin : origins.Origin) (asker : Option Pos)
    → AreRight project old → IsNumbered old mid path number → length mid.entries.items ≤ number → AddsEntry mid new path origin asker
    → IsOriginOfImport project path (view_origin origin) → Joins project old new path number
joined_behind project old mid new path number origin asker right known behind adds is =
    let paths : new.paths ≡ with_text path old.paths = adds.paths ∙ ap (λ (found : Found). found.paths) known.grown in
    let items : new.entries.items ≡ old.entries.items ++ adds.entry ∷ [] = adds.entries ∙ ap (λ (found : Found). found.entries.items ++ adds.entry ∷ []) known.grown in
    let longer : new.paths ≡ old.paths ++ path ∷ [] = paths ∙ with_text-new path old.paths (is_new project old mid path number right known behind) in
    let root : new.root ≡ old.root = adds.root ∙ ap (λ (found : Found). found.root) known.grown in
    let target : slice_get (map path_of old.entries.items) 0 ≡ Some (target_path project) = subst (λ list. slice_get list 0 ≡ Some (target_path project)) right.paths right.target in
    let is_here : IsOriginOfImport project (string_bytes adds.entry.path) (view_origin adds.entry.origin) = rw (adds.path_is, adds.origin_is) is in
    let last : IsRightAt project (length old.entries.items) adds.entry = right_behind project old.entries.items adds.entry (target_path project) target is_here in
    let more : (index : ℕ) → IfSome (slice_get (old.entries.items ++ adds.entry ∷ []) index) (IsRightAt project index) = more_entries (IsRightAt project) old.entries.items adds.entry right.entries last in
    let named : map path_of (old.entries.items ++ adds.entry ∷ []) ≡ old.paths ++ path ∷ [] =
    map-append path_of old.entries.items (adds.entry ∷ []) ∙ ap (λ list. list ++ path_of adds.entry ∷ []) (sym right.paths) ∙ ap (λ text. old.paths ++ text ∷ []) adds.path_is in
    record {
      number_is = known.number_is;
      paths = paths;
      right = record {
        root = ap (option_map view_module) root ∙ right.root;
        paths = longer ∙ sym named ∙ ap (map path_of) (sym items);
        target = subst (λ list. slice_get list 0 ≡ Some (target_path project)) (sym longer) (get_front old.paths (path ∷ []) 0 (target_path project) right.target);
        entries = λ index. subst (λ list. IfSome (slice_get list index) (IsRightAt project index)) (sym items) (more index);
      };
    }

-- ---- built-in packages

pub built_in_there : (built_in : BuiltIn) (old new : Found) (path : List ℕ) (number : ℕ) → IsNumbered old new path number
    → number < length new.entries.items → JoinsBuiltIn built_in old new path number
built_in_there built_in old new path number known within = λ project right named. joined_there project old new path number right known within

pub built_in_behind : (built_in : BuiltIn) (old mid new : Found) (path : List ℕ) (number : ℕ) (asker : Option Pos) → IsNumbered old mid path number
    → length mid.entries.items ≤ number → AddsEntry mid new path (code.BuiltIn built_in) asker → JoinsBuiltIn built_in old new path number
built_in_behind built_in old mid new path number asker known behind adds = λ project right named.
    joined_behind project old mid new path number (code.BuiltIn built_in) asker right known behind adds named

-- how many packages there are then
pub one_longer : (old mid new : Found) (path : List ℕ) (number : ℕ) (origin : origins.Origin) (asker : Option Pos) → IsNumbered old mid path number
    → AddsEntry mid new path origin asker → length new.entries.items ≡ length old.entries.items + 1
one_longer old mid new path number origin asker known adds =
    let items : new.entries.items ≡ old.entries.items ++ adds.entry ∷ [] = adds.entries ∙ ap (λ (found : Found). found.entries.items ++ adds.entry ∷ []) known.grown in
    ap length items ∙ length_more old.entries.items adds.entry
  where
    length_more : {X : Type 0} (xs : List X) (x : X) → length (xs ++ x ∷ []) ≡ length xs + 1
    length_more [] x = refl
    length_more (y ∷ xs) x = let rest : length (xs ++ x ∷ []) ≡ length xs + 1 = length_more xs x in omega arith

le_true : (a b : ℕ) → nat_le a b ≡ true → a ≤ b
le_true a b h = grind (arith, nat_tests)

le_false : (a b : ℕ) → nat_le a b ≡ false → b < a
le_false a b h = grind (arith, nat_tests)

pub runtime_found : (old new : Found) (count number : ℕ) → count ≡ length old.entries.items → JoinsBuiltIn built_ins.Runtime old new runtime_path number
    → RuntimeFound old new (nat_le count number)
runtime_found old new count number count_is joins = λ project right.
    let joined : Joins project old new runtime_path number = joins project right refl in
    let long : length old.paths ≡ length old.entries.items = counted project old right in
    let count_paths : count ≡ length old.paths = count_is ∙ sym long in (
      by (nat_le count number) refl
          (λ h. new_from_place runtime_path old.paths (rw (← joined.number_is, ← count_paths) (le_true count number h)))
          (λ h. among_from_place runtime_path old.paths (rw (← joined.number_is, ← count_paths) (le_false count number h))),
      joined.paths,
      joined.right,
    )
  where
    by : (b : Bool) → nat_le count number ≡ b → (nat_le count number ≡ true → list_any (bytes_eq runtime_path) old.paths ≡ false)
        → (nat_le count number ≡ false → list_any (bytes_eq runtime_path) old.paths ≡ true) → b ≡ not (list_any (bytes_eq runtime_path) old.paths)
    by true e none some = sym (ap not (none e))
    by false e none some = sym (ap not (some e))

-- ---- packages of a directory

pub dir_named_is : (project : Project) (found : Found) (path : List ℕ) → AreRight project found → dir_named project path ≡ dir_in found.root path
dir_named_is project found path right = ap (λ root. dir_named (record project { root = root }) path) (sym right.root) ∙ by found.root
  where
    by : (root : Option modules.Module) → dir_named (record project { root = option_map view_module root }) path ≡ dir_in root path
    by None = refl
    by (Some root) = refl

is_found_dir : (project : Project) (path dir : List ℕ) → built_in_named path ≡ None → dir_named project path ≡ Some dir
    → is_found project path ≡ (bytes_eq path (target_path project) || has_go_files project.files dir)
is_found_dir project path dir built_in named =
    ap (λ found. is_found_in project path found (dir_named project path)) built_in ∙ ap (is_found_in project path None) named

either : (a b : Bool) → (a ≡ false → b ≡ true) → (a || b) ≡ true
either true b h = refl
either false b h = h refl

neither : (a b : Bool) → a ≡ false → b ≡ false → (a || b) ≡ false
neither true b h k = h
neither false b h k = k

import_has_files : (project : Project) (path dir : List ℕ) (origin : Origin) → built_in_named path ≡ None → dir_named project path ≡ Some dir
    → IsOriginOfImport project path origin → has_go_files project.files dir ≡ true
import_has_files project path dir (BuiltInFile built_in) none named is = absurd (cc)
import_has_files project path dir (Paths paths) none named is =
    let same : is.1.dir ≡ dir = cc (is.1.named_is) in
    ap (has_go_files project.files) (sym same) ∙ is.1.some

known_has_files : (project : Project) (path dir : List ℕ) (number : ℕ) (entry : Entry) → built_in_named path ≡ None → dir_named project path ≡ Some dir
    → (number ≡ 0 → bytes_eq path (target_path project) ≡ true) → string_bytes entry.path ≡ path → IsRightAt project number entry
    → (bytes_eq path (target_path project) || has_go_files project.files dir) ≡ true
known_has_files project path dir zero entry none named target same right = ap (λ b. b || has_go_files project.files dir) (target refl)
known_has_files project path dir (suc index) entry none named target same right =
    either _ _ (λ other. import_has_files project path dir (view_origin entry.origin) none named (subst (λ text. IsOriginOfImport project text (view_origin entry.origin)) same right.origin))

pub directory_there : (tree : Option Tree) (old new : Found) (path dir : List ℕ) (number : ℕ) → IsNumbered old new path number
    → number < length new.entries.items → IfSome tree (λ files. FindsDirectory files old new path dir (Ok (Some number)))
directory_there None old new path dir number known within = tt
directory_there (Some files) old new path dir number known within = λ project same right none named.
    let long : length old.paths ≡ length old.entries.items = counted project old right in
    let entries : length new.entries.items ≡ length old.entries.items = ap (λ (found : Found). length found.entries.items) known.grown in
    let place : place_of path old.paths < length old.paths = rw (← known.number_is) (omega arith) in
    let stays : with_text path old.paths ≡ old.paths = with_text-there path old.paths (among_from_place path old.paths place) in
    let at : slice_get old.paths number ≡ Some path =
    ap (slice_get old.paths) known.number_is ∙ ap (λ list. slice_get list (place_of path old.paths)) (sym stays) ∙ place_holds path old.paths in
    let got = get_mapped path_of old.entries.items number path (subst (λ list. slice_get list number ≡ Some path) right.paths at) in
    let is_right : IsRightAt project number got.0 = subst (λ entry. IfSome entry (IsRightAt project number)) got.1 (right.entries number) in (
      is_found_dir project path dir none named
          ∙ known_has_files project path dir number got.0 none named
          (λ zero_is. first_is path (target_path project) old.paths right.target (ap (slice_get old.paths) (sym zero_is) ∙ at)) got.2 is_right,
      joined_there project old new path number right known within,
    )

pub directory_failed : (tree : Option Tree) (old new : Found) (path dir : List ℕ) (error : LoadError) → IfSome tree (λ files. ListsGoPaths files dir (Err error))
    → IfSome tree (λ files. FindsDirectory files old new path dir (Err error))
directory_failed None old new path dir error lists = tt
directory_failed (Some files) old new path dir (Refused place rule) lists = λ project same right none named. lists
directory_failed (Some files) old new path dir ReadFault lists = λ project same right none named. tt
directory_failed (Some files) old new path dir OutOfMemory lists = λ project same right none named. tt

pub directory_empty : (tree : Option Tree) (old mid new : Found) (path dir : List ℕ) (number : ℕ) (paths : Vec (String Global) Global) → IsNumbered old mid path number
    → length mid.entries.items ≤ number → IfSome tree (λ files. ListsGoPaths files dir (Ok paths)) → length paths.items ≡ 0
    → IfSome tree (λ files. FindsDirectory files old new path dir (Ok None))
directory_empty None old mid new path dir number paths known behind lists none = tt
directory_empty (Some files) old mid new path dir number paths known behind lists none = λ project same right no_built_in named.
    let lists_here : AreGoPaths project.files dir (map string_bytes paths.items) = rw same lists in
    let no_files : has_go_files project.files dir ≡ false = no_paths project.files dir (map string_bytes paths.items) lists_here (length-map paths.items string_bytes ∙ none) in
    is_found_dir project path dir no_built_in named
    ∙ neither _ _ (first_is_not path (target_path project) old.paths right.target (is_new project old mid path number right known behind)) no_files

pub directory_added : (tree : Option Tree) (old mid new : Found) (path dir : List ℕ) (number : ℕ) (paths : Vec (String Global) Global) (asker : Option Pos) → IsNumbered old mid path number
    → length mid.entries.items ≤ number → IfSome tree (λ files. ListsGoPaths files dir (Ok paths)) → 0 < length paths.items → AddsEntry mid new path (code.Paths paths) asker
    → IfSome tree (λ files. FindsDirectory files old new path dir (Ok (Some number)))
directory_added None old mid new path dir number paths asker known behind lists some adds = tt
directory_added (Some files) old mid new path dir number paths asker known behind lists some adds = λ project same right no_built_in named.
    let lists_here : AreGoPaths project.files dir (map string_bytes paths.items) = rw same lists in
    let long : 0 < length (map string_bytes paths.items) = rw (length-map paths.items string_bytes) some in
    let has_files : has_go_files project.files dir ≡ true = some_paths project.files dir (map string_bytes paths.items) lists_here long in
    let is_directory : IsDirectory project.files (dir_named project path) (map string_bytes paths.items) = record { dir = dir; named_is = named; some = has_files; listed = lists_here } in (
      is_found_dir project path dir no_built_in named ∙ either _ _ (λ other. has_files),
      joined_behind project old mid new path number (code.Paths paths) asker right known behind adds (no_built_in, is_directory),
    )

-- ---- packages

pub package_built_in : (tree : Option Tree) (built_in : BuiltIn) (old new : Found) (path : List ℕ) (number : ℕ) → built_in_named path ≡ Some built_in
    → JoinsBuiltIn built_in old new path number → IfSome tree (λ files. FindsPackage files old new path (Ok (Some number)))
package_built_in None built_in old new path number named joins = tt
package_built_in (Some files) built_in old new path number named joins = λ project same right.
    (ap (λ found. is_found_in project path found (dir_named project path)) named, joins project right named)

pub package_nowhere : (tree : Option Tree) (old new : Found) (path : List ℕ) → built_in_named path ≡ None → dir_in old.root path ≡ None
    → IfSome tree (λ files. FindsPackage files old new path (Ok None))
package_nowhere None old new path none nowhere = tt
package_nowhere (Some files) old new path none nowhere = λ project same right.
    ap (λ found. is_found_in project path found (dir_named project path)) none
    ∙ ap (is_found_in project path None) (dir_named_is project old path right ∙ nowhere)

pub package_in_directory : (tree : Option Tree) (old new : Found) (path dir : List ℕ) (result : Result (Option ℕ) LoadError) → built_in_named path ≡ None → dir_in old.root path ≡ Some dir
    → IfSome tree (λ files. FindsDirectory files old new path dir result) → IfSome tree (λ files. FindsPackage files old new path result)
package_in_directory None old new path dir result none named finds = tt
package_in_directory (Some files) old new path dir result none named finds = λ project same right.
    finds project same right none (dir_named_is project old path right ∙ named)
