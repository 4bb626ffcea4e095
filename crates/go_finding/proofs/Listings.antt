-- The Go files of a directory, where files are told.
use Rattle.std.proofs.Common.{◌≡◌, ℕ, zero, suc, ◌+◌, ◌<◌, Bool, true, false, true≢false, ◌||◌, cond, if◌then◌else◌, List, [], ◌∷◌, ◌++◌, length, get_or, set, drop, map, filter, Option, Some, None, is_some, option_map, IfSome, Ok, Vec, String, string_bytes, string_cmp, codes, bytes_eq, nat_eq, refl, ap, sym, subst, ◌∙◌, arith, IsPermutation}
use Rattle.std.specs.Cmp.Lexicographic.{slice_cmp}
use Rattle.std.specs.List.{list_any, cons_option, starts_with, swap, All, AllByRecursion}
use Rattle.std.specs.List.Sorted.{IsSorted}
use Rattle.std.specs.Option.{option_and_then}
use Rattle.std.specs.Ordering.{nat_cmp}
use Rattle.std.specs.declared.alloc.Global.{Global}
use Rattle.std.proofs.lemmas.List.{get_or-map, length-map, length-append}
use Rattle.std.proofs.lemmas.List.Elements.{All-nil, All-cons, All-weaker, All-filter, All-map, recursion_from_All}
use Rattle.std.proofs.lemmas.List.Sorted.{IsPermutation-refl, IsPermutation-cons, IsPermutation-trans, IsPermutation-swap, IsPermutation-map, IsPermutation-keeps, All-permutation, length_permutation}
use Rattle.std.proofs.lemmas.Bool.Decides.{Decides-eqb}
use Rattle.std.proofs.lemmas.Slice.Eq.{bytes_eq-Decides, starts_is}
use Rattle.go_base.specs.Devices.{Tree, file_at, is_file, names_in, name_in, with_name, one_component, rest_below, is_directory, ListsTree}
use Rattle.go_finding.specs.Listing.{is_go_file}
use Rattle.go_finding.specs.Paths.{path_in, with_slash}
use Rattle.go_finding.specs.Projects.{FileText, text_at, texts_at, AreGoPaths, has_go_files, IsDirectory}

-- ---- a filter of a list in another order

module _ {X : Type 0} (p : X → Bool) where
  two_first : (x y : X) (xs : List X) → IsPermutation (filter p (x ∷ y ∷ xs)) (filter p (y ∷ x ∷ xs))
  two_first x y xs = by (p x) (p y)
    where
      by : (a b : Bool) → IsPermutation (cond a (x ∷ cond b (y ∷ filter p xs) (filter p xs)) (cond b (y ∷ filter p xs) (filter p xs)))
          (cond b (y ∷ cond a (x ∷ filter p xs) (filter p xs)) (cond a (x ∷ filter p xs) (filter p xs)))
      by true true = IsPermutation-swap (x ∷ y ∷ filter p xs) (y ∷ x ∷ filter p xs) 0 1 (omega arith) (omega arith) refl
      by true false = IsPermutation-refl (x ∷ filter p xs)
      by false true = IsPermutation-refl (y ∷ filter p xs)
      by false false = IsPermutation-refl (filter p xs)

  under : (x : X) (xs ys : List X) → IsPermutation (filter p xs) (filter p ys) → IsPermutation (filter p (x ∷ xs)) (filter p (x ∷ ys))
  under x xs ys h = by (p x)
    where
      by : (a : Bool) → IsPermutation (cond a (x ∷ filter p xs) (filter p xs)) (cond a (x ∷ filter p ys) (filter p ys))
      by true = IsPermutation-cons x (filter p xs) (filter p ys) h
      by false = h

  first_moved : (x d : X) (xs : List X) (k : ℕ) → k < length xs → IsPermutation (filter p (x ∷ xs)) (filter p (get_or xs k d ∷ set xs k x))
  first_moved x d [] k h = absurd (omega arith)
  first_moved x d (y ∷ xs) zero h = two_first x y xs
  first_moved x d (y ∷ xs) (suc k) h =
      IsPermutation-trans _ _ _ (two_first x y xs)
      (IsPermutation-trans _ _ _ (under y (x ∷ xs) (get_or xs k d ∷ set xs k x) (first_moved x d xs k (omega arith))) (two_first y (get_or xs k d) (set xs k x)))

  two_moved : (xs : List X) (i j : ℕ) (d : X) → i < length xs → j < length xs
      → IsPermutation (filter p xs) (filter p (set (set xs i (get_or xs j d)) j (get_or xs i d)))
  two_moved [] i j d h k = absurd (omega arith)
  two_moved (x ∷ xs) zero zero d h k = IsPermutation-refl (filter p (x ∷ xs))
  two_moved (x ∷ xs) zero (suc j) d h k = first_moved x d xs j (omega arith)
  two_moved (x ∷ xs) (suc i) zero d h k = first_moved x d xs i (omega arith)
  two_moved (x ∷ xs) (suc i) (suc j) d h k = under x xs _ (two_moved xs i j d (omega arith) (omega arith))

  swapped : (xs : List X) (i j : ℕ) → i < length xs → j < length xs → IsPermutation (filter p xs) (filter p (swap xs i j))
  swapped [] i j h k = absurd (omega arith)
  swapped (x ∷ xs) i j h k = two_moved (x ∷ xs) i j x h k

  pub filter_permuted : (xs ys : List X) → IsPermutation xs ys → IsPermutation (filter p xs) (filter p ys)
  filter_permuted xs ys same =
      IsPermutation-keeps xs (λ l. IsPermutation (filter p xs) (filter p l)) (IsPermutation-refl (filter p xs))
      (λ l i j h k so_far. IsPermutation-trans _ _ _ so_far (swapped l i j h k)) ys same

map_filter : {X Y : Type 0} (f : X → Y) (p : Y → Bool) (xs : List X) → map f (filter (λ x. p (f x)) xs) ≡ filter p (map f xs)
map_filter f p [] = refl
map_filter f p (x ∷ xs) = by (p (f x)) (map_filter f p xs)
  where
    by : (b : Bool) → map f (filter (λ x. p (f x)) xs) ≡ filter p (map f xs) → map f (cond b (x ∷ filter (λ x. p (f x)) xs) (filter (λ x. p (f x)) xs)) ≡ cond b (f x ∷ filter p (map f xs)) (filter p (map f xs))
    by true rest = ap (λ ys. f x ∷ ys) rest
    by false rest = rest

-- ---- order

bytes_sorted : (names : List (String Global)) → IsSorted string_cmp names → IsSorted (slice_cmp nat_cmp) (map string_bytes names)
bytes_sorted [] h k d low high = absurd (omega arith)
bytes_sorted (name ∷ names) h k d low high =
    let fits : k + 1 < length (name ∷ names) = omega (arith, length-map (name ∷ names) string_bytes) in
    rw (get_or-map string_bytes (name ∷ names) (k + 1) name d fits, get_or-map string_bytes (name ∷ names) k name d (omega arith)) (h k name (omega arith) fits)

-- ---- what a listing answers

abbrev Names : Type 0
Names = Vec (String Global) Global

pub listed_paths : (tree : Option Tree) (dir : List ℕ) (names kept paths : Names)
    → IfSome tree (λ files. ListsTree files dir (Ok names))
    → IsPermutation (filter (λ name. is_go_file (string_bytes name)) names.items) kept.items → IsSorted string_cmp kept.items
    → map string_bytes paths.items ≡ map (path_in dir) (map string_bytes kept.items)
    → IfSome tree (λ files. AreGoPaths files dir (map string_bytes paths.items))
listed_paths None dir names kept paths lists all order are = tt
listed_paths (Some files) dir names kept paths lists all order are =
    let some : IsPermutation (filter is_go_file (names_in dir files)) (filter is_go_file (map string_bytes names.items)) = filter_permuted is_go_file _ _ lists.1 in
    let rest : IsPermutation (map string_bytes (filter (λ name. is_go_file (string_bytes name)) names.items)) (map string_bytes kept.items) = IsPermutation-map string_bytes _ _ all in
    record {
      names = map string_bytes kept.items;
      listed = record {
        all = IsPermutation-trans _ _ _ some (subst (λ list. IsPermutation list (map string_bytes kept.items)) (map_filter string_bytes is_go_file names.items) rest);
        order = bytes_sorted kept.items order;
      };
      paths_are = are;
    }

-- ---- a directory that is absent has no names

none_below : (rest : Option (List ℕ)) → is_some rest ≡ false → option_and_then one_component rest ≡ None
none_below None h = refl
none_below (Some rest) h = absurd (true≢false h)

first_false : (a b : Bool) → (a || b) ≡ false → a ≡ false
first_false false b h = refl
first_false true b h = h

second_false : (a b : Bool) → (a || b) ≡ false → b ≡ false
second_false false b h = h
second_false true b h = absurd (true≢false h)

no_names : (dir : List ℕ) (files : Tree) → is_directory files dir ≡ false → names_in dir files ≡ []
no_names dir [] h = refl
no_names dir (file ∷ files) h =
    let here : name_in dir file.0 ≡ None = none_below (rest_below dir file.0) (first_false _ (is_directory files dir) h) in
    let below : names_in dir files ≡ [] = no_names dir files (second_false (is_some (rest_below dir file.0)) _ h) in
    by (is_file files file.0) below (ap (λ name. with_name name (names_in dir files)) here ∙ below)
  where
    by : (b : Bool) {x y : List (List ℕ)} → x ≡ [] → y ≡ [] → (if b then x else y) ≡ []
    by true x y = x
    by false x y = y

pub absent_paths : (tree : Option Tree) (dir : List ℕ) (paths : Names) → IfSome tree (λ files. is_directory files dir ≡ false) → paths.items ≡ []
    → IfSome tree (λ files. AreGoPaths files dir (map string_bytes paths.items))
absent_paths None dir paths absent none = tt
absent_paths (Some files) dir paths absent none =
    record {
      names = [];
      listed = record {
        all = subst (λ names. IsPermutation (filter is_go_file names) []) (sym (no_names dir files absent)) (IsPermutation-refl []);
        order = λ k d low high. absurd (omega arith);
      };
      paths_are = ap (map string_bytes) none;
    }

-- ---- whether there are Go files

any_filter : {X : Type 0} (p : X → Bool) (xs : List X) → list_any p xs ≡ false → filter p xs ≡ []
any_filter p [] h = refl
any_filter p (x ∷ xs) h = rw (first_false (p x) (list_any p xs) h) (any_filter p xs (second_false (p x) (list_any p xs) h))

filter_any : {X : Type 0} (p : X → Bool) (xs : List X) → filter p xs ≡ [] → list_any p xs ≡ false
filter_any p [] h = refl
filter_any p (x ∷ xs) h = by (p x) (filter_any p xs) h
  where
    by : (b : Bool) → (filter p xs ≡ [] → list_any p xs ≡ false) → cond b (x ∷ filter p xs) (filter p xs) ≡ [] → (b || list_any p xs) ≡ false
    by true more h = absurd (cc)
    by false more h = more h

empty_list : {X : Type 0} (xs : List X) → length xs ≡ 0 → xs ≡ []
empty_list [] h = refl
empty_list (x ∷ xs) h = absurd (omega arith)

counted : (files : Tree) (dir : List ℕ) (paths : List (List ℕ)) → AreGoPaths files dir paths → length paths ≡ length (filter is_go_file (names_in dir files))
counted files dir paths are = ap length are.paths_are ∙ length-map are.names (path_in dir) ∙ length_permutation _ are.names are.listed.all

pub no_paths : (files : Tree) (dir : List ℕ) (paths : List (List ℕ)) → AreGoPaths files dir paths → length paths ≡ 0 → has_go_files files dir ≡ false
no_paths files dir paths are none = filter_any is_go_file (names_in dir files) (empty_list _ (sym (counted files dir paths are) ∙ none))

pub some_paths : (files : Tree) (dir : List ℕ) (paths : List (List ℕ)) → AreGoPaths files dir paths → 0 < length paths → has_go_files files dir ≡ true
some_paths files dir paths are some = by (has_go_files files dir) refl
  where
    by : (b : Bool) → has_go_files files dir ≡ b → has_go_files files dir ≡ true
    by true e = e
    by false e =
        let none : length (filter is_go_file (names_in dir files)) ≡ 0 = ap length (any_filter is_go_file (names_in dir files) e) in
        absurd (omega (arith, counted files dir paths are))

-- ---- a file that is listed is there

abbrev IsThere : Tree → List ℕ → Type 0
IsThere files path = is_file files path ≡ true

or_second : (a b : Bool) → b ≡ true → (a || b) ≡ true
or_second true b h = refl
or_second false b h = h

or_first : (a b : Bool) → a ≡ true → (a || b) ≡ true
or_first true b h = refl
or_first false b h = absurd (true≢false (sym h))

is_itself : (path : List ℕ) → bytes_eq path path ≡ true
is_itself path = (bytes_eq-Decides path path).1 refl

there_below : (dir rest path : List ℕ) → starts_with nat_eq path (dir ++ codes "/") ≡ true → rest ≡ drop (length dir + 1) path → with_slash dir rest ≡ path
there_below dir rest path starts cut =
    let front = dir ++ codes "/" in
    let long : length front ≡ length dir + 1 = length-append dir (codes "/") in
    ap (λ l. front ++ l) (cut ∙ ap (λ n. drop n path) (sym long)) ∙ sym ((starts_is Decides-eqb path front (starts_with nat_eq path front) refl).0 starts)

rest_is : (dir path rest : List ℕ) → rest_below dir path ≡ Some rest → path_in dir rest ≡ path
rest_is dir path rest h = by (bytes_eq dir (codes ".")) (starts_with nat_eq path (dir ++ codes "/")) refl h
  where
    by : (here below : Bool) → starts_with nat_eq path (dir ++ codes "/") ≡ below → (if here then Some path else if below then Some (drop (length dir + 1) path) else None) ≡ Some rest
        → (if here then rest else with_slash dir rest) ≡ path
    by true below e h = cc
    by false true e h = there_below dir rest path e (cc)
    by false false e h = absurd (cc)

component_is : (rest name : List ℕ) → one_component rest ≡ Some name → rest ≡ name
component_is rest name h = by (list_any (λ byte. nat_eq byte 47) rest) h
  where
    by : (b : Bool) → (if b then None else Some rest) ≡ Some name → rest ≡ name
    by true h = cc
    by false h = cc

name_is : (dir path name : List ℕ) → name_in dir path ≡ Some name → path_in dir name ≡ path
name_is dir path name h = by (rest_below dir path) refl h
  where
    by : (rest : Option (List ℕ)) → rest_below dir path ≡ rest → option_and_then one_component rest ≡ Some name → path_in dir name ≡ path
    by None e h = absurd (cc)
    by (Some rest) e h = ap (path_in dir) (sym (component_is rest name h)) ∙ rest_is dir path rest e

names_there : (dir : List ℕ) (files : Tree) → All (λ name. IsThere files (path_in dir name)) (names_in dir files)
names_there dir [] = All-nil (λ name. IsThere [] (path_in dir name))
names_there dir (file ∷ files) = by (is_file files file.0) (later (names_there dir files))
  where
    later : All (λ name. IsThere files (path_in dir name)) (names_in dir files) → All (λ name. IsThere (file ∷ files) (path_in dir name)) (names_in dir files)
    later all = All-weaker (λ name. IsThere files (path_in dir name)) (λ name. IsThere (file ∷ files) (path_in dir name))
        (λ name h. or_second (bytes_eq file.0 (path_in dir name)) (is_file files (path_in dir name)) h) (names_in dir files) all

    here : (name : Option (List ℕ)) → name_in dir file.0 ≡ name → All (λ name. IsThere (file ∷ files) (path_in dir name)) (names_in dir files)
        → All (λ name. IsThere (file ∷ files) (path_in dir name)) (with_name name (names_in dir files))
    here None e all = all
    here (Some name) e all =
        All-cons (λ name. IsThere (file ∷ files) (path_in dir name)) name (names_in dir files)
        (or_first (bytes_eq file.0 (path_in dir name)) (is_file files (path_in dir name)) (ap (bytes_eq file.0) (name_is dir file.0 name e) ∙ is_itself file.0)) all

    by : (b : Bool) → All (λ name. IsThere (file ∷ files) (path_in dir name)) (names_in dir files)
        → All (λ name. IsThere (file ∷ files) (path_in dir name)) (if b then names_in dir files else with_name (name_in dir file.0) (names_in dir files))
    by true all = all
    by false all = here (name_in dir file.0) refl all

file_there : (files : Tree) (path : List ℕ) → IsThere files path → is_some (file_at files path) ≡ true
file_there [] path h = absurd (true≢false (sym h))
file_there (file ∷ files) path h = by (is_file files path) (bytes_eq file.0 path) (file_there files path) h
  where
    by : (later here : Bool) → (later ≡ true → is_some (file_at files path) ≡ true) → (here || later) ≡ true
        → is_some (if later then file_at files path else if here then Some file.1 else None) ≡ true
    by true here rest h = rest refl
    by false true rest h = refl
    by false false rest h = absurd (true≢false (sym h))

text_there : (files : Tree) (path : List ℕ) → IsThere files path → is_some (text_at files path) ≡ true
text_there files path h = by (file_at files path) (file_there files path h)
  where
    by : (bytes : Option (List ℕ)) → is_some bytes ≡ true → is_some {T = FileText} (option_map (λ (bytes : List ℕ). record { path = path; bytes = bytes }) bytes) ≡ true
    by (Some bytes) h = refl
    by None h = absurd (true≢false (sym h))

all_texts : (files : Tree) (paths : List (List ℕ)) → AllByRecursion (IsThere files) paths → length (texts_at files paths) ≡ length paths
all_texts files [] all = refl
all_texts files (path ∷ paths) all = by (text_at files path) (text_there files path all.0) (all_texts files paths all.1)
  where
    by : (text : Option FileText) → is_some text ≡ true → length (texts_at files paths) ≡ length paths → length (cons_option text (texts_at files paths)) ≡ length (path ∷ paths)
    by (Some text) h more = ap suc more
    by None h more = absurd (true≢false (sym h))

-- each Go file of a directory has its text
pub listed_texts : (files : Tree) (dir : List ℕ) (paths : List (List ℕ)) → AreGoPaths files dir paths → length (texts_at files paths) ≡ length paths
listed_texts files dir paths are =
    let all : All (λ name. IsThere files (path_in dir name)) are.names =
    All-permutation (λ name. IsThere files (path_in dir name)) _ _ are.listed.all (All-filter is_go_file (λ name. IsThere files (path_in dir name)) (names_in dir files) (names_there dir files)) in
    let there : All (IsThere files) (map (path_in dir) are.names) = All-map (IsThere files) (path_in dir) are.names all in
    subst (λ paths. length (texts_at files paths) ≡ length paths) (sym are.paths_are) (all_texts files (map (path_in dir) are.names) (recursion_from_All (IsThere files) (map (path_in dir) are.names) there))

-- a directory that is imported has a text
pub directory_texts : (files : Tree) (named : Option (List ℕ)) (paths : List (List ℕ)) → IsDirectory files named paths → texts_at files paths ≡ [] → ⊥
directory_texts files named paths is none =
    let many : length paths ≡ 0 = sym (listed_texts files is.dir paths is.listed) ∙ ap length none in
    true≢false (sym is.some ∙ no_paths files is.dir paths is.listed many)
