-- A map of files as a tree.
use Rattle.std.proofs.Common.{◌≡◌, ℕ, Bool, true, false, ◌||◌, cond, List, [], ◌∷◌, Option, None, Some, option_map, refl, sym, ap, ◌∙◌, bytes_eq, Vec, String, string_bytes, if◌then◌else◌, subst}
use Rattle.std.specs.declared.alloc.Global.{Global}
use Rattle.std.specs.BTreeMap.{BTreeMap, IsOrdered, UpdatesBy, is_at, get_by_text}
use Rattle.std.specs.Cmp.Lexicographic.{slice_cmp}
use Rattle.std.specs.List.{AllByRecursion}
use Rattle.std.specs.List.Sorted.{IsStrictlySortedBy}
use Rattle.std.specs.Map.{keys_of, lookup}
use Rattle.std.specs.Ordering.{nat_cmp, is_eq}
use Rattle.std.specs.declared.cmp.Ordering.TheVariants.{Less}
use Rattle.std.specs.String.{string_cmp}
use Rattle.std.proofs.lemmas.Bool.Decides.{same_from_decides, Decides-like}
use Rattle.std.proofs.lemmas.Map.Keys.{sorted_head, sorted_tail}
use Rattle.std.proofs.lemmas.Map.Text.{is_eq-slice_cmp, btree_map_updates_text}
use Rattle.std.proofs.lemmas.Slice.Eq.{bytes_eq-Decides}
use Rattle.go_base.specs.Devices.{Tree, is_file, file_at, names_in, name_in, with_name}
use Rattle.go_devices.specs.Memory.{tree_of}

abbrev Entries : Type 0
Entries = List (String Global × Vec ℕ Global)

-- no two files have one path
abbrev pub IsDistinctTree : Tree → Type 0
IsDistinctTree [] = Unit {0}
IsDistinctTree (file ∷ files) = (is_file files file.0 ≡ false) × IsDistinctTree files

swapped : (x y : List ℕ) → bytes_eq x y ≡ bytes_eq y x
swapped x y = same_from_decides (bytes_eq x y) (bytes_eq y x) (bytes_eq-Decides x y) (Decides-like (bytes_eq y x) sym sym (bytes_eq-Decides y x))

apart : (x y : List ℕ) → slice_cmp nat_cmp x y ≡ Less → bytes_eq y x ≡ false
apart x y e = swapped y x ∙ sym (is_eq-slice_cmp x y) ∙ ap is_eq e

not_among : (path : String Global) (entries : Entries) → AllByRecursion (λ key. string_cmp path key ≡ Less) (keys_of entries)
    → is_file (tree_of entries) (string_bytes path) ≡ false
not_among path [] all = refl
not_among path (entry ∷ entries) all = rw (apart _ _ all.0, not_among path entries all.1)

pub distinct_tree : (entries : Entries) → IsStrictlySortedBy string_cmp (keys_of entries) → IsDistinctTree (tree_of entries)
distinct_tree [] sorted = tt
distinct_tree (entry ∷ entries) sorted =
    (not_among entry.0 entries (sorted_head string_cmp entry.0 (keys_of entries) sorted), distinct_tree entries (sorted_tail string_cmp entry.0 (keys_of entries) sorted))

absent_step : (here later : Bool) (x y : Option (List ℕ)) → (here || later) ≡ false → (if later then x else (if here then y else None)) ≡ None
absent_step false false x y h = refl
absent_step false true x y h = cc
absent_step true later x y h = cc

absent : (files : Tree) (path : List ℕ) → is_file files path ≡ false → file_at files path ≡ None
absent [] path h = refl
absent (file ∷ files) path h = absent_step (bytes_eq file.0 path) (is_file files path) (file_at files path) (Some file.1) h

-- the bytes of the file that a search finds
abbrev pub found : Entries → List ℕ → Option (List ℕ)
found entries path = option_map (λ bytes. bytes.items) (lookup (is_at (λ key. slice_cmp nat_cmp path (string_bytes key))) entries)

found_step : (here later same : Bool) (file : Vec ℕ Global) (older : Option (Vec ℕ Global)) (old : Option (List ℕ)) → same ≡ here
    → (here ≡ true → later ≡ false) → (later ≡ false → old ≡ None) → old ≡ option_map (λ bytes. bytes.items) older
    → (if later then old else (if here then Some file.items else None)) ≡ option_map (λ bytes. bytes.items) (cond same (Some file) older)
found_step true true same file older old e first none known = absurd (let h = first refl in cc)
found_step true false true file older old e first none known = refl
found_step true false false file older old e first none known = absurd (cc)
found_step false later true file older old e first none known = absurd (cc)
found_step false true false file older old e first none known = known
found_step false false false file older old e first none known = sym (none refl) ∙ known

pub file_at_found : (entries : Entries) (path : List ℕ) → IsDistinctTree (tree_of entries) → file_at (tree_of entries) path ≡ found entries path
file_at_found [] path distinct = refl
file_at_found (entry ∷ entries) path distinct =
    found_step (bytes_eq (string_bytes entry.0) path) (is_file (tree_of entries) path) (is_eq (slice_cmp nat_cmp path (string_bytes entry.0)))
    entry.1 (lookup (is_at (λ key. slice_cmp nat_cmp path (string_bytes key))) entries) (file_at (tree_of entries) path)
    (is_eq-slice_cmp path (string_bytes entry.0) ∙ swapped path (string_bytes entry.0))
    (λ h. subst (λ p. is_file (tree_of entries) p ≡ false) ((bytes_eq-Decides (string_bytes entry.0) path).0 h) distinct.0)
    (absent (tree_of entries) path)
    (file_at_found entries path distinct.1)

-- what a search in the map finds is what stands in the tree
pub file_at_got : (entries : Entries) (files : Tree) (path : List ℕ) (got : Option (Vec ℕ Global)) → IsStrictlySortedBy string_cmp (keys_of entries)
    → tree_of entries ≡ files → got ≡ lookup (is_at (λ key. slice_cmp nat_cmp path (string_bytes key))) entries
    → file_at files path ≡ option_map (λ bytes. bytes.items) got
file_at_got entries files path got sorted same e =
    ap (λ tree. file_at tree path) (sym same) ∙ file_at_found entries path (distinct_tree entries sorted) ∙ ap (option_map (λ bytes. bytes.items)) (sym e)

chosen : (here : Bool) (bytes : Vec ℕ Global) (older : Option (Vec ℕ Global))
    → option_map (λ file. file.items) (cond here (Some bytes) older) ≡ (if here then Some bytes.items else option_map (λ file. file.items) older)
chosen true bytes older = refl
chosen false bytes older = refl

-- the files after one was put in
pub put : (path : List ℕ) (old new : BTreeMap (String Global) (Vec ℕ Global)) (bytes : Vec ℕ Global) → IsOrdered string_cmp old → IsOrdered string_cmp new
    → UpdatesBy string_cmp (λ key. slice_cmp nat_cmp path (string_bytes key)) old new (Some bytes) → (other : List ℕ)
    → file_at (tree_of new.entries) other ≡ (if bytes_eq path other then Some bytes.items else file_at (tree_of old.entries) other)
put path old new bytes was is updates other =
    file_at_found new.entries other (distinct_tree new.entries is)
    ∙ ap (option_map (λ file. file.items)) (btree_map_updates_text path old new (Some bytes) updates other)
    ∙ chosen (bytes_eq path other) bytes (get_by_text old other)
    ∙ ap (λ before. if bytes_eq path other then Some bytes.items else before) (sym (file_at_found old.entries other (distinct_tree old.entries was)))

-- the names in a directory, from the first file on
pub names_in_step : (dir : List ℕ) (entry : String Global × Vec ℕ Global) (entries : Entries) → IsDistinctTree (tree_of (entry ∷ entries))
    → names_in dir (tree_of (entry ∷ entries)) ≡ with_name (name_in dir (string_bytes entry.0)) (names_in dir (tree_of entries))
names_in_step dir entry entries distinct = rw distinct.0 refl
