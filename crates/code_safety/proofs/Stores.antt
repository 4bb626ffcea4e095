-- Stores: what pointers and slices lead to, and what assignments and new cells keep.
use Rattle.std.proofs.Common.{◌≡◌, ◌<◌, ◌≤◌, ◌+◌, ◌-◌, ◌^◌, ℕ, ℤ, pos, ◌-ℤ◌, zero, suc, Bool, true, false, ◌||◌, if◌then◌else◌, List, [], ◌∷◌, ◌++◌, length, replicate, take, drop, Option, Some, None, Result, Ok, Err, refl, ap, sym, subst, ◌∙◌, slice_get, slice_index, slice_set, nat_lt, nat_le, int_lt, int_le, unsigned_abs, arith}
use Rattle.std.proofs.Common.{length-take, length-drop, le-leb, is_none}
use Rattle.std.proofs.lemmas.Bool.{or_parts, cond_both, lt-leb}
use Rattle.std.proofs.lemmas.Int.{ints}
use Rattle.std.proofs.lemmas.Option.{none-some, option_and_then_some}
use Rattle.std.specs.Option.{option_and_then, option_map_or}
use Rattle.code_safety.proofs.Forms.{parts_in}
use Rattle.code_safety.proofs.Growing.{cells_grow, maps_grow}
use Rattle.code_safety.proofs.Lists as lists
use Rattle.code_safety.proofs.Sames.{is_of_alike, items_alike}
use Rattle.code_safety.proofs.Shapes.{Alike, alike_sym, alike_of, alike_under}
use Rattle.code_safety.proofs.Values.{Typing, Grows, Home, one, many, MapHome, Fits, PartsFit, IsOf, AreOf, AllOf, Points, PointsFrom, PointsInto, Slices, SlicesFrom, SlicesInto, HomeFits, IsStore, item_types, home_items, part_home, under_of}
use Rattle.go_base.specs.declared.ids.CellId.{CellId}
use Rattle.go_base.specs.declared.ids.TypeId.{TypeId}
use Rattle.go_store.specs.Arrays.{array_of, values_in, elements, overwritten, with_run, run_of, run_among}
use Rattle.go_store.specs.Cells.{value_at, value_in, read_at, updated, changed_in}
use Rattle.go_store.specs.Slices.{later, last_step, sliced, are_no_bounds, whole_array, element_at, element_of, run_in, with_run_in, elements_of, slice_of_new}
use Rattle.go_store.specs.Stores.{Stored, made, loaded, part_in, put_in, with_part_in, changed_item}
use Rattle.go_type.specs.declared.term.TypeTerm.{TypeTerm}
use Rattle.go_type.specs.declared.term.TypeTerm.TheVariants as term
use Rattle.go_value.specs.Address.{part_of, settled, nil_pointer}
use Rattle.go_value.specs.Texts.{place_at}
use Rattle.go_value.specs.Values.{Val, Parts, none, part, parts}
use Rattle.go_value.specs.declared.address.Pointer.{Pointer}
use Rattle.go_value.specs.declared.address.SliceValue.{SliceValue}
use Rattle.go_value.specs.declared.faults.Fault.{Fault}
use Rattle.go_value.specs.declared.faults.Fault.TheVariants as fault
use Rattle.ssa_ir.specs.declared.code.Code.{Code}
use Rattle.std.specs.List.{AllZip}

-- ---- parts of values

-- the parts are the types' in number, and each is of its type
pub parts_are : (c : Code) (t : Typing) (its : Parts) (ids : List TypeId) → PartsFit c t its ids → AreOf c t (values_in its) ids
parts_are c t none [] h = tt
parts_are c t none (of ∷ ids) h = absurd h
parts_are c t (part it blank rest) [] h = absurd h
parts_are c t (part it blank rest) (of ∷ ids) h = (h.0, parts_are c t rest ids h.1)

pub parts_of_items : (c : Code) (t : Typing) (items : List Val) (ids : List TypeId) → AreOf c t items ids
    → PartsFit c t (elements items) ids
parts_of_items c t [] [] h = tt
parts_of_items c t [] (of ∷ ids) h = absurd h
parts_of_items c t (it ∷ items) [] h = absurd h
parts_of_items c t (it ∷ items) (of ∷ ids) h = (h.0, parts_of_items c t items ids h.1)

value_in_is : (c : Code) (t : Typing) (its : Parts) (ids : List TypeId) (n : ℕ) (id : TypeId) → PartsFit c t its ids
    → slice_get ids n ≡ Some id → (found : Val) × ((value_in its n ≡ Some found) × IsOf c t found id)
value_in_is c t none [] n id h there = absurd (none-some id there)
value_in_is c t none (of ∷ ids) n id h there = absurd h
value_in_is c t (part it blank rest) [] n id h there = absurd h
value_in_is c t (part it blank rest) (of ∷ ids) zero id h there =
    (it, (refl, subst (λ of. IsOf c t it of) (lists.some_same of id there) h.0))
value_in_is c t (part it blank rest) (of ∷ ids) (suc n) id h there = value_in_is c t rest ids n id h.1 there

-- a part by its number
pub part_is : (c : Code) (t : Typing) (it : Val) (of : Option TypeTerm) (ids : List TypeId) (n : ℕ) (id : TypeId)
    → item_types of ≡ Some ids → slice_get ids n ≡ Some id → Fits c t it of
    → (found : Val) × ((value_at it n ≡ Some found) × IsOf c t found id)
part_is c t it of ids n id items there h =
    let its = parts_in c t it of ids items h in
    let found = value_in_is c t its.0 ids n id its.1.1 there in
    (found.0, (ap (λ it. value_at it n) its.1.0 ∙ found.1.0, found.1.1))

changed_in_fits : (c : Code) (t : Typing) (change : Val → Val) (its : Parts) (ids : List TypeId) (n : ℕ) (id : TypeId)
    → slice_get ids n ≡ Some id → ((v : Val) → IsOf c t v id → IsOf c t (change v) id) → PartsFit c t its ids
    → PartsFit c t (changed_in change its n) ids
changed_in_fits c t change none ids n id there keeps h = h
changed_in_fits c t change (part it blank rest) [] n id there keeps h = absurd h
changed_in_fits c t change (part it blank rest) (of ∷ ids) zero id there keeps h =
    let same = lists.some_same of id there in
    (subst (λ of. IsOf c t (change it) of) (sym same) (keeps it (subst (λ of. IsOf c t it of) same h.0)), h.1)
changed_in_fits c t change (part it blank rest) (of ∷ ids) (suc n) id there keeps h =
    (h.0, changed_in_fits c t change rest ids n id there keeps h.1)

-- ---- what homes hold

-- what has parts is an array, a struct or a tuple
home_parts : (c : Code) (t : Typing) (it : Val) (home : Home) (ids : List TypeId) → home_items c home ≡ Some ids → HomeFits c t it home
    → (its : Parts) × ((it ≡ parts its) × PartsFit c t its ids)
home_parts c t it (one of) ids items h = parts_in c t it (under_of c of) ids items h
home_parts c t (parts its) (many others) ids items h =
    (its, (refl, subst (λ ids. PartsFit c t its ids) (lists.some_same others ids items) h))
home_parts c t _ (many others) ids items h = absurd h

parts_home : (c : Code) (t : Typing) (its : Parts) (home : Home) (ids : List TypeId) → home_items c home ≡ Some ids → PartsFit c t its ids
    → HomeFits c t (parts its) home
parts_home c t its (one of) ids items h = (ids, (items, h))
parts_home c t its (many others) ids items h = subst (λ ids. PartsFit c t its ids) (sym (lists.some_same others ids items)) h

-- one step into a home
record Step (c : Code) (home : Home) (step : ℕ) (steps : List ℕ) (inner : Home) : Type 0 where
  ids : List TypeId
  items : home_items c home ≡ Some ids
  of : TypeId
  there : slice_get ids step ≡ Some of
  rest : part_home c (one of) steps ≡ Some inner

step_of : (c : Code) (home : Home) (step : ℕ) (steps : List ℕ) (inner : Home) → part_home c home (step ∷ steps) ≡ Some inner
    → Step c home step steps inner
step_of c home step steps inner is =
    option_and_then_some (λ ids. option_and_then (λ of. part_home c (one of) steps) (slice_get ids step)) (home_items c home) inner is
    (λ ids items later.
    option_and_then_some (λ of. part_home c (one of) steps) (slice_get ids step) inner later
    (λ of there rest. record { ids = ids; items = items; of = of; there = there; rest = rest }))

home_append : (c : Code) (home inner : Home) (path rest : List ℕ) → part_home c home path ≡ Some inner
    → part_home c home (path ++ rest) ≡ part_home c inner rest
home_append c home inner [] rest is = ap (λ home. part_home c home rest) (lists.some_same home inner is)
home_append c home inner (step ∷ path) rest is =
    let s = step_of c home step path inner is in
    ap (option_and_then (λ ids. option_and_then (λ of. part_home c (one of) (path ++ rest)) (slice_get ids step))) s.items
    ∙ ap (option_and_then (λ of. part_home c (one of) (path ++ rest))) s.there ∙ home_append c (one s.of) inner path rest s.rest

-- the part at a path
reads : (c : Code) (t : Typing) (it : Val) (home inner : Home) (path : List ℕ) → HomeFits c t it home → part_home c home path ≡ Some inner
    → (found : Val) × ((read_at it path ≡ Some found) × HomeFits c t found inner)
reads c t it home inner [] h is = (it, (refl, subst (λ home. HomeFits c t it home) (lists.some_same home inner is) h))
reads c t it home inner (step ∷ path) h is =
    let s = step_of c home step path inner is in
    let its = home_parts c t it home s.ids s.items h in
    let at = value_in_is c t its.0 s.ids step s.of its.1.1 s.there in
    let found = reads c t at.0 (one s.of) inner path at.1.1 s.rest in
    (found.0, (ap (λ it. read_at it (step ∷ path)) its.1.0 ∙ ap (option_and_then (λ inner. read_at inner path)) at.1.0 ∙ found.1.0, found.1.1))

-- a change of the part at a path
updated_fits : (c : Code) (t : Typing) (change : Val → Val) (it : Val) (home inner : Home) (path : List ℕ)
    → ((v : Val) → HomeFits c t v inner → HomeFits c t (change v) inner) → part_home c home path ≡ Some inner → HomeFits c t it home
    → HomeFits c t (updated change it path) home
updated_fits c t change it home inner [] keeps is h =
    let same = lists.some_same home inner is in
    subst (λ home. HomeFits c t (change it) home) (sym same) (keeps it (subst (λ home. HomeFits c t it home) same h))
updated_fits c t change it home inner (step ∷ path) keeps is h =
    let s = step_of c home step path inner is in
    let its = home_parts c t it home s.ids s.items h in
    subst (λ it. HomeFits c t (updated change it (step ∷ path)) home) (sym its.1.0)
    (parts_home c t (changed_in (λ inner. updated change inner path) its.0 step) home s.ids s.items
    (changed_in_fits c t (λ inner. updated change inner path) its.0 s.ids step s.of s.there
    (λ v k. updated_fits c t change v (one s.of) inner path keeps s.rest k) its.1.1))

zip_changed : {B : Type 0} (R : Val → B → Type 0) (change : Val → Val) (xs : List Val) (ys : List B) (n : ℕ) (y : B) → slice_get ys n ≡ Some y
    → ((v : Val) → R v y → R (change v) y) → AllZip R xs ys → AllZip R (changed_item change xs n) ys
zip_changed R change [] ys n y there keeps h = h
zip_changed R change (x ∷ xs) [] n y there keeps h = absurd h
zip_changed R change (x ∷ xs) (z ∷ ys) zero y there keeps h =
    let same = lists.some_same z y there in
    (subst (λ z. R (change x) z) (sym same) (keeps x (subst (λ z. R x z) same h.0)), h.1)
zip_changed R change (x ∷ xs) (z ∷ ys) (suc n) y there keeps h = (h.0, zip_changed R change xs ys n y there keeps h.1)

-- ---- what pointers lead to

-- the part of a cell at a path
part_there : (c : Code) (t : Typing) (store : Stored) → IsStore c t store → (cell : CellId) (home inner : Home) (path : List ℕ)
    → slice_get t.cells cell.number ≡ Some home → part_home c home path ≡ Some inner
    → (it : Val) × ((part_in store cell path ≡ Some it) × HomeFits c t it inner)
part_there c t store is cell home inner path there at =
    let it = lists.zip_right (HomeFits c t) store.cells t.cells is.cells cell.number home there in
    let found = reads c t it.0 home inner path it.1.1 at in
    (found.0, (ap (option_and_then (λ it. read_at it path)) it.1.0 ∙ found.1.0, found.1.1))

pub loads : (c : Code) (t : Typing) (store : Stored) → IsStore c t store → (at : Pointer) (cell : CellId) (base : TypeId)
    → at.cell ≡ Some cell → Points c t at base → (it : Val) × ((loaded store at ≡ Some it) × IsOf c t it base)
loads c t store is at cell base whole points =
    let into : PointsInto c t cell at.path base = subst (λ cell. PointsFrom c t cell at.path base) whole points in
    let found = part_there c t store is cell into.home (one into.of) at.path into.there into.at in (
      found.0,
      (
        ap (option_and_then (λ cell. part_in store cell at.path)) whole ∙ found.1.0,
        is_of_alike c t found.0 into.of base into.alike found.1.1,
      ),
    )

-- a change of a part of a cell
changes : (c : Code) (t : Typing) (store : Stored) → IsStore c t store → (change : Val → Val) (cell : CellId) (home inner : Home)
    (path : List ℕ) → slice_get t.cells cell.number ≡ Some home → part_home c home path ≡ Some inner
    → ((v : Val) → HomeFits c t v inner → HomeFits c t (change v) inner) → IsStore c t (with_part_in change store cell path)
changes c t store is change cell home inner path there at keeps =
    record {
      cells =
          zip_changed (HomeFits c t) (λ it. updated change it path) store.cells t.cells cell.number home there
          (λ v h. updated_fits c t change v home inner path keeps at h) is.cells;
      maps = is.maps;
    }

pub puts : (c : Code) (t : Typing) (store : Stored) → IsStore c t store → (at : Pointer) (base : TypeId) (new : Val)
    → Points c t at base → IsOf c t new base → IsStore c t (put_in new store at)
puts c t store is at base new points h = by at.cell points
  where
    by : (cell : Option CellId) → PointsFrom c t cell at.path base
        → IsStore c t (option_map_or (λ cell. with_part_in (λ _. new) store cell at.path) cell store)
    by None points = is
    by (Some cell) into =
        changes c t store is (λ _. new) cell into.home (one into.of) at.path into.there into.at
        (λ v k. is_of_alike c t new base into.of (alike_sym c.types into.of base into.alike) h)

-- the pointer to a part
pub part_points : (c : Code) (t : Typing) (at : Pointer) (base : TypeId) (ids : List TypeId) (n : ℕ) (id : TypeId)
    → item_types (under_of c base) ≡ Some ids → slice_get ids n ≡ Some id → Points c t at base
    → Points c t (part_of at n) id
part_points c t at base ids n id items there points = by at.cell points
  where
    by : (cell : Option CellId) → PointsFrom c t cell at.path base → PointsFrom c t cell (at.path ++ n ∷ []) id
    by None points = tt
    by (Some cell) into =
        let others = items_alike c (under_of c base) (under_of c into.of)
        (alike_under c.types base into.of (alike_sym c.types into.of base into.alike)) ids items in
        let other = lists.zip_left (Alike c.types) ids others.0 others.1.1 n id there in
        record {
          home = into.home;
          there = into.there;
          of = other.0;
          at =
              home_append c into.home (one into.of) at.path (n ∷ []) into.at
              ∙ ap (option_and_then (λ ids. option_and_then (λ of. part_home c (one of) []) (slice_get ids n))) others.1.0
              ∙ ap (option_and_then (λ of. part_home c (one of) [])) other.1.0;
          alike = alike_sym c.types id other.0 other.1.1;
        }

-- ---- new cells

abbrev pub with_home : Home → Typing → Typing
with_home home t = record t { cells = t.cells ++ home ∷ [] }

pub home_grows : (t : Typing) (home : Home) → Grows t (with_home home t)
home_grows t home =
    record {
      cells = λ n other is. lists.get_front t.cells (home ∷ []) n other is;
      maps = λ n other is. is;
      chans = λ n of is. is;
    }

pub makes : (c : Code) (t : Typing) (store : Stored) → IsStore c t store → (it : Val) (home : Home) → HomeFits c t it home
    → IsStore c (with_home home t) (made store it)
makes c t store is it home h =
    let grown = with_home home t in
    let grows = home_grows t home in
    record {
      cells =
          lists.zip_more (HomeFits c grown) store.cells t.cells it home (cells_grow c t grown grows store.cells t.cells is.cells)
          (cells_grow c t grown grows (it ∷ []) (home ∷ []) (h, tt)).0;
      maps = maps_grow c t grown grows store.maps t.maps is.maps;
    }

-- the cell that is made next
pub new_home : (c : Code) (t : Typing) (store : Stored) (home : Home) → IsStore c t store
    → slice_get (with_home home t).cells (length store.cells) ≡ Some home
new_home c t store home is =
    ap (slice_get (t.cells ++ home ∷ [])) (lists.zip_length (HomeFits c t) store.cells t.cells is.cells) ∙ lists.get_last t.cells home

abbrev pub with_map_home : MapHome → Typing → Typing
with_map_home home t = record t { maps = t.maps ++ home ∷ [] }

pub map_home_grows : (t : Typing) (home : MapHome) → Grows t (with_map_home home t)
map_home_grows t home =
    record {
      cells = λ n other is. is;
      maps = λ n other is. lists.get_front t.maps (home ∷ []) n other is;
      chans = λ n of is. is;
    }

-- ---- the last step of a path

length_more : (front : List ℕ) (last : ℕ) → length (front ++ last ∷ []) ≡ suc (length front)
length_more [] last = refl
length_more (x ∷ front) last = ap suc (length_more front last)

last_place : (front : List ℕ) (last : ℕ) → length (front ++ last ∷ []) - 1 ≡ length front
last_place front last = let more = length_more front last in omega arith

take_front : (front : List ℕ) (last : ℕ) → take (length front) (front ++ last ∷ []) ≡ front
take_front [] last = refl
take_front (x ∷ front) last = ap (λ xs. x ∷ xs) (take_front front last)

index_last : (front : List ℕ) (last : ℕ) → slice_index (front ++ last ∷ []) (length front) ≡ last
index_last [] last = refl
index_last (x ∷ front) last = index_last front last

set_last : (front : List ℕ) (last new : ℕ) → slice_set (front ++ last ∷ []) (length front) new ≡ front ++ new ∷ []
set_last [] last new = refl
set_last (x ∷ front) last new = ap (λ xs. x ∷ xs) (set_last front last new)

module _ (path front : List ℕ) (last : ℕ) (is : path ≡ front ++ last ∷ []) where
  front_is : take (length path - 1) path ≡ front
  front_is =
      ap (λ path. take (length path - 1) path) is ∙ ap (λ n. take n (front ++ last ∷ [])) (last_place front last) ∙ take_front front last

  last_is : slice_index path (length path - 1) ≡ last
  last_is =
      ap (λ path. slice_index path (length path - 1)) is ∙ ap (slice_index (front ++ last ∷ [])) (last_place front last)
      ∙ index_last front last

  moved_is : (by : ℕ) → slice_set path (length path - 1) (slice_index path (length path - 1) + by) ≡ front ++ (last + by) ∷ []
  moved_is by =
      ap (λ n. slice_set path (length path - 1) (n + by)) last_is ∙ ap (λ path. slice_set path (length path - 1) (last + by)) is
      ∙ ap (λ n. slice_set (front ++ last ∷ []) n (last + by)) (last_place front last) ∙ set_last front last (last + by)

-- ---- slices

-- the first elements of a slice
pub run_is : (c : Code) (t : Typing) (store : Stored) → IsStore c t store → (it : SliceValue) (elem : TypeId) (n : ℕ)
    → Slices c t it elem → 0 < n → n ≤ it.cap
    → (items : List Val) × ((run_in store it.at n ≡ Some items) × ((length items ≡ n) × AllOf c t items elem))
run_is c t store is it elem n slices positive within = by it.at.cell slices
  where
    by : (cell : Option CellId) → SlicesFrom c t cell it.at.path it.len it.cap elem
        → (items : List Val) × ((option_and_then (λ array. run_of array (last_step it.at) n)
        (option_and_then (λ cell. part_in store cell (take (length it.at.path - 1) it.at.path)) cell) ≡ Some items)
        × ((length items ≡ n) × AllOf c t items elem))
    by None h = absurd (let e = h.1 in omega arith)
    by (Some cell) h =
        let found = part_there c t store is cell h.home h.array h.front h.there h.at in
        let its = home_parts c t found.0 h.array h.ids h.items found.1.1 in
        let values = values_in its.0 in
        let are = parts_are c t its.0 h.ids its.1.1 in
        let count = lists.zip_length (IsOf c t) values h.ids are in
        let fits = h.fits in
        let items = take n (drop h.last values) in
        let dropped = length-drop h.last values in
        let taken = length-take n (drop h.last values) in
        let enough : nat_le (h.last + n) (length values) ≡ true = le-leb (h.last + n) (length values) (omega arith) in (
          items,
          (
            ap (λ path. option_and_then (λ array. run_of array (last_step it.at) n) (part_in store cell path))
                (front_is it.at.path h.front h.last h.is_path)
                ∙ ap (option_and_then (λ array. run_of array (last_step it.at) n)) found.1.0 ∙ ap (λ v. run_of v (last_step it.at) n) its.1.0
                ∙ ap (λ k. run_among values k n) (last_is it.at.path h.front h.last h.is_path) ∙ ap (λ b. if b then Some items else None) enough,
            (
              omega arith,
              λ k v there.
                  let behind = lists.get_drop h.last values k v (lists.get_take n (drop h.last values) k v there) in
                  let of = lists.zip_left (IsOf c t) values h.ids are behind.0 v behind.1 in
                  is_of_alike c t v of.0 elem (h.each behind.0 of.0 of.1.0) of.1.1,
            ),
          ),
        )

pub elements_are : (c : Code) (t : Typing) (store : Stored) → IsStore c t store → (it : SliceValue) (elem : TypeId)
    → Slices c t it elem
    → (items : List Val) × ((elements_of store it ≡ Some items) × ((length items ≡ it.len) × AllOf c t items elem))
elements_are c t store is it elem slices = by it.len refl
  where
    within : it.len ≤ it.cap
    within = by it.at.cell slices
      where
        by : (cell : Option CellId) → SlicesFrom c t cell it.at.path it.len it.cap elem → it.len ≤ it.cap
        by None h = let e = h.0 in omega arith
        by (Some cell) h = h.within

    by : (n : ℕ) → it.len ≡ n
        → (items : List Val) × (((if nat_le n 0 then Some [] else run_in store it.at n) ≡ Some items)
        × ((length items ≡ n) × AllOf c t items elem))
    by zero e = ([], (refl, (refl, λ k v there. absurd (none-some v there))))
    by (suc n) e =
        let run = run_is c t store is it elem (suc n) slices (omega arith) (omega (arith, within)) in
        (run.0, (ap (λ b. if b then Some [] else run_in store it.at (suc n)) (lt-leb (suc n) 0 (omega arith)) ∙ run.1.0, run.1.1))

overwritten_fits : (c : Code) (t : Typing) (elem : TypeId) (items : List Val) (its : Parts) (ids : List TypeId) (first : ℕ)
    → ((n : ℕ) (of : TypeId) → slice_get ids n ≡ Some of → Alike c.types of elem) → AllOf c t items elem → PartsFit c t its ids
    → PartsFit c t (overwritten (elements items) its first) ids
overwritten_fits c t elem items none ids first each all h = h
overwritten_fits c t elem items (part it blank rest) [] first each all h = absurd h
overwritten_fits c t elem items (part it blank rest) (of ∷ ids) (suc first) each all h =
    (h.0, overwritten_fits c t elem items rest ids first (λ n. each (suc n)) all h.1)
overwritten_fits c t elem [] (part it blank rest) (of ∷ ids) zero each all h = h
overwritten_fits c t elem (new ∷ items) (part it blank rest) (of ∷ ids) zero each all h = (
  is_of_alike c t new elem of (alike_sym c.types of elem (each 0 of refl)) (all 0 new refl),
  overwritten_fits c t elem items rest ids zero (λ n. each (suc n)) (λ n. all (suc n)) h.1,
)

-- elements in the places from one of a slice on
pub writes_run : (c : Code) (t : Typing) (store : Stored) → IsStore c t store → (it : SliceValue) (elem : TypeId)
    (items : List Val) → Slices c t it elem → AllOf c t items elem → IsStore c t (with_run_in (array_of items) store it.at)
writes_run c t store is it elem items slices all = by it.at.cell slices
  where
    by : (cell : Option CellId) → SlicesFrom c t cell it.at.path it.len it.cap elem
        → IsStore c t
        (option_map_or (λ cell. with_part_in (with_run (array_of items) (last_step it.at)) store cell (take (length it.at.path - 1) it.at.path)) cell store)
    by None h = is
    by (Some cell) h =
        changes c t store is (with_run (array_of items) (last_step it.at)) cell h.home h.array (take (length it.at.path - 1) it.at.path)
        h.there (ap (part_home c h.home) (front_is it.at.path h.front h.last h.is_path) ∙ h.at)
        (λ v k.
        let its = home_parts c t v h.array h.ids h.items k in
        subst (λ v. HomeFits c t (with_run (array_of items) (last_step it.at) v) h.array) (sym its.1.0)
        (parts_home c t (overwritten (elements items) its.0 (last_step it.at)) h.array h.ids h.items
        (overwritten_fits c t elem items its.0 h.ids (last_step it.at) h.each all its.1.1)))

-- where a pointer to an element goes
later_both : (P : Pointer → Type 0) (at : Pointer) (by : ℕ)
    → P (record at { path = slice_set at.path (length at.path - 1) (last_step at + by) }) → P at → P (later at by)
later_both P at by moves stays =
    cond_both (nat_lt (last_step at + by) (2 ^ 32)) (record at { path = slice_set at.path (length at.path - 1) (last_step at + by) }) at
    P (λ e. moves) (λ e. stays)

-- the slice from a place on
pub later_slices : (c : Code) (t : Typing) (it : SliceValue) (elem : TypeId) (by len cap : ℕ) → Slices c t it elem
    → by + cap ≤ it.cap → len ≤ cap → Slices c t (record { at = later it.at by; len = len; cap = cap }) elem
later_slices c t it elem by len cap slices fits within =
    later_both (λ p. SlicesFrom c t p.cell p.path len cap elem) it.at by (moves it.at.cell slices) (stays it.at.cell slices)
  where
    moves : (cell : Option CellId) → SlicesFrom c t cell it.at.path it.len it.cap elem
        → SlicesFrom c t cell (slice_set it.at.path (length it.at.path - 1) (last_step it.at + by)) len cap elem
    moves None h = let e = h.1 in (omega arith, omega arith)
    moves (Some cell) h =
        record {
          home = h.home;
          there = h.there;
          front = h.front;
          last = h.last + by;
          is_path = moved_is it.at.path h.front h.last h.is_path by;
          array = h.array;
          at = h.at;
          ids = h.ids;
          items = h.items;
          each = h.each;
          fits = let old = h.fits in omega arith;
          within = within;
        }

    stays : (cell : Option CellId) → SlicesFrom c t cell it.at.path it.len it.cap elem → SlicesFrom c t cell it.at.path len cap elem
    stays None h = let e = h.1 in (omega arith, omega arith)
    stays (Some cell) h =
        record {
          home = h.home;
          there = h.there;
          front = h.front;
          last = h.last;
          is_path = h.is_path;
          array = h.array;
          at = h.at;
          ids = h.ids;
          items = h.items;
          each = h.each;
          fits = let old = h.fits in omega arith;
          within = within;
        }

ok_or : {A : Type 0} → A → Result A Fault → A
ok_or x (Ok y) = y
ok_or x (Err fault) = x

ok_same : {A : Type 0} (x y : A) → ◌≡◌ {A = Result A Fault} (Ok x) (Ok y) → x ≡ y
unfolding ok_or
ok_same x y h = ap (ok_or x) h

IsFault : {A : Type 0} → Result A Fault → Type 0
IsFault (Ok y) = ⊥
IsFault (Err f) = Unit {0}

not_ok : {A : Type 0} (f : Fault) (y : A) → ◌≡◌ {A = Result A Fault} (Err f) (Ok y) → ⊥
unfolding IsFault
not_ok {A} f y h = subst (IsFault {A = A}) h tt

-- a place is within the length
pub placed : (index : ℤ) (len place : ℕ) → place_at index len ≡ Ok place → place < len
placed index len place is = by (int_lt index (pos 0) || int_le (pos len) index) refl is
  where
    by : (b : Bool) → (int_lt index (pos 0) || int_le (pos len) index) ≡ b
        → ◌≡◌ {A = Result ℕ Fault} (if b then Err (fault.Index index len) else Ok (unsigned_abs index)) (Ok place) → place < len
    by true e is = absurd (not_ok (fault.Index index len) place is)
    by false e is =
        let parts = or_parts (int_lt index (pos 0)) (int_le (pos len) index) e in
        let low = parts.0 in
        let high = parts.1 in
        let same = ok_same (unsigned_abs index) place is in
        omega (arith, ints)

-- the pointer to an element
element_into : (c : Code) (t : Typing) (cell : CellId) (path : List ℕ) (len cap : ℕ) (elem : TypeId)
    → (h : SlicesInto c t cell path len cap elem) → (at : List ℕ) (place : ℕ) → at ≡ h.front ++ place ∷ [] → place < length h.ids
    → PointsInto c t cell at elem
element_into c t cell path len cap elem h at place is below =
    let of = lists.below_get h.ids place below in
    record {
      home = h.home;
      there = h.there;
      of = of.0;
      at =
          ap (part_home c h.home) is ∙ home_append c h.home h.array h.front (place ∷ []) h.at
          ∙ ap (option_and_then (λ ids. option_and_then (λ of. part_home c (one of) []) (slice_get ids place))) h.items
          ∙ ap (option_and_then (λ of. part_home c (one of) [])) of.1;
      alike = h.each place of.0 of.1;
    }

later_points : (c : Code) (t : Typing) (it : SliceValue) (elem : TypeId) (place : ℕ) → Slices c t it elem → place < it.len
    → Points c t (later it.at place) elem
later_points c t it elem place slices below =
    later_both (λ p. Points c t p elem) it.at place (moves it.at.cell slices) (stays it.at.cell slices)
  where
    moves : (cell : Option CellId) → SlicesFrom c t cell it.at.path it.len it.cap elem
        → PointsFrom c t cell (slice_set it.at.path (length it.at.path - 1) (last_step it.at + place)) elem
    moves None h = tt
    moves (Some cell) h =
        element_into c t cell it.at.path it.len it.cap elem h
        (slice_set it.at.path (length it.at.path - 1) (last_step it.at + place)) (h.last + place)
        (moved_is it.at.path h.front h.last h.is_path place) (let fits = h.fits in let within = h.within in omega arith)

    stays : (cell : Option CellId) → SlicesFrom c t cell it.at.path it.len it.cap elem → PointsFrom c t cell it.at.path elem
    stays None h = tt
    stays (Some cell) h =
        element_into c t cell it.at.path it.len it.cap elem h it.at.path h.last h.is_path
        (let fits = h.fits in let within = h.within in omega arith)

settled_points : (c : Code) (t : Typing) (at : Pointer) (elem : TypeId) → Points c t at elem → Points c t (settled at) elem
settled_points c t at elem h = cond_both (is_none at.cell) nil_pointer at (λ p. Points c t p elem) (λ e. tt) (λ e. h)

pub element_points : (c : Code) (t : Typing) (it : SliceValue) (elem : TypeId) (index : ℤ) (at : Pointer) → Slices c t it elem
    → element_of it index ≡ Ok at → Points c t at elem
element_points c t it elem index at slices is = by (place_at index it.len) refl is
  where
    by : (found : Result ℕ Fault) → place_at index it.len ≡ found → element_at it found ≡ Ok at → Points c t at elem
    by (Ok place) e is =
        subst (λ at. Points c t at elem) (ok_same (settled (later it.at place)) at is)
        (settled_points c t (later it.at place) elem (later_points c t it elem place slices (placed index it.len place e)))
    by (Err f) e is = absurd (not_ok f at is)

pub sliced_slices : (c : Code) (t : Typing) (it new : SliceValue) (elem : TypeId) (low high max : ℤ) → Slices c t it elem
    → sliced it low high max ≡ Ok new → Slices c t new elem
sliced_slices c t it new elem low high max slices is = by (are_no_bounds low high max it.cap) refl is
  where
    by : (b : Bool) → are_no_bounds low high max it.cap ≡ b
        → ◌≡◌ {A = Result SliceValue Fault}
        (if b then Err fault.SliceBounds
        else Ok (record { at = later it.at (unsigned_abs low); len = unsigned_abs (high -ℤ low); cap = unsigned_abs (max -ℤ low) })) (Ok new)
        → Slices c t new elem
    by true e is = absurd (not_ok fault.SliceBounds new is)
    by false e is =
        let parts = or_parts (int_lt low (pos 0) || int_lt high low || int_lt max high) (int_lt (pos it.cap) max) e in
        let parts1 = or_parts (int_lt low (pos 0) || int_lt high low) (int_lt max high) parts.0 in
        let parts2 = or_parts (int_lt low (pos 0)) (int_lt high low) parts1.0 in
        let positive = parts2.0 in
        let first = parts2.1 in
        let second = parts1.1 in
        let third = parts.1 in
        subst (λ new. Slices c t new elem)
        (ok_same (record { at = later it.at (unsigned_abs low); len = unsigned_abs (high -ℤ low); cap = unsigned_abs (max -ℤ low) }) new is)
        (later_slices c t it elem (unsigned_abs low) (unsigned_abs (high -ℤ low)) (unsigned_abs (max -ℤ low)) slices (omega (arith, ints))
        (omega (arith, ints)))

pub whole_slices : (c : Code) (t : Typing) (at : Pointer) (cell : CellId) (base elem : TypeId) (len : ℕ) → at.cell ≡ Some cell
    → under_of c base ≡ Some (term.Array len elem) → Points c t at base → Slices c t (whole_array at len) elem
whole_slices c t at cell base elem len whole is points =
    let into : PointsInto c t cell at.path base = subst (λ cell. PointsFrom c t cell at.path base) whole points in
    let others = items_alike c (under_of c base) (under_of c into.of)
    (alike_under c.types base into.of (alike_sym c.types into.of base into.alike)) (replicate len elem) (ap item_types is) in
    let count = lists.zip_length (Alike c.types) (replicate len elem) others.0 others.1.1 in
    let copies = lists.length_replicate len elem in
    subst (λ cell. SlicesFrom c t cell (at.path ++ 0 ∷ []) len len elem) (sym whole)
    (record {
      home = into.home;
      there = into.there;
      front = at.path;
      last = 0;
      is_path = refl;
      array = one into.of;
      at = into.at;
      ids = others.0;
      items = others.1.0;
      each = λ n of there.
          let same = lists.zip_right (Alike c.types) (replicate len elem) others.0 others.1.1 n of there in
          alike_sym c.types elem of
          (subst (λ id. Alike c.types id of) (sym (lists.get_replicate len n elem same.0 same.1.0)) same.1.1);
      fits = omega arith;
      within = omega arith;
    })

-- a slice of a new array
pub new_slices : (c : Code) (t : Typing) (store : Stored) → IsStore c t store → (elem : TypeId) (len cap : ℕ) → len ≤ cap
    → Slices c (with_home (many (replicate cap elem)) t) (slice_of_new store len cap) elem
new_slices c t store is elem len cap within =
    let copies = lists.length_replicate cap elem in
    record {
      home = many (replicate cap elem);
      there = new_home c t store (many (replicate cap elem)) is;
      front = [];
      last = 0;
      is_path = refl;
      array = many (replicate cap elem);
      at = refl;
      ids = replicate cap elem;
      items = refl;
      each = λ n of there. alike_of c.types of elem (sym (lists.get_replicate cap n elem of there));
      fits = omega arith;
      within = within;
    }

-- an array of values of one type
pub array_fits : (c : Code) (t : Typing) (items : List Val) (elem : TypeId) (n : ℕ) → length items ≡ n → AllOf c t items elem
    → HomeFits c t (array_of items) (many (replicate n elem))
array_fits c t items elem n count all =
    parts_of_items c t items (replicate n elem)
    (subst (λ n. AreOf c t items (replicate n elem)) count (lists.zip_replicate (IsOf c t) items elem all))
