-- Loads, stores, fields, elements and slices.
use Rattle.std.proofs.Common.{◌≡◌, inl, inr, ◌<◌, ℕ, ℤ, pos, zero, suc, true, true≢false, not, List, [], ◌∷◌, ◌++◌, length, map, replicate, Option, Some, None, Result, Ok, Err, is_none, is_some, refl, sym, subst, ap, ◌∙◌, slice_get, unwrap_or, IsTrue, if◌then◌else◌, arith}
use Rattle.std.proofs.lemmas.Option.{none-some}
use Rattle.std.specs.List.{AllZip}
use Rattle.ssa_runnable.specs.Runnable.{operands_if}
use Rattle.code_safety.proofs.Forms.{text_in, number_fits, slice_in, parts_in}
use Rattle.code_safety.proofs.Lists as lists
use Rattle.code_safety.proofs.Lists.{some_same}
use Rattle.code_safety.proofs.Machines.{ValueComes, StoreComes}
use Rattle.code_safety.proofs.Making.{with_integer_is}
use Rattle.code_safety.proofs.Operands.{operand_value, shape_is, shape_value, held_value, integer_value, pointee_value, pointee_is}
use Rattle.code_safety.proofs.Operators.{result_comes, two_are}
use Rattle.code_safety.proofs.Sames.{under_plain}
use Rattle.code_safety.proofs.Sites.{Reads, Among, HasValue}
use Rattle.code_safety.proofs.Stores.{parts_are, part_is, loads, puts, part_points, element_points, sliced_slices, whole_slices, placed}
use Rattle.code_safety.proofs.Terms.{pointer_term}
use Rattle.code_safety.proofs.Values.{Typing, Fits, IsOf, Points, Slices, item_types, under_of}
use Rattle.go_base.specs.declared.ids.CellId.{CellId}
use Rattle.go_base.specs.declared.ids.TypeId.{TypeId}
use Rattle.go_store.specs.Arrays.{values_in}
use Rattle.go_store.specs.Slices.{sliced, whole_array, element_of}
use Rattle.go_store.specs.Stores.{loaded, put_in}
use Rattle.go_type.specs.Kinds.{kind_of_term}
use Rattle.go_type.specs.Same.{both, same_id-Decides}
use Rattle.go_type.specs.Table.{term_at, basic_id}
use Rattle.go_type.specs.declared.term.Basic.TheVariants as basic
use Rattle.go_type.specs.declared.term.Field.{Field}
use Rattle.go_type.specs.declared.term.TypeTerm.{TypeTerm}
use Rattle.go_type.specs.declared.term.TypeTerm.TheVariants as term
use Rattle.go_value.specs.Address.{part_of}
use Rattle.go_value.specs.Texts.{place_at, text_between}
use Rattle.go_value.specs.Values.{Val, number, text, pointer, slice}
use Rattle.go_value.specs.declared.address.Pointer.{Pointer}
use Rattle.go_value.specs.declared.address.SliceValue.{SliceValue}
use Rattle.go_value.specs.declared.faults.Fault.{Fault}
use Rattle.go_value.specs.declared.faults.Fault.TheVariants as fault
use Rattle.ssa_ir.specs.declared.code.Code.{Code}
use Rattle.ssa_ir.specs.declared.code.Function.{Function}
use Rattle.ssa_ir.specs.declared.operands.Operand.{Operand}
use Rattle.ssa_ir.specs.declared.ops.Op.{Op}
use Rattle.ssa_ir.specs.declared.ops.Op.TheVariants as op
use Rattle.ssa_mean.specs.Comes.{Comes, to, faults, of_option, of_result, then_to, and_then, where_some}
use Rattle.ssa_mean.specs.Operands.{under, pointed_length, length_in}
use Rattle.ssa_mean.specs.Places.{followed, load, assigned, field_of, field_address, element_value, index_of, element_address, index_address, Bounds, cut, part_between}
use Rattle.ssa_mean.specs.Step.{Site, value, with_one, with_two, with_bound, slice_part}
use Rattle.ssa_typed.specs.Forms.{FitsGiving, fits_giving, fits_alone, has_field, has_field_address, has_elem, elem_below, array_elem_at, is_pointer_where, is_slice_where, is_bound, are_bounds, slices, has_part, extracts}
use Rattle.ssa_typed.specs.Operands.{known, is_known, held_type, shape, is_operand, is_where, is_integer_operand, pointee}
use Rattle.type_shapes.specs.Shapes as shapes

-- ---- pointers that are followed

followed_comes : {A : Type 0} (P : Comes A → Type 0) (at : Pointer) (next : Comes A) → P (faults fault.NilPointer)
    → ((cell : CellId) → at.cell ≡ Some cell → P next) → P (followed at next)
followed_comes {A} P at next fails goes = by at.cell refl
  where
    by : (cell : Option CellId) → at.cell ≡ cell → P (if is_none cell then faults fault.NilPointer else next)
    by None e = fails
    by (Some cell) e = goes cell e

pub id_is : (found : Option TypeId) (of : TypeId) → shapes.is_id found of ≡ true → found ≡ Some of
id_is None of h = absurd (true≢false (sym h))
id_is (Some id) of h = ap Some ((same_id-Decides id of).0 h)

pub load_comes : (t : Typing) (s : Site) (at : Operand) → Reads t s (op.Load at) → (of : TypeId)
    → FitsGiving s.code s.function (op.Load at) of → ValueComes s.code t of (with_one s at (load s.machine.store))
unfolding FitsGiving fits_giving
load_comes t s at reads of typed =
    let c = s.code in
    let store = s.machine.store in
    let found = pointee_value t s at (reads.values at (inl refl)) of (id_is (pointee c s.function at) of typed) in
    let p = found.0 in
    subst (ValueComes c t of) (sym (ap (where_some (load store)) found.1.0))
    (followed_comes (ValueComes c t of) p (of_option (loaded store p)) tt (λ cell there.
    let it = loads c t store reads.store p cell of there found.1.1 in
    subst (λ it. ValueComes c t of (of_option it)) (sym it.1.0) it.1.1))

pub store_comes : (t : Typing) (s : Site) (at it : Operand) → Reads t s (op.Store at it)
    → IsTrue (fits_alone s.code s.function (op.Store at it))
    → StoreComes s.code t (with_two s at it (assigned s.machine.store))
unfolding fits_alone
store_comes t s at it reads typed = by (pointee s.code s.function at) refl typed
  where
    by : (base : Option TypeId) → pointee s.code s.function at ≡ base → is_where s.code s.function it base ≡ true
        → StoreComes s.code t (with_two s at it (assigned s.machine.store))
    by None e h = absurd (true≢false (sym h))
    by (Some base) e h =
        let c = s.code in
        let store = s.machine.store in
        let found = pointee_value t s at (reads.values at (inl refl)) base e in
        let new = operand_value t s reads.safe.held it (reads.values it (inr (inl refl))) base h in
        subst (StoreComes c t) (sym (two_are s at it (assigned store) (pointer found.0) new.0 found.1.0 new.1.0))
        (followed_comes (StoreComes c t) found.0 (to (put_in new.0 store found.0)) tt
        (λ cell there. puts c t store reads.store found.0 base new.0 found.1.1 new.1.1))

-- ---- fields and parts

get_map : (fields : List Field) (n : ℕ) (id : TypeId) → shapes.type_of_field (slice_get fields n) ≡ Some id
    → slice_get (map (λ field. field.of) fields) n ≡ Some id
get_map [] n id h = absurd (none-some id h)
get_map (field ∷ fields) zero id h = h
get_map (field ∷ fields) (suc n) id h = get_map fields n id h

-- a part of a value, by its number
part_comes : (c : Code) (t : Typing) (of : TypeId) (v : Val) (whole : Option TypeTerm) (ids : List TypeId) (n : ℕ)
    → item_types whole ≡ Some ids → slice_get ids n ≡ Some of → Fits c t v whole → ValueComes c t of (field_of v n)
part_comes c t of v whole ids n items there fits =
    let found = part_is c t v whole ids n of items there fits in
    subst (λ it. ValueComes c t of (of_option it)) (sym found.1.0) found.1.1

pub field_comes : (t : Typing) (s : Site) (it : Operand) (field : ℕ) → Reads t s (op.Field it field) → (of : TypeId)
    → FitsGiving s.code s.function (op.Field it field) of → ValueComes s.code t of (with_one s it (λ it. field_of it field))
unfolding FitsGiving fits_giving
field_comes t s it field reads of typed = by (shape s.code s.function it) refl typed
  where
    by : (found : Option TypeTerm) → shape s.code s.function it ≡ found → has_field found field of ≡ true
        → ValueComes s.code t of (with_one s it (λ it. field_of it field))
    by (Some (term.Struct fields)) e h =
        let c = s.code in
        let v = shape_value t s it (reads.values it (inl refl)) (term.Struct fields) e in
        subst (ValueComes c t of) (sym (ap (where_some (λ it. field_of it field)) v.1.0))
        (part_comes c t of v.0 (Some (term.Struct fields)) (map (λ field. field.of) fields) field refl
        (get_map fields field of (id_is (shapes.type_of_field (slice_get fields field)) of h)) v.1.1)
    by _ e h = absurd (true≢false (sym h))

tuple_is : (of : Option TypeTerm) (ids : List TypeId) → shapes.parts_of of ≡ Some ids → of ≡ Some (term.Tuple ids)
tuple_is (Some (term.Tuple others)) ids h = ap (λ ids. Some (term.Tuple ids)) (some_same others ids h)
tuple_is _ ids h = absurd (none-some ids h)

pub extract_comes : (t : Typing) (s : Site) (it : Operand) (part : ℕ) → Reads t s (op.Extract it part) → (of : TypeId)
    → FitsGiving s.code s.function (op.Extract it part) of → ValueComes s.code t of (with_one s it (λ it. field_of it part))
unfolding FitsGiving fits_giving
extract_comes t s it part reads of typed = by (held_type (known s.code s.function it)) refl typed
  where
    of_parts : (tuple : TypeId) → held_type (known s.code s.function it) ≡ Some tuple → (found : Option (List TypeId))
        → shapes.parts_of (term_at s.code.types tuple) ≡ found → has_part found part of ≡ true
        → ValueComes s.code t of (with_one s it (λ it. field_of it part))
    of_parts tuple e None is h = absurd (true≢false (sym h))
    of_parts tuple e (Some ids) is h =
        let c = s.code in
        let v = held_value t s it (reads.values it (inl refl)) tuple e in
        let under = under_plain c.types reads.safe.held tuple (term.Tuple ids) (tuple_is (term_at c.types tuple) ids is) refl in
        subst (ValueComes c t of) (sym (ap (where_some (λ it. field_of it part)) v.1.0))
        (part_comes c t of v.0 (under_of c tuple) ids part (ap item_types under) (id_is (slice_get ids part) of h) v.1.1)

    by : (found : Option TypeId) → held_type (known s.code s.function it) ≡ found → extracts s.code.types found part of ≡ true
        → ValueComes s.code t of (with_one s it (λ it. field_of it part))
    by None e h = absurd (true≢false (sym h))
    by (Some tuple) e h = of_parts tuple e (shapes.parts_of (term_at s.code.types tuple)) refl h

-- ---- addresses

-- a pointer of a type whose term is that of a pointer
pointer_fits : (t : Typing) (s : Site) {it : Op} → Reads t s it → (of base : TypeId)
    → shapes.is_pointer_to (term_at s.code.types of) base ≡ true → (at : Pointer) → Points s.code t at base → IsOf s.code t (pointer at) of
pointer_fits t s reads of base h at points =
    subst (λ term. Fits s.code t (pointer at) term)
    (sym (under_plain s.code.types reads.safe.held of (term.Pointer base) (pointer_term (term_at s.code.types of) base h) refl)) points

-- the fields of a struct, of which one has a type
record FieldOf (of : Option TypeTerm) (n : ℕ) (id : TypeId) : Type 0 where
  fields : List Field
  is : of ≡ Some (term.Struct fields)
  there : slice_get (map (λ field. field.of) fields) n ≡ Some id

field_is : (of : Option TypeTerm) (n : ℕ) (id : TypeId) → shapes.field_of n of ≡ Some id → FieldOf of n id
field_is (Some (term.Struct fields)) n id h = record { fields = fields; is = refl; there = get_map fields n id h }
field_is _ n id h = absurd (none-some id h)

pub field_address_comes : (t : Typing) (s : Site) (it : Operand) (field : ℕ) → Reads t s (op.FieldAddress it field)
    → (of : TypeId) → FitsGiving s.code s.function (op.FieldAddress it field) of
    → ValueComes s.code t of (with_one s it (λ it. field_address it field))
unfolding FitsGiving fits_giving
field_address_comes t s it field reads of typed = by (pointee s.code s.function it) refl typed
  where
    of_field : (base : TypeId) → pointee s.code s.function it ≡ Some base → (id : Option TypeId)
        → shapes.field_of field (under_of s.code base) ≡ id → is_pointer_where (term_at s.code.types of) id ≡ true
        → ValueComes s.code t of (with_one s it (λ it. field_address it field))
    of_field base e None is h = absurd (true≢false (sym h))
    of_field base e (Some id) is h =
        let c = s.code in
        let found = pointee_value t s it (reads.values it (inl refl)) base e in
        let f = field_is (under_of c base) field id is in
        subst (ValueComes c t of) (sym (ap (where_some (λ it. field_address it field)) found.1.0))
        (followed_comes (ValueComes c t of) found.0 (to (pointer (part_of found.0 field))) tt
        (λ cell there. pointer_fits t s reads of id h (part_of found.0 field)
        (part_points c t found.0 base (map (λ field. field.of) f.fields) field id (ap item_types f.is) f.there found.1.1)))

    by : (base : Option TypeId) → pointee s.code s.function it ≡ base → has_field_address s.code.types base field of ≡ true
        → ValueComes s.code t of (with_one s it (λ it. field_address it field))
    by None e h = absurd (true≢false (sym h))
    by (Some base) e h = of_field base e (shapes.field_of field (under_of s.code base)) refl h

-- ---- elements

get_copy : (n k : ℕ) (elem : TypeId) → k < n → slice_get (replicate n elem) k ≡ Some elem
get_copy zero k elem h = absurd (omega arith)
get_copy (suc n) zero elem h = refl
get_copy (suc n) (suc k) elem h = get_copy n k elem (omega arith)

array_value_comes : (c : Code) (t : Typing) (v : Val) (len : ℕ) (elem : TypeId) (index : ℤ) → Fits c t v (Some (term.Array len elem))
    → ValueComes c t elem (element_value v index)
array_value_comes c t v len elem index fits =
    let its = parts_in c t v (Some (term.Array len elem)) (replicate len elem) refl fits in
    let values = values_in its.0 in
    let are = parts_are c t its.0 (replicate len elem) its.1.1 in
    subst (λ v. ValueComes c t elem (element_value v index)) (sym its.1.0) (by values are (place_at index (length values)) refl)
  where
    by : (values : List Val) → AllZip (IsOf c t) values (replicate len elem) → (found : Result ℕ Fault)
        → place_at index (length values) ≡ found
        → ValueComes c t elem (and_then (λ place. of_option (slice_get values place)) (of_result found))
    by values are (Err fault) e = tt
    by values are (Ok place) e =
        let it = lists.below_get values place (placed index (length values) place e) in
        let of = lists.zip_left (IsOf c t) values (replicate len elem) are place it.0 it.1 in
        subst (λ it. ValueComes c t elem (of_option it)) (sym it.1)
        (subst (λ id. IsOf c t it.0 id) (sym (lists.get_replicate len place elem of.0 of.1.0)) of.1.1)

text_value_comes : (c : Code) (t : Typing) (bytes : List ℕ) (of : TypeId) (index : ℤ) → under_of c of ≡ Some (term.Basic basic.Uint8)
    → ValueComes c t of (element_value (text bytes) index)
text_value_comes c t bytes of index under = by (place_at index (length bytes)) refl
  where
    by : (found : Result ℕ Fault) → place_at index (length bytes) ≡ found
        → ValueComes c t of
        (and_then (λ place. then_to (λ byte. number (pos byte)) (of_option (slice_get bytes place))) (of_result found))
    by (Err fault) e = tt
    by (Ok place) e =
        let byte = lists.below_get bytes place (placed index (length bytes) place e) in
        subst (λ byte. ValueComes c t of (then_to (λ byte. number (pos byte)) (of_option byte))) (sym byte.1)
        (number_fits c t (pos byte.0) (under_of c of) (ap (λ term. is_some (kind_of_term term)) under))

pub index_comes : (t : Typing) (s : Site) (it index : Operand) → Reads t s (op.Index it index) → (of : TypeId)
    → FitsGiving s.code s.function (op.Index it index) of → ValueComes s.code t of (with_two s it index index_of)
unfolding FitsGiving fits_giving
index_comes t s it index reads of typed =
    let k = both (has_elem (shape s.code s.function it) of) (is_integer_operand s.code s.function index) typed in
    by (shape s.code s.function it) refl (integer_value t s index (reads.values index (inr (inl refl))) k.1) k.0
  where
    by : (found : Option TypeTerm) → shape s.code s.function it ≡ found → (n : ℤ) × (value s index ≡ Some (number n))
        → has_elem found of ≡ true → ValueComes s.code t of (with_two s it index index_of)
    by (Some (term.Array len elem)) e n h =
        let c = s.code in
        let v = shape_value t s it (reads.values it (inl refl)) (term.Array len elem) e in
        subst (ValueComes c t of) (sym (two_are s it index index_of v.0 (number n.0) v.1.0 n.1))
        (subst (λ of. ValueComes c t of (element_value v.0 n.0)) ((same_id-Decides elem of).0 h)
        (array_value_comes c t v.0 len elem n.0 v.1.1))
    by (Some (term.Basic basic.Text)) e n h =
        let c = s.code in
        let v = shape_value t s it (reads.values it (inl refl)) (term.Basic basic.Text) e in
        let bytes = text_in c t v.0 v.1.1 in
        let held = reads.safe.held in
        let under = ap (under_of c) ((same_id-Decides of (basic_id basic.Uint8)).0 h)
        ∙ under_plain c.types held (basic_id basic.Uint8) (term.Basic basic.Uint8) (held.basics basic.Uint8) refl in
        subst (ValueComes c t of)
        (sym (two_are s it index index_of (text bytes.0) (number n.0) (v.1.0 ∙ ap Some bytes.1) n.1))
        (text_value_comes c t bytes.0 of n.0 under)
    by _ e n h = absurd (true≢false (sym h))

-- an array that is pointed to
record PointedArray (c : Code) (f : Function) (it : Operand) (elem : TypeId) : Type 0 where
  base : TypeId
  len : ℕ
  is : pointee c f it ≡ Some base
  under_is : under_of c base ≡ Some (term.Array len elem)
  length_is : pointed_length c f it ≡ Some len

pointed_array : (c : Code) (f : Function) (it : Operand) (elem : TypeId) → array_elem_at c.types (pointee c f it) ≡ Some elem
    → PointedArray c f it elem
pointed_array c f it elem h = by (pointee c f it) refl h
  where
    of_term : (base : TypeId) → pointee c f it ≡ Some base → (found : Option TypeTerm) → under_of c base ≡ found
        → shapes.array_elem found ≡ Some elem → PointedArray c f it elem
    of_term base e (Some (term.Array len other)) is h =
        let same = ap (λ elem. Some (term.Array len elem)) (some_same other elem h) in
        record {
          base = base;
          len = len;
          is = e;
          under_is = is ∙ same;
          length_is = ap (λ of. length_in (under c of)) (pointee_is c f it base e) ∙ ap length_in is;
        }
    of_term base e _ is h = absurd (none-some elem h)

    by : (found : Option TypeId) → pointee c f it ≡ found → array_elem_at c.types found ≡ Some elem → PointedArray c f it elem
    by None e h = absurd (none-some elem h)
    by (Some base) e h = of_term base e (under_of c base) refl h

pub index_address_comes : (t : Typing) (s : Site) (it index : Operand) → Reads t s (op.IndexAddress it index) → (of : TypeId)
    → FitsGiving s.code s.function (op.IndexAddress it index) of
    → ValueComes s.code t of (with_two s it index (index_address (pointed_length s.code s.function it)))
unfolding FitsGiving fits_giving
index_address_comes t s it index reads of typed =
    let k = both (is_integer_operand s.code s.function index) _ typed in
    by (shape s.code s.function it) refl (integer_value t s index (reads.values index (inr (inl refl))) k.0) k.1
  where
    -- an element of an array that is pointed to
    of_array : (n : ℤ) → value s index ≡ Some (number n) → (elem : Option TypeId)
        → array_elem_at s.code.types (pointee s.code s.function it) ≡ elem → is_pointer_where (term_at s.code.types of) elem ≡ true
        → ValueComes s.code t of (with_two s it index (index_address (pointed_length s.code s.function it)))
    of_array n is None e h = absurd (true≢false (sym h))
    of_array n is (Some elem) e h =
        let c = s.code in
        let array = pointed_array c s.function it elem e in
        let found = pointee_value t s it (reads.values it (inl refl)) array.base array.is in
        let at = found.0 in
        subst (ValueComes c t of)
        (sym (two_are s it index (index_address (pointed_length c s.function it)) (pointer at) (number n) found.1.0 is
        ∙ ap (λ len. element_address len (pointer at) n) array.length_is))
        (followed_comes (ValueComes c t of) at (then_to (λ place. pointer (part_of at place)) (of_result (place_at n array.len))) tt
        (λ cell there.
        result_comes c t of (λ place. pointer (part_of at place)) (place_at n array.len) (λ place e.
        pointer_fits t s reads of elem h (part_of at place)
        (part_points c t at array.base (replicate array.len elem) place elem (ap item_types array.under_is)
        (get_copy array.len place elem (placed n array.len place e)) found.1.1))))

    by : (found : Option TypeTerm) → shape s.code s.function it ≡ found → (n : ℤ) × (value s index ≡ Some (number n))
        → is_pointer_where (term_at s.code.types of) (elem_below s.code.types found (pointee s.code s.function it)) ≡ true
        → ValueComes s.code t of (with_two s it index (index_address (pointed_length s.code s.function it)))
    by (Some (term.Slice elem)) e n h =
        let c = s.code in
        let v = shape_value t s it (reads.values it (inl refl)) (term.Slice elem) e in
        let whole = slice_in c t v.0 elem v.1.1 in
        subst (ValueComes c t of)
        (sym (two_are s it index (index_address (pointed_length c s.function it)) (slice whole.0) (number n.0)
        (v.1.0 ∙ ap Some whole.1.0) n.1))
        (result_comes c t of pointer (element_of whole.0 n.0) (λ at e.
        pointer_fits t s reads of elem h at (element_points c t whole.0 elem n.0 at whole.1.1 e)))
    by _ e n h = of_array n.0 n.1 (array_elem_at s.code.types (pointee s.code s.function it)) refl h

-- ---- slices

among_left : (it : Operand) (xs ys : List Operand) → Among it xs → Among it (xs ++ ys)
among_left it [] ys h = absurd h
among_left it (x ∷ xs) ys (inl same) = inl same
among_left it (x ∷ xs) ys (inr among) = inr (among_left it xs ys among)

among_right : (it : Operand) (xs ys : List Operand) → Among it ys → Among it (xs ++ ys)
among_right it [] ys h = h
among_right it (x ∷ xs) ys h = inr (among_right it xs ys h)

-- a place that is left out or an integer
bound_value : (t : Typing) (s : Site) (it : Option Operand) → ((other : Operand) → Among other (operands_if it) → HasValue t s other)
    → is_bound s.code s.function it ≡ true
    → (n : Option ℤ) × ((next : Option ℤ → Comes Val) → with_bound s it next ≡ next n)
bound_value t s None has h = (None, λ next. refl)
bound_value t s (Some it) has h =
    let n = integer_value t s it (has it (inl refl)) h in
    (Some n.0, λ next. with_integer_is s it (λ n. next (Some n)) n.0 n.1)

-- a part of a slice
cut_comes : (c : Code) (t : Typing) (of elem : TypeId) (it : SliceValue) (bounds : Bounds) → under_of c of ≡ Some (term.Slice elem)
    → Slices c t it elem → ValueComes c t of (cut it bounds)
cut_comes c t of elem it bounds under whole =
    let low = unwrap_or bounds.low (pos 0) in
    let high = unwrap_or bounds.high (pos it.len) in
    let max = unwrap_or bounds.max (pos it.cap) in
    result_comes c t of slice (sliced it low high max) (λ new e.
    subst (λ term. Fits c t (slice new) term) (sym under) (sliced_slices c t it new elem low high max whole e))

-- what a held operand is sliced to has its type
same_under : (c : Code) (f : Function) (it : Operand) (of : TypeId) (term : TypeTerm) → shape c f it ≡ Some term
    → is_operand c f it of ≡ true → under_of c of ≡ Some term
same_under c f it of term shaped h =
    let is = shape_is c f it term shaped in
    ap (under_of c) (sym ((same_id-Decides is.0 of).0 (sym (ap (λ k. is_known c k of) is.1.0) ∙ h))) ∙ is.1.1

slice_of_is : (of : Option TypeTerm) (elem : TypeId) → shapes.is_slice_of of elem ≡ true → of ≡ Some (term.Slice elem)
slice_of_is (Some (term.Slice other)) elem h = ap (λ elem. Some (term.Slice elem)) ((same_id-Decides other elem).0 h)
slice_of_is _ elem h = absurd (true≢false (sym h))

pub slice_comes : (t : Typing) (s : Site) (it : Operand) (low high max : Option Operand) → Reads t s (op.Slice it low high max)
    → (of : TypeId) → FitsGiving s.code s.function (op.Slice it low high max) of
    → ValueComes s.code t of (slice_part s it low high max)
unfolding FitsGiving fits_giving
slice_comes t s it low high max reads of typed =
    let c = s.code in
    let f = s.function in
    let k = both (are_bounds c f low high max) (slices c f (shape c f it) it (is_some max) of) typed in
    let l = both (is_bound c f low) _ k.0 in
    let m = both (is_bound c f high) (is_bound c f max) l.1 in
    let more = operands_if high ++ operands_if max in
    let first = bound_value t s low (λ other among. reads.values other (inr (among_left other (operands_if low) more among))) l.0 in
    let second = bound_value t s high
    (λ other among. reads.values other
    (inr (among_right other (operands_if low) more (among_left other (operands_if high) (operands_if max) among)))) m.0 in
    let third = bound_value t s max
    (λ other among. reads.values other
    (inr (among_right other (operands_if low) more (among_right other (operands_if high) (operands_if max) among)))) m.1 in
    by (shape c f it) refl (record { low = first.0; high = second.0; max = third.0 })
    (λ whole is.
    ap (where_some (λ whole. with_bound s low (λ low. with_bound s high (λ high. with_bound s max (λ max.
    part_between (pointed_length c f it) whole (record { low = low; high = high; max = max })))))) is
    ∙ first.1 (λ low. with_bound s high (λ high. with_bound s max (λ max.
    part_between (pointed_length c f it) whole (record { low = low; high = high; max = max }))))
    ∙ second.1 (λ high. with_bound s max (λ max.
    part_between (pointed_length c f it) whole (record { low = first.0; high = high; max = max })))
    ∙ third.1 (λ max. part_between (pointed_length c f it) whole (record { low = first.0; high = second.0; max = max })))
    k.1
  where
    -- a part of an array that is pointed to
    of_array : (bounds : Bounds)
        → ((whole : Val) → value s it ≡ Some whole
        → slice_part s it low high max ≡ part_between (pointed_length s.code s.function it) whole bounds) → (elem : Option TypeId)
        → array_elem_at s.code.types (pointee s.code s.function it) ≡ elem → is_slice_where (term_at s.code.types of) elem ≡ true
        → ValueComes s.code t of (slice_part s it low high max)
    of_array bounds goes None e h = absurd (true≢false (sym h))
    of_array bounds goes (Some elem) e h =
        let c = s.code in
        let array = pointed_array c s.function it elem e in
        let found = pointee_value t s it (reads.values it (inl refl)) array.base array.is in
        let at = found.0 in
        let under = under_plain c.types reads.safe.held of (term.Slice elem) (slice_of_is (term_at c.types of) elem h) refl in
        subst (ValueComes c t of)
        (sym (goes (pointer at) found.1.0 ∙ ap (λ len. part_between len (pointer at) bounds) array.length_is))
        (followed_comes (ValueComes c t of) at (cut (whole_array at array.len) bounds) tt (λ cell there.
        cut_comes c t of elem (whole_array at array.len) bounds under
        (whole_slices c t at cell array.base elem array.len there array.under_is found.1.1)))

    by : (found : Option TypeTerm) → shape s.code s.function it ≡ found → (bounds : Bounds)
        → ((whole : Val) → value s it ≡ Some whole
        → slice_part s it low high max ≡ part_between (pointed_length s.code s.function it) whole bounds)
        → slices s.code s.function found it (is_some max) of ≡ true → ValueComes s.code t of (slice_part s it low high max)
    by (Some (term.Slice elem)) e bounds goes h =
        let c = s.code in
        let v = shape_value t s it (reads.values it (inl refl)) (term.Slice elem) e in
        let whole = slice_in c t v.0 elem v.1.1 in
        subst (ValueComes c t of) (sym (goes (slice whole.0) (v.1.0 ∙ ap Some whole.1.0)))
        (cut_comes c t of elem whole.0 bounds (same_under c s.function it of (term.Slice elem) e h) whole.1.1)
    by (Some (term.Basic basic.Text)) e bounds goes h =
        let c = s.code in
        let k = both (not (is_some max)) (is_operand c s.function it of) h in
        let v = shape_value t s it (reads.values it (inl refl)) (term.Basic basic.Text) e in
        let bytes = text_in c t v.0 v.1.1 in
        let under = same_under c s.function it of (term.Basic basic.Text) e k.1 in
        subst (ValueComes c t of) (sym (goes (text bytes.0) (v.1.0 ∙ ap Some bytes.1)))
        (result_comes c t of text
        (text_between bytes.0 (unwrap_or bounds.low (pos 0)) (unwrap_or bounds.high (pos (length bytes.0))))
        (λ part e. subst (λ term. Fits c t (text part) term) (sym under) tt))
    by _ e bounds goes h = of_array bounds goes (array_elem_at s.code.types (pointee s.code s.function it)) refl h
