-- Which values the values of a type are, by its underlying term.
use Rattle.std.proofs.Common.{◌≡◌, ℕ, ℤ, Bool, true, List, Option, Some, None, refl, sym, subst, is_some, replicate, map, true≢false}
use Rattle.std.proofs.lemmas.Option.{none-some}
use Rattle.code_safety.proofs.Lists.{some_same}
use Rattle.code_safety.proofs.Values.{Typing, Fits, PartsFit, IsOf, Points, Slices, MapFits, ChanFits, HasAll, IsClosure, BindsFor, MapNumberFits, is_numbers, item_types, under_of}
use Rattle.ssa_runnable.specs.Runnable.{IsBoxed}
use Rattle.go_base.specs.declared.ids.ChanId.{ChanId}
use Rattle.go_base.specs.declared.ids.FuncId.{FuncId}
use Rattle.go_base.specs.declared.ids.MapId.{MapId}
use Rattle.go_base.specs.declared.ids.TypeId.{TypeId}
use Rattle.go_type.specs.Kinds.{kind_of_basic, kind_of_term}
use Rattle.go_type.specs.declared.term.Basic.{Basic}
use Rattle.go_type.specs.declared.term.Basic.TheVariants as basic
use Rattle.go_type.specs.declared.term.Dir.{Dir}
use Rattle.go_type.specs.declared.term.Field.{Field}
use Rattle.go_type.specs.declared.term.MethodType.{MethodType}
use Rattle.go_type.specs.declared.term.Signature.{Signature}
use Rattle.go_type.specs.declared.term.TypeTerm.{TypeTerm}
use Rattle.go_type.specs.declared.term.TypeTerm.TheVariants as term
use Rattle.go_value.specs.Values.{Val, Parts, truth, number, text, pointer, slice, map_number, chan_number, nil_function}
use Rattle.go_value.specs.Values.{closure, bound, nil_interface, dynamic, parts, text_range, map_range}
use Rattle.go_value.specs.declared.address.Pointer.{Pointer}
use Rattle.go_value.specs.declared.address.SliceValue.{SliceValue}
use Rattle.go_value.specs.declared.values.BoundTarget.{BoundTarget}
use Rattle.ssa_ir.specs.declared.code.Code.{Code}

pub truth_in : (c : Code) (t : Typing) (it : Val) → Fits c t it (Some (term.Basic basic.Bool)) → (b : Bool) × (it ≡ truth b)
truth_in c t (truth b) h = (b, refl)
truth_in c t (number n) h = absurd (true≢false (sym h))
truth_in c t (bound target receiver) h = absurd h.1.0
truth_in c t (dynamic of it) h = absurd h.0
truth_in c t (parts its) h = absurd (none-some h.0 h.1.0)
truth_in c t _ h = absurd h

pub text_in : (c : Code) (t : Typing) (it : Val) → Fits c t it (Some (term.Basic basic.Text)) → (bytes : List ℕ) × (it ≡ text bytes)
text_in c t (text bytes) h = (bytes, refl)
text_in c t (number n) h = absurd (true≢false (sym h))
text_in c t (bound target receiver) h = absurd h.1.0
text_in c t (dynamic of it) h = absurd h.0
text_in c t (parts its) h = absurd (none-some h.0 h.1.0)
text_in c t _ h = absurd h

number_among : (c : Code) (t : Typing) (it : Val) (kind : Basic) → is_some (kind_of_basic kind) ≡ true
    → Fits c t it (Some (term.Basic kind)) → (n : ℤ) × (it ≡ number n)
number_among c t (number n) kind is h = (n, refl)
number_among c t (truth b) basic.Bool is h = absurd (true≢false (sym is))
number_among c t (truth b) basic.UntypedBool is h = absurd (true≢false (sym is))
number_among c t (truth b) _ is h = absurd h
number_among c t (text bytes) basic.Text is h = absurd (true≢false (sym is))
number_among c t (text bytes) basic.UntypedText is h = absurd (true≢false (sym is))
number_among c t (text bytes) _ is h = absurd h
number_among c t (bound target receiver) kind is h = absurd h.1.0
number_among c t (dynamic from it) kind is h = absurd h.0
number_among c t (parts its) kind is h = absurd (none-some h.0 h.1.0)
number_among c t _ kind is h = absurd h

-- the values of types of integers
pub number_in : (c : Code) (t : Typing) (it : Val) (of : Option TypeTerm) → is_some (kind_of_term of) ≡ true → Fits c t it of
    → (n : ℤ) × (it ≡ number n)
number_in c t it (Some (term.Basic of)) kind h = number_among c t it of kind h
number_in c t it None kind h = absurd (true≢false (sym kind))
number_in c t it _ kind h = absurd (true≢false (sym kind))

-- every integer is a value of such a type
pub number_fits : (c : Code) (t : Typing) (n : ℤ) (of : Option TypeTerm) → is_some (kind_of_term of) ≡ true
    → Fits c t (number n) of
number_fits c t n (Some (term.Basic kind)) is = every kind is
  where
    every : (kind : Basic) → is_some (kind_of_basic kind) ≡ true → is_numbers kind ≡ true
    every basic.Bool is = is
    every basic.Text is = is
    every basic.UntypedBool is = is
    every basic.UntypedText is = is
    every basic.UntypedNil is = is
    every _ is = refl
number_fits c t n None is = absurd (true≢false (sym is))
number_fits c t n _ is = absurd (true≢false (sym is))

pub pointer_in : (c : Code) (t : Typing) (it : Val) (base : TypeId) → Fits c t it (Some (term.Pointer base))
    → (at : Pointer) × ((it ≡ pointer at) × Points c t at base)
pointer_in c t (pointer at) base h = (at, (refl, h))
pointer_in c t (bound target receiver) base h = absurd h.1.0
pointer_in c t (dynamic from it) base h = absurd h.0
pointer_in c t (parts its) base h = absurd (none-some h.0 h.1.0)
pointer_in c t _ base h = absurd h

pub slice_in : (c : Code) (t : Typing) (it : Val) (elem : TypeId) → Fits c t it (Some (term.Slice elem))
    → (at : SliceValue) × ((it ≡ slice at) × Slices c t at elem)
slice_in c t (slice at) elem h = (at, (refl, h))
slice_in c t (bound target receiver) elem h = absurd h.1.0
slice_in c t (dynamic from it) elem h = absurd h.0
slice_in c t (parts its) elem h = absurd (none-some h.0 h.1.0)
slice_in c t _ elem h = absurd h

pub map_in : (c : Code) (t : Typing) (it : Val) (key elem : TypeId) → Fits c t it (Some (term.Map key elem))
    → (id : Option MapId) × ((it ≡ map_number id) × MapFits c t id key elem)
map_in c t (map_number id) key elem h = (id, (refl, h))
map_in c t (bound target receiver) key elem h = absurd h.1.0
map_in c t (dynamic from it) key elem h = absurd h.0
map_in c t (parts its) key elem h = absurd (none-some h.0 h.1.0)
map_in c t _ key elem h = absurd h

pub chan_in : (c : Code) (t : Typing) (it : Val) (way : Dir) (elem : TypeId) → Fits c t it (Some (term.Chan way elem))
    → (id : Option ChanId) × ((it ≡ chan_number id) × ChanFits c t id elem)
chan_in c t (chan_number id) way elem h = (id, (refl, h))
chan_in c t (bound target receiver) way elem h = absurd h.1.0
chan_in c t (dynamic from it) way elem h = absurd h.0
chan_in c t (parts its) way elem h = absurd (none-some h.0 h.1.0)
chan_in c t _ way elem h = absurd h

-- a function value
pub data IsFunctionValue (c : Code) (t : Typing) (signature : Signature) : Val → Type 0 where
  nil_value : IsFunctionValue c t signature nil_function
  is_closure : (id : FuncId) (captured : List Pointer) → IsClosure c t id captured signature
      → IsFunctionValue c t signature (closure id captured)
  is_bound : (target : BoundTarget) (receiver : Val) (of : TypeId) → BindsFor c of signature target → IsOf c t receiver of
      → IsFunctionValue c t signature (bound target receiver)

pub function_in : (c : Code) (t : Typing) (it : Val) (signature : Signature) → Fits c t it (Some (term.Func signature))
    → IsFunctionValue c t signature it
function_in c t nil_function signature h = nil_value
function_in c t (closure id captured) signature h = is_closure id captured h
function_in c t (bound target receiver) signature h = is_bound target receiver h.0 h.1.0 h.1.1
function_in c t (dynamic from it) signature h = absurd h.0
function_in c t (parts its) signature h = absurd (none-some h.0 h.1.0)
function_in c t _ signature h = absurd h

-- a value of an interface type: nil, or what holds a value of another type that has the methods
pub data IsInterfaceValue (c : Code) (t : Typing) (methods : List MethodType) : Val → Type 0 where
  is_nil : IsInterfaceValue c t methods nil_interface
  is_dynamic : (of : TypeId) (it : Val) → IsBoxed c of → HasAll c of methods → IsOf c t it of
      → IsInterfaceValue c t methods (dynamic of it)

pub interface_in : (c : Code) (t : Typing) (it : Val) (methods : List MethodType) → Fits c t it (Some (term.Interface methods))
    → IsInterfaceValue c t methods it
interface_in c t nil_interface methods h = is_nil
interface_in c t (dynamic from it) methods h = is_dynamic from it h.0.0 h.0.1 h.1
interface_in c t (bound target receiver) methods h = absurd h.1.0
interface_in c t (parts its) methods h = absurd (none-some h.0 h.1.0)
interface_in c t _ methods h = absurd h

in_array : (c : Code) (t : Typing) (it : Val) (len : ℕ) (elem : TypeId) → Fits c t it (Some (term.Array len elem))
    → (its : Parts) × ((it ≡ parts its) × PartsFit c t its (replicate len elem))
in_array c t (parts its) len elem h = (its, (refl, subst (PartsFit c t its) (sym (some_same (replicate len elem) h.0 h.1.0)) h.1.1))
in_array c t (number n) len elem h = absurd h
in_array c t (bound target receiver) len elem h = absurd h.1.0
in_array c t (dynamic from it) len elem h = absurd h.0
in_array c t _ len elem h = absurd h

in_struct : (c : Code) (t : Typing) (it : Val) (fields : List Field) → Fits c t it (Some (term.Struct fields))
    → (its : Parts) × ((it ≡ parts its) × PartsFit c t its (map (λ (field : Field). field.of) fields))
in_struct c t (parts its) fields h = (its, (refl, subst (PartsFit c t its) (sym (some_same (map (λ (field : Field). field.of) fields) h.0 h.1.0)) h.1.1))
in_struct c t (number n) fields h = absurd h
in_struct c t (bound target receiver) fields h = absurd h.1.0
in_struct c t (dynamic from it) fields h = absurd h.0
in_struct c t _ fields h = absurd h

in_tuple : (c : Code) (t : Typing) (it : Val) (others : List TypeId) → Fits c t it (Some (term.Tuple others))
    → (its : Parts) × ((it ≡ parts its) × PartsFit c t its others)
in_tuple c t (parts its) others h = (its, (refl, subst (PartsFit c t its) (sym (some_same others h.0 h.1.0)) h.1.1))
in_tuple c t (number n) others h = absurd h
in_tuple c t (bound target receiver) others h = absurd h.1.0
in_tuple c t (dynamic from it) others h = absurd h.0
in_tuple c t _ others h = absurd h

pub parts_in : (c : Code) (t : Typing) (it : Val) (of : Option TypeTerm) (ids : List TypeId) → item_types of ≡ Some ids
    → Fits c t it of → (its : Parts) × ((it ≡ parts its) × PartsFit c t its ids)
parts_in c t it (Some (term.Array len elem)) ids items h =
    let found = in_array c t it len elem h in
    (found.0, (found.1.0, subst (PartsFit c t found.0) (some_same (replicate len elem) ids items) found.1.1))
parts_in c t it (Some (term.Struct fields)) ids items h =
    let found = in_struct c t it fields h in
    (found.0, (found.1.0, subst (PartsFit c t found.0) (some_same (map (λ (field : Field). field.of) fields) ids items) found.1.1))
parts_in c t it (Some (term.Tuple others)) ids items h =
    let found = in_tuple c t it others h in
    (found.0, (found.1.0, subst (PartsFit c t found.0) (some_same others ids items) found.1.1))
parts_in c t it None ids items h = absurd (none-some ids items)
parts_in c t it _ ids items h = absurd (none-some ids items)

pub data IsRange (c : Code) (t : Typing) (over : Option TypeTerm) : Val → Type 0 where
  of_text : (bytes : List ℕ) (next : ℕ) → IsRange c t over (text_range bytes next)
  of_map : (id : Option MapId) (left : List ℕ) (key elem : TypeId) → over ≡ Some (term.Map key elem) → MapFits c t id key elem
      → IsRange c t over (map_range id left)

map_range_in : (c : Code) (t : Typing) (id : Option MapId) (left : List ℕ) (over : Option TypeTerm) → MapNumberFits c t id over
    → IsRange c t over (map_range id left)
map_range_in c t id left (Some (term.Map key elem)) h = of_map id left key elem refl h
map_range_in c t id left _ h = absurd h

pub range_in : (c : Code) (t : Typing) (it : Val) (over : TypeId) → Fits c t it (Some (term.Iter over))
    → IsRange c t (under_of c over) it
range_in c t (text_range bytes next) over h = of_text bytes next
range_in c t (map_range id left) over h = map_range_in c t id left (under_of c over) h
range_in c t (bound target receiver) over h = absurd h.1.0
range_in c t (dynamic from it) over h = absurd h.0
range_in c t (parts its) over h = absurd (none-some h.0 h.1.0)
range_in c t _ over h = absurd h
