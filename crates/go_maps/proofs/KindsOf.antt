-- What kind of value a value is, by its variants.
use Rattle.std.proofs.Common.{◌≡◌, ap, refl, sym, ◌∙◌, Bool, false, Option, ℤ, Ok}
use Rattle.go_base.specs.declared.ids.ChanId.{ChanId}
use Rattle.go_base.specs.declared.ids.MapId.{MapId}
use Rattle.go_base.specs.declared.ids.TypeId.{TypeId}
use Rattle.go_value.specs.declared.address.Pointer.{Pointer}
use Rattle.go_value.specs.Values as vals
use Rattle.go_value.specs.Values.{Val, value_of, function_of, range_of}
use Rattle.go_value.specs.declared.values.FuncValue.TheVariants as variants
use Rattle.go_value.specs.declared.values.FuncValue.{FuncValue}
use Rattle.go_value.specs.declared.values.RangeState.{RangeState}
use Rattle.go_value.specs.declared.values.RangeState.TheVariants as states
use Rattle.go_value.specs.declared.values.Value.{Value}
use Rattle.go_value.specs.declared.values.Value.TheVariants as values
use Rattle.go_maps.specs.Equality.{compared, same_leaf}

pub data Kind : Type 0 where
  truths : Kind
  numbers : Kind
  texts : Kind
  pointers : Kind
  slices : Kind
  maps : Kind
  chans : Kind
  functions : Kind
  nil_interfaces : Kind
  interfaces : Kind
  compounds : Kind
  ranges : Kind

abbrev pub kind : Val → Kind
kind (vals.truth a) = truths
kind (vals.number a) = numbers
kind (vals.text a) = texts
kind (vals.pointer a) = pointers
kind (vals.slice a) = slices
kind (vals.map_number a) = maps
kind (vals.chan_number a) = chans
kind vals.nil_function = functions
kind (vals.closure a b) = functions
kind (vals.bound a b) = functions
kind (vals.expression a b c) = functions
kind vals.nil_interface = nil_interfaces
kind (vals.dynamic a b) = interfaces
kind (vals.parts a) = compounds
kind (vals.text_range a b) = ranges
kind (vals.map_range a b) = ranges

abbrev value_kind : Value → Kind
value_kind (values.Truth a) = truths
value_kind (values.Int a) = numbers
value_kind (values.Text a) = texts
value_kind (values.Pointer a) = pointers
value_kind (values.Slice a) = slices
value_kind (values.Map a) = maps
value_kind (values.Chan a) = chans
value_kind (values.Func a) = functions
value_kind values.NilInterface = nil_interfaces
value_kind (values.Interface a) = interfaces
value_kind (values.Parts a) = compounds
value_kind (values.Iter a) = ranges

pub of_function : (it : FuncValue) → kind (function_of it) ≡ functions
of_function variants.Nil = refl
of_function (variants.Closure function captured) = refl
of_function (variants.Bound target receiver) = refl
of_function (variants.Expression receiver name package_number) = refl

of_range : (it : RangeState) → kind (range_of it) ≡ ranges
of_range (states.Text bytes next) = refl
of_range (states.Map of left) = refl

kind_of : (it : Value) → kind (value_of it) ≡ value_kind it
kind_of (values.Truth a) = refl
kind_of (values.Int a) = refl
kind_of (values.Text a) = refl
kind_of (values.Pointer a) = refl
kind_of (values.Slice a) = refl
kind_of (values.Map a) = refl
kind_of (values.Chan a) = refl
kind_of (values.Func a) = of_function a.value
kind_of values.NilInterface = refl
kind_of (values.Interface a) = refl
kind_of (values.Parts a) = refl
kind_of (values.Iter a) = of_range a.value

-- ---- a value of a kind is of its variant

truth_by : (it : Value) → value_kind it ≡ truths → (x : Bool) × (it ≡ values.Truth x)
truth_by (values.Truth x) k = (x, refl)
truth_by _ k = absurd (cc)

pub truth_of : (it : Value) → kind (value_of it) ≡ truths → (x : Bool) × (it ≡ values.Truth x)
truth_of it k = truth_by it (sym (kind_of it) ∙ k)

number_by : (it : Value) → value_kind it ≡ numbers → (x : ℤ) × (it ≡ values.Int x)
number_by (values.Int x) k = (x, refl)
number_by _ k = absurd (cc)

pub number_of : (it : Value) → kind (value_of it) ≡ numbers → (x : ℤ) × (it ≡ values.Int x)
number_of it k = number_by it (sym (kind_of it) ∙ k)

text_by : (it : Value) → value_kind it ≡ texts → (x : _) × (it ≡ values.Text x)
text_by (values.Text x) k = (x, refl)
text_by _ k = absurd (cc)

pub text_of : (it : Value) → kind (value_of it) ≡ texts → (x : _) × (it ≡ values.Text x)
text_of it k = text_by it (sym (kind_of it) ∙ k)

pointer_by : (it : Value) → value_kind it ≡ pointers → (x : Pointer) × (it ≡ values.Pointer x)
pointer_by (values.Pointer x) k = (x, refl)
pointer_by _ k = absurd (cc)

pub pointer_of : (it : Value) → kind (value_of it) ≡ pointers → (x : Pointer) × (it ≡ values.Pointer x)
pointer_of it k = pointer_by it (sym (kind_of it) ∙ k)

slice_by : (it : Value) → value_kind it ≡ slices → (x : _) × (it ≡ values.Slice x)
slice_by (values.Slice x) k = (x, refl)
slice_by _ k = absurd (cc)

pub slice_of : (it : Value) → kind (value_of it) ≡ slices → (x : _) × (it ≡ values.Slice x)
slice_of it k = slice_by it (sym (kind_of it) ∙ k)

map_by : (it : Value) → value_kind it ≡ maps → (x : Option MapId) × (it ≡ values.Map x)
map_by (values.Map x) k = (x, refl)
map_by _ k = absurd (cc)

pub map_of : (it : Value) → kind (value_of it) ≡ maps → (x : Option MapId) × (it ≡ values.Map x)
map_of it k = map_by it (sym (kind_of it) ∙ k)

chan_by : (it : Value) → value_kind it ≡ chans → (x : Option ChanId) × (it ≡ values.Chan x)
chan_by (values.Chan x) k = (x, refl)
chan_by _ k = absurd (cc)

pub chan_of : (it : Value) → kind (value_of it) ≡ chans → (x : Option ChanId) × (it ≡ values.Chan x)
chan_of it k = chan_by it (sym (kind_of it) ∙ k)

function_by : (it : Value) → value_kind it ≡ functions → (x : _) × (it ≡ values.Func x)
function_by (values.Func x) k = (x, refl)
function_by _ k = absurd (cc)

pub func_of : (it : Value) → kind (value_of it) ≡ functions → (x : _) × (it ≡ values.Func x)
func_of it k = function_by it (sym (kind_of it) ∙ k)

nil_by : (it : Value) → value_kind it ≡ nil_interfaces → it ≡ values.NilInterface
nil_by values.NilInterface k = refl
nil_by _ k = absurd (cc)

pub nil_of : (it : Value) → kind (value_of it) ≡ nil_interfaces → it ≡ values.NilInterface
nil_of it k = nil_by it (sym (kind_of it) ∙ k)

interface_by : (it : Value) → value_kind it ≡ interfaces → (x : _) × (it ≡ values.Interface x)
interface_by (values.Interface x) k = (x, refl)
interface_by _ k = absurd (cc)

pub interface_of : (it : Value) → kind (value_of it) ≡ interfaces → (x : _) × (it ≡ values.Interface x)
interface_of it k = interface_by it (sym (kind_of it) ∙ k)

compound_by : (it : Value) → value_kind it ≡ compounds → (x : _) × (it ≡ values.Parts x)
compound_by (values.Parts x) k = (x, refl)
compound_by _ k = absurd (cc)

pub compound_of : (it : Value) → kind (value_of it) ≡ compounds → (x : _) × (it ≡ values.Parts x)
compound_of it k = compound_by it (sym (kind_of it) ∙ k)

pub interface_kind : (it : Value) (x : _) → it ≡ values.Interface x → kind (value_of it) ≡ interfaces
interface_kind it x is = ap (λ v. kind (value_of v)) is

pub compound_kind : (it : Value) (x : _) → it ≡ values.Parts x → kind (value_of it) ≡ compounds
compound_kind it x is = ap (λ v. kind (value_of v)) is

pub not_interfaces : (k : Kind) → k ≡ compounds → k ≡ interfaces → ⊥
not_interfaces k is is' = cc

-- ---- values that are not both of a kind

apart_leaf : (a b : Val) → (kind a ≡ kind b → ⊥) → same_leaf a b ≡ false
apart_leaf (vals.truth x) (vals.truth y) apart = absurd (apart refl)
apart_leaf (vals.truth x) b apart = refl
apart_leaf (vals.number x) (vals.number y) apart = absurd (apart refl)
apart_leaf (vals.number x) b apart = refl
apart_leaf (vals.text x) (vals.text y) apart = absurd (apart refl)
apart_leaf (vals.text x) b apart = refl
apart_leaf (vals.pointer x) (vals.pointer y) apart = absurd (apart refl)
apart_leaf (vals.pointer x) b apart = refl
apart_leaf (vals.slice x) (vals.slice y) apart = absurd (apart refl)
apart_leaf (vals.slice x) b apart = refl
apart_leaf (vals.map_number x) (vals.map_number y) apart = absurd (apart refl)
apart_leaf (vals.map_number x) b apart = refl
apart_leaf (vals.chan_number x) (vals.chan_number y) apart = absurd (apart refl)
apart_leaf (vals.chan_number x) b apart = refl
apart_leaf vals.nil_function vals.nil_function apart = absurd (apart refl)
apart_leaf vals.nil_function b apart = refl
apart_leaf vals.nil_interface vals.nil_interface apart = absurd (apart refl)
apart_leaf vals.nil_interface b apart = refl
apart_leaf (vals.closure x y) b apart = refl
apart_leaf (vals.bound x y) b apart = refl
apart_leaf (vals.expression x y z) b apart = refl
apart_leaf (vals.dynamic x y) b apart = refl
apart_leaf (vals.parts x) b apart = refl
apart_leaf (vals.text_range x y) b apart = refl
apart_leaf (vals.map_range x y) b apart = refl

pub unlike : (a b : Value) (k : Kind) → kind (value_of a) ≡ k → (kind (value_of b) ≡ k → ⊥) → false ≡ same_leaf (value_of a) (value_of b)
unlike a b k is apart = sym (apart_leaf (value_of a) (value_of b) (λ same. apart (sym same ∙ is)))

pub leaves_compared : (test : TypeId → Bool) (a b : Val) → (kind a ≡ interfaces → kind b ≡ interfaces → ⊥) → (kind a ≡ compounds → kind b ≡ compounds → ⊥) → compared test a b ≡ Ok (same_leaf a b)
leaves_compared test (vals.dynamic x y) (vals.dynamic z w) h h' = absurd (h refl refl)
leaves_compared test (vals.parts x) (vals.parts y) h h' = absurd (h' refl refl)
leaves_compared test (vals.dynamic x y) b h h' = refl
leaves_compared test (vals.parts x) b h h' = refl
leaves_compared test (vals.truth x) b h h' = refl
leaves_compared test (vals.number x) b h h' = refl
leaves_compared test (vals.text x) b h h' = refl
leaves_compared test (vals.pointer x) b h h' = refl
leaves_compared test (vals.slice x) b h h' = refl
leaves_compared test (vals.map_number x) b h h' = refl
leaves_compared test (vals.chan_number x) b h h' = refl
leaves_compared test vals.nil_function b h h' = refl
leaves_compared test vals.nil_interface b h h' = refl
leaves_compared test (vals.closure x y) b h h' = refl
leaves_compared test (vals.bound x y) b h h' = refl
leaves_compared test (vals.expression x y z) b h h' = refl
leaves_compared test (vals.text_range x y) b h h' = refl
leaves_compared test (vals.map_range x y) b h h' = refl
