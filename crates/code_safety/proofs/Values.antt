-- Values of types: what cells, maps and channels hold is told by a typing, which only grows.
use Rattle.std.proofs.Common.{◌≡◌, ◌≤◌, ◌+◌, ℕ, Bool, true, false, List, [], ◌∷◌, ◌++◌, length, map, replicate, Option, Some, None, slice_get}
use Rattle.std.specs.List.{AllZip}
use Rattle.std.specs.Option.{option_and_then}
use Rattle.ssa_runnable.specs.Runnable.{IsBoxed}
use Rattle.code_safety.proofs.Shapes.{Alike}
use Rattle.go_base.specs.declared.ids.CellId.{CellId}
use Rattle.go_base.specs.declared.ids.ChanId.{ChanId}
use Rattle.go_base.specs.declared.ids.FuncId.{FuncId}
use Rattle.go_base.specs.declared.ids.MapId.{MapId}
use Rattle.go_base.specs.declared.ids.TypeId.{TypeId}
use Rattle.go_maps.specs.Entries.{Map as Entries, Pair}
use Rattle.go_store.specs.Stores.{Stored}
use Rattle.go_type.specs.Assignable.{underlying_term_of}
use Rattle.go_type.specs.declared.term.Basic.{Basic}
use Rattle.go_type.specs.declared.term.Basic.TheVariants as basic
use Rattle.go_type.specs.declared.term.MethodType.{MethodType}
use Rattle.go_type.specs.declared.term.Signature.{Signature}
use Rattle.go_type.specs.declared.term.TypeTerm.{TypeTerm}
use Rattle.go_type.specs.declared.term.TypeTerm.TheVariants as term
use Rattle.go_value.specs.Values.{Val, Parts, none, part, truth, number, text, pointer, slice, map_number, chan_number}
use Rattle.go_value.specs.Values.{nil_function, closure, bound, expression, nil_interface, dynamic, parts, text_range}
use Rattle.go_value.specs.Values.{map_range}
use Rattle.go_value.specs.declared.address.Pointer.{Pointer}
use Rattle.go_value.specs.declared.address.SliceValue.{SliceValue}
use Rattle.go_value.specs.declared.values.BoundTarget.{BoundTarget}
use Rattle.go_value.specs.declared.values.BoundTarget.TheVariants as target
use Rattle.ssa_ir.specs.declared.code.Code.{Code}
use Rattle.ssa_ir.specs.declared.code.Function.{Function}
use Rattle.ssa_mean.specs.Calls.{method_of}
use Rattle.ssa_mean.specs.Operands.{function_at}

-- ---- typings

-- what a cell holds: a value of a type, or parts of types one by one, as the array of a slice has them
pub data Home : Type 0 where
  one : TypeId → Home
  many : List TypeId → Home

pub record MapHome : Type 0 where
  pub key : TypeId
  pub elem : TypeId

-- of each cell, map and channel what it holds
pub record Typing : Type 0 where
  pub cells : List Home
  pub maps : List MapHome
  pub chans : List TypeId

pub record Grows (t t' : Typing) : Type 0 where
  pub cells : (n : ℕ) (home : Home) → slice_get t.cells n ≡ Some home → slice_get t'.cells n ≡ Some home
  pub maps : (n : ℕ) (home : MapHome) → slice_get t.maps n ≡ Some home → slice_get t'.maps n ≡ Some home
  pub chans : (n : ℕ) (of : TypeId) → slice_get t.chans n ≡ Some of → slice_get t'.chans n ≡ Some of

-- ---- parts

abbrev pub under_of : Code → TypeId → Option TypeTerm
under_of c of = underlying_term_of c.types of

abbrev pub item_types : Option TypeTerm → Option (List TypeId)
item_types (Some (term.Array len elem)) = Some (replicate len elem)
item_types (Some (term.Struct fields)) = Some (map (λ field. field.of) fields)
item_types (Some (term.Tuple ids)) = Some ids
item_types _ = None

abbrev pub home_items : Code → Home → Option (List TypeId)
home_items c (one of) = item_types (under_of c of)
home_items c (many ids) = Some ids

-- the home of a part
abbrev pub part_home : Code → Home → List ℕ → Option Home
part_home c home [] = Some home
part_home c home (step ∷ steps) =
    option_and_then (λ ids. option_and_then (λ of. part_home c (one of) steps) (slice_get ids step)) (home_items c home)

-- ---- pointers and slices

-- a part of a cell is of a type
pub record PointsInto (c : Code) (t : Typing) (cell : CellId) (path : List ℕ) (base : TypeId) : Type 0 where
  pub home : Home
  pub there : slice_get t.cells cell.number ≡ Some home
  pub of : TypeId
  pub at : part_home c home path ≡ Some (one of)
  pub alike : Alike c.types of base

abbrev pub PointsFrom : Code → Typing → Option CellId → List ℕ → TypeId → Type 0
PointsFrom c t None path base = Unit {0}
PointsFrom c t (Some cell) path base = PointsInto c t cell path base

-- a pointer is nil, or points to a part of a type
abbrev pub Points : Code → Typing → Pointer → TypeId → Type 0
Points c t at base = PointsFrom c t at.cell at.path base

-- parts of a cell from one on, as many as a capacity, are of a type
pub record SlicesInto (c : Code) (t : Typing) (cell : CellId) (path : List ℕ) (len cap : ℕ) (elem : TypeId) : Type 0
  where
    pub home : Home
    pub there : slice_get t.cells cell.number ≡ Some home
    pub front : List ℕ
    pub last : ℕ
    pub is_path : path ≡ front ++ last ∷ []
    pub array : Home
    pub at : part_home c home front ≡ Some array
    pub ids : List TypeId
    pub items : home_items c array ≡ Some ids
    pub each : (n : ℕ) (of : TypeId) → slice_get ids n ≡ Some of → Alike c.types of elem
    pub fits : last + cap ≤ length ids
    pub within : len ≤ cap

abbrev pub SlicesFrom : Code → Typing → Option CellId → List ℕ → ℕ → ℕ → TypeId → Type 0
SlicesFrom c t None path len cap elem = (len ≡ 0) × (cap ≡ 0)
SlicesFrom c t (Some cell) path len cap elem = SlicesInto c t cell path len cap elem

abbrev pub Slices : Code → Typing → SliceValue → TypeId → Type 0
Slices c t it elem = SlicesFrom c t it.at.cell it.at.path it.len it.cap elem

-- ---- maps and channels

pub record IsMapOf (c : Code) (t : Typing) (id : MapId) (key elem : TypeId) : Type 0 where
  pub home : MapHome
  pub there : slice_get t.maps id.number ≡ Some home
  pub same_key : Alike c.types home.key key
  pub same_elem : Alike c.types home.elem elem

abbrev pub MapFits : Code → Typing → Option MapId → TypeId → TypeId → Type 0
MapFits c t None key elem = Unit {0}
MapFits c t (Some id) key elem = IsMapOf c t id key elem

pub record IsChanOf (c : Code) (t : Typing) (id : ChanId) (elem : TypeId) : Type 0 where
  pub of : TypeId
  pub there : slice_get t.chans id.number ≡ Some of
  pub alike : Alike c.types of elem

abbrev pub ChanFits : Code → Typing → Option ChanId → TypeId → Type 0
ChanFits c t None elem = Unit {0}
ChanFits c t (Some id) elem = IsChanOf c t id elem

-- ---- functions

-- a function takes the parameters of a signature, and gives its results
pub record HasSignature (c : Code) (f : Function) (signature : Signature) : Type 0 where
  pub params : AllZip (Alike c.types) signature.params f.params
  pub results : AllZip (Alike c.types) f.results signature.results

-- pointers that are captured, as what a function has for free variables
abbrev pub PointsAs : Code → Typing → Pointer → Option TypeTerm → Type 0
PointsAs c t at (Some (term.Pointer base)) = Points c t at base
PointsAs c t at _ = ⊥

pub record IsClosure (c : Code) (t : Typing) (id : FuncId) (captured : List Pointer) (signature : Signature) : Type 0
  where
    pub function : Function
    pub there : function_at c id ≡ Some function
    pub free : AllZip (λ at of. PointsAs c t at (under_of c of)) captured function.free
    pub has : HasSignature c function signature

pub record IsBinder (c : Code) (id : FuncId) (of : TypeId) (signature : Signature) : Type 0 where
  pub function : Function
  pub there : function_at c id ≡ Some function
  pub free : function.free ≡ of ∷ []
  pub has : HasSignature c function signature

-- ---- interfaces

-- the function that a method of a type is takes a receiver of the type
pub record HasMethod (c : Code) (of : TypeId) (method : MethodType) : Type 0 where
  pub id : FuncId
  pub found : method_of c of method.name method.«package» ≡ Some id
  pub function : Function
  pub there : function_at c id ≡ Some function
  pub free : function.free ≡ []
  pub params : List TypeId
  pub takes : function.params ≡ of ∷ params
  pub signature : Signature
  pub is_signature : under_of c method.of ≡ Some (term.Func signature)
  pub each : AllZip (Alike c.types) signature.params params
  pub results : AllZip (Alike c.types) function.results signature.results

abbrev pub HasAll : Code → TypeId → List MethodType → Type 0
HasAll c of methods = (n : ℕ) (method : MethodType) → slice_get methods n ≡ Some method → HasMethod c of method

-- ---- one layer of values

abbrev pub TruthFits : Option TypeTerm → Type 0
TruthFits (Some (term.Basic basic.Bool)) = Unit {0}
TruthFits (Some (term.Basic basic.UntypedBool)) = Unit {0}
TruthFits _ = ⊥

abbrev pub is_numbers : Basic → Bool
is_numbers basic.Bool = false
is_numbers basic.Text = false
is_numbers basic.UntypedBool = false
is_numbers basic.UntypedText = false
is_numbers basic.UntypedNil = false
is_numbers _ = true

abbrev pub NumberFits : Option TypeTerm → Type 0
NumberFits (Some (term.Basic kind)) = is_numbers kind ≡ true
NumberFits _ = ⊥

abbrev pub TextFits : Option TypeTerm → Type 0
TextFits (Some (term.Basic basic.Text)) = Unit {0}
TextFits (Some (term.Basic basic.UntypedText)) = Unit {0}
TextFits _ = ⊥

abbrev pub SliceFits : Code → Typing → SliceValue → Option TypeTerm → Type 0
SliceFits c t it (Some (term.Slice elem)) = Slices c t it elem
SliceFits c t it _ = ⊥

abbrev pub MapNumberFits : Code → Typing → Option MapId → Option TypeTerm → Type 0
MapNumberFits c t id (Some (term.Map key elem)) = MapFits c t id key elem
MapNumberFits c t id _ = ⊥

abbrev pub ChanNumberFits : Code → Typing → Option ChanId → Option TypeTerm → Type 0
ChanNumberFits c t id (Some (term.Chan way elem)) = ChanFits c t id elem
ChanNumberFits c t id _ = ⊥

abbrev pub NilFunctionFits : Option TypeTerm → Type 0
NilFunctionFits (Some (term.Func signature)) = Unit {0}
NilFunctionFits _ = ⊥

abbrev pub ClosureFits : Code → Typing → FuncId → List Pointer → Option TypeTerm → Type 0
ClosureFits c t id captured (Some (term.Func signature)) = IsClosure c t id captured signature
ClosureFits c t id captured _ = ⊥

abbrev pub BindsFor : Code → TypeId → Signature → BoundTarget → Type 0
BindsFor c of signature (target.Function id) = IsBinder c id of signature
BindsFor c of signature _ = ⊥

abbrev pub BinderFits : Code → TypeId → BoundTarget → Option TypeTerm → Type 0
BinderFits c of binder (Some (term.Func signature)) = BindsFor c of signature binder
BinderFits c of binder _ = ⊥

abbrev pub NilInterfaceFits : Option TypeTerm → Type 0
NilInterfaceFits (Some (term.Interface methods)) = Unit {0}
NilInterfaceFits _ = ⊥

abbrev pub BoxFits : Code → TypeId → Option TypeTerm → Type 0
BoxFits c of (Some (term.Interface methods)) = IsBoxed c of × HasAll c of methods
BoxFits c of _ = ⊥

-- the state of a range over strings, or over maps
abbrev pub TextRangeFits : Code → Option TypeTerm → Type 0
TextRangeFits c (Some (term.Iter over)) = TextFits (under_of c over)
TextRangeFits c _ = ⊥

abbrev pub MapRangeFits : Code → Typing → Option MapId → Option TypeTerm → Type 0
MapRangeFits c t id (Some (term.Iter over)) = MapNumberFits c t id (under_of c over)
MapRangeFits c t id _ = ⊥

-- ---- values

abbrev mutual
  -- a value is one of an underlying term
  pub Fits : Code → Typing → Val → Option TypeTerm → Type 0
  Fits c t (truth it) of = TruthFits of
  Fits c t (number it) of = NumberFits of
  Fits c t (text it) of = TextFits of
  Fits c t (pointer at) of = PointsAs c t at of
  Fits c t (slice it) of = SliceFits c t it of
  Fits c t (map_number id) of = MapNumberFits c t id of
  Fits c t (chan_number id) of = ChanNumberFits c t id of
  Fits c t nil_function of = NilFunctionFits of
  Fits c t (closure id captured) of = ClosureFits c t id captured of
  Fits c t (bound target receiver) of =
      (from : TypeId) × (BinderFits c from target of × Fits c t receiver (under_of c from))
  Fits c t (expression receiver name package_number) of = ⊥
  Fits c t nil_interface of = NilInterfaceFits of
  Fits c t (dynamic from it) of = BoxFits c from of × Fits c t it (under_of c from)
  Fits c t (parts it) of = (ids : List TypeId) × ((item_types of ≡ Some ids) × PartsFit c t it ids)
  Fits c t (text_range bytes next) of = TextRangeFits c of
  Fits c t (map_range id left) of = MapRangeFits c t id of

  -- parts are of types one by one
  pub PartsFit : Code → Typing → Parts → List TypeId → Type 0
  PartsFit c t none [] = Unit {0}
  PartsFit c t none (of ∷ ids) = ⊥
  PartsFit c t (part it blank rest) [] = ⊥
  PartsFit c t (part it blank rest) (of ∷ ids) = Fits c t it (under_of c of) × PartsFit c t rest ids

-- a value is of a type
abbrev pub IsOf : Code → Typing → Val → TypeId → Type 0
IsOf c t it of = Fits c t it (under_of c of)

abbrev pub AreOf : Code → Typing → List Val → List TypeId → Type 0
AreOf c t items ids = AllZip (IsOf c t) items ids

-- each of some values is of one type
abbrev pub AllOf : Code → Typing → List Val → TypeId → Type 0
AllOf c t items of = (n : ℕ) (it : Val) → slice_get items n ≡ Some it → IsOf c t it of

-- ---- what a store holds

abbrev pub ManyFit : Code → Typing → Val → List TypeId → Type 0
ManyFit c t (parts it) ids = PartsFit c t it ids
ManyFit c t it ids = ⊥

abbrev pub HomeFits : Code → Typing → Val → Home → Type 0
HomeFits c t it (one of) = IsOf c t it of
HomeFits c t it (many ids) = ManyFit c t it ids

pub record PairFits (c : Code) (t : Typing) (pair : Pair) (home : MapHome) : Type 0 where
  pub key : IsOf c t pair.key home.key
  pub value : IsOf c t pair.value home.elem

abbrev pub EntriesFit : Code → Typing → Entries → MapHome → Type 0
EntriesFit c t entries home = (n : ℕ) (pair : Pair) → slice_get entries n ≡ Some (Some pair) → PairFits c t pair home

pub record IsStore (c : Code) (t : Typing) (store : Stored) : Type 0 where
  pub cells : AllZip (HomeFits c t) store.cells t.cells
  pub maps : AllZip (EntriesFit c t) store.maps t.maps
