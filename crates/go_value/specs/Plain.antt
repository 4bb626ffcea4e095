-- Values as what they are, without where they lie in memory. Go specification, "Types" and "Properties of types and
-- values".
use Rattle.std.specs.Prelude.{ℕ, ℤ, List, [], ◌∷◌, Bool, Option}
use Rattle.go_base.specs.declared.ids.ChanId.{ChanId}
use Rattle.go_base.specs.declared.ids.FuncId.{FuncId}
use Rattle.go_base.specs.declared.ids.MapId.{MapId}
use Rattle.go_base.specs.declared.ids.NameId.{NameId}
use Rattle.go_base.specs.declared.ids.TypeId.{TypeId}
use Rattle.go_value.specs.declared.address.Pointer.{Pointer}
use Rattle.go_value.specs.declared.address.SliceValue.{SliceValue}
use Rattle.go_value.specs.declared.values.BoundTarget.{BoundTarget}

mutual
  -- a value
  pub data Val : Type 0 where
    truth : Bool → Val
    number : ℤ → Val
    text : List ℕ → Val
    pointer : Pointer → Val
    slice : SliceValue → Val
    -- a map or a channel by its number, or nil
    map_number : Option MapId → Val
    chan_number : Option ChanId → Val
    -- a function value: nil; a function with captured pointers; a method with its receiver; a method expression
    nil_function : Val
    closure : FuncId → List Pointer → Val
    bound : BoundTarget → Val → Val
    expression : TypeId → NameId → ℕ → Val
    -- an interface: nil, or a type with a value of it
    nil_interface : Val
    dynamic : TypeId → Val → Val
    -- the elements of an array, the fields of a struct or the values of a tuple
    parts : Parts → Val
    -- how far a range over a text or a map has come
    text_range : List ℕ → ℕ → Val
    map_range : Option MapId → List ℕ → Val

  -- parts in order, each with whether it is a field named `_`
  pub data Parts : Type 0 where
    none : Parts
    part : Val → Bool → Parts → Parts

-- a part, and a value in an interface
pub record Field : Type 0 where
  pub value : Val
  pub blank : Bool

pub record Typed : Type 0 where
  pub of : TypeId
  pub value : Val

abbrev pub parts_of : List Field → Parts
parts_of [] = none
parts_of (field ∷ fields) = part field.value field.blank (parts_of fields)
