-- A value and whether there was one.
use Rattle.std.proofs.Common.{◌≡◌, ◌∙◌, [], ◌∷◌, List, ap, Bool, false}
use Rattle.std.specs.Prelude.{Result, Ok, Err, IfOk}
use Rattle.go_value.specs.declared.values.Value.{Value}
use Rattle.go_value.specs.declared.values.Value.TheVariants as values
use Rattle.go_value.specs.Values.{Val, Field, parts_of, value_of, parts, truth}
use Rattle.ssa_mean.specs.Making.{pair_of}

abbrev plain : Value → Field
plain it = record { value = value_of it; blank = false }

pub pair_is : (it : Value) (ok : Bool) (items : List Field) → items ≡ plain it ∷ plain (values.Truth ok) ∷ []
    → parts (parts_of items) ≡ pair_of (value_of it) (truth ok)
pair_is it ok items is =
    ap (λ (items : List Field). parts (parts_of items)) is

-- a value is what another is equal to
pub told : {E : Type 0} (given : Result Value E) (it other : Val) → it ≡ other → IfOk given (λ made. value_of made ≡ it)
    → IfOk given (λ made. value_of made ≡ other)
told (Ok made) it other is h = h ∙ is
told (Err e) it other is h = h
