-- The zero value of a type. Go specification, "The zero value".
use Rattle.std.specs.Prelude.{ℕ, suc, List, [], ◌∷◌, Option, Some, None, if◌then◌else◌, codes}
use Rattle.std.specs.Option.{option_and_then}
use Rattle.std.specs.Str.{bytes_eq}
use Rattle.go_base.specs.declared.ids.NameId.{NameId}
use Rattle.go_base.specs.declared.ids.TypeId.{TypeId}
use Rattle.go_type.specs.Table.{Table}
use Rattle.go_value.specs.Values.{Val}
use Rattle.go_value.specs.Zeros.{zero_to}
use Rattle.ssa_ir.specs.declared.code.Code.{Code}

-- the name `_` among names, the first having a number
abbrev pub blank_from : ℕ → List (List ℕ) → Option NameId
blank_from n [] = None
blank_from n (name ∷ names) =
    if bytes_eq name (codes "_") then Some (record { number = n }) else blank_from (suc n) names

-- no type has a nesting above 1,000
abbrev pub most_nesting : ℕ
most_nesting = 1000

-- by the types, and the names of which one may be `_`
abbrev pub zero_in : Table → List (List ℕ) → TypeId → Option Val
zero_in types names of = zero_to most_nesting types (blank_from 0 names) of

unfoldable pub zero_of : Code → TypeId → Option Val
zero_of code of = zero_in code.types code.names of

abbrev pub zero_where : Code → Option TypeId → Option Val
zero_where code of = option_and_then (zero_of code) of
