-- The package variables of a code with their numbers among the blank ones.
use Rattle.std.specs.Prelude.{ℕ, ◌+◌, ◌==◌, Bool, ◌&&◌, List, [], ◌∷◌, ◌++◌, if◌then◌else◌, codes, count_by}
use Rattle.std.specs.Str.{bytes_eq}
use Rattle.go_base.specs.declared.ids.NameId.{NameId}
use Rattle.go_text.specs.Naming.{name_text}
use Rattle.ssa_ir.specs.declared.code.CodeVariable.{CodeVariable}
use Rattle.ssa_print.specs.declared.variables.NamedVariable.{NamedVariable}

abbrev pub is_blank_name : List (List ℕ) → NameId → Bool
is_blank_name names name = bytes_eq (name_text names name) (codes "_")

abbrev pub is_blank_in : List (List ℕ) → ℕ → CodeVariable → Bool
is_blank_in names number v = is_blank_name names v.name && (v.«package» == number)

-- the number of a variable behind others: a blank one is counted among those of its package
abbrev pub blank_of : List (List ℕ) → List CodeVariable → CodeVariable → ℕ
blank_of names before v = if is_blank_name names v.name then count_by (is_blank_in names v.«package») before + 1 else 0

abbrev pub named_behind : List (List ℕ) → List CodeVariable → List CodeVariable → List NamedVariable
named_behind names before [] = []
named_behind names before (v ∷ rest) =
    record { variable = v; blank = blank_of names before v } ∷ named_behind names (before ++ v ∷ []) rest

abbrev pub named_variables : List (List ℕ) → List CodeVariable → List NamedVariable
named_variables names variables = named_behind names [] variables
