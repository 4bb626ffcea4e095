-- Which names are used. Go specification, "Variable declarations": it is illegal "to declare a variable inside a
-- function body if the variable is never used"; "Type switches": the variables of all clauses have one name.
use Rattle.std.specs.Prelude.{ℕ, suc, ◌==◌, Bool, false, not, ◌&&◌, List, [], ◌∷◌, ◌++◌, slice_get, if◌then◌else◌}
use Rattle.std.specs.Prelude.{unwrap_or}
use Rattle.std.specs.List.{list_any}
use Rattle.go_base.specs.declared.ids.VarId.{VarId}
use Rattle.go_base.specs.declared.rule.Rule.TheVariants.{VariableNotUsed}
use Rattle.go_faults.specs.declared.fault.Fault.{Fault}
use Rattle.go_names.specs.declared.mentions.Mention.{Mention}
use Rattle.go_names.specs.declared.mentions.Mentioned.{Mentioned}
use Rattle.go_names.specs.declared.mentions.Mentioned.TheVariants.{Variable, Function, Import}
use Rattle.use_rules.specs.declared.needs.Need.{Need}

-- the names that have to be used, and the variables, each with the number of its name among these
pub record Needed : Type 0 where
  pub names : List Need
  pub variables : List (VarId × ℕ)

-- whether a number is marked
abbrev pub flag_at : List Bool → ℕ → Bool
flag_at flags number = unwrap_or (slice_get flags number) false

abbrev pub is_variable : VarId → Mentioned → Bool
is_variable v (Variable w) = w.number == v.number
is_variable v (Function f) = false
is_variable v (Import file index) = false

-- whether a name that was read is a use of a variable: being the whole target of a plain assignment is none
abbrev pub is_use : VarId → Mention → Bool
is_use v mention = is_variable v mention.what && not mention.assigned

abbrev pub is_read : List Mention → VarId → Bool
is_read mentions v = list_any (is_use v) mentions

-- whether the name with a number is used: a variable that it names is read
abbrev pub is_used : Needed → List Mention → ℕ → Bool
is_used needs mentions name = list_any (λ it. (it.1 == name) && is_read mentions it.0) needs.variables

-- a name that is not used is a fault of the phase behind that of bodies
abbrev pub fault_of : Need → Fault
fault_of need = record { phase = 4; «package» = need.«package»; pos = need.at; rule = VariableNotUsed }

-- those of names, the first of which has a number, that are not used
abbrev pub unused_from : (ℕ → Bool) → ℕ → List Need → List Fault
unused_from used number [] = []
unused_from used number (need ∷ needs) =
    (if used number then [] else fault_of need ∷ []) ++ unused_from used (suc number) needs

abbrev pub unused : Needed → List Mention → List Fault
unused needs mentions = unused_from (is_used needs mentions) 0 needs.names
