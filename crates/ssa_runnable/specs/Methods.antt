-- The functions that methods are, as they are looked up: of those with one name the first. And which types have, of an
-- interface that they implement, every method.
use Rattle.std.specs.Prelude.{◌≡◌, true, ◌==◌, ◌&&◌, Bool, List, [], ◌∷◌, ◌++◌, Option, Some, if◌then◌else◌, is_some}
use Rattle.std.specs.List.{All, find, list_all}
use Rattle.std.specs.Option.{option_map}
use Rattle.go_base.specs.declared.ids.FuncId.{FuncId}
use Rattle.go_base.specs.declared.ids.TypeId.{TypeId}
use Rattle.go_type.specs.Assignable.{underlying_term_of, Implements}
use Rattle.go_type.specs.Same.{same_id}
use Rattle.go_type.specs.declared.term.MethodType.{MethodType}
use Rattle.go_type.specs.declared.term.TypeTerm.TheVariants.{Interface}
use Rattle.ssa_ir.specs.declared.code.Code.{Code}
use Rattle.ssa_ir.specs.declared.code.MethodLine.{MethodLine}
use Rattle.ssa_mean.specs.Calls.{is_method_line}
use Rattle.ssa_runnable.specs.Runnable.{has_method}
use Rattle.ssa_runnable.specs.declared.methods.MethodOf.{MethodOf}

abbrev pub is_same : MethodOf → MethodOf → Bool
is_same it other =
    same_id it.receiver other.receiver && ((it.name.number == other.name.number) && (it.«package» == other.«package»))

abbrev pub function_in : List (MethodOf × FuncId) → MethodOf → Option FuncId
function_in entries it = option_map (λ line. line.1) (find (λ line. is_same it line.0) entries)

-- the function of the first line for a method
abbrev pub function_among : List MethodLine → MethodOf → Option FuncId
function_among lines it =
    option_map (λ line. line.function) (find (is_method_line it.receiver it.name it.«package») lines)

abbrev pub KnowsMethods : List MethodLine → List (MethodOf × FuncId) → Type 0
KnowsMethods lines entries = (it : MethodOf) → function_in entries it ≡ function_among lines it

abbrev pub method_in : MethodLine → MethodOf
method_in line = record { receiver = line.receiver; name = line.name; «package» = line.«package» }

-- the entries with one for a line, where there is none yet for its method
abbrev pub with_method : MethodLine → List (MethodOf × FuncId) → List (MethodOf × FuncId)
with_method line entries =
    if is_some (function_in entries (method_in line)) then entries else entries ++ (method_in line, line.function) ∷ []

-- ---- types with every method of an interface that they implement

abbrev pub HasAll : Code → TypeId → List MethodType → TypeId → Type 0
HasAll c interface methods of = Implements c.types of interface → list_all (has_method c of) methods ≡ true

abbrev pub AllHave : Code → List TypeId → TypeId → Type 0
AllHave c types interface =
    (methods : List MethodType) → underlying_term_of c.types interface ≡ Some (Interface methods)
    → All (HasAll c interface methods) types
