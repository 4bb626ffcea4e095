-- The functions that methods are, as a plan looks them up: of those with one name the first.
use Rattle.std.specs.Prelude.{◌≡◌, ℕ, List, [], ◌∷◌, ◌++◌, Option, if◌then◌else◌, is_some}
use Rattle.std.specs.List.{find}
use Rattle.std.specs.Option.{option_map}
use Rattle.code_plan.specs.Plans.{is_method}
use Rattle.code_plan.specs.declared.steps.MethodOf.{MethodOf}
use Rattle.ssa_ir.specs.declared.code.MethodLine.{MethodLine}
use Rattle.ssa_mean.specs.Calls.{is_method_line}

abbrev pub function_in : List (MethodOf × ℕ) → MethodOf → Option ℕ
function_in entries it = option_map (λ line. line.1) (find (λ line. is_method it line.0) entries)

-- the function of the first line for a method
abbrev pub function_among : List MethodLine → MethodOf → Option ℕ
function_among lines it =
    option_map (λ id. id.number)
    (option_map (λ line. line.function) (find (is_method_line it.receiver it.method.name it.method.«package») lines))

abbrev pub KnowsMethods : List MethodLine → List (MethodOf × ℕ) → Type 0
KnowsMethods lines entries = (it : MethodOf) → function_in entries it ≡ function_among lines it

abbrev pub method_in : MethodLine → MethodOf
method_in line =
    record { receiver = line.receiver; method = record { name = line.name; «package» = line.«package» } }

-- the entries with one for a line, where there is none yet for its method
abbrev pub with_method : MethodLine → List (MethodOf × ℕ) → List (MethodOf × ℕ)
with_method line entries =
    if is_some (function_in entries (method_in line)) then entries
    else entries ++ (method_in line, line.function.number) ∷ []
