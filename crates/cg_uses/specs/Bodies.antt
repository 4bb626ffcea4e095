-- What stands in a function, and in what initialises a package.
use Rattle.std.specs.Prelude.{ℕ, ◌==◌, Bool, true, false, ◌&&◌, List, [], ◌∷◌, ◌++◌, Option, flat_map, length}
use Rattle.std.specs.Prelude.{slice_get, if◌then◌else◌}
use Rattle.go_base.specs.declared.ids.FuncId.{FuncId}
use Rattle.go_base.specs.declared.ids.VarId.{VarId}
use Rattle.go_tree.specs.declared.functions.FunctionDecl.{FunctionDecl}
use Rattle.go_tree.specs.declared.functions.FunctionForm.{FunctionForm}
use Rattle.go_tree.specs.declared.functions.FunctionForm.TheVariants as form_of
use Rattle.go_tree.specs.declared.program.Body.{Body}
use Rattle.go_tree.specs.declared.program.InitStep.{InitStep}
use Rattle.go_tree.specs.declared.program.Program.{Program}
use Rattle.tree_facts.specs.FunctionNames.{is_part_to}
use Rattle.cg_nodes.specs.declared.nodes.Called.TheVariants as called
use Rattle.cg_nodes.specs.declared.nodes.Mention.{Mention}
use Rattle.cg_nodes.specs.declared.nodes.Mention.TheVariants as mention
use Rattle.cg_nodes.specs.declared.nodes.Node.TheVariants as node_of
use Rattle.cg_nodes.specs.Places.{flow, each_from}
use Rattle.cg_uses.specs.Statements.{Setting, variable_node, initialises, uses_in_block, uses_in_some}
use Rattle.cg_nodes.specs.Uses.{seen_values}

-- what a function is given is in its parameters
unfoldable pub enters : Setting → ℕ → VarId → List Mention
enters s i v = flow (node_of.Parameter s.function i) (variable_node s v)

abbrev pub entered : Setting → List VarId → List Mention
entered s params = each_from (enters s) 0 params

-- what is in the variables of results is given
unfoldable pub leaves : Setting → ℕ → VarId → List Mention
leaves s i v = flow (variable_node s v) (node_of.Returned s.function i)

abbrev pub given : Setting → List VarId → List Mention
given s results = each_from (leaves s) 0 results

abbrev pub setting : Program → FuncId → List VarId → Setting
setting p f results = record { types = p.types; variables = p.variables; function = f; results = results }

abbrev pub uses_within : Setting → Body → List Mention
uses_within s body = entered s body.params ++ (given s body.results ++ uses_in_block s body.block)

unfoldable pub body_uses : Program → FuncId → Body → List Mention
body_uses p f body = uses_within (setting p f body.results) body

abbrev pub uses_if_body : Program → FuncId → Option Body → List Mention
uses_if_body p f body = uses_in_some (body_uses p f) body

abbrev pub uses_of_some : Program → FuncId → List Mention
uses_of_some p f = uses_in_some (uses_if_body p f) (slice_get p.bodies f.number)

-- the initialisers of a package's variables
unfoldable pub step_uses : Setting → ℕ → InitStep → List Mention
step_uses s pack step =
    if step.package == pack then initialises s step.variables (seen_values s.types step.values) else []

abbrev pub is_init : FunctionForm → Bool
is_init form_of.Init = true
is_init _ = false

-- each function named `init` is called, at its name
unfoldable pub init_uses : ℕ → ℕ → FunctionDecl → List Mention
init_uses pack number d =
    if is_init d.form && (d.package == pack) then mention.Call d.at (called.Fixed (record { number = number })) ∷ []
    else []

-- what initialises a package
unfoldable pub package_uses : Program → FuncId → ℕ → List Mention
package_uses p f pack =
    flat_map (step_uses (setting p f []) pack) p.initialisers ++ each_from (init_uses pack) 0 p.functions

unfoldable pub form_uses : Program → FuncId → FunctionDecl → FunctionForm → List Mention
form_uses p f d form_of.PackageInit = package_uses p f d.package
form_uses p f d _ = uses_of_some p f

abbrev pub declared_uses : Program → FuncId → FunctionDecl → List Mention
declared_uses p f d =
    if is_part_to (length p.functions) p.names p.functions f.number then form_uses p f d d.form else []

-- what stands in a function: nothing where it is named `_`, or a literal in such a function
unfoldable pub uses : Program → FuncId → List Mention
uses p f = uses_in_some (declared_uses p f) (slice_get p.functions f.number)
