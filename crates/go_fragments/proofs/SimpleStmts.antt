-- Lists of one, and simple statements as statements.
use Rattle.std.proofs.Common.{◌≡◌, Bool, true, false, Option, Some, None, refl}
use Rattle.std.specs.Prelude.{if◌then◌else◌}
use Rattle.go_grammar.specs.Forests.{Forest}
use Rattle.go_grammar.specs.View.{tree}
use Rattle.go_grammar.proofs.Views.{view_stmt_send, view_stmt_step, view_stmt_assign, view_stmt_define, view_stmt_expr}

abbrev pub single_if : Bool → Forest → Option Forest
single_if single trees = if single then Some trees else None

pub single_by : (single : Bool) (trees tree : Forest) → single_if single trees ≡ Some tree → (single ≡ true) × (trees ≡ tree)
single_by true trees tree h = (refl, cc)
single_by false trees tree h = absurd cc

pub single_not : (single : Bool) (trees : Forest) → single_if single trees ≡ None → single ≡ false
single_not true trees h = absurd cc
single_not false trees h = refl

pub ruleset simples = (view_stmt_expr, view_stmt_send, view_stmt_step, view_stmt_assign, view_stmt_define)
