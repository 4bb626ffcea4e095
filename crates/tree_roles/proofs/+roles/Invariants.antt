use Rattle.std.proofs.Common.{◌≡◌, drop, map}
use Rattle.tree_roles.specs.Roles.{roles_of_case_clause, roles_of_comm_clause, roles_of_element, roles_of_element_line}
use Rattle.tree_roles.specs.Roles.{roles_of_field_line, roles_of_if_arm, roles_of_listed_expr, roles_of_param}
use Rattle.tree_roles.specs.Roles.{roles_of_stmt_line, roles_of_type_spec, roles_of_value_spec}
use Rattle.tree_roles.specs.Tokens.{every, in_turn}
use Rattle.tree_roles.proofs.+roles.Given as goal

abbrev pub invariant-decls::have_type_spec_roles-loop-index : goal.invariant-decls::have_type_spec_roles-loop-index
invariant-decls::have_type_spec_roles-loop-index l = in_turn (map roles_of_type_spec (drop l.index l.specs)) ≡ in_turn (map roles_of_type_spec l.specs)

abbrev pub invariant-decls::have_value_roles-loop-index : goal.invariant-decls::have_value_roles-loop-index
invariant-decls::have_value_roles-loop-index l = in_turn (map roles_of_value_spec (drop l.index l.specs)) ≡ in_turn (map roles_of_value_spec l.specs)

abbrev pub invariant-exprs::have_element_roles-loop-index : goal.invariant-exprs::have_element_roles-loop-index
invariant-exprs::have_element_roles-loop-index l = in_turn (map roles_of_element (drop l.index l.elements)) ≡ in_turn (map roles_of_element l.elements)

abbrev pub invariant-exprs::have_expr_roles-loop-index : goal.invariant-exprs::have_expr_roles-loop-index
invariant-exprs::have_expr_roles-loop-index l = in_turn (map roles_of_listed_expr (drop l.index l.exprs)) ≡ in_turn (map roles_of_listed_expr l.exprs)

abbrev pub invariant-stmts::have_arm_roles-loop-arm : goal.invariant-stmts::have_arm_roles-loop-arm
invariant-stmts::have_arm_roles-loop-arm l = every (map roles_of_if_arm (drop l.arm-index l.arms)) ≡ every (map roles_of_if_arm l.arms)

abbrev pub invariant-stmts::have_clause_roles-loop-clause : goal.invariant-stmts::have_clause_roles-loop-clause
invariant-stmts::have_clause_roles-loop-clause l = every (map roles_of_case_clause (drop l.clause-index l.clauses)) ≡ every (map roles_of_case_clause l.clauses)

abbrev pub invariant-stmts::have_comm_roles-loop-clause : goal.invariant-stmts::have_comm_roles-loop-clause
invariant-stmts::have_comm_roles-loop-clause l = every (map roles_of_comm_clause (drop l.clause-index l.clauses)) ≡ every (map roles_of_comm_clause l.clauses)

abbrev pub invariant-stmts::have_line_roles-loop-index : goal.invariant-stmts::have_line_roles-loop-index
invariant-stmts::have_line_roles-loop-index l = in_turn (map roles_of_stmt_line (drop l.index l.lines)) ≡ in_turn (map roles_of_stmt_line l.lines)

abbrev pub invariant-types::have_element_roles-loop-index : goal.invariant-types::have_element_roles-loop-index
invariant-types::have_element_roles-loop-index l = in_turn (map roles_of_element_line (drop l.index l.elements)) ≡ in_turn (map roles_of_element_line l.elements)

abbrev pub invariant-types::have_field_roles-loop-index : goal.invariant-types::have_field_roles-loop-index
invariant-types::have_field_roles-loop-index l = in_turn (map roles_of_field_line (drop l.index l.fields)) ≡ in_turn (map roles_of_field_line l.fields)

abbrev pub invariant-types::have_param_roles-loop-index : goal.invariant-types::have_param_roles-loop-index
invariant-types::have_param_roles-loop-index l = in_turn (map roles_of_param (drop l.index l.params)) ≡ in_turn (map roles_of_param l.params)
