use Rattle.std.proofs.Common.{◌≡◌, take}
use Rattle.std.specs.Prelude.{flat_map}
use Rattle.tree_facts.specs.Statements.{roots_in_stmt, roots_in_arm, roots_in_clause, roots_in_type_clause, roots_in_select_clause}
use Rattle.tree_facts.specs.Search.{searched}
use Rattle.tree_facts.proofs.roots.Roots.+statement_roots.Given as goal

abbrev pub invariant-in_statements-loop-stmt : goal.invariant-in_statements-loop-stmt
invariant-in_statements-loop-stmt l = l.self ≡ searched l.fn.self (flat_map roots_in_stmt (take l.stmt-index l.statements))

abbrev pub invariant-in_arms-loop-arm : goal.invariant-in_arms-loop-arm
invariant-in_arms-loop-arm l = l.self ≡ searched l.fn.self (flat_map roots_in_arm (take l.arm-index l.arms))

abbrev pub invariant-in_clauses-loop-clause : goal.invariant-in_clauses-loop-clause
invariant-in_clauses-loop-clause l = l.self ≡ searched l.fn.self (flat_map roots_in_clause (take l.clause-index l.clauses))

abbrev pub invariant-in_type_clauses-loop-clause : goal.invariant-in_type_clauses-loop-clause
invariant-in_type_clauses-loop-clause l = l.self ≡ searched l.fn.self (flat_map roots_in_type_clause (take l.clause-index l.clauses))

abbrev pub invariant-in_select-loop-clause : goal.invariant-in_select-loop-clause
invariant-in_select-loop-clause l = l.self ≡ searched l.fn.self (flat_map roots_in_select_clause (take l.clause-index l.clauses))
