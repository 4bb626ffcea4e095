use Rattle.std.proofs.Common.{◌≡◌, drop, ◌++◌}
use Rattle.std.specs.Prelude.{flat_map}
use Rattle.cg_uses.specs.Settings.{setting_of}
use Rattle.cg_uses.specs.Statements.{uses_in_stmt, uses_in_arm, clause_uses, type_clause_uses, uses_in_select_clause}
use Rattle.cg_uses.proofs.statements.+statement_uses.Given as goal

abbrev pub invariant-in_statements-loop-stmt : goal.invariant-in_statements-loop-stmt
invariant-in_statements-loop-stmt l = l.out.items ++ flat_map (uses_in_stmt (setting_of l.around)) (drop l.stmt-index l.statements) ≡ l.fn.out.items ++ flat_map (uses_in_stmt (setting_of l.around)) l.statements

abbrev pub invariant-in_arms-loop-arm : goal.invariant-in_arms-loop-arm
invariant-in_arms-loop-arm l = l.out.items ++ flat_map (uses_in_arm (setting_of l.around)) (drop l.arm-index l.arms) ≡ l.fn.out.items ++ flat_map (uses_in_arm (setting_of l.around)) l.arms

abbrev pub invariant-in_clauses-loop-clause : goal.invariant-in_clauses-loop-clause
invariant-in_clauses-loop-clause l = l.out.items ++ flat_map (clause_uses (setting_of l.around) l.tag) (drop l.clause-index l.clauses) ≡ l.fn.out.items ++ flat_map (clause_uses (setting_of l.around) l.tag) l.clauses

abbrev pub invariant-in_type_clauses-loop-clause : goal.invariant-in_type_clauses-loop-clause
invariant-in_type_clauses-loop-clause l = l.out.items ++ flat_map (type_clause_uses (setting_of l.around) l.operand) (drop l.clause-index l.clauses) ≡ l.fn.out.items ++ flat_map (type_clause_uses (setting_of l.around) l.operand) l.clauses

abbrev pub invariant-in_select-loop-clause : goal.invariant-in_select-loop-clause
invariant-in_select-loop-clause l = l.out.items ++ flat_map (uses_in_select_clause (setting_of l.around)) (drop l.clause-index l.clauses) ≡ l.fn.out.items ++ flat_map (uses_in_select_clause (setting_of l.around)) l.clauses
