use Rattle.std.proofs.Common.{◌≡◌, ap, sym, ◌∙◌, subst}
use Rattle.std.specs.Prelude.{◌++◌, OnOk, flat_map}
use Rattle.tree_facts.specs.Roots.{taken}
use Rattle.tree_facts.specs.Search.{searched}
use Rattle.tree_facts.specs.Statements.{roots_in_stmt, roots_in_arm, roots_in_clause, roots_in_type_clause, roots_in_select_clause, roots_in_block, in_optional, in_some, in_cases, in_comm}
use Rattle.tree_facts.proofs.Searching.{turn, searched_twice}
use Rattle.tree_facts.proofs.StatementForms.{arm_is, clause_is, type_clause_is, select_clause_is, switch_is, type_switch_is}
use Rattle.tree_facts.proofs.roots.Roots.+statement_roots.Goals as goal

pub in_statements-loop-stmt-preserved : goal.in_statements-loop-stmt-preserved
in_statements-loop-stmt-preserved t c = turn roots_in_stmt c.args.self.now c.loop-stmt.self c.in_statement.new.self c.args.statements.now c.loop-stmt.stmt-index _ c.stmt-item.result c.loop-stmt-test.true c.loop-stmt.invariant c.stmt-item.is c.in_ok-in_statement.ensures.ok

pub in_type_clauses-loop-clause-preserved : goal.in_type_clauses-loop-clause-preserved
in_type_clauses-loop-clause-preserved t c = turn roots_in_type_clause c.args.self.now c.loop-clause.self c.in_block.new.self c.args.clauses.now c.loop-clause.clause-index _ c.clause-item.result c.loop-clause-test.true c.loop-clause.invariant c.clause-item.is (c.in_ok-in_block.ensures.ok ∙ ap (searched c.loop-clause.self) (sym (type_clause_is c.clause-item.result)))

pub in_clauses-loop-clause-preserved : goal.in_clauses-loop-clause-preserved
in_clauses-loop-clause-preserved t c =
    let clause = c.clause-item.result in
    let behind : c.in_block.new.self ≡ searched c.loop-clause.self (roots_in_clause clause) =
    c.in_ok-in_block.ensures.ok ∙ ap (λ s. searched s (roots_in_block clause.body)) (c.in_ok-in_cases.ensures.ok ∙ ap (λ y. searched c.loop-clause.self (in_cases y)) c.deref.ensures.value)
    ∙ searched_twice c.loop-clause.self (in_cases clause.cases.items) (roots_in_block clause.body) ∙ ap (searched c.loop-clause.self) (sym (clause_is clause)) in
    turn roots_in_clause c.args.self.now c.loop-clause.self c.in_block.new.self c.args.clauses.now c.loop-clause.clause-index _ clause c.loop-clause-test.true c.loop-clause.invariant c.clause-item.is behind

pub in_select-loop-clause-preserved : goal.in_select-loop-clause-preserved
in_select-loop-clause-preserved t c =
    let clause = c.clause-item.result in
    let behind : c.in_block.new.self ≡ searched c.loop-clause.self (roots_in_select_clause clause) =
    c.in_ok-in_block.ensures.ok ∙ ap (λ s. searched s (roots_in_block clause.body)) c.in_ok-in_comm.ensures.ok
    ∙ searched_twice c.loop-clause.self (in_comm clause.comm) (roots_in_block clause.body) ∙ ap (searched c.loop-clause.self) (sym (select_clause_is clause)) in
    turn roots_in_select_clause c.args.self.now c.loop-clause.self c.in_block.new.self c.args.clauses.now c.loop-clause.clause-index _ clause c.loop-clause-test.true c.loop-clause.invariant c.clause-item.is behind

pub in_arms-loop-arm-preserved : goal.in_arms-loop-arm-preserved
in_arms-loop-arm-preserved t c =
    let arm = c.arm-item.result in
    let behind : c.in_block.new.self ≡ searched c.loop-arm.self (roots_in_arm arm) =
    c.in_ok-in_block.ensures.ok ∙ ap (λ s. searched s (roots_in_block arm.body)) (c.in_ok-in_expr.ensures.ok ∙ ap (λ s. searched s (taken arm.condition)) c.in_ok-in_optional.ensures.ok)
    ∙ searched_twice (searched c.loop-arm.self (in_optional arm.init)) (taken arm.condition) (roots_in_block arm.body)
    ∙ searched_twice c.loop-arm.self (in_optional arm.init) (taken arm.condition ++ roots_in_block arm.body)
    ∙ ap (searched c.loop-arm.self) (sym (arm_is arm)) in
    turn roots_in_arm c.args.self.now c.loop-arm.self c.in_block.new.self c.args.arms.now c.loop-arm.arm-index _ arm c.loop-arm-test.true c.loop-arm.invariant c.arm-item.is behind

pub in_statement-returns-in_ok-in_optional_expr-in-Switch-clause-ok : goal.in_statement-returns-in_ok-in_optional_expr-in-Switch-clause-ok
in_statement-returns-in_ok-in_optional_expr-in-Switch-clause-ok t c =
    let of = c.in-Switch in
    let before = c.args.self.now in
    let rest = flat_map roots_in_clause c.deref-in-Switch.result.now in
    let whole : searched c.in_optional_expr.new.self rest ≡ searched before (roots_in_stmt c.args.stmt.now) =
    ap (λ s. searched s rest) (c.in_ok-in_optional_expr-in-Switch.ensures.ok ∙ ap (λ s. searched s (in_some taken of.tag)) c.in_ok-in_optional-in-Switch.ensures.ok)
    ∙ searched_twice (searched before (in_optional of.init)) (in_some taken of.tag) rest
    ∙ searched_twice before (in_optional of.init) (in_some taken of.tag ++ rest)
    ∙ ap (λ y. searched before (in_optional of.init ++ (in_some taken of.tag ++ flat_map roots_in_clause y))) c.deref-in-Switch.ensures.value
    ∙ ap (searched before) (sym (ap roots_in_stmt of.is ∙ switch_is of.at of.init of.tag of.clauses of.end)) in
    subst (λ x. OnOk c.in_clauses.result (c.in_clauses.new.self ≡ x)) whole c.in_clauses.ensures.ok

pub in_statement-returns-in_ok-in_expr-in-TypeSwitch-clause-ok : goal.in_statement-returns-in_ok-in_expr-in-TypeSwitch-clause-ok
in_statement-returns-in_ok-in_expr-in-TypeSwitch-clause-ok t c =
    let of = c.in-TypeSwitch in
    let before = c.args.self.now in
    let rest = flat_map roots_in_type_clause c.deref-in-TypeSwitch.result.now in
    let whole : searched c.in_expr-in-TypeSwitch.new.self rest ≡ searched before (roots_in_stmt c.args.stmt.now) =
    ap (λ s. searched s rest) (c.in_ok-in_expr-in-TypeSwitch.ensures.ok ∙ ap (λ s. searched s (taken of.operand)) c.in_ok-in_optional-in-TypeSwitch.ensures.ok)
    ∙ searched_twice (searched before (in_optional of.init)) (taken of.operand) rest
    ∙ searched_twice before (in_optional of.init) (taken of.operand ++ rest)
    ∙ ap (λ y. searched before (in_optional of.init ++ (taken of.operand ++ flat_map roots_in_type_clause y))) c.deref-in-TypeSwitch.ensures.value
    ∙ ap (searched before) (sym (ap roots_in_stmt of.is ∙ type_switch_is of.at of.init of.operand of.clauses of.end)) in
    subst (λ x. OnOk c.in_type_clauses.result (c.in_type_clauses.new.self ≡ x)) whole c.in_type_clauses.ensures.ok
