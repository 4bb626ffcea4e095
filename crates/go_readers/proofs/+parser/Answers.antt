use Rattle.go_ast.specs.declared.token.Kind.TheVariants.{CloseBrace, CloseParen, Comma, ElseWord, IfWord}
use Rattle.go_grammar.proofs.Forests.{append-empty}
use Rattle.go_grammar.proofs.Views.{view_block_made, view_case_clause_made, view_comm_clause_made, view_decl_const, view_decl_type_decl, view_decl_var, view_element_line_embedded, view_element_line_empty, view_element_line_method, view_element_made, view_expr_assertion, view_expr_binary, view_expr_call, view_expr_composite, view_expr_full_slice, view_expr_function, view_expr_index, view_expr_paren, view_expr_selector, view_expr_type_form, view_expr_unary, view_field_line_empty, view_field_line_named, view_listed_expr_made, view_result_form_params, view_stmt_block, view_stmt_defer, view_stmt_for, view_stmt_go, view_stmt_range, view_stmt_return, view_stmt_select, view_stmt_while, view_type_expr_array, view_type_expr_chan, view_type_expr_function, view_type_expr_interface, view_type_expr_map, view_type_expr_open_array, view_type_expr_paren, view_type_expr_pointer, view_type_expr_receive_chan, view_type_expr_slice, view_type_expr_struct}
use Rattle.go_grammar.specs.ExprReading.{begins_suffix, binary_in, binary_turn, context_of, element_in, is_type_only, primary_in, separated_in, suffix_turn, unary_in, unary_of}
use Rattle.go_grammar.specs.FileReading.{parsers}
use Rattle.go_grammar.specs.Forests.{Forest, append, empty}
use Rattle.go_grammar.specs.Grammar.{TypeSpec}
use Rattle.go_grammar.specs.Reading.{many_in, then_in, ◌>>=◌}
use Rattle.go_grammar.specs.StmtReading.{ends_statements, for_in, for_rest_in, lines_in, simple_rest_in, switch_in}
use Rattle.go_grammar.specs.Tests.{begins_both, goes_on, not_closed, word_in}
use Rattle.go_grammar.specs.TypeReading.{entries_in}
use Rattle.go_grammar.specs.View.{each, one, token_if, view_case_clause, view_comm_clause, view_element, view_element_line, view_expr, view_field_line, view_if_arm, view_label, view_listed_expr, view_stmt_line, view_type_spec, view_value_spec}
use Rattle.go_readers.proofs.Declarations.{decl_const, decl_type, decl_var, group_alone, group_parens}
use Rattle.go_readers.proofs.Groupings.{element_alone, element_with_key, regroup, view_high_slice, view_low_slice}
use Rattle.go_readers.proofs.Guards.{guarded, no_clauses, no_guard, no_suffix}
use Rattle.go_fragments.proofs.Loops.{each_push, list_done, list_on, list_over, many_done, many_fails, many_on, many_over, many_start, repeat_done, repeat_fails, repeat_on, repeat_over}
use Rattle.go_readers.proofs.OperandChoices.{operand_function, operand_int, operand_name, operand_other, operand_paren, operand_rune, operand_text, sign_fails, sign_given, star_fails, star_given}
use Rattle.go_readers.proofs.ParamEntries.{entries_done, entries_fail, entries_on, entries_over, entries_push, entries_start}
use Rattle.go_readers.proofs.SimpleStmts.{assigned, assigns_nothing, defined, defines_nothing, split_assign, split_define}
use Rattle.go_readers.proofs.StatementChoices.{compound_block, compound_for, compound_if, compound_select, compound_simple, compound_switch, for_empty, for_ever, for_no_targets, for_no_word, for_range, for_targets, if_without, labels_alone, labels_before, labels_none, labels_wrong, line_empty, line_read, line_seen, memory_alone, rest_clauses, rest_no_condition, rest_no_stmt, rest_range, rest_while, seen_labeled, statement_unlabeled}
use Rattle.go_fragments.proofs.Statements.{first_start}
use Rattle.go_readers.proofs.Statements.{arm_made, branch_first, compound_last, decl_first, defer_first, exprs_list, for_made, go_first, items_listed, range_made, return_first}
use Rattle.go_readers.proofs.Turns.{binary_done, binary_on, binary_start, binary_stops, primary_start, suffix_done, suffix_on, suffix_stops}
use Rattle.go_readers.proofs.TypeChoices.{long_bare, long_chan, long_function, long_name, long_star, type_long, type_paren}
use Rattle.go_fragments.specs.Entries.{entries, view_entry}
use Rattle.go_fragments.specs.Expressions.{view_context}
use Rattle.go_readers.specs.Expressions.{list_in}
use Rattle.go_fragments.specs.Giving.{Fails}
use Rattle.go_readers.specs.Lines.{element_line_in, element_lines_in, field_line_in, field_lines_in}
use Rattle.go_fragments.specs.Operands.{sign_at, star_at}
use Rattle.go_readers.specs.Specs.{spec_line_in, spec_lines_in, value_sort}
use Rattle.go_fragments.specs.Statements.{boxed_expr, boxed_stmt, view_body, view_guard, view_header, view_simple, view_suffix}
use Rattle.go_readers.specs.Statements.{arm_in, arms_in, clause_in, clause_list_in, comm_clause_in, comm_list_in, else_arm_in, line_in, statement_in}
use Rattle.go_syntax.specs.declared.exprs.Expr.{Expr}
use Rattle.std.proofs.Common.{Option, ap, arith, length, refl, rules, sym, ◌-◌, ◌∙◌, ◌≡◌}
use Rattle.std.specs.Option.{is_some}
use Rattle.std.specs.Prelude.{None, Some, not}
use Rattle.go_syntax.specs.declared.exprs.Expr.TheVariants as exprs
use Rattle.go_fragments.proofs.Lines.{braces_end, maybe_arrow, parens_end}
use Rattle.go_fragments.specs.declared.stop.Stop.TheVariants as stops
use Rattle.go_readers.proofs.+parser.Goals as goal

pub decls::decl-returns-then-is_const : goal.decls::decl-returns-then-is_const
decls::decl-returns-then-is_const t c = rw (decl_const (parsers c.args.depth) c.args.tokens.now (sym c.begins_with-is_const.ensures ∙ c.if-is_const.true)) c.const_decl.ensures

pub decls::decl-returns-then-is_type : goal.decls::decl-returns-then-is_type
decls::decl-returns-then-is_type t c = rw (decl_type (parsers c.args.depth) c.args.tokens.now (sym c.begins_with-is_const.ensures ∙ c.if-is_const.false) (sym c.begins_with-is_type.ensures ∙ c.if-is_type.true)) c.type_decl.ensures

pub decls::decl-returns : goal.decls::decl-returns
decls::decl-returns t c = rw (decl_var (parsers c.args.depth) c.args.tokens.now (sym c.begins_with-is_const.ensures ∙ c.if-is_const.false) (sym c.begins_with-is_type.ensures ∙ c.if-is_type.false)) c.var_decl.ensures

pub decls::type_lines-loop-init : goal.decls::type_lines-loop-init
decls::type_lines-loop-init t c = many_start (not_closed CloseParen) (spec_line_in (parsers c.args.depth) TypeSpec) (length c.args.tokens.now) 0 (each view_type_spec c.new-lines.result.items) c.args.tokens.now refl (ap (each view_type_spec) c.new-lines.ensures.items)

pub decls::type_lines-loop-preserved : goal.decls::type_lines-loop-preserved
decls::type_lines-loop-preserved t c =
    many_on (not_closed CloseParen) (spec_line_in (parsers c.args.depth) TypeSpec) (length c.args.tokens.now) c.loop.counter
    (each view_type_spec c.loop.lines.items) (each view_type_spec c.push.new.self.items) (view_type_spec c.in_ok-line.line) c.loop.rest.now c.in_ok-line.after.now (spec_lines_in (parsers c.args.depth) TypeSpec c.args.tokens.now)
    c.loop-test.true (ap not (sym c.begins_with.ensures ∙ c.if-begins_with.false)) c.in_ok-line.ensures
    (ap (each view_type_spec) c.in_ok-push.ensures.items ∙ each_push view_type_spec c.loop.lines.items c.in_ok-line.line) c.loop.invariant

pub decls::type_lines-returns-then-begins_with : goal.decls::type_lines-returns-then-begins_with
decls::type_lines-returns-then-begins_with t c =
    many_done (not_closed CloseParen) (spec_line_in (parsers c.args.depth) TypeSpec) (length c.args.tokens.now - c.loop.counter) (each view_type_spec c.loop.lines.items) c.loop.rest.now (spec_lines_in (parsers c.args.depth) TypeSpec c.args.tokens.now)
    (ap not (sym c.begins_with.ensures ∙ c.if-begins_with.true)) c.loop.invariant

pub decls::type_lines-returns : goal.decls::type_lines-returns
decls::type_lines-returns t c =
    many_over (not_closed CloseParen) (spec_line_in (parsers c.args.depth) TypeSpec) (length c.args.tokens.now) c.loop.counter (each view_type_spec c.loop.lines.items) c.loop.rest.now (spec_lines_in (parsers c.args.depth) TypeSpec c.args.tokens.now)
    c.loop-test.false c.loop.invariant

pub decls::type_lines-returns-in_err-line : goal.decls::type_lines-returns-in_err-line
decls::type_lines-returns-in_err-line t c =
    let fails : Fails c.in_err-line.field-0.0 (spec_lines_in (parsers c.args.depth) TypeSpec c.args.tokens.now) =
    many_fails (not_closed CloseParen) (spec_line_in (parsers c.args.depth) TypeSpec) c.in_err-line.field-0.0 (length c.args.tokens.now) c.loop.counter (each view_type_spec c.loop.lines.items) c.loop.rest.now (spec_lines_in (parsers c.args.depth) TypeSpec c.args.tokens.now)
    c.loop-test.true (ap not (sym c.begins_with.ensures ∙ c.if-begins_with.false)) c.in_err-line.ensures c.loop.invariant in
    search rules

pub decls::type_specs-returns-then-has_parens : goal.decls::type_specs-returns-then-has_parens
decls::type_specs-returns-then-has_parens t c = rw (group_parens (parsers c.args.depth) TypeSpec c.args.tokens.now (sym c.begins_with-has_parens.ensures ∙ c.if-has_parens.true)) c.type_group.ensures

pub decls::type_specs-returns : goal.decls::type_specs-returns
decls::type_specs-returns t c = rw (group_alone (parsers c.args.depth) TypeSpec c.args.tokens.now (sym c.begins_with-has_parens.ensures ∙ c.if-has_parens.false)) c.lone_type.ensures

pub decls::value_lines-loop-init : goal.decls::value_lines-loop-init
decls::value_lines-loop-init t c = many_start (not_closed CloseParen) (spec_line_in (parsers c.args.depth) (value_sort c.args.constant)) (length c.args.tokens.now) 0 (each view_value_spec c.new-lines.result.items) c.args.tokens.now refl (ap (each view_value_spec) c.new-lines.ensures.items)

pub decls::value_lines-loop-preserved : goal.decls::value_lines-loop-preserved
decls::value_lines-loop-preserved t c =
    many_on (not_closed CloseParen) (spec_line_in (parsers c.args.depth) (value_sort c.args.constant)) (length c.args.tokens.now) c.loop.counter
    (each view_value_spec c.loop.lines.items) (each view_value_spec c.push.new.self.items) (view_value_spec c.in_ok-line.line) c.loop.rest.now c.in_ok-line.after.now (spec_lines_in (parsers c.args.depth) (value_sort c.args.constant) c.args.tokens.now)
    c.loop-test.true (ap not (sym c.begins_with.ensures ∙ c.if-begins_with.false)) c.in_ok-line.ensures
    (ap (each view_value_spec) c.in_ok-push.ensures.items ∙ each_push view_value_spec c.loop.lines.items c.in_ok-line.line) c.loop.invariant

pub decls::value_lines-returns-then-begins_with : goal.decls::value_lines-returns-then-begins_with
decls::value_lines-returns-then-begins_with t c =
    many_done (not_closed CloseParen) (spec_line_in (parsers c.args.depth) (value_sort c.args.constant)) (length c.args.tokens.now - c.loop.counter) (each view_value_spec c.loop.lines.items) c.loop.rest.now (spec_lines_in (parsers c.args.depth) (value_sort c.args.constant) c.args.tokens.now)
    (ap not (sym c.begins_with.ensures ∙ c.if-begins_with.true)) c.loop.invariant

pub decls::value_lines-returns : goal.decls::value_lines-returns
decls::value_lines-returns t c =
    many_over (not_closed CloseParen) (spec_line_in (parsers c.args.depth) (value_sort c.args.constant)) (length c.args.tokens.now) c.loop.counter (each view_value_spec c.loop.lines.items) c.loop.rest.now (spec_lines_in (parsers c.args.depth) (value_sort c.args.constant) c.args.tokens.now)
    c.loop-test.false c.loop.invariant

pub decls::value_lines-returns-in_err-line : goal.decls::value_lines-returns-in_err-line
decls::value_lines-returns-in_err-line t c =
    let fails : Fails c.in_err-line.field-0.0 (spec_lines_in (parsers c.args.depth) (value_sort c.args.constant) c.args.tokens.now) =
    many_fails (not_closed CloseParen) (spec_line_in (parsers c.args.depth) (value_sort c.args.constant)) c.in_err-line.field-0.0 (length c.args.tokens.now) c.loop.counter (each view_value_spec c.loop.lines.items) c.loop.rest.now (spec_lines_in (parsers c.args.depth) (value_sort c.args.constant) c.args.tokens.now)
    c.loop-test.true (ap not (sym c.begins_with.ensures ∙ c.if-begins_with.false)) c.in_err-line.ensures c.loop.invariant in
    search rules

pub decls::value_specs-returns-then-has_parens : goal.decls::value_specs-returns-then-has_parens
decls::value_specs-returns-then-has_parens t c = rw (group_parens (parsers c.args.depth) (value_sort c.args.constant) c.args.tokens.now (sym c.begins_with-has_parens.ensures ∙ c.if-has_parens.true)) c.value_group.ensures

pub decls::value_specs-returns : goal.decls::value_specs-returns
decls::value_specs-returns t c = rw (group_alone (parsers c.args.depth) (value_sort c.args.constant) c.args.tokens.now (sym c.begins_with-has_parens.ensures ∙ c.if-has_parens.false)) c.lone_value.ensures

pub exprs::binary-loop-init : goal.exprs::binary-loop-init
exprs::binary-loop-init t c = binary_start (parsers c.args.depth) (view_context c.args.context) c.args.min c.args.tokens.now c.in_ok-left.rest.now (view_expr c.in_ok-left.left.value) _ c.in_ok-left.ensures (ap (λ (tree : Expr). is_type_only (view_expr tree)) (sym c.deref.ensures) ∙ sym c.is_type_only.ensures ∙ c.if-is_type_only.false) (omega arith)

pub exprs::binary-loop-preserved : goal.exprs::binary-loop-preserved
exprs::binary-loop-preserved t c =
    repeat_on (binary_turn (parsers c.args.depth) (view_context c.args.context) c.args.min) (length c.in_ok-left.rest.now) c.loop.counter (view_expr c.loop.left.value, c.loop.rest.now) (view_expr c.in_ok-longer.longer.value, c.in_ok-longer.next.now)
    (binary_in (parsers c.args.depth) (view_context c.args.context) c.args.min c.args.tokens.now) c.loop-test.true
    (binary_on (parsers c.args.depth) (view_context c.args.context) c.args.min (view_expr c.loop.left.value) (view_expr c.in_ok-longer.longer.value) c.in-Some.operator c.loop.rest.now c.in-Some.after.now c.in_ok-longer.next.now c.in-Some.ensures c.in_ok-longer.ensures)
    c.loop.invariant

pub exprs::binary-returns-in_default : goal.exprs::binary-returns-in_default
exprs::binary-returns-in_default t c =
    repeat_done (binary_turn (parsers c.args.depth) (view_context c.args.context) c.args.min) (length c.in_ok-left.rest.now) c.loop.counter (view_expr c.loop.left.value, c.loop.rest.now) (view_expr c.loop.left.value, c.loop.rest.now)
    (binary_in (parsers c.args.depth) (view_context c.args.context) c.args.min c.args.tokens.now) c.loop-test.true
    (binary_done (parsers c.args.depth) (view_context c.args.context) c.args.min (view_expr c.loop.left.value) c.loop.rest.now c.in_default.ensures)
    c.loop.invariant

pub exprs::binary-returns : goal.exprs::binary-returns
exprs::binary-returns t c = repeat_over (binary_turn (parsers c.args.depth) (view_context c.args.context) c.args.min) (length c.in_ok-left.rest.now) c.loop.counter (view_expr c.loop.left.value, c.loop.rest.now) (binary_in (parsers c.args.depth) (view_context c.args.context) c.args.min c.args.tokens.now) c.loop-test.false c.loop.invariant

pub exprs::binary-returns-in_err-longer : goal.exprs::binary-returns-in_err-longer
exprs::binary-returns-in_err-longer t c =
    let fails : Fails c.in_err-longer.field-0.0 (binary_in (parsers c.args.depth) (view_context c.args.context) c.args.min c.args.tokens.now) =
    repeat_fails (binary_turn (parsers c.args.depth) (view_context c.args.context) c.args.min) c.in_err-longer.field-0.0 (length c.in_ok-left.rest.now) c.loop.counter (view_expr c.loop.left.value, c.loop.rest.now)
    (binary_in (parsers c.args.depth) (view_context c.args.context) c.args.min c.args.tokens.now) c.loop-test.true
    (binary_stops (parsers c.args.depth) (view_context c.args.context) c.args.min c.in_err-longer.field-0.0 (view_expr c.loop.left.value) c.in-Some.operator c.loop.rest.now c.in-Some.after.now c.in-Some.ensures c.in_err-longer.ensures)
    c.loop.invariant in
    search rules

pub exprs::element-returns : goal.exprs::element-returns
exprs::element-returns t c =
    element_alone (parsers c.args.depth) c.args.tokens.now c.in_ok-first.rest.now c.in-Some-separator-2.rest.now (view_expr c.in_ok-first.first.value) (token_if c.in-Some-separator-2.comma) _
    c.in_ok-first.ensures c.in_default.ensures.found c.in-Some-separator-2.ensures.read (view_element_made _)

pub exprs::element-returns-in-Some : goal.exprs::element-returns-in-Some
exprs::element-returns-in-Some t c =
    element_with_key (parsers c.args.depth) c.args.tokens.now c.in_ok-first.rest.now c.in-Some.rest.now c.in_ok-value.rest.now c.in-Some-separator.rest.now
    (view_expr c.in_ok-first.first.value) (one c.in-Some.colon) (view_expr c.in_ok-value.value.value) (token_if c.in-Some-separator.comma) _
    c.in_ok-first.ensures c.in-Some.ensures.found c.in-Some.ensures.read c.in_ok-value.ensures c.in-Some-separator.ensures.read (view_element_made _)

pub exprs::elements-loop-preserved : goal.exprs::elements-loop-preserved
exprs::elements-loop-preserved t c =
    many_on (not_closed CloseBrace) (separated_in (element_in (parsers c.args.depth))) (length c.args.tokens.now) c.loop.counter
    (each view_element c.loop.elements.items) (each view_element c.push.new.self.items) (view_element c.in_ok-element.element) c.loop.rest.now c.in_ok-element.after.now
    (many_in (not_closed CloseBrace) (separated_in (element_in (parsers c.args.depth))) (length c.args.tokens.now) c.args.tokens.now)
    c.loop-test.true (ap not (sym c.begins_with.ensures ∙ c.if-begins_with.false)) c.in_ok-element.ensures
    (ap (each view_element) c.in_ok-push.ensures.items ∙ each_push view_element c.loop.elements.items c.in_ok-element.element) c.loop.invariant

pub exprs::elements-returns-then-begins_with : goal.exprs::elements-returns-then-begins_with
exprs::elements-returns-then-begins_with t c =
    many_done (not_closed CloseBrace) (separated_in (element_in (parsers c.args.depth))) (length c.args.tokens.now - c.loop.counter) (each view_element c.loop.elements.items) c.loop.rest.now
    (many_in (not_closed CloseBrace) (separated_in (element_in (parsers c.args.depth))) (length c.args.tokens.now) c.args.tokens.now)
    (ap not (sym c.begins_with.ensures ∙ c.if-begins_with.true)) c.loop.invariant

pub exprs::elements-returns : goal.exprs::elements-returns
exprs::elements-returns t c =
    many_over (not_closed CloseBrace) (separated_in (element_in (parsers c.args.depth))) (length c.args.tokens.now) c.loop.counter (each view_element c.loop.elements.items) c.loop.rest.now
    (many_in (not_closed CloseBrace) (separated_in (element_in (parsers c.args.depth))) (length c.args.tokens.now) c.args.tokens.now) c.loop-test.false c.loop.invariant

pub exprs::elements-returns-in_err-element : goal.exprs::elements-returns-in_err-element
exprs::elements-returns-in_err-element t c =
    let fails : Fails c.in_err-element.field-0.0 (many_in (not_closed CloseBrace) (separated_in (element_in (parsers c.args.depth))) (length c.args.tokens.now) c.args.tokens.now) =
    many_fails (not_closed CloseBrace) (separated_in (element_in (parsers c.args.depth))) c.in_err-element.field-0.0 (length c.args.tokens.now) c.loop.counter (each view_element c.loop.elements.items) c.loop.rest.now
    (many_in (not_closed CloseBrace) (separated_in (element_in (parsers c.args.depth))) (length c.args.tokens.now) c.args.tokens.now)
    c.loop-test.true (ap not (sym c.begins_with.ensures ∙ c.if-begins_with.false)) c.in_err-element.ensures c.loop.invariant in
    search rules

pub exprs::expr_list-loop-preserved : goal.exprs::expr_list-loop-preserved
exprs::expr_list-loop-preserved t c =
    many_on goes_on (then_in (word_in Comma) ((parsers c.args.depth).expr (view_context c.args.context) 1)) (length c.in_ok-expr.rest.now) c.loop.counter
    (append (each view_listed_expr c.loop.list.items) (view_expr c.loop.expr.value)) (append (each view_listed_expr c.push-in-loop.new.self.items) (view_expr c.in_ok-comma.next.value))
    (append (one c.in_ok-comma.comma) (view_expr c.in_ok-comma.next.value)) c.loop.rest.now c.in_ok-comma.after.now (list_in (parsers c.args.depth) (view_context c.args.context) c.args.tokens.now)
    c.loop-test.true (sym c.list_goes_on.ensures ∙ c.if-not-list_goes_on.false) c.in_ok-comma.ensures
    (list_on view_listed_expr c.loop.list.items c.push-in-loop.new.self.items _ _ _ (view_expr c.loop.expr.value) (one c.in_ok-comma.comma) (view_expr c.in_ok-comma.next.value)
    c.in_ok-push-2.ensures.items (view_listed_expr_made _) refl refl)
    c.loop.invariant

pub exprs::expr_list-returns-then-not-list_goes_on : goal.exprs::expr_list-returns-then-not-list_goes_on
exprs::expr_list-returns-then-not-list_goes_on t c =
    list_done view_listed_expr c.loop.list.items c.push.new.self.items _ goes_on (then_in (word_in Comma) ((parsers c.args.depth).expr (view_context c.args.context) 1)) (length c.in_ok-expr.rest.now - c.loop.counter)
    (append (each view_listed_expr c.loop.list.items) (view_expr c.loop.expr.value)) c.loop.rest.now (list_in (parsers c.args.depth) (view_context c.args.context) c.args.tokens.now)
    (sym c.list_goes_on.ensures ∙ c.if-not-list_goes_on.true) c.in_ok-push.ensures.items (ap (append (each view_listed_expr c.loop.list.items)) (sym (view_listed_expr_made _ ∙ append-empty (view_expr c.loop.expr.value)))) c.loop.invariant

pub exprs::expr_list-returns : goal.exprs::expr_list-returns
exprs::expr_list-returns t c =
    list_over view_listed_expr c.loop.list.items c.push-2.new.self.items _ goes_on (then_in (word_in Comma) ((parsers c.args.depth).expr (view_context c.args.context) 1)) (length c.in_ok-expr.rest.now) c.loop.counter
    (append (each view_listed_expr c.loop.list.items) (view_expr c.loop.expr.value)) c.loop.rest.now (list_in (parsers c.args.depth) (view_context c.args.context) c.args.tokens.now)
    c.loop-test.false c.in_ok-push-3.ensures.items (ap (append (each view_listed_expr c.loop.list.items)) (sym (view_listed_expr_made _ ∙ append-empty (view_expr c.loop.expr.value)))) c.loop.invariant

pub exprs::expr_list-returns-in_err-comma : goal.exprs::expr_list-returns-in_err-comma
exprs::expr_list-returns-in_err-comma t c =
    let fails : Fails c.in_err-comma.field-0.0 (list_in (parsers c.args.depth) (view_context c.args.context) c.args.tokens.now) =
    many_fails goes_on (then_in (word_in Comma) ((parsers c.args.depth).expr (view_context c.args.context) 1)) c.in_err-comma.field-0.0 (length c.in_ok-expr.rest.now) c.loop.counter
    (append (each view_listed_expr c.loop.list.items) (view_expr c.loop.expr.value)) c.loop.rest.now (list_in (parsers c.args.depth) (view_context c.args.context) c.args.tokens.now)
    c.loop-test.true (sym c.list_goes_on.ensures ∙ c.if-not-list_goes_on.false) c.in_err-comma.ensures c.loop.invariant in
    search rules

pub exprs::operand-returns-then-is_int : goal.exprs::operand-returns-then-is_int
exprs::operand-returns-then-is_int t c = rw (operand_int (parsers c.args.depth) (view_context c.args.context) c.args.tokens.now (sym c.begins_with-is_int.ensures ∙ c.if-is_int.true)) c.int_literal.ensures

pub exprs::operand-returns-then-is_rune : goal.exprs::operand-returns-then-is_rune
exprs::operand-returns-then-is_rune t c = rw (operand_rune (parsers c.args.depth) (view_context c.args.context) c.args.tokens.now (sym c.begins_with-is_rune.ensures ∙ c.if-is_rune.true)) c.rune_literal.ensures

pub exprs::operand-returns-then-is_text : goal.exprs::operand-returns-then-is_text
exprs::operand-returns-then-is_text t c = rw (operand_text (parsers c.args.depth) (view_context c.args.context) c.args.tokens.now (sym c.begins_with-is_text.ensures ∙ c.if-is_text.true)) c.text_literal.ensures

pub exprs::operand-returns-then-is_named : goal.exprs::operand-returns-then-is_named
exprs::operand-returns-then-is_named t c = rw (operand_name (parsers c.args.depth) (view_context c.args.context) c.args.tokens.now (sym c.begins_with-is_named.ensures ∙ c.if-is_named.true)) c.name.ensures

pub exprs::operand-returns-then-is_paren : goal.exprs::operand-returns-then-is_paren
exprs::operand-returns-then-is_paren t c = rw (operand_paren (parsers c.args.depth) (view_context c.args.context) c.args.tokens.now (sym c.begins_with-is_paren.ensures ∙ c.if-is_paren.true)) c.paren.ensures

pub exprs::operand-returns-then-is_function : goal.exprs::operand-returns-then-is_function
exprs::operand-returns-then-is_function t c = rw (operand_function (parsers c.args.depth) (view_context c.args.context) c.args.tokens.now (sym c.begins_with-is_function.ensures ∙ c.if-is_function.true)) c.function.ensures

pub exprs::operand-returns : goal.exprs::operand-returns
exprs::operand-returns t c =
    rw (operand_other (parsers c.args.depth) (view_context c.args.context) c.args.tokens.now (sym c.begins_with-is_int.ensures ∙ c.if-is_int.false) (sym c.begins_with-is_rune.ensures ∙ c.if-is_rune.false)
    (sym c.begins_with-is_text.ensures ∙ c.if-is_text.false) (sym c.begins_with-is_named.ensures ∙ c.if-is_named.false) (sym c.begins_with-is_paren.ensures ∙ c.if-is_paren.false)
    (sym c.begins_with-is_function.ensures ∙ c.if-is_function.false)) c.type_operand.ensures

pub exprs::primary-loop-init : goal.exprs::primary-loop-init
exprs::primary-loop-init t c = primary_start (parsers c.args.depth) (view_context c.args.context) c.args.tokens.now c.in_ok-left.rest.now (view_expr c.in_ok-left.left.value) _ c.in_ok-left.ensures (ap (λ (tree : Expr). is_type_only (view_expr tree)) (sym c.deref.ensures) ∙ sym c.is_type_only.ensures ∙ c.if-is_type_only.false) (omega arith)

pub exprs::primary-loop-preserved : goal.exprs::primary-loop-preserved
exprs::primary-loop-preserved t c =
    repeat_on (suffix_turn (parsers c.args.depth) (view_context c.args.context)) (length c.in_ok-left.rest.now) c.loop.counter (view_expr c.loop.left.value, c.loop.rest.now) (view_expr c.in_ok-longer.longer.value, c.in_ok-longer.after.now)
    (primary_in (parsers c.args.depth) (view_context c.args.context) c.args.tokens.now) c.loop-test.true
    (suffix_on (parsers c.args.depth) (view_context c.args.context) (view_expr c.loop.left.value) (view_expr c.in_ok-longer.longer.value) c.loop.rest.now c.in_ok-longer.after.now (ap (λ (tree : Expr). begins_suffix (view_context c.args.context) (view_expr tree) c.loop.rest.now) (sym c.deref-in-loop.ensures) ∙ sym c.begins_with_suffix.ensures ∙ c.if-not-begins_with_suffix.false) c.in_ok-longer.ensures)
    c.loop.invariant

pub exprs::primary-returns-then-not-begins_with_suffix : goal.exprs::primary-returns-then-not-begins_with_suffix
exprs::primary-returns-then-not-begins_with_suffix t c =
    repeat_done (suffix_turn (parsers c.args.depth) (view_context c.args.context)) (length c.in_ok-left.rest.now) c.loop.counter (view_expr c.loop.left.value, c.loop.rest.now) (view_expr c.loop.left.value, c.loop.rest.now)
    (primary_in (parsers c.args.depth) (view_context c.args.context) c.args.tokens.now) c.loop-test.true
    (suffix_done (parsers c.args.depth) (view_context c.args.context) (view_expr c.loop.left.value) c.loop.rest.now (ap (λ (tree : Expr). begins_suffix (view_context c.args.context) (view_expr tree) c.loop.rest.now) (sym c.deref-in-loop.ensures) ∙ sym c.begins_with_suffix.ensures ∙ c.if-not-begins_with_suffix.true))
    c.loop.invariant

pub exprs::primary-returns : goal.exprs::primary-returns
exprs::primary-returns t c = repeat_over (suffix_turn (parsers c.args.depth) (view_context c.args.context)) (length c.in_ok-left.rest.now) c.loop.counter (view_expr c.loop.left.value, c.loop.rest.now) (primary_in (parsers c.args.depth) (view_context c.args.context) c.args.tokens.now) c.loop-test.false c.loop.invariant

pub exprs::primary-returns-in_err-longer : goal.exprs::primary-returns-in_err-longer
exprs::primary-returns-in_err-longer t c =
    let fails : Fails c.in_err-longer.field-0.0 (primary_in (parsers c.args.depth) (view_context c.args.context) c.args.tokens.now) =
    repeat_fails (suffix_turn (parsers c.args.depth) (view_context c.args.context)) c.in_err-longer.field-0.0 (length c.in_ok-left.rest.now) c.loop.counter (view_expr c.loop.left.value, c.loop.rest.now)
    (primary_in (parsers c.args.depth) (view_context c.args.context) c.args.tokens.now) c.loop-test.true
    (suffix_stops (parsers c.args.depth) (view_context c.args.context) c.in_err-longer.field-0.0 (view_expr c.loop.left.value) c.loop.rest.now (ap (λ (tree : Expr). begins_suffix (view_context c.args.context) (view_expr tree) c.loop.rest.now) (sym c.deref-in-loop.ensures) ∙ sym c.begins_with_suffix.ensures ∙ c.if-not-begins_with_suffix.false) c.in_err-longer.ensures)
    c.loop.invariant in
    search rules

pub exprs::unary-returns-in_err-operand : goal.exprs::unary-returns-in_err-operand
exprs::unary-returns-in_err-operand t c =
    let fails : Fails c.in_err-operand.field-0.0 (unary_in (parsers c.args.depth) (view_context c.args.context) c.args.tokens.now) =
    star_fails (parsers c.args.depth) (view_context c.args.context) c.in_err-operand.field-0.0 c.args.tokens.now c.in-Some.operator c.in-Some.rest.now c.in-Some.ensures c.in_err-operand.ensures in
    search rules

pub exprs::unary-returns-in-Some : goal.exprs::unary-returns-in-Some
exprs::unary-returns-in-Some t c =
    star_given (parsers c.args.depth) (view_context c.args.context) c.args.tokens.now c.in-Some.operator c.in-Some.rest.now c.in_ok-operand.rest.now (view_expr c.in_ok-operand.operand.value)
    (view_expr c.in_ok-starred.field-0.value) c.in-Some.ensures c.in_ok-operand.ensures c.in_ok-starred.ensures

pub exprs::unary-returns-in_err-operand-2 : goal.exprs::unary-returns-in_err-operand-2
exprs::unary-returns-in_err-operand-2 t c =
    let fails : Fails c.in_err-operand-2.field-0.0 (unary_in (parsers c.args.depth) (view_context c.args.context) c.args.tokens.now) =
    sign_fails (parsers c.args.depth) (view_context c.args.context) c.in_err-operand-2.field-0.0 c.args.tokens.now c.in-Some-sign.operator c.in-Some-sign.rest.now (view_context c.of_operand.result)
    c.in_default.ensures c.in-Some-sign.ensures c.of_operand.ensures c.in_err-operand-2.ensures in
    search rules

pub exprs::unary-returns-in-Some-sign : goal.exprs::unary-returns-in-Some-sign
exprs::unary-returns-in-Some-sign t c =
    let seen : view_expr (exprs.Unary c.in-Some-sign.operator c.in_ok-operand-2.operand) ≡ unary_of c.in-Some-sign.operator (view_expr c.in_ok-operand-2.operand.value) =
    view_expr_unary c.in-Some-sign.operator c.in_ok-operand-2.operand in
    sign_given (parsers c.args.depth) (view_context c.args.context) c.args.tokens.now c.in-Some-sign.operator c.in-Some-sign.rest.now c.in_ok-operand-2.rest.now (view_context c.of_operand.result)
    (view_expr c.in_ok-operand-2.operand.value) _ c.in_default.ensures c.in-Some-sign.ensures c.of_operand.ensures c.in_ok-operand-2.ensures
    (ap (λ (tree : Expr). view_expr tree) c.in_ok-boxed.ensures.ok ∙ seen)

pub stmts::clauses-loop-init : goal.stmts::clauses-loop-init
stmts::clauses-loop-init t c = many_start (not_closed CloseBrace) (clause_in (parsers c.args.depth)) (length c.args.tokens.now) 0 (each view_case_clause c.new-clauses.result.items) c.args.tokens.now refl (ap (each view_case_clause) c.new-clauses.ensures.items)

pub stmts::clauses-loop-preserved : goal.stmts::clauses-loop-preserved
stmts::clauses-loop-preserved t c =
    many_on (not_closed CloseBrace) (clause_in (parsers c.args.depth)) (length c.args.tokens.now) c.loop.counter (each view_case_clause c.loop.clauses.items) (each view_case_clause c.push.new.self.items) (view_case_clause c.in_ok-clause.clause) c.loop.rest.now c.in_ok-clause.after.now (clause_list_in (parsers c.args.depth) c.args.tokens.now)
    c.loop-test.true (ap not (sym c.begins_with.ensures ∙ c.if-begins_with.false)) c.in_ok-clause.ensures (ap (each view_case_clause) c.in_ok-push.ensures.items ∙ each_push view_case_clause c.loop.clauses.items c.in_ok-clause.clause) c.loop.invariant

pub stmts::clauses-returns-then-begins_with : goal.stmts::clauses-returns-then-begins_with
stmts::clauses-returns-then-begins_with t c = many_done (not_closed CloseBrace) (clause_in (parsers c.args.depth)) (length c.args.tokens.now - c.loop.counter) (each view_case_clause c.loop.clauses.items) c.loop.rest.now (clause_list_in (parsers c.args.depth) c.args.tokens.now) (ap not (sym c.begins_with.ensures ∙ c.if-begins_with.true)) c.loop.invariant

pub stmts::clauses-returns : goal.stmts::clauses-returns
stmts::clauses-returns t c = many_over (not_closed CloseBrace) (clause_in (parsers c.args.depth)) (length c.args.tokens.now) c.loop.counter (each view_case_clause c.loop.clauses.items) c.loop.rest.now (clause_list_in (parsers c.args.depth) c.args.tokens.now) c.loop-test.false c.loop.invariant

pub stmts::clauses-returns-in_err-clause : goal.stmts::clauses-returns-in_err-clause
stmts::clauses-returns-in_err-clause t c =
    let fails : Fails c.in_err-clause.field-0.0 (clause_list_in (parsers c.args.depth) c.args.tokens.now) =
    many_fails (not_closed CloseBrace) (clause_in (parsers c.args.depth)) c.in_err-clause.field-0.0 (length c.args.tokens.now) c.loop.counter (each view_case_clause c.loop.clauses.items) c.loop.rest.now (clause_list_in (parsers c.args.depth) c.args.tokens.now) c.loop-test.true (ap not (sym c.begins_with.ensures ∙ c.if-begins_with.false)) c.in_err-clause.ensures c.loop.invariant in
    search rules

pub stmts::comm_clauses-loop-init : goal.stmts::comm_clauses-loop-init
stmts::comm_clauses-loop-init t c = many_start (not_closed CloseBrace) (comm_clause_in (parsers c.args.depth)) (length c.args.tokens.now) 0 (each view_comm_clause c.new-clauses.result.items) c.args.tokens.now refl (ap (each view_comm_clause) c.new-clauses.ensures.items)

pub stmts::comm_clauses-loop-preserved : goal.stmts::comm_clauses-loop-preserved
stmts::comm_clauses-loop-preserved t c =
    many_on (not_closed CloseBrace) (comm_clause_in (parsers c.args.depth)) (length c.args.tokens.now) c.loop.counter (each view_comm_clause c.loop.clauses.items) (each view_comm_clause c.push.new.self.items) (view_comm_clause c.in_ok-clause.clause) c.loop.rest.now c.in_ok-clause.after.now (comm_list_in (parsers c.args.depth) c.args.tokens.now)
    c.loop-test.true (ap not (sym c.begins_with.ensures ∙ c.if-begins_with.false)) c.in_ok-clause.ensures (ap (each view_comm_clause) c.in_ok-push.ensures.items ∙ each_push view_comm_clause c.loop.clauses.items c.in_ok-clause.clause) c.loop.invariant

pub stmts::comm_clauses-returns-then-begins_with : goal.stmts::comm_clauses-returns-then-begins_with
stmts::comm_clauses-returns-then-begins_with t c = many_done (not_closed CloseBrace) (comm_clause_in (parsers c.args.depth)) (length c.args.tokens.now - c.loop.counter) (each view_comm_clause c.loop.clauses.items) c.loop.rest.now (comm_list_in (parsers c.args.depth) c.args.tokens.now) (ap not (sym c.begins_with.ensures ∙ c.if-begins_with.true)) c.loop.invariant

pub stmts::comm_clauses-returns : goal.stmts::comm_clauses-returns
stmts::comm_clauses-returns t c = many_over (not_closed CloseBrace) (comm_clause_in (parsers c.args.depth)) (length c.args.tokens.now) c.loop.counter (each view_comm_clause c.loop.clauses.items) c.loop.rest.now (comm_list_in (parsers c.args.depth) c.args.tokens.now) c.loop-test.false c.loop.invariant

pub stmts::comm_clauses-returns-in_err-clause : goal.stmts::comm_clauses-returns-in_err-clause
stmts::comm_clauses-returns-in_err-clause t c =
    let fails : Fails c.in_err-clause.field-0.0 (comm_list_in (parsers c.args.depth) c.args.tokens.now) =
    many_fails (not_closed CloseBrace) (comm_clause_in (parsers c.args.depth)) c.in_err-clause.field-0.0 (length c.args.tokens.now) c.loop.counter (each view_comm_clause c.loop.clauses.items) c.loop.rest.now (comm_list_in (parsers c.args.depth) c.args.tokens.now) c.loop-test.true (ap not (sym c.begins_with.ensures ∙ c.if-begins_with.false)) c.in_err-clause.ensures c.loop.invariant in
    search rules

pub stmts::compound_stmt-returns-then-is_block : goal.stmts::compound_stmt-returns-then-is_block
stmts::compound_stmt-returns-then-is_block t c = rw (compound_block (parsers c.args.depth) c.args.tokens.now (sym c.begins_with-is_block.ensures ∙ c.if-is_block.true)) c.block_stmt.ensures

pub stmts::compound_stmt-returns-then-is_if : goal.stmts::compound_stmt-returns-then-is_if
stmts::compound_stmt-returns-then-is_if t c = rw (compound_if (parsers c.args.depth) c.args.tokens.now (sym c.begins_with-is_block.ensures ∙ c.if-is_block.false) (sym c.begins_with-is_if.ensures ∙ c.if-is_if.true)) c.if_stmt.ensures

pub stmts::compound_stmt-returns-then-is_switch : goal.stmts::compound_stmt-returns-then-is_switch
stmts::compound_stmt-returns-then-is_switch t c = rw (compound_switch (parsers c.args.depth) c.args.tokens.now (sym c.begins_with-is_block.ensures ∙ c.if-is_block.false) (sym c.begins_with-is_if.ensures ∙ c.if-is_if.false) (sym c.begins_with-is_switch.ensures ∙ c.if-is_switch.true)) c.switch_stmt.ensures

pub stmts::compound_stmt-returns-then-is_select : goal.stmts::compound_stmt-returns-then-is_select
stmts::compound_stmt-returns-then-is_select t c = rw (compound_select (parsers c.args.depth) c.args.tokens.now (sym c.begins_with-is_block.ensures ∙ c.if-is_block.false) (sym c.begins_with-is_if.ensures ∙ c.if-is_if.false) (sym c.begins_with-is_switch.ensures ∙ c.if-is_switch.false) (sym c.begins_with-is_select.ensures ∙ c.if-is_select.true)) c.select_stmt.ensures

pub stmts::compound_stmt-returns-then-is_for : goal.stmts::compound_stmt-returns-then-is_for
stmts::compound_stmt-returns-then-is_for t c = rw (compound_for (parsers c.args.depth) c.args.tokens.now (sym c.begins_with-is_block.ensures ∙ c.if-is_block.false) (sym c.begins_with-is_if.ensures ∙ c.if-is_if.false) (sym c.begins_with-is_switch.ensures ∙ c.if-is_switch.false) (sym c.begins_with-is_select.ensures ∙ c.if-is_select.false) (sym c.begins_with-is_for.ensures ∙ c.if-is_for.true)) c.for_stmt.ensures

pub stmts::compound_stmt-returns : goal.stmts::compound_stmt-returns
stmts::compound_stmt-returns t c = rw (compound_simple (parsers c.args.depth) c.args.tokens.now (sym c.begins_with-is_block.ensures ∙ c.if-is_block.false) (sym c.begins_with-is_if.ensures ∙ c.if-is_if.false) (sym c.begins_with-is_switch.ensures ∙ c.if-is_switch.false) (sym c.begins_with-is_select.ensures ∙ c.if-is_select.false) (sym c.begins_with-is_for.ensures ∙ c.if-is_for.false)) c.simple_stmt.ensures

pub loops::for_rest-returns-in-Some : goal.loops::for_rest-returns-in-Some
loops::for_rest-returns-in-Some t c = rw (rest_range (parsers c.args.depth) (one c.args.word) (each view_listed_expr c.args.targets.items) c.args.tokens.now (one c.in-Some.operator) c.in-Some.rest.now c.in-Some.ensures.found c.in-Some.ensures.read) c.range_stmt.ensures

pub loops::for_rest-returns-in_err-simple : goal.loops::for_rest-returns-in_err-simple
loops::for_rest-returns-in_err-simple t c =
    let fails : Fails c.in_err-simple.field-0.0 (for_rest_in (parsers c.args.depth) (one c.args.word) (each view_listed_expr c.args.targets.items) c.args.tokens.now) =
    rest_no_stmt (parsers c.args.depth) (one c.args.word) (each view_listed_expr c.args.targets.items) c.args.tokens.now (c.range_assignment.ensures.found ∙ ap is_some c.in_default.is) c.in_err-simple.field-0.0 c.in_err-simple.ensures.read in
    search rules

pub loops::for_rest-returns-then-begins_with_semicolon : goal.loops::for_rest-returns-then-begins_with_semicolon
loops::for_rest-returns-then-begins_with_semicolon t c = rw (rest_clauses (parsers c.args.depth) (one c.args.word) (each view_listed_expr c.args.targets.items) c.args.tokens.now (c.range_assignment.ensures.found ∙ ap is_some c.in_default.is) (view_simple c.in_ok-simple.simple) c.in_ok-simple.rest.now c.in_ok-simple.ensures.read (boxed_stmt c.in_ok-init.init) (sym c.begins_with_semicolon.ensures ∙ c.if-begins_with_semicolon.true) c.in_ok-init.ensures) c.for_clauses.ensures

pub loops::for_rest-returns-in_err-init : goal.loops::for_rest-returns-in_err-init
loops::for_rest-returns-in_err-init t c =
    let fails : Fails c.in_err-init.field-0.0 (for_rest_in (parsers c.args.depth) (one c.args.word) (each view_listed_expr c.args.targets.items) c.args.tokens.now) =
    memory_alone c.in_err-init.field-0.0 (view_simple c.in_ok-simple.simple) (for_rest_in (parsers c.args.depth) (one c.args.word) (each view_listed_expr c.args.targets.items) c.args.tokens.now) c.in_err-init.ensures in
    search rules

pub loops::for_rest-returns-in_default-condition_of : goal.loops::for_rest-returns-in_default-condition_of
loops::for_rest-returns-in_default-condition_of t c =
    rest_no_condition (parsers c.args.depth) (one c.args.word) (each view_listed_expr c.args.targets.items) c.args.tokens.now (c.range_assignment.ensures.found ∙ ap is_some c.in_default.is) (view_simple c.in_ok-simple.simple) c.in_ok-simple.rest.now c.in_ok-simple.ensures.read stops.Unexpected (sym c.begins_with_semicolon.ensures ∙ c.if-begins_with_semicolon.false) c.in_default-condition_of.ensures

pub loops::for_rest-returns : goal.loops::for_rest-returns
loops::for_rest-returns t c = rw (rest_while (parsers c.args.depth) (one c.args.word) (each view_listed_expr c.args.targets.items) c.args.tokens.now (c.range_assignment.ensures.found ∙ ap is_some c.in_default.is) (view_simple c.in_ok-simple.simple) c.in_ok-simple.rest.now c.in_ok-simple.ensures.read (boxed_expr c.in-Some-condition_of.condition) (sym c.begins_with_semicolon.ensures ∙ c.if-begins_with_semicolon.false) c.in-Some-condition_of.ensures) c.while_stmt.ensures

pub loops::for_stmt-returns-in_default : goal.loops::for_stmt-returns-in_default
loops::for_stmt-returns-in_default t c = for_no_word (parsers c.args.depth) c.args.tokens.now stops.Unexpected c.in_default.ensures

pub loops::for_stmt-returns-then-is_range : goal.loops::for_stmt-returns-then-is_range
loops::for_stmt-returns-then-is_range t c = rw (for_range (parsers c.args.depth) c.args.tokens.now c.in-Some.rest.now (one c.in-Some.word) c.in-Some.ensures c.new.result.items c.new.ensures.items (sym c.begins_with-is_range.ensures ∙ c.if-is_range.true)) c.range_stmt.ensures

pub loops::for_stmt-returns-then-begins_with_semicolon : goal.loops::for_stmt-returns-then-begins_with_semicolon
loops::for_stmt-returns-then-begins_with_semicolon t c = rw (for_empty (parsers c.args.depth) c.args.tokens.now c.in-Some.rest.now (one c.in-Some.word) c.in-Some.ensures (sym c.begins_with-is_range.ensures ∙ c.if-is_range.false) (sym c.begins_with_semicolon.ensures ∙ c.if-begins_with_semicolon.true)) c.for_clauses.ensures

pub loops::for_stmt-returns-then-begins_with_braces : goal.loops::for_stmt-returns-then-begins_with_braces
loops::for_stmt-returns-then-begins_with_braces t c = rw (for_ever (parsers c.args.depth) c.args.tokens.now c.in-Some.rest.now (one c.in-Some.word) c.in-Some.ensures (sym c.begins_with-is_range.ensures ∙ c.if-is_range.false) (sym c.begins_with_semicolon.ensures ∙ c.if-begins_with_semicolon.false) (sym c.begins_with_braces.ensures ∙ c.if-begins_with_braces.true)) c.while_stmt.ensures

pub loops::for_stmt-returns-in_err-targets : goal.loops::for_stmt-returns-in_err-targets
loops::for_stmt-returns-in_err-targets t c =
    let fails : Fails c.in_err-targets.field-0.0 (for_in (parsers c.args.depth) c.args.tokens.now) =
    for_no_targets (parsers c.args.depth) c.args.tokens.now c.in-Some.rest.now (one c.in-Some.word) c.in-Some.ensures (sym c.begins_with-is_range.ensures ∙ c.if-is_range.false) (sym c.begins_with_semicolon.ensures ∙ c.if-begins_with_semicolon.false) (sym c.begins_with_braces.ensures ∙ c.if-begins_with_braces.false) c.in_err-targets.field-0.0 c.in_err-targets.ensures in
    search rules

pub loops::for_stmt-returns : goal.loops::for_stmt-returns
loops::for_stmt-returns t c = rw (for_targets (parsers c.args.depth) c.args.tokens.now c.in-Some.rest.now (one c.in-Some.word) c.in-Some.ensures (sym c.begins_with-is_range.ensures ∙ c.if-is_range.false) (sym c.begins_with_semicolon.ensures ∙ c.if-begins_with_semicolon.false) (sym c.begins_with_braces.ensures ∙ c.if-begins_with_braces.false) (each view_listed_expr c.in_ok-targets.targets.items) c.in_ok-targets.rest.now c.in_ok-targets.ensures) c.for_rest.ensures

pub stmts::if_arms-loop-init : goal.stmts::if_arms-loop-init
stmts::if_arms-loop-init t c = first_start (begins_both ElseWord IfWord) (arm_in (parsers c.args.depth) empty) (else_arm_in (parsers c.args.depth)) (each view_if_arm c.in_ok-arms.arms.items) (view_if_arm c.in_ok-first.first) c.args.tokens.now c.in_ok-first.rest.now (length c.in_ok-first.rest.now) 0 c.in_ok-first.ensures (ap (each view_if_arm) c.in_ok-arms.ensures.listed ∙ append-empty (view_if_arm c.in_ok-first.first)) refl refl

pub stmts::if_arms-loop-preserved : goal.stmts::if_arms-loop-preserved
stmts::if_arms-loop-preserved t c =
    many_on (begins_both ElseWord IfWord) (else_arm_in (parsers c.args.depth)) (length c.in_ok-first.rest.now) c.loop.counter (each view_if_arm c.loop.arms.items) (each view_if_arm c.push.new.self.items) (view_if_arm c.in_ok-arm.arm) c.loop.rest.now c.in_ok-arm.after.now (arms_in (parsers c.args.depth) c.args.tokens.now)
    c.loop-test.true (sym c.begins_with_both.ensures ∙ c.if-not-begins_with_both.false) c.in_ok-arm.ensures (ap (each view_if_arm) c.in_ok-push.ensures.items ∙ each_push view_if_arm c.loop.arms.items c.in_ok-arm.arm) c.loop.invariant

pub stmts::if_arms-returns-then-not-begins_with_both : goal.stmts::if_arms-returns-then-not-begins_with_both
stmts::if_arms-returns-then-not-begins_with_both t c = many_done (begins_both ElseWord IfWord) (else_arm_in (parsers c.args.depth)) (length c.in_ok-first.rest.now - c.loop.counter) (each view_if_arm c.loop.arms.items) c.loop.rest.now (arms_in (parsers c.args.depth) c.args.tokens.now) (sym c.begins_with_both.ensures ∙ c.if-not-begins_with_both.true) c.loop.invariant

pub stmts::if_arms-returns : goal.stmts::if_arms-returns
stmts::if_arms-returns t c = many_over (begins_both ElseWord IfWord) (else_arm_in (parsers c.args.depth)) (length c.in_ok-first.rest.now) c.loop.counter (each view_if_arm c.loop.arms.items) c.loop.rest.now (arms_in (parsers c.args.depth) c.args.tokens.now) c.loop-test.false c.loop.invariant

pub stmts::if_arms-returns-in_err-arm : goal.stmts::if_arms-returns-in_err-arm
stmts::if_arms-returns-in_err-arm t c =
    let fails : Fails c.in_err-arm.field-0.0 (arms_in (parsers c.args.depth) c.args.tokens.now) =
    many_fails (begins_both ElseWord IfWord) (else_arm_in (parsers c.args.depth)) c.in_err-arm.field-0.0 (length c.in_ok-first.rest.now) c.loop.counter (each view_if_arm c.loop.arms.items) c.loop.rest.now (arms_in (parsers c.args.depth) c.args.tokens.now) c.loop-test.true (sym c.begins_with_both.ensures ∙ c.if-not-begins_with_both.false) c.in_err-arm.ensures c.loop.invariant in
    search rules

pub stmts::if_stmt-returns-in_default : goal.stmts::if_stmt-returns-in_default
stmts::if_stmt-returns-in_default t c = if_without (parsers c.args.depth) c.args.tokens.now c.in_ok-arms.rest.now (each view_if_arm c.in_ok-arms.arms.items) (boxed_stmt c.in_ok-without_else.field-0) c.in_ok-arms.ensures c.in_default.ensures.found c.in_ok-without_else.ensures

pub stmts::simple-returns-clause-split : goal.stmts::simple-returns-clause-split
stmts::simple-returns-clause-split t c = c.simple_rest.ensures.split (exprs_list c.args.depth (view_context c.args.context) c.args.tokens.now c.in_ok-targets.rest.now (each view_listed_expr c.in_ok-targets.targets.items) c.requires c.in_ok-targets.ensures)

pub stmts::simple_rest-returns-in_err-values-clause-read : goal.stmts::simple_rest-returns-in_err-values-clause-read
stmts::simple_rest-returns-in_err-values-clause-read t c =
    let fails : Fails c.in_err-values.field-0.0 (simple_rest_in (parsers c.args.depth) (context_of (view_context c.args.context)) (each view_listed_expr c.args.targets.items) c.args.tokens.now) =
    assigns_nothing (parsers c.args.depth) (view_context c.args.context) (each view_listed_expr c.args.targets.items) c.args.tokens.now c.in_err-values.field-0.0 c.in-Some.operator c.in-Some.rest.now c.requires c.in-Some.ensures.found c.in-Some.ensures.read c.in_err-values.ensures in
    search rules

pub stmts::simple_rest-returns-in-Some-clause-read : goal.stmts::simple_rest-returns-in-Some-clause-read
stmts::simple_rest-returns-in-Some-clause-read t c = assigned (parsers c.args.depth) (view_context c.args.context) (each view_listed_expr c.args.targets.items) c.args.tokens.now c.in-Some.operator c.in-Some.rest.now c.in_ok-values.rest.now (each view_listed_expr c.in_ok-values.values.items) c.requires c.in-Some.ensures.found c.in-Some.ensures.read c.in_ok-values.ensures

pub stmts::simple_rest-returns-in-Some-clause-split : goal.stmts::simple_rest-returns-in-Some-clause-split
stmts::simple_rest-returns-in-Some-clause-split t c = λ list. split_assign c.args.targets c.in-Some.operator c.in_ok-values.values c.args.tokens.now c.in-Some.rest.now c.in-Some.ensures.read list

pub stmts::simple_rest-returns-in_err-values-2-clause-read : goal.stmts::simple_rest-returns-in_err-values-2-clause-read
stmts::simple_rest-returns-in_err-values-2-clause-read t c =
    let fails : Fails c.in_err-values-2.field-0.0 (simple_rest_in (parsers c.args.depth) (context_of (view_context c.args.context)) (each view_listed_expr c.args.targets.items) c.args.tokens.now) =
    defines_nothing (parsers c.args.depth) (view_context c.args.context) (each view_listed_expr c.args.targets.items) c.args.tokens.now c.in_err-values-2.field-0.0 c.in-Some-next_if.operator c.in-Some-next_if.rest.now c.requires c.in_default.ensures.found c.in-Some-next_if.ensures.found c.in-Some-next_if.ensures.read c.in_err-values-2.ensures in
    search rules

pub stmts::simple_rest-returns-in-Some-next_if-clause-read : goal.stmts::simple_rest-returns-in-Some-next_if-clause-read
stmts::simple_rest-returns-in-Some-next_if-clause-read t c = defined (parsers c.args.depth) (view_context c.args.context) (each view_listed_expr c.args.targets.items) c.args.tokens.now c.in-Some-next_if.operator c.in-Some-next_if.rest.now c.in_ok-values-2.rest.now (each view_listed_expr c.in_ok-values-2.values.items) c.requires c.in_default.ensures.found c.in-Some-next_if.ensures.found c.in-Some-next_if.ensures.read c.in_ok-values-2.ensures

pub stmts::simple_rest-returns-in-Some-next_if-clause-split : goal.stmts::simple_rest-returns-in-Some-next_if-clause-split
stmts::simple_rest-returns-in-Some-next_if-clause-split t c = λ list. split_define c.args.targets c.in-Some-next_if.operator c.in_ok-values-2.values c.args.tokens.now c.in-Some-next_if.rest.now c.in-Some-next_if.ensures.read list

pub stmts::statement-returns-then-not-begins_with_both : goal.stmts::statement-returns-then-not-begins_with_both
stmts::statement-returns-then-not-begins_with_both t c = rw (statement_unlabeled (parsers c.args.depth) c.args.tokens.now (sym c.begins_with_both.ensures ∙ c.if-not-begins_with_both.true)) c.stmt.ensures

pub stmts::statement-returns-in_err-labels : goal.stmts::statement-returns-in_err-labels
stmts::statement-returns-in_err-labels t c =
    let fails : Fails c.in_err-labels.field-0.0 (statement_in (parsers c.args.depth) c.args.tokens.now) =
    labels_none (parsers c.args.depth) c.args.tokens.now c.in_err-labels.field-0.0 (sym c.begins_with_both.ensures ∙ c.if-not-begins_with_both.false) c.in_err-labels.ensures in
    search rules

pub stmts::statement-returns-then-ends_statement : goal.stmts::statement-returns-then-ends_statement
stmts::statement-returns-then-ends_statement t c =
    labels_alone (parsers c.args.depth) c.args.tokens.now (each view_label c.in_ok-labels.labels.items) c.in_ok-labels.rest.now (sym c.begins_with_both.ensures ∙ c.if-not-begins_with_both.false) c.in_ok-labels.ensures (ap not (sym c.ends_statement.ensures ∙ c.if-ends_statement.true)) ∙ ap (λ (tree : Forest). Some (tree, c.in_ok-labels.rest.now)) (seen_labeled c.in_ok-labels.labels None c.in_ok-boxed.field-0.value c.in_ok-boxed.ensures.ok)

pub stmts::statement-returns-in_err-stmt : goal.stmts::statement-returns-in_err-stmt
stmts::statement-returns-in_err-stmt t c =
    let fails : Fails c.in_err-stmt.field-0.0 (statement_in (parsers c.args.depth) c.args.tokens.now) =
    labels_wrong (parsers c.args.depth) c.args.tokens.now (each view_label c.in_ok-labels.labels.items) c.in_ok-labels.rest.now (sym c.begins_with_both.ensures ∙ c.if-not-begins_with_both.false) c.in_ok-labels.ensures c.in_err-stmt.field-0.0 (ap not (sym c.ends_statement.ensures ∙ c.if-ends_statement.false)) c.in_err-stmt.ensures in
    search rules

pub stmts::statement-returns : goal.stmts::statement-returns
stmts::statement-returns t c =
    labels_before (parsers c.args.depth) c.args.tokens.now (each view_label c.in_ok-labels.labels.items) c.in_ok-labels.rest.now (sym c.begins_with_both.ensures ∙ c.if-not-begins_with_both.false) c.in_ok-labels.ensures (boxed_stmt c.in_ok-stmt.stmt) c.in_ok-stmt.rest.now (ap not (sym c.ends_statement.ensures ∙ c.if-ends_statement.false)) c.in_ok-stmt.ensures
    ∙ ap (λ (tree : Forest). Some (tree, c.in_ok-stmt.rest.now)) (seen_labeled c.in_ok-labels.labels (Some c.in_ok-stmt.stmt) c.in_ok-boxed-2.field-0.value c.in_ok-boxed-2.ensures.ok)

pub stmts::statement_line-returns-in-Some : goal.stmts::statement_line-returns-in-Some
stmts::statement_line-returns-in-Some t c =
    line_empty (parsers c.args.depth) c.args.tokens.now c.in-Some.rest.now (one c.in-Some.semicolon) c.in-Some.ensures.found c.in-Some.ensures.read
    ∙ ap (λ (tree : Forest). Some (tree, c.in-Some.rest.now)) (line_seen None (Some c.in-Some.semicolon))

pub stmts::statement_line-returns : goal.stmts::statement_line-returns
stmts::statement_line-returns t c =
    line_read (parsers c.args.depth) c.args.tokens.now c.in_ok-stmt.rest.now c.in-Some-line_end.rest.now (boxed_stmt c.in_ok-stmt.stmt) (token_if c.in-Some-line_end.semicolon) c.in_default.ensures.found c.in_ok-stmt.ensures c.in-Some-line_end.ensures
    ∙ ap (λ (tree : Forest). Some (tree, c.in-Some-line_end.rest.now)) (line_seen (Some c.in_ok-stmt.stmt) c.in-Some-line_end.semicolon)

pub stmts::statement_lines-loop-init : goal.stmts::statement_lines-loop-init
stmts::statement_lines-loop-init t c = many_start (λ tokens. not (ends_statements tokens)) (line_in (parsers c.args.depth)) (length c.args.tokens.now) 0 (each view_stmt_line c.in_ok-lines.lines.items) c.args.tokens.now refl (ap (each view_stmt_line) c.in_ok-lines.ensures.items)

pub stmts::statement_lines-loop-preserved : goal.stmts::statement_lines-loop-preserved
stmts::statement_lines-loop-preserved t c =
    many_on (λ tokens. not (ends_statements tokens)) (line_in (parsers c.args.depth)) (length c.args.tokens.now) c.loop.counter (each view_stmt_line c.loop.lines.items) (each view_stmt_line c.push.new.self.items) (view_stmt_line c.in_ok-line.line) c.loop.rest.now c.in_ok-line.after.now (lines_in (parsers c.args.depth) c.args.tokens.now)
    c.loop-test.true (ap not (sym c.ends_statements.ensures ∙ c.if-ends_statements.false)) c.in_ok-line.ensures (ap (each view_stmt_line) c.in_ok-push.ensures.items ∙ each_push view_stmt_line c.loop.lines.items c.in_ok-line.line) c.loop.invariant

pub stmts::statement_lines-returns-then-ends_statements : goal.stmts::statement_lines-returns-then-ends_statements
stmts::statement_lines-returns-then-ends_statements t c = many_done (λ tokens. not (ends_statements tokens)) (line_in (parsers c.args.depth)) (length c.args.tokens.now - c.loop.counter) (each view_stmt_line c.loop.lines.items) c.loop.rest.now (lines_in (parsers c.args.depth) c.args.tokens.now) (ap not (sym c.ends_statements.ensures ∙ c.if-ends_statements.true)) c.loop.invariant

pub stmts::statement_lines-returns : goal.stmts::statement_lines-returns
stmts::statement_lines-returns t c = many_over (λ tokens. not (ends_statements tokens)) (line_in (parsers c.args.depth)) (length c.args.tokens.now) c.loop.counter (each view_stmt_line c.loop.lines.items) c.loop.rest.now (lines_in (parsers c.args.depth) c.args.tokens.now) c.loop-test.false c.loop.invariant

pub stmts::statement_lines-returns-in_err-line : goal.stmts::statement_lines-returns-in_err-line
stmts::statement_lines-returns-in_err-line t c =
    let fails : Fails c.in_err-line.field-0.0 (lines_in (parsers c.args.depth) c.args.tokens.now) =
    many_fails (λ tokens. not (ends_statements tokens)) (line_in (parsers c.args.depth)) c.in_err-line.field-0.0 (length c.args.tokens.now) c.loop.counter (each view_stmt_line c.loop.lines.items) c.loop.rest.now (lines_in (parsers c.args.depth) c.args.tokens.now) c.loop-test.true (ap not (sym c.ends_statements.ensures ∙ c.if-ends_statements.false)) c.in_err-line.ensures c.loop.invariant in
    search rules

pub stmts::stmt-returns-then-begins_with_decl : goal.stmts::stmt-returns-then-begins_with_decl
stmts::stmt-returns-then-begins_with_decl t c = rw (decl_first (parsers c.args.depth) c.args.tokens.now (sym c.begins_with_decl.ensures ∙ c.if-begins_with_decl.true)) c.decl_stmt.ensures

pub stmts::stmt-returns-then-is_go : goal.stmts::stmt-returns-then-is_go
stmts::stmt-returns-then-is_go t c = rw (go_first (parsers c.args.depth) c.args.tokens.now (sym c.begins_with_decl.ensures ∙ c.if-begins_with_decl.false) (sym c.begins_with-is_go.ensures ∙ c.if-is_go.true)) c.go_stmt.ensures

pub stmts::stmt-returns-then-is_defer : goal.stmts::stmt-returns-then-is_defer
stmts::stmt-returns-then-is_defer t c = rw (defer_first (parsers c.args.depth) c.args.tokens.now (sym c.begins_with_decl.ensures ∙ c.if-begins_with_decl.false) (sym c.begins_with-is_go.ensures ∙ c.if-is_go.false) (sym c.begins_with-is_defer.ensures ∙ c.if-is_defer.true)) c.defer_stmt.ensures

pub stmts::stmt-returns-then-is_return : goal.stmts::stmt-returns-then-is_return
stmts::stmt-returns-then-is_return t c = rw (return_first (parsers c.args.depth) c.args.tokens.now (sym c.begins_with_decl.ensures ∙ c.if-begins_with_decl.false) (sym c.begins_with-is_go.ensures ∙ c.if-is_go.false) (sym c.begins_with-is_defer.ensures ∙ c.if-is_defer.false) (sym c.begins_with-is_return.ensures ∙ c.if-is_return.true)) c.return_stmt.ensures

pub stmts::stmt-returns-then-begins_with_branch : goal.stmts::stmt-returns-then-begins_with_branch
stmts::stmt-returns-then-begins_with_branch t c = rw (branch_first (parsers c.args.depth) c.args.tokens.now (sym c.begins_with_decl.ensures ∙ c.if-begins_with_decl.false) (sym c.begins_with-is_go.ensures ∙ c.if-is_go.false) (sym c.begins_with-is_defer.ensures ∙ c.if-is_defer.false) (sym c.begins_with-is_return.ensures ∙ c.if-is_return.false) (sym c.begins_with_branch.ensures ∙ c.if-begins_with_branch.true)) c.branch-alloc.ensures

pub stmts::stmt-returns : goal.stmts::stmt-returns
stmts::stmt-returns t c = rw (compound_last (parsers c.args.depth) c.args.tokens.now (sym c.begins_with_decl.ensures ∙ c.if-begins_with_decl.false) (sym c.begins_with-is_go.ensures ∙ c.if-is_go.false) (sym c.begins_with-is_defer.ensures ∙ c.if-is_defer.false) (sym c.begins_with-is_return.ensures ∙ c.if-is_return.false) (sym c.begins_with_branch.ensures ∙ c.if-begins_with_branch.false)) c.compound_stmt.ensures

pub stmts::switch_stmt-returns-in_default-guard_of : goal.stmts::switch_stmt-returns-in_default-guard_of
stmts::switch_stmt-returns-in_default-guard_of t c =
    no_guard (parsers c.args.depth) c.args.tokens.now c.in-Some.rest.now c.in_ok-parts.rest.now c.in-Some.word (view_header c.in_ok-parts.parts) c.in-Some.ensures c.in_ok-parts.ensures stops.Unexpected (sym c.begins_with.ensures ∙ c.if-begins_with.true) c.in_default-guard_of.ensures

pub stmts::switch_stmt-returns-in_default-guard_suffix : goal.stmts::switch_stmt-returns-in_default-guard_suffix
stmts::switch_stmt-returns-in_default-guard_suffix t c =
    no_suffix (parsers c.args.depth) c.args.tokens.now c.in-Some.rest.now c.in_ok-parts.rest.now c.in-Some.word (view_header c.in_ok-parts.parts) c.in-Some.ensures c.in_ok-parts.ensures stops.Unexpected (view_guard c.in-Some-guard_of.guard) (sym c.begins_with.ensures ∙ c.if-begins_with.true) c.in-Some-guard_of.ensures c.in_default-guard_suffix.ensures

pub stmts::switch_stmt-returns-in_err-body : goal.stmts::switch_stmt-returns-in_err-body
stmts::switch_stmt-returns-in_err-body t c =
    let fails : Fails c.in_err-body.field-0.0 (switch_in (parsers c.args.depth) c.args.tokens.now) =
    no_clauses (parsers c.args.depth) c.args.tokens.now c.in-Some.rest.now c.in_ok-parts.rest.now c.in-Some.word (view_header c.in_ok-parts.parts) c.in-Some.ensures c.in_ok-parts.ensures c.in_err-body.field-0.0 (view_guard c.in-Some-guard_of.guard) (view_suffix c.in-Some-guard_suffix.suffix) c.in-Some-guard_suffix.rest.now (sym c.begins_with.ensures ∙ c.if-begins_with.true) c.in-Some-guard_of.ensures c.in-Some-guard_suffix.ensures c.in_err-body.ensures in
    search rules

pub stmts::switch_stmt-returns-then-begins_with : goal.stmts::switch_stmt-returns-then-begins_with
stmts::switch_stmt-returns-then-begins_with t c =
    guarded (parsers c.args.depth) c.args.tokens.now c.in-Some.rest.now c.in_ok-parts.rest.now c.in-Some.word (view_header c.in_ok-parts.parts) c.in-Some.ensures c.in_ok-parts.ensures (view_guard c.in-Some-guard_of.guard) (view_suffix c.in-Some-guard_suffix.suffix) (view_body c.in_ok-body.body) c.in-Some-guard_suffix.rest.now c.in_ok-body.rest.now (sym c.begins_with.ensures ∙ c.if-begins_with.true) c.in-Some-guard_of.ensures c.in-Some-guard_suffix.ensures c.in_ok-body.ensures
    ∙ ap (λ (seen : Option Forest). seen >>= λ tree. Some (tree, c.in_ok-body.rest.now)) c.in_ok-stmt.ensures

pub types::element_lines-loop-init : goal.types::element_lines-loop-init
types::element_lines-loop-init t c = many_start (not_closed CloseBrace) (element_line_in (parsers c.args.depth)) (length c.args.tokens.now) 0 (each view_element_line c.new-lines.result.items) c.args.tokens.now refl (ap (each view_element_line) c.new-lines.ensures.items)

pub types::element_lines-loop-preserved : goal.types::element_lines-loop-preserved
types::element_lines-loop-preserved t c =
    many_on (not_closed CloseBrace) (element_line_in (parsers c.args.depth)) (length c.args.tokens.now) c.loop.counter
    (each view_element_line c.loop.lines.items) (each view_element_line c.push.new.self.items) (view_element_line c.in_ok-line.line) c.loop.rest.now c.in_ok-line.after.now (element_lines_in (parsers c.args.depth) c.args.tokens.now)
    c.loop-test.true (ap not (sym c.begins_with.ensures ∙ c.if-begins_with.false)) c.in_ok-line.ensures
    (ap (each view_element_line) c.in_ok-push.ensures.items ∙ each_push view_element_line c.loop.lines.items c.in_ok-line.line) c.loop.invariant

pub types::element_lines-returns-then-begins_with : goal.types::element_lines-returns-then-begins_with
types::element_lines-returns-then-begins_with t c =
    many_done (not_closed CloseBrace) (element_line_in (parsers c.args.depth)) (length c.args.tokens.now - c.loop.counter) (each view_element_line c.loop.lines.items) c.loop.rest.now (element_lines_in (parsers c.args.depth) c.args.tokens.now)
    (ap not (sym c.begins_with.ensures ∙ c.if-begins_with.true)) c.loop.invariant

pub types::element_lines-returns : goal.types::element_lines-returns
types::element_lines-returns t c =
    many_over (not_closed CloseBrace) (element_line_in (parsers c.args.depth)) (length c.args.tokens.now) c.loop.counter (each view_element_line c.loop.lines.items) c.loop.rest.now (element_lines_in (parsers c.args.depth) c.args.tokens.now)
    c.loop-test.false c.loop.invariant

pub types::element_lines-returns-in_err-line : goal.types::element_lines-returns-in_err-line
types::element_lines-returns-in_err-line t c =
    let fails : Fails c.in_err-line.field-0.0 (element_lines_in (parsers c.args.depth) c.args.tokens.now) =
    many_fails (not_closed CloseBrace) (element_line_in (parsers c.args.depth)) c.in_err-line.field-0.0 (length c.args.tokens.now) c.loop.counter (each view_element_line c.loop.lines.items) c.loop.rest.now (element_lines_in (parsers c.args.depth) c.args.tokens.now)
    c.loop-test.true (ap not (sym c.begins_with.ensures ∙ c.if-begins_with.false)) c.in_err-line.ensures c.loop.invariant in
    search rules

pub types::field_lines-loop-init : goal.types::field_lines-loop-init
types::field_lines-loop-init t c = many_start (not_closed CloseBrace) (field_line_in (parsers c.args.depth)) (length c.args.tokens.now) 0 (each view_field_line c.new-lines.result.items) c.args.tokens.now refl (ap (each view_field_line) c.new-lines.ensures.items)

pub types::field_lines-loop-preserved : goal.types::field_lines-loop-preserved
types::field_lines-loop-preserved t c =
    many_on (not_closed CloseBrace) (field_line_in (parsers c.args.depth)) (length c.args.tokens.now) c.loop.counter
    (each view_field_line c.loop.lines.items) (each view_field_line c.push.new.self.items) (view_field_line c.in_ok-line.line) c.loop.rest.now c.in_ok-line.after.now (field_lines_in (parsers c.args.depth) c.args.tokens.now)
    c.loop-test.true (ap not (sym c.begins_with.ensures ∙ c.if-begins_with.false)) c.in_ok-line.ensures
    (ap (each view_field_line) c.in_ok-push.ensures.items ∙ each_push view_field_line c.loop.lines.items c.in_ok-line.line) c.loop.invariant

pub types::field_lines-returns-then-begins_with : goal.types::field_lines-returns-then-begins_with
types::field_lines-returns-then-begins_with t c =
    many_done (not_closed CloseBrace) (field_line_in (parsers c.args.depth)) (length c.args.tokens.now - c.loop.counter) (each view_field_line c.loop.lines.items) c.loop.rest.now (field_lines_in (parsers c.args.depth) c.args.tokens.now)
    (ap not (sym c.begins_with.ensures ∙ c.if-begins_with.true)) c.loop.invariant

pub types::field_lines-returns : goal.types::field_lines-returns
types::field_lines-returns t c =
    many_over (not_closed CloseBrace) (field_line_in (parsers c.args.depth)) (length c.args.tokens.now) c.loop.counter (each view_field_line c.loop.lines.items) c.loop.rest.now (field_lines_in (parsers c.args.depth) c.args.tokens.now)
    c.loop-test.false c.loop.invariant

pub types::field_lines-returns-in_err-line : goal.types::field_lines-returns-in_err-line
types::field_lines-returns-in_err-line t c =
    let fails : Fails c.in_err-line.field-0.0 (field_lines_in (parsers c.args.depth) c.args.tokens.now) =
    many_fails (not_closed CloseBrace) (field_line_in (parsers c.args.depth)) c.in_err-line.field-0.0 (length c.args.tokens.now) c.loop.counter (each view_field_line c.loop.lines.items) c.loop.rest.now (field_lines_in (parsers c.args.depth) c.args.tokens.now)
    c.loop-test.true (ap not (sym c.begins_with.ensures ∙ c.if-begins_with.false)) c.in_err-line.ensures c.loop.invariant in
    search rules

pub types::long_type-returns-then-is_name : goal.types::long_type-returns-then-is_name
types::long_type-returns-then-is_name t c = rw (long_name (parsers c.args.depth) c.args.tokens.now (sym c.begins_with-is_name.ensures ∙ c.if-is_name.true)) c.named_type.ensures

pub types::long_type-returns-then-is_pointer : goal.types::long_type-returns-then-is_pointer
types::long_type-returns-then-is_pointer t c = rw (long_star (parsers c.args.depth) c.args.tokens.now (sym c.begins_with-is_name.ensures ∙ c.if-is_name.false) (sym c.begins_with-is_pointer.ensures ∙ c.if-is_pointer.true)) c.pointer_type.ensures

pub types::long_type-returns-then-is_bare : goal.types::long_type-returns-then-is_bare
types::long_type-returns-then-is_bare t c = rw (long_bare (parsers c.args.depth) c.args.tokens.now (sym c.begins_with-is_name.ensures ∙ c.if-is_name.false) (sym c.begins_with-is_pointer.ensures ∙ c.if-is_pointer.false) (sym c.begins_with_bare_type-is_bare.ensures ∙ c.if-is_bare.true)) c.bare_type.ensures

pub types::long_type-returns-then-is_function : goal.types::long_type-returns-then-is_function
types::long_type-returns-then-is_function t c = rw (long_function (parsers c.args.depth) c.args.tokens.now (sym c.begins_with-is_name.ensures ∙ c.if-is_name.false) (sym c.begins_with-is_pointer.ensures ∙ c.if-is_pointer.false) (sym c.begins_with_bare_type-is_bare.ensures ∙ c.if-is_bare.false) (sym c.begins_with-is_function.ensures ∙ c.if-is_function.true)) c.function_type.ensures

pub types::long_type-returns : goal.types::long_type-returns
types::long_type-returns t c = rw (long_chan (parsers c.args.depth) c.args.tokens.now (sym c.begins_with-is_name.ensures ∙ c.if-is_name.false) (sym c.begins_with-is_pointer.ensures ∙ c.if-is_pointer.false) (sym c.begins_with_bare_type-is_bare.ensures ∙ c.if-is_bare.false) (sym c.begins_with-is_function.ensures ∙ c.if-is_function.false)) c.chan_type.ensures

pub types::param_entries-loop-init : goal.types::param_entries-loop-init
types::param_entries-loop-init t c = entries_start (parsers c.args.depth) (length c.args.tokens.now) 0 (entries c.new-list.result.items) c.args.tokens.now refl (ap entries c.new-list.ensures.items)

pub types::param_entries-loop-preserved : goal.types::param_entries-loop-preserved
types::param_entries-loop-preserved t c =
    entries_on (parsers c.args.depth) (length c.args.tokens.now) c.loop.counter
    (entries c.loop.list.items) (entries c.push.new.self.items) (view_entry c.in_ok-entry.entry) c.loop.rest.now c.in_ok-entry.after.now (entries_in (parsers c.args.depth) (length c.args.tokens.now) c.args.tokens.now)
    c.loop-test.true (sym c.begins_with.ensures ∙ c.if-begins_with.false) c.in_ok-entry.ensures
    (ap entries c.in_ok-push.ensures.items ∙ entries_push c.loop.list.items c.in_ok-entry.entry) c.loop.invariant

pub types::param_entries-returns-then-begins_with : goal.types::param_entries-returns-then-begins_with
types::param_entries-returns-then-begins_with t c =
    entries_done (parsers c.args.depth) (length c.args.tokens.now - c.loop.counter) (entries c.loop.list.items) c.loop.rest.now (entries_in (parsers c.args.depth) (length c.args.tokens.now) c.args.tokens.now)
    (sym c.begins_with.ensures ∙ c.if-begins_with.true) c.loop.invariant

pub types::param_entries-returns : goal.types::param_entries-returns
types::param_entries-returns t c =
    entries_over (parsers c.args.depth) (length c.args.tokens.now) c.loop.counter (entries c.loop.list.items) c.loop.rest.now (entries_in (parsers c.args.depth) (length c.args.tokens.now) c.args.tokens.now)
    c.loop-test.false c.loop.invariant

pub types::param_entries-returns-in_err-entry : goal.types::param_entries-returns-in_err-entry
types::param_entries-returns-in_err-entry t c =
    let fails : Fails c.in_err-entry.field-0.0 (entries_in (parsers c.args.depth) (length c.args.tokens.now) c.args.tokens.now) =
    entries_fail (parsers c.args.depth) c.in_err-entry.field-0.0 (length c.args.tokens.now) c.loop.counter (entries c.loop.list.items) c.loop.rest.now (entries_in (parsers c.args.depth) (length c.args.tokens.now) c.args.tokens.now)
    c.loop-test.true (sym c.begins_with.ensures ∙ c.if-begins_with.false) c.in_err-entry.ensures c.loop.invariant in
    search rules

pub types::type_form-returns-then-begins_with : goal.types::type_form-returns-then-begins_with
types::type_form-returns-then-begins_with t c = rw (type_paren (parsers c.args.depth) c.args.tokens.now (sym c.begins_with.ensures ∙ c.if-begins_with.true)) c.paren_type.ensures

pub types::type_form-returns : goal.types::type_form-returns
types::type_form-returns t c = rw (type_long (parsers c.args.depth) c.args.tokens.now (sym c.begins_with.ensures ∙ c.if-begins_with.false)) c.long_type.ensures

pub decls::const_decl-returns : goal.decls::const_decl-returns
decls::const_decl-returns t c = grind (arith, view_decl_const)

pub decls::type_decl-returns : goal.decls::type_decl-returns
decls::type_decl-returns t c = grind (arith, view_decl_type_decl)

pub decls::var_decl-returns : goal.decls::var_decl-returns
decls::var_decl-returns t c = grind (arith, view_decl_var)

pub decls::value_line-returns : goal.decls::value_line-returns
decls::value_line-returns t c = grind (arith, parens_end)

pub decls::type_line-returns : goal.decls::type_line-returns
decls::type_line-returns t c = grind (arith, parens_end)

pub exprs::operation-returns : goal.exprs::operation-returns
exprs::operation-returns t c = grind (arith, view_expr_binary)

pub exprs::paren-returns : goal.exprs::paren-returns
exprs::paren-returns t c = grind (arith, view_expr_paren)

pub exprs::open_array-returns : goal.exprs::open_array-returns
exprs::open_array-returns t c = grind (arith, view_type_expr_open_array)

pub exprs::function-returns-then-begins_with_braces : goal.exprs::function-returns-then-begins_with_braces
exprs::function-returns-then-begins_with_braces t c = grind (arith, view_expr_function)

pub exprs::function-returns : goal.exprs::function-returns
exprs::function-returns t c = grind (arith, view_expr_type_form, view_type_expr_function)

pub exprs::selector-returns-in-Some-next_if : goal.exprs::selector-returns-in-Some-next_if
exprs::selector-returns-in-Some-next_if t c = grind (arith, view_expr_assertion)

pub exprs::selector-returns : goal.exprs::selector-returns
exprs::selector-returns t c = grind (arith, view_expr_selector)

pub exprs::index-returns : goal.exprs::index-returns
exprs::index-returns t c = grind (arith, view_expr_index)

pub exprs::slice-returns-in-Some-next_if : goal.exprs::slice-returns-in-Some-next_if
exprs::slice-returns-in-Some-next_if t c = grind (arith, view_low_slice)

pub exprs::slice-returns-in-Some-next_if-2 : goal.exprs::slice-returns-in-Some-next_if-2
exprs::slice-returns-in-Some-next_if-2 t c = grind (arith, view_high_slice)

pub exprs::slice-returns : goal.exprs::slice-returns
exprs::slice-returns t c = grind (arith, view_expr_full_slice)

pub exprs::call-returns-in-Some-next_if : goal.exprs::call-returns-in-Some-next_if
exprs::call-returns-in-Some-next_if t c = grind (arith, view_expr_call)

pub exprs::call-returns : goal.exprs::call-returns
exprs::call-returns t c = grind (arith, view_expr_call, regroup)

pub exprs::literal-returns : goal.exprs::literal-returns
exprs::literal-returns t c = grind (arith, view_expr_composite)

pub stmts::block-returns : goal.stmts::block-returns
stmts::block-returns t c = grind (arith, view_block_made)

pub stmts::block_stmt-returns : goal.stmts::block_stmt-returns
stmts::block_stmt-returns t c = grind (arith, view_stmt_block)

pub stmts::go_stmt-returns : goal.stmts::go_stmt-returns
stmts::go_stmt-returns t c = grind (arith, view_stmt_go)

pub stmts::defer_stmt-returns : goal.stmts::defer_stmt-returns
stmts::defer_stmt-returns t c = grind (arith, view_stmt_defer)

pub stmts::return_stmt-returns-then-ends_statement : goal.stmts::return_stmt-returns-then-ends_statement
stmts::return_stmt-returns-then-ends_statement t c = grind (arith, view_stmt_return)

pub stmts::return_stmt-returns : goal.stmts::return_stmt-returns
stmts::return_stmt-returns t c = grind (arith, view_stmt_return)

pub stmts::if_arm-returns : goal.stmts::if_arm-returns
stmts::if_arm-returns t c = grind (arith, arm_made)

pub stmts::clause-returns-in-Some : goal.stmts::clause-returns-in-Some
stmts::clause-returns-in-Some t c = grind (arith, view_case_clause_made)

pub stmts::clause-returns : goal.stmts::clause-returns
stmts::clause-returns t c = grind (arith, items_listed, view_case_clause_made)

pub stmts::select_stmt-returns : goal.stmts::select_stmt-returns
stmts::select_stmt-returns t c = grind (arith, view_stmt_select)

pub stmts::comm_clause-returns-in-Some : goal.stmts::comm_clause-returns-in-Some
stmts::comm_clause-returns-in-Some t c = grind (arith, view_comm_clause_made)

pub stmts::comm_clause-returns : goal.stmts::comm_clause-returns
stmts::comm_clause-returns t c = grind (arith, view_comm_clause_made)

pub loops::while_stmt-returns : goal.loops::while_stmt-returns
loops::while_stmt-returns t c = grind (arith, view_stmt_while)

pub loops::for_clauses-returns : goal.loops::for_clauses-returns
loops::for_clauses-returns t c = grind (arith, view_stmt_for, for_made)

pub loops::range_stmt-returns : goal.loops::range_stmt-returns
loops::range_stmt-returns t c = grind (arith, view_stmt_range, range_made)

pub types::paren_type-returns : goal.types::paren_type-returns
types::paren_type-returns t c = grind (arith, view_type_expr_paren)

pub types::pointer_type-returns : goal.types::pointer_type-returns
types::pointer_type-returns t c = grind (arith, view_type_expr_pointer)

pub types::function_type-returns : goal.types::function_type-returns
types::function_type-returns t c = grind (arith, view_type_expr_function)

pub types::bracket_type-returns-in-Some : goal.types::bracket_type-returns-in-Some
types::bracket_type-returns-in-Some t c = grind (arith, view_type_expr_slice)

pub types::bracket_type-returns : goal.types::bracket_type-returns
types::bracket_type-returns t c = grind (arith, view_type_expr_array)

pub types::map_type-returns : goal.types::map_type-returns
types::map_type-returns t c = grind (arith, view_type_expr_map)

pub types::chan_type-returns-in-Some : goal.types::chan_type-returns-in-Some
types::chan_type-returns-in-Some t c = grind (arith, view_type_expr_chan, maybe_arrow)

pub types::chan_type-returns : goal.types::chan_type-returns
types::chan_type-returns t c = grind (arith, view_type_expr_receive_chan)

pub types::signature-returns-then-begins_with : goal.types::signature-returns-then-begins_with
types::signature-returns-then-begins_with t c = grind (arith, view_result_form_params)

pub types::struct_type-returns : goal.types::struct_type-returns
types::struct_type-returns t c = grind (arith, view_type_expr_struct)

pub types::interface_type-returns : goal.types::interface_type-returns
types::interface_type-returns t c = grind (arith, view_type_expr_interface)

pub types::field_line-returns-in-Some : goal.types::field_line-returns-in-Some
types::field_line-returns-in-Some t c = grind (arith, view_field_line_empty)

pub types::field_line-returns : goal.types::field_line-returns
types::field_line-returns t c = grind (arith, view_field_line_named, braces_end)

pub types::element_line-returns-in-Some : goal.types::element_line-returns-in-Some
types::element_line-returns-in-Some t c = grind (arith, view_element_line_empty)

pub types::element_line-returns-then-begins_with_both : goal.types::element_line-returns-then-begins_with_both
types::element_line-returns-then-begins_with_both t c = grind (arith, view_element_line_method, braces_end)

pub types::element_line-returns : goal.types::element_line-returns
types::element_line-returns t c = grind (arith, view_element_line_embedded, braces_end)
