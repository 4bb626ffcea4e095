use Rattle.go_ast.specs.declared.token.Kind.TheVariants.{CloseBrace, CloseParen, Comma, ElseWord, IfWord}
use Rattle.go_grammar.specs.ExprReading.{binary_in, binary_turn, element_in, primary_in, repeat, separated_in, suffix_turn}
use Rattle.go_grammar.specs.FileReading.{parsers}
use Rattle.go_grammar.specs.Forests.{append}
use Rattle.go_grammar.specs.Grammar.{TypeSpec}
use Rattle.go_grammar.specs.Reading.{many_in, then_in}
use Rattle.go_grammar.specs.StmtReading.{ends_statements, lines_in}
use Rattle.go_grammar.specs.Tests.{begins_both, goes_on, not_closed, word_in}
use Rattle.go_grammar.specs.TypeReading.{entries_in}
use Rattle.go_grammar.specs.View.{each, view_case_clause, view_comm_clause, view_element, view_element_line, view_expr, view_field_line, view_if_arm, view_listed_expr, view_stmt_line, view_type_spec, view_value_spec}
use Rattle.go_fragments.proofs.Loops.{behind}
use Rattle.go_readers.proofs.ParamEntries.{entries_behind}
use Rattle.go_fragments.specs.Entries.{entries}
use Rattle.go_fragments.specs.Expressions.{view_context}
use Rattle.go_readers.specs.Expressions.{list_in}
use Rattle.go_readers.specs.Lines.{element_line_in, element_lines_in, field_line_in, field_lines_in}
use Rattle.go_readers.specs.Specs.{spec_line_in, spec_lines_in, value_sort}
use Rattle.go_readers.specs.Statements.{arm_in, arms_in, clause_in, clause_list_in, comm_clause_in, comm_list_in, else_arm_in, line_in}
use Rattle.std.proofs.Common.{length, ◌*◌, ◌+◌, ◌-◌, ◌≡◌}
use Rattle.std.specs.Prelude.{not}
use Rattle.go_readers.proofs.+parser.Given as goal

abbrev pub decreases-decls::const_decl : goal.decreases-decls::const_decl
decreases-decls::const_decl l = l.depth * 32 + 10

abbrev pub decreases-decls::const_values : goal.decreases-decls::const_values
decreases-decls::const_values l = l.depth * 32 + 3

abbrev pub decreases-decls::decl : goal.decreases-decls::decl
decreases-decls::decl l = l.depth * 32 + 11

abbrev pub decreases-decls::lone_type : goal.decreases-decls::lone_type
decreases-decls::lone_type l = l.depth * 32 + 2

abbrev pub decreases-decls::lone_value : goal.decreases-decls::lone_value
decreases-decls::lone_value l = l.depth * 32 + 6

abbrev pub decreases-decls::named_form : goal.decreases-decls::named_form
decreases-decls::named_form l = l.depth * 32 + 1

abbrev pub decreases-decls::optional_values : goal.decreases-decls::optional_values
decreases-decls::optional_values l = l.depth * 32 + 3

abbrev pub decreases-decls::type_decl : goal.decreases-decls::type_decl
decreases-decls::type_decl l = l.depth * 32 + 6

abbrev pub decreases-decls::type_group : goal.decreases-decls::type_group
decreases-decls::type_group l = l.depth * 32 + 4

abbrev pub decreases-decls::type_line : goal.decreases-decls::type_line
decreases-decls::type_line l = l.depth * 32 + 2

abbrev pub decreases-decls::type_lines : goal.decreases-decls::type_lines
decreases-decls::type_lines l = l.depth * 32 + 3

abbrev pub invariant-decls::type_lines-loop : goal.invariant-decls::type_lines-loop
invariant-decls::type_lines-loop l = behind (each view_type_spec l.lines.items) (many_in (not_closed CloseParen) (spec_line_in (parsers l.depth) TypeSpec) (l.end - l.counter) l.rest) ≡ spec_lines_in (parsers l.depth) TypeSpec l.tokens

abbrev pub decreases-decls::type_specs : goal.decreases-decls::type_specs
decreases-decls::type_specs l = l.depth * 32 + 5

abbrev pub decreases-decls::value_group : goal.decreases-decls::value_group
decreases-decls::value_group l = l.depth * 32 + 8

abbrev pub decreases-decls::value_line : goal.decreases-decls::value_line
decreases-decls::value_line l = l.depth * 32 + 6

abbrev pub decreases-decls::value_lines : goal.decreases-decls::value_lines
decreases-decls::value_lines l = l.depth * 32 + 7

abbrev pub invariant-decls::value_lines-loop : goal.invariant-decls::value_lines-loop
invariant-decls::value_lines-loop l = behind (each view_value_spec l.lines.items) (many_in (not_closed CloseParen) (spec_line_in (parsers l.depth) (value_sort l.constant)) (l.end - l.counter) l.rest) ≡ spec_lines_in (parsers l.depth) (value_sort l.constant) l.tokens

abbrev pub decreases-decls::value_specs : goal.decreases-decls::value_specs
decreases-decls::value_specs l = l.depth * 32 + 9

abbrev pub decreases-decls::values : goal.decreases-decls::values
decreases-decls::values l = l.depth * 32 + 5

abbrev pub decreases-decls::var_decl : goal.decreases-decls::var_decl
decreases-decls::var_decl l = l.depth * 32 + 10

abbrev pub decreases-decls::var_values : goal.decreases-decls::var_values
decreases-decls::var_values l = l.depth * 32 + 4

abbrev pub decreases-exprs::binary : goal.decreases-exprs::binary
decreases-exprs::binary l = l.depth * 32 + 15

abbrev pub invariant-exprs::binary-loop : goal.invariant-exprs::binary-loop
invariant-exprs::binary-loop l = repeat (binary_turn (parsers l.depth) (view_context l.context) l.min) (l.end - l.counter) (view_expr l.left.value, l.rest) ≡ binary_in (parsers l.depth) (view_context l.context) l.min l.tokens

abbrev pub decreases-exprs::call : goal.decreases-exprs::call
decreases-exprs::call l = l.depth * 32 + 3

abbrev pub decreases-exprs::element : goal.decreases-exprs::element
decreases-exprs::element l = l.depth * 32 + 1

abbrev pub decreases-exprs::elements : goal.decreases-exprs::elements
decreases-exprs::elements l = l.depth * 32 + 2

abbrev pub invariant-exprs::elements-loop : goal.invariant-exprs::elements-loop
invariant-exprs::elements-loop l =
    behind (each view_element l.elements.items) (many_in (not_closed CloseBrace) (separated_in (element_in (parsers l.depth))) (l.end - l.counter) l.rest)
    ≡ many_in (not_closed CloseBrace) (separated_in (element_in (parsers l.depth))) (length l.tokens) l.tokens

abbrev pub decreases-exprs::expr : goal.decreases-exprs::expr
decreases-exprs::expr l = l.depth * 32

abbrev pub decreases-exprs::expr_list : goal.decreases-exprs::expr_list
decreases-exprs::expr_list l = l.depth * 32 + 2

abbrev pub invariant-exprs::expr_list-loop : goal.invariant-exprs::expr_list-loop
invariant-exprs::expr_list-loop l =
    behind (append (each view_listed_expr l.list.items) (view_expr l.expr.value)) (many_in goes_on (then_in (word_in Comma) ((parsers l.depth).expr (view_context l.context) 1)) (l.end - l.counter) l.rest)
    ≡ list_in (parsers l.depth) (view_context l.context) l.tokens

abbrev pub decreases-exprs::function : goal.decreases-exprs::function
decreases-exprs::function l = l.depth * 32 + 5

abbrev pub decreases-exprs::index : goal.decreases-exprs::index
decreases-exprs::index l = l.depth * 32 + 2

abbrev pub decreases-exprs::literal : goal.decreases-exprs::literal
decreases-exprs::literal l = l.depth * 32 + 3

abbrev pub decreases-exprs::next_expr : goal.decreases-exprs::next_expr
decreases-exprs::next_expr l = l.depth * 32 + 1

abbrev pub decreases-exprs::open_array : goal.decreases-exprs::open_array
decreases-exprs::open_array l = l.depth * 32 + 1

abbrev pub decreases-exprs::operand : goal.decreases-exprs::operand
decreases-exprs::operand l = l.depth * 32 + 12

abbrev pub decreases-exprs::operation : goal.decreases-exprs::operation
decreases-exprs::operation l = l.depth * 32 + 1

abbrev pub decreases-exprs::paren : goal.decreases-exprs::paren
decreases-exprs::paren l = l.depth * 32 + 1

abbrev pub decreases-exprs::primary : goal.decreases-exprs::primary
decreases-exprs::primary l = l.depth * 32 + 13

abbrev pub invariant-exprs::primary-loop : goal.invariant-exprs::primary-loop
invariant-exprs::primary-loop l = repeat (suffix_turn (parsers l.depth) (view_context l.context)) (l.end - l.counter) (view_expr l.left.value, l.rest) ≡ primary_in (parsers l.depth) (view_context l.context) l.tokens

abbrev pub decreases-exprs::selector : goal.decreases-exprs::selector
decreases-exprs::selector l = l.depth * 32 + 1

abbrev pub decreases-exprs::slice : goal.decreases-exprs::slice
decreases-exprs::slice l = l.depth * 32 + 1

abbrev pub decreases-exprs::suffix : goal.decreases-exprs::suffix
decreases-exprs::suffix l = l.depth * 32 + 4

abbrev pub decreases-exprs::type_operand : goal.decreases-exprs::type_operand
decreases-exprs::type_operand l = l.depth * 32 + 11

abbrev pub decreases-exprs::unary : goal.decreases-exprs::unary
decreases-exprs::unary l = l.depth * 32 + 14

abbrev pub decreases-exprs::value : goal.decreases-exprs::value
decreases-exprs::value l = l.depth * 32

abbrev pub decreases-stmts::block : goal.decreases-stmts::block
decreases-stmts::block l = l.depth * 32 + 1

abbrev pub decreases-stmts::block_stmt : goal.decreases-stmts::block_stmt
decreases-stmts::block_stmt l = l.depth * 32 + 2

abbrev pub decreases-stmts::clause : goal.decreases-stmts::clause
decreases-stmts::clause l = l.depth * 32 + 3

abbrev pub decreases-stmts::clauses : goal.decreases-stmts::clauses
decreases-stmts::clauses l = l.depth * 32 + 4

abbrev pub invariant-stmts::clauses-loop : goal.invariant-stmts::clauses-loop
invariant-stmts::clauses-loop l = behind (each view_case_clause l.clauses.items) (many_in (not_closed CloseBrace) (clause_in (parsers l.depth)) (l.end - l.counter) l.rest) ≡ clause_list_in (parsers l.depth) l.tokens

abbrev pub decreases-stmts::comm_clause : goal.decreases-stmts::comm_clause
decreases-stmts::comm_clause l = l.depth * 32 + 5

abbrev pub decreases-stmts::comm_clauses : goal.decreases-stmts::comm_clauses
decreases-stmts::comm_clauses l = l.depth * 32 + 6

abbrev pub invariant-stmts::comm_clauses-loop : goal.invariant-stmts::comm_clauses-loop
invariant-stmts::comm_clauses-loop l = behind (each view_comm_clause l.clauses.items) (many_in (not_closed CloseBrace) (comm_clause_in (parsers l.depth)) (l.end - l.counter) l.rest) ≡ comm_list_in (parsers l.depth) l.tokens

abbrev pub decreases-stmts::compound_stmt : goal.decreases-stmts::compound_stmt
decreases-stmts::compound_stmt l = l.depth * 32 + 11

abbrev pub decreases-stmts::decl_stmt : goal.decreases-stmts::decl_stmt
decreases-stmts::decl_stmt l = l.depth * 32 + 12

abbrev pub decreases-stmts::defer_stmt : goal.decreases-stmts::defer_stmt
decreases-stmts::defer_stmt l = l.depth * 32 + 1

abbrev pub decreases-stmts::else_arm : goal.decreases-stmts::else_arm
decreases-stmts::else_arm l = l.depth * 32 + 8

abbrev pub decreases-loops::for_clauses : goal.decreases-loops::for_clauses
decreases-loops::for_clauses l = l.depth * 32 + 6

abbrev pub decreases-loops::for_condition : goal.decreases-loops::for_condition
decreases-loops::for_condition l = l.depth * 32 + 1

abbrev pub decreases-loops::for_rest : goal.decreases-loops::for_rest
decreases-loops::for_rest l = l.depth * 32 + 7

abbrev pub decreases-loops::for_stmt : goal.decreases-loops::for_stmt
decreases-loops::for_stmt l = l.depth * 32 + 8

abbrev pub decreases-stmts::go_stmt : goal.decreases-stmts::go_stmt
decreases-stmts::go_stmt l = l.depth * 32 + 1

abbrev pub decreases-stmts::header : goal.decreases-stmts::header
decreases-stmts::header l = l.depth * 32 + 6

abbrev pub decreases-stmts::if_arm : goal.decreases-stmts::if_arm
decreases-stmts::if_arm l = l.depth * 32 + 7

abbrev pub decreases-stmts::if_arms : goal.decreases-stmts::if_arms
decreases-stmts::if_arms l = l.depth * 32 + 9

abbrev pub invariant-stmts::if_arms-loop : goal.invariant-stmts::if_arms-loop
invariant-stmts::if_arms-loop l = behind (each view_if_arm l.arms.items) (many_in (begins_both ElseWord IfWord) (else_arm_in (parsers l.depth)) (l.end - l.counter) l.rest) ≡ arms_in (parsers l.depth) l.tokens

abbrev pub decreases-stmts::if_stmt : goal.decreases-stmts::if_stmt
decreases-stmts::if_stmt l = l.depth * 32 + 10

abbrev pub decreases-stmts::optional_simple : goal.decreases-stmts::optional_simple
decreases-stmts::optional_simple l = l.depth * 32 + 5

abbrev pub decreases-loops::range_stmt : goal.decreases-loops::range_stmt
decreases-loops::range_stmt l = l.depth * 32 + 2

abbrev pub decreases-stmts::return_stmt : goal.decreases-stmts::return_stmt
decreases-stmts::return_stmt l = l.depth * 32 + 3

abbrev pub decreases-stmts::select_stmt : goal.decreases-stmts::select_stmt
decreases-stmts::select_stmt l = l.depth * 32 + 7

abbrev pub decreases-stmts::simple : goal.decreases-stmts::simple
decreases-stmts::simple l = l.depth * 32 + 4

abbrev pub decreases-stmts::simple_rest : goal.decreases-stmts::simple_rest
decreases-stmts::simple_rest l = l.depth * 32 + 3

abbrev pub decreases-stmts::simple_stmt : goal.decreases-stmts::simple_stmt
decreases-stmts::simple_stmt l = l.depth * 32 + 5

abbrev pub decreases-stmts::statement : goal.decreases-stmts::statement
decreases-stmts::statement l = l.depth * 32 + 14

abbrev pub decreases-stmts::statement_line : goal.decreases-stmts::statement_line
decreases-stmts::statement_line l = l.depth * 32 + 15

abbrev pub decreases-stmts::statement_lines : goal.decreases-stmts::statement_lines
decreases-stmts::statement_lines l = l.depth * 32 + 16

abbrev pub invariant-stmts::statement_lines-loop : goal.invariant-stmts::statement_lines-loop
invariant-stmts::statement_lines-loop l = behind (each view_stmt_line l.lines.items) (many_in (λ tokens. not (ends_statements tokens)) (line_in (parsers l.depth)) (l.end - l.counter) l.rest) ≡ lines_in (parsers l.depth) l.tokens

abbrev pub decreases-stmts::statements : goal.decreases-stmts::statements
decreases-stmts::statements l = l.depth * 32

abbrev pub decreases-stmts::stmt : goal.decreases-stmts::stmt
decreases-stmts::stmt l = l.depth * 32 + 13

abbrev pub decreases-stmts::switch_body : goal.decreases-stmts::switch_body
decreases-stmts::switch_body l = l.depth * 32 + 5

abbrev pub decreases-stmts::switch_stmt : goal.decreases-stmts::switch_stmt
decreases-stmts::switch_stmt l = l.depth * 32 + 7

abbrev pub decreases-loops::while_stmt : goal.decreases-loops::while_stmt
decreases-loops::while_stmt l = l.depth * 32 + 2

abbrev pub decreases-types::bare_type : goal.decreases-types::bare_type
decreases-types::bare_type l = l.depth * 32 + 8

abbrev pub decreases-types::bracket_type : goal.decreases-types::bracket_type
decreases-types::bracket_type l = l.depth * 32 + 1

abbrev pub decreases-types::chan_type : goal.decreases-types::chan_type
decreases-types::chan_type l = l.depth * 32 + 1

abbrev pub decreases-types::element_line : goal.decreases-types::element_line
decreases-types::element_line l = l.depth * 32 + 5

abbrev pub decreases-types::element_lines : goal.decreases-types::element_lines
decreases-types::element_lines l = l.depth * 32 + 6

abbrev pub invariant-types::element_lines-loop : goal.invariant-types::element_lines-loop
invariant-types::element_lines-loop l = behind (each view_element_line l.lines.items) (many_in (not_closed CloseBrace) (element_line_in (parsers l.depth)) (l.end - l.counter) l.rest) ≡ element_lines_in (parsers l.depth) l.tokens

abbrev pub decreases-types::field_line : goal.decreases-types::field_line
decreases-types::field_line l = l.depth * 32 + 1

abbrev pub decreases-types::field_lines : goal.decreases-types::field_lines
decreases-types::field_lines l = l.depth * 32 + 2

abbrev pub invariant-types::field_lines-loop : goal.invariant-types::field_lines-loop
invariant-types::field_lines-loop l = behind (each view_field_line l.lines.items) (many_in (not_closed CloseBrace) (field_line_in (parsers l.depth)) (l.end - l.counter) l.rest) ≡ field_lines_in (parsers l.depth) l.tokens

abbrev pub decreases-types::function_type : goal.decreases-types::function_type
decreases-types::function_type l = l.depth * 32 + 5

abbrev pub decreases-types::interface_type : goal.decreases-types::interface_type
decreases-types::interface_type l = l.depth * 32 + 7

abbrev pub decreases-types::long_type : goal.decreases-types::long_type
decreases-types::long_type l = l.depth * 32 + 9

abbrev pub decreases-types::map_type : goal.decreases-types::map_type
decreases-types::map_type l = l.depth * 32 + 1

abbrev pub decreases-types::optional_type : goal.decreases-types::optional_type
decreases-types::optional_type l = l.depth * 32 + 1

abbrev pub decreases-types::param_entries : goal.decreases-types::param_entries
decreases-types::param_entries l = l.depth * 32 + 2

abbrev pub invariant-types::param_entries-loop : goal.invariant-types::param_entries-loop
invariant-types::param_entries-loop l = entries_behind (entries l.list.items) (entries_in (parsers l.depth) (l.end - l.counter) l.rest) ≡ entries_in (parsers l.depth) (length l.tokens) l.tokens

abbrev pub decreases-types::param_entry : goal.decreases-types::param_entry
decreases-types::param_entry l = l.depth * 32 + 1

abbrev pub decreases-types::params : goal.decreases-types::params
decreases-types::params l = l.depth * 32 + 3

abbrev pub decreases-types::paren_type : goal.decreases-types::paren_type
decreases-types::paren_type l = l.depth * 32 + 1

abbrev pub decreases-types::pointer_type : goal.decreases-types::pointer_type
decreases-types::pointer_type l = l.depth * 32 + 1

abbrev pub decreases-types::signature : goal.decreases-types::signature
decreases-types::signature l = l.depth * 32 + 4

abbrev pub decreases-types::struct_type : goal.decreases-types::struct_type
decreases-types::struct_type l = l.depth * 32 + 3

abbrev pub decreases-types::type_expr : goal.decreases-types::type_expr
decreases-types::type_expr l = l.depth * 32

abbrev pub decreases-types::type_form : goal.decreases-types::type_form
decreases-types::type_form l = l.depth * 32 + 10
