-- The readers of pieces of statements.
use Rattle.std.specs.Prelude.{◌≡◌, Some}
use Rattle.go_ast.specs.declared.token.Kind.TheVariants as kinds
use Rattle.go_grammar.specs.Forests as forms
use Rattle.go_grammar.specs.Forests.{Forest, empty, node, append}
use Rattle.go_grammar.specs.Grammar as sorts
use Rattle.go_grammar.specs.Grammar.{Sort, closes_braces}
use Rattle.go_grammar.specs.Reading.{Reader, Plan, Part, Node, Either, Many, ◌>>=◌, run}
use Rattle.go_grammar.specs.Tests.{begins, begins_both, word, maybe, ◌⨟◌, not_closed, not_empty, semicolon, end_of_line}
use Rattle.go_grammar.specs.TypeReading.{Parsers}
use Rattle.go_grammar.specs.StmtReading.{at_part, at_clauses, at_comm, at_lines, at_statement, at_unlabeled}
use Rattle.go_grammar.specs.StmtReading.{behind_list, clause_plan, clauses_plan, comm_plan, expr, exprs, goes_on}
use Rattle.go_grammar.specs.StmtReading.{if_plan, if_rest_in, select_plan, statement_plan}
use Rattle.go_grammar.specs.View.{each}

-- a statement with its labels, where it has any
abbrev pub statement_in : Parsers → Reader
statement_in p = run (at_statement p) statement_plan

abbrev pub line_plan : Plan Sort
line_plan = Node forms.LineForm (Either not_empty (Part sorts.Statement ⨟ end_of_line closes_braces) semicolon)

abbrev pub line_in : Parsers → Reader
line_in p = run (at_lines p) line_plan

-- an arm of an `if`, where this stands before it
abbrev pub arm_in : Parsers → Forest → Reader
arm_in p front tokens = if_rest_in p tokens >>= λ x. Some (node forms.ArmForm (append front x.0) empty, x.1)

-- the condition between the semicolons of a `for`, or nothing
abbrev pub for_condition_in : Parsers → Reader
for_condition_in p = run (at_part p) (maybe not_empty (expr sorts.Header))

abbrev pub return_in : Parsers → Reader
return_in p = run (at_unlabeled p) (Node forms.ReturnForm (word kinds.ReturnWord ⨟ maybe goes_on (exprs sorts.Plain)))

abbrev pub go_in : Parsers → Reader
go_in p = run (at_unlabeled p) (Node forms.GoForm (word kinds.GoWord ⨟ expr sorts.Plain))

abbrev pub defer_in : Parsers → Reader
defer_in p = run (at_unlabeled p) (Node forms.DeferForm (word kinds.DeferWord ⨟ expr sorts.Plain))

-- a statement that begins with no other word than these, or with none
abbrev pub compound_in : Parsers → Reader
compound_in p = run (at_unlabeled p)
    (Either (begins kinds.OpenBrace) (Part sorts.Block)
    (Either (begins kinds.IfWord) if_plan
    (Either (begins kinds.SwitchWord) (Part sorts.Switch)
    (Either (begins kinds.SelectWord) select_plan
    (Either (begins kinds.ForWord) (Part sorts.Loop) (Part (sorts.Simple sorts.Plain)))))))

-- what stands before an operator, in the forest of an assignment
abbrev pub IsList : Forest → Type 0
IsList list = (behind : Forest) → behind_list (append list behind) ≡ behind_list behind

abbrev pub clause_in : Parsers → Reader
clause_in p = run (at_part p) clause_plan

abbrev pub clauses_in : Parsers → Reader
clauses_in p = run (at_clauses p) clauses_plan

abbrev pub clause_list_in : Parsers → Reader
clause_list_in p = run (at_clauses p) (Many (not_closed kinds.CloseBrace) (Part sorts.CaseClause))

abbrev pub comm_clause_in : Parsers → Reader
comm_clause_in p = run (at_comm p) comm_plan

-- the first arm of an `if`, and each `else if`
abbrev pub arms_in : Parsers → Reader
arms_in p =
    run (at_unlabeled p)
    (Node forms.ArmForm (Part sorts.IfRest) ⨟ Many (begins_both kinds.ElseWord kinds.IfWord)
    (Node forms.ArmForm (word kinds.ElseWord ⨟ Part sorts.IfRest)))

abbrev pub else_arm_in : Parsers → Reader
else_arm_in p = run (at_unlabeled p) (Node forms.ArmForm (word kinds.ElseWord ⨟ Part sorts.IfRest))

abbrev pub if_in : Parsers → Reader
if_in p = run (at_unlabeled p) if_plan

abbrev pub comm_list_in : Parsers → Reader
comm_list_in p = run (at_unlabeled p) (Many (not_closed kinds.CloseBrace) (Part sorts.CommClause))

abbrev pub select_in : Parsers → Reader
select_in p = run (at_unlabeled p) select_plan
