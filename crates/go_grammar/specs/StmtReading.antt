-- Reading statements.
use Rattle.std.specs.Prelude.{List, [], ◌∷◌, Option, Some, None, Bool, true, false, ◌&&◌, ◌||◌, not, if◌then◌else◌}
use Rattle.go_ast.specs.declared.token.Kind.{Kind}
use Rattle.go_ast.specs.declared.token.Kind.TheVariants as kinds
use Rattle.go_ast.specs.declared.token.Token.{Token}
use Rattle.go_grammar.specs.Forests as forms
use Rattle.go_grammar.specs.Forests.{Form, Forest, empty, leaf, node, append}
use Rattle.go_grammar.specs.Shapes.{is}
use Rattle.go_grammar.specs.Grammar as sorts
use Rattle.go_grammar.specs.Grammar.{Sort, Context, is_assign, is_step, is_semicolon, closes_braces}
use Rattle.go_grammar.specs.Reading.{Reader, Plan, Sign, Part, Node, Either, Many, is_next, sign_in, ◌>>=◌, run}
use Rattle.go_grammar.specs.Tests.{begins, begins_both, begins_semicolon, begins_type_at, ◌⨟◌, word, maybe, maybe_word}
use Rattle.go_grammar.specs.Tests.{semicolon, end_of_line, not_closed, not_empty, group_of, list_of, names, word_in}
use Rattle.go_grammar.specs.TypeReading.{Plain, Header, Item, Parsers, signature_in, begins_named_param}
use Rattle.go_grammar.specs.ExprReading.{block_in}

-- what statements are made of
abbrev pub at_part : Parsers → Sort → Reader
at_part p (sorts.Binary sorts.Disjunction sorts.Plain) = p.expr Plain 1
at_part p (sorts.Binary sorts.Disjunction sorts.Header) = p.expr Header 1
at_part p sorts.Item = p.expr Item 1
at_part p sorts.AnyType = p.type_expr
at_part p sorts.Signature = signature_in p
at_part p sorts.Block = block_in p
at_part p sorts.Lines = p.statements
at_part p _ = λ tokens. None

abbrev pub expr : Context → Plan Sort
expr context = Part (sorts.Binary sorts.Disjunction context)

abbrev pub exprs : Context → Plan Sort
exprs context = list_of (expr context)

abbrev pub items : Plan Sort
items = list_of (Part sorts.Item)

-- ---- declarations

abbrev pub const_spec_plan : Plan Sort
const_spec_plan =
    Node forms.ValueSpecForm
    (names ⨟ maybe (λ tokens. begins_type_at tokens
    || begins kinds.Assign tokens) (maybe begins_type_at (Part sorts.AnyType) ⨟ word kinds.Assign ⨟ exprs sorts.Plain))

abbrev pub type_spec_plan : Plan Sort
type_spec_plan = Node forms.TypeSpecForm (word kinds.Name ⨟ maybe_word kinds.Assign ⨟ Part sorts.AnyType)

abbrev pub var_spec_plan : Plan Sort
var_spec_plan =
    Node forms.ValueSpecForm
    (names ⨟ Either begins_type_at
    (Part sorts.AnyType ⨟ maybe (begins kinds.Assign) (word kinds.Assign ⨟ exprs sorts.Plain))
    (word kinds.Assign ⨟ exprs sorts.Plain))

abbrev pub at_spec : Parsers → Sort → Reader
at_spec p sorts.ConstSpec = run (at_part p) const_spec_plan
at_spec p sorts.TypeSpec = run (at_part p) type_spec_plan
at_spec p sorts.VarSpec = run (at_part p) var_spec_plan
at_spec p _ = λ tokens. None

abbrev pub decl_plan : Plan Sort
decl_plan =
    Either (begins kinds.ConstWord) (Node forms.ConstForm (word kinds.ConstWord ⨟ group_of (Part sorts.ConstSpec)))
    (Either (begins kinds.TypeWord) (Node forms.TypeDeclForm (word kinds.TypeWord ⨟ group_of (Part sorts.TypeSpec)))
    (Node forms.VarForm (word kinds.VarWord ⨟ group_of (Part sorts.VarSpec))))

abbrev pub decl_in : Parsers → Reader
decl_in p = run (at_spec p) decl_plan

-- ---- simple statements

-- one tree alone
abbrev pub is_single : Forest → Bool
is_single (node form below empty) = true
is_single _ = false

abbrev pub rest_of : Form → Forest → Reader → Reader
rest_of form targets reader tokens = reader tokens >>= λ x. Some (node form (append targets x.0) empty, x.1)

-- what follows the first expressions of a simple statement
abbrev pub simple_rest_in : Parsers → Context → Forest → Reader
simple_rest_in p context targets tokens =
    if is_next is_assign tokens
    then rest_of forms.AssignForm targets (run (at_part p) (Sign is_assign ⨟ exprs context)) tokens else
    if begins kinds.Define tokens
    then rest_of forms.DefineForm targets (run (at_part p) (word kinds.Define ⨟ exprs context)) tokens else
    if not (is_single targets) then None else
    if begins kinds.Arrow tokens
    then rest_of forms.SendForm targets (run (at_part p) (word kinds.Arrow ⨟ expr context)) tokens else
    if is_next is_step tokens then rest_of forms.StepForm targets (sign_in is_step) tokens else
    Some (node forms.ExprForm targets empty, tokens)

abbrev pub exprs_in : Parsers → Context → Reader
exprs_in p context = run (at_part p) (exprs context)

abbrev pub simple_in : Parsers → Context → Reader
simple_in p context tokens = exprs_in p context tokens >>= λ targets. simple_rest_in p context targets.0 targets.1

-- a simple statement of a header, or nothing before a semicolon or a brace
abbrev pub optional_simple_in : Parsers → Reader
optional_simple_in p tokens =
    if begins_semicolon tokens || begins kinds.OpenBrace tokens then Some (empty, tokens)
    else simple_in p sorts.Header tokens

-- What stands in the header of an `if` or a `switch`: a statement and a semicolon, and then what is decided.
pub record HeaderParts : Type 0 where
  pub init : Forest
  pub last : Forest

abbrev pub header_in : Parsers → List Token → Option (HeaderParts × List Token)
header_in p tokens = optional_simple_in p tokens >>= λ first.
    if begins_semicolon first.1
    then (sign_in is_semicolon first.1 >>= λ ended. optional_simple_in p ended.1 >>= λ last. Some
    (record { init = append first.0 ended.0; last = last.0 }, last.1))
    else Some (record { init = empty; last = first.0 }, first.1)

-- the expression that is a statement
abbrev pub expr_of : Forest → Option Forest
expr_of (node forms.ExprForm expr empty) = Some expr
expr_of _ = None

-- ---- if

abbrev pub if_rest_in : Parsers → Reader
if_rest_in p tokens = do
  opened ← word_in kinds.IfWord tokens
  parts ← header_in p opened.1
  condition ← expr_of parts.0.last
  body ← block_in p parts.1
  Some (append opened.0 (append parts.0.init (append condition body.0)), body.1)

abbrev pub if_plan : Plan Sort
if_plan =
    Node forms.IfForm
    (Node forms.ArmForm (Part sorts.IfRest) ⨟ Many (begins_both kinds.ElseWord kinds.IfWord)
    (Node forms.ArmForm (word kinds.ElseWord ⨟ Part sorts.IfRest))
    ⨟ maybe (begins kinds.ElseWord) (word kinds.ElseWord ⨟ Part sorts.Block))

-- ---- switch

abbrev pub clause_plan : Plan Sort
clause_plan =
    Node forms.CaseClauseForm
    (Either (not_closed kinds.DefaultWord) (word kinds.CaseWord ⨟ items) (word kinds.DefaultWord) ⨟ word kinds.Colon ⨟
    Part sorts.Lines)

abbrev pub clauses_plan : Plan Sort
clauses_plan = word kinds.OpenBrace ⨟ Many (not_closed kinds.CloseBrace) (Part sorts.CaseClause) ⨟ word kinds.CloseBrace

abbrev pub at_clauses : Parsers → Sort → Reader
at_clauses p sorts.CaseClause = run (at_part p) clause_plan
at_clauses p _ = λ tokens. None

abbrev pub is_operation_form : Form → Bool
is_operation_form forms.UnaryForm = true
is_operation_form forms.BinaryForm = true
is_operation_form _ = false

-- one operand, and what goes on behind it
abbrev pub is_primary : Forest → Bool
is_primary (node form below empty) = not (is_operation_form form)
is_primary _ = false

abbrev pub primary_of : Forest → Option Forest
primary_of tree = if is_primary tree then Some tree else None

-- the name that is bound, and the operand
abbrev pub bound_of : Forest → Option Forest
bound_of (node forms.NameForm (leaf name empty) (leaf define operand)) =
    if is_primary operand then Some (leaf name (leaf define operand)) else None
bound_of _ = None

abbrev pub guard_by : Form → Forest → Option Forest
guard_by forms.ExprForm below = primary_of below
guard_by forms.DefineForm below = bound_of below
guard_by _ below = None

-- the operand of a guard, with the name that is bound, of what was read as a statement
abbrev pub guard_of : Forest → Option Forest
guard_of (node form below empty) = guard_by form below
guard_of _ = None

abbrev pub guard_plan : Plan Sort
guard_plan = word kinds.Dot ⨟ word kinds.OpenParen ⨟ word kinds.TypeWord ⨟ word kinds.CloseParen ⨟ clauses_plan

-- what is decided, where there is any
abbrev pub tag_of : Forest → Option Forest
tag_of empty = Some empty
tag_of tree = expr_of tree

abbrev pub switch_rest_in : Parsers → Forest → HeaderParts → Reader
switch_rest_in p opened parts tokens =
    if begins kinds.Dot tokens
    then (guard_of parts.last >>= λ guard. run (at_clauses p) guard_plan tokens >>= λ x. Some
    (node forms.TypeSwitchForm (append opened (append parts.init (append guard x.0))) empty, x.1))
    else (tag_of parts.last >>= λ tag. run (at_clauses p) clauses_plan tokens >>= λ x. Some
    (node forms.SwitchForm (append opened (append parts.init (append tag x.0))) empty, x.1))

abbrev pub switch_in : Parsers → Reader
switch_in p tokens = do
  opened ← word_in kinds.SwitchWord tokens
  parts ← header_in p opened.1
  switch_rest_in p opened.0 parts.0 parts.1

-- ---- select

-- the operator behind the first expressions, and what follows it
abbrev pub behind_list : Forest → Option (Token × Forest)
behind_list empty = None
behind_list (leaf token behind) = if is token.kind kinds.Comma then behind_list behind else Some (token, behind)
behind_list (node form below behind) = behind_list behind

abbrev pub is_one_assigned : Option (Token × Forest) → Bool
is_one_assigned None = false
is_one_assigned (Some x) = is x.0.kind kinds.Assign && is_single x.1

abbrev pub is_one_defined : Option (Token × Forest) → Bool
is_one_defined None = false
is_one_defined (Some x) = is_single x.1

abbrev pub is_comm_by : Form → Forest → Bool
is_comm_by forms.ExprForm below = true
is_comm_by forms.SendForm below = true
is_comm_by forms.AssignForm below = is_one_assigned (behind_list below)
is_comm_by forms.DefineForm below = is_one_defined (behind_list below)
is_comm_by _ below = false

-- whether this may stand behind `case` in a `select`
abbrev pub is_comm : Forest → Bool
is_comm (node form below behind) = is_comm_by form below
is_comm _ = false

abbrev pub comm_in : Parsers → Reader
comm_in p tokens = simple_in p sorts.Plain tokens >>= λ x. if is_comm x.0 then Some x else None

abbrev pub comm_plan : Plan Sort
comm_plan =
    Node forms.CommClauseForm
    (Either (not_closed kinds.DefaultWord) (word kinds.CaseWord ⨟ Part sorts.Comm) (word kinds.DefaultWord) ⨟ word
    kinds.Colon ⨟ Part sorts.Lines)

abbrev pub at_comm : Parsers → Sort → Reader
at_comm p sorts.Comm = comm_in p
at_comm p sorts.Lines = p.statements
at_comm p _ = λ tokens. None

abbrev pub select_plan : Plan Sort
select_plan =
    Node forms.SelectForm
    (word kinds.SelectWord ⨟ word kinds.OpenBrace ⨟ Many (not_closed kinds.CloseBrace) (Part sorts.CommClause) ⨟ word
    kinds.CloseBrace)

-- ---- for

abbrev pub while_in : Parsers → Forest → Forest → Reader
while_in p opened condition tokens =
    block_in p tokens >>= λ body. Some (node forms.WhileForm (append opened (append condition body.0)) empty, body.1)

abbrev pub is_define : Forest → Bool
is_define (node forms.DefineForm below behind) = true
is_define _ = false

abbrev pub for_clauses_in : Parsers → Forest → Forest → Reader
for_clauses_in p opened init tokens = do
  front ← run (at_part p) (semicolon ⨟ maybe not_empty (expr sorts.Header) ⨟ semicolon) tokens
  post ← optional_simple_in p front.1
  body ← if is_define post.0 then None else block_in p post.1
  Some (node forms.ForForm (append opened (append init (append front.0 (append post.0 body.0)))) empty, body.1)

abbrev pub range_in : Parsers → Forest → Forest → Reader
range_in p opened targets tokens =
    run (at_part p) (word kinds.RangeWord ⨟ expr sorts.Header ⨟ Part sorts.Block) tokens >>= λ x. Some
    (node forms.RangeForm (append opened (append targets x.0)) empty, x.1)

abbrev pub is_range_assign : Kind → Bool
is_range_assign kinds.Assign = true
is_range_assign kinds.Define = true
is_range_assign _ = false

-- `=` or `:=` before `range`
abbrev pub begins_range : List Token → Bool
begins_range [] = false
begins_range (token ∷ tokens) = is_range_assign token.kind && begins kinds.RangeWord tokens

abbrev pub for_rest_in : Parsers → Forest → Forest → Reader
for_rest_in p opened targets tokens =
    if begins_range tokens
    then (sign_in is_range_assign tokens >>= λ operator. range_in p opened (append targets operator.0) operator.1)
    else (simple_rest_in p sorts.Header targets tokens >>= λ stmt.
    if begins_semicolon stmt.1 then for_clauses_in p opened stmt.0 stmt.1
    else (expr_of stmt.0 >>= λ condition. while_in p opened condition stmt.1))

abbrev pub for_in : Parsers → Reader
for_in p tokens = word_in kinds.ForWord tokens >>= λ opened.
    if begins kinds.RangeWord opened.1 then range_in p opened.0 empty opened.1 else
    if begins_semicolon opened.1 then for_clauses_in p opened.0 empty opened.1 else
    if begins kinds.OpenBrace opened.1 then while_in p opened.0 empty opened.1 else
    (exprs_in p sorts.Header opened.1 >>= λ targets. for_rest_in p opened.0 targets.0 targets.1)

-- ---- statements

abbrev pub ends_statement : List Token → Bool
ends_statement tokens = begins_semicolon tokens || begins kinds.CloseBrace tokens

abbrev pub goes_on : List Token → Bool
goes_on tokens = not (ends_statement tokens)

abbrev pub begins_decl : Kind → Bool
begins_decl kinds.ConstWord = true
begins_decl kinds.TypeWord = true
begins_decl kinds.VarWord = true
begins_decl _ = false

abbrev pub at_unlabeled : Parsers → Sort → Reader
at_unlabeled p sorts.LocalDecl = decl_in p
at_unlabeled p sorts.Switch = switch_in p
at_unlabeled p sorts.Loop = for_in p
at_unlabeled p (sorts.Simple sorts.Plain) = simple_in p sorts.Plain
at_unlabeled p sorts.CommClause = run (at_comm p) comm_plan
at_unlabeled p sorts.IfRest = if_rest_in p
at_unlabeled p sort = at_part p sort

abbrev pub unlabeled_plan : Plan Sort
unlabeled_plan =
    Either (is_next begins_decl) (Part sorts.LocalDecl)
    (Either (begins kinds.GoWord) (Node forms.GoForm (word kinds.GoWord ⨟ expr sorts.Plain))
    (Either (begins kinds.DeferWord) (Node forms.DeferForm (word kinds.DeferWord ⨟ expr sorts.Plain))
    (Either (begins kinds.ReturnWord)
    (Node forms.ReturnForm (word kinds.ReturnWord ⨟ maybe goes_on (exprs sorts.Plain)))
    (Either (begins kinds.BreakWord) (Node forms.BreakForm (word kinds.BreakWord ⨟ maybe_word kinds.Name))
    (Either (begins kinds.ContinueWord) (Node forms.ContinueForm (word kinds.ContinueWord ⨟ maybe_word kinds.Name))
    (Either (begins kinds.FallthroughWord) (Node forms.FallthroughForm (word kinds.FallthroughWord))
    (Either (begins kinds.OpenBrace) (Part sorts.Block)
    (Either (begins kinds.IfWord) if_plan
    (Either (begins kinds.SwitchWord) (Part sorts.Switch)
    (Either (begins kinds.SelectWord) select_plan
    (Either (begins kinds.ForWord) (Part sorts.Loop) (Part (sorts.Simple sorts.Plain)))))))))))))

abbrev pub unlabeled_in : Parsers → Reader
unlabeled_in p = run (at_unlabeled p) unlabeled_plan

abbrev pub label : Plan Sort
label = word kinds.Name ⨟ word kinds.Colon

abbrev pub at_statement : Parsers → Sort → Reader
at_statement p sorts.Unlabeled = unlabeled_in p
at_statement p _ = λ tokens. None

abbrev pub statement_plan : Plan Sort
statement_plan =
    Either (begins_both kinds.Name kinds.Colon)
    (Node forms.LabeledForm
    (label ⨟ Many (begins_both kinds.Name kinds.Colon) label ⨟ maybe goes_on (Part sorts.Unlabeled)))
    (Part sorts.Unlabeled)

abbrev pub at_lines : Parsers → Sort → Reader
at_lines p sorts.Statement = run (at_statement p) statement_plan
at_lines p _ = λ tokens. None

-- whether the statements of a block or a clause end here
abbrev pub ends_statements : List Token → Bool
ends_statements tokens =
    begins kinds.CloseBrace tokens || begins kinds.CaseWord tokens || begins kinds.DefaultWord tokens

abbrev pub lines_plan : Plan Sort
lines_plan =
    Many (λ tokens. not (ends_statements tokens))
    (Node forms.LineForm (Either not_empty (Part sorts.Statement ⨟ end_of_line closes_braces) semicolon))

abbrev pub lines_in : Parsers → Reader
lines_in p = run (at_lines p) lines_plan

-- ---- files

abbrev pub receiver_plan : Plan Sort
receiver_plan =
    Node forms.ParamsForm
    (word kinds.OpenParen ⨟ Node forms.ParamForm (maybe begins_named_param (word kinds.Name) ⨟ Part sorts.AnyType) ⨟
    maybe_word kinds.Comma ⨟ word kinds.CloseParen)

abbrev pub at_package : Parsers → Sort → Reader
at_package p sorts.LocalDecl = decl_in p
at_package p sorts.Receiver = run (at_part p) receiver_plan
at_package p sort = at_part p sort

abbrev pub package_plan : Plan Sort
package_plan =
    Either (not_closed kinds.FuncWord) (Part sorts.LocalDecl)
    (Node forms.FuncForm
    (word kinds.FuncWord ⨟ maybe (begins kinds.OpenParen) (Part sorts.Receiver) ⨟ word kinds.Name ⨟ Part
    sorts.Signature ⨟ maybe (begins kinds.OpenBrace) (Part sorts.Block)))

abbrev pub import_spec_plan : Plan Sort
import_spec_plan = Node forms.ImportSpecForm (maybe_word kinds.Name ⨟ word kinds.Text)

abbrev pub at_import : Sort → Reader
at_import sorts.ImportSpec = run (λ sort tokens. None) import_spec_plan
at_import _ = λ tokens. None

abbrev pub import_plan : Plan Sort
import_plan = Node forms.ImportForm (word kinds.ImportWord ⨟ group_of (Part sorts.ImportSpec))

abbrev pub at_file : Parsers → Sort → Reader
at_file p sorts.Import = run at_import import_plan
at_file p sorts.PackageDecl = run (at_package p) package_plan
at_file p _ = λ tokens. None

abbrev pub is_more : List Token → Bool
is_more [] = false
is_more (token ∷ tokens) = true

abbrev pub file_plan : Plan Sort
file_plan =
    Node forms.FileForm
    (word kinds.PackageWord ⨟ word kinds.Name ⨟ semicolon ⨟ Many (begins kinds.ImportWord)
    (Part sorts.Import ⨟ semicolon) ⨟ Many is_more (Part sorts.PackageDecl ⨟ semicolon))

abbrev pub file_in : Parsers → Reader
file_in p = run (at_file p) file_plan
