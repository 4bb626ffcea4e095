-- Statements put together of their parts.
use Rattle.std.proofs.Common.{◌≡◌, ℕ, ◌-◌, ◌++◌, Bool, List, [], ◌∷◌, length, Some, None, refl, sym, ap, ◌∙◌, arith}
use Rattle.std.specs.Global.{Box, Vec}
use Rattle.go_ast.specs.declared.token.Token.{Token}
use Rattle.go_syntax.specs.declared.decls.Decl.{Decl}
use Rattle.go_syntax.specs.declared.exprs.Expr.{Expr}
use Rattle.go_syntax.specs.declared.stmts.Stmt.{Stmt}
use Rattle.go_syntax.specs.declared.type_exprs.ElementLine.{ElementLine}
use Rattle.go_syntax.specs.declared.type_exprs.FieldLine.{FieldLine}
use Rattle.go_syntax.specs.declared.type_exprs.ResultForm.{ResultForm}
use Rattle.go_syntax.specs.declared.type_exprs.TypeExpr.{TypeExpr}
use Rattle.go_syntax.specs.declared.decls.FuncDecl.{FuncDecl}
use Rattle.go_syntax.specs.declared.decls.TypeSpec.{TypeSpec}
use Rattle.go_syntax.specs.declared.decls.ValueSpec.{ValueSpec}
use Rattle.go_syntax.specs.declared.exprs.Element.{Element}
use Rattle.go_syntax.specs.declared.exprs.ListedExpr.{ListedExpr}
use Rattle.go_syntax.specs.declared.stmts.Block.{Block}
use Rattle.go_syntax.specs.declared.stmts.CaseClause.{CaseClause}
use Rattle.go_syntax.specs.declared.stmts.CommClause.{CommClause}
use Rattle.go_syntax.specs.declared.stmts.ForStmt.{ForStmt}
use Rattle.go_syntax.specs.declared.stmts.IfArm.{IfArm}
use Rattle.go_syntax.specs.declared.stmts.RangeStmt.{RangeStmt}
use Rattle.go_syntax.specs.declared.stmts.StmtLine.{StmtLine}
use Rattle.go_syntax.specs.declared.stmts.SwitchStmt.{SwitchStmt}
use Rattle.go_syntax.specs.declared.stmts.TypeSwitchStmt.{TypeSwitchStmt}
use Rattle.go_syntax.specs.declared.type_exprs.Param.{Param}
use Rattle.go_syntax.specs.declared.type_exprs.Params.{Params}
use Rattle.go_syntax.specs.declared.type_exprs.Signature.{Signature}
use Rattle.go_syntax.specs.declared.decls.Decl.TheOpen.{SwitchStmt-F, TypeSwitchStmt-F}
use Rattle.go_syntax.specs.declared.decls.Decl.TheViews.{roll-SwitchStmt, roll-TypeSwitchStmt}
use Rattle.go_syntax.specs.declared.stmts.Stmt.TheVariants as stmts
use Rattle.go_grammar.specs.Forests as forms
use Rattle.go_grammar.specs.Forests.{Forest}
use Rattle.go_grammar.specs.Reading.{Reader, many_in, then_in}
use Rattle.go_grammar.specs.View.{one, tree, ◌⊕◌, if_some, each, token_if, view_stmt, view_block, view_binding, view_case_clause, view_if_arm, view_switch_stmt, view_type_switch_stmt}
use Rattle.go_grammar.proofs.Forests.{append-empty, append-assoc}
use Rattle.go_grammar.proofs.Views.{view_stmt_switch, view_stmt_type_switch, view_switch_stmt_made, view_type_switch_stmt_made, view_stmt_break, view_stmt_continue, view_stmt_fallthrough, view_stmt_if}
use Rattle.go_fragments.specs.Statements.{boxed_expr, boxed_stmt}
use Rattle.go_fragments.proofs.Loops.{behind}

-- a list whose first item stands alone
pub first_start : (test : List Token → Bool) (first item : Reader) (front x : Forest) (tokens rest : List Token) (n i : ℕ) → first tokens ≡ Some (x, rest) → front ≡ x → n ≡ length rest → i ≡ 0
    → behind front (many_in test item (n - i) rest) ≡ then_in first (λ behind. many_in test item (length behind) behind) tokens
first_start test first item front x tokens rest n i h f e z =
    let k : n - i ≡ length rest = omega arith in
    rw (h, f, k) refl

pub first_push : {A : Type 0} (view : A → Forest) (none items : List A) (x : A) → items ≡ none ++ x ∷ [] → none ≡ [] → each view items ≡ view x
first_push view none items x e n =
    let one_item : items ≡ x ∷ [] = rw (e, n) refl in
    ap (each view) one_item ∙ append-empty (view x)

-- ---- views

pub switch_made : (x : SwitchStmt-F Decl Expr Stmt ElementLine FieldLine ResultForm TypeExpr FuncDecl TypeSpec ValueSpec Element ListedExpr Block CaseClause CommClause ForStmt IfArm RangeStmt StmtLine SwitchStmt TypeSwitchStmt Param Params Signature) → view_switch_stmt (roll-SwitchStmt x) ≡ tree forms.SwitchForm (one x.word ⊕ (if_some boxed_stmt x.init ⊕ token_if x.semicolon) ⊕ if_some boxed_expr x.tag ⊕ one x.«open» ⊕ each view_case_clause x.clauses.items ⊕ one x.close)
switch_made x = view_switch_stmt_made x ∙ ap (λ (seen : Forest). tree forms.SwitchForm (one x.word ⊕ seen)) (sym (append-assoc (if_some boxed_stmt x.init) (token_if x.semicolon) (if_some boxed_expr x.tag ⊕ one x.«open» ⊕ each view_case_clause x.clauses.items ⊕ one x.close)))

pub ruleset switches = (view_stmt_switch, switch_made)

pub type_switch_made : (x : TypeSwitchStmt-F Decl Expr Stmt ElementLine FieldLine ResultForm TypeExpr FuncDecl TypeSpec ValueSpec Element ListedExpr Block CaseClause CommClause ForStmt IfArm RangeStmt StmtLine SwitchStmt TypeSwitchStmt Param Params Signature) → view_type_switch_stmt (roll-TypeSwitchStmt x) ≡ tree forms.TypeSwitchForm (one x.word ⊕ (if_some boxed_stmt x.init ⊕ token_if x.semicolon) ⊕ (if_some view_binding x.binding ⊕ boxed_expr x.operand) ⊕ one x.dot ⊕ one x.open_paren ⊕ one x.type_word ⊕ one x.close_paren ⊕ one x.«open» ⊕ each view_case_clause x.clauses.items ⊕ one x.close)
type_switch_made x =
    let behind : Forest = one x.dot ⊕ one x.open_paren ⊕ one x.type_word ⊕ one x.close_paren ⊕ one x.«open» ⊕ each view_case_clause x.clauses.items ⊕ one x.close in
    view_type_switch_stmt_made x
    ∙ ap (λ (seen : Forest). tree forms.TypeSwitchForm (one x.word ⊕ seen)) (sym (append-assoc (if_some boxed_stmt x.init) (token_if x.semicolon) (if_some view_binding x.binding ⊕ boxed_expr x.operand ⊕ behind)))
    ∙ ap (λ (seen : Forest). tree forms.TypeSwitchForm (one x.word ⊕ (if_some boxed_stmt x.init ⊕ token_if x.semicolon) ⊕ seen)) (sym (append-assoc (if_some view_binding x.binding) (boxed_expr x.operand) behind))

pub ruleset type_switches = (view_stmt_type_switch, type_switch_made)

pub ruleset branches = (view_stmt_break, view_stmt_continue, view_stmt_fallthrough)

-- an `if` without a last `else`
pub if_alone : (arms : Vec IfArm) → view_stmt (stmts.If arms None None) ≡ tree forms.IfForm (each view_if_arm arms.items)
if_alone arms = view_stmt_if arms None None ∙ ap (tree forms.IfForm) (append-empty (each view_if_arm arms.items))

-- an `if` with a last `else`
pub else_seen : (stmt : Stmt) (arms : Vec IfArm) (else_word : Token) (held : Box Block) (block : Block) → stmt ≡ stmts.If arms (Some else_word) (Some held) → held.value ≡ block → Some (tree forms.IfForm (each view_if_arm arms.items ⊕ one else_word ⊕ view_block block)) ≡ Some (view_stmt stmt)
else_seen stmt arms else_word held block e h =
    let seen : view_stmt stmt ≡ tree forms.IfForm (each view_if_arm arms.items ⊕ one else_word ⊕ view_block held.value) = ap view_stmt e ∙ view_stmt_if arms (Some else_word) (Some held) in
    ap (λ (body : Block). Some (tree forms.IfForm (each view_if_arm arms.items ⊕ one else_word ⊕ view_block body))) (sym h) ∙ ap (λ (seen : Forest). Some seen) (sym seen)
