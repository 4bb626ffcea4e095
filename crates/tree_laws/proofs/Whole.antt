-- The fields of a whole file are told by its tree of the grammar.
use Rattle.std.proofs.Common.{◌≡◌, refl, sym, ap, ◌∙◌, List, [], ◌∷◌, map}
use Rattle.std.specs.Prelude.{Bool, true, false}
use Rattle.go_ast.specs.declared.token.Kind.TheVariants as kinds
use Rattle.go_syntax.specs.declared.decls.Decl.{Decl}
use Rattle.go_syntax.specs.declared.exprs.Expr.{Expr}
use Rattle.go_syntax.specs.declared.stmts.Stmt.{Stmt}
use Rattle.go_syntax.specs.declared.type_exprs.ElementLine.{ElementLine}
use Rattle.go_syntax.specs.declared.type_exprs.FieldLine.{FieldLine}
use Rattle.go_syntax.specs.declared.type_exprs.ResultForm.{ResultForm}
use Rattle.go_syntax.specs.declared.type_exprs.TypeExpr.{TypeExpr}
use Rattle.go_syntax.specs.declared.decls.FuncDecl.{FuncDecl}
use Rattle.go_syntax.specs.declared.decls.TypeSpec.{TypeSpec}
use Rattle.go_syntax.specs.declared.decls.ValueSpec.{ValueSpec}
use Rattle.go_syntax.specs.declared.exprs.Element.{Element}
use Rattle.go_syntax.specs.declared.exprs.ListedExpr.{ListedExpr}
use Rattle.go_syntax.specs.declared.stmts.Block.{Block}
use Rattle.go_syntax.specs.declared.stmts.CaseClause.{CaseClause}
use Rattle.go_syntax.specs.declared.stmts.CommClause.{CommClause}
use Rattle.go_syntax.specs.declared.stmts.ForStmt.{ForStmt}
use Rattle.go_syntax.specs.declared.stmts.IfArm.{IfArm}
use Rattle.go_syntax.specs.declared.stmts.RangeStmt.{RangeStmt}
use Rattle.go_syntax.specs.declared.stmts.StmtLine.{StmtLine}
use Rattle.go_syntax.specs.declared.stmts.SwitchStmt.{SwitchStmt}
use Rattle.go_syntax.specs.declared.stmts.TypeSwitchStmt.{TypeSwitchStmt}
use Rattle.go_syntax.specs.declared.type_exprs.Param.{Param}
use Rattle.go_syntax.specs.declared.type_exprs.Params.{Params}
use Rattle.go_syntax.specs.declared.type_exprs.Signature.{Signature}
use Rattle.go_syntax.specs.declared.decls.Decl.TheOpen.{Decl-F, Expr-F, Stmt-F, ElementLine-F, FieldLine-F}
use Rattle.go_syntax.specs.declared.decls.Decl.TheOpen.{ResultForm-F, TypeExpr-F, FuncDecl-F, TypeSpec-F, ValueSpec-F}
use Rattle.go_syntax.specs.declared.decls.Decl.TheOpen.{Element-F, ListedExpr-F, Block-F, CaseClause-F, CommClause-F}
use Rattle.go_syntax.specs.declared.decls.Decl.TheOpen.{ForStmt-F, IfArm-F, RangeStmt-F, StmtLine-F, SwitchStmt-F}
use Rattle.go_syntax.specs.declared.decls.Decl.TheOpen.{TypeSwitchStmt-F, Param-F, Params-F, Signature-F}
use Rattle.go_syntax.specs.declared.decls.Decl.TheViews.{roll-Decl, roll-Expr, roll-Stmt, roll-ElementLine}
use Rattle.go_syntax.specs.declared.decls.Decl.TheViews.{roll-FieldLine, roll-ResultForm, roll-TypeExpr}
use Rattle.go_syntax.specs.declared.decls.Decl.TheViews.{roll-FuncDecl, roll-TypeSpec, roll-ValueSpec, roll-Element}
use Rattle.go_syntax.specs.declared.decls.Decl.TheViews.{roll-ListedExpr, roll-Block, roll-CaseClause}
use Rattle.go_syntax.specs.declared.decls.Decl.TheViews.{roll-CommClause, roll-ForStmt, roll-IfArm, roll-RangeStmt}
use Rattle.go_syntax.specs.declared.decls.Decl.TheViews.{roll-StmtLine, roll-SwitchStmt, roll-TypeSwitchStmt}
use Rattle.go_syntax.specs.declared.decls.Decl.TheViews.{roll-Param, roll-Params, roll-Signature}
use Rattle.go_grammar.specs.Forests as forms
use Rattle.go_grammar.specs.Forests.{Form, Forest}
use Rattle.go_grammar.specs.Grammar.{is_semicolon}
use Rattle.go_grammar.specs.View as view
use Rattle.tree_roles.specs.Tokens.{is_kind, is_if, group, in_turn}
use Rattle.tree_roles.specs.Tokens.{every, ends}
use Rattle.tree_roles.specs.Roles.{roles_of_decl}
use Rattle.tree_laws.specs.Fields as fields
use Rattle.tree_laws.specs.Fields.{Field, Marked}
use Rattle.std.proofs.Common.{subst}
use Rattle.go_syntax.specs.declared.decls.Decl.TheFolds.{ind-Decl}
use Rattle.go_syntax.specs.declared.decls.DeclLine.{DeclLine}
use Rattle.go_syntax.specs.declared.decls.FileTree.{FileTree}
use Rattle.go_syntax.specs.declared.decls.ImportDecl.{ImportDecl}
use Rattle.go_syntax.specs.declared.decls.ImportSpec.{ImportSpec}
use Rattle.tree_roles.specs.Tokens.{is_filled}
use Rattle.tree_roles.specs.Roles.{roles_of_file, roles_of_import, roles_of_import_spec, roles_of_line}
use Rattle.tree_laws.proofs.Told.{forget_mark, mark}
use Rattle.tree_laws.proofs.Pieces.{whole}
use Rattle.tree_laws.proofs.Pieces.{Part, IsTree, Ended, and2, and3, and4, and5}
use Rattle.tree_laws.proofs.Pieces.{nothing, under, token_is, token_of, maybe_is, ◌⊗◌, made}
use Rattle.tree_laws.proofs.Pieces.{ended}
use Rattle.tree_laws.proofs.TokenKinds.{semicolon_field}
use Rattle.tree_laws.proofs.Layers.{FineDecl, FineExpr, FineStmt, FineElementLine, FineFieldLine}
use Rattle.tree_laws.proofs.Layers.{FineResultForm, FineTypeExpr, FineFuncDecl, FineTypeSpec, FineValueSpec}
use Rattle.tree_laws.proofs.Layers.{FineElement, FineListedExpr, FineBlock, FineCaseClause, FineCommClause}
use Rattle.tree_laws.proofs.Layers.{FineForStmt, FineIfArm, FineRangeStmt, FineStmtLine, FineSwitchStmt}
use Rattle.tree_laws.proofs.Layers.{FineTypeSwitchStmt, FineParam, FineParams, FineSignature}
use Rattle.tree_laws.proofs.DeclSteps.{step_decl, step_func_decl, step_type_spec, step_value_spec}
use Rattle.tree_laws.proofs.ExprSteps.{step_expr, step_element, step_listed_expr}
use Rattle.tree_laws.proofs.StmtSteps.{step_stmt, step_block, step_stmt_line, step_case_clause, step_comm_clause}
use Rattle.tree_laws.proofs.StmtSteps.{step_for_stmt, step_if_arm, step_range_stmt, step_switch_stmt}
use Rattle.tree_laws.proofs.StmtSteps.{step_type_switch_stmt}
use Rattle.tree_laws.proofs.TypeSteps.{step_element_line, step_field_line, step_result_form, step_type_expr}
use Rattle.tree_laws.proofs.TypeSteps.{step_param, step_params, step_signature}

told : (x : Decl) → FineDecl x
told = ind-Decl FineDecl FineExpr FineStmt FineElementLine FineFieldLine FineResultForm FineTypeExpr FineFuncDecl FineTypeSpec FineValueSpec FineElement FineListedExpr FineBlock FineCaseClause FineCommClause FineForStmt FineIfArm FineRangeStmt FineStmtLine FineSwitchStmt FineTypeSwitchStmt FineParam FineParams FineSignature (λ x y is. subst (λ (z : Decl-F Decl Expr Stmt ElementLine FieldLine ResultForm TypeExpr FuncDecl TypeSpec ValueSpec Element ListedExpr Block CaseClause CommClause ForStmt IfArm RangeStmt StmtLine SwitchStmt TypeSwitchStmt Param Params Signature). FineDecl (roll-Decl z)) is (step_decl y)) (λ x y is. subst (λ (z : Expr-F Decl Expr Stmt ElementLine FieldLine ResultForm TypeExpr FuncDecl TypeSpec ValueSpec Element ListedExpr Block CaseClause CommClause ForStmt IfArm RangeStmt StmtLine SwitchStmt TypeSwitchStmt Param Params Signature). FineExpr (roll-Expr z)) is (step_expr y)) (λ x y is. subst (λ (z : Stmt-F Decl Expr Stmt ElementLine FieldLine ResultForm TypeExpr FuncDecl TypeSpec ValueSpec Element ListedExpr Block CaseClause CommClause ForStmt IfArm RangeStmt StmtLine SwitchStmt TypeSwitchStmt Param Params Signature). FineStmt (roll-Stmt z)) is (step_stmt y)) (λ x y is. subst (λ (z : ElementLine-F Decl Expr Stmt ElementLine FieldLine ResultForm TypeExpr FuncDecl TypeSpec ValueSpec Element ListedExpr Block CaseClause CommClause ForStmt IfArm RangeStmt StmtLine SwitchStmt TypeSwitchStmt Param Params Signature). FineElementLine (roll-ElementLine z)) is (step_element_line y)) (λ x y is. subst (λ (z : FieldLine-F Decl Expr Stmt ElementLine FieldLine ResultForm TypeExpr FuncDecl TypeSpec ValueSpec Element ListedExpr Block CaseClause CommClause ForStmt IfArm RangeStmt StmtLine SwitchStmt TypeSwitchStmt Param Params Signature). FineFieldLine (roll-FieldLine z)) is (step_field_line y)) (λ x y is. subst (λ (z : ResultForm-F Decl Expr Stmt ElementLine FieldLine ResultForm TypeExpr FuncDecl TypeSpec ValueSpec Element ListedExpr Block CaseClause CommClause ForStmt IfArm RangeStmt StmtLine SwitchStmt TypeSwitchStmt Param Params Signature). FineResultForm (roll-ResultForm z)) is (step_result_form y)) (λ x y is. subst (λ (z : TypeExpr-F Decl Expr Stmt ElementLine FieldLine ResultForm TypeExpr FuncDecl TypeSpec ValueSpec Element ListedExpr Block CaseClause CommClause ForStmt IfArm RangeStmt StmtLine SwitchStmt TypeSwitchStmt Param Params Signature). FineTypeExpr (roll-TypeExpr z)) is (step_type_expr y)) (λ x y is. subst (λ (z : FuncDecl-F Decl Expr Stmt ElementLine FieldLine ResultForm TypeExpr FuncDecl TypeSpec ValueSpec Element ListedExpr Block CaseClause CommClause ForStmt IfArm RangeStmt StmtLine SwitchStmt TypeSwitchStmt Param Params Signature). FineFuncDecl (roll-FuncDecl z)) is (step_func_decl y)) (λ x y is. subst (λ (z : TypeSpec-F Decl Expr Stmt ElementLine FieldLine ResultForm TypeExpr FuncDecl TypeSpec ValueSpec Element ListedExpr Block CaseClause CommClause ForStmt IfArm RangeStmt StmtLine SwitchStmt TypeSwitchStmt Param Params Signature). FineTypeSpec (roll-TypeSpec z)) is (step_type_spec y)) (λ x y is. subst (λ (z : ValueSpec-F Decl Expr Stmt ElementLine FieldLine ResultForm TypeExpr FuncDecl TypeSpec ValueSpec Element ListedExpr Block CaseClause CommClause ForStmt IfArm RangeStmt StmtLine SwitchStmt TypeSwitchStmt Param Params Signature). FineValueSpec (roll-ValueSpec z)) is (step_value_spec y)) (λ x y is. subst (λ (z : Element-F Decl Expr Stmt ElementLine FieldLine ResultForm TypeExpr FuncDecl TypeSpec ValueSpec Element ListedExpr Block CaseClause CommClause ForStmt IfArm RangeStmt StmtLine SwitchStmt TypeSwitchStmt Param Params Signature). FineElement (roll-Element z)) is (step_element y)) (λ x y is. subst (λ (z : ListedExpr-F Decl Expr Stmt ElementLine FieldLine ResultForm TypeExpr FuncDecl TypeSpec ValueSpec Element ListedExpr Block CaseClause CommClause ForStmt IfArm RangeStmt StmtLine SwitchStmt TypeSwitchStmt Param Params Signature). FineListedExpr (roll-ListedExpr z)) is (step_listed_expr y)) (λ x y is. subst (λ (z : Block-F Decl Expr Stmt ElementLine FieldLine ResultForm TypeExpr FuncDecl TypeSpec ValueSpec Element ListedExpr Block CaseClause CommClause ForStmt IfArm RangeStmt StmtLine SwitchStmt TypeSwitchStmt Param Params Signature). FineBlock (roll-Block z)) is (step_block y)) (λ x y is. subst (λ (z : CaseClause-F Decl Expr Stmt ElementLine FieldLine ResultForm TypeExpr FuncDecl TypeSpec ValueSpec Element ListedExpr Block CaseClause CommClause ForStmt IfArm RangeStmt StmtLine SwitchStmt TypeSwitchStmt Param Params Signature). FineCaseClause (roll-CaseClause z)) is (step_case_clause y)) (λ x y is. subst (λ (z : CommClause-F Decl Expr Stmt ElementLine FieldLine ResultForm TypeExpr FuncDecl TypeSpec ValueSpec Element ListedExpr Block CaseClause CommClause ForStmt IfArm RangeStmt StmtLine SwitchStmt TypeSwitchStmt Param Params Signature). FineCommClause (roll-CommClause z)) is (step_comm_clause y)) (λ x y is. subst (λ (z : ForStmt-F Decl Expr Stmt ElementLine FieldLine ResultForm TypeExpr FuncDecl TypeSpec ValueSpec Element ListedExpr Block CaseClause CommClause ForStmt IfArm RangeStmt StmtLine SwitchStmt TypeSwitchStmt Param Params Signature). FineForStmt (roll-ForStmt z)) is (step_for_stmt y)) (λ x y is. subst (λ (z : IfArm-F Decl Expr Stmt ElementLine FieldLine ResultForm TypeExpr FuncDecl TypeSpec ValueSpec Element ListedExpr Block CaseClause CommClause ForStmt IfArm RangeStmt StmtLine SwitchStmt TypeSwitchStmt Param Params Signature). FineIfArm (roll-IfArm z)) is (step_if_arm y)) (λ x y is. subst (λ (z : RangeStmt-F Decl Expr Stmt ElementLine FieldLine ResultForm TypeExpr FuncDecl TypeSpec ValueSpec Element ListedExpr Block CaseClause CommClause ForStmt IfArm RangeStmt StmtLine SwitchStmt TypeSwitchStmt Param Params Signature). FineRangeStmt (roll-RangeStmt z)) is (step_range_stmt y)) (λ x y is. subst (λ (z : StmtLine-F Decl Expr Stmt ElementLine FieldLine ResultForm TypeExpr FuncDecl TypeSpec ValueSpec Element ListedExpr Block CaseClause CommClause ForStmt IfArm RangeStmt StmtLine SwitchStmt TypeSwitchStmt Param Params Signature). FineStmtLine (roll-StmtLine z)) is (step_stmt_line y)) (λ x y is. subst (λ (z : SwitchStmt-F Decl Expr Stmt ElementLine FieldLine ResultForm TypeExpr FuncDecl TypeSpec ValueSpec Element ListedExpr Block CaseClause CommClause ForStmt IfArm RangeStmt StmtLine SwitchStmt TypeSwitchStmt Param Params Signature). FineSwitchStmt (roll-SwitchStmt z)) is (step_switch_stmt y)) (λ x y is. subst (λ (z : TypeSwitchStmt-F Decl Expr Stmt ElementLine FieldLine ResultForm TypeExpr FuncDecl TypeSpec ValueSpec Element ListedExpr Block CaseClause CommClause ForStmt IfArm RangeStmt StmtLine SwitchStmt TypeSwitchStmt Param Params Signature). FineTypeSwitchStmt (roll-TypeSwitchStmt z)) is (step_type_switch_stmt y)) (λ x y is. subst (λ (z : Param-F Decl Expr Stmt ElementLine FieldLine ResultForm TypeExpr FuncDecl TypeSpec ValueSpec Element ListedExpr Block CaseClause CommClause ForStmt IfArm RangeStmt StmtLine SwitchStmt TypeSwitchStmt Param Params Signature). FineParam (roll-Param z)) is (step_param y)) (λ x y is. subst (λ (z : Params-F Decl Expr Stmt ElementLine FieldLine ResultForm TypeExpr FuncDecl TypeSpec ValueSpec Element ListedExpr Block CaseClause CommClause ForStmt IfArm RangeStmt StmtLine SwitchStmt TypeSwitchStmt Param Params Signature). FineParams (roll-Params z)) is (step_params y)) (λ x y is. subst (λ (z : Signature-F Decl Expr Stmt ElementLine FieldLine ResultForm TypeExpr FuncDecl TypeSpec ValueSpec Element ListedExpr Block CaseClause CommClause ForStmt IfArm RangeStmt StmtLine SwitchStmt TypeSwitchStmt Param Params Signature). FineSignature (roll-Signature z)) is (step_signature y))

spec_told : (x : ImportSpec) (more : Bool) → roles_of_import_spec x more ≡ true → Ended is_semicolon fields.Semicolon (view.view_import_spec x) (fields.fields_of_import_spec x)
spec_told x more h =
    let hs = and3 (is_if kinds.Name x.name) (is_kind kinds.Text x.path) (ends is_semicolon x.semicolon more) h in
    ended is_semicolon fields.Semicolon x.semicolon more (made (maybe_is forms.ImportSpecForm fields.Name kinds.Name x.name (λ after kind. refl) (λ before after. refl) hs.0 ⊗ token_is forms.ImportSpecForm fields.Path kinds.Text x.path (λ before after. refl) hs.1)) hs.2

specs_told : (xs : List ImportSpec) → in_turn (map roles_of_import_spec xs) ≡ true → Part forms.ImportForm (view.each view.view_import_spec xs) (fields.each fields.fields_of_import_spec xs)
specs_told [] h = nothing {form = forms.ImportForm} (λ after kind. refl)
specs_told (x ∷ xs) h =
    let more = is_filled (map roles_of_import_spec xs) in
    let hs = and2 (roles_of_import_spec x more) (in_turn (map roles_of_import_spec xs)) h in
    (spec_told x more hs.0).part forms.ImportForm (λ after kind. refl) (λ before after kind h. semicolon_field kind h) ⊗ specs_told xs hs.1

import_told : (x : ImportDecl) → roles_of_import x ≡ true → Part forms.FileForm (view.view_import x) (fields.fields_of_import x)
import_told x h =
    let ks = and2 (group kinds.ImportWord x.word x.«open» (in_turn (map roles_of_import_spec x.specs.items)) x.close) (is_semicolon x.semicolon.kind) h in
    let hs = and4 (is_kind kinds.ImportWord x.word) (is_if kinds.OpenParen x.«open») (in_turn (map roles_of_import_spec x.specs.items)) (is_if kinds.CloseParen x.close) ks.0 in
    under {form = forms.FileForm} (λ after kind. refl) (made (token_is forms.ImportForm fields.Word kinds.ImportWord x.word (λ before after. refl) hs.0 ⊗ maybe_is forms.ImportForm fields.Open kinds.OpenParen x.«open» (λ after kind. refl) (λ before after. refl) hs.1 ⊗ specs_told x.specs.items hs.2 ⊗ maybe_is forms.ImportForm fields.Close kinds.CloseParen x.close (λ after kind. refl) (λ before after. refl) hs.3))
    ⊗ token_of forms.FileForm fields.Semicolon is_semicolon x.semicolon (λ before after kind h. semicolon_field kind h) ks.1

imports_told : (xs : List ImportDecl) → every (map roles_of_import xs) ≡ true → Part forms.FileForm (view.each view.view_import xs) (fields.each fields.fields_of_import xs)
imports_told [] h = nothing {form = forms.FileForm} (λ after kind. refl)
imports_told (x ∷ xs) h =
    let hs = and2 (roles_of_import x) (every (map roles_of_import xs)) h in
    import_told x hs.0 ⊗ imports_told xs hs.1

line_told : (x : DeclLine) → roles_of_line x ≡ true → Part forms.FileForm (view.view_line x) (fields.fields_of_line x)
line_told x h =
    let hs = and2 (roles_of_decl x.decl) (is_semicolon x.semicolon.kind) h in
    under {form = forms.FileForm} (λ after kind. refl) (told x.decl hs.0) ⊗ token_of forms.FileForm fields.Semicolon is_semicolon x.semicolon (λ before after kind h. semicolon_field kind h) hs.1

lines_told : (xs : List DeclLine) → every (map roles_of_line xs) ≡ true → Part forms.FileForm (view.each view.view_line xs) (fields.each fields.fields_of_line xs)
lines_told [] h = nothing {form = forms.FileForm} (λ after kind. refl)
lines_told (x ∷ xs) h =
    let hs = and2 (roles_of_line x) (every (map roles_of_line xs)) h in
    line_told x hs.0 ⊗ lines_told xs hs.1

file_told : (x : FileTree) → roles_of_file x ≡ true → IsTree (view.view_file x) (fields.fields_of_file x)
file_told x h =
    let hs = and5 (is_kind kinds.PackageWord x.word) (is_kind kinds.Name x.name) (is_semicolon x.semicolon.kind) (every (map roles_of_import x.imports.items)) (every (map roles_of_line x.decls.items)) h in
    made (token_is forms.FileForm fields.Word kinds.PackageWord x.word (λ before after. refl) hs.0 ⊗ token_is forms.FileForm fields.Name kinds.Name x.name (λ before after. refl) hs.1 ⊗ token_of forms.FileForm fields.Semicolon is_semicolon x.semicolon (λ before after kind h. semicolon_field kind h) hs.2 ⊗ imports_told x.imports.items hs.3 ⊗ lines_told x.decls.items hs.4)

-- the fields of a file are read off its tree of the grammar
read_off : (x : FileTree) → roles_of_file x ≡ true → mark forms.FileForm false (view.view_file x) ≡ fields.fields_of_file x
read_off x h = whole (under {form = forms.FileForm} (λ after kind. refl) (file_told x h))

pub one_tree : (a b : FileTree) → view.view_file a ≡ view.view_file b → roles_of_file a ≡ true → roles_of_file b ≡ true → fields.fields_of_file a ≡ fields.fields_of_file b
one_tree a b same h k = sym (read_off a h) ∙ ap (λ (f : Forest). mark forms.FileForm false f) same ∙ read_off b k

pub same_view : (a : FileTree) → roles_of_file a ≡ true → fields.forget (fields.fields_of_file a) ≡ view.view_file a
same_view a h = ap (λ (m : Marked). fields.forget m) (sym (read_off a h)) ∙ forget_mark forms.FileForm false (view.view_file a)
