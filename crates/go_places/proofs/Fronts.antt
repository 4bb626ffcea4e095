-- The first byte of trees, by their parts.
use Rattle.std.proofs.Common.{◌≡◌, ℕ, List, [], ◌∷◌, ◌++◌, Option, Some, None, unwrap_or, slice_get, sym, ap, ◌∙◌, refl}
use Rattle.std.specs.Global.{Box, Vec}
use Rattle.go_ast.specs.declared.token.Token.{Token}
use Rattle.go_syntax.specs.declared.decls.FuncDecl.{FuncDecl}
use Rattle.go_syntax.specs.declared.decls.Decl.TheViews.{out-Block, out-ForStmt, out-FuncDecl, out-IfArm, out-ListedExpr, out-RangeStmt, out-SwitchStmt, out-TypeSwitchStmt, roll-out-Block, roll-out-ForStmt, roll-out-FuncDecl, roll-out-IfArm, roll-out-ListedExpr, roll-out-RangeStmt, roll-out-SwitchStmt, roll-out-TypeSwitchStmt}
use Rattle.go_syntax.specs.declared.exprs.Element.{Element}
use Rattle.go_syntax.specs.declared.exprs.Expr.{Expr}
use Rattle.go_syntax.specs.declared.exprs.ListedExpr.{ListedExpr}
use Rattle.go_syntax.specs.declared.exprs.Expr.TheVariants as exprs
use Rattle.go_syntax.specs.declared.stmts.Block.{Block}
use Rattle.go_syntax.specs.declared.stmts.ForStmt.{ForStmt}
use Rattle.go_syntax.specs.declared.stmts.IfArm.{IfArm}
use Rattle.go_syntax.specs.declared.stmts.RangeStmt.{RangeStmt}
use Rattle.go_syntax.specs.declared.stmts.Stmt.{Stmt}
use Rattle.go_syntax.specs.declared.stmts.SwitchStmt.{SwitchStmt}
use Rattle.go_syntax.specs.declared.stmts.TypeSwitchStmt.{TypeSwitchStmt}
use Rattle.go_syntax.specs.declared.type_exprs.TypeExpr.{TypeExpr}
use Rattle.go_grammar.specs.Forests as forms
use Rattle.go_grammar.specs.Forests.{Forest, Form, append, empty, leaf, node, yield}
use Rattle.go_grammar.specs.View.{◌⊕◌, each, if_some, one, token_if, view_block, view_expr, view_for_stmt, view_func_decl, view_if_arm, view_listed_expr, view_range_stmt, view_stmt, view_switch_stmt, view_type_expr, view_type_switch_stmt}
use Rattle.go_grammar.proofs.Forests.{append-assoc, yield-append}
use Rattle.go_grammar.proofs.Views.{view_block_made, view_expr_assertion, view_expr_binary, view_expr_call, view_expr_composite, view_expr_full_slice, view_expr_index, view_expr_selector, view_expr_slice, view_for_stmt_made, view_func_decl_made, view_if_arm_made, view_listed_expr_made, view_range_stmt_made, view_switch_stmt_made, view_type_switch_stmt_made}
use Rattle.go_places.specs.Begins.{first_byte, start_of}

first_append : (front rest : List Token) (n : ℕ) → first_byte front ≡ Some n → first_byte (front ++ rest) ≡ Some n
first_append [] rest n h = cc
first_append (token ∷ front) rest n h = h

-- trees begin with the first of them
pub begins_with : (left right : Forest) (n : ℕ) → start_of left ≡ Some n → start_of (append left right) ≡ Some n
begins_with left right n h = ap first_byte (yield-append left right) ∙ first_append (yield left) (yield right) n h

-- a node begins with what is below it
pub node_begins : (form : Form) (below behind : Forest) (n : ℕ) → start_of below ≡ Some n → start_of (node form below behind) ≡ Some n
node_begins form below behind n h = first_append (yield below) (yield behind) n h

-- a node that begins with a tree
pub inside : (whole : Forest) (form : Form) (first rest : Forest) (n : ℕ) → whole ≡ node form (append first rest) empty → start_of first ≡ Some n → start_of whole ≡ Some n
inside whole form first rest n is h = ap start_of is ∙ node_begins form (append first rest) empty n (begins_with first rest n h)

-- ---- statements and declarations

no_word : (form : Form) (word : Option Token) (rest : Forest) (o : Option ℕ) → word ≡ None → start_of (node form rest empty) ≡ o → start_of (node form (append (token_if word) rest) empty) ≡ o
no_word form word rest o none h = ap (λ (w : Option Token). start_of (node form (append (token_if w) rest) empty)) none ∙ h

some_word : (form : Form) (word : Option Token) (rest : Forest) (token : Token) → word ≡ Some token → start_of (node form (append (token_if word) rest) empty) ≡ Some token.start
some_word form word rest token some = ap (λ (w : Option Token). start_of (node form (append (token_if w) rest) empty)) some

pub arm_first : (arm : IfArm) → (out-IfArm arm).else_word ≡ None → start_of (view_if_arm arm) ≡ Some (out-IfArm arm).word.start
arm_first arm none = ap (λ (f : IfArm). start_of (view_if_arm f)) (sym (roll-out-IfArm arm)) ∙ ap start_of (view_if_arm_made (out-IfArm arm)) ∙ no_word forms.ArmForm (out-IfArm arm).else_word _ _ none refl

pub arm_else : (arm : IfArm) (word : Token) → (out-IfArm arm).else_word ≡ Some word → start_of (view_if_arm arm) ≡ Some word.start
arm_else arm word some = ap (λ (f : IfArm). start_of (view_if_arm f)) (sym (roll-out-IfArm arm)) ∙ ap start_of (view_if_arm_made (out-IfArm arm)) ∙ some_word forms.ArmForm (out-IfArm arm).else_word _ word some

pub func_first : (func : FuncDecl) → start_of (view_func_decl func) ≡ Some (out-FuncDecl func).word.start
func_first func = ap (λ (f : FuncDecl). start_of (view_func_decl f)) (sym (roll-out-FuncDecl func)) ∙ ap start_of (view_func_decl_made (out-FuncDecl func))

pub block_first : (block : Block) → start_of (view_block block) ≡ Some (out-Block block).«open».start
block_first block = ap (λ (f : Block). start_of (view_block f)) (sym (roll-out-Block block)) ∙ ap start_of (view_block_made (out-Block block))

pub for_first : (stmt : ForStmt) → start_of (view_for_stmt stmt) ≡ Some (out-ForStmt stmt).word.start
for_first stmt = ap (λ (f : ForStmt). start_of (view_for_stmt f)) (sym (roll-out-ForStmt stmt)) ∙ ap start_of (view_for_stmt_made (out-ForStmt stmt))

pub range_first : (stmt : RangeStmt) → start_of (view_range_stmt stmt) ≡ Some (out-RangeStmt stmt).word.start
range_first stmt = ap (λ (f : RangeStmt). start_of (view_range_stmt f)) (sym (roll-out-RangeStmt stmt)) ∙ ap start_of (view_range_stmt_made (out-RangeStmt stmt))

pub switch_first : (stmt : SwitchStmt) → start_of (view_switch_stmt stmt) ≡ Some (out-SwitchStmt stmt).word.start
switch_first stmt = ap (λ (f : SwitchStmt). start_of (view_switch_stmt f)) (sym (roll-out-SwitchStmt stmt)) ∙ ap start_of (view_switch_stmt_made (out-SwitchStmt stmt))

pub type_switch_first : (stmt : TypeSwitchStmt) → start_of (view_type_switch_stmt stmt) ≡ Some (out-TypeSwitchStmt stmt).word.start
type_switch_first stmt = ap (λ (f : TypeSwitchStmt). start_of (view_type_switch_stmt f)) (sym (roll-out-TypeSwitchStmt stmt)) ∙ ap start_of (view_type_switch_stmt_made (out-TypeSwitchStmt stmt))

-- ---- expressions and statements, as the code meets them

-- an expression that begins with another, which was looked at
pub expr_begins : (e whole first seen : Expr) (form : Form) (rest : Forest) (n : ℕ) → e ≡ whole → view_expr whole ≡ node form (append (view_expr first) rest) empty → seen ≡ first
    → start_of (view_expr seen) ≡ Some n → start_of (view_expr e) ≡ Some n
expr_begins e whole first seen form rest n is view same h =
    ap (λ (x : Expr). start_of (view_expr x)) is ∙ inside (view_expr whole) form (view_expr first) rest n view (ap (λ (x : Expr). start_of (view_expr x)) (sym same) ∙ h)

pub typed_begins : (e whole : Expr) (first seen : TypeExpr) (form : Form) (rest : Forest) (n : ℕ) → e ≡ whole → view_expr whole ≡ node form (append (view_type_expr first) rest) empty → seen ≡ first
    → start_of (view_type_expr seen) ≡ Some n → start_of (view_expr e) ≡ Some n
typed_begins e whole first seen form rest n is view same h =
    ap (λ (x : Expr). start_of (view_expr x)) is ∙ inside (view_expr whole) form (view_type_expr first) rest n view (ap (λ (x : TypeExpr). start_of (view_type_expr x)) (sym same) ∙ h)

-- a statement whose tree begins so
pub stmt_begins : (s whole : Stmt) (tree : Forest) (n : ℕ) → s ≡ whole → view_stmt whole ≡ tree → start_of tree ≡ Some n → n ≡ unwrap_or (start_of (view_stmt s)) 0
stmt_begins s whole tree n is view h = sym (ap (λ (x : Stmt). unwrap_or (start_of (view_stmt x)) 0) is ∙ ap (λ (f : Forest). unwrap_or (start_of f) 0) view ∙ ap (λ (o : Option ℕ). unwrap_or o 0) h)

-- a literal that begins with its type
pub literal_begins : (e whole : Expr) (typed : Option (Box TypeExpr)) (b : Box TypeExpr) (seen : TypeExpr) (form : Form) (rest : Forest) (n : ℕ) → e ≡ whole
    → view_expr whole ≡ node form (append (if_some (λ (y : Box TypeExpr). view_type_expr y.value) typed) rest) empty → typed ≡ Some b → seen ≡ b.value
    → start_of (view_type_expr seen) ≡ Some n → start_of (view_expr e) ≡ Some n
literal_begins e whole typed b seen form rest n is view some same h =
    ap (λ (x : Expr). start_of (view_expr x)) is
    ∙ inside (view_expr whole) form (if_some (λ (y : Box TypeExpr). view_type_expr y.value) typed) rest n view
    (ap (λ (t : Option (Box TypeExpr)). start_of (if_some (λ (y : Box TypeExpr). view_type_expr y.value) t)) some ∙ ap (λ (x : TypeExpr). start_of (view_type_expr x)) (sym same) ∙ h)

-- ---- lists of trees

-- they begin with the first
pub each_first : {A : Type 0} (view : A → Forest) (xs ys : List A) (x : A) (n : ℕ) → ys ≡ xs → Some x ≡ slice_get ys 0 → start_of (view x) ≡ Some n → start_of (each view xs) ≡ Some n
each_first view [] ys x n same is h = let e : Some x ≡ None = is ∙ ap (λ (l : List _). slice_get l 0) same in cc
each_first view (y ∷ xs) ys x n same is h =
    let e : Some x ≡ Some y = is ∙ ap (λ (l : List _). slice_get l 0) same in
    let first : x ≡ y = cc in
    begins_with (view y) (each view xs) n (ap (λ z. start_of (view z)) (sym first) ∙ h)

pub each_none : {A : Type 0} (view : A → Forest) (xs ys : List A) → ys ≡ xs → None ≡ slice_get ys 0 → each view xs ≡ empty
each_none view [] ys same is = refl
each_none view (y ∷ xs) ys same is = let e : None ≡ Some y = is ∙ ap (λ (l : List _). slice_get l 0) same in cc

listed_is : (x : ListedExpr) → view_listed_expr x ≡ view_expr x.expr.value ⊕ token_if x.comma
listed_is x = view_listed_expr_made (out-ListedExpr x)

pub listed_first : (x : ListedExpr) (n : ℕ) → start_of (view_expr x.expr.value) ≡ Some n → start_of (view_listed_expr x) ≡ Some n
listed_first x n h = ap start_of (listed_is x) ∙ begins_with (view_expr x.expr.value) (token_if x.comma) n h

first_alone : (tokens : List Token) → first_byte (tokens ++ []) ≡ first_byte tokens
first_alone [] = refl
first_alone (token ∷ tokens) = refl

-- a node in which nothing stands before the rest
alone_in : (form : Form) (front rest : Forest) (n : ℕ) → front ≡ empty → n ≡ unwrap_or (start_of rest) 0 → n ≡ unwrap_or (start_of (node form (append front rest) empty)) 0
alone_in form front rest n none h =
    h ∙ sym (ap (λ (f : Forest). unwrap_or (start_of (node form (append f rest) empty)) 0) none ∙ ap (λ (o : Option ℕ). unwrap_or o 0) (first_alone (yield rest)))

-- ---- statements by the views of their forms

pub stmt_front : (s whole : Stmt) (form : Form) (first rest : Forest) (n : ℕ) → s ≡ whole → view_stmt whole ≡ node form (append first rest) empty → start_of first ≡ Some n → n ≡ unwrap_or (start_of (view_stmt s)) 0
stmt_front s whole form first rest n is view h = stmt_begins s whole _ n is view (inside (node form (append first rest) empty) form first rest n refl h)

pub stmt_expr : (s whole : Stmt) (form : Form) (first seen : Expr) (rest : Forest) (n : ℕ) → s ≡ whole → view_stmt whole ≡ node form (append (view_expr first) rest) empty → seen ≡ first → start_of (view_expr seen) ≡ Some n → n ≡ unwrap_or (start_of (view_stmt s)) 0
stmt_expr s whole form first seen rest n is view same h = stmt_front s whole form (view_expr first) rest n is view (ap (λ (x : Expr). start_of (view_expr x)) (sym same) ∙ h)

pub stmt_list : (s whole : Stmt) (form : Form) (targets seen : List ListedExpr) (operator : Token) (rest : Forest) (n : ℕ) → s ≡ whole
    → view_stmt whole ≡ node form (append (each view_listed_expr targets) (append (one operator) rest)) empty → seen ≡ targets
    → start_of (each view_listed_expr seen ⊕ one operator) ≡ Some n → n ≡ unwrap_or (start_of (view_stmt s)) 0
stmt_list s whole form targets seen operator rest n is view same h =
    let h' : start_of (append (each view_listed_expr targets) (one operator)) ≡ Some n = ap (λ (xs : List ListedExpr). start_of (each view_listed_expr xs ⊕ one operator)) (sym same) ∙ h in
    stmt_begins s whole _ n is view (node_begins form (append (each view_listed_expr targets) (append (one operator) rest)) empty n
    (ap start_of (sym (append-assoc (each view_listed_expr targets) (one operator) rest)) ∙ begins_with (append (each view_listed_expr targets) (one operator)) rest n h'))

pub stmt_rest : (s whole : Stmt) (form : Form) (front rest : Forest) (n : ℕ) → s ≡ whole → view_stmt whole ≡ node form (append front rest) empty → front ≡ empty → n ≡ unwrap_or (start_of rest) 0 → n ≡ unwrap_or (start_of (view_stmt s)) 0
stmt_rest s whole form front rest n is view none h =
    alone_in form front rest n none h ∙ sym (ap (λ (x : Stmt). unwrap_or (start_of (view_stmt x)) 0) is ∙ ap (λ (f : Forest). unwrap_or (start_of f) 0) view)
