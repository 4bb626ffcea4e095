-- The expression of a list of one.
use Rattle.std.proofs.Common.{◌≡◌, ◌<◌, Bool, true, false, List, [], ◌∷◌, ◌++◌, length, Option, Some, None, refl, sym, ap, ◌∙◌, arith}
use Rattle.std.specs.Prelude.{if◌then◌else◌}
use Rattle.std.specs.Option.{is_some}
use Rattle.go_ast.specs.declared.token.Token.{Token}
use Rattle.go_syntax.specs.declared.exprs.Expr.{Expr}
use Rattle.go_syntax.specs.declared.exprs.ListedExpr.{ListedExpr}
use Rattle.go_syntax.specs.declared.decls.Decl.TheViews.{out-ListedExpr, roll-out-ListedExpr}
use Rattle.go_grammar.specs.Forests.{Forest, empty, leaf, append}
use Rattle.go_grammar.specs.StmtReading.{is_single}
use Rattle.go_grammar.specs.TypeReading.{is_none}
use Rattle.go_grammar.specs.View.{each, token_if, view_expr, view_listed_expr}
use Rattle.go_grammar.proofs.Forests.{append-assoc, append-empty}
use Rattle.go_grammar.proofs.Views.{view_listed_expr_made}
use Rattle.go_fragments.specs.Expressions.{single_of}
use Rattle.go_fragments.proofs.Variants.{expr_node, single_before}

view_of_listed : (x : ListedExpr) → view_listed_expr x ≡ append (view_expr (out-ListedExpr x).expr.value) (token_if (out-ListedExpr x).comma)
view_of_listed x = ap view_listed_expr (sym (roll-out-ListedExpr x)) ∙ view_listed_expr_made (out-ListedExpr x)

some_expr : (tree : Expr) (more : Forest) → is_none (append (view_expr tree) more) ≡ false
some_expr tree more = ap (λ (seen : Forest). is_none (append seen more)) (expr_node tree)

some_listed : (x : ListedExpr) (more : Forest) → is_none (append (view_listed_expr x) more) ≡ false
some_listed x more =
    ap (λ (seen : Forest). is_none (append seen more)) (view_of_listed x)
    ∙ ap is_none (append-assoc (view_expr (out-ListedExpr x).expr.value) (token_if (out-ListedExpr x).comma) more)
    ∙ some_expr (out-ListedExpr x).expr.value (append (token_if (out-ListedExpr x).comma) more)

some_each : (ys : List ListedExpr) (x : ListedExpr) → is_none (each view_listed_expr (ys ++ x ∷ [])) ≡ false
some_each [] x = some_listed x empty
some_each (y ∷ ys) x = some_listed y (each view_listed_expr (ys ++ x ∷ []))

behind_comma : (comma : Option Token) (more : Forest) → is_none more ≡ false → is_none (append (token_if comma) more) ≡ false
behind_comma None more h = h
behind_comma (Some comma) more h = refl

not_single : (y : ListedExpr) (more : Forest) → is_none more ≡ false → is_single (append (view_listed_expr y) more) ≡ false
not_single y more h =
    ap (λ (seen : Forest). is_single (append seen more)) (view_of_listed y)
    ∙ ap is_single (append-assoc (view_expr (out-ListedExpr y).expr.value) (token_if (out-ListedExpr y).comma) more)
    ∙ single_before (out-ListedExpr y).expr.value (append (token_if (out-ListedExpr y).comma) more)
    ∙ behind_comma (out-ListedExpr y).comma more h

abbrev chosen : Forest → Bool → Option Forest
chosen trees is_one = if is_one then Some trees else None

pub single_many : (xs items : List ListedExpr) (x : ListedExpr) → items ≡ xs ++ x ∷ [] → 0 < length xs → single_of (each view_listed_expr items) ≡ None
single_many [] items x e lt = absurd (omega arith)
single_many (y ∷ ys) items x e lt =
    ap (λ (list : List ListedExpr). single_of (each view_listed_expr list)) e
    ∙ ap (chosen (each view_listed_expr (y ∷ ys ++ x ∷ []))) (not_single y (each view_listed_expr (ys ++ x ∷ [])) (some_each ys x))

pub single_none : (items : List ListedExpr) → length items ≡ 0 → single_of (each view_listed_expr items) ≡ None
single_none [] e = refl
single_none (x ∷ items) e = absurd (omega arith)

pub single_comma : (xs items : List ListedExpr) (x : ListedExpr) (comma : Token) → items ≡ xs ++ x ∷ [] → length xs ≡ 0 → (out-ListedExpr x).comma ≡ Some comma → single_of (each view_listed_expr items) ≡ None
single_comma (y ∷ ys) items x comma e zero_long c = absurd (omega arith)
single_comma [] items x comma e zero_long c =
    let seen : each view_listed_expr items ≡ append (view_expr (out-ListedExpr x).expr.value) (leaf comma empty) =
    ap (each view_listed_expr) e ∙ append-empty (view_listed_expr x) ∙ view_of_listed x ∙ ap (λ (found : Option Token). append (view_expr (out-ListedExpr x).expr.value) (token_if found)) c in
    ap single_of seen ∙ ap (chosen (append (view_expr (out-ListedExpr x).expr.value) (leaf comma empty))) (single_before (out-ListedExpr x).expr.value (leaf comma empty))

pub single_alone : (xs items : List ListedExpr) (x : ListedExpr) → items ≡ xs ++ x ∷ [] → length xs ≡ 0 → (out-ListedExpr x).comma ≡ None → single_of (each view_listed_expr items) ≡ Some (view_expr (out-ListedExpr x).expr.value)
single_alone (y ∷ ys) items x e zero_long c = absurd (omega arith)
single_alone [] items x e zero_long c =
    let seen : each view_listed_expr items ≡ append (view_expr (out-ListedExpr x).expr.value) empty =
    ap (each view_listed_expr) e ∙ append-empty (view_listed_expr x) ∙ view_of_listed x ∙ ap (λ (found : Option Token). append (view_expr (out-ListedExpr x).expr.value) (token_if found)) c in
    ap single_of seen ∙ ap (chosen (append (view_expr (out-ListedExpr x).expr.value) empty)) (single_before (out-ListedExpr x).expr.value empty)
    ∙ ap Some (append-empty (view_expr (out-ListedExpr x).expr.value))

found : (option : Option Token) → is_some option ≡ true → (token : Token) × (option ≡ Some token)
found None h = absurd cc
found (Some token) h = (token, refl)

not_found : (option : Option Token) → is_some option ≡ false → option ≡ None
not_found None h = refl
not_found (Some token) h = absurd cc

pub single_with_comma : (xs items : List ListedExpr) (x : ListedExpr) → items ≡ xs ++ x ∷ [] → length xs ≡ 0 → is_some (out-ListedExpr x).comma ≡ true → single_of (each view_listed_expr items) ≡ None
single_with_comma xs items x e zero_long h = let comma = found (out-ListedExpr x).comma h in single_comma xs items x comma.0 e zero_long comma.1

pub single_without : (xs items : List ListedExpr) (x : ListedExpr) → items ≡ xs ++ x ∷ [] → length xs ≡ 0 → is_some (out-ListedExpr x).comma ≡ false → single_of (each view_listed_expr items) ≡ Some (view_expr (out-ListedExpr x).expr.value)
single_without xs items x e zero_long h = single_alone xs items x e zero_long (not_found (out-ListedExpr x).comma h)
