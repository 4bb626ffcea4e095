-- What the roles of a call are, by what was seen of its parts.
use Rattle.std.proofs.Common.{◌≡◌, refl, sym, ap, ◌∙◌, List, map, Option}
use Rattle.std.specs.Prelude.{Bool, ◌&&◌}
use Rattle.std.specs.Global.{Box, Vec}
use Rattle.go_ast.specs.declared.token.Token.{Token}
use Rattle.go_syntax.specs.declared.exprs.Expr.{Expr}
use Rattle.go_syntax.specs.declared.exprs.Expr.TheVariants as exprs
use Rattle.go_syntax.specs.declared.exprs.ListedExpr.{ListedExpr}
use Rattle.tree_roles.specs.Tokens.{call_marks, in_turn}
use Rattle.tree_roles.specs.Roles.{roles_of_expr, roles_of_listed_expr}
use Rattle.tree_roles.proofs.Forms.{expr_call}

pub call_seen : (form : Expr) (a m l : Bool) (callee : Box Expr) («open» : Token) (arguments : Vec ListedExpr) (ellipsis comma : Option Token) (close : Token) (first : Expr) (list : List ListedExpr) → form ≡ exprs.Call callee «open» arguments ellipsis comma close → a ≡ roles_of_expr first → m ≡ call_marks «open» ellipsis comma close → l ≡ in_turn (map roles_of_listed_expr list) → first ≡ callee.value → list ≡ arguments.items → (a && m && l) ≡ roles_of_expr form
call_seen form a m l callee «open» arguments ellipsis comma close first list is p q r e f =
    ap (λ (x : Bool). x && m && l) (p ∙ ap (λ (x : Expr). roles_of_expr x) e)
    ∙ ap (λ (x : Bool). roles_of_expr callee.value && x && l) q
    ∙ ap (λ (x : Bool). roles_of_expr callee.value && call_marks «open» ellipsis comma close && x) (r ∙ ap (λ (xs : List ListedExpr). in_turn (map roles_of_listed_expr xs)) f)
    ∙ sym (expr_call callee «open» arguments ellipsis comma close)
    ∙ ap (λ (x : Expr). roles_of_expr x) (sym is)
