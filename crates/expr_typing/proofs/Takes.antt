-- What single built-in functions ask of arguments.
use Rattle.std.proofs.Common.{◌≡◌, ◌<◌, ◌≤◌, sym, ap, List, [], ◌∷◌, map, length, get_or, Bool, false, ◌&&◌, arith}
use Rattle.std.specs.List.{list_all}
use Rattle.go_base.specs.declared.ids.TypeId.{TypeId}
use Rattle.go_tree.specs.declared.exprs.TypedExpr.{TypedExpr}
use Rattle.go_type.specs.Same.{same_id}
use Rattle.go_type.specs.declared.operators.Builtin.TheVariants as builtin
use Rattle.typed_trees.specs.Around.{Around, under, is_ordered}
use Rattle.typed_trees.specs.BuiltIns.{gives_nothing, is_cleared, is_closed, deletes, takes}
use Rattle.expr_typing.specs.Trees.{typed_as}
use Rattle.expr_typing.proofs.Lists.{all_of_type}

module _ (a : Around) (of : TypeId) where
  pub clear_one : (xs : List TypedExpr) (x : TypedExpr) → 1 ≤ length xs → length xs < 2 → x ≡ get_or xs 0 x → takes a builtin.Clear false (map typed_as xs) of ≡ is_cleared a (under a x.of) && gives_nothing a of
  clear_one [] x h k e = absurd (omega arith)
  clear_one (y ∷ []) x h k e = ap (λ (z : TypedExpr). is_cleared a (under a z.of) && gives_nothing a of) (sym e)
  clear_one (y ∷ z ∷ xs) x h k e = absurd (omega arith)

  pub close_one : (xs : List TypedExpr) (x : TypedExpr) → 1 ≤ length xs → length xs < 2 → x ≡ get_or xs 0 x → takes a builtin.Close false (map typed_as xs) of ≡ is_closed a (under a x.of) && gives_nothing a of
  close_one [] x h k e = absurd (omega arith)
  close_one (y ∷ []) x h k e = ap (λ (z : TypedExpr). is_closed a (under a z.of) && gives_nothing a of) (sym e)
  close_one (y ∷ z ∷ xs) x h k e = absurd (omega arith)

  pub delete_two : (xs : List TypedExpr) (x y : TypedExpr) → 2 ≤ length xs → length xs < 3 → x ≡ get_or xs 0 x → y ≡ get_or xs 1 y → takes a builtin.Delete false (map typed_as xs) of ≡ deletes a (under a x.of) y.of && gives_nothing a of
  delete_two [] x y h k e g = absurd (omega arith)
  delete_two (v ∷ []) x y h k e g = absurd (omega arith)
  delete_two (v ∷ w ∷ []) x y h k e g = λ i. deletes a (under a (sym e i).of) (sym g i).of && gives_nothing a of
  delete_two (v ∷ w ∷ z ∷ xs) x y h k e g = absurd (omega arith)

  pub max_all : (xs : List TypedExpr) → 1 ≤ length xs → takes a builtin.Max false (map typed_as xs) of ≡ is_ordered a of && list_all (λ x. same_id x.of of) xs
  max_all [] h = absurd (omega arith)
  max_all (x ∷ xs) h = ap (λ (b : Bool). is_ordered a of && b) (all_of_type (x ∷ xs) of)

  pub min_all : (xs : List TypedExpr) → 1 ≤ length xs → takes a builtin.Min false (map typed_as xs) of ≡ is_ordered a of && list_all (λ x. same_id x.of of) xs
  min_all [] h = absurd (omega arith)
  min_all (x ∷ xs) h = ap (λ (b : Bool). is_ordered a of && b) (all_of_type (x ∷ xs) of)
