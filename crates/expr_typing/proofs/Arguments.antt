-- What a built-in function asks of arguments is asked of their types alone.
use Rattle.std.proofs.Common.{◌≡◌, refl, ap, List, [], ◌∷◌, map, length, suc, Option, Some, None, Bool, true, false, ◌&&◌, ◌||◌}
use Rattle.std.specs.Prelude.{is_none}
use Rattle.std.specs.List.{list_all}
use Rattle.go_base.specs.declared.ids.TypeId.{TypeId}
use Rattle.go_tree.specs.declared.exprs.TypedExpr.{TypedExpr}
use Rattle.go_type.specs.Same.{same_id}
use Rattle.go_type.specs.declared.operators.Builtin.{Builtin}
use Rattle.go_type.specs.declared.operators.Builtin.TheVariants as builtin
use Rattle.go_type.specs.declared.term.TypeTerm.{TypeTerm}
use Rattle.go_type.specs.declared.term.TypeTerm.TheVariants.{Slice}
use Rattle.type_shapes.specs.Shapes.{is_any}
use Rattle.typed_trees.specs.Around.{Around, term, under, has_integers, has_truths, is_ordered}
use Rattle.typed_trees.specs.BuiltIns.{gives_nothing, is_int, is_run_of, appends_to, copies, has_capacity, has_length, is_cleared, is_closed, deletes, takes_sizes, makes, is_printed, takes, fits_built_in}
use Rattle.typed_trees.specs.Nodes.{Seen}

module _ (a : Around) (f g : TypedExpr → Seen) (same : (x : TypedExpr) → (f x).of ≡ (g x).of) where
  all_alike : (p : TypeId → Bool) (xs : List TypedExpr) → list_all (λ (it : Seen). p it.of) (map f xs) ≡ list_all (λ (it : Seen). p it.of) (map g xs)
  all_alike p [] = refl
  all_alike p (x ∷ xs) = λ i. p (same x i) && all_alike p xs i

  printed_alike : (xs : List TypedExpr) → list_all (is_printed a) (map f xs) ≡ list_all (is_printed a) (map g xs)
  printed_alike [] = refl
  printed_alike (x ∷ xs) = λ i. (has_truths a (same x i) || is_ordered a (same x i)) && printed_alike xs i

  count_alike : (xs : List TypedExpr) → length (map f xs) ≡ length (map g xs)
  count_alike [] = refl
  count_alike (x ∷ xs) = ap suc (count_alike xs)

  appends_alike : (t : Option TypeTerm) (spread : Bool) (items : List TypedExpr) → appends_to a t spread (map f items) ≡ appends_to a t spread (map g items)
  appends_alike (Some (Slice elem)) true [] = refl
  appends_alike (Some (Slice elem)) true (m ∷ []) = ap (λ of. is_run_of a (under a of) elem) (same m)
  appends_alike (Some (Slice elem)) true (m ∷ n ∷ items) = refl
  appends_alike (Some (Slice elem)) false items = all_alike (λ of. same_id of elem) items
  appends_alike _ spread items = refl

  takes_alike : (b : Builtin) (spread : Bool) (xs : List TypedExpr) (of : TypeId) → takes a b spread (map f xs) of ≡ takes a b spread (map g xs) of
  takes_alike builtin.Append spread [] of = refl
  takes_alike builtin.Append spread (x ∷ xs) of = λ i. same_id (same x i) of && appends_alike (under a of) spread xs i
  takes_alike builtin.Cap true xs of = refl
  takes_alike builtin.Cap false [] of = refl
  takes_alike builtin.Cap false (x ∷ []) of = λ i. has_capacity a (under a (same x i)) && is_int a of
  takes_alike builtin.Cap false (x ∷ y ∷ xs) of = refl
  takes_alike builtin.Len true xs of = refl
  takes_alike builtin.Len false [] of = refl
  takes_alike builtin.Len false (x ∷ []) of = λ i. has_length a (under a (same x i)) && is_int a of
  takes_alike builtin.Len false (x ∷ y ∷ xs) of = refl
  takes_alike builtin.Clear true xs of = refl
  takes_alike builtin.Clear false [] of = refl
  takes_alike builtin.Clear false (x ∷ []) of = λ i. is_cleared a (under a (same x i)) && gives_nothing a of
  takes_alike builtin.Clear false (x ∷ y ∷ xs) of = refl
  takes_alike builtin.Close true xs of = refl
  takes_alike builtin.Close false [] of = refl
  takes_alike builtin.Close false (x ∷ []) of = λ i. is_closed a (under a (same x i)) && gives_nothing a of
  takes_alike builtin.Close false (x ∷ y ∷ xs) of = refl
  takes_alike builtin.Panic true xs of = refl
  takes_alike builtin.Panic false [] of = refl
  takes_alike builtin.Panic false (x ∷ []) of = λ i. is_any (term a (same x i)) && gives_nothing a of
  takes_alike builtin.Panic false (x ∷ y ∷ xs) of = refl
  takes_alike builtin.Copy true xs of = refl
  takes_alike builtin.Copy false [] of = refl
  takes_alike builtin.Copy false (x ∷ []) of = refl
  takes_alike builtin.Copy false (x ∷ y ∷ []) of = λ i. copies a (under a (same x i)) (same y i) && is_int a of
  takes_alike builtin.Copy false (x ∷ y ∷ z ∷ xs) of = refl
  takes_alike builtin.Delete true xs of = refl
  takes_alike builtin.Delete false [] of = refl
  takes_alike builtin.Delete false (x ∷ []) of = refl
  takes_alike builtin.Delete false (x ∷ y ∷ []) of = λ i. deletes a (under a (same x i)) (same y i) && gives_nothing a of
  takes_alike builtin.Delete false (x ∷ y ∷ z ∷ xs) of = refl
  takes_alike builtin.Max true xs of = refl
  takes_alike builtin.Max false [] of = refl
  takes_alike builtin.Max false (x ∷ xs) of = ap (λ b. is_ordered a of && b) (all_alike (λ it. same_id it of) (x ∷ xs))
  takes_alike builtin.Min true xs of = refl
  takes_alike builtin.Min false [] of = refl
  takes_alike builtin.Min false (x ∷ xs) of = ap (λ b. is_ordered a of && b) (all_alike (λ it. same_id it of) (x ∷ xs))
  takes_alike builtin.Print true xs of = refl
  takes_alike builtin.Print false xs of = ap (λ b. b && gives_nothing a of) (printed_alike xs)
  takes_alike builtin.Println true xs of = refl
  takes_alike builtin.Println false xs of = ap (λ b. b && gives_nothing a of) (printed_alike xs)
  takes_alike builtin.Recover true xs of = refl
  takes_alike builtin.Recover false [] of = refl
  takes_alike builtin.Recover false (x ∷ xs) of = refl
  takes_alike builtin.Make spread xs of = refl
  takes_alike builtin.New spread xs of = refl

  makes_alike : (form : Option TypeId) (xs : List TypedExpr) (of : TypeId) → makes a form (map f xs) of ≡ makes a form (map g xs) of
  makes_alike None xs of = refl
  makes_alike (Some form) xs of = λ i. same_id form of && (takes_sizes a (under a of) (count_alike xs i) && all_alike (has_integers a) xs i)

  pub fits_alike : (b : Builtin) (form : Option TypeId) (spread : Bool) (xs : List TypedExpr) (of : TypeId) → fits_built_in a b form spread (map f xs) of ≡ fits_built_in a b form spread (map g xs) of
  fits_alike builtin.Make form false xs of = makes_alike form xs of
  fits_alike builtin.Make form true xs of = refl
  fits_alike builtin.New form false [] of = refl
  fits_alike builtin.New form false (x ∷ xs) of = refl
  fits_alike builtin.New form true xs of = refl
  fits_alike builtin.Append form spread xs of = ap (λ c. is_none form && c) (takes_alike builtin.Append spread xs of)
  fits_alike builtin.Cap form spread xs of = ap (λ c. is_none form && c) (takes_alike builtin.Cap spread xs of)
  fits_alike builtin.Clear form spread xs of = ap (λ c. is_none form && c) (takes_alike builtin.Clear spread xs of)
  fits_alike builtin.Close form spread xs of = ap (λ c. is_none form && c) (takes_alike builtin.Close spread xs of)
  fits_alike builtin.Copy form spread xs of = ap (λ c. is_none form && c) (takes_alike builtin.Copy spread xs of)
  fits_alike builtin.Delete form spread xs of = ap (λ c. is_none form && c) (takes_alike builtin.Delete spread xs of)
  fits_alike builtin.Len form spread xs of = ap (λ c. is_none form && c) (takes_alike builtin.Len spread xs of)
  fits_alike builtin.Max form spread xs of = ap (λ c. is_none form && c) (takes_alike builtin.Max spread xs of)
  fits_alike builtin.Min form spread xs of = ap (λ c. is_none form && c) (takes_alike builtin.Min spread xs of)
  fits_alike builtin.Panic form spread xs of = ap (λ c. is_none form && c) (takes_alike builtin.Panic spread xs of)
  fits_alike builtin.Print form spread xs of = ap (λ c. is_none form && c) (takes_alike builtin.Print spread xs of)
  fits_alike builtin.Println form spread xs of = ap (λ c. is_none form && c) (takes_alike builtin.Println spread xs of)
  fits_alike builtin.Recover form spread xs of = ap (λ c. is_none form && c) (takes_alike builtin.Recover spread xs of)
