-- Two lists side by side, one place after another.
use Rattle.std.proofs.Common.{◌≡◌, ◌<◌, ◌+◌, refl, sym, ap, ◌∙◌, List, [], ◌∷◌, ◌++◌, length, get_or, drop, Option, ℕ, zero, suc, slice_get, add-one, append_assoc, append-nil, ◌≤◌}
use Rattle.std.proofs.lemmas.List.{at_drop_more, drop_all}
use Rattle.go_tree.specs.declared.exprs.TypedExpr.{TypedExpr}
use Rattle.go_type.specs.Table.{Table}
use Rattle.cg_nodes.specs.declared.nodes.Mention.{Mention}
use Rattle.cg_nodes.specs.Places.{each_pair}
use Rattle.cg_nodes.specs.Uses.{Seen, seen_expr, seen_all}
use Rattle.cg_uses.specs.Statements.{uses_in_some}

at_drop : {A : Type 0} (xs : List A) (i : ℕ) → slice_get (drop i xs) 0 ≡ slice_get xs i
at_drop xs zero = refl
at_drop [] (suc i) = refl
at_drop (x ∷ xs) (suc i) = at_drop xs i

drop_suc : {A : Type 0} (xs : List A) (i : ℕ) → drop 1 (drop i xs) ≡ drop (suc i) xs
drop_suc xs zero = refl
drop_suc [] (suc i) = refl
drop_suc (x ∷ xs) (suc i) = drop_suc xs i

module _ {A : Type 0} (f : A → Seen → List Mention) where
  no_pairs : (xs : List A) → each_pair f xs [] ≡ []
  no_pairs [] = refl
  no_pairs (x ∷ xs) = refl

  first_pair : (xs : List A) (y : Seen) (ys : List Seen) → each_pair f xs (y ∷ ys) ≡ uses_in_some (λ (x : A). f x y) (slice_get xs 0) ++ each_pair f (drop 1 xs) ys
  first_pair [] y ys = refl
  first_pair (x ∷ xs) y ys = refl

  -- from a place on, where the second list has it: what stands there, and the pairs behind
  pub pair_step : (xs : List A) (types : Table) (exprs : List TypedExpr) (i : ℕ) (x : TypedExpr) → i < length exprs → x ≡ get_or exprs i x → each_pair f (drop i xs) (seen_all types (drop i exprs)) ≡ uses_in_some (λ (t : A). f t (seen_expr types x)) (slice_get xs i) ++ each_pair f (drop (i + 1) xs) (seen_all types (drop (i + 1) exprs))
  pair_step xs types exprs i x below is =
      at_drop_more (λ (ys : List TypedExpr). each_pair f (drop i xs) (seen_all types ys)) exprs i x below
      ∙ ap (λ (y : TypedExpr). each_pair f (drop i xs) (seen_all types (y ∷ drop (i + 1) exprs))) (sym is)
      ∙ first_pair (drop i xs) (seen_expr types x) (seen_all types (drop (i + 1) exprs))
      ∙ ap (λ (o : Option A). uses_in_some (λ (t : A). f t (seen_expr types x)) o ++ each_pair f (drop 1 (drop i xs)) (seen_all types (drop (i + 1) exprs))) (at_drop xs i)
      ∙ ap (λ (ts : List A). uses_in_some (λ (t : A). f t (seen_expr types x)) (slice_get xs i) ++ each_pair f ts (seen_all types (drop (i + 1) exprs))) (drop_suc xs i ∙ ap (λ (n : ℕ). drop n xs) (sym (add-one i)))

  -- once what stands at a place was added, the rest is as before
  pub pair_kept : (old new whole : List Mention) (xs : List A) (types : Table) (exprs : List TypedExpr) (i : ℕ) (x : TypedExpr) (o : Option A) → i < length exprs → x ≡ get_or exprs i x → o ≡ slice_get xs i → new ≡ old ++ uses_in_some (λ (t : A). f t (seen_expr types x)) o → old ++ each_pair f (drop i xs) (seen_all types (drop i exprs)) ≡ whole → new ++ each_pair f (drop (i + 1) xs) (seen_all types (drop (i + 1) exprs)) ≡ whole
  pair_kept old new whole xs types exprs i x o below is got added kept =
      let step = pair_step xs types exprs i x below is in
      let rest = each_pair f (drop (i + 1) xs) (seen_all types (drop (i + 1) exprs)) in
      ap (λ (ms : List Mention). ms ++ rest) (added ∙ ap (λ (o : Option A). old ++ uses_in_some (λ (t : A). f t (seen_expr types x)) o) got)
      ∙ (append_assoc old (uses_in_some (λ (t : A). f t (seen_expr types x)) (slice_get xs i)) rest ∙ (ap (λ (ms : List Mention). old ++ ms) (sym step) ∙ kept))

  -- behind the end of the second list there is nothing
  pub pairs_done : (out whole : List Mention) (xs : List A) (types : Table) (exprs : List TypedExpr) (i : ℕ) → length exprs ≤ i → out ++ each_pair f (drop i xs) (seen_all types (drop i exprs)) ≡ whole → out ≡ whole
  pairs_done out whole xs types exprs i past kept =
      sym (ap (λ (ys : List TypedExpr). out ++ each_pair f (drop i xs) (seen_all types ys)) (drop_all i exprs past) ∙ (ap (λ (ms : List Mention). out ++ ms) (no_pairs (drop i xs)) ∙ append-nil out)) ∙ kept
