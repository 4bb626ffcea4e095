-- Functions that are written one after another.
use Rattle.std.proofs.Common.{◌≡◌, ℕ, ◌+◌, ◌<◌, Bool, List, [], ◌∷◌, ◌++◌, length, take, get_or, refl, sym, ◌∙◌, ap, subst, append_assoc}
use Rattle.std.specs.List.{flat_map, AllZip}
use Rattle.std.proofs.lemmas.List.{append-nil, take_more}
use Rattle.std.proofs.lemmas.Grind.{flat_map-append}
use Rattle.ssa_ir.specs.declared.code.Function.{Function}
use Rattle.ssa_print.specs.Codes.{IsShown, ShowsFunction, Shows}
use Rattle.ssa_print.specs.Operands.{Setting}

each-more : {A B : Type 0} (R : A → B → Type 0) (xs : List A) (ys : List B) (x : A) (y : B) → AllZip R xs ys → R x y → AllZip R (xs ++ x ∷ []) (ys ++ y ∷ [])
each-more R [] [] x y all r = (r, tt)
each-more R [] (b ∷ ys) x y all r = absurd all
each-more R (a ∷ xs) [] x y all r = absurd all
each-more R (a ∷ xs) (b ∷ ys) x y all r = (all.0, each-more R xs ys x y all.1 r)

module _ (s : Setting) (functions available : Bool) where
  pub shows-more : (list : List Function) (i : ℕ) (f d : Function) (old now later : List ℕ) → i < length list → f ≡ get_or list i d
      → Shows s functions available (take i list) old now → ShowsFunction s functions available f now later
      → Shows s functions available (take (i + 1) list) old later
  shows-more list i f d old now later h e shows one =
      let piece : List ℕ = one.piece in
      let more : take (i + 1) list ≡ take i list ++ f ∷ [] = take_more list i d h ∙ ap (λ g. take i list ++ g ∷ []) (sym e) in
      let all : flat_map (λ p. p) (shows.pieces ++ piece ∷ []) ≡ flat_map (λ p. p) shows.pieces ++ (piece ++ []) = flat_map-append (λ p. p) shows.pieces (piece ∷ []) in
      subst (λ (l : List Function). Shows s functions available l old later) (sym more)
      (record {
        pieces = shows.pieces ++ piece ∷ [];
        each = each-more (IsShown s functions available) (take i list) shows.pieces f piece shows.each one.shown;
        added =
            one.added ∙ ap (λ t. t ++ piece) shows.added ∙ append_assoc old (flat_map (λ p. p) shows.pieces) piece
            ∙ ap (λ t. old ++ t) (ap (λ t. flat_map (λ p. p) shows.pieces ++ t) (sym (append-nil piece)) ∙ sym all);
      })
