-- The least of a set, and labels.
use Rattle.std.proofs.Common.{◌≡◌, ◌≢◌, ◌<◌, ◌+◌, ◌∙◌, ℕ, suc, zero, List, [], ◌∷◌, inl, inr, Option, Some, None, length, refl, sym, ap, subst, All, Vec, Global, arith}
use Rattle.std.proofs.Math.ListN.{set}
use Rattle.std.specs.Prelude.{slice_index, slice_index_or, replicate, is_some, true, false}
use Rattle.std.specs.Ordering.{nat_cmp}
use Rattle.std.specs.declared.cmp.Ordering.TheVariants.{Less}
use Rattle.std.proofs.lemmas.Cmp.{ranked}
use Rattle.std.proofs.lemmas.List.Elements.{All-head, All-tail}
use Rattle.go_graph.specs.Graph.{IsAmong}
use Rattle.go_graph.proofs.Lists.{same_or}
use Rattle.init_order.specs.Taking.{AreLabels, HaveOneGroup}

empty_of : {A : Type 0} (xs : List A) → length xs ≡ 0 → xs ≡ []
empty_of [] e = refl
empty_of (x ∷ xs) e = absurd (omega arith)

pub nothing_left : {A : Type 0} (v : Vec A Global) → v.len ≡ 0 → v.items ≡ []
nothing_left v e = empty_of v.items (let ok = v.ok.0 in omega arith)

pub above_all : (step : ℕ) (xs : List ℕ) → All (λ x. nat_cmp step x ≡ Less) xs → (x : ℕ) → IsAmong x xs → step < x
above_all step [] all x h = absurd h
above_all step (y ∷ xs) all x (inl e) = subst (λ z. step < z) (sym e) (ranked step y Less (sym (All-head (λ x. nat_cmp step x ≡ Less) y xs all)))
above_all step (y ∷ xs) all x (inr h) = above_all step xs (All-tail (λ x. nat_cmp step x ≡ Less) y xs all) x h

abbrev none_yet : Option ℕ
none_yet = None

no_label : (n g : ℕ) → slice_index_or (replicate n none_yet) g none_yet ≡ none_yet
no_label zero g = refl
no_label (suc n) zero = refl
no_label (suc n) (suc g) = no_label n g

pub first_labels : (groups : List ℕ) (n : ℕ) (labels : List (Option ℕ)) → labels ≡ replicate n None → AreLabels groups 0 labels
first_labels groups n labels is =
    record {
      there = λ s less. absurd (omega arith);
      back = λ g s h. (let none = ap (λ l. slice_index_or l g None) is ∙ no_label n g in cc);
    }

label_same : (xs : List (Option ℕ)) (i : ℕ) (v : Option ℕ) → i < length xs → slice_index_or (set xs i v) i None ≡ v
label_same [] i v less = absurd (omega arith)
label_same (x ∷ xs) zero v less = refl
label_same (x ∷ xs) (suc i) v less = label_same xs i v (omega arith)

label_other : (xs : List (Option ℕ)) (i j : ℕ) (v : Option ℕ) → j ≢ i → slice_index_or (set xs i v) j None ≡ slice_index_or xs j None
label_other [] i j v differ = refl
label_other (x ∷ xs) zero zero v differ = absurd (differ refl)
label_other (x ∷ xs) zero (suc j) v differ = refl
label_other (x ∷ xs) (suc i) zero v differ = refl
label_other (x ∷ xs) (suc i) (suc j) v differ = label_other xs i j v (λ e. differ (ap suc e))

pub label_more : (groups : List ℕ) (k : ℕ) (labels new : List (Option ℕ)) → AreLabels groups k labels → slice_index groups k < length labels → slice_index_or labels (slice_index groups k) None ≡ None
    → new ≡ set labels (slice_index groups k) (Some k) → AreLabels groups (k + 1) new
label_more groups k labels new was room none is =
    let g = slice_index groups k in
    record {
      there = λ s less. ap (λ l. slice_index_or l (slice_index groups s) None) is ∙ elim (same_or s k) [
        | inl e ↦ ap (λ x. slice_index_or (set labels g (Some k)) (slice_index groups x) None) e ∙ label_same labels g (Some k) room ∙ ap Some (sym e)
        | inr differ ↦ (
            let old = was.there s (omega arith) in
            let apart : slice_index groups s ≢ g = λ e. (let t = ap (λ x. slice_index_or labels x None) e ∙ none in cc) in
            label_other labels g (slice_index groups s) (Some k) apart ∙ old
            )
      ];
      back = λ x s h. elim (same_or x g) [
        | inl e ↦ (
            let at : slice_index_or (set labels g (Some k)) x None ≡ Some k = ap (λ y. slice_index_or (set labels g (Some k)) y None) e ∙ label_same labels g (Some k) room in
            let both : Some s ≡ Some k = sym h ∙ ap (λ l. slice_index_or l x None) is ∙ at in
            let same : s ≡ k = cc in
            (omega arith, ap (slice_index groups) same ∙ sym e)
            )
        | inr differ ↦ (
            let old = was.back x s (sym (label_other labels g x (Some k) differ) ∙ ap (λ l. slice_index_or l x None) (sym is) ∙ h) in
            let less = old.0 in
            (omega arith, old.1)
            )
      ];
    }

pub label_read : (xs : List (Option ℕ)) (i : ℕ) (o : Option ℕ) → i < length xs → o ≡ slice_index_or xs i o → slice_index_or xs i None ≡ o
label_read [] i o less is = absurd (omega arith)
label_read (x ∷ xs) zero o less is = sym is
label_read (x ∷ xs) (suc i) o less is = label_read xs i o (omega arith) is

pub one_group : (groups : List ℕ) (k : ℕ) (labels : List (Option ℕ)) (o : Option ℕ) → AreLabels groups k labels → k < length groups → slice_index groups k < length labels
    → o ≡ slice_index_or labels (slice_index groups k) o → is_some o ≡ true → HaveOneGroup groups
one_group groups k labels None was less room is some = cc
one_group groups k labels (Some t) was less room is some =
    let old = was.back (slice_index groups k) t (label_read labels (slice_index groups k) (Some t) room is) in
    record { s = t; t = k; first = old.0; second = less; one = old.1 }

pub not_some : (o : Option ℕ) → is_some o ≡ false → o ≡ None
not_some None e = refl
not_some (Some t) e = cc
