-- Values without parts.
use Rattle.std.proofs.Common.{◌≡◌, ℕ, refl, ap, sym, subst, ◌∙◌, Bool, true, false, ◌&&◌, Option, Some, None, List, [], ◌∷◌}
use Rattle.std.specs.Prelude.{IsTrue, ◌↔◌, ◌==◌}
use Rattle.std.specs.Cmp.Lexicographic.{pointwise}
use Rattle.std.proofs.Math.Dec.{eqb}
use Rattle.std.proofs.lemmas.Bool.{false≢true, eq-eqb, eqb-true}
use Rattle.go_base.specs.declared.ids.CellId.{CellId}
use Rattle.go_value.specs.declared.address.Pointer.{Pointer}
use Rattle.go_value.specs.declared.values.Value.{Value}
use Rattle.go_value.specs.Values.{Val, value_of}
use Rattle.go_maps.specs.Equality.{same_leaf, same_numbers, same_cell, same_pointer}

pub leaf_is : (a b : Value) (va vb : Val) (same : Bool) → value_of a ≡ va → value_of b ≡ vb → same_leaf va vb ≡ same → same ≡ same_leaf (value_of a) (value_of b)
leaf_is a b va vb same is is' each = sym (ap (λ v. same_leaf v (value_of b)) is ∙ ap (same_leaf va) is' ∙ each)

both : (p q : Bool) → (p && q) ≡ true → (p ≡ true) × (q ≡ true)
both true q is = (refl, is)
both false q is = absurd (false≢true is)

joined : (p q : Bool) → p ≡ true → q ≡ true → (p && q) ≡ true
joined true q is is' = is'
joined false q is is' = absurd (false≢true is)

pub same_if : (known tested : Bool) → (IsTrue known → IsTrue tested) → (IsTrue tested → IsTrue known) → tested ≡ known
same_if true true f g = refl
same_if true false f g = f refl
same_if false true f g = sym (g refl)
same_if false false f g = refl

pub numbers_self : (xs : List ℕ) → same_numbers xs xs ≡ true
numbers_self [] = refl
numbers_self (x ∷ xs) = joined (x == x) (same_numbers xs xs) (eq-eqb x x refl) (numbers_self xs)

pub numbers_same : (xs ys : List ℕ) → same_numbers xs ys ≡ true → xs ≡ ys
numbers_same [] [] is = refl
numbers_same [] (y ∷ ys) is = absurd (false≢true is)
numbers_same (x ∷ xs) [] is = absurd (false≢true is)
numbers_same (x ∷ xs) (y ∷ ys) is =
    let parts = both (x == y) (same_numbers xs ys) is in
    ap (λ z. z ∷ xs) (eqb-true x y parts.0) ∙ ap (λ zs. y ∷ zs) (numbers_same xs ys parts.1)

cell_self : (cell : Option CellId) → same_cell cell cell ≡ true
cell_self None = refl
cell_self (Some cell) = eq-eqb cell.number cell.number refl

cell_same : (a b : Option CellId) → same_cell a b ≡ true → a ≡ b
cell_same None None is = refl
cell_same None (Some b) is = absurd (false≢true is)
cell_same (Some a) None is = absurd (false≢true is)
cell_same (Some a) (Some b) is = ap (λ n. Some (record { number = n })) (eqb-true a.number b.number is)

pub pointer_same : (a b : Pointer) → same_pointer a b ≡ true → a ≡ b
pointer_same a b is =
    let parts = both (same_cell a.cell b.cell) (same_numbers a.path b.path) is in
    ap (λ (c : Option CellId). record a { cell = c }) (cell_same a.cell b.cell parts.0) ∙ ap (λ (p : List ℕ). record b { path = p }) (numbers_same a.path b.path parts.1)

pub pointer_self : (a b : Pointer) → a ≡ b → same_pointer a b ≡ true
pointer_self a b is = subst (λ c. same_pointer a c ≡ true) is (joined (same_cell a.cell a.cell) (same_numbers a.path a.path) (cell_self a.cell) (numbers_self a.path))

pub pointer_is_same : (known : Bool) (a b : Pointer) → (IsTrue known ↔ (a ≡ b)) → same_pointer a b ≡ known
pointer_is_same known a b means = same_if known (same_pointer a b) (λ is. pointer_self a b (means.0 is)) (λ is. means.1 (pointer_same a b is))

pub pointwise_same : (xs ys : List ℕ) → pointwise eqb xs ys ≡ same_numbers xs ys
pointwise_same [] [] = refl
pointwise_same [] (y ∷ ys) = refl
pointwise_same (x ∷ xs) [] = refl
pointwise_same (x ∷ xs) (y ∷ ys) = ap (λ b. (x == y) && b) (pointwise_same xs ys)
