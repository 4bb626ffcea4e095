-- Lists whose items are tested one after another.
use Rattle.std.proofs.Common.{◌≡◌, refl, sym, ap, ◌∙◌, ℕ, zero, suc, ◌+◌, ◌<◌, ◌≤◌, List, [], ◌∷◌, ◌++◌, drop, length, get_or, append_assoc, append-nil, arith}
use Rattle.std.proofs.lemmas.Bool.Decides.{nat_tests}
use Rattle.std.proofs.lemmas.List.{at_drop_more, at_drop_all}
use Rattle.std.specs.List.{list_all}
use Rattle.std.specs.Prelude.{Bool, true, false, ◌&&◌, nat_lt}
use Rattle.std.specs.Prelude.{Option, Some, None}
use Rattle.std.specs.Option.{option_map_or}
use Rattle.go_base.specs.declared.ids.TypeId.{TypeId}
use Rattle.go_base.specs.declared.ids.VarId.{VarId}
use Rattle.go_tree.specs.declared.variables.Variable.{Variable}
use Rattle.typed_trees.specs.Around.{Around, variable_at}
use Rattle.typed_trees.specs.Statements.{variable_types}
use Rattle.program_typing.proofs.Both.{and_true}

-- ---- each item by itself

module _ {A : Type 0} (p : A → Bool) where
  at_index : (xs : List A) (i : ℕ) (x d : A) → i < length xs → x ≡ get_or xs i d → list_all p (drop i xs) ≡ p x && list_all p (drop (i + 1) xs)
  at_index xs i x d within is =
      at_drop_more (λ (ys : List A). list_all p ys) xs i d within
      ∙ ap (λ (y : A). list_all p (y ∷ drop (i + 1) xs)) (sym is)

  -- an item that is as it should be leaves the rest
  pub all-kept : (xs : List A) (i : ℕ) (x d : A) (ok whole : Bool) → i < length xs → x ≡ get_or xs i d → ok ≡ p x → ok ≡ true → list_all p (drop i xs) ≡ whole → list_all p (drop (i + 1) xs) ≡ whole
  all-kept xs i x d ok whole within is says fine before =
      ap (λ (b : Bool). b && list_all p (drop (i + 1) xs)) (sym fine ∙ says) ∙ sym (at_index xs i x d within is) ∙ before

  -- one that is not ends the list
  pub all-ended : (xs : List A) (i : ℕ) (x d : A) (ok whole : Bool) → i < length xs → x ≡ get_or xs i d → ok ≡ p x → ok ≡ false → list_all p (drop i xs) ≡ whole → false ≡ whole
  all-ended xs i x d ok whole within is says bad before =
      ap (λ (b : Bool). b && list_all p (drop (i + 1) xs)) (sym bad ∙ says) ∙ sym (at_index xs i x d within is) ∙ before

  pub all-done : (xs : List A) (i : ℕ) (whole : Bool) → length xs ≤ i → list_all p (drop i xs) ≡ whole → true ≡ whole
  all-done xs i whole past before = sym (at_drop_all (λ (ys : List A). list_all p ys) xs i past) ∙ before

-- ---- each item with whether others follow

abbrev is_filled : {A : Type 0} → List A → Bool
is_filled [] = false
is_filled (x ∷ xs) = true

same_test : (n m : ℕ) (a b : Bool) → nat_lt n m ≡ a → nat_lt (suc n) (suc m) ≡ b → a ≡ b
same_test n m true true p q = refl
same_test n m true false p q = grind (arith, nat_tests)
same_test n m false true p q = grind (arith, nat_tests)
same_test n m false false p q = refl

none_behind : (n : ℕ) → false ≡ nat_lt (suc n) 0
none_behind n = grind (arith, nat_tests)

some_behind : (n : ℕ) → true ≡ nat_lt 0 (suc n)
some_behind n = grind (arith, nat_tests)

filled : {A : Type 0} (xs : List A) (n : ℕ) → is_filled (drop n xs) ≡ nat_lt n (length xs)
filled [] zero = refl
filled [] (suc n) = none_behind n
filled (x ∷ xs) zero = some_behind (length xs)
filled (x ∷ xs) (suc n) = filled xs n ∙ same_test n (length xs) _ _ refl refl

-- F tests a list, of which f tests an item
module _ {A : Type 0} (f : A → Bool → Bool) (F : List A → Bool) (none : F [] ≡ true) (one : (x : A) → F (x ∷ []) ≡ f x false)
    (more : (x y : A) (ys : List A) → F (x ∷ (y ∷ ys)) ≡ f x true && F (y ∷ ys)) where
  item : (x : A) (xs : List A) → F (x ∷ xs) ≡ f x (is_filled xs) && F xs
  item x [] = one x ∙ (sym (and_true (f x false)) ∙ ap (λ (b : Bool). f x false && b) (sym none))
  item x (y ∷ ys) = more x y ys

  turn_at : (xs : List A) (i : ℕ) (x d : A) → i < length xs → x ≡ get_or xs i d → F (drop i xs) ≡ f x (nat_lt (i + 1) (length xs)) && F (drop (i + 1) xs)
  turn_at xs i x d within is =
      at_drop_more F xs i d within
      ∙ (ap (λ (y : A). F (y ∷ drop (i + 1) xs)) (sym is)
      ∙ (item x (drop (i + 1) xs) ∙ ap (λ (b : Bool). f x b && F (drop (i + 1) xs)) (filled xs (i + 1))))

  pub turn-kept : (xs : List A) (i : ℕ) (x d : A) (ok whole : Bool) → i < length xs → x ≡ get_or xs i d → ok ≡ f x (nat_lt (i + 1) (length xs)) → ok ≡ true → F (drop i xs) ≡ whole → F (drop (i + 1) xs) ≡ whole
  turn-kept xs i x d ok whole within is says fine before =
      ap (λ (b : Bool). b && F (drop (i + 1) xs)) (sym fine ∙ says) ∙ (sym (turn_at xs i x d within is) ∙ before)

  pub turn-ended : (xs : List A) (i : ℕ) (x d : A) (ok whole : Bool) → i < length xs → x ≡ get_or xs i d → ok ≡ f x (nat_lt (i + 1) (length xs)) → ok ≡ false → F (drop i xs) ≡ whole → false ≡ whole
  turn-ended xs i x d ok whole within is says bad before =
      ap (λ (b : Bool). b && F (drop (i + 1) xs)) (sym bad ∙ says) ∙ (sym (turn_at xs i x d within is) ∙ before)

  pub turn-done : (xs : List A) (i : ℕ) (whole : Bool) → length xs ≤ i → F (drop i xs) ≡ whole → true ≡ whole
  turn-done xs i whole past before = sym none ∙ (sym (at_drop_all F xs i past) ∙ before)

-- ---- lists that are made one after another

variable_type : (o : Option Variable) (types : List TypeId) → option_map_or (λ (it : Variable). it.of ∷ types) o types ≡ option_map_or (λ (it : Variable). it.of ∷ []) o [] ++ types
variable_type None types = refl
variable_type (Some it) types = refl

pub variable_types-more : (a : Around) (id : VarId) (ids : List VarId) → variable_types a (id ∷ ids) ≡ variable_types a (id ∷ []) ++ variable_types a ids
variable_types-more a id ids = variable_type (variable_at a id) (variable_types a ids)

module _ {A B : Type 0} (f : List A → List B) (more : (x : A) (xs : List A) → f (x ∷ xs) ≡ f (x ∷ []) ++ f xs) (none : f [] ≡ []) where
  pub made-kept : (xs : List A) (i : ℕ) (x d : A) (old new whole : List B) → i < length xs → x ≡ get_or xs i d → new ≡ old ++ f (x ∷ []) → old ++ f (drop i xs) ≡ whole → new ++ f (drop (i + 1) xs) ≡ whole
  made-kept xs i x d old new whole within is e before =
      ap (λ (l : List B). l ++ f (drop (i + 1) xs)) e
      ∙ (append_assoc old (f (x ∷ [])) (f (drop (i + 1) xs))
      ∙ (ap (λ (l : List B). old ++ l) (sym (at_drop_more f xs i d within ∙ (ap (λ (y : A). f (y ∷ drop (i + 1) xs)) (sym is) ∙ more x (drop (i + 1) xs))))
      ∙ before))

  pub made-done : (xs : List A) (i : ℕ) (old whole : List B) → length xs ≤ i → old ++ f (drop i xs) ≡ whole → old ≡ whole
  made-done xs i old whole past before =
      sym (append-nil old) ∙ (ap (λ (l : List B). old ++ l) (sym (at_drop_all f xs i past ∙ none)) ∙ before)
