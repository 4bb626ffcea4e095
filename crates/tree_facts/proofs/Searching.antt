-- A search goes on behind what it went over.
use Rattle.std.proofs.Common.{◌≡◌, ℕ, ◌+◌, ◌<◌, refl, sym, ap, ◌∙◌, List, [], ◌∷◌, ◌++◌, length, take, Option, Some, None, Bool, true, false, append_assoc, append-nil}
use Rattle.std.proofs.Math.ListN.{get_or}
use Rattle.std.proofs.lemmas.Grind.{flat_map-append, take_at_read}
use Rattle.std.specs.List.{flat_map}
use Rattle.std.specs.Prelude.{◌||◌, ◌==◌}
use Rattle.std.specs.List.{list_any}
use Rattle.go_base.specs.declared.ids.VarId.{VarId}
use Rattle.tree_facts.specs.Search.{Search, is_found, added, searched}

or_assoc : (a b c : Bool) → (a || b) || c ≡ a || (b || c)
or_assoc true b c = refl
or_assoc false b c = refl

or_false : (a : Bool) → a || false ≡ a
or_false true = refl
or_false false = refl

any_append : (p : VarId → Bool) (xs ys : List VarId) → list_any p (xs ++ ys) ≡ list_any p xs || list_any p ys
any_append p [] ys = refl
any_append p (x ∷ xs) ys = ap (λ (b : Bool). p x || b) (any_append p xs ys) ∙ sym (or_assoc (p x) (list_any p xs) (list_any p ys))

found_append : (w : Option VarId) (xs ys : List VarId) → is_found w (xs ++ ys) ≡ is_found w xs || is_found w ys
found_append None xs ys = refl
found_append (Some v) xs ys = any_append (λ (w : VarId). w.number == v.number) xs ys

added_append : (w : Option VarId) (xs ys : List VarId) → added w (xs ++ ys) ≡ added w xs ++ added w ys
added_append None xs ys = refl
added_append (Some v) xs ys = refl

none_found : (w : Option VarId) → is_found w [] ≡ false
none_found None = refl
none_found (Some v) = refl

none_added : (w : Option VarId) → added w [] ≡ []
none_added None = refl
none_added (Some v) = refl

pub searched_none : (s : Search) → searched s [] ≡ s
unfolding searched
searched_none s = ap (λ (b : Bool). record { wanted = s.wanted; is_met = b; met = s.met ++ added s.wanted [] }) (ap (λ (b : Bool). s.is_met || b) (none_found s.wanted) ∙ or_false s.is_met) ∙ ap (λ (m : List VarId). record { wanted = s.wanted; is_met = s.is_met; met = m }) (ap (λ (m : List VarId). s.met ++ m) (none_added s.wanted) ∙ append-nil s.met)

pub searched_twice : (s : Search) (xs ys : List VarId) → searched (searched s xs) ys ≡ searched s (xs ++ ys)
unfolding searched
searched_twice s xs ys = ap (λ (b : Bool). record { wanted = s.wanted; is_met = b; met = (s.met ++ added s.wanted xs) ++ added s.wanted ys }) (or_assoc s.is_met (is_found s.wanted xs) (is_found s.wanted ys) ∙ ap (λ (b : Bool). s.is_met || b) (sym (found_append s.wanted xs ys))) ∙ ap (λ (m : List VarId). record { wanted = s.wanted; is_met = s.is_met || is_found s.wanted (xs ++ ys); met = m }) (append_assoc s.met (added s.wanted xs) (added s.wanted ys) ∙ ap (λ (m : List VarId). s.met ++ m) (sym (added_append s.wanted xs ys)))

pub wanted_is : (s : Search) (xs : List VarId) → (searched s xs).wanted ≡ s.wanted
unfolding searched
wanted_is s xs = refl

-- one more turn of a loop over a list
pub turn : {A : Type 0} (f : A → List VarId) (s now next : Search) (xs : List A) (i : ℕ) (d x : A) → i < length xs
    → now ≡ searched s (flat_map f (take i xs)) → x ≡ get_or xs i d → next ≡ searched now (f x)
    → next ≡ searched s (flat_map f (take (i + 1) xs))
turn f s now next xs i d x less before is e =
    let longer : take (i + 1) xs ≡ take i xs ++ x ∷ [] = (take_at_read xs i d less).1 ∙ sym (ap (λ y. take i xs ++ y ∷ []) is) in
    e ∙ ap (λ y. searched y (f x)) before ∙ searched_twice s (flat_map f (take i xs)) (f x)
    ∙ ap (searched s) (sym (flat_map-append f (take i xs) (x ∷ []) ∙ ap (λ l. flat_map f (take i xs) ++ l) (append-nil (f x))))
    ∙ ap (λ l. searched s (flat_map f l)) (sym longer)

pub ruleset searches = (append_assoc, append-nil, searched_none, searched_twice, wanted_is)
