-- What was found of the interfaces that were asked for, one after another.
use Rattle.std.proofs.Common.{◌≡◌, ◌⊎◌, ◌<◌, ◌≤◌, ◌+◌, ◌++◌, ℕ, zero, suc, Bool, true, false, List, [], ◌∷◌, Option, Some, None, inl, inr, refl, sym, ap, ◌∙◌, subst, length, length-append, arith, eq-eqb, append-nil}
use Rattle.std.specs.Prelude.{◌==◌, if◌then◌else◌}
use Rattle.std.specs.List.{AllZip, list_any}
use Rattle.std.proofs.lemmas.Bool.{eqb-true}
use Rattle.go_base.specs.declared.ids.TypeId.{TypeId}
use Rattle.go_tree.specs.declared.program.Program.{Program}
use Rattle.go_type.specs.Same.{same_id}
use Rattle.cg_numbers.specs.Numbered.{IsAt}
use Rattle.cg_numbers.specs.declared.numbers.Numbers.{Numbers}
use Rattle.cg_sets.specs.Implementing.{AreFound, AreImplementers, if_so}
use Rattle.cg_sets.specs.declared.classes.Classes.{Classes}
use Rattle.cg_sets.specs.declared.implementing.Implementing.{Implementing}
use Rattle.cg_sets.proofs.ClassLists.{at_push, at_push_cases}
use Rattle.cg_sets.proofs.Implementers.{place_below}
use Rattle.cg_sets.proofs.Keys.{pushed}
use Rattle.cg_solve.specs.Tables.{row}

-- a row that nothing was put to
other_row : (place k : ℕ) (old new list : List ℕ) → (place ≡ k → ⊥) → new ≡ old ++ if_so (place == k) list → new ≡ old
other_row place k old new list apart e = by (place == k) refl e
  where
    by : (b : Bool) → (place == k) ≡ b → new ≡ old ++ if_so b list → new ≡ old
    by true s h = absurd (apart (eqb-true place k s))
    by false s h = h ∙ append-nil old

this_row : (place : ℕ) (old new list : List ℕ) → old ≡ [] → new ≡ old ++ if_so (place == place) list → new ≡ list
this_row place old new list none e = by (place == place) (eq-eqb place place refl) e
  where
    by : (b : Bool) → b ≡ true → new ≡ old ++ if_so b list → new ≡ list
    by true s h = h ∙ ap (λ (l : List ℕ). l ++ list) none
    by false s h = absurd (cc)

module _ (p : Program) (n : Numbers) (cs : Classes) (old new : Implementing) (interface : TypeId) (list : List ℕ) where
  pub found_more : new.interfaces.keys ≡ old.interfaces.keys ++ interface ∷ [] → ((k : ℕ) → row new.classes k ≡ row old.classes k ++ if_so (length old.interfaces.keys == k) list) → AreImplementers p n cs interface list → AreFound p n cs old → AreFound p n cs new
  found_more keys rows all h = record {
    rows = λ k x at. elim (at_push_cases old.interfaces.keys interface k x (subst (λ (l : List TypeId). IsAt l k x) keys at)) [
      | inl i ↦ (
          let less = place_below old.interfaces.keys k x i in
          let same : row new.classes k ≡ row old.classes k = other_row (length old.interfaces.keys) k (row old.classes k) (row new.classes k) list (λ e. not_place k less e) (rows k) in
          subst (AreImplementers p n cs x) (sym same) (h.rows k x i))
      | inr i ↦ (
          let place = length old.interfaces.keys in
          let here : row new.classes place ≡ list = this_row place (row old.classes place) (row new.classes place) list (h.later place (at_least place)) (rows place) in
          let there : row new.classes k ≡ list = ap (λ (j : ℕ). row new.classes j) i.0 ∙ here in
          subst (AreImplementers p n cs x) (sym there) (subst (λ (t : TypeId). AreImplementers p n cs t list) i.1 all))
    ];
    later = λ k l. (
        let long : length new.interfaces.keys ≡ length (old.interfaces.keys ++ interface ∷ []) = ap (λ (l : List TypeId). length l) keys in
        let more : length (old.interfaces.keys ++ interface ∷ []) ≡ length old.interfaces.keys + 1 = length-append old.interfaces.keys (interface ∷ []) in
        let above = above_place (length new.interfaces.keys) (length old.interfaces.keys) k (long ∙ more) l in
        other_row (length old.interfaces.keys) k (row old.classes k) (row new.classes k) list above.0 (rows k) ∙ h.later k above.1);
  }
    where
      not_place : (k : ℕ) → k < length old.interfaces.keys → length old.interfaces.keys ≡ k → ⊥
      not_place k l e = omega arith

      at_least : (k : ℕ) → k ≤ k
      at_least k = omega arith

      above_place : (a b k : ℕ) → a ≡ b + 1 → a ≤ k → ((b ≡ k → ⊥) × (b ≤ k))
      above_place a b k e l = (λ f. clash a b k e l f, omega arith)
        where
          clash : (a b k : ℕ) → a ≡ b + 1 → a ≤ k → b ≡ k → ⊥
          clash a b k e l f = omega arith

  pub found_place : new.interfaces.keys ≡ old.interfaces.keys ++ interface ∷ [] → IsAt new.interfaces.keys (length old.interfaces.keys) interface
  found_place keys = subst (λ (l : List TypeId). IsAt l (length old.interfaces.keys) interface) (sym keys) (at_push old.interfaces.keys interface)

pub keys_more : (old mid new : List TypeId) (x : TypeId) → mid ≡ old → new ≡ (if list_any (same_id x) mid then mid else mid ++ x ∷ []) → list_any (same_id x) old ≡ false → new ≡ old ++ x ∷ []
keys_more old mid new x e h fresh =
    pushed (list_any (same_id x) mid) mid new x h (ap (list_any (same_id x)) e ∙ fresh) ∙ ap (λ (l : List TypeId). l ++ x ∷ []) e

pub zip_push : {A B : Type 0} (R : A → B → Type 0) (xs : List A) (ys : List B) (x : A) (y : B) → AllZip R xs ys → R x y → AllZip R (xs ++ x ∷ []) (ys ++ y ∷ [])
zip_push R [] [] x y h r = (r, h)
zip_push R [] (z ∷ ys) x y h r = absurd h
zip_push R (w ∷ xs) [] x y h r = absurd h
zip_push R (w ∷ xs) (z ∷ ys) x y h r = (h.0, zip_push R xs ys x y h.1 r)
