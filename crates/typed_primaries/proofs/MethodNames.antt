-- Whether the method set of a type has a method of a name.
use Rattle.std.proofs.Common.{◌≡◌, ◌==◌, Bool, true, false, ◌||◌, List, [], ◌∷◌, ap, sym, subst, refl, ◌∙◌}
use Rattle.std.specs.Prelude.{IsTrue, ◌↔◌}
use Rattle.std.specs.Cmp.{unsigned_Decides}
use Rattle.std.specs.List.{All, Contains, list_any}
use Rattle.std.proofs.lemmas.List.Elements.{All-head, All-tail}
use Rattle.std.proofs.lemmas.List.Folds.{list_any_at}
use Rattle.go_base.specs.declared.ids.TypeId.{TypeId}
use Rattle.go_type.specs.declared.members.Wanted.{Wanted}
use Rattle.go_type.specs.declared.methods.MethodEntry.{MethodEntry}
use Rattle.go_type.specs.MethodSets.{HasEach, HasMember, IsMethod, entry_of, name_of}
use Rattle.go_type.specs.Same.{both, each}
use Rattle.go_type.specs.Selector.{is_wanted}
use Rattle.go_type.specs.Table.{Table}
use Rattle.typed_primaries.specs.declared.selecting.Selected.{Selected}
use Rattle.typed_primaries.specs.Selecting.{HasMethod, wanted}

wanted_itself : (w : Wanted) → is_wanted w w.name w.package ≡ true
wanted_itself w = each _ _ ((unsigned_Decides w.name.number w.name.number).1 refl) ((unsigned_Decides w.package w.package).1 refl)

wanted_is : (w : Wanted) (e : MethodEntry) → is_wanted w e.name e.package ≡ true → name_of e ≡ w
wanted_is w e h =
    let parts = both (w.name.number == e.name.number) _ h in
    sym (λ i. record { name = record { number = (unsigned_Decides w.name.number e.name.number).0 parts.0 i }; «package» = (unsigned_Decides w.package e.package).0 parts.1 i })

module _ (types : Table) (of : TypeId) (it : Selected) where
  abbrev is_it : MethodEntry → Bool
  is_it e = is_wanted (wanted it) e.name e.package

  found : (methods : List MethodEntry) → list_any is_it methods ≡ true → All (IsMethod types of) methods → HasMethod types of it
  found [] h all = cc
  found (e ∷ es) h all = by (is_it e) refl (λ k. found es k (All-tail (IsMethod types of) e es all))
    where
      by : (b : Bool) → is_it e ≡ b → (list_any is_it es ≡ true → HasMethod types of it) → HasMethod types of it
      by true q rest =
          let own = All-head (IsMethod types of) e es all in
          (own.0, subst (λ (w : Wanted). HasMember types of w own.0) (wanted_is (wanted it) e q) own.1.0)
      by false q rest = rest (sym (ap (λ (b : Bool). b || list_any is_it es) q) ∙ h)

  there : (methods : List MethodEntry) → HasEach types of methods → HasMethod types of it → list_any is_it methods ≡ true
  there methods every has =
      let entry : MethodEntry = entry_of (wanted it) has.0 in
      let place : Contains methods entry = every entry (has.0, (has.1, refl)) in
      list_any_at is_it methods place.0 entry place.1 (ap is_it place.2 ∙ wanted_itself (wanted it))

  pub has_by_name : (methods seen : List MethodEntry) (has : Bool) → All (IsMethod types of) methods → HasEach types of methods
      → seen ≡ methods → has ≡ list_any is_it seen → IsTrue has ↔ HasMethod types of it
  has_by_name methods seen has all every s h =
      let e : has ≡ list_any is_it methods = h ∙ ap (λ (entries : List MethodEntry). list_any is_it entries) s in
      (λ (t : IsTrue has). found methods (sym e ∙ t) all, λ (m : HasMethod types of it). e ∙ there methods every m)
