-- What tests tell that tell what is true of types.
use Rattle.std.proofs.Common.{◌≡◌, ℕ, zero, suc, ◌<◌, ◌==◌, Bool, true, false, ◌&&◌, List, [], ◌∷◌, length, get_or, Option, Some, None, IsTrue, ◌↔◌, if◌then◌else◌, refl, sym, ap, subst, ◌∙◌, arith}
use Rattle.std.specs.Cmp.{unsigned_Decides}
use Rattle.std.specs.List.{All, Contains}
use Rattle.std.proofs.lemmas.List.Elements.{All-head, All-tail}
use Rattle.go_base.specs.declared.ids.NameId.{NameId}
use Rattle.go_base.specs.declared.ids.TypeId.{TypeId}
use Rattle.go_type.specs.declared.members.Wanted.{Wanted}
use Rattle.go_type.specs.declared.methods.MethodEntry.{MethodEntry}
use Rattle.go_type.specs.MethodSets.{HasMember, IsMethod, HasEach, name_of, entry_of}
use Rattle.go_type.specs.Same.{both, each}
use Rattle.go_type.specs.Table.{Table}
use Rattle.typed_trees.specs.Tests.{Tests, AreTold, HasMethod}
use Rattle.expr_typing.specs.Telling.{method_in}

pub same_answer : {P : Type 0} (a b : Bool) → IsTrue a ↔ P → IsTrue b ↔ P → a ≡ b
same_answer true b p q = sym (q.1 (p.0 refl))
same_answer false true p q = p.1 (q.0 refl)
same_answer false false p q = refl

some_same : {X : Type 0} (x y : X) → Some x ≡ Some y → x ≡ y
some_same x y h = cc

module _ (types : Table) (of : TypeId) (name : NameId) (owner : ℕ) where
  abbrev wanted : Wanted
  wanted = record { name = name; «package» = owner }

  abbrev is_named : MethodEntry → Bool
  is_named e = (e.name.number == name.number) && (e.«package» == owner)

  named : (e : MethodEntry) → is_named e ≡ true → name_of e ≡ wanted
  named e h =
      let k = both (e.name.number == name.number) _ h in
      λ i. record { name = record { number = (unsigned_Decides e.name.number name.number).0 k.0 i }; «package» = (unsigned_Decides e.«package» owner).0 k.1 i }

  here : (e : MethodEntry) (m : TypeId) → is_named e ≡ true → e.of ≡ m → IsMethod types of e → HasMethod types of name owner m
  here e m h is own = (own.0, (subst (λ (w : Wanted). HasMember types of w own.0) (named e h) own.1.0, sym (ap (λ (x : MethodEntry). x.of) own.1.1) ∙ is))

  first : (e : MethodEntry) (es : List MethodEntry) (b : Bool) → is_named e ≡ b → method_in name owner (e ∷ es) ≡ (if b then Some e.of else method_in name owner es)
  first e es b h = ap (λ c. if c then Some e.of else method_in name owner es) h

  found : (methods : List MethodEntry) (m : TypeId) → method_in name owner methods ≡ Some m → All (IsMethod types of) methods → HasMethod types of name owner m
  found [] m h all = cc
  found (e ∷ es) m h all = by (is_named e) refl (λ k. found es m k (All-tail (IsMethod types of) e es all))
    where
      by : (b : Bool) → is_named e ≡ b → (method_in name owner es ≡ Some m → HasMethod types of name owner m) → HasMethod types of name owner m
      by true q rest = here e m q (some_same e.of m (sym (first e es true q) ∙ h)) (All-head (IsMethod types of) e es all)
      by false q rest = rest (sym (first e es false q) ∙ h)

  missing : (methods : List MethodEntry) (k : ℕ) (e : MethodEntry) → k < length methods → get_or methods k e ≡ e → is_named e ≡ true → method_in name owner methods ≡ None → ⊥
  missing [] k e less at t h = omega arith
  missing (y ∷ ys) zero e less at t h = let q : Some y.of ≡ None = sym (first y ys true (ap is_named at ∙ t)) ∙ h in cc
  missing (y ∷ ys) (suc k) e less at t h = by (is_named y) refl (λ g. missing ys k e (omega arith) at t g)
    where
      by : (b : Bool) → is_named y ≡ b → (method_in name owner ys ≡ None → ⊥) → ⊥
      by true q rest = let r : Some y.of ≡ None = sym (first y ys true q) ∙ h in cc
      by false q rest = rest (sym (first y ys false q) ∙ h)

  pub told_method : (tests : Tests) → AreTold types tests → (methods : List MethodEntry) → All (IsMethod types of) methods → HasEach types of methods
      → method_in name owner methods ≡ tests.method_of of name owner
  told_method tests told methods all every = by (method_in name owner methods) refl
    where
      none : (t : Option TypeId) → tests.method_of of name owner ≡ t → method_in name owner methods ≡ None → t ≡ None
      none (Some m) r q =
          let has : HasMethod types of name owner m = (told.method_of of name owner m).0 r in
          let entry : MethodEntry = entry_of wanted has.0 in
          let place : Contains methods entry = every entry (has.0, (has.1.0, refl)) in
          absurd (missing methods place.0 entry place.1 place.2 (each (name.number == name.number) _ ((unsigned_Decides name.number name.number).1 refl) ((unsigned_Decides owner owner).1 refl)) q)
      none None r q = refl

      by : (t : Option TypeId) → method_in name owner methods ≡ t → method_in name owner methods ≡ tests.method_of of name owner
      by (Some m) q = q ∙ sym ((told.method_of of name owner m).1 (found methods m q all))
      by None q = q ∙ sym (none (tests.method_of of name owner) refl q)
