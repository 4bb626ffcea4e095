-- What is gathered of several, of one more; and what is reported in several goes.
use Rattle.std.proofs.Common.{◌≡◌, refl, sym, ap, ◌∙◌, subst, List, [], ◌∷◌, ◌++◌, map, Bool, true, false, append-nil}
use Rattle.std.proofs.Common.{append_assoc, Option, Some}
use Rattle.std.specs.Prelude.{◌||◌, ◌&&◌, fold}
use Rattle.std.specs.List.{flat_map, list_all, list_any}
use Rattle.go_type.specs.Table.{Table}
use Rattle.typed_parts.specs.declared.ground.Ground.{Ground}
use Rattle.typed_parts.specs.Joining.{with_last}
use Rattle.typed_parts.specs.Judged.{Broken, Judged, fine, reported}
use Rattle.typed_parts.proofs.Reports.{reported_after}
use Rattle.typed_literals.specs.InOrder.{AreInOrder, Taught}

pub map_more : {A B : Type 0} (f : A → B) (xs : List A) (x : A) → map f (xs ++ x ∷ []) ≡ map f xs ++ f x ∷ []
map_more f [] x = refl
map_more {A} {B} f (y ∷ xs) x = ap (λ (rest : List B). f y ∷ rest) (map_more f xs x)

pub flat_more : {A B : Type 0} (f : A → List B) (xs : List A) (x : A) → flat_map f (xs ++ x ∷ []) ≡ flat_map f xs ++ f x
flat_more f [] x = append-nil (f x)
flat_more {A} {B} f (y ∷ xs) x =
    ap (λ (rest : List B). f y ++ rest) (flat_more f xs x) ∙ sym (append_assoc (f y) (flat_map f xs) (f x))

and_assoc : (a b c : Bool) → a && (b && c) ≡ (a && b) && c
and_assoc true b c = refl
and_assoc false b c = refl

and_true : (a : Bool) → a && true ≡ a
and_true true = refl
and_true false = refl

pub all_more : {A : Type 0} (p : A → Bool) (xs : List A) (x : A) → list_all p (xs ++ x ∷ []) ≡ list_all p xs && p x
all_more p [] x = and_true (p x)
all_more p (y ∷ xs) x = ap (λ (b : Bool). p y && b) (all_more p xs x) ∙ and_assoc (p y) (list_all p xs) (p x)

or_assoc : (a b c : Bool) → a || (b || c) ≡ (a || b) || c
or_assoc true b c = refl
or_assoc false b c = refl

pub or_false : (a : Bool) → a || false ≡ a
or_false true = refl
or_false false = refl

pub or_swap : (a b : Bool) → a || b ≡ b || a
or_swap true true = refl
or_swap true false = refl
or_swap false true = refl
or_swap false false = refl

pub any_more : {A : Type 0} (p : A → Bool) (xs : List A) (x : A) → list_any p (xs ++ x ∷ []) ≡ list_any p xs || p x
any_more p [] x = or_false (p x)
any_more p (y ∷ xs) x = ap (λ (b : Bool). p y || b) (any_more p xs x) ∙ or_assoc (p y) (list_any p xs) (p x)

-- one more that is not so
pub any_other : {A : Type 0} (p : A → Bool) (xs : List A) (x : A) → p x ≡ false → list_any p (xs ++ x ∷ []) ≡ list_any p xs
any_other p xs x e = any_more p xs x ∙ (ap (λ (b : Bool). list_any p xs || b) e ∙ or_false (list_any p xs))

pub fold_more : {A B : Type 0} (f : B → A → B) (first : B) (xs : List A) (x : A)
    → fold f first (xs ++ x ∷ []) ≡ f (fold f first xs) x
fold_more f first [] x = refl
fold_more f first (y ∷ xs) x = fold_more f (f first y) xs x

-- what is broken in one more part
pub reports_more : (old mid new : Ground) (one other all : List Broken) → mid ≡ reported old one → new ≡ reported mid other
    → all ≡ one ++ other → new ≡ reported old all
reports_more old mid new one other all r s e =
    s ∙ (ap (λ (g : Ground). reported g other) r ∙ (reported_after old one other ∙ ap (λ (b : List Broken). reported old b) (sym e)))

pub same_types : (old new : Ground) (broken : List Broken) → new ≡ reported old broken → new.types ≡ old.types
same_types old new broken e = ap (λ (g : Ground). g.types) e

-- ---- elements in their order

-- what has become of elements so far
pub record SoFar {A B C : Type 0} (old new : Ground) (Is : List C → A → C → Judged B → Type 0) (xs : List A)
    (known : List C) (made : Option (List B)) : Type 0 where
  pub each : Judged (List B)
  pub are : AreInOrder Is xs known each
  pub answers : made ≡ each.sound
  pub reports : new ≡ reported old each.broken

pub so_none : {A B C : Type 0} (old : Ground) (Is : List C → A → C → Judged B → Type 0) (made : List B) → made ≡ []
    → SoFar old old Is [] [] (Some made)
so_none {A} {B} old Is made e =
    record { each = fine []; are = AreInOrder.none; answers = ap (λ (list : List B). Some list) e; reports = refl }

pub so_more : {A B C : Type 0} (old mid new : Ground) (Is : List C → A → C → Judged B → Type 0) (xs : List A) (x : A)
    (before : List C) (known : C) (one : Judged B) (made more : Option (List B)) (answer : Option B)
    → SoFar old mid Is xs before made → Is before x known one → answer ≡ one.sound → new ≡ reported mid one.broken
    → more ≡ with_last made answer → SoFar old new Is (xs ++ x ∷ []) (before ++ known ∷ []) more
so_more {A} {B} old mid new Is xs x before known one made more answer h is a r e = record {
  each = record { sound = with_last h.each.sound one.sound; broken = h.each.broken ++ one.broken };
  are = AreInOrder.more xs x before known h.each one h.are is;
  answers = e ∙ (ap (λ (o : Option (List B)). with_last o answer) h.answers ∙ ap (with_last h.each.sound) a);
  reports = r ∙ (ap (λ (g : Ground). reported g one.broken) h.reports ∙ reported_after old h.each.broken one.broken);
}

-- what is known of elements so far, and what was kept of it
pub record KnownSoFar {A B C : Type 0} (old new : Ground) (Is : Table → List C → A → C → Judged B → Type 0)
    (Kept : List C → Type 0) (xs : List A) (made : Option (List B)) : Type 0 where
  pub known : List C
  pub far : SoFar old new (Is old.types) xs known made
  pub kept : Kept known

pub known_none : {A B C : Type 0} (old : Ground) (Is : Table → List C → A → C → Judged B → Type 0) (Kept : List C → Type 0)
    (made : List B) → made ≡ [] → Kept [] → KnownSoFar old old Is Kept [] (Some made)
known_none old Is Kept made e kept = record { known = []; far = so_none old (Is old.types) made e; kept = kept }

pub known_more : {A B C : Type 0} (old mid new : Ground) (Is : Table → List C → A → C → Judged B → Type 0)
    (Kept Next : List C → Type 0) (xs : List A) (x : A) (made more : Option (List B)) (answer : Option B)
    → KnownSoFar old mid Is Kept xs made
    → ((before : List C) → Kept before → Taught mid new answer (Is mid.types before x) (λ (known : C). Next (before ++ known ∷ [])))
    → more ≡ with_last made answer → KnownSoFar old new Is Next (xs ++ x ∷ []) more
known_more {A} {B} {C} old mid new Is Kept Next xs x made more answer h step e =
    let one = step h.known h.kept in
    record {
      known = h.known ++ one.known ∷ [];
      far = so_more old mid new (Is old.types) xs x h.known one.known one.judged made more answer h.far
          (subst (λ (types : Table). Is types h.known x one.known one.judged) (same_types old mid h.far.each.broken h.far.reports) one.is)
          one.answers one.reports e;
      kept = one.knows;
    }
