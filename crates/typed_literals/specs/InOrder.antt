-- Rules that look at what is known of the elements before.
use Rattle.std.specs.Prelude.{◌≡◌, List, [], ◌∷◌, ◌++◌, Option, Result, Ok, Err}
use Rattle.typed_parts.specs.declared.ground.Ground.{Ground}
use Rattle.typed_parts.specs.Joining.{with_last}
use Rattle.typed_parts.specs.Judged.{Judged, fine, reported}

-- a rule that is asked of each of several in their order, with what is known of those before; sound where each is
pub data AreInOrder {A B C : Type 0} (Is : List C → A → C → Judged B → Type 0)
    : List A → List C → Judged (List B) → Type 0 where
  none : AreInOrder Is [] [] (fine [])
  more : (xs : List A) (x : A) (before : List C) (known : C) (each : Judged (List B)) (one : Judged B)
      → AreInOrder Is xs before each → Is before x known one
      → AreInOrder Is (xs ++ x ∷ []) (before ++ known ∷ [])
      (record { sound = with_last each.sound one.sound; broken = each.broken ++ one.broken })

-- the answer is what a rule makes with what is known of an element from then on, and what it breaks was reported
pub record Taught {B C : Type 0} (old new : Ground) (answer : Option B) (Is : C → Judged B → Type 0)
    (Knows : C → Type 0) : Type 0 where
  pub known : C
  pub judged : Judged B
  pub is : Is known judged
  pub knows : Knows known
  pub answers : answer ≡ judged.sound
  pub reports : new ≡ reported old judged.broken

-- the same, unless memory ran out
abbrev pub Teaches : {B C E : Type 0} → Ground → Ground → Result (Option B) E → (C → Judged B → Type 0)
    → (C → Type 0) → Type 0
Teaches old new (Ok answer) Is Knows = Taught old new answer Is Knows
Teaches old new (Err error) Is Knows = Unit {0}
