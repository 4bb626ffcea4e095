-- What becomes of rules that may hold types or ask how large they are, and of rules one after another.
use Rattle.std.specs.Prelude.{◌≡◌, ℕ, List, [], ◌∷◌, ◌++◌, length, Option, Some, None, Result, Ok, Err}
use Rattle.std.specs.Option.{option_zip}
use Rattle.go_base.specs.declared.ids.TypeId.{TypeId}
use Rattle.go_type.specs.declared.term.TypeTerm.{TypeTerm}
use Rattle.go_type.specs.Table.{Table, term_at, with_term}
use Rattle.typed_parts.specs.declared.ground.Ground.{Ground}
use Rattle.typed_parts.specs.Joining.{with_last}
use Rattle.typed_parts.specs.Judged.{Judged, fine, reported, unsound}
use Rattle.typed_parts.specs.Limits.{Basis, basis, on_basis}

-- the answer is what a rule makes, with what it stands on before and after: the types, and what is known of their
-- sizes; what it breaks was reported, and of the ground only the basis became another
pub record Turned {A : Type 0} (old new : Ground) (answer : Option A) (Is : Basis → Basis → Judged A → Type 0)
    : Type 0 where
  pub judged : Judged A
  pub is : Is (basis old) (basis new) judged
  pub answers : answer ≡ judged.sound
  pub reports : new ≡ reported (on_basis (basis new) old) judged.broken

-- the same, unless memory ran out
abbrev pub Turns : {A E : Type 0} → Ground → Ground → Result (Option A) E → (Basis → Basis → Judged A → Type 0) → Type 0
Turns old new (Ok answer) Is = Turned old new answer Is
Turns old new (Err error) Is = Unit {0}

-- a rule that changes nothing
abbrev pub Keeps : {A : Type 0} → (Table → Judged A → Type 0) → Basis → Basis → Judged A → Type 0
Keeps Is before after result = (after ≡ before) × Is before.types result

-- a rule that is a function of the types
abbrev pub Asks : {A : Type 0} → (Table → Judged A) → Basis → Basis → Judged A → Type 0
Asks rule before after result = (after ≡ before) × (result ≡ rule before.types)

-- a type is held
pub record IsHeld (term : TypeTerm) (before after : Basis) (result : Judged TypeId) : Type 0 where
  pub id : TypeId
  pub named : term_at after.types id ≡ Some term
  pub held : after ≡ record before { types = with_term term before.types }
  pub whole : result ≡ fine id

-- a rule, and another that is told what it made
pub record IsFollowed {A B : Type 0} (First : Basis → Basis → Judged A → Type 0)
    (Next : Option A → Basis → Basis → Judged B → Type 0) (before after : Basis) (result : Judged B) : Type 0 where
  pub middle : Basis
  pub first : Judged A
  pub next : Judged B
  pub is : First before middle first
  pub goes_on : Next first.sound middle after next
  pub whole : result ≡ record { sound = next.sound; broken = first.broken ++ next.broken }

-- a rule that is asked where something was made, and else nothing is
abbrev pub Soundly : {A B : Type 0} → (A → Basis → Basis → Judged B → Type 0)
    → Option A → Basis → Basis → Judged B → Type 0
Soundly Is (Some x) before after result = Is x before after result
Soundly Is None before after result = (after ≡ before) × (result ≡ unsound)

-- a rule that is asked of what another made
abbrev pub IsThenSoundly : {A B : Type 0} → (Basis → Basis → Judged A → Type 0)
    → (A → Basis → Basis → Judged B → Type 0) → Basis → Basis → Judged B → Type 0
IsThenSoundly First Next before after result = IsFollowed First (Soundly Next) before after result

-- two answers, and what is broken in both
abbrev pub together : {A B : Type 0} → Judged A → Judged B → Judged (A × B)
together one other = record { sound = option_zip one.sound other.sound; broken = one.broken ++ other.broken }

-- a rule that is asked of each of several by its number, in their order; sound where each is
pub data AreEach {A B : Type 0} (Is : ℕ → A → Basis → Basis → Judged B → Type 0) (before : Basis)
    : List A → Basis → Judged (List B) → Type 0 where
  none : AreEach Is before [] before (fine [])
  more : (xs : List A) (x : A) (middle after : Basis) (each : Judged (List B)) (one : Judged B)
      → AreEach Is before xs middle each → Is (length xs) x middle after one
      → AreEach Is before (xs ++ x ∷ []) after
      (record { sound = with_last each.sound one.sound; broken = each.broken ++ one.broken })

abbrev pub IsEach : {A B : Type 0} → (ℕ → A → Basis → Basis → Judged B → Type 0) → List A
    → Basis → Basis → Judged (List B) → Type 0
IsEach Is xs before after result = AreEach Is before xs after result
