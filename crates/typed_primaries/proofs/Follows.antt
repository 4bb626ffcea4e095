-- What becomes of rules one after another, where one is a function.
use Rattle.std.proofs.Common.{◌≡◌, refl, subst, Option, Some, None, Result, Ok, Err}
use Rattle.std.specs.Prelude.{IfOk}
use Rattle.go_base.specs.declared.memory.NoMemory.{NoMemory}
use Rattle.go_type.specs.Table.{Table}
use Rattle.typed_parts.specs.declared.ground.Ground.{Ground}
use Rattle.typed_parts.specs.Joining.{sound}
use Rattle.typed_parts.specs.Judged.{IsFine, Judged, reported}
use Rattle.typed_parts.specs.Limits.{Basis}
use Rattle.typed_parts.specs.Turning.{Asks, IsFollowed, IsThenSoundly, Keeps, Turned, Turns}
use Rattle.typed_parts.proofs.Turns.{asks, came, followed, nothing_came, stays, then_nothing, then_soundly}

-- a part that came, as what is sound
pub turned_of : {A : Type 0} (old new : Ground) (Is : Basis → Basis → Judged A → Type 0) (came : Result (Option A) NoMemory)
    (answer : Option A) → came ≡ Ok answer → Turns old new came Is → Turned old new answer Is
turned_of {A} old new Is came answer e h = subst (λ (r : Result (Option A) NoMemory). Turns old new r Is) e h

-- a part that came and is sound
pub turned_sound : {A : Type 0} (old new : Ground) (Is : Basis → Basis → Judged A → Type 0) (came : Result A NoMemory)
    (x : A) → came ≡ Ok x → Turns old new (sound came) Is → Turned old new (Some x) Is
turned_sound {A} old new Is came x e h = subst (λ (r : Result A NoMemory). Turns old new (sound r) Is) e h

-- what is made, and breaks no rule
pub fine_stays : {A : Type 0} (old : Ground) (Made : Table → A → Type 0) (made : A) → Made old.types made
    → Turns old old (came (Some made)) (Keeps (λ types. IsFine (Made types)))
fine_stays old Made made is = stays old (Keeps (λ (types : Table). IsFine (Made types))) made (refl, (made, (is, refl)))

pub fine_came : {A : Type 0} (old : Ground) (Made : Table → A → Type 0) (made : Result A NoMemory)
    → IfOk made (Made old.types) → Turns old old (sound made) (Keeps (λ types. IsFine (Made types)))
fine_came old Made (Err error) h = tt
fine_came old Made (Ok made) h = fine_stays old Made made h

-- a rule after one that is a function
pub asks_then : {A B : Type 0} (old mid new : Ground) (rule : Table → Judged A)
    (Next : Option A → Basis → Basis → Judged B → Type 0) (x : Option A) (result : Result (Option B) NoMemory)
    → x ≡ (rule old.types).sound → mid ≡ reported old (rule old.types).broken → Turns mid new result (Next x)
    → Turns old new result (IsFollowed (Asks rule) Next)
asks_then old mid new rule Next x result a r h =
    followed old mid new (Asks rule) Next x result (asks old mid rule x a r) h

pub asks_soundly : {A B : Type 0} (old mid new : Ground) (rule : Table → Judged A)
    (Next : A → Basis → Basis → Judged B → Type 0) (o : Option A) (x : A) (result : Result (Option B) NoMemory)
    → o ≡ (rule old.types).sound → mid ≡ reported old (rule old.types).broken → o ≡ Some x → Turns mid new result (Next x)
    → Turns old new result (IsThenSoundly (Asks rule) Next)
asks_soundly old mid new rule Next o x result a r e h =
    then_soundly old mid new (Asks rule) Next o x result e (asks old mid rule o a r) h

pub asks_nothing : {A B : Type 0} (old mid : Ground) (rule : Table → Judged A)
    (Next : A → Basis → Basis → Judged B → Type 0) (o : Option A)
    → o ≡ (rule old.types).sound → mid ≡ reported old (rule old.types).broken → o ≡ None
    → Turns old mid (nothing_came {A = B}) (IsThenSoundly (Asks rule) Next)
asks_nothing old mid rule Next o a r e = then_nothing old mid (Asks rule) Next o e (asks old mid rule o a r)
