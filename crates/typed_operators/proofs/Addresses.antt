-- What becomes of addresses and of pointers.
use Rattle.std.proofs.Common.{◌≡◌, refl, sym, ap, ◌∙◌, subst, Bool, true, false, Option, Some, None, Result, Ok, Err}
use Rattle.std.specs.Bool.{then_some}
use Rattle.std.specs.Option.{option_map}
use Rattle.std.specs.Prelude.{IfOk, if◌then◌else◌}
use Rattle.go_base.specs.declared.ids.TypeId.{TypeId}
use Rattle.go_base.specs.declared.memory.NoMemory.{NoMemory}
use Rattle.go_base.specs.declared.place.Pos.{Pos}
use Rattle.go_tree.specs.declared.exprs.ExprKind.TheVariants.{AddressOf}
use Rattle.go_tree.specs.declared.exprs.TypedExpr.{TypedExpr}
use Rattle.go_type.specs.declared.term.TypeTerm.TheVariants.{Pointer}
use Rattle.go_type.specs.Table.{Table}
use Rattle.typed_parts.specs.declared.ground.Ground.{Ground}
use Rattle.typed_parts.specs.declared.meaning.Meaning.{Meaning}
use Rattle.typed_parts.specs.declared.meaning.Meaning.TheVariants as meaning
use Rattle.typed_parts.specs.declared.meaning.Seen.{Seen}
use Rattle.typed_parts.specs.Joining.{sound}
use Rattle.typed_parts.specs.Judged.{IsFine, Judged, fine}
use Rattle.typed_parts.specs.Limits.{Basis, IsLimited, granted}
use Rattle.typed_parts.specs.Meanings.{type_in, type_meaning, value_meaning}
use Rattle.typed_parts.specs.Turning.{Asks, IsFollowed, IsHeld, IsThenSoundly, Keeps, Soundly, Turned, Turns}
use Rattle.typed_parts.proofs.Told.{was_granted, was_refused}
use Rattle.typed_parts.proofs.Turns.{came, nothing_came, stays, then_nothing, then_soundly}
use Rattle.typed_operators.specs.Addressing.{IsAddress, IsIndirection, IsIndirectionOf, IsPointerType}
use Rattle.typed_operators.specs.Made.{IsOnOne}

abbrev IsFitted : Pos → TypeId → Basis → Basis → Judged TypeId → Type 0
IsFitted at pointer before after result =
    IsThenSoundly (IsLimited at pointer) (λ (fits : Unit {0}). Asks (λ types. fine pointer)) before after result

pub fitted : (mid new : Ground) (at : Pos) (pointer : TypeId) (fits : Bool)
    → Turns {E = NoMemory} mid new (granted (Ok fits)) (IsLimited at pointer)
    → Turned mid new (if fits then Some pointer else None) (IsFitted at pointer)
fitted mid new at pointer true h =
    then_soundly mid new new (IsLimited at pointer) (λ (fits : Unit {0}). Asks (λ (types : Table). fine pointer)) (Some tt) tt (came (Some pointer)) refl h
    (stays new (Asks (λ (types : Table). fine pointer)) pointer (refl, refl))
fitted mid new at pointer false h =
    then_nothing mid new (IsLimited at pointer) (λ (fits : Unit {0}). Asks (λ (types : Table). fine pointer)) None refl h

some_if : (b : Bool) (x : TypeId) → then_some b x ≡ (if b then Some x else None)
some_if true x = refl
some_if false x = refl

pub pointer_made : (old mid new : Ground) (at : Pos) (of pointer : TypeId) (fits : Bool) (made : Option TypeId)
    → Turned old mid (Some pointer) (IsHeld (Pointer of)) → Turns {E = NoMemory} mid new (granted (Ok fits)) (IsLimited at pointer)
    → made ≡ then_some fits pointer → Turned old new made (IsPointerType at of)
pointer_made old mid new at of pointer fits made held h e =
    then_soundly old mid new (IsHeld (Pointer of)) (IsFitted at) (Some pointer) pointer (came made) refl held
    (subst (λ (o : Option TypeId). Turned mid new o (IsFitted at pointer)) (sym (e ∙ some_if fits pointer)) (fitted mid new at pointer fits h))

-- a node of what came
pub node_came : (old mid : Ground) (at : Pos) (expr : TypedExpr) (o : Option TypeId) (pointer : TypeId)
    (made : Result TypedExpr NoMemory) (result : Result (Option TypedExpr) NoMemory)
    → Turned old mid o (IsPointerType at expr.of) → o ≡ Some pointer → IfOk made (IsOnOne at pointer AddressOf expr)
    → result ≡ sound made → Turns old mid result (IsAddress at expr)
node_came old mid at expr o pointer (Err error) result h e i r =
    subst (λ (s : Result (Option TypedExpr) NoMemory). Turns old mid s (IsAddress at expr)) (sym r) tt
node_came old mid at expr o pointer (Ok x) result h e i r =
    then_soundly old mid mid (IsPointerType at expr.of) (λ (p : TypeId). Keeps (λ (types : Table). IsFine (IsOnOne at p AddressOf expr))) o pointer result e h
    (subst (λ (s : Result (Option TypedExpr) NoMemory). Turns mid mid s (Keeps (λ (types : Table). IsFine (IsOnOne at pointer AddressOf expr)))) (sym r)
    (stays mid (Keeps (λ (types : Table). IsFine (IsOnOne at pointer AddressOf expr))) x (refl, (x, (i, refl)))))

pub no_node : (old mid : Ground) (at : Pos) (expr : TypedExpr) (o : Option TypeId) → o ≡ None
    → Turned old mid o (IsPointerType at expr.of) → Turns old mid (nothing_came {A = TypedExpr}) (IsAddress at expr)
no_node old mid at expr o e h =
    then_nothing old mid (IsPointerType at expr.of) (λ (p : TypeId). Keeps (λ (types : Table). IsFine (IsOnOne at p AddressOf expr))) o e h

-- what something made means
pub meant : {A : Type 0} (old new : Ground) (First : Basis → Basis → Judged A → Type 0) (means : A → Meaning) (o : Option A)
    → Turned old new o First
    → Turned old new (option_map means o) (IsThenSoundly First (λ (x : A). Asks (λ types. fine (means x))))
meant {A} old new First means None h =
    then_nothing old new First (λ (x : A). Asks (λ (types : Table). fine (means x))) None refl h
meant {A} old new First means (Some x) h =
    then_soundly old new new First (λ (y : A). Asks (λ (types : Table). fine (means y))) (Some x) x (came (Some (means x))) refl h
    (stays new (Asks (λ (types : Table). fine (means x))) (means x) (refl, refl))

pub indirection_by : (old new : Ground) (at : Pos) (part : Seen) (of : Option TypeId) (m m' : Option Meaning) → of ≡ type_in part.meaning
    → m ≡ m' → Turned old new m (IsIndirectionOf at part of) → Turned old new m' (IsIndirection at part)
indirection_by old new at part of m m' e same h =
    subst (λ (o : Option Meaning). Turned old new o (IsIndirection at part)) same
    (subst (λ (t : Option TypeId). Turned old new m (IsIndirectionOf at part t)) e h)

pub type_meant : (o : Option TypeId) → option_map meaning.Type o ≡ type_meaning o
type_meant None = refl
type_meant (Some of) = refl

pub value_meant : (o : Option TypedExpr) → option_map meaning.Value o ≡ value_meaning o
value_meant None = refl
value_meant (Some expr) = refl

pub turned_of : {A : Type 0} (old new : Ground) (Is : Basis → Basis → Judged A → Type 0) (result : Result (Option A) NoMemory) (o : Option A)
    → result ≡ Ok o → Turns old new result Is → Turned old new o Is
turned_of {A} old new Is result o e h = subst (λ (r : Result (Option A) NoMemory). Turns old new r Is) e h
