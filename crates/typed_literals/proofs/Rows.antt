-- What becomes of literals of arrays and slices.
use Rattle.std.proofs.Common.{◌≡◌, ℕ, refl, sym, ap, ◌∙◌, subst, List, Bool, true, false}
use Rattle.std.proofs.Common.{Option, Some, None, Result, Ok, Err, ◌⊎◌, inl, inr}
use Rattle.std.specs.Bool.{then_some}
use Rattle.std.specs.Global.{Vec}
use Rattle.go_base.specs.declared.ids.TypeId.{TypeId}
use Rattle.go_base.specs.declared.memory.NoMemory.{NoMemory}
use Rattle.go_base.specs.declared.place.Pos.{Pos}
use Rattle.go_tree.specs.declared.exprs.Elements.TheVariants.{Items}
use Rattle.go_tree.specs.declared.exprs.ItemInit.{ItemInit}
use Rattle.go_tree.specs.declared.exprs.TypedExpr.{TypedExpr}
use Rattle.go_type.specs.declared.term.TypeTerm.TheVariants.{Array}
use Rattle.go_type.specs.Table.{Table}
use Rattle.typed_parts.specs.declared.ground.Ground.{Ground}
use Rattle.typed_parts.specs.Joining.{both}
use Rattle.typed_parts.specs.Judged.{Judged, Outcome, fine, reported}
use Rattle.typed_parts.specs.Limits.{Basis, IsFitting, IsLimited, granted}
use Rattle.typed_parts.specs.Turning.{Asks, IsHeld, IsThenSoundly, Keeps, Turned, Turns}
use Rattle.typed_parts.proofs.Turns.{asks, came, keeps, nothing_came, stays, then_nothing, then_soundly, weaker}
use Rattle.typed_literals.specs.declared.composing.Entry.{Entry}
use Rattle.typed_literals.specs.declared.composing.Literal.{Literal}
use Rattle.typed_literals.specs.declared.composing.LiteralKind.{LiteralKind}
use Rattle.typed_literals.specs.declared.composing.LiteralKind.TheVariants as kinds
use Rattle.typed_literals.specs.Arrays.{AreItems, IsFinished, IsIndexedLiteral, IsItemsNode, IsOpenArray, IsRow, IsRowIf, IsTypeAs}
use Rattle.typed_literals.specs.Arrays.{counted_items, row_literal}
use Rattle.typed_literals.specs.Composing.{IsNode, values_alone, values_broken}

-- ---- types that fit

abbrev IsIfFits : (Basis → Basis → Judged (Unit {0}) → Type 0) → TypeId → Basis → Basis → Judged TypeId → Type 0
IsIfFits Fits of before after result = IsThenSoundly Fits (λ (fits : Unit {0}). Asks (λ types. fine of)) before after result

fitted : (mid new : Ground) (Fits : Basis → Basis → Judged (Unit {0}) → Type 0) (of : TypeId) (fits : Bool)
    → Turns {E = NoMemory} mid new (granted (Ok fits)) Fits → Turned mid new (then_some fits of) (IsIfFits Fits of)
fitted mid new Fits of true h =
    then_soundly mid new new Fits (λ (fits : Unit {0}). Asks (λ (types : Table). fine of)) (Some tt) tt (came (Some of)) refl h
    (stays new (Asks (λ (types : Table). fine of)) of (refl, refl))
fitted mid new Fits of false h =
    then_nothing mid new Fits (λ (fits : Unit {0}). Asks (λ (types : Table). fine of)) None refl h

-- the array type of so many elements
pub array_made : (old mid new : Ground) (at : Pos) (elem : TypeId) (len : ℕ) (array : TypeId) (fits : Bool) (made : Option TypeId)
    → Turned old mid (Some array) (IsHeld (Array len elem)) → Turns {E = NoMemory} mid new (granted (Ok fits)) (IsLimited at array)
    → made ≡ then_some fits array → Turned old new made (IsOpenArray at elem len)
array_made old mid new at elem len array fits made held h e =
    then_soundly old mid new (IsHeld (Array len elem)) (λ (of : TypeId). IsIfFits (IsLimited at of) of) (Some array) array (came made) refl held
    (subst (λ (o : Option TypeId). Turned mid new o (IsIfFits (IsLimited at array) array)) (sym e) (fitted mid new (IsLimited at array) array fits h))

-- the type of a literal by what it is of
type_by : (old new : Ground) (kind of : LiteralKind) (literal : Literal) (elem : TypeId) (len : ℕ) (result : Result (Option TypeId) NoMemory)
    → kind ≡ of → Turns old new result (IsTypeAs of literal elem len) → Turns old new result (IsTypeAs kind literal elem len)
type_by old new kind of literal elem len result e h =
    subst (λ (k : LiteralKind). Turns old new result (IsTypeAs k literal elem len)) (sym e) h

type_stays : (g : Ground) (literal : Literal) → Turned g g (Some literal.of) (Asks (λ types. fine literal.of))
type_stays g literal = stays g (Asks (λ (types : Table). fine literal.of)) literal.of (refl, refl)

pub slice_type : (old new : Ground) (kind : LiteralKind) (literal : Literal) (elem of : TypeId) (len : ℕ) (fits : Bool) (made : Option TypeId)
    → kind ≡ kinds.Slice of → Turns {E = NoMemory} old new (granted (Ok fits)) (IsFitting literal.at elem len)
    → made ≡ then_some fits literal.of → Turned old new made (IsTypeAs kind literal elem len)
slice_type old new kind literal elem of len fits made e h m =
    type_by old new kind (kinds.Slice of) literal elem len (came made) e
    (subst (λ (o : Option TypeId). Turned old new o (IsIfFits (IsFitting literal.at elem len) literal.of)) (sym m)
    (fitted old new (IsFitting literal.at elem len) literal.of fits h))

-- a type that is written, and is asked for its size elsewhere
pub plain_type : (g : Ground) (kind : LiteralKind) (literal : Literal) (elem : TypeId) (len : ℕ)
    → (kind ≡ kinds.Struct) ⊎ (((n : ℕ) × (of : TypeId) × (kind ≡ kinds.Array n of))
    ⊎ ((key : TypeId) × (of : TypeId) × (kind ≡ kinds.Map key of)))
    → Turned g g (Some literal.of) (IsTypeAs kind literal elem len)
plain_type g kind literal elem len (inl e) =
    type_by g g kind kinds.Struct literal elem len (came (Some literal.of)) e (type_stays g literal)
plain_type g kind literal elem len (inr (inl (n, of, e))) =
    type_by g g kind (kinds.Array n of) literal elem len (came (Some literal.of)) e (type_stays g literal)
plain_type g kind literal elem len (inr (inr (key, of, e))) =
    type_by g g kind (kinds.Map key of) literal elem len (came (Some literal.of)) e (type_stays g literal)

-- ---- a literal of a type that came

type_came : {A : Type 0} (came_type : Result (Option TypeId) NoMemory) (v w : A) (of : TypeId) (o : Option (TypeId × A))
    → both came_type (Ok (Some v)) ≡ Ok o → o ≡ Some (of, w) → (came_type ≡ Ok (Some of)) × (v ≡ w)
type_came (Err error) v w of o e s = cc
type_came (Ok None) v w of o e s = cc
type_came {A} (Ok (Some first)) v w of o e s =
    let pair : ◌≡◌ {A = Option (TypeId × A)} (Some (first, v)) (Some (of, w)) = cc in
    let two : ◌≡◌ {A = TypeId × A} (first, v) (of, w) = cc in
    (ap (λ (p : TypeId × A). Ok (Some p.0)) two, ap (λ (p : TypeId × A). p.1) two)

no_type_came : {A : Type 0} (came_type : Result (Option TypeId) NoMemory) (v : A) (o : Option (TypeId × A))
    → both came_type (Ok (Some v)) ≡ Ok o → o ≡ None → came_type ≡ Ok None
no_type_came (Err error) v o e s = cc
no_type_came (Ok None) v o e s = refl
no_type_came {A} (Ok (Some first)) v o e s =
    let pair : ◌≡◌ {A = Option (TypeId × A)} (Some (first, v)) None = cc in
    cc

items_node : (mid new : Ground) (literal : Literal) (of : TypeId) (v : Vec ItemInit) (len : ℕ) (result : Result (Option TypedExpr) NoMemory)
    → Turns mid new result (IsNode literal of (Items v len)) → Turns mid new result (IsItemsNode literal v.items len of)
items_node mid new literal of v len result h =
    weaker mid new (IsNode literal of (Items v len)) (IsItemsNode literal v.items len of) result (λ (one : Judged TypedExpr) is. (v, (refl, is))) h

turned_of : {A : Type 0} (old new : Ground) (Is : Basis → Basis → Judged A → Type 0) (result : Result (Option A) NoMemory) (o : Option A)
    → result ≡ Ok o → Turns old new result Is → Turned old new o Is
turned_of {A} old new Is result o e h = subst (λ (r : Result (Option A) NoMemory). Turns old new r Is) e h

pub finished_by : (old mid new : Ground) (literal : Literal) (elem : TypeId) (v w : Vec ItemInit) (len : ℕ)
    (came_type : Result (Option TypeId) NoMemory) (o : Option (TypeId × Vec ItemInit)) (of : TypeId) (result : Result (Option TypedExpr) NoMemory)
    → Turns old mid came_type (IsTypeAs literal.kind literal elem len) → both came_type (Ok (Some v)) ≡ Ok o → o ≡ Some (of, w)
    → Turns mid new result (IsNode literal of (Items w len)) → Turns old new result (IsFinished literal elem (v.items, len))
finished_by old mid new literal elem v w len came_type o of result h b s go =
    let both_came = type_came came_type v w of o b s in
    then_soundly old mid new (IsTypeAs literal.kind literal elem len) (IsItemsNode literal v.items len) (Some of) of result refl
    (turned_of old mid (IsTypeAs literal.kind literal elem len) came_type (Some of) both_came.0 h)
    (items_node mid new literal of v len result
    (subst (λ (x : Vec ItemInit). Turns mid new result (IsNode literal of (Items x len))) (sym both_came.1) go))

pub finished_nothing : (old mid : Ground) (literal : Literal) (elem : TypeId) (v : Vec ItemInit) (len : ℕ)
    (came_type : Result (Option TypeId) NoMemory) (o : Option (TypeId × Vec ItemInit))
    → Turns old mid came_type (IsTypeAs literal.kind literal elem len) → both came_type (Ok (Some v)) ≡ Ok o → o ≡ None
    → Turns old mid (nothing_came {A = TypedExpr}) (IsFinished literal elem (v.items, len))
finished_nothing old mid literal elem v len came_type o h b s =
    then_nothing old mid (IsTypeAs literal.kind literal elem len) (IsItemsNode literal v.items len) None refl
    (turned_of old mid (IsTypeAs literal.kind literal elem len) came_type None (no_type_came came_type v o b s) h)

-- ---- a literal of its elements

pub row_made : (old mid new : Ground) (literal : Literal) (elem : TypeId) (limit : Option ℕ) (elements : List Entry)
    (o : Option (Vec ItemInit × ℕ)) (v : Vec ItemInit) (len : ℕ) (result : Result (Option TypedExpr) NoMemory)
    → Outcome old mid (counted_items o) (AreItems elem limit elements old.types) → o ≡ Some (v, len)
    → Turns mid new result (IsFinished literal elem (v.items, len)) → Turns old new result (IsRow literal (elem, limit) elements)
row_made old mid new literal elem limit elements o v len result h e go =
    then_soundly old mid new (Keeps (AreItems elem limit elements)) (IsFinished literal elem) (counted_items o) (v.items, len) result (ap counted_items e)
    (keeps old mid (AreItems elem limit elements) (counted_items o) h) go

pub row_nothing : (old mid : Ground) (literal : Literal) (elem : TypeId) (limit : Option ℕ) (elements : List Entry)
    (o : Option (Vec ItemInit × ℕ)) → Outcome old mid (counted_items o) (AreItems elem limit elements old.types) → o ≡ None
    → Turns old mid (nothing_came {A = TypedExpr}) (IsRow literal (elem, limit) elements)
row_nothing old mid literal elem limit elements o h e =
    then_nothing old mid (Keeps (AreItems elem limit elements)) (IsFinished literal elem) (counted_items o) (ap counted_items e)
    (keeps old mid (AreItems elem limit elements) (counted_items o) h)

-- ---- a literal, where its type is sound

pub indexed_by : (old new : Ground) (given : Option Literal) (o : Option (Literal × (TypeId × Option ℕ))) (literal : Literal)
    (row : TypeId × Option ℕ) (elements : List Entry) (result : Result (Option TypedExpr) NoMemory) → o ≡ row_literal given
    → o ≡ Some (literal, row) → Turns old new result (IsRow literal row elements) → Turns old new result (IsIndexedLiteral given elements)
indexed_by old new given o literal row elements result e is h =
    subst (λ (l : Option (Literal × (TypeId × Option ℕ))). Turns old new result (IsRowIf l elements)) (sym is ∙ e) h

pub indexed_unsound : (old new : Ground) (given : Option Literal) (o : Option (Literal × (TypeId × Option ℕ))) (elements : List Entry)
    → o ≡ row_literal given → o ≡ None → new ≡ reported old (values_broken old.types elements)
    → Turns old new (nothing_came {A = TypedExpr}) (IsIndexedLiteral given elements)
indexed_unsound old new given o elements e is r =
    subst (λ (l : Option (Literal × (TypeId × Option ℕ))). Turns old new (nothing_came {A = TypedExpr}) (IsRowIf l elements)) (sym is ∙ e)
    (asks old new (λ (types : Table). values_alone types elements) None refl r)
