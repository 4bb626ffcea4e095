-- What becomes of elements with keys, in literals of structs.
use Rattle.std.proofs.Common.{◌≡◌, ℕ, refl, sym, ap, ◌∙◌, subst, List, [], ◌∷◌, ◌++◌, Bool, true, false, cond, take, length}
use Rattle.std.proofs.Common.{Option, Some, None, Result, Ok}
use Rattle.std.specs.Prelude.{not, nat_eq, ◌||◌, if◌then◌else◌, IfOk, OnOk}
use Rattle.std.specs.declared.hash.BuildHasherDefault.{BuildHasherDefault}
use Rattle.std.specs.declared.hash.FoldHasher.{FoldHasher}
use Rattle.indexmap.specs.IndexSet.{IndexSet, contains}
use Rattle.go_base.specs.declared.ids.TypeId.{TypeId}
use Rattle.go_base.specs.declared.memory.NoMemory.{NoMemory}
use Rattle.go_base.specs.declared.place.Pos.{Pos}
use Rattle.go_tree.specs.declared.exprs.FieldInit.{FieldInit}
use Rattle.go_type.specs.declared.term.Field.{Field}
use Rattle.go_type.specs.Table.{Table}
use Rattle.typed_parts.specs.declared.ground.Ground.{Ground}
use Rattle.typed_parts.specs.Joining.{only}
use Rattle.typed_parts.specs.Judged.{Comes, Exactly, Judged, Outcome, reported, unsound}
use Rattle.typed_parts.specs.Limits.{Basis}
use Rattle.typed_parts.specs.Turning.{Keeps, Turned}
use Rattle.typed_parts.proofs.Reports.{reported_after}
use Rattle.typed_parts.proofs.Turns.{keeps}
use Rattle.typed_parts.proofs.Steps.{came, exactly, nothing_came, then_comes, then_nothing}
use Rattle.typed_literals.specs.declared.structs.Element.{Element}
use Rattle.typed_literals.specs.Composing.{broken_where}
use Rattle.typed_literals.specs.Structs.{AreTaken, IsKeyed, IsListed, IsOnce, IsValueOf, found_at, is_again, is_number, key_asked, key_field}
use Rattle.typed_literals.specs.Structs.{once}
use Rattle.typed_parts.specs.Shapes.{fields_of}
use Rattle.typed_literals.proofs.Gathering.{any_more, or_swap, same_types}

not_not : (told again : Bool) → told ≡ not again → not told ≡ again
not_not told true e = ap not e
not_not told false e = ap not e

once_made : (mid last new : Ground) (fields : List Field) (before : List Element) (element : Element) (field : ℕ) (to : TypeId)
    (told : Bool) (value answer : Option FieldInit)
    → told ≡ not (is_again fields before field) → last ≡ reported mid (broken_where element.at (not told))
    → Outcome last new value (IsValueOf last.types element.value (field, to)) → answer ≡ only value told
    → Comes mid new (came answer) (IsOnce mid.types fields before element (field, to))
once_made mid last new fields before element field to told value answer t r v e =
    let again = is_again fields before field in
    let here : last ≡ reported mid (broken_where element.at again) = r ∙ ap (λ (b : Bool). reported mid (broken_where element.at b)) (not_not told again t) in
    record {
      judged = once element.at again v.judged;
      is = (v.judged, (subst (λ (types : Table). IsValueOf types element.value (field, to) v.judged) (same_types mid last (broken_where element.at again) here) v.is, refl));
      answers = e ∙ (ap (λ (o : Option FieldInit). only o told) v.answers ∙ ap (λ (b : Bool). only v.judged.sound b) t);
      reports = v.reports ∙ (ap (λ (g : Ground). reported g v.judged.broken) here ∙ reported_after mid (broken_where element.at again) v.judged.broken);
    }

pub keyed_made : (old mid last new : Ground) (of : TypeId) (before : List Element) (element : Element)
    (found : Option (ℕ × TypeId)) (field : ℕ) (to : TypeId) (told : Bool) (value answer : Option FieldInit)
    → found ≡ (key_asked (fields_of old.types of) element).sound
    → mid ≡ reported old (key_asked (fields_of old.types of) element).broken → found ≡ Some (field, to)
    → told ≡ not (is_again (fields_of old.types of) before field) → last ≡ reported mid (broken_where element.at (not told))
    → Outcome last new value (IsValueOf last.types element.value (field, to)) → answer ≡ only value told
    → Comes old new (came answer) (IsKeyed old.types of before element)
keyed_made old mid last new of before element found field to told value answer a r f t s v e =
    then_comes old mid new (Exactly (key_asked (fields_of old.types of) element))
    (λ (types : Table) (it : ℕ × TypeId). IsOnce types (fields_of old.types of) before element it) found (field, to) (came answer) f
    (exactly old mid (key_asked (fields_of old.types of) element) found a r)
    (once_made mid last new (fields_of old.types of) before element field to told value answer t s v e)

pub keyed_nothing : (old mid : Ground) (of : TypeId) (before : List Element) (element : Element) (found : Option (ℕ × TypeId))
    → found ≡ (key_asked (fields_of old.types of) element).sound
    → mid ≡ reported old (key_asked (fields_of old.types of) element).broken → found ≡ None
    → Comes old mid (nothing_came {A = FieldInit}) (IsKeyed old.types of before element)
keyed_nothing old mid of before element found a r f =
    then_nothing old mid (Exactly (key_asked (fields_of old.types of) element))
    (λ (types : Table) (it : ℕ × TypeId). IsOnce types (fields_of old.types of) before element it) found f
    (exactly old mid (key_asked (fields_of old.types of) element) found a r)

-- ---- which fields are named

sound_key : (at : Pos) (has_key : Bool) (o : Option (ℕ × TypeId))
    → (if has_key then o else None) ≡ (if has_key then found_at at (if has_key then o else None) else unsound).sound
sound_key at true (Some field) = refl
sound_key at true None = refl
sound_key at false o = refl

key_field_is : (fields : List Field) (element : Element) → key_field fields element ≡ (key_asked fields element).sound
key_field_is fields element = sound_key element.at element.has_key _

pub taken_more : (fields : List Field) (before : List Element) (element : Element) (found : Option (ℕ × TypeId)) (field : ℕ)
    (to : TypeId) (old new : IndexSet ℕ (BuildHasherDefault FoldHasher)) → AreTaken fields before old
    → found ≡ (key_asked fields element).sound → found ≡ Some (field, to)
    → ((q : ℕ) → contains nat_eq new q ≡ cond (nat_eq field q) true (contains nat_eq old q))
    → AreTaken fields (before ++ element ∷ []) new
taken_more fields before element found field to old new taken a f updates number =
    let named : is_number number (key_field fields element) ≡ nat_eq field number = ap (is_number number) (key_field_is fields element ∙ (sym a ∙ f)) in
    updates number
    ∙ (either (nat_eq field number) (contains nat_eq old number)
    ∙ (ap (λ (b : Bool). nat_eq field number || b) (taken number)
    ∙ (or_swap (nat_eq field number) (is_again fields before number)
    ∙ (ap (λ (b : Bool). is_again fields before number || b) (sym named)
    ∙ sym (any_more (λ (other : Element). is_number number (key_field fields other)) before element)))))
  where
    either : (a b : Bool) → cond a true b ≡ a || b
    either true b = refl
    either false b = refl

pub taken_same : (fields : List Field) (before : List Element) (element : Element) (found : Option (ℕ × TypeId))
    (taken : IndexSet ℕ (BuildHasherDefault FoldHasher)) → AreTaken fields before taken
    → found ≡ (key_asked fields element).sound → found ≡ None → AreTaken fields (before ++ element ∷ []) taken
taken_same fields before element found taken are a f number =
    let named : is_number number (key_field fields element) ≡ false = ap (is_number number) (key_field_is fields element ∙ (sym a ∙ f)) in
    are number
    ∙ (or_none (is_again fields before number)
    ∙ (ap (λ (b : Bool). is_again fields before number || b) (sym named)
    ∙ sym (any_more (λ (other : Element). is_number number (key_field fields other)) before element)))
  where
    or_none : (a : Bool) → a ≡ a || false
    or_none true = refl
    or_none false = refl

-- ---- what came

pub if_ok : {A : Type 0} (P : A → Type 0) (came : Result A NoMemory) (x : A) → came ≡ Ok x → IfOk came P → P x
if_ok {A} P came x e h = subst (λ (r : Result A NoMemory). IfOk r P) e h

pub on_ok : {A : Type 0} (P : Type 0) (came : Result A NoMemory) (x : A) → came ≡ Ok x → OnOk came P → P
on_ok {A} P came x e h = subst (λ (r : Result A NoMemory). OnOk r P) e h

-- ---- each in turn

abbrev pub IsKeyedAt : TypeId → List Element → ℕ → Element → Basis → Basis → Judged FieldInit → Type 0
IsKeyedAt of elements number element before after result =
    Keeps (λ types. IsKeyed types of (take number elements) element) before after result

take_first : (xs ys : List Element) → take (length xs) (xs ++ ys) ≡ xs
take_first [] ys = refl
take_first (x ∷ xs) ys = ap (λ (l : List Element). x ∷ l) (take_first xs ys)

pub keyed_at : (mid new : Ground) (of : TypeId) (all xs rest : List Element) (x : Element) (answer : Option FieldInit)
    → xs ++ rest ≡ all → Outcome mid new answer (IsKeyed mid.types of xs x)
    → Turned mid new answer (IsKeyedAt of all (length xs) x)
keyed_at mid new of all xs rest x answer e h =
    let before : take (length xs) all ≡ xs = ap (take (length xs)) (sym e) ∙ take_first xs rest in
    keeps mid new (λ (types : Table). IsKeyed types of (take (length xs) all) x) answer
    (subst (λ (l : List Element). Outcome mid new answer (IsKeyed mid.types of l x)) (sym before) h)

pub kept_types : {A : Type 0} (old new : Ground) (answer : Option A) (Is : Judged A → Type 0) → Outcome old new answer Is
    → new.types ≡ old.types
kept_types old new answer Is h = ap (λ (g : Ground). g.types) h.reports

abbrev pub IsListedAt : TypeId → ℕ → Element → Basis → Basis → Judged FieldInit → Type 0
IsListedAt of number element before after result = Keeps (λ types. IsListed types of number element) before after result
