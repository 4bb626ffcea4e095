-- What becomes of literals of structs.
use Rattle.std.proofs.Common.{◌≡◌, ℕ, refl, sym, ap, ◌∙◌, subst, List, [], ◌∷◌, ◌++◌, Bool, true, false}
use Rattle.std.proofs.Common.{Option, Some, None, Result, ◌+◌, ◌<◌, take, length, get_or, arith, length-take}
use Rattle.std.proofs.lemmas.List.{take_more}
use Rattle.std.specs.List.{enumerate_from, flat_map, list_all}
use Rattle.std.specs.Global.{Vec}
use Rattle.std.specs.Option.{option_map, option_zip}
use Rattle.std.specs.Prelude.{is_some, not, ◌&&◌}
use Rattle.go_base.specs.declared.ids.TypeId.{TypeId}
use Rattle.go_base.specs.declared.memory.NoMemory.{NoMemory}
use Rattle.go_tree.specs.declared.exprs.Elements.TheVariants.{Fields}
use Rattle.go_tree.specs.declared.exprs.FieldInit.{FieldInit}
use Rattle.go_tree.specs.declared.exprs.TypedExpr.{TypedExpr}
use Rattle.go_type.specs.declared.term.Field.{Field}
use Rattle.go_type.specs.Table.{Table}
use Rattle.typed_parts.specs.declared.ground.Ground.{Ground}
use Rattle.typed_parts.specs.Joining.{items_of, only}
use Rattle.typed_parts.specs.declared.meaning.Given.{Given}
use Rattle.typed_parts.specs.Adapting.{IsAssignedTo}
use Rattle.typed_parts.specs.Judged.{Comes, IsRest, Judged, Outcome, reported, unsound}
use Rattle.typed_parts.specs.Limits.{Basis}
use Rattle.typed_parts.specs.Turning.{Asks, IsFollowed, Soundly, Turned, Turns}
use Rattle.typed_parts.proofs.Turns.{asks, came, followed, nothing, nothing_came, something, then_soundly, weaker}
use Rattle.typed_literals.specs.declared.composing.FieldEntry.{FieldEntry}
use Rattle.typed_literals.specs.declared.composing.Literal.{Literal}
use Rattle.typed_literals.specs.declared.structs.Element.{Element}
use Rattle.typed_literals.specs.Composing.{IsNode, broken_where}
use Rattle.typed_literals.specs.Structs.{AreFields, AreListed, AreNumbered, AreOfEach, IsFieldsNode, IsStruct, IsStructLiteral, IsValueOf}
use Rattle.typed_literals.specs.Structs.{alike_asked, are_alike, are_open, asked_broken, asked_elements, closed_broken}
use Rattle.typed_literals.specs.Structs.{elements_asked, fields_where, fits_number, is_keyed, number_asked, number_broken}
use Rattle.typed_literals.specs.Structs.{open_asked, struct_of, unlike_broken, values_place}
use Rattle.typed_literals.specs.Structs.{closed_at, init_of, is_alike, is_open, is_open_for}
use Rattle.typed_parts.specs.Shapes.{fields_of}
use Rattle.typed_literals.proofs.Gathering.{all_more, flat_more}

-- ---- pairs that are there

some_first : {A B : Type 0} → A → Option (A × B) → A
some_first x (Some (one, two)) = one
some_first x None = x

some_second : {A B : Type 0} → B → Option (A × B) → B
some_second y (Some (one, two)) = two
some_second y None = y

pub zip_first : {A B : Type 0} (o : Option A) (y : B) (one : A) (two : B) → option_zip o (Some y) ≡ Some (one, two)
    → o ≡ Some one
unfolding some_first
zip_first None y one two e = cc
zip_first {A} (Some x) y one two e = ap (λ (z : A). Some z) (ap (some_first x) e)

pub zip_second : {A B : Type 0} (o : Option A) (y : B) (one : A) (two : B) → option_zip o (Some y) ≡ Some (one, two)
    → y ≡ two
unfolding some_second
zip_second None y one two e = cc
zip_second {A} {B} (Some x) y one two e = ap (some_second y) e

some_is_there : {A : Type 0} (x : A) → Some x ≡ None → ⊥
some_is_there x e = cc

pub zip_nothing : {A B : Type 0} (o : Option A) (y : B) → option_zip o (Some y) ≡ None → o ≡ None
zip_nothing None y e = refl
zip_nothing (Some x) y e = absurd (some_is_there (x, y) e)

-- ---- the literal

pub literal_asked : (old mid new : Ground) (of : ℕ) (entries : List FieldEntry) (literal : Option Literal)
    (elements : List Element) (result : Result (Option TypedExpr) NoMemory)
    → elements ≡ asked_elements old.types entries → mid ≡ reported old (asked_broken old.types entries)
    → Turns mid new result (Soundly (λ (l : Literal). IsStruct of l elements) (struct_of literal))
    → Turns old new result (IsStructLiteral of literal entries)
literal_asked old mid new of entries literal elements result e r h =
    then_soundly old mid new (Asks (λ (types : Table). elements_asked types entries))
    (λ (these : List Element). Soundly (λ (l : Literal). IsStruct of l these) (struct_of literal)) (Some elements) elements result refl
    (asks old mid (λ (types : Table). elements_asked types entries) (Some elements) (ap (λ (es : List Element). Some es) e) r) h

only_told : {A : Type 0} (x : A) (told : Bool) → is_some (only (Some x) told) ≡ told
only_told x true = refl
only_told x false = refl

only_items : {A : Type 0} (o : Option (Vec A)) (told : Bool) (v : Vec A) → only o told ≡ Some v → only (items_of o) told ≡ Some v.items
only_items o true v e = ap items_of e
only_items o false v e = cc

no_items : {A : Type 0} (o : Option (Vec A)) (told : Bool) → only o told ≡ None → only (items_of o) told ≡ None
no_items o true e = ap items_of e
no_items o false e = refl

abbrev IsAfterAlike : ℕ → Literal → List Element → Option (List Element) → Basis → Basis → Judged TypedExpr → Type 0
IsAfterAlike of literal elements alike before after result =
    IsFollowed (AreFields (is_keyed elements) of literal.of elements)
    (λ (fields : Option (List FieldInit)). Soundly (IsFieldsNode literal) (only fields (is_some alike))) before after result

struct_by : (old mid last new : Ground) (of : ℕ) (literal : Literal) (elements : List Element) (told : Bool)
    (fields : Option (List FieldInit)) (result : Result (Option TypedExpr) NoMemory)
    → told ≡ are_alike (is_keyed elements) elements → mid ≡ reported old (unlike_broken (is_keyed elements) elements)
    → Turned mid last fields (AreFields (is_keyed elements) of literal.of elements)
    → Turns last new result (Soundly (IsFieldsNode literal) (only fields told))
    → Turns old new result (IsStruct of literal elements)
struct_by old mid last new of literal elements told fields result t r h go =
    followed old mid new (Asks (λ (types : Table). alike_asked elements)) (IsAfterAlike of literal elements)
    (only (Some elements) told) result
    (asks old mid (λ (types : Table). alike_asked elements) (only (Some elements) told)
    (ap (λ (b : Bool). only (Some elements) b) t) r)
    (followed mid last new (AreFields (is_keyed elements) of literal.of elements)
    (λ (these : Option (List FieldInit)). Soundly (IsFieldsNode literal) (only these (is_some (only (Some elements) told)))) fields result h
    (subst (λ (b : Bool). Turns last new result (Soundly (IsFieldsNode literal) (only fields b))) (sym (only_told elements told)) go))

fields_node : (last new : Ground) (literal : Literal) (v : Vec FieldInit) (result : Result (Option TypedExpr) NoMemory)
    → Turns last new result (IsNode literal literal.of (Fields v)) → Turns last new result (IsFieldsNode literal v.items)
fields_node last new literal v result h =
    weaker last new (IsNode literal literal.of (Fields v)) (IsFieldsNode literal v.items) result (λ (one : Judged TypedExpr) is. (v, (refl, is))) h

pub struct_made : (old mid last new : Ground) (of : ℕ) (literal : Literal) (elements : List Element) (told : Bool)
    (o : Option (Vec FieldInit)) (v : Vec FieldInit) (result : Result (Option TypedExpr) NoMemory)
    → told ≡ are_alike (is_keyed elements) elements → mid ≡ reported old (unlike_broken (is_keyed elements) elements)
    → Turned mid last (items_of o) (AreFields (is_keyed elements) of literal.of elements) → only o told ≡ Some v
    → Turns last new result (IsNode literal literal.of (Fields v))
    → Turns old new result (IsStruct of literal elements)
struct_made old mid last new of literal elements told o v result t r h e go =
    struct_by old mid last new of literal elements told (items_of o) result t r h
    (something last new (IsFieldsNode literal) (only (items_of o) told) v.items result (only_items o told v e)
    (fields_node last new literal v result go))

pub struct_nothing : (old mid last : Ground) (of : ℕ) (literal : Literal) (elements : List Element) (told : Bool)
    (o : Option (Vec FieldInit))
    → told ≡ are_alike (is_keyed elements) elements → mid ≡ reported old (unlike_broken (is_keyed elements) elements)
    → Turned mid last (items_of o) (AreFields (is_keyed elements) of literal.of elements) → only o told ≡ None
    → Turns old last (nothing_came {A = TypedExpr}) (IsStruct of literal elements)
struct_nothing old mid last of literal elements told o t r h e =
    struct_by old mid last last of literal elements told (items_of o) (nothing_came {A = TypedExpr}) t r h
    (nothing last (IsFieldsNode literal) (only (items_of o) told) (no_items o told e))

-- ---- without keys

pub numbered_by : (old mid new : Ground) (of : TypeId) (elements : List Element) (told : Bool)
    (result : Result (Option (List FieldInit)) NoMemory)
    → told ≡ fits_number (fields_of old.types of) elements
    → mid ≡ reported old (number_broken (fits_number (fields_of old.types of) elements) (values_place elements))
    → Turns mid new result (Soundly (AreOfEach of) (only (Some elements) told))
    → Turns old new result (AreNumbered of elements)
numbered_by old mid new of elements told result t r h =
    followed old mid new (Asks (λ (types : Table). number_asked (fields_of types of) elements)) (Soundly (AreOfEach of))
    (only (Some elements) told) result
    (asks old mid (λ (types : Table). number_asked (fields_of types of) elements) (only (Some elements) told)
    (ap (λ (b : Bool). only (Some elements) b) t) r) h

pub vec_kept : {A : Type 0} (v w : Vec A) (told : Bool) → only (Some v) told ≡ Some w → only (Some v.items) told ≡ Some w.items
vec_kept {A} v w true e = let same : v ≡ w = cc in ap (λ (u : Vec A). Some u.items) same
vec_kept v w false e = cc

pub vec_gone : {A : Type 0} (v : Vec A) (told : Bool) → only (Some v) told ≡ None → only (Some v.items) told ≡ None
vec_gone v true e = cc
vec_gone v false e = refl

only_listed : {A : Type 0} (o : Option (Vec A)) (told : Bool) → items_of (only o told) ≡ only (items_of o) told
only_listed o true = refl
only_listed o false = refl

pub listed_by : (old mid last : Ground) (package_id : ℕ) (of : TypeId) (elements : List Element) (told : Bool)
    (o answer : Option (Vec FieldInit))
    → told ≡ are_open (fields_of old.types of) package_id elements
    → mid ≡ reported old (closed_broken (fields_of old.types of) package_id elements)
    → Turned mid last (items_of o) (AreNumbered of elements) → answer ≡ only o told
    → Turns old last (came (items_of answer)) (AreListed package_id of elements)
listed_by old mid last package_id of elements told o answer t r h e =
    followed old mid last (Asks (λ (types : Table). open_asked (fields_of types of) package_id elements))
    (λ (open_ones : Option (List Element)). IsFollowed (AreNumbered of elements)
    (λ (fields : Option (List FieldInit)). Asks (λ (types : Table). fields_where fields (is_some open_ones))))
    (only (Some elements) told) (came (items_of answer))
    (asks old mid (λ (types : Table). open_asked (fields_of types of) package_id elements) (only (Some elements) told)
    (ap (λ (b : Bool). only (Some elements) b) t) r)
    (followed mid last last (AreNumbered of elements)
    (λ (fields : Option (List FieldInit)). Asks (λ (types : Table). fields_where fields (is_some (only (Some elements) told))))
    (items_of o) (came (items_of answer)) h
    (asks last last (λ (types : Table). fields_where (items_of o) (is_some (only (Some elements) told))) (items_of answer)
    (ap items_of e ∙ (only_listed o told ∙ ap (λ (b : Bool). only (items_of o) b) (sym (only_told elements told)))) refl))

-- ---- values of fields

pub value_of : (old new : Ground) (x : Option Given) (field : ℕ) (to : TypeId) (o : Option TypedExpr) (answer : Option FieldInit)
    → Outcome old new o (IsAssignedTo old.types x (Some to)) → answer ≡ option_map (init_of field) o
    → Outcome old new answer (IsValueOf old.types x (field, to))
value_of old new x field to o answer h e = record {
  judged = record { sound = option_map (init_of field) h.judged.sound; broken = h.judged.broken };
  is = (h.judged, (h.is, refl));
  answers = e ∙ ap (option_map (init_of field)) h.answers;
  reports = h.reports;
}

-- ---- what is asked of each

take_next : (all : List Element) (i : ℕ) (x : Element) → i < length all → x ≡ get_or all i x
    → take (i + 1) all ≡ take i all ++ x ∷ []
take_next all i x below is = take_more all i x below ∙ ap (λ (y : Element). take i all ++ y ∷ []) (sym is)

pub next_alike : (keyed : Bool) (all : List Element) (i : ℕ) (x : Element) → i < length all → x ≡ get_or all i x
    → are_alike keyed (take (i + 1) all) ≡ are_alike keyed (take i all) && is_alike keyed x
next_alike keyed all i x below is =
    ap (are_alike keyed) (take_next all i x below is) ∙ all_more (is_alike keyed) (take i all) x

pub next_unlike : (keyed : Bool) (all : List Element) (i : ℕ) (x : Element) → i < length all → x ≡ get_or all i x
    → unlike_broken keyed (take (i + 1) all) ≡ unlike_broken keyed (take i all) ++ broken_where x.at (not (is_alike keyed x))
next_unlike keyed all i x below is =
    ap (unlike_broken keyed) (take_next all i x below is)
    ∙ flat_more (λ (element : Element). broken_where element.at (not (is_alike keyed element))) (take i all) x

enumerate_more : (n : ℕ) (xs : List Element) (x : Element)
    → enumerate_from n (xs ++ x ∷ []) ≡ enumerate_from n xs ++ (n + length xs, x) ∷ []
enumerate_more n [] x = ap (λ (m : ℕ). (m, x) ∷ []) (omega arith)
enumerate_more n (y ∷ xs) x =
    ap (λ (rest : List (ℕ × Element)). (n, y) ∷ rest)
    (enumerate_more (n + 1) xs x ∙ ap (λ (m : ℕ). enumerate_from (n + 1) xs ++ (m, x) ∷ []) (omega arith))

enumerate_next : (all : List Element) (i : ℕ) (x : Element) → i < length all → x ≡ get_or all i x
    → enumerate_from 0 (take (i + 1) all) ≡ enumerate_from 0 (take i all) ++ (i, x) ∷ []
enumerate_next all i x below is =
    ap (λ (l : List Element). enumerate_from 0 l) (take_next all i x below is)
    ∙ (enumerate_more 0 (take i all) x
    ∙ ap (λ (m : ℕ). enumerate_from 0 (take i all) ++ (m, x) ∷ []) (omega (arith, length-take i all)))

pub next_open : (fields : List Field) (of : ℕ) (all : List Element) (i : ℕ) (x : Element) → i < length all → x ≡ get_or all i x
    → are_open fields of (take (i + 1) all) ≡ are_open fields of (take i all) && is_open fields of i
next_open fields of all i x below is =
    ap (list_all (is_open_for fields of)) (enumerate_next all i x below is)
    ∙ all_more (is_open_for fields of) (enumerate_from 0 (take i all)) (i, x)

pub next_closed : (fields : List Field) (of : ℕ) (all : List Element) (i : ℕ) (x : Element) → i < length all → x ≡ get_or all i x
    → closed_broken fields of (take (i + 1) all)
    ≡ closed_broken fields of (take i all) ++ broken_where x.at (not (is_open fields of i))
next_closed fields of all i x below is =
    ap (flat_map (closed_at fields of)) (enumerate_next all i x below is)
    ∙ flat_more (closed_at fields of) (enumerate_from 0 (take i all)) (i, x)

pub listed_made : (old new : Ground) (x : Option Given) (o : Option (ℕ × TypeId)) (place : ℕ × TypeId)
    (result : Result (Option FieldInit) NoMemory) → o ≡ Some place → Comes old new result (IsValueOf old.types x place)
    → Comes old new result (IsRest o (IsValueOf old.types x))
listed_made old new x o place result e h =
    subst (λ (p : Option (ℕ × TypeId)). Comes old new result (IsRest p (IsValueOf old.types x))) (sym e) h

pub listed_nothing : (old : Ground) (x : Option Given) (o : Option (ℕ × TypeId)) → o ≡ None
    → Comes old old (nothing_came {A = FieldInit}) (IsRest o (IsValueOf old.types x))
listed_nothing old x o e =
    subst (λ (p : Option (ℕ × TypeId)). Comes old old (nothing_came {A = FieldInit}) (IsRest p (IsValueOf old.types x))) (sym e)
    (record { judged = unsound; is = refl; answers = refl; reports = refl })
