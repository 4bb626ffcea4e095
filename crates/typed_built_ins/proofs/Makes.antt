-- What becomes of calls of `make`, and of arguments that are each asked of.
use Rattle.std.proofs.Common.{◌≡◌, refl, sym, ap, ◌∙◌, subst, List, [], ◌∷◌, ◌++◌, map, Bool, true, false, append-nil}
use Rattle.std.proofs.Common.{append_assoc, Option, Some, None, Result, Ok, Err}
use Rattle.std.specs.Global.{Vec}
use Rattle.std.specs.Prelude.{is_some, not}
use Rattle.std.proofs.lemmas.Bool.{false≢true}
use Rattle.go_base.specs.declared.ids.TypeId.{TypeId}
use Rattle.go_base.specs.declared.memory.NoMemory.{NoMemory}
use Rattle.go_base.specs.declared.place.Pos.{Pos}
use Rattle.go_tree.specs.declared.exprs.TypedExpr.{TypedExpr}
use Rattle.go_type.specs.declared.term.TypeTerm.TheVariants.{Pointer}
use Rattle.go_type.specs.Table.{Table}
use Rattle.typed_parts.specs.declared.ground.Ground.{Ground}
use Rattle.typed_parts.specs.declared.meaning.Given.{Given}
use Rattle.typed_parts.specs.declared.meaning.Seen.{Seen}
use Rattle.typed_parts.specs.Judged.{Broken, Judged, reported}
use Rattle.typed_parts.specs.Meanings.{one_value, type_of}
use Rattle.typed_parts.proofs.Reports.{reported_after}
use Rattle.typed_parts.proofs.Told.{was_granted, was_refused}
use Rattle.typed_parts.specs.Joining.{items_of, only}
use Rattle.typed_parts.specs.Numbers.{integer_of}
use Rattle.typed_built_ins.specs.declared.built_ins.BuiltInCall.{BuiltInCall}
use Rattle.typed_built_ins.specs.BuiltIns.{IsCallNode, broken_in, built_in_node, values_in}
use Rattle.typed_built_ins.specs.Making.{Form, IsFormed, IsMadeBy, IsMake, IsNew, IsSize, added, added_broken, asked_form, exceeds, first_at}
use Rattle.typed_built_ins.specs.Making.{form_broken, form_in, formed, is_new, ordered}
use Rattle.typed_parts.specs.Turning.{Asks, IsEach, IsHeld, IsThenSoundly, Turned, Turns}
use Rattle.typed_built_ins.proofs.Asks.{node_made}
use Rattle.typed_parts.proofs.Turns.{asks, came, nothing_came, then_nothing, then_soundly}
use Rattle.typed_parts.specs.Limits.{Basis, IsLimited, granted}

pub values_more : (types : Table) (xs : List Seen) (x : Seen)
    → values_in types (xs ++ x ∷ []) ≡ values_in types xs ++ (one_value types x).sound ∷ []
values_more types [] x = refl
values_more types (y ∷ xs) x = ap (λ (rest : List (Option Given)). (one_value types y).sound ∷ rest) (values_more types xs x)

pub broken_more : (types : Table) (xs : List Seen) (x : Seen)
    → broken_in types (xs ++ x ∷ []) ≡ broken_in types xs ++ (one_value types x).broken
broken_more types [] x = append-nil (one_value types x).broken
broken_more types (y ∷ xs) x =
    ap (λ (rest : List Broken). (one_value types y).broken ++ rest) (broken_more types xs x)
    ∙ sym (append_assoc (one_value types y).broken (broken_in types xs) (one_value types x).broken)

pub form_more : (types : Table) (at : Pos) (xs : List Seen) (x : Seen)
    → form_in types at (xs ++ x ∷ []) ≡ added types (form_in types at xs) x
form_more types at [] x = refl
form_more types at (f ∷ xs) x = ap (λ (sizes : List (Option Given)). form_with f sizes) (values_more types xs x)
  where
    form_with : Seen → List (Option Given) → Form
    form_with part sizes = record { is_written = true; at = part.at; form = (type_of part).sound; sizes = sizes }

pub form_broken_more : (types : Table) (at : Pos) (xs : List Seen) (x : Seen)
    → form_broken types (xs ++ x ∷ []) ≡ form_broken types xs ++ added_broken types (form_in types at xs).is_written x
form_broken_more types at [] x = append-nil (type_of x).broken
form_broken_more types at (f ∷ xs) x =
    ap (λ (rest : List Broken). (type_of f).broken ++ rest) (broken_more types xs x)
    ∙ sym (append_assoc (type_of f).broken (broken_in types xs) (one_value types x).broken)

-- what is broken in one more part
pub reports_more : (old mid new : Ground) (one other all : List Broken) → mid ≡ reported old one → new ≡ reported mid other
    → all ≡ one ++ other → new ≡ reported old all
reports_more old mid new one other all r s e =
    s ∙ (ap (λ (g : Ground). reported g other) r ∙ (reported_after old one other ∙ ap (λ (b : List Broken). reported old b) (sym e)))

pub same_types : (old new : Ground) (broken : List Broken) → new ≡ reported old broken → new.types ≡ old.types
same_types old new broken e = ap (λ (g : Ground). g.types) e

-- ---- make

pub none_if : {A : Type 0} (o : Option A) → is_some o ≡ false → o ≡ None
none_if None e = refl
none_if (Some x) e = absurd (false≢true (sym e))

in_order : (xs : List TypedExpr) (b : Bool) → is_some (only (Some xs) b) ≡ true → only (Some xs) b ≡ Some xs
in_order xs true e = refl
in_order xs false e = absurd (false≢true e)

ordered_stays : (at : Option Pos) (xs : List TypedExpr) → is_some (ordered at xs).sound ≡ true → (ordered at xs).sound ≡ Some xs
ordered_stays None xs e = refl
ordered_stays (Some at) [] e = refl
ordered_stays (Some at) (x ∷ []) e = refl
ordered_stays (Some at) (x ∷ y ∷ []) e = in_order (x ∷ y ∷ []) (not (exceeds (integer_of x) (integer_of y))) e
ordered_stays (Some at) (x ∷ y ∷ z ∷ xs) e = refl

abbrev IsMade : BuiltInCall → TypeId → List TypedExpr → Basis → Basis → Judged TypedExpr → Type 0
IsMade call form these before after result = IsCallNode call form (Some form) these false before after result

orders : (mid last : Ground) (call : BuiltInCall) (form : TypeId) (at : Option Pos) (v w : Vec TypedExpr) (told : Bool)
    (made : TypedExpr) → told ≡ is_some (ordered at v.items).sound → last ≡ reported mid (ordered at v.items).broken
    → only (Some v) told ≡ Some w → made ≡ built_in_node call form (Some form) w false
    → Turns mid last (came (Some made)) (IsThenSoundly (Asks (λ types. ordered at v.items)) (IsMade call form))
orders mid last call form at v w false made t r e m = cc
orders mid last call form at v w true made t r e m =
    let same : w ≡ v = cc in
    then_soundly mid last last (Asks (λ (types : Table). ordered at v.items)) (IsMade call form) (ordered at v.items).sound v.items (came (Some made))
    (ordered_stays at v.items (sym t)) (asks mid last (λ (types : Table). ordered at v.items) (ordered at v.items).sound refl r)
    (node_made last call form (Some form) v.items false w made (ap (λ (u : Vec TypedExpr). u.items) same) m)

pub makes : (old mid last : Ground) (call : BuiltInCall) (form : TypeId) (sizes : List (Option Given))
    (o : Option (Vec TypedExpr)) (v w : Vec TypedExpr) (at : Option Pos) (told : Bool) (made : TypedExpr)
    → Turned old mid (items_of o) (IsEach IsSize sizes) → o ≡ Some v → at ≡ first_at sizes
    → told ≡ is_some (ordered at v.items).sound → last ≡ reported mid (ordered at v.items).broken
    → only (Some v) told ≡ Some w → made ≡ built_in_node call form (Some form) w false
    → Turns old last (came (Some made)) (IsMake call form sizes)
makes old mid last call form sizes o v w at told made h e a t r k m =
    then_soundly old mid last (IsEach IsSize sizes)
    (λ (exprs : List TypedExpr). IsThenSoundly (Asks (λ (types : Table). ordered (first_at sizes) exprs)) (IsMade call form))
    (items_of o) v.items (came (Some made)) (ap items_of e) h
    (subst (λ (b : Option Pos). Turns mid last (came (Some made)) (IsThenSoundly (Asks (λ (types : Table). ordered b v.items)) (IsMade call form))) a
    (orders mid last call form at v w told made t r k m))

disorders : (mid last : Ground) (call : BuiltInCall) (form : TypeId) (at : Option Pos) (v : Vec TypedExpr) (told : Bool)
    → told ≡ is_some (ordered at v.items).sound → last ≡ reported mid (ordered at v.items).broken → only (Some v) told ≡ None
    → Turns mid last (nothing_came {A = TypedExpr}) (IsThenSoundly (Asks (λ types. ordered at v.items)) (IsMade call form))
disorders mid last call form at v true t r e = cc
disorders mid last call form at v false t r e =
    then_nothing mid last (Asks (λ (types : Table). ordered at v.items)) (IsMade call form) (ordered at v.items).sound
    (none_if (ordered at v.items).sound (sym t)) (asks mid last (λ (types : Table). ordered at v.items) (ordered at v.items).sound refl r)

pub makes_nothing : (old mid last : Ground) (call : BuiltInCall) (form : TypeId) (sizes : List (Option Given))
    (o : Option (Vec TypedExpr)) (v : Vec TypedExpr) (at : Option Pos) (told : Bool)
    → Turned old mid (items_of o) (IsEach IsSize sizes) → o ≡ Some v → at ≡ first_at sizes
    → told ≡ is_some (ordered at v.items).sound → last ≡ reported mid (ordered at v.items).broken → only (Some v) told ≡ None
    → Turns old last (nothing_came {A = TypedExpr}) (IsMake call form sizes)
makes_nothing old mid last call form sizes o v at told h e a t r k =
    then_soundly old mid last (IsEach IsSize sizes)
    (λ (exprs : List TypedExpr). IsThenSoundly (Asks (λ (types : Table). ordered (first_at sizes) exprs)) (IsMade call form))
    (items_of o) v.items (nothing_came {A = TypedExpr}) (ap items_of e) h
    (subst (λ (b : Option Pos). Turns mid last (nothing_came {A = TypedExpr}) (IsThenSoundly (Asks (λ (types : Table). ordered b v.items)) (IsMade call form))) a
    (disorders mid last call form at v told t r k))

pub no_sizes : (old mid : Ground) (call : BuiltInCall) (form : TypeId) (sizes : List (Option Given))
    (o : Option (Vec TypedExpr)) → Turned old mid (items_of o) (IsEach IsSize sizes) → o ≡ None
    → Turns old mid (nothing_came {A = TypedExpr}) (IsMake call form sizes)
no_sizes old mid call form sizes o h e =
    then_nothing old mid (IsEach IsSize sizes)
    (λ (exprs : List TypedExpr). IsThenSoundly (Asks (λ (types : Table). ordered (first_at sizes) exprs)) (IsMade call form))
    (items_of o) (ap items_of e) h

-- the form of the arguments, and what is asked of it
abbrev IsAsked : BuiltInCall → Form → Basis → Basis → Judged TypedExpr → Type 0
IsAsked call these before after result =
    IsThenSoundly (Asks (λ types. asked_form types call these)) (λ (form : TypeId). IsMadeBy (is_new call.builtin) call form these.sizes) before after result

forms : (old mid new : Ground) (call : BuiltInCall) (arguments : List Seen) (f : Form) (result : Result (Option TypedExpr) NoMemory)
    → f ≡ form_in old.types call.at arguments → mid ≡ reported old (form_broken old.types arguments)
    → Turns mid new result (IsAsked call f) → Turns old new result (IsFormed call arguments)
forms old mid new call arguments f result e r h =
    then_soundly old mid new (Asks (λ (types : Table). formed types call.at arguments)) (IsAsked call) (Some f) f result refl
    (asks old mid (λ (types : Table). formed types call.at arguments) (Some f) (ap (λ (g : Form). Some g) e) r) h

pub forms_made : (old mid last new : Ground) (call : BuiltInCall) (arguments : List Seen) (f : Form) (p : Option TypeId)
    (form : TypeId) (result : Result (Option TypedExpr) NoMemory)
    → f ≡ form_in old.types call.at arguments → mid ≡ reported old (form_broken old.types arguments)
    → p ≡ (asked_form mid.types call f).sound → last ≡ reported mid (asked_form mid.types call f).broken → p ≡ Some form
    → Turns last new result (IsMadeBy (is_new call.builtin) call form f.sizes) → Turns old new result (IsFormed call arguments)
forms_made old mid last new call arguments f p form result e r a b k h =
    forms old mid new call arguments f result e r
    (then_soundly mid last new (Asks (λ (types : Table). asked_form types call f)) (λ (of : TypeId). IsMadeBy (is_new call.builtin) call of f.sizes) p form result k
    (asks mid last (λ (types : Table). asked_form types call f) p a b) h)

pub forms_nothing : (old mid last : Ground) (call : BuiltInCall) (arguments : List Seen) (f : Form) (p : Option TypeId)
    → f ≡ form_in old.types call.at arguments → mid ≡ reported old (form_broken old.types arguments)
    → p ≡ (asked_form mid.types call f).sound → last ≡ reported mid (asked_form mid.types call f).broken → p ≡ None
    → Turns old last (nothing_came {A = TypedExpr}) (IsFormed call arguments)
forms_nothing old mid last call arguments f p e r a b k =
    forms old mid last call arguments f (nothing_came {A = TypedExpr}) e r
    (then_nothing mid last (Asks (λ (types : Table). asked_form types call f)) (λ (of : TypeId). IsMadeBy (is_new call.builtin) call of f.sizes) p k
    (asks mid last (λ (types : Table). asked_form types call f) p a b))

-- ---- new

abbrev IsPlaced : BuiltInCall → TypeId → TypeId → Basis → Basis → Judged TypedExpr → Type 0
IsPlaced call form pointer before after result =
    IsThenSoundly (IsLimited call.at pointer) (λ (fits : Unit {0}). IsCallNode call pointer (Some form) [] false) before after result

pub new_made : (old mid last : Ground) (call : BuiltInCall) (form pointer : TypeId) (fits : Bool) (v : Vec TypedExpr) (made : TypedExpr)
    → Turned old mid (Some pointer) (IsHeld (Pointer form)) → Turns {E = NoMemory} mid last (granted (Ok fits)) (IsLimited call.at pointer)
    → fits ≡ true → v.items ≡ [] → made ≡ built_in_node call pointer (Some form) v false → Turns old last (came (Some made)) (IsNew call form)
new_made old mid last call form pointer fits v made held limits e none m =
    then_soundly old mid last (IsHeld (Pointer form)) (IsPlaced call form) (Some pointer) pointer (came (Some made)) refl held
    (then_soundly mid last last (IsLimited call.at pointer) (λ (fits : Unit {0}). IsCallNode call pointer (Some form) [] false) (Some tt) tt (came (Some made)) refl
    (was_granted mid last (IsLimited call.at pointer) fits e limits)
    (node_made last call pointer (Some form) [] false v made none m))

pub new_refused : (old mid last : Ground) (call : BuiltInCall) (form pointer : TypeId) (fits : Bool)
    → Turned old mid (Some pointer) (IsHeld (Pointer form)) → Turns {E = NoMemory} mid last (granted (Ok fits)) (IsLimited call.at pointer)
    → fits ≡ false → Turns old last (nothing_came {A = TypedExpr}) (IsNew call form)
new_refused old mid last call form pointer fits held limits e =
    then_soundly old mid last (IsHeld (Pointer form)) (IsPlaced call form) (Some pointer) pointer (nothing_came {A = TypedExpr}) refl held
    (then_nothing mid last (IsLimited call.at pointer) (λ (fits : Unit {0}). IsCallNode call pointer (Some form) [] false) None refl
    (was_refused mid last (IsLimited call.at pointer) fits e limits))

pub made_by : (old new : Ground) (call : BuiltInCall) (form : TypeId) (sizes : List (Option Given)) (b told : Bool)
    (result : Result (Option TypedExpr) NoMemory) → told ≡ is_new call.builtin → told ≡ b
    → Turns old new result (IsMadeBy b call form sizes) → Turns old new result (IsMadeBy (is_new call.builtin) call form sizes)
made_by old new call form sizes b told result e f h =
    subst (λ (d : Bool). Turns old new result (IsMadeBy d call form sizes)) (sym f ∙ e) h
