-- What becomes of calls of `append`.
use Rattle.std.proofs.Common.{◌≡◌, ℕ, zero, suc, refl, sym, ap, ◌∙◌, subst, List, [], ◌∷◌, ◌++◌, length, Bool, true, false}
use Rattle.std.proofs.Common.{Option, Some, None, Result, Ok, Err}
use Rattle.std.specs.Global.{Vec}
use Rattle.std.specs.Option.{option_zip}
use Rattle.std.specs.Prelude.{is_some, ◌||◌}
use Rattle.std.proofs.lemmas.Bool.{false≢true}
use Rattle.go_base.specs.declared.ids.TypeId.{TypeId}
use Rattle.go_base.specs.declared.memory.NoMemory.{NoMemory}
use Rattle.go_tree.specs.declared.exprs.TypedExpr.{TypedExpr}
use Rattle.go_type.specs.Table.{Table}
use Rattle.typed_parts.specs.declared.ground.Ground.{Ground}
use Rattle.typed_parts.specs.declared.meaning.Given.{Given}
use Rattle.typed_parts.specs.Joining.{items_of, only}
use Rattle.typed_parts.specs.Judged.{Broken, Judged, reported}
use Rattle.typed_built_ins.specs.declared.built_ins.BuiltInCall.{BuiltInCall}
use Rattle.typed_built_ins.specs.BuiltIns.{built_in_node}
use Rattle.typed_built_ins.specs.Growing.{IsAppendNode, IsBehind, IsItem, first_type, is_zero, slice_value}
use Rattle.typed_parts.specs.Turning.{Asks, IsThenSoundly, Soundly, Turned, Turns}
use Rattle.typed_built_ins.proofs.Asks.{node_made}
use Rattle.typed_parts.proofs.Turns.{asks, came, nothing, nothing_came, nothing_made, something, then_nothing, then_soundly}
use Rattle.typed_parts.specs.Limits.{Basis}

abbrev pub list_if : {A : Type 0} → List A → Bool → List Broken → Judged (List A)
list_if xs takes broken = record { sound = only (Some xs) takes; broken = broken }

-- a list of which something was asked
pub kept_list : {A B : Type 0} (old mid new : Ground) (v w : Vec A) (takes told : Bool) (broken : List Broken)
    (Next : List A → Basis → Basis → Judged B → Type 0) (result : Result (Option B) NoMemory)
    → told ≡ takes → only (Some v) told ≡ Some w → mid ≡ reported old broken → Turns mid new result (Next w.items)
    → Turns old new result (IsThenSoundly (Asks (λ types. list_if v.items takes broken)) Next)
kept_list old mid new v w takes false broken Next result t e r h = cc
kept_list {A} {B} old mid new v w takes true broken Next result t e r h =
    let same : w ≡ v = cc in
    let here = subst (λ (u : Vec A). Turns mid new result (Next u.items)) same h in
    then_soundly old mid new (Asks (λ (types : Table). list_if v.items takes broken)) Next (Some v.items) v.items result refl
    (asks old mid (λ (types : Table). list_if v.items takes broken) (Some v.items)
    (ap (λ (b : Bool). only (Some v.items) b) t) r)
    here

pub no_list : {A B : Type 0} (old mid : Ground) (v : Vec A) (takes told : Bool) (broken : List Broken)
    (Next : List A → Basis → Basis → Judged B → Type 0) → told ≡ takes → only (Some v) told ≡ None
    → mid ≡ reported old broken
    → Turns old mid (nothing_came {A = B}) (IsThenSoundly (Asks (λ types. list_if v.items takes broken)) Next)
no_list old mid v takes true broken Next t e r = cc
no_list {A} {B} old mid v takes false broken Next t e r =
    then_nothing old mid (Asks (λ (types : Table). list_if v.items takes broken)) Next None refl
    (asks old mid (λ (types : Table). list_if v.items takes broken) None (ap (λ (b : Bool). only (Some v.items) b) t) r)

-- the call itself
append_node : (g : Ground) (call : BuiltInCall) (items : List TypedExpr) (of : TypeId) (v : Vec TypedExpr) (made : TypedExpr)
    → first_type (Some items) ≡ Some of → v.items ≡ items → made ≡ built_in_node call of None v (is_some call.dots)
    → Turns g g (came (Some made)) (IsAppendNode call items)
append_node g call [] of v made f e m = cc
append_node g call (slice ∷ items) of v made f e m =
    let same : of ≡ slice.of = cc in
    node_made g call slice.of None (slice ∷ items) (is_some call.dots) v made e
    (m ∙ ap (λ (o : TypeId). built_in_node call o None v (is_some call.dots)) same)

some_first : {A B : Type 0} → A → Option (A × B) → A
some_first x (Some (one, two)) = one
some_first x None = x

some_second : {A B : Type 0} → B → Option (A × B) → B
some_second y (Some (one, two)) = two
some_second y None = y

-- a pair that is there
pub zip_first : {A B : Type 0} (o : Option A) (p : Option B) (one : A) (two : B) → option_zip o p ≡ Some (one, two)
    → o ≡ Some one
unfolding some_first
zip_first None p one two e = cc
zip_first (Some x) None one two e = cc
zip_first {A} (Some x) (Some y) one two e = ap (λ (z : A). Some z) (ap (some_first x) e)

pub zip_second : {A B : Type 0} (o : Option A) (p : Option B) (one : A) (two : B) → option_zip o p ≡ Some (one, two)
    → p ≡ Some two
unfolding some_second
zip_second None p one two e = cc
zip_second (Some x) None one two e = cc
zip_second {A} {B} (Some x) (Some y) one two e = ap (λ (z : B). Some z) (ap (some_second y) e)

pub append_made : (g : Ground) (call : BuiltInCall) (o : Option (Vec TypedExpr)) (of : TypeId) (v : Vec TypedExpr)
    (made : TypedExpr) → option_zip (first_type (items_of o)) o ≡ Some (of, v)
    → made ≡ built_in_node call of None v (is_some call.dots)
    → Turns g g (came (Some made)) (Soundly (IsAppendNode call) (items_of o))
append_made g call o of v made e m =
    let list_is : o ≡ Some v = zip_second (first_type (items_of o)) o of v e in
    let type_is : first_type (items_of o) ≡ Some of = zip_first (first_type (items_of o)) o of v e in
    let first_is : first_type (Some v.items) ≡ Some of = sym (ap (λ (p : Option (Vec TypedExpr)). first_type (items_of p)) list_is) ∙ type_is in
    something g g (IsAppendNode call) (items_of o) v.items (came (Some made)) (ap items_of list_is)
    (append_node g call v.items of v made first_is refl m)

pub some_is_there : {A : Type 0} (x : A) → Some x ≡ None → ⊥
some_is_there x e = cc

no_type : (g : Ground) (call : BuiltInCall) (items : List TypedExpr) → first_type (Some items) ≡ None
    → Turns g g (nothing_came {A = TypedExpr}) (IsAppendNode call items)
no_type g call [] e = nothing_made {A = TypedExpr} g
no_type g call (slice ∷ items) e = absurd (some_is_there slice.of e)

no_zip : (t : Option TypeId) (w : Vec TypedExpr) → option_zip t (Some w) ≡ None → t ≡ None
no_zip None w e = refl
no_zip (Some first) w e = absurd (some_is_there (first, w) e)

pub append_nothing : (g : Ground) (call : BuiltInCall) (o : Option (Vec TypedExpr))
    → option_zip (first_type (items_of o)) o ≡ None
    → Turns g g (nothing_came {A = TypedExpr}) (Soundly (IsAppendNode call) (items_of o))
append_nothing g call None e = nothing g (IsAppendNode call) None refl
append_nothing g call (Some w) e = no_type g call w.items (no_zip (first_type (Some w.items)) w e)

pub not_first : {A : Type 0} (xs : List A) (x : A) → is_zero (length (xs ++ x ∷ [])) ≡ false
not_first [] x = refl
not_first (y ∷ xs) x = refl

pub item_first : (old : Ground) (call : BuiltInCall) (elem : Option TypeId) (number : ℕ) (x : Option Given)
    (answer : Option TypedExpr) → is_zero number ≡ true → answer ≡ (slice_value x elem).sound
    → Turns old old (came answer) (IsItem call elem number x)
item_first old call elem zero x answer z a = asks old old (λ (types : Table). slice_value x elem) answer a refl
item_first old call elem (suc number) x answer z a = absurd (false≢true z)

pub item_behind : (old new : Ground) (call : BuiltInCall) (elem : Option TypeId) (number : ℕ) (x : Option Given)
    (dots : Bool) (result : Result (Option TypedExpr) NoMemory) → is_zero number ≡ false → dots ≡ is_some call.dots
    → Turns old new result (IsBehind dots elem x) → Turns old new result (IsItem call elem number x)
item_behind old new call elem zero x dots result z d h = absurd (false≢true (sym z))
item_behind old new call elem (suc number) x dots result z d h =
    subst (λ (b : Bool). Turns old new result (IsBehind b elem x)) d h

pub neither : (a b : Bool) → a ≡ false → b ≡ false → (a || b) ≡ false
neither false b e f = f
neither true b e f = cc

pub no_first : {A B : Type 0} (o : Option A) (y : B) → option_zip o (Some y) ≡ None → o ≡ None
no_first None y e = refl
no_first (Some x) y e = absurd (some_is_there (x, y) e)

pub same_some : {A : Type 0} (x y : A) → Some x ≡ Some y → x ≡ y
same_some x y e = cc
