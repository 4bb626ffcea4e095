-- What becomes of lists of values that go to targets.
use Rattle.std.proofs.Common.{◌≡◌, ℕ, ◌==◌, refl, sym, ap, ◌∙◌, subst, Bool, true, false, true≢false, List, [], ◌∷◌, ◌++◌, map, append-nil, append_assoc}
use Rattle.std.proofs.Common.{Option, Some, None, Result, Ok, Err, length}
use Rattle.std.specs.Prelude.{IfOk}
use Rattle.std.specs.Global.{Box, Vec}
use Rattle.std.proofs.Common.{◌+◌, ◌<◌, ◌≤◌, arith, length-append, suc, take}
use Rattle.std.proofs.lemmas.Bool.{eqb-true}
use Rattle.std.specs.Prelude.{get_or}
use Rattle.std.proofs.lemmas.List.{length-take-le, map_more as map_take_more, take_all, take_more}
use Rattle.std.specs.List.{flat_map}
use Rattle.std.specs.Option.{option_map, option_zip}
use Rattle.go_base.specs.declared.ids.TypeId.{TypeId}
use Rattle.go_base.specs.declared.memory.NoMemory.{NoMemory}
use Rattle.go_base.specs.declared.place.Pos.{Pos}
use Rattle.go_tree.specs.declared.exprs.TypedExpr.{TypedExpr}
use Rattle.go_tree.specs.declared.exprs.Callee.TheOpen as layers
use Rattle.go_tree.specs.declared.exprs.Callee.{Callee}
use Rattle.go_tree.specs.declared.exprs.Elements.{Elements}
use Rattle.go_tree.specs.declared.exprs.EntryInit.{EntryInit}
use Rattle.go_tree.specs.declared.exprs.ExprKind.{ExprKind}
use Rattle.go_tree.specs.declared.exprs.FieldInit.{FieldInit}
use Rattle.go_tree.specs.declared.exprs.ItemInit.{ItemInit}
use Rattle.go_tree.specs.declared.exprs.Values.{Values}
use Rattle.go_tree.specs.declared.exprs.Values.TheVariants as values
use Rattle.go_tree.specs.declared.exprs.ExprKind.TheVariants.{PartOf}
use Rattle.go_type.specs.Table.{Table, term_at}
use Rattle.typed_parts.specs.declared.ground.Ground.{Ground}
use Rattle.typed_parts.specs.declared.meaning.Given.{Given}
use Rattle.typed_parts.specs.declared.meaning.Seen.{Seen}
use Rattle.typed_parts.specs.Joining.{beside, items_of, sound, with_last}
use Rattle.typed_parts.specs.Judged.{Broken, Judged, fine, reported, unsound}
use Rattle.typed_parts.specs.Limits.{Basis, basis}
use Rattle.typed_parts.specs.Meanings.{single}
use Rattle.typed_parts.specs.Adapting.{ok_part}
use Rattle.typed_parts.specs.Nodes.{node}
use Rattle.typed_parts.specs.Several.{place_of, several}
use Rattle.typed_parts.specs.Turning.{Asks, IsEach, Turned, Turns}
use Rattle.typed_parts.proofs.Reports.{reported_after}
use Rattle.typed_parts.proofs.Turns.{asks, came, nothing_came, each_more, first_came, followed, second_stays, then_soundly, weaker}
use Rattle.typed_primaries.specs.declared.listing.Into.{Into}
use Rattle.typed_primaries.specs.declared.listing.Into.TheVariants as into
use Rattle.typed_primaries.specs.declared.listing.Listed.{Listed}
use Rattle.typed_primaries.specs.Asserting.{IsWithOk}
use Rattle.typed_primaries.specs.Listing.{AreEachInto, AreGivenBy, AreGivenInto, AreOfFormBy, AreOfOne, AreOfParts, AreOfSole, AreValuesInto}
use Rattle.typed_primaries.specs.Listing.{IsEachOutline, IsGoing, IsInto, IsOkBeside, IsOkGoing, IsOkOutline, IsOkPair, IsOkTuple}
use Rattle.typed_primaries.specs.Listing.{IsOrNone, IsPairOf, IsPartGoing, IsPartInto, IsSpreadOutline, IsValueInto, Outline, all_of}
use Rattle.typed_primaries.specs.Listing.{Told, each_given, each_outline, given_broken, given_of, no_outline, no_type, as_many, number_broken, outline, outlined, parts_for}
use Rattle.typed_primaries.specs.Listing.{single_broken, spread_outline, takes_ok, target_at, told, told_items, told_layer, type_in, unlike, wrong_number}
use Rattle.typed_primaries.proofs.Follows.{asks_then, turned_of, turned_sound}

-- ---- what is gathered of several, of one more

pub map_more : {A B : Type 0} (f : A → B) (xs : List A) (x : A) → map f (xs ++ x ∷ []) ≡ map f xs ++ f x ∷ []
map_more f [] x = refl
map_more {A} {B} f (y ∷ xs) x = ap (λ (rest : List B). f y ∷ rest) (map_more f xs x)

pub flat_more : {A B : Type 0} (f : A → List B) (xs : List A) (x : A) → flat_map f (xs ++ x ∷ []) ≡ flat_map f xs ++ f x
flat_more f [] x = append-nil (f x)
flat_more {A} {B} f (y ∷ xs) x =
    ap (λ (rest : List B). f y ++ rest) (flat_more f xs x) ∙ sym (append_assoc (f y) (flat_map f xs) (f x))

pub reports_more : (old mid new : Ground) (one other all : List Broken) → mid ≡ reported old one → new ≡ reported mid other
    → all ≡ one ++ other → new ≡ reported old all
reports_more old mid new one other all r s e =
    s ∙ (ap (λ (g : Ground). reported g other) r ∙ (reported_after old one other ∙ ap (λ (b : List Broken). reported old b) (sym e)))

pub same_types : (old new : Ground) (broken : List Broken) → new ≡ reported old broken → new.types ≡ old.types
same_types old new broken e = ap (λ (g : Ground). g.types) e

pushed_inside : (z : TypedExpr) (o : Option (List TypedExpr)) (x : Option TypedExpr)
    → option_map (λ (rest : List TypedExpr). z ∷ rest) (with_last o x) ≡ with_last (option_map (λ (rest : List TypedExpr). z ∷ rest) o) x
pushed_inside z None x = refl
pushed_inside z (Some xs) None = refl
pushed_inside z (Some xs) (Some y) = refl

pub all_more : (xs : List (Option TypedExpr)) (x : Option TypedExpr) → all_of (xs ++ x ∷ []) ≡ with_last (all_of xs) x
all_more [] None = refl
all_more [] (Some y) = refl
all_more (None ∷ xs) x = refl
all_more (Some z ∷ xs) x =
    ap (λ (o : Option (List TypedExpr)). option_map (λ (rest : List TypedExpr). z ∷ rest) o) (all_more xs x) ∙ pushed_inside z (all_of xs) x

-- ---- a value

pub or_none : (old new : Ground) (Is : Basis → Basis → Judged TypedExpr → Type 0) (first : Result (Option TypedExpr) NoMemory)
    (answer : Option TypedExpr) → first ≡ Ok answer → Turns old new first Is → Turned old new (Some answer) (IsOrNone Is)
or_none old new Is first answer e h =
    followed old new new Is (λ (o : Option TypedExpr). Asks (λ (types : Table). fine o)) answer (came (Some answer))
    (turned_of old new Is first answer e h) (asks new new (λ (types : Table). fine answer) (Some answer) refl refl)

pub goes : (old mid new : Ground) (target : Into) (value : Option Given) (x : Given) (o : Option Given) (result : Result (Option TypedExpr) NoMemory)
    → value ≡ Some x → o ≡ (single old.types x).sound → mid ≡ reported old (single old.types x).broken
    → Turns mid new result (IsGoing target o) → Turns old new result (IsInto target value)
goes old mid new target value x o result e a r h =
    subst (λ (v : Option Given). Turns old new result (IsInto target v)) (sym e)
    (asks_then old mid new (λ (types : Table). single types x) (IsGoing target) o result a r h)

-- ---- outlines

pub outline_came : (old : Ground) (o : Outline) (result : Result Listed NoMemory) → IfOk result (λ listed. outline listed ≡ o)
    → Turns old old (outlined result) (Asks (λ types. fine o))
outline_came old o (Err error) h = tt
outline_came old o (Ok listed) h = asks old old (λ (types : Table). fine o) (Some (outline listed)) (ap (λ (p : Outline). Some p) h) refl

pub outline_after : (old mid : Ground) (o : Outline) (broken : List Broken) (result : Result Listed NoMemory)
    → mid ≡ reported old broken → IfOk result (λ listed. outline listed ≡ o)
    → Turns old mid (outlined result) (Asks (λ types. record { sound = Some o; broken = broken }))
outline_after old mid o broken (Err error) r h = tt
outline_after old mid o broken (Ok listed) r h =
    asks old mid (λ (types : Table). record { sound = Some o; broken = broken }) (Some (outline listed)) (ap (λ (p : Outline). Some p) h) r

came_items : {A : Type 0} (old new : Ground) (Is : Basis → Basis → Judged (List A) → Type 0) (first : Result (Vec A) NoMemory) (made : Vec A)
    → first ≡ Ok made → Turns old new (told_items first) Is → Turned old new (Some made.items) Is
came_items {A} old new Is first made e h = subst (λ (r : Result (Vec A) NoMemory). Turns old new (told_items r) Is) e h

pub each_comes : (old mid : Ground) (targets : List Into) (givens : List (Option Given)) (first : Result (Vec (Option TypedExpr)) NoMemory)
    (made : Vec (Option TypedExpr)) (result : Result Listed NoMemory)
    → Turns old mid (told_items first) (IsEach (IsValueInto targets) givens) → first ≡ Ok made
    → IfOk result (λ listed. outline listed ≡ each_outline made.items)
    → Turns old mid (outlined result) (AreEachInto targets givens)
each_comes old mid targets givens first made result h e o =
    then_soundly old mid mid (IsEach (IsValueInto targets) givens) IsEachOutline (Some made.items) made.items (outlined result) refl
    (came_items old mid (IsEach (IsValueInto targets) givens) first made e h) (outline_came mid (each_outline made.items) result o)

pub parts_come : (old mid : Ground) (targets : List Into) (x : Given) (expr : TypedExpr) (parts : List TypeId)
    (first : Result (Vec (Option TypedExpr)) NoMemory) (made : Vec (Option TypedExpr)) (result : Result Listed NoMemory)
    → Turns old mid (told_items first) (IsEach (IsPartInto x.at targets) parts) → beside first x.expr ≡ Ok (made, expr)
    → IfOk result (λ listed. outline listed ≡ spread_outline expr made.items)
    → Turns old mid (outlined result) (AreOfParts targets x parts)
parts_come old mid targets x expr parts first made result h e o =
    then_soundly old mid mid (IsEach (IsPartInto x.at targets) parts) (IsSpreadOutline x.expr) (Some made.items) made.items (outlined result) refl
    (came_items old mid (IsEach (IsPartInto x.at targets) parts) first made (first_came made expr first x.expr e) h)
    (outline_came mid (spread_outline x.expr made.items) result
    (subst (λ (y : TypedExpr). IfOk result (λ (listed : Listed). outline listed ≡ spread_outline y made.items)) (sym (second_stays made expr first x.expr e)) o))

pub pair_comes : (old mid new : Ground) (targets : List Into) (x y : Given) (tuple : TypedExpr) (parts parts1 : Vec (Option TypedExpr))
    (first : Result (Vec (Option TypedExpr)) NoMemory) (second : Result TypedExpr NoMemory) (result : Result Listed NoMemory)
    → Turns old mid (told_items first) (IsOkPair targets x.at x.expr.of) → beside first x ≡ Ok (parts, y)
    → Turns mid new (sound second) (IsWithOk y.expr) → beside second parts ≡ Ok (tuple, parts1)
    → IfOk result (λ listed. outline listed ≡ spread_outline tuple parts1.items)
    → Turns old new (outlined result) (AreOfFormBy true targets x)
pair_comes old mid new targets x y tuple parts parts1 first second result h e k f o =
    let same : y ≡ x = sym (second_stays parts y first x e) in
    let same_parts : parts1 ≡ parts = sym (second_stays tuple parts1 second parts f) in
    then_soundly old mid new (IsOkPair targets x.at x.expr.of) (IsOkTuple x) (Some parts.items) parts.items (outlined result) refl
    (came_items old mid (IsOkPair targets x.at x.expr.of) first parts (first_came parts y first x e) h)
    (then_soundly mid new new (IsWithOk x.expr) (IsOkOutline parts.items) (Some tuple) tuple (outlined result) refl
    (subst (λ (z : Given). Turned mid new (Some tuple) (IsWithOk z.expr)) same
    (turned_sound mid new (IsWithOk y.expr) second tuple (first_came tuple parts1 second parts f) k))
    (outline_came new (spread_outline tuple parts.items) result
    (subst (λ (p : Vec (Option TypedExpr)). IfOk result (λ (listed : Listed). outline listed ≡ spread_outline tuple p.items)) same_parts o)))

pub ok_pair_comes : (old mid new : Ground) (targets : List Into) (at : Pos) (of : TypeId) (value value1 ok : Option TypedExpr)
    (zero_at one_at : Into) (first second : Result (Option TypedExpr) NoMemory) (result : Result (Vec (Option TypedExpr)) NoMemory)
    → zero_at ≡ target_at targets 0 → Turns old mid first (IsPartGoing at 0 of zero_at) → first ≡ Ok value
    → one_at ≡ target_at targets 1 → Turns mid new second (IsOkGoing at one_at) → beside second value ≡ Ok (ok, value1)
    → IfOk result (λ made. made.items ≡ value1 ∷ ok ∷ [])
    → Turns old new (told_items result) (IsOkPair targets at of)
ok_pair_comes old mid new targets at of value value1 ok zero_at one_at first second (Err error) z h e t k f o = tt
ok_pair_comes old mid new targets at of value value1 ok zero_at one_at first second (Ok made) z h e t k f o =
    let same : value1 ≡ value = sym (second_stays ok value1 second value f) in
    then_soundly old mid new (IsPartInto at targets 0 of) (IsOkBeside at targets) (Some value) value (came (Some made.items)) refl
    (or_none old mid (IsPartGoing at 0 of (target_at targets 0)) first value e
    (subst (λ (i : Into). Turns old mid first (IsPartGoing at 0 of i)) z h))
    (then_soundly mid new new (IsOrNone (IsOkGoing at (target_at targets 1))) (IsPairOf value) (Some ok) ok (came (Some made.items)) refl
    (or_none mid new (IsOkGoing at (target_at targets 1)) second ok (first_came ok value1 second value f)
    (subst (λ (i : Into). Turns mid new second (IsOkGoing at i)) t k))
    (asks new new (λ (types : Table). fine (value ∷ ok ∷ [])) (Some made.items)
    (ap (λ (xs : List (Option TypedExpr)). Some xs) (o ∙ ap (λ (v : Option TypedExpr). v ∷ ok ∷ []) same)) refl))

-- ---- forms

by_form : (old new : Ground) (targets : List Into) (x : Given) (b c : Bool) (result : Result (Option Outline) NoMemory)
    → b ≡ c → Turns old new result (AreOfFormBy c targets x) → Turns old new result (AreOfFormBy b targets x)
by_form old new targets x b c result e h = subst (λ (d : Bool). Turns old new result (AreOfFormBy d targets x)) (sym e) h

pub takes_form : (old new : Ground) (targets : List Into) (x : Given) (b : Bool) (result : Result (Option Outline) NoMemory)
    → b ≡ true → Turns old new result (AreOfFormBy true targets x) → Turns old new result (AreOfFormBy b targets x)
takes_form old new targets x b result e h = by_form old new targets x b true result e h

pub no_form : (old mid : Ground) (targets : List Into) (x : Given) (b : Bool) (result : Result Listed NoMemory)
    → b ≡ false → mid ≡ reported old (wrong_number x.at ∷ []) → IfOk result (λ listed. outline listed ≡ no_outline targets)
    → Turns old mid (outlined result) (AreOfFormBy b targets x)
no_form old mid targets x b result e r h =
    by_form old mid targets x b false (outlined result) e (outline_after old mid (no_outline targets) (wrong_number x.at ∷ []) result r h)

-- ---- one value

found_as : (old new : Ground) (with_ok : Bool) (targets : List Into) (x : Given) (found : Option (List TypeId)) (result : Result (Option Outline) NoMemory)
    → found ≡ parts_for old.types targets x.expr.of
    → Turns old new result (AreOfSole with_ok targets x found) → Turns old new result (AreOfOne with_ok targets (Some x))
found_as old new with_ok targets x found result e h =
    weaker old new (AreOfSole with_ok targets x found) (AreOfOne with_ok targets (Some x)) result
    (λ (one : Judged Outline) (is : AreOfSole with_ok targets x found (basis old) (basis new) one).
    subst (λ (o : Option (List TypeId)). AreOfSole with_ok targets x o (basis old) (basis new) one) e is) h

pub one_of_parts : (old new : Ground) (with_ok : Bool) (targets : List Into) (x : Given) (value : Option Given) (found : Option (List TypeId))
    (parts : List TypeId) (result : Result (Option Outline) NoMemory) → value ≡ Some x
    → found ≡ parts_for old.types targets x.expr.of → found ≡ Some parts
    → Turns old new result (AreOfParts targets x parts) → Turns old new result (AreOfOne with_ok targets value)
one_of_parts old new with_ok targets x value found parts result v e is h =
    subst (λ (o : Option Given). Turns old new result (AreOfOne with_ok targets o)) (sym v)
    (found_as old new with_ok targets x (Some parts) result (sym is ∙ e) h)

pub one_of_form : (old new : Ground) (with_ok : Bool) (targets : List Into) (x : Given) (value : Option Given) (found : Option (List TypeId))
    (result : Result (Option Outline) NoMemory) → value ≡ Some x
    → found ≡ parts_for old.types targets x.expr.of → found ≡ None
    → Turns old new result (AreOfFormBy (takes_ok with_ok targets x.expr) targets x) → Turns old new result (AreOfOne with_ok targets value)
one_of_form old new with_ok targets x value found result v e is h =
    subst (λ (o : Option Given). Turns old new result (AreOfOne with_ok targets o)) (sym v)
    (found_as old new with_ok targets x None result (sym is ∙ e) h)

pub one_unsound : (old : Ground) (with_ok : Bool) (targets : List Into) (value : Option Given) (result : Result Listed NoMemory)
    → value ≡ None → IfOk result (λ listed. outline listed ≡ no_outline targets)
    → Turns old old (outlined result) (AreOfOne with_ok targets value)
one_unsound old with_ok targets value result v h =
    subst (λ (o : Option Given). Turns old old (outlined result) (AreOfOne with_ok targets o)) (sym v) (outline_came old (no_outline targets) result h)

-- ---- by their number

pub as_each : (old new : Ground) (at : Pos) (targets : List Into) (with_ok : Bool) (givens : List (Option Given)) (result : Result (Option Outline) NoMemory)
    → (length givens == length targets) ≡ true → Turns old new result (AreEachInto targets givens)
    → Turns old new result (AreGivenInto at targets with_ok givens)
as_each old new at targets with_ok givens result e h =
    subst (λ (b : Bool). Turns old new result (AreGivenBy b at targets with_ok givens)) (sym e) h

sole_by : (old new : Ground) (at : Pos) (targets : List Into) (with_ok : Bool) (givens : List (Option Given)) (result : Result (Option Outline) NoMemory)
    → (length givens == 1) ≡ true → ((x : Option Given) → givens ≡ x ∷ [] → Turns old new result (AreOfOne with_ok targets x))
    → Turns old new result (AreGivenBy false at targets with_ok givens)
sole_by old new at targets with_ok [] result e h = absurd (true≢false (sym e))
sole_by old new at targets with_ok (x ∷ []) result e h = h x refl
sole_by old new at targets with_ok (x ∷ y ∷ givens) result e h =
    let one : suc (suc (length givens)) ≡ 1 = eqb-true (length (x ∷ y ∷ givens)) 1 e in
    let no : ⊥ = omega arith in
    absurd no

pub as_sole : (old new : Ground) (at : Pos) (targets : List Into) (with_ok : Bool) (givens : List (Option Given)) (result : Result (Option Outline) NoMemory)
    → (length givens == length targets) ≡ false → (length givens == 1) ≡ true
    → ((x : Option Given) → givens ≡ x ∷ [] → Turns old new result (AreOfOne with_ok targets x))
    → Turns old new result (AreGivenInto at targets with_ok givens)
as_sole old new at targets with_ok givens result e one h =
    subst (λ (b : Bool). Turns old new result (AreGivenBy b at targets with_ok givens)) (sym e)
    (sole_by old new at targets with_ok givens result one h)

unlike_by : (old new : Ground) (at : Pos) (targets : List Into) (with_ok : Bool) (givens : List (Option Given)) (result : Result (Option Outline) NoMemory)
    → (length givens == 1) ≡ false → Turns old new result (Asks (unlike at targets givens))
    → Turns old new result (AreGivenBy false at targets with_ok givens)
unlike_by old new at targets with_ok [] result e h = h
unlike_by old new at targets with_ok (x ∷ []) result e h = absurd (true≢false e)
unlike_by old new at targets with_ok (x ∷ y ∷ givens) result e h = h

pub as_unlike : (old new : Ground) (at : Pos) (targets : List Into) (with_ok : Bool) (givens : List (Option Given)) (result : Result (Option Outline) NoMemory)
    → (length givens == length targets) ≡ false → (length givens == 1) ≡ false → Turns old new result (Asks (unlike at targets givens))
    → Turns old new result (AreGivenInto at targets with_ok givens)
as_unlike old new at targets with_ok givens result e one h =
    subst (λ (b : Bool). Turns old new result (AreGivenBy b at targets with_ok givens)) (sym e)
    (unlike_by old new at targets with_ok givens result one h)

-- another number
pub unlike_comes : (old mid new : Ground) (at : Pos) (targets : List Into) (givens : List (Option Given)) (place : Option Pos) (result : Result Listed NoMemory)
    → place ≡ place_of givens at → mid ≡ reported old (number_broken place)
    → new ≡ reported mid (flat_map (single_broken mid.types) givens) → IfOk result (λ listed. outline listed ≡ no_outline targets)
    → Turns old new (outlined result) (Asks (unlike at targets givens))
unlike_comes old mid new at targets givens place (Err error) p r s h = tt
unlike_comes old mid new at targets givens place (Ok listed) p r s h =
    let types : mid.types ≡ old.types = same_types old mid (number_broken place) r in
    asks old new (unlike at targets givens) (Some (outline listed)) (ap (λ (o : Outline). Some o) h)
    (reports_more old mid new (number_broken (place_of givens at)) (flat_map (single_broken old.types) givens)
    (number_broken (place_of givens at) ++ flat_map (single_broken old.types) givens)
    (r ∙ ap (λ (o : Option Pos). reported old (number_broken o)) p)
    (s ∙ ap (λ (t : Table). reported mid (flat_map (single_broken t) givens)) types) refl)

-- ---- all

pub values_come : (old mid new : Ground) (at : Pos) (values : List Seen) (targets : List Into) (with_ok : Bool) (givens : List (Option Given))
    (result : Result (Option Outline) NoMemory)
    → givens ≡ map given_of values → mid ≡ reported old (flat_map given_broken values)
    → Turns mid new result (AreGivenInto at targets with_ok givens) → Turns old new result (AreValuesInto at values targets with_ok)
values_come old mid new at values targets with_ok givens result g r h =
    then_soundly old mid new (Asks (λ (types : Table). each_given values)) (AreGivenInto at targets with_ok) (Some givens) givens result refl
    (asks old mid (λ (types : Table). each_given values) (Some givens) (ap (λ (l : List (Option Given)). Some l) g) r) h

-- ---- each of several

pub value_or_none : (old new : Ground) (targets : List Into) (number count : ℕ) (target : Into) (x : Option Given)
    (first : Result (Option TypedExpr) NoMemory) (answer : Option TypedExpr)
    → count ≡ number → target ≡ target_at targets count → first ≡ Ok answer → Turns old new first (IsInto target x)
    → Turned old new (Some answer) (IsValueInto targets number x)
value_or_none old new targets number count target x first answer c t e h =
    or_none old new (IsInto (target_at targets number) x) first answer e
    (subst (λ (i : Into). Turns old new first (IsInto i x)) (t ∙ ap (target_at targets) c) h)

pub part_or_none : (old new : Ground) (at : Pos) (targets : List Into) (number count : ℕ) (target : Into) (of : TypeId)
    (first : Result (Option TypedExpr) NoMemory) (answer : Option TypedExpr)
    → count ≡ number → target ≡ target_at targets count → first ≡ Ok answer → Turns old new first (IsPartGoing at count of target)
    → Turned old new (Some answer) (IsPartInto at targets number of)
part_or_none old new at targets number count target of first answer c t e h =
    or_none old new (IsPartGoing at number of (target_at targets number)) first answer e
    (subst (λ (n : ℕ). Turns old new first (IsPartGoing at n of (target_at targets n))) c
    (subst (λ (i : Into). Turns old new first (IsPartGoing at count of i)) t h))

-- one more of several
pub values_more : (old mid new : Ground) (targets : List Into) (xs : List (Option Given)) (x : Option Given) (count : ℕ) (target : Into)
    (made more : List (Option TypedExpr)) (answer : Option TypedExpr)
    → count ≡ length xs → target ≡ target_at targets count
    → Turned old mid (Some made) (IsEach (IsValueInto targets) xs) → Turned mid new answer (IsInto target x) → more ≡ made ++ answer ∷ []
    → Turned old new (Some more) (IsEach (IsValueInto targets) (xs ++ x ∷ []))
values_more old mid new targets xs x count target made more answer c t so is e =
    each_more old mid new (IsValueInto targets) xs x (Some made) (Some more) (Some answer) so
    (value_or_none mid new targets (length xs) count target x (came answer) answer c t refl is)
    (ap (λ (v : List (Option TypedExpr)). Some v) e)

pub parts_more : (old mid new : Ground) (at : Pos) (targets : List Into) (parts : List TypeId) (i count : ℕ) (d : TypeId) (target : Into)
    (made more : List (Option TypedExpr)) (answer : Option TypedExpr)
    → i < length parts → count ≡ i → target ≡ target_at targets count
    → Turned old mid (Some made) (IsEach (IsPartInto at targets) (take i parts))
    → Turned mid new answer (IsPartGoing at count (get_or parts i d) target) → more ≡ made ++ answer ∷ []
    → Turned old new (Some more) (IsEach (IsPartInto at targets) (take (i + 1) parts))
parts_more old mid new at targets parts i count d target made more answer h c t so is e =
    subst (λ (l : List TypeId). Turned old new (Some more) (IsEach (IsPartInto at targets) l)) (sym (take_more parts i d h))
    (each_more old mid new (IsPartInto at targets) (take i parts) (get_or parts i d) (Some made) (Some more) (Some answer) so
    (part_or_none mid new at targets (length (take i parts)) count target (get_or parts i d) (came answer) answer
    (c ∙ sym (length-take-le i parts (omega (arith, h)))) t refl is)
    (ap (λ (v : List (Option TypedExpr)). Some v) e))

pub one_longer : {A B : Type 0} (made more : List A) (xs : List B) (answer : A) (x : B) → length made ≡ length xs → more ≡ made ++ answer ∷ []
    → length more ≡ length (xs ++ x ∷ [])
one_longer {A} made more xs answer x e m =
    ap (λ (l : List A). length l) m ∙ (length-append made (answer ∷ []) ∙ (ap (λ (n : ℕ). n + 1) e ∙ sym (length-append xs (x ∷ []))))

-- ---- nothing sound

untyped_more : (targets : List Into) (i : ℕ) → i < length targets → map no_type (take (i + 1) targets) ≡ map no_type (take i targets) ++ None ∷ []
untyped_more targets i h = map_take_more no_type targets i into.Unsound h

pub none_more : (targets : List Into) (i : ℕ) (types more : List (Option TypeId)) → i < length targets → types ≡ map no_type (take i targets)
    → more ≡ types ++ None ∷ [] → more ≡ map no_type (take (i + 1) targets)
none_more targets i types more h e m = m ∙ (ap (λ (l : List (Option TypeId)). l ++ None ∷ []) e ∙ sym (untyped_more targets i h))

-- ---- what lists are as a whole

whole : Option Told → List (Option TypeId) → Outline
whole values types = record { values = values; types = types }

pub outline_of : (listed : Listed) (values : Option Told) (types : List (Option TypeId)) → told listed.values ≡ values
    → listed.types.items ≡ types → outline listed ≡ record { values = values; types = types }
unfolding whole
outline_of listed values types v t = ap (λ (o : Option Told). whole o listed.types.items) v ∙ ap (whole values) t

pub none_whole : (listed : Listed) (targets : List Into) (i : ℕ) → listed.values ≡ None → length targets ≤ i
    → listed.types.items ≡ map no_type (take i targets) → outline listed ≡ no_outline targets
none_whole listed targets i v h t =
    outline_of listed None (map no_type targets) (ap (λ (o : Option Values). told o) v) (t ∙ ap (map no_type) (take_all i targets h))

pub each_whole : (listed : Listed) (made : Option (List TypedExpr)) (types : List (Option TypeId)) (parts : List (Option TypedExpr))
    → told listed.values ≡ option_map Told.each made → listed.types.items ≡ types → made ≡ all_of parts → types ≡ map type_in parts
    → outline listed ≡ each_outline parts
each_whole listed made types parts v t m e =
    outline_of listed (option_map Told.each (all_of parts)) (map type_in parts) (v ∙ ap (option_map Told.each) m) (t ∙ e)

pub spread_whole : {A : Type 0} (values : A → Option (List TypedExpr)) (types : A → List (Option TypeId)) (x y : TypedExpr)
    (parts : List (Option TypedExpr)) (one two : A) (tuple : Box TypedExpr) (first : Result A NoMemory) (second : Result (Box TypedExpr) NoMemory)
    (listed : Listed) → IfOk first (λ made. values made ≡ all_of parts) → IfOk first (λ made. types made ≡ map type_in parts)
    → beside first x ≡ Ok (one, y) → IfOk second (λ boxed. boxed.value ≡ y) → beside second one ≡ Ok (tuple, two)
    → told listed.values ≡ option_map (Told.spread tuple.value) (values two) → listed.types.items ≡ types two
    → outline listed ≡ spread_outline x parts
spread_whole {A} values types x y parts one two tuple first second listed v t e b f w u =
    let came_one : first ≡ Ok one = first_came one y first x e in
    let came_box : second ≡ Ok tuple = first_came tuple two second one f in
    let same : y ≡ x = sym (second_stays one y first x e) in
    let kept : two ≡ one = sym (second_stays tuple two second one f) in
    let in_box : tuple.value ≡ y = subst (λ (r : Result (Box TypedExpr) NoMemory). IfOk r (λ (z : Box TypedExpr). z.value ≡ y)) came_box b in
    let all : values one ≡ all_of parts = subst (λ (r : Result A NoMemory). IfOk r (λ (m : A). values m ≡ all_of parts)) came_one v in
    let typed : types one ≡ map type_in parts = subst (λ (r : Result A NoMemory). IfOk r (λ (m : A). types m ≡ map type_in parts)) came_one t in
    outline_of listed (option_map (Told.spread x) (all_of parts)) (map type_in parts)
    (w ∙ (ap (λ (z : TypedExpr). option_map (Told.spread z) (values two)) (in_box ∙ same)
    ∙ ap (option_map (Told.spread x)) (ap values kept ∙ all)))
    (u ∙ (ap types kept ∙ typed))

-- ---- where a value goes anywhere, and nowhere

pub going_nowhere : (old : Ground) (target : Into) (x : Option Given) → target ≡ into.Unsound
    → Turns old old (nothing_came {A = TypedExpr}) (IsGoing target x)
going_nowhere old target x e =
    subst (λ (i : Into). Turns old old (nothing_came {A = TypedExpr}) (IsGoing i x)) (sym e) (asks old old (λ (types : Table). unsound) None refl refl)

pub part_anywhere : (old : Ground) (at : Pos) (number : ℕ) (of : TypeId) (target : Into) (made : TypedExpr) → target ≡ into.Any
    → made ≡ node at of (PartOf number) → Turns old old (came (Some made)) (IsPartGoing at number of target)
part_anywhere old at number of target made e m =
    subst (λ (i : Into). Turns old old (came (Some made)) (IsPartGoing at number of i)) (sym e)
    (asks old old (λ (types : Table). fine (node at of (PartOf number))) (Some made) (ap (λ (x : TypedExpr). Some x) m) refl)

pub part_nowhere : (old : Ground) (at : Pos) (number : ℕ) (of : TypeId) (target : Into) → target ≡ into.Unsound
    → Turns old old (nothing_came {A = TypedExpr}) (IsPartGoing at number of target)
part_nowhere old at number of target e =
    subst (λ (i : Into). Turns old old (nothing_came {A = TypedExpr}) (IsPartGoing at number of i)) (sym e)
    (asks old old (λ (types : Table). unsound) None refl refl)

pub ok_anywhere : (old : Ground) (at : Pos) (target : Into) (made : TypedExpr) → target ≡ into.Any → made ≡ ok_part at
    → Turns old old (came (Some made)) (IsOkGoing at target)
ok_anywhere old at target made e m =
    subst (λ (i : Into). Turns old old (came (Some made)) (IsOkGoing at i)) (sym e)
    (asks old old (λ (types : Table). fine (ok_part at)) (Some made) (ap (λ (x : TypedExpr). Some x) m) refl)

pub ok_nowhere : (old : Ground) (at : Pos) (target : Into) → target ≡ into.Unsound
    → Turns old old (nothing_came {A = TypedExpr}) (IsOkGoing at target)
ok_nowhere old at target e =
    subst (λ (i : Into). Turns old old (nothing_came {A = TypedExpr}) (IsOkGoing at i)) (sym e)
    (asks old old (λ (types : Table). unsound) None refl refl)

-- ---- the types of the values of one

found_parts : (types : Table) (targets : List Into) (x y : Given) (first : Result (Option (Vec TypeId)) NoMemory)
    (parts found : Option (Vec TypeId)) (wanted : ℕ)
    → IfOk first (λ several_parts. option_map (λ ids. ids.items) several_parts ≡ several (term_at types x.expr.of))
    → beside first x ≡ Ok (parts, y) → wanted ≡ length targets
    → option_map (λ ids. ids.items) found ≡ as_many wanted (option_map (λ ids. ids.items) parts)
    → option_map (λ ids. ids.items) found ≡ parts_for types targets x.expr.of
found_parts types targets x y first parts found wanted s b w e =
    let known : option_map (λ (ids : Vec TypeId). ids.items) parts ≡ several (term_at types x.expr.of) =
    subst (λ (r : Result (Option (Vec TypeId)) NoMemory). IfOk r (λ (p : Option (Vec TypeId)). option_map (λ (ids : Vec TypeId). ids.items) p ≡ several (term_at types x.expr.of)))
    (first_came parts y first x b) s in
    e ∙ (ap (λ (n : ℕ). as_many n (option_map (λ (ids : Vec TypeId). ids.items) parts)) w ∙ ap (as_many (length targets)) known)

pub one_in_parts : (old new : Ground) (with_ok : Bool) (targets : List Into) (x y : Given) (value : Option Given)
    (first : Result (Option (Vec TypeId)) NoMemory) (parts found : Option (Vec TypeId)) (wanted : ℕ) (made : Vec TypeId)
    (result : Result (Option Outline) NoMemory) → value ≡ Some x
    → IfOk first (λ several_parts. option_map (λ ids. ids.items) several_parts ≡ several (term_at old.types x.expr.of))
    → beside first x ≡ Ok (parts, y) → wanted ≡ length targets
    → option_map (λ ids. ids.items) found ≡ as_many wanted (option_map (λ ids. ids.items) parts) → found ≡ Some made
    → Turns old new result (AreOfParts targets y made.items) → Turns old new result (AreOfOne with_ok targets value)
one_in_parts old new with_ok targets x y value first parts found wanted made result v s b w e f h =
    one_of_parts old new with_ok targets x value (option_map (λ (ids : Vec TypeId). ids.items) found) made.items result v
    (found_parts old.types targets x y first parts found wanted s b w e)
    (ap (λ (o : Option (Vec TypeId)). option_map (λ (ids : Vec TypeId). ids.items) o) f)
    (subst (λ (z : Given). Turns old new result (AreOfParts targets z made.items)) (sym (second_stays parts y first x b)) h)

pub one_in_form : (old new : Ground) (with_ok : Bool) (targets : List Into) (x y : Given) (value : Option Given)
    (first : Result (Option (Vec TypeId)) NoMemory) (parts found : Option (Vec TypeId)) (wanted : ℕ)
    (result : Result (Option Outline) NoMemory) → value ≡ Some x
    → IfOk first (λ several_parts. option_map (λ ids. ids.items) several_parts ≡ several (term_at old.types x.expr.of))
    → beside first x ≡ Ok (parts, y) → wanted ≡ length targets
    → option_map (λ ids. ids.items) found ≡ as_many wanted (option_map (λ ids. ids.items) parts) → found ≡ None
    → Turns old new result (AreOfFormBy (takes_ok with_ok targets y.expr) targets y) → Turns old new result (AreOfOne with_ok targets value)
one_in_form old new with_ok targets x y value first parts found wanted result v s b w e f h =
    one_of_form old new with_ok targets x value (option_map (λ (ids : Vec TypeId). ids.items) found) result v
    (found_parts old.types targets x y first parts found wanted s b w e)
    (ap (λ (o : Option (Vec TypeId)). option_map (λ (ids : Vec TypeId). ids.items) o) f)
    (subst (λ (z : Given). Turns old new result (AreOfFormBy (takes_ok with_ok targets z.expr) targets z)) (sym (second_stays parts y first x b)) h)

pub one_more : {A : Type 0} (made more : List A) (answer : A) (n : ℕ) → length made ≡ n → more ≡ made ++ answer ∷ [] → length more ≡ n + 1
one_more {A} made more answer n e m =
    ap (λ (l : List A). length l) m ∙ (length-append made (answer ∷ []) ∙ ap (λ (k : ℕ). k + 1) e)

-- ---- what values are told as

abbrev Layer : Type 0
Layer = layers.Values-F Callee Elements ExprKind Values EntryInit FieldInit ItemInit TypedExpr

abbrev one_of : {A B : Type 0} → A → Option (A × B) → A
one_of a (Some (x, y)) = x
one_of a None = a

abbrev other_of : {A B : Type 0} → B → Option (A × B) → B
other_of b (Some (x, y)) = y
other_of b None = b

pub told_each : (list : Vec TypedExpr) (o : Option (Vec TypedExpr)) → o ≡ Some list
    → told (Some (values.Each list)) ≡ option_map Told.each (items_of o)
told_each list o e =
    ap (λ (l : Layer). Some (told_layer l)) (values.outs-Each list)
    ∙ ap (λ (p : Option (Vec TypedExpr)). option_map Told.each (items_of p)) (sym e)

pub told_not_each : (o : Option (Vec TypedExpr)) → o ≡ None → told None ≡ option_map Told.each (items_of o)
told_not_each o e = ap (λ (p : Option (Vec TypedExpr)). option_map Told.each (items_of p)) (sym e)

pub told_spread : (given tuple : Box TypedExpr) (parts : Vec TypedExpr) (o : Option (Vec TypedExpr))
    → option_zip (Some given) o ≡ Some (tuple, parts)
    → told (Some (values.Spread tuple parts)) ≡ option_map (Told.spread given.value) (items_of o)
told_spread given tuple parts None e = cc
told_spread given tuple parts (Some list) e =
    let tuples : given ≡ tuple = ap (one_of given) e in
    let lists : list ≡ parts = ap (other_of list) e in
    ap (λ (l : Layer). Some (told_layer l)) (values.outs-Spread tuple parts)
    ∙ (ap (λ (b : Box TypedExpr). Some (Told.spread b.value parts.items)) (sym tuples)
    ∙ ap (λ (v : Vec TypedExpr). Some (Told.spread given.value v.items)) (sym lists))

pub told_not_spread : (given : Box TypedExpr) (o : Option (Vec TypedExpr)) → option_zip (Some given) o ≡ None
    → told None ≡ option_map (Told.spread given.value) (items_of o)
told_not_spread given None e = refl
told_not_spread given (Some list) e = cc
