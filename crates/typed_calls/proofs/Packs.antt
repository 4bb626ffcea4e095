-- What becomes of arguments that are passed, and packed.
use Rattle.std.proofs.Common.{◌≡◌, ℕ, suc, ◌+◌, ◌<◌, ◌≤◌, min, refl, sym, ap, ◌∙◌, subst, List, [], ◌∷◌, ◌++◌, length, map, take, drop}
use Rattle.std.proofs.Common.{Bool, true, false, ◌==◌, Option, Some, None, Result, Ok, Err, length-take, arith, tests, get_or}
use Rattle.std.specs.Global.{Vec}
use Rattle.std.specs.Prelude.{IfOk, if◌then◌else◌, nat_lt}
use Rattle.std.proofs.lemmas.Bool.{false≢true}
use Rattle.std.proofs.lemmas.List.{drop-append-le, drop_all, take-append-le, take_all, take_more}
use Rattle.go_base.specs.declared.ids.TypeId.{TypeId}
use Rattle.go_base.specs.declared.memory.NoMemory.{NoMemory}
use Rattle.go_base.specs.declared.place.Pos.{Pos}
use Rattle.go_tree.specs.declared.exprs.Elements.TheVariants.{Items}
use Rattle.go_tree.specs.declared.exprs.ExprKind.TheVariants as kinds
use Rattle.go_tree.specs.declared.exprs.ItemInit.{ItemInit}
use Rattle.go_tree.specs.declared.exprs.TypedExpr.{TypedExpr}
use Rattle.typed_parts.specs.declared.ground.Ground.{Ground}
use Rattle.go_tree.specs.declared.exprs.Values.{Values}
use Rattle.go_tree.specs.declared.exprs.Values.TheVariants as values
use Rattle.go_type.specs.declared.term.Signature.{Signature}
use Rattle.go_type.specs.Table.{Table}
use Rattle.typed_parts.specs.declared.meaning.Given.{Given}
use Rattle.typed_parts.specs.Joining.{beside, items_of, listed, only, sound, with_last}
use Rattle.typed_parts.specs.Judged.{IsFine, Judged, Outcome, fine, reported, unsound}
use Rattle.typed_parts.specs.Limits.{Basis, IsFitting, basis, granted, on_basis}
use Rattle.typed_parts.specs.Nodes.{node}
use Rattle.typed_parts.specs.Turning.{IsThenSoundly, Keeps, Soundly, Turned, Turns}
use Rattle.typed_parts.proofs.Told.{was_granted, was_refused}
use Rattle.typed_parts.proofs.Turns.{asks, came, each_more, first_came, followed, keeps, nothing_came, second_stays, stays, then_nothing, then_soundly}
use Rattle.typed_calls.specs.declared.packing.Apart.{Apart}
use Rattle.typed_calls.specs.declared.packing.Plan.{Plan}
use Rattle.typed_calls.specs.Packing.{ArePartsTo, ArePassed, AreValues, AreValuesOf, IsEachOf, IsPacked, IsPackedAs, IsPackedBy}
use Rattle.typed_calls.specs.Passing.{target}
use Rattle.typed_calls.specs.Packing.{IsJoined, IsPackedIn, IsPartPassed, IsPartTo, IsSlice, IsSpread, IsSpreadAs, IsSpreadOf, items_from, with_fixed, with_item}

-- an argument that has a number
abbrev pub numbered : {A : Type 0} → ℕ × A → A
numbered (number, value) = value

pub numbered_more : {A : Type 0} (xs : List (ℕ × A)) (x : ℕ × A) → map numbered (xs ++ x ∷ []) ≡ map numbered xs ++ numbered x ∷ []
numbered_more [] x = refl
numbered_more {A} (y ∷ xs) x = ap (λ (rest : List A). numbered y ∷ rest) (numbered_more xs x)

pub one_longer : {A : Type 0} (xs : List A) (x : A) → length (xs ++ x ∷ []) ≡ length xs + 1
one_longer [] x = refl
one_longer (y ∷ xs) x = let e = one_longer xs x in omega arith

-- ---- arguments of their own, and items

items_more : (number : ℕ) (xs : List TypedExpr) (x : TypedExpr)
    → items_from number (xs ++ x ∷ []) ≡ items_from number xs ++ record { index = number + length xs; value = x } ∷ []
items_more number [] x = ap (λ (n : ℕ). record { index = n; value = x } ∷ []) (omega arith)
items_more number (y ∷ xs) x =
    ap (λ (rest : List ItemInit). record { index = number; value = y } ∷ rest)
    (items_more (number + 1) xs x
    ∙ ap (λ (n : ℕ). items_from (number + 1) xs ++ record { index = n; value = x } ∷ []) (omega arith))

pub items_length : (number : ℕ) (xs : List TypedExpr) → length (items_from number xs) ≡ length xs
items_length number [] = refl
items_length number (x ∷ xs) = ap (λ (n : ℕ). suc n) (items_length (number + 1) xs)

below : (a b : ℕ) → nat_lt a b ≡ true → a < b
below a b e = search (arith, tests)

not_below : (a b : ℕ) → nat_lt a b ≡ false → b ≤ a
not_below a b e = search (arith, tests)

-- fewer arguments than parameters of their own
few : (number : ℕ) (xs : List TypedExpr) → nat_lt (length (take number xs)) number ≡ true → length xs + 1 ≤ number
few number xs e =
    let less = below (length (take number xs)) number e in
    let long : length (take number xs) ≡ min number (length xs) = length-take number xs in
    omega arith

enough : (number : ℕ) (xs : List TypedExpr) → nat_lt (length (take number xs)) number ≡ false → number ≤ length xs
enough number xs e =
    let more = not_below (length (take number xs)) number e in
    let long : length (take number xs) ≡ min number (length xs) = length-take number xs in
    omega arith

pub fixed_more : (number : ℕ) (xs : List TypedExpr) (x : TypedExpr) → with_fixed number (take number xs) x ≡ take number (xs ++ x ∷ [])
fixed_more number xs x = by (nat_lt (length (take number xs)) number) refl
  where
    by : (b : Bool) → nat_lt (length (take number xs)) number ≡ b
        → (if b then take number xs ++ x ∷ [] else take number xs) ≡ take number (xs ++ x ∷ [])
    by true e =
        let low = few number xs e in
        let long = one_longer xs x in
        ap (λ (l : List TypedExpr). l ++ x ∷ []) (take_all number xs (omega arith)) ∙ sym (take_all number (xs ++ x ∷ []) (omega arith))
    by false e = sym (take-append-le number xs (x ∷ []) (enough number xs e))

pub item_more : (number : ℕ) (xs : List TypedExpr) (x : TypedExpr)
    → with_item number (length (take number xs)) (items_from 0 (drop number xs)) x ≡ items_from 0 (drop number (xs ++ x ∷ []))
item_more number xs x = by (nat_lt (length (take number xs)) number) refl
  where
    by : (b : Bool) → nat_lt (length (take number xs)) number ≡ b
        → (if b then items_from 0 (drop number xs) else
        items_from 0 (drop number xs) ++ record { index = length (items_from 0 (drop number xs)); value = x } ∷ [])
        ≡ items_from 0 (drop number (xs ++ x ∷ []))
    by true e =
        let low = few number xs e in
        let long = one_longer xs x in
        ap (items_from 0) (drop_all number xs (omega arith) ∙ sym (drop_all number (xs ++ x ∷ []) (omega arith)))
    by false e =
        ap (λ (n : ℕ). items_from 0 (drop number xs) ++ record { index = n; value = x } ∷ []) (items_length 0 (drop number xs))
        ∙ (ap (λ (n : ℕ). items_from 0 (drop number xs) ++ record { index = n; value = x } ∷ []) (omega arith)
        ∙ (sym (items_more 0 (drop number xs) x) ∙ ap (items_from 0) (sym (drop-append-le number xs (x ∷ []) (enough number xs e)))))

abbrev no_values_yet : List TypedExpr
no_values_yet = []

pub none_fixed : (number : ℕ) → take number no_values_yet ≡ no_values_yet
none_fixed number = take_all number no_values_yet (omega arith)

pub none_left : (number : ℕ) → items_from 0 (drop number no_values_yet) ≡ items_from 0 no_values_yet
none_left number = ap (items_from 0) (drop_all number no_values_yet (omega arith))

-- ---- what is packed

pub slice_made : (at : Pos) (slice : TypeId) (v : Vec ItemInit) (others : List TypedExpr) (len size : ℕ) (test : Bool) (made : TypedExpr)
    → len ≡ length v.items → test ≡ (len == 0) → test ≡ false → v.items ≡ items_from 0 others → size ≡ len
    → made ≡ node at slice (kinds.CompositeOf (Items v size)) → IsSlice at slice others made
slice_made at slice v [] len size test made ok t f e l m =
    let none : len ≡ 0 = ok ∙ ap (λ (is : List ItemInit). length is) e in
    absurd (false≢true (sym f ∙ (t ∙ ap (λ (n : ℕ). n == 0) none)))
slice_made at slice v (x ∷ xs) len size test made ok t f e l m =
    let long : size ≡ length (x ∷ xs) = l ∙ (ok ∙ (ap (λ (is : List ItemInit). length is) e ∙ items_length 0 (x ∷ xs))) in
    (v, (e, m ∙ ap (λ (n : ℕ). node at slice (kinds.CompositeOf (Items v n))) long))

pub unpacked : (old : Ground) (p : Plan) (v : Vec TypedExpr) → p.packs ≡ None
    → Turns old old (listed (came (Some v))) (IsPacked p v.items)
unpacked old p v e =
    subst (λ (packs : Option (TypeId × TypeId)). Turned old old (Some v.items) (IsPackedBy packs p v.items)) (sym e)
    (asks old old (λ (types : Table). fine v.items) (Some v.items) refl refl)

pub packed_by : (old new : Ground) (p : Plan) (packs : TypeId × TypeId) (values : List TypedExpr)
    (result : Result (Option (List TypedExpr)) NoMemory) → p.packs ≡ Some packs
    → Turns old new result (IsPackedIn p packs values) → Turns old new result (IsPacked p values)
packed_by old new p packs values result e h =
    subst (λ (o : Option (TypeId × TypeId)). Turns old new result (IsPackedBy o p values)) (sym e) h

abbrev IsPackedFine : Plan → TypeId → List TypedExpr → Basis → Basis → Judged (List TypedExpr) → Type 0
IsPackedFine p slice values before after result = Keeps (λ types. IsFine (IsPackedAs p slice values)) before after result

pub packed_all : (old new : Ground) (p : Plan) (slice elem : TypeId) (values : List TypedExpr) (number : ℕ)
    (made : Result (Vec TypedExpr) NoMemory) (result : Result (Option (Vec TypedExpr)) NoMemory)
    → number ≡ length (drop p.fixed values) → Turned old new (Some tt) (IsFitting p.call.at elem number)
    → IfOk made (λ (v : Vec TypedExpr). IsPackedAs p slice values v.items) → result ≡ sound made
    → Turns old new (listed result) (IsPackedIn p (slice, elem) values)
packed_all old new p slice elem values number (Err error) result n h k s =
    subst (λ (r : Result (Option (Vec TypedExpr)) NoMemory). Turns old new (listed r) (IsPackedIn p (slice, elem) values)) (sym s) tt
packed_all old new p slice elem values number (Ok v) result n h k s =
    subst (λ (r : Result (Option (Vec TypedExpr)) NoMemory). Turns old new (listed r) (IsPackedIn p (slice, elem) values)) (sym s)
    (then_soundly old new new (IsFitting p.call.at elem (length (drop p.fixed values))) (λ (fits : Unit {0}). IsPackedFine p slice values) (Some tt) tt
    (came (Some v.items)) refl
    (subst (λ (m : ℕ). Turned old new (Some tt) (IsFitting p.call.at elem m)) n h)
    (stays new (IsPackedFine p slice values) v.items (refl, (v.items, (k, refl)))))

pub too_many_packed : (old new : Ground) (p : Plan) (slice elem : TypeId) (values : List TypedExpr) (number : ℕ)
    → number ≡ length (drop p.fixed values) → Turned old new None (IsFitting p.call.at elem number)
    → Turns old new (nothing_came {A = List TypedExpr}) (IsPackedIn p (slice, elem) values)
too_many_packed old new p slice elem values number n h =
    then_nothing old new (IsFitting p.call.at elem (length (drop p.fixed values))) (λ (fits : Unit {0}). IsPackedFine p slice values) None refl
    (subst (λ (m : ℕ). Turned old new None (IsFitting p.call.at elem m)) n h)

abbrev parts_of : Plan → List TypedExpr → Apart → Type 0
parts_of p values apart =
    (apart.fixed.items ≡ take p.fixed values) × (apart.items.items ≡ items_from 0 (drop p.fixed values))

abbrev JoinsAs : Plan → TypeId → Apart → Result (Vec TypedExpr) NoMemory → Type 0
JoinsAs p slice apart made =
    (others : List TypedExpr) → apart.items.items ≡ items_from 0 others
    → IfOk made (λ (v : Vec TypedExpr). IsJoined p.call.parenthesis slice apart.fixed.items others v.items)

joined : (p : Plan) (slice : TypeId) (values : List TypedExpr) (apart : Apart) (made : Result (Vec TypedExpr) NoMemory)
    → parts_of p values apart → JoinsAs p slice apart made
    → IfOk made (λ (v : Vec TypedExpr). IsPackedAs p slice values v.items)
joined p slice values apart made (first, others) k =
    subst (λ (l : List TypedExpr). IfOk made (λ (v : Vec TypedExpr). IsJoined p.call.parenthesis slice l (drop p.fixed values) v.items)) first
    (k (drop p.fixed values) others)

counted : (p : Plan) (values : List TypedExpr) (apart : Apart) (number : ℕ) → parts_of p values apart
    → number ≡ length apart.items.items → number ≡ length (drop p.fixed values)
counted p values apart number (first, others) n =
    n ∙ (ap (λ (l : List ItemInit). length l) others ∙ items_length 0 (drop p.fixed values))

fitted : (old new : Ground) (p : Plan) (slice elem : TypeId) (values : List TypedExpr) (apart these : Apart) (number : ℕ)
    (fits : Bool) (made : Result (Vec TypedExpr) NoMemory) (result : Result (Option (Vec TypedExpr)) NoMemory)
    → parts_of p values apart → number ≡ length apart.items.items
    → Turns {E = NoMemory} old new (granted (Ok fits)) (IsFitting p.call.at elem number)
    → only (Some apart) fits ≡ Some these → JoinsAs p slice these made → result ≡ sound made
    → Turns old new (listed result) (IsPackedIn p (slice, elem) values)
fitted old new p slice elem values apart these number false made result is n h o k s = cc
fitted old new p slice elem values apart these number true made result is n h o k s =
    let same : these ≡ apart = cc in
    packed_all old new p slice elem values number made result (counted p values apart number is n)
    (was_granted old new (IsFitting p.call.at elem number) true refl h)
    (joined p slice values apart made is (subst (λ (a : Apart). JoinsAs p slice a made) same k)) s

unfitted : (old new : Ground) (p : Plan) (slice elem : TypeId) (values : List TypedExpr) (apart : Apart) (number : ℕ)
    (fits : Bool) → parts_of p values apart → number ≡ length apart.items.items
    → Turns {E = NoMemory} old new (granted (Ok fits)) (IsFitting p.call.at elem number) → only (Some apart) fits ≡ None
    → Turns old new (nothing_came {A = List TypedExpr}) (IsPackedIn p (slice, elem) values)
unfitted old new p slice elem values apart number true is n h o = cc
unfitted old new p slice elem values apart number false is n h o =
    too_many_packed old new p slice elem values number (counted p values apart number is n)
    (was_refused old new (IsFitting p.call.at elem number) false refl h)

abbrev asked_fits : Ground → Ground → Plan → TypeId → ℕ → Result Bool NoMemory → Type 0
asked_fits old new p elem number told = Turns old new (granted told) (IsFitting p.call.at elem number)

-- the parts that stand beside the answer
pub packs_all : (old new : Ground) (p : Plan) (slice elem : TypeId) (values : List TypedExpr) (apart other these : Apart) (number : ℕ)
    (told : Result Bool NoMemory) (fits : Bool) (made : Result (Vec TypedExpr) NoMemory) (result : Result (Option (Vec TypedExpr)) NoMemory)
    → p.packs ≡ Some (slice, elem) → apart.fixed.items ≡ take p.fixed values → apart.items.items ≡ items_from 0 (drop p.fixed values)
    → number ≡ length apart.items.items → asked_fits old new p elem number told → beside told apart ≡ Ok (fits, other)
    → only (Some other) fits ≡ Some these → JoinsAs p slice these made → result ≡ sound made
    → Turns old new (listed result) (IsPacked p values)
packs_all old new p slice elem values apart other these number told fits made result e first others n h b o k s =
    let same : apart ≡ other = second_stays fits other told apart b in
    packed_by old new p (slice, elem) values (listed result) e
    (fitted old new p slice elem values apart these number fits made result (first, others) n
    (subst (λ (r : Result Bool NoMemory). asked_fits old new p elem number r) (first_came fits other told apart b) h)
    (ap (λ (a : Apart). only (Some a) fits) same ∙ o) k s)

pub packs_none : (old new : Ground) (p : Plan) (slice elem : TypeId) (values : List TypedExpr) (apart other : Apart) (number : ℕ)
    (told : Result Bool NoMemory) (fits : Bool)
    → p.packs ≡ Some (slice, elem) → apart.fixed.items ≡ take p.fixed values → apart.items.items ≡ items_from 0 (drop p.fixed values)
    → number ≡ length apart.items.items → asked_fits old new p elem number told → beside told apart ≡ Ok (fits, other)
    → only (Some other) fits ≡ None → Turns old new (nothing_came {A = List TypedExpr}) (IsPacked p values)
packs_none old new p slice elem values apart other number told fits e first others n h b o =
    let same : apart ≡ other = second_stays fits other told apart b in
    packed_by old new p (slice, elem) values (nothing_came {A = List TypedExpr}) e
    (unfitted old new p slice elem values apart number fits (first, others) n
    (subst (λ (r : Result Bool NoMemory). asked_fits old new p elem number r) (first_came fits other told apart b) h)
    (ap (λ (a : Apart). only (Some a) fits) same ∙ o))

-- ---- what follows what was packed

pub something_after : {A B C : Type 0} (old new : Ground) (First : A → Basis → Basis → Judged B → Type 0)
    (Next : B → Basis → Basis → Judged C → Type 0) (o : Option A) (made : B) (x : C)
    → Turned old new (Some made) (Soundly First o) → Turns new new (came (Some x)) (Next made)
    → Turns old new (came (Some x)) (Soundly (λ (a : A). IsThenSoundly (First a) Next) o)
something_after {A} {B} {C} old new First Next None made x h k =
    let none : Some made ≡ None = h.answers ∙ ap (λ (j : Judged B). j.sound) h.is.1 in cc
something_after old new First Next (Some a) made x h k =
    then_soundly old new new (First a) Next (Some made) made (came (Some x)) refl h k

pub nothing_after : {A B C : Type 0} (old new : Ground) (First : A → Basis → Basis → Judged B → Type 0)
    (Next : B → Basis → Basis → Judged C → Type 0) (o : Option A) → Turned old new None (Soundly First o)
    → Turns old new (nothing_came {A = C}) (Soundly (λ (a : A). IsThenSoundly (First a) Next) o)
nothing_after {A} {B} {C} old new First Next None h = record {
  judged = unsound;
  is = (h.is.0, refl);
  answers = refl;
  reports = h.reports ∙ ap (λ (j : Judged B). reported (on_basis (basis new) old) j.broken) h.is.1;
}
nothing_after old new First Next (Some a) h = then_nothing old new (First a) Next None refl h

-- ---- the values of the parameters

abbrev IsEachFine : List TypedExpr → Basis → Basis → Judged Values → Type 0
IsEachFine packed before after result = Keeps (λ types. IsFine (IsEachOf packed)) before after result

pub each_are_values : (old mid new : Ground) (p : Plan) (signature : Signature) (xs : List (Option Given)) (o : Option (Vec TypedExpr))
    (v : Vec TypedExpr) → Turned old mid (items_of o) (ArePassed p signature xs)
    → Turned mid new (Some v.items) (Soundly (IsPacked p) (items_of o))
    → Turns old new (came (Some (values.Each v))) (AreValues p signature xs)
each_are_values old mid new p signature xs o v h k =
    followed old mid new (ArePassed p signature xs) (Soundly (AreValuesOf p)) (items_of o) (came (Some (values.Each v))) h
    (something_after mid new (IsPacked p) IsEachFine (items_of o) v.items (values.Each v) k
    (stays new (IsEachFine v.items) (values.Each v) (refl, (values.Each v, ((v, (refl, refl)), refl)))))

pub no_values : (old mid new : Ground) (p : Plan) (signature : Signature) (xs : List (Option Given)) (o : Option (Vec TypedExpr))
    → Turned old mid (items_of o) (ArePassed p signature xs) → Turned mid new None (Soundly (IsPacked p) (items_of o))
    → Turns old new (nothing_came {A = Values}) (AreValues p signature xs)
no_values old mid new p signature xs o h k =
    followed old mid new (ArePassed p signature xs) (Soundly (AreValuesOf p)) (items_of o) (nothing_came {A = Values}) h
    (nothing_after mid new (IsPacked p) IsEachFine (items_of o) k)

abbrev IsSpreadFine : TypedExpr → List TypedExpr → Basis → Basis → Judged Values → Type 0
IsSpreadFine tuple packed before after result = Keeps (λ types. IsFine (IsSpreadAs tuple packed)) before after result

-- what came of the parts
pub spread_all : (old mid new : Ground) (p : Plan) (signature : Signature) (tuple : Given) (parts : List TypeId)
    (o : Option (Vec TypedExpr)) (v : Vec TypedExpr) (made : Result Values NoMemory) (result : Result (Option Values) NoMemory)
    → Turned old mid (items_of o) (ArePartsTo tuple.at p signature parts)
    → Turned mid new (Some v.items) (Soundly (IsPacked p) (items_of o)) → IfOk made (IsSpreadAs tuple.expr v.items)
    → result ≡ sound made → Turns old new result (IsSpread p signature tuple parts)
spread_all old mid new p signature tuple parts o v (Err error) result h k m s =
    subst (λ (r : Result (Option Values) NoMemory). Turns old new r (IsSpread p signature tuple parts)) (sym s) tt
spread_all old mid new p signature tuple parts o v (Ok made) result h k m s =
    subst (λ (r : Result (Option Values) NoMemory). Turns old new r (IsSpread p signature tuple parts)) (sym s)
    (followed old mid new (ArePartsTo tuple.at p signature parts) (Soundly (IsSpreadOf p tuple.expr)) (items_of o) (came (Some made)) h
    (something_after mid new (IsPacked p) (IsSpreadFine tuple.expr) (items_of o) v.items made k
    (stays new (IsSpreadFine tuple.expr v.items) made (refl, (made, (m, refl))))))

pub spread_nothing : (old mid new : Ground) (p : Plan) (signature : Signature) (tuple : Given) (parts : List TypeId)
    (o : Option (Vec TypedExpr)) → Turned old mid (items_of o) (ArePartsTo tuple.at p signature parts)
    → Turned mid new None (Soundly (IsPacked p) (items_of o))
    → Turns old new (nothing_came {A = Values}) (IsSpread p signature tuple parts)
spread_nothing old mid new p signature tuple parts o h k =
    followed old mid new (ArePartsTo tuple.at p signature parts) (Soundly (IsSpreadOf p tuple.expr)) (items_of o) (nothing_came {A = Values}) h
    (nothing_after mid new (IsPacked p) (IsSpreadFine tuple.expr) (items_of o) k)

-- one more part
pub next_part : (all : List TypeId) (i : ℕ) (x : TypeId) → i < length all → x ≡ get_or all i (record { number = 0 })
    → take (i + 1) all ≡ take i all ++ x ∷ []
next_part all i x below is = take_more all i (record { number = 0 }) below ∙ ap (λ (y : TypeId). take i all ++ y ∷ []) (sym is)

pub part_more : (old mid new : Ground) (at : Pos) (p : Plan) (signature : Signature) (all : List TypeId) (i : ℕ) (x : TypeId)
    (made more : Option (List TypedExpr)) (one : Option TypedExpr) (to : Option TypeId) → i < length all → x ≡ get_or all i (record { number = 0 })
    → Turned old mid made (ArePartsTo at p signature (take i all)) → to ≡ target p signature i
    → Outcome mid new one (IsPartPassed mid.types at i x to) → more ≡ with_last made one
    → Turned old new more (ArePartsTo at p signature (take (i + 1) all))
part_more old mid new at p signature all i x made more one to below is h t k e =
    let short : length (take i all) ≡ min i (length all) = length-take i all in
    let long : i ≡ length (take i all) = omega arith in
    let told = subst (λ (o : Option TypeId). Outcome mid new one (IsPartPassed mid.types at i x o)) t k in
    let here = subst (λ (n : ℕ). Outcome mid new one (IsPartPassed mid.types at n x (target p signature n))) long told in
    subst (λ (l : List TypeId). Turned old new more (ArePartsTo at p signature l)) (sym (next_part all i x below is))
    (each_more old mid new (IsPartTo at p signature) (take i all) x made more one h
    (keeps mid new (λ (types : Table). IsPartPassed types at (length (take i all)) x (target p signature (length (take i all)))) one here) e)

-- what came of lists
pub turned_list : (old new : Ground) (Is : Basis → Basis → Judged (List TypedExpr) → Type 0) (came : Result (Option (Vec TypedExpr)) NoMemory)
    (o : Option (Vec TypedExpr)) → came ≡ Ok o → Turns old new (listed came) Is → Turned old new (items_of o) Is
turned_list old new Is came o e h = subst (λ (r : Result (Option (Vec TypedExpr)) NoMemory). Turns old new (listed r) Is) e h
