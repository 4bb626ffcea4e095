-- What becomes of calls of `max` and `min`.
use Rattle.std.proofs.Common.{◌≡◌, ℕ, ◌+◌, ◌<◌, refl, sym, ap, ◌∙◌, subst, List, [], ◌∷◌, ◌++◌, length, take, get_or, Bool, true, false}
use Rattle.std.proofs.Common.{append-nil, append_assoc, arith, Option, Some, None, Result, Ok, Err}
use Rattle.std.specs.Global.{Vec}
use Rattle.std.specs.Option.{option_map, option_zip}
use Rattle.std.specs.Prelude.{is_some, not, ◌&&◌}
use Rattle.std.proofs.lemmas.Bool.{false≢true, true≢false}
use Rattle.std.proofs.lemmas.Grind.{flat_map-append}
use Rattle.std.proofs.lemmas.List.{take_more}
use Rattle.std.proofs.lemmas.List.Folds.{list_all_more}
use Rattle.go_base.specs.declared.ids.TypeId.{TypeId}
use Rattle.go_base.specs.declared.memory.NoMemory.{NoMemory}
use Rattle.go_base.specs.declared.rule.Rule.TheVariants.{BadBuiltInCall}
use Rattle.go_rules.specs.declared.matching.Matched.{Matched}
use Rattle.go_rules.specs.declared.matching.Matched.TheVariants as matched
use Rattle.go_rules.specs.declared.untyped.Untyped.{Untyped}
use Rattle.go_rules.specs.Matching.{converted, matched_kinds}
use Rattle.go_rules.specs.Untyped.{fits_type, joined, kind_at}
use Rattle.go_tree.specs.declared.exprs.ExprKind.TheVariants.{BuiltinOf, ConstOf}
use Rattle.go_tree.specs.declared.exprs.TypedExpr.{TypedExpr}
use Rattle.go_type.specs.declared.constants.Const.{Const}
use Rattle.go_type.specs.Table.{Table}
use Rattle.typed_parts.specs.declared.ground.Ground.{Ground}
use Rattle.typed_parts.specs.declared.meaning.Given.{Given}
use Rattle.typed_parts.specs.Joining.{items_of, only}
use Rattle.typed_parts.specs.Judged.{Broken, Comes, Judged, Outcome, fine, reported}
use Rattle.typed_parts.specs.Limits.{Basis}
use Rattle.typed_parts.specs.Nodes.{node}
use Rattle.typed_parts.specs.Turning.{Asks, IsThenSoundly, Keeps, Soundly, Turned, Turns}
use Rattle.typed_parts.proofs.Steps as steps
use Rattle.typed_parts.proofs.Turns as turns
use Rattle.typed_parts.proofs.Turns.{asks, came, followed, keeps, nothing_came, then_soundly}
use Rattle.typed_built_ins.specs.declared.built_ins.BuiltInCall.{BuiltInCall}
use Rattle.typed_built_ins.specs.declared.extremes.Common.{Common}
use Rattle.typed_built_ins.specs.Extremes.{AreMatched, AreOfCommon, HaveCommon, IsExtreme, IsExtremeAmong, IsExtremeBy, IsExtremeOf}
use Rattle.typed_built_ins.specs.Extremes.{IsOfCommon, IsOfType, IsOfTypeBy, IsJoinedWith, IsOneMore, are_taken, best_of, each_broken}
use Rattle.typed_built_ins.specs.Extremes.{ended, first_of, in_common, is_taken, one_more, place_for, taken_asked, taken_broken}
use Rattle.typed_built_ins.proofs.Grows.{some_is_there, zip_first, zip_second}
use Rattle.typed_built_ins.proofs.Makes.{reports_more}

-- ---- each argument by itself

take_next : (all : List (Option Given)) (i : ℕ) (x : Option Given) → i < length all → x ≡ get_or all i x
    → take (i + 1) all ≡ take i all ++ x ∷ []
take_next all i x below is = take_more all i x below ∙ ap (λ (y : Option Given). take i all ++ y ∷ []) (sym is)

pub next_taken : (types : Table) (all : List (Option Given)) (i : ℕ) (x : Option Given) → i < length all → x ≡ get_or all i x
    → are_taken types (take (i + 1) all) ≡ are_taken types (take i all) && is_taken types x
next_taken types all i x below is =
    list_all_more (is_taken types) all i x below
    ∙ ap (λ (y : Option Given). are_taken types (take i all) && is_taken types y) (sym is)

pub next_broken : (types : Table) (all : List (Option Given)) (i : ℕ) (x : Option Given) → i < length all → x ≡ get_or all i x
    → each_broken types (take (i + 1) all) ≡ each_broken types (take i all) ++ taken_broken types x
next_broken types all i x below is =
    ap (each_broken types) (take_next all i x below is)
    ∙ (flat_map-append (taken_broken types) (take i all) (x ∷ [])
    ∙ ap (λ (rest : List Broken). each_broken types (take i all) ++ rest) (append-nil (taken_broken types x)))

-- ---- what they have in common

one_longer : {A : Type 0} (xs : List A) (x : A) → length (xs ++ x ∷ []) ≡ length xs + 1
one_longer [] x = refl
one_longer (y ∷ xs) x = let e = one_longer xs x in omega arith

all_longer : (types : Table) (xs : List (Option Given)) (x : Option Given) (of : TypeId) → HaveCommon types (xs ++ x ∷ []) (Some of)
    → AreMatched types (xs ++ x ∷ []) (fine (record { of = Some of; count = length xs + 1; whole = true }))
all_longer types xs x of have =
    subst (λ (n : ℕ). AreMatched types (xs ++ x ∷ []) (fine (record { of = Some of; count = n; whole = true }))) (one_longer xs x)
    (AreMatched.all (xs ++ x ∷ []) (Some of) have)

from_all : (types : Table) (xs : List (Option Given)) (of : Option TypeId) (x : Option Given) (one : Judged Common)
    → HaveCommon types xs of → IsOneMore types (first_of xs of true) x one → AreMatched types (xs ++ x ∷ []) one
from_all types xs of x one have (IsOneMore.past y e) = absurd (true≢false e)
from_all types xs of x one have (IsOneMore.unsound e) = AreMatched.to_unsound xs [] of have
from_all types xs of x one have (IsOneMore.joins y joined e is) = all_longer types xs (Some y) joined (HaveCommon.more xs y of joined have is)
from_all types xs of x one have (IsOneMore.other y e is) = AreMatched.to_other xs [] y of have is

from_past : (types : Table) (common : Common) (x : Option Given) (one : Judged Common) → common.whole ≡ false
    → IsOneMore types common x one → one ≡ fine common
from_past types common x one e (IsOneMore.past y f) = refl
from_past types common x one e (IsOneMore.unsound f) = absurd (true≢false (sym f ∙ e))
from_past types common x one e (IsOneMore.joins y joined f is) = absurd (true≢false (sym f ∙ e))
from_past types common x one e (IsOneMore.other y f is) = absurd (true≢false (sym f ∙ e))

abbrev after_more : Judged Common → Judged Common → Judged Common
after_more so_far one = record { sound = one.sound; broken = so_far.broken ++ one.broken }

kept_more : (types : Table) (ys rest xs : List (Option Given)) (x y : Option Given) (so_far one : Judged Common) (common : Common)
    → common.whole ≡ false → so_far.sound ≡ Some common → IsOneMore types common x one
    → AreMatched types (ys ++ y ∷ (rest ++ x ∷ [])) so_far
    → AreMatched types ((ys ++ y ∷ rest) ++ x ∷ []) (after_more so_far one)
kept_more types ys rest xs x y so_far one common e s is have =
    let same : one ≡ fine common = from_past types common x one e is in
    let whole : so_far ≡ after_more so_far one =
    ap (λ (o : Option Common). record { sound = o; broken = so_far.broken }) (s ∙ ap (λ (j : Judged Common). j.sound) (sym same))
    ∙ ap (λ (b : List Broken). record { sound = one.sound; broken = b })
    (sym (append-nil so_far.broken) ∙ ap (λ (j : Judged Common). so_far.broken ++ j.broken) (sym same)) in
    subst (λ (j : Judged Common). AreMatched types ((ys ++ y ∷ rest) ++ x ∷ []) j) whole
    (subst (λ (l : List (Option Given)). AreMatched types l so_far) (sym (append_assoc ys (y ∷ rest) (x ∷ []))) have)

matched_more : (types : Table) (xs : List (Option Given)) (so_far : Judged Common) (common : Common) (x : Option Given)
    (one : Judged Common) → AreMatched types xs so_far → Some common ≡ so_far.sound → IsOneMore types common x one
    → AreMatched types (xs ++ x ∷ []) (after_more so_far one)
matched_more types xs so_far common x one (AreMatched.all ys of have) s is =
    let same : common ≡ first_of ys of true = cc in
    from_all types ys of x one have (subst (λ (c : Common). IsOneMore types c x one) same is)
matched_more types xs so_far common x one (AreMatched.to_unsound ys rest of have) s is =
    let same : common ≡ first_of ys of false = cc in
    kept_more types ys rest ys x None (fine (first_of ys of false)) one common (ap (λ (c : Common). c.whole) same) (sym s) is
    (AreMatched.to_unsound ys (rest ++ x ∷ []) of have)
matched_more types xs so_far common x one (AreMatched.to_other ys rest y of have other) s is =
    let same : common ≡ first_of ys of false = cc in
    kept_more types ys rest ys x (Some y)
    (record { sound = Some (first_of ys of false); broken = record { at = y.at; rule = BadBuiltInCall } ∷ [] }) one common
    (ap (λ (c : Common). c.whole) same) (sym s) is (AreMatched.to_other ys (rest ++ x ∷ []) y of have other)

pub none_matched : (old : Ground) (common : Common) → common ≡ first_of [] None true
    → Outcome old old (Some common) (AreMatched old.types [])
none_matched old common e = record {
  judged = fine (first_of [] None true);
  is = AreMatched.all [] None HaveCommon.none;
  answers = ap (λ (c : Common). Some c) e;
  reports = refl;
}

-- one more argument that is looked at
pub matched_next : (old mid new : Ground) (all : List (Option Given)) (i : ℕ) (x : Option Given) (common next : Common)
    → i < length all → x ≡ get_or all i x → Outcome old mid (Some common) (AreMatched old.types (take i all))
    → Outcome mid new (Some next) (IsOneMore mid.types common x)
    → Outcome old new (Some next) (AreMatched old.types (take (i + 1) all))
matched_next old mid new all i x common next below is h k =
    let types : mid.types ≡ old.types = ap (λ (g : Ground). g.types) h.reports in
    let here = subst (λ (t : Table). IsOneMore t common x k.judged) types k.is in
    record {
      judged = after_more h.judged k.judged;
      is = subst (λ (l : List (Option Given)). AreMatched old.types l (after_more h.judged k.judged)) (sym (take_next all i x below is))
          (matched_more old.types (take i all) h.judged common x k.judged h.is h.answers here);
      answers = k.answers;
      reports = reports_more old mid new h.judged.broken k.judged.broken (h.judged.broken ++ k.judged.broken) h.reports k.reports refl;
    }

-- ---- the type of two

abbrev joined_as : Option Untyped → Option Matched
joined_as found = option_map (λ (kind : Untyped). matched.Untyped kind) found

abbrev no_match : Option Matched
no_match = None

no_conversion : (m becomes : Matched) (fits : Bool) → converted fits becomes ≡ Some m → (m ≡ becomes → ⊥) → ⊥
no_conversion m becomes true e not_so = not_so (let f : Some becomes ≡ Some m = e in cc)
no_conversion m becomes false e not_so = let f : no_match ≡ Some m = e in cc

-- operands of arithmetic take no default types
pub no_default : (types : Table) (k l : Option Untyped) (x y : TypeId) (m : Matched) → matched_kinds types k l x y ≡ Some m
    → (m ≡ matched.Typed → ⊥) → ((kind : Untyped) → m ≡ matched.Untyped kind → ⊥) → (m ≡ matched.FirstConverted → ⊥)
    → (m ≡ matched.SecondConverted → ⊥) → ⊥
no_default types None None x y m e typed untyped first second = typed (some_same m matched.Typed e)
  where
    some_same : (a b : Matched) → Some b ≡ Some a → a ≡ b
    some_same a b e = cc
no_default types (Some k) (Some l) x y m e typed untyped first second = by (joined k l) e
  where
    by : (o : Option Untyped) → joined_as o ≡ Some m → ⊥
    by (Some kind) f = untyped kind (let g : Some (matched.Untyped kind) ≡ Some m = f in cc)
    by None f = let g : no_match ≡ Some m = f in cc
no_default types (Some k) None x y m e typed untyped first second = no_conversion m matched.FirstConverted (fits_type types k y) e first
no_default types None (Some l) x y m e typed untyped first second = no_conversion m matched.SecondConverted (fits_type types l x) e second

-- ---- as ones of that type

pub typed_stays : (old : Ground) (of : TypeId) (expr : TypedExpr) (kind : Option Untyped) → kind_at old.types expr.of ≡ kind
    → is_some kind ≡ false → Comes old old (came (Some expr)) (IsOfType old.types of expr)
typed_stays old of expr (Some kind) e f = absurd (true≢false f)
typed_stays old of expr None e f =
    steps.stays old (IsOfType old.types of expr) expr
    (subst (λ (k : Option Untyped). IsOfTypeBy old.types of expr k (fine expr)) (sym e) refl)

pub of_nothing : (old : Ground) (x : Option Given) (of : Option TypeId) → option_zip x of ≡ None
    → Comes old old (nothing_came {A = TypedExpr}) (IsOfCommon old.types of x)
of_nothing old None of e = steps.nothing old (IsOfCommon old.types of None) refl
of_nothing old (Some x) None e = steps.nothing old (IsOfCommon old.types None (Some x)) refl
of_nothing old (Some x) (Some of) e = absurd (some_is_there (x, of) e)

-- ---- the call

pub among_constants : (old : Ground) (call : BuiltInCall) (of : TypeId) (exprs : List TypedExpr) (value : Const) (made : TypedExpr)
    → best_of call.builtin exprs ≡ Some value → made ≡ node call.at of (ConstOf value)
    → Turns old old (came (Some made)) (IsExtremeAmong call (of, exprs))
among_constants old call of exprs value made b m =
    turns.stays old (IsExtremeAmong call (of, exprs)) made
    (refl, (made, (subst (λ (best : Option Const). IsExtremeBy old.types call of exprs best made) (sym b) m, refl)))

pub among_values : (old : Ground) (call : BuiltInCall) (of : TypeId) (v : Vec TypedExpr) (made : TypedExpr)
    → best_of call.builtin v.items ≡ None → made ≡ node (place_for old.types call of) of (BuiltinOf call.builtin None v false)
    → Turns old old (came (Some made)) (IsExtremeAmong call (of, v.items))
among_values old call of v made b m =
    turns.stays old (IsExtremeAmong call (of, v.items)) made
    (refl, (made, (subst (λ (best : Option Const). IsExtremeBy old.types call of v.items best made) (sym b) (v, (refl, m)), refl)))

-- ---- the rule

only_taken : (b : Bool) → is_some (only (Some (tt {0})) b) ≡ b
only_taken true = refl
only_taken false = refl

pub extreme_from : (old mid last third new : Ground) (call : BuiltInCall) (values : List (Option Given)) (taken : Bool) (common : Common)
    (o : Option (Vec TypedExpr)) (result : Result (Option TypedExpr) NoMemory)
    → taken ≡ are_taken old.types values → mid ≡ reported old (each_broken old.types values)
    → Outcome mid last (Some common) (AreMatched mid.types values)
    → Turned last third (items_of o) (AreOfCommon common values)
    → Turns third new result (Soundly (IsExtremeAmong call) (in_common common taken (items_of o)))
    → Turns old new result (IsExtreme call values)
extreme_from old mid last third new call values taken common o result t r m h k =
    followed old mid new (Asks (λ (types : Table). taken_asked types values))
    (λ (told : Option (Unit {0})). IsThenSoundly (Keeps (λ (types : Table). AreMatched types values)) (IsExtremeOf call values (is_some told)))
    (only (Some (tt {0})) taken) result
    (asks old mid (λ (types : Table). taken_asked types values) (only (Some (tt {0})) taken) (ap (λ (b : Bool). only (Some (tt {0})) b) t) r)
    (then_soundly mid last new (Keeps (λ (types : Table). AreMatched types values)) (IsExtremeOf call values (is_some (only (Some (tt {0})) taken)))
    (Some common) common result refl (keeps mid last (λ (types : Table). AreMatched types values) (Some common) m)
    (subst (λ (b : Bool). Turns last new result (IsExtremeOf call values b common)) (sym (only_taken taken))
    (followed last third new (AreOfCommon common values)
    (λ (exprs : Option (List TypedExpr)). Soundly (IsExtremeAmong call) (in_common common taken exprs)) (items_of o) result h k)))

only_items : (o : Option (Vec TypedExpr)) (b : Bool) → items_of (only o b) ≡ only (items_of o) b
only_items o true = refl
only_items o false = refl

pub some_in_common : (common : Common) (taken : Bool) (o : Option (Vec TypedExpr)) (of : TypeId) (v : Vec TypedExpr)
    → option_zip common.of (only o (taken && common.whole)) ≡ Some (of, v) → in_common common taken (items_of o) ≡ Some (of, v.items)
some_in_common common taken o of v e =
    let b = taken && common.whole in
    let list_is : only o b ≡ Some v = zip_second common.of (only o b) of v e in
    let type_is : common.of ≡ Some of = zip_first common.of (only o b) of v e in
    ap (option_zip common.of) (sym (only_items o b) ∙ ap items_of list_is)
    ∙ ap (λ (f : Option TypeId). option_zip f (Some v.items)) type_is

none_zipped : (f : Option TypeId) (o : Option (Vec TypedExpr)) → option_zip f o ≡ None → option_zip f (items_of o) ≡ None
none_zipped None o e = refl
none_zipped (Some of) None e = refl
none_zipped (Some of) (Some v) e = absurd (some_is_there (of, v) e)

pub none_in_all : (common : Common) (taken : Bool) (o : Option (Vec TypedExpr))
    → option_zip common.of (only o (taken && common.whole)) ≡ None → in_common common taken (items_of o) ≡ None
none_in_all common taken o e =
    let b = taken && common.whole in
    ap (option_zip common.of) (sym (only_items o b)) ∙ none_zipped common.of (only o b) e

pub not_is_true : (b : Bool) → not b ≡ true → b ≡ false
not_is_true true e = absurd (false≢true e)
not_is_true false e = refl

pub not_is_false : (b : Bool) → not b ≡ false → b ≡ true
not_is_false true e = refl
not_is_false false e = absurd (true≢false e)

-- what is made of one more argument
pub one_looked_at : (old : Ground) (common next : Common) (x : Option Given) → IsOneMore old.types common x (fine next)
    → Outcome old old (Some next) (IsOneMore old.types common x)
one_looked_at old common next x is = record { judged = fine next; is = is; answers = refl; reports = refl }

pub one_refused : (old new : Ground) (common : Common) (x : Option Given) (y : Given) (o : Option TypeId) → x ≡ Some y → common.whole ≡ true
    → IsJoinedWith old.types common.of y.expr.of o → o ≡ None → new ≡ reported old (record { at = y.at; rule = BadBuiltInCall } ∷ [])
    → Outcome old new (Some (ended common)) (IsOneMore old.types common x)
one_refused old new common x y o e w h none r =
    let is = subst (λ (p : Option TypeId). IsJoinedWith old.types common.of y.expr.of p) none h in
    record {
      judged = record { sound = Some (ended common); broken = record { at = y.at; rule = BadBuiltInCall } ∷ [] };
      is = subst (λ (z : Option Given). IsOneMore old.types common z
          (record { sound = Some (ended common); broken = record { at = y.at; rule = BadBuiltInCall } ∷ [] }))
          (sym e) (IsOneMore.other y w is);
      answers = refl;
      reports = r;
    }

pub one_joined : (old : Ground) (common : Common) (x : Option Given) (y : Given) (o : Option TypeId) (joined : TypeId) → x ≡ Some y
    → common.whole ≡ true → IsJoinedWith old.types common.of y.expr.of o → o ≡ Some joined
    → Outcome old old (Some (one_more common joined)) (IsOneMore old.types common x)
one_joined old common x y o joined e w h some =
    let is = subst (λ (p : Option TypeId). IsJoinedWith old.types common.of y.expr.of p) some h in
    one_looked_at old common (one_more common joined) x
    (subst (λ (z : Option Given). IsOneMore old.types common z (fine (one_more common joined))) (sym e) (IsOneMore.joins y joined w is))

pub matched_all : (old new : Ground) (common : Common) (seen all : List (Option Given)) → seen ≡ all
    → Outcome old new (Some common) (AreMatched old.types seen) → Outcome old new (Some common) (AreMatched old.types all)
matched_all old new common seen all e h = subst (λ (l : List (Option Given)). Outcome old new (Some common) (AreMatched old.types l)) e h
