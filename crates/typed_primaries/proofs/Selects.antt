-- What becomes of selectors.
use Rattle.std.proofs.Common.{◌≡◌, ℕ, refl, sym, ap, ◌∙◌, subst, Bool, true, false, true≢false, List, [], ◌∷◌, Option, Some, None, Result, Ok, Err}
use Rattle.std.specs.Prelude.{IfOk, OnOk, IsTrue, ◌↔◌, ◌||◌, is_some}
use Rattle.std.specs.Option.{option_zip}
use Rattle.go_base.specs.declared.ids.FuncId.{FuncId}
use Rattle.go_base.specs.declared.ids.TypeId.{TypeId}
use Rattle.go_base.specs.declared.memory.NoMemory.{NoMemory}
use Rattle.go_base.specs.declared.place.Pos.{Pos}
use Rattle.go_base.specs.declared.rule.Rule.TheVariants.{AmbiguousSelector, BadBuiltInCall, NoSuchFieldOrMethod}
use Rattle.go_rules.specs.Untyped.{kind_at}
use Rattle.go_tree.specs.declared.exprs.Method.TheVariants as method
use Rattle.go_tree.specs.declared.exprs.TypedExpr.{TypedExpr}
use Rattle.go_type.specs.declared.methods.Selection.{Selection}
use Rattle.go_type.specs.declared.methods.SelectionKind.{SelectionKind}
use Rattle.go_type.specs.declared.methods.SelectError.{SelectError}
use Rattle.go_type.specs.declared.methods.SelectError.TheVariants as error
use Rattle.go_type.specs.declared.term.Signature.{Signature}
use Rattle.go_type.specs.declared.term.TypeTerm.TheVariants.{Func}
use Rattle.go_type.specs.Assignable.{underlying_term_of}
use Rattle.go_type.specs.Selector.{SelectsFrom}
use Rattle.go_type.specs.Table.{Table, is_blank, term_at, with_term}
use Rattle.typed_parts.specs.declared.ground.Ground.{Ground}
use Rattle.typed_parts.specs.declared.meaning.Given.{Given}
use Rattle.typed_parts.specs.declared.meaning.Meaning.{Meaning}
use Rattle.typed_parts.specs.Joining.{beside, sound}
use Rattle.typed_parts.specs.Judged.{Comes, IsFine, Judged, breaks, fine, reported, unsound}
use Rattle.typed_parts.specs.Limits.{Basis, IsLimited, basis, granted}
use Rattle.typed_parts.specs.Meanings.{single}
use Rattle.typed_parts.specs.Turning.{Asks, IsHeld, Keeps, Soundly, Turned, Turns}
use Rattle.typed_parts.proofs.Told.{was_granted, was_refused}
use Rattle.typed_parts.proofs.Turns.{asks, came, first_came, followed, held, keeps, nothing_came, outcome_of, second_stays, then_nothing}
use Rattle.typed_parts.proofs.Turns.{then_soundly}
use Rattle.typed_primaries.specs.declared.selecting.Selected.{Selected}
use Rattle.typed_primaries.specs.Selecting.{HasMethod, IsBoundMethod, IsExpressionOf, IsFieldOrMethod, IsInMethodSet}
use Rattle.typed_primaries.specs.Selecting.{IsLimitedExpression, IsMethodExpression, IsMethodOf, IsMethodValue, IsOfMethodSet, IsOfValue}
use Rattle.typed_primaries.specs.Selecting.{IsPrefixed, IsReceiver, IsReceiverOf, IsSelectedBy, IsSelectedOf, IsSelection, IsSelectorOf}
use Rattle.typed_primaries.specs.Selecting.{by_pointer, expression_of, is_nameless, value_form, wanted, with_first}
use Rattle.typed_parts.specs.Made.{IsOnOne}
use Rattle.typed_primaries.specs.Steps.{IsAddressed, IsAlong, IsDereferenced}
use Rattle.typed_primaries.proofs.Follows.{asks_nothing, asks_soundly, fine_came, turned_sound}

-- ---- what a name selects

or_left : (b c : Bool) → b ≡ true → b || c ≡ true
or_left true c e = refl
or_left false c e = cc

or_both : (b c : Bool) → b ≡ false → c ≡ false → b || c ≡ false
or_both true c e f = cc
or_both false c e f = f

or_right : (b c : Bool) → c ≡ true → b || c ≡ true
or_right true c e = refl
or_right false c e = e

pub untyped_nameless : (types : Table) (of : TypeId) (it : Selected) → is_some (kind_at types of) ≡ true
    → is_nameless types of it ≡ true
untyped_nameless types of it e = or_left (is_some (kind_at types of)) (is_blank types it.name) e

pub selection_found : (types : Table) (of : TypeId) (it : Selected) (blank : Bool) (r : Result Selection SelectError) (one : Selection)
    → is_blank types it.name ≡ blank → (is_blank types it.name ≡ true → r ≡ Err error.Absent)
    → (is_blank types it.name ≡ false → SelectsFrom types (wanted it) of r) → is_some (kind_at types of) ≡ false
    → r ≡ Ok one → IsSelection types of it (fine one)
selection_found types of it true r one e absent found k is = let f = absent e in cc
selection_found types of it false r one e absent found k is =
    IsSelection.selects one (or_both (is_some (kind_at types of)) (is_blank types it.name) k e)
    (subst (λ (s : Result Selection SelectError). SelectsFrom types (wanted it) of s) is (found e))

pub selection_absent : (types : Table) (of : TypeId) (it : Selected) (blank : Bool) (r : Result Selection SelectError)
    → is_blank types it.name ≡ blank → (is_blank types it.name ≡ false → SelectsFrom types (wanted it) of r)
    → is_some (kind_at types of) ≡ false → r ≡ Err error.Absent
    → IsSelection types of it (breaks it.at NoSuchFieldOrMethod)
selection_absent types of it true r e found k is =
    IsSelection.nameless (or_right (is_some (kind_at types of)) (is_blank types it.name) e)
selection_absent types of it false r e found k is =
    IsSelection.absent (or_both (is_some (kind_at types of)) (is_blank types it.name) k e)
    (subst (λ (s : Result Selection SelectError). SelectsFrom types (wanted it) of s) is (found e))

pub selection_ambiguous : (types : Table) (of : TypeId) (it : Selected) (blank : Bool) (r : Result Selection SelectError)
    (first second : List ℕ) → is_blank types it.name ≡ blank → (is_blank types it.name ≡ true → r ≡ Err error.Absent)
    → (is_blank types it.name ≡ false → SelectsFrom types (wanted it) of r) → is_some (kind_at types of) ≡ false
    → r ≡ Err (error.Ambiguous first second) → IsSelection types of it (breaks it.at AmbiguousSelector)
selection_ambiguous types of it true r first second e absent found k is = let f = absent e in cc
selection_ambiguous types of it false r first second e absent found k is =
    IsSelection.ambiguous first second (or_both (is_some (kind_at types of)) (is_blank types it.name) k e)
    (subst (λ (s : Result Selection SelectError). SelectsFrom types (wanted it) of s) is (found e))

pub error_as : (r : Result Selection SelectError) (one two : SelectError) → r ≡ Err one → one ≡ two → r ≡ Err two
error_as r one two e is = subst (λ (x : SelectError). r ≡ Err x) is e

-- ---- fields and methods of values

-- a selection that came, and the value
abbrev pub IsSelectedPair : Selected → Selection × Given → Basis → Basis → Judged TypedExpr → Type 0
IsSelectedPair it (selection, x) before after result = IsSelectedBy it x.expr selection before after result

selection_there : (old new : Ground) (it : Selected) (s : Option Selection) (x : Given) (result : Result (Option TypedExpr) NoMemory)
    → Turns old new result (Soundly (IsSelectedPair it) (option_zip s (Some x)))
    → Turns old new result (Soundly (IsSelectedBy it x.expr) s)
selection_there old new it None x result h = h
selection_there old new it (Some s) x result h = h

pub selects_of : (old mid new : Ground) (it : Selected) (x y : Given) (first : Result (Option Selection) NoMemory) (s : Option Selection)
    (result : Result (Option TypedExpr) NoMemory)
    → Comes old mid first (IsSelection old.types x.expr.of it) → beside first x ≡ Ok (s, y)
    → Turns mid new result (Soundly (IsSelectedPair it) (option_zip s (Some y)))
    → Turns old new result (IsFieldOrMethod it x)
selects_of old mid new it x y first s result h b go =
    let same : y ≡ x = sym (second_stays s y first x b) in
    followed old mid new (Keeps (λ (types : Table). IsSelection types x.expr.of it)) (Soundly (IsSelectedBy it x.expr)) s result
    (keeps old mid (λ (types : Table). IsSelection types x.expr.of it) s
    (outcome_of old mid (IsSelection old.types x.expr.of it) first s (first_came s y first x b) h))
    (selection_there mid new it s x result
    (subst (λ (z : Given). Turns mid new result (Soundly (IsSelectedPair it) (option_zip s (Some z)))) same go))

-- the end of a path
pub path_followed : (old new : Ground) (it : Selected) (x made : TypedExpr) (selection : Selection) (path : List ℕ) (result : Result (Option TypedExpr) NoMemory)
    → path ≡ selection.path → IsAlong old.types x path made
    → Turns old new result (IsSelectedOf it selection.kind selection.result made)
    → Turns old new result (IsSelectedBy it x selection)
path_followed old new it x made selection path result p a h =
    then_soundly old old new (Keeps (λ (types : Table). IsFine (IsAlong types x selection.path)))
    (IsSelectedOf it selection.kind selection.result) (Some made) made result refl
    (keeps old old (λ (types : Table). IsFine (IsAlong types x selection.path)) (Some made)
    (record { judged = fine made; is = (made, (subst (λ (q : List ℕ). IsAlong old.types x q made) p a, refl)); answers = refl; reports = refl })) h

-- by the kind of what is selected
pub selected_as : (old new : Ground) (it : Selected) (k one : SelectionKind) (of : TypeId) (x : TypedExpr) (result : Result (Option TypedExpr) NoMemory)
    → k ≡ one → Turns old new result (IsSelectedOf it one of x) → Turns old new result (IsSelectedOf it k of x)
selected_as old new it k one of x result e h =
    subst (λ (kind : SelectionKind). Turns old new result (IsSelectedOf it kind of x)) (sym e) h

-- ---- methods of values

receives : (old new : Ground) (function : FuncId) (x : TypedExpr) (b : Bool) (result : Result (Option TypedExpr) NoMemory)
    → by_pointer old.types x.of function ≡ b → Turns old new result (IsReceiverOf b x)
    → Turns old new result (IsReceiver function x)
receives old new function x b (Err error) e h = tt
receives old new function x b (Ok answer) e h =
    record {
      judged = h.judged;
      is = subst (λ (p : Bool). IsReceiverOf p x (basis old) (basis new) h.judged) (sym e) h.is;
      answers = h.answers;
      reports = h.reports;
    }

pub pointer_receives : (old new : Ground) (function : FuncId) (x : TypedExpr) (result : Result (Option TypedExpr) NoMemory)
    → by_pointer old.types x.of function ≡ true → Turns old new result (IsAddressed x) → Turns old new result (IsReceiver function x)
pointer_receives old new function x result e h = receives old new function x true result e h

pub value_receives : (old : Ground) (function : FuncId) (x : TypedExpr) (made : Result TypedExpr NoMemory)
    → by_pointer old.types x.of function ≡ false → IfOk made (IsDereferenced old.types x)
    → Turns old old (sound made) (IsReceiver function x)
value_receives old function x made e h =
    receives old old function x false (sound made) e (fine_came old (λ (types : Table). IsDereferenced types x) made h)

pub method_bound : (old new : Ground) (function : FuncId) (signature : TypeId) (x receiver : TypedExpr)
    (first made : Result TypedExpr NoMemory) → Turns old new (sound first) (IsReceiver function x) → first ≡ Ok receiver
    → IfOk made (IsOnOne receiver.at signature (value_form (method.Concrete function)) receiver)
    → Turns old new (sound made) (IsBoundMethod function signature x)
method_bound old new function signature x receiver first made t e h =
    then_soundly old new new (IsReceiver function x) (IsMethodValue signature (method.Concrete function)) (Some receiver) receiver (sound made) refl
    (turned_sound old new (IsReceiver function x) first receiver e t)
    (fine_came new (λ (types : Table). IsOnOne receiver.at signature (value_form (method.Concrete function)) receiver) made h)

-- ---- methods of types

-- what a name selects, as it came
selection_is : (old mid : Ground) (of : TypeId) (it : Selected) (first : Result (Option Selection) NoMemory) (s : Option Selection)
    → Comes old mid first (IsSelection old.types of it) → first ≡ Ok s → Turned old mid s (Keeps (λ types. IsSelection types of it))
selection_is old mid of it first s h e =
    keeps old mid (λ (types : Table). IsSelection types of it) s (outcome_of old mid (IsSelection old.types of it) first s e h)

pub nothing_selected : (old mid : Ground) (at : Pos) (of : TypeId) (it : Selected) (first : Result (Option Selection) NoMemory)
    (s : Option Selection) → Comes old mid first (IsSelection old.types of it) → first ≡ Ok s → s ≡ None
    → Turns old mid (nothing_came {A = TypedExpr}) (IsMethodExpression at of it)
nothing_selected old mid at of it first s h e is =
    then_nothing old mid (Keeps (λ (types : Table). IsSelection types of it)) (IsOfMethodSet at of it) s is (selection_is old mid of it first s h e)

pub method_there : (old mid new : Ground) (at : Pos) (of : TypeId) (it : Selected) (first : Result (Option Selection) NoMemory)
    (s : Option Selection) (one : Selection) (has : Bool) (result : Result (Option TypedExpr) NoMemory)
    → Comes old mid first (IsSelection old.types of it) → first ≡ Ok s → s ≡ Some one
    → (IsTrue has ↔ HasMethod mid.types of it) → has ≡ true
    → Turns mid new result (IsMethodOf at of it one) → Turns old new result (IsMethodExpression at of it)
method_there old mid new at of it first s one has result h e is d t go =
    then_soundly old mid new (Keeps (λ (types : Table). IsSelection types of it)) (IsOfMethodSet at of it) s one result is
    (selection_is old mid of it first s h e)
    (then_soundly mid mid new (Keeps (λ (types : Table). IsInMethodSet types of it one)) (IsMethodOf at of it) (Some one) one result refl
    (keeps mid mid (λ (types : Table). IsInMethodSet types of it one) (Some one)
    (record { judged = fine one; is = IsInMethodSet.has (d.0 t); answers = refl; reports = refl })) go)

pub method_lacks : (old mid new : Ground) (at : Pos) (of : TypeId) (it : Selected) (first : Result (Option Selection) NoMemory)
    (s : Option Selection) (one : Selection) (has : Bool)
    → Comes old mid first (IsSelection old.types of it) → first ≡ Ok s → s ≡ Some one
    → (IsTrue has ↔ HasMethod mid.types of it) → has ≡ false
    → new ≡ reported mid (record { at = it.at; rule = NoSuchFieldOrMethod } ∷ [])
    → Turns old new (nothing_came {A = TypedExpr}) (IsMethodExpression at of it)
method_lacks old mid new at of it first s one has h e is d f r =
    then_soundly old mid new (Keeps (λ (types : Table). IsSelection types of it)) (IsOfMethodSet at of it) s one (nothing_came {A = TypedExpr}) is
    (selection_is old mid of it first s h e)
    (then_nothing mid new (Keeps (λ (types : Table). IsInMethodSet types of it one)) (IsMethodOf at of it) None refl
    (keeps mid new (λ (types : Table). IsInMethodSet types of it one) None
    (record {
      judged = breaks it.at NoSuchFieldOrMethod;
      is = IsInMethodSet.lacks (λ (m : HasMethod mid.types of it). absurd (true≢false (sym (d.1 m) ∙ f)));
      answers = refl;
      reports = r;
    })))

-- the function type of a method expression
pub prefixed : (old new : Ground) (receiver function : TypeId) (s made : Signature) (first : Result TypeId NoMemory)
    → underlying_term_of old.types function ≡ Some (Func s) → made ≡ with_first receiver s
    → IfOk first (λ (id : TypeId). term_at new.types id ≡ Some (Func made))
    → OnOk first (new ≡ record old { types = with_term (Func made) old.types })
    → Turns old new (sound first) (IsPrefixed receiver function)
prefixed old new receiver function s made (Err error) u t n h = tt
prefixed old new receiver function s made (Ok id) u t n h =
    let whole = subst (λ (x : Signature). Turned old new (Some id) (IsHeld (Func x))) t (held old new (Func made) (Ok id) id refl n h) in
    record {
      judged = whole.judged;
      is = record { signature = s; was = u; held = whole.is };
      answers = whole.answers;
      reports = whole.reports;
    }

pub method_made : (old mid new : Ground) (at : Pos) (of : TypeId) (it : Selected) (one : Selection) (first : Result TypeId NoMemory)
    (function : TypeId) (fits : Bool) (made : TypedExpr)
    → Turns old mid (sound first) (IsPrefixed of one.result) → first ≡ Ok function
    → Turns {E = NoMemory} mid new (granted (Ok fits)) (IsLimited at function) → fits ≡ true
    → made ≡ expression_of at of it function → Turns old new (came (Some made)) (IsMethodOf at of it one)
method_made old mid new at of it one first function fits made t e l f m =
    then_soundly old mid new (IsPrefixed of one.result) (IsLimitedExpression at of it) (Some function) function (came (Some made)) refl
    (turned_sound old mid (IsPrefixed of one.result) first function e t)
    (then_soundly mid new new (IsLimited at function) (IsExpressionOf at of it function) (Some tt) tt (came (Some made)) refl
    (was_granted mid new (IsLimited at function) fits f l)
    (asks new new (λ (types : Table). fine (expression_of at of it function)) (Some made) (ap (λ (x : TypedExpr). Some x) m) refl))

pub method_too_large : (old mid new : Ground) (at : Pos) (of : TypeId) (it : Selected) (one : Selection) (first : Result TypeId NoMemory)
    (function : TypeId) (fits : Bool)
    → Turns old mid (sound first) (IsPrefixed of one.result) → first ≡ Ok function
    → Turns {E = NoMemory} mid new (granted (Ok fits)) (IsLimited at function) → fits ≡ false
    → Turns old new (nothing_came {A = TypedExpr}) (IsMethodOf at of it one)
method_too_large old mid new at of it one first function fits t e l f =
    then_soundly old mid new (IsPrefixed of one.result) (IsLimitedExpression at of it) (Some function) function (nothing_came {A = TypedExpr}) refl
    (turned_sound old mid (IsPrefixed of one.result) first function e t)
    (then_nothing mid new (IsLimited at function) (IsExpressionOf at of it function) None refl
    (was_refused mid new (IsLimited at function) fits f l))

-- ---- all

pub of_no_meaning : (old : Ground) (at : Pos) (o : Option Meaning) (it : Selected) → o ≡ None
    → Turns old old (nothing_came {A = TypedExpr}) (IsSelectorOf at o it)
of_no_meaning old at o it e =
    subst (λ (m : Option Meaning). Turns old old (nothing_came {A = TypedExpr}) (IsSelectorOf at m it)) (sym e)
    (asks old old (λ (types : Table). unsound) None refl refl)

pub of_meaning : (old new : Ground) (at : Pos) (o : Option Meaning) (m n : Meaning) (it : Selected) (result : Result (Option TypedExpr) NoMemory)
    → o ≡ Some m → m ≡ n → Turns old new result (IsSelectorOf at (Some n) it) → Turns old new result (IsSelectorOf at o it)
of_meaning old new at o m n it result e is h =
    subst (λ (p : Option Meaning). Turns old new result (IsSelectorOf at p it)) (sym (e ∙ ap (λ (k : Meaning). Some k) is)) h

pub of_builtin : (old new : Ground) (at : Pos) → new ≡ reported old (record { at = at; rule = BadBuiltInCall } ∷ [])
    → Turns old new (nothing_came {A = TypedExpr}) (Asks (λ types. breaks at BadBuiltInCall))
of_builtin old new at r = asks old new (λ (types : Table). breaks at BadBuiltInCall) None refl r

pub of_value : (old mid new : Ground) (it : Selected) (x y : Given) (o : Option Given) (result : Result (Option TypedExpr) NoMemory)
    → o ≡ (single old.types x).sound → mid ≡ reported old (single old.types x).broken → o ≡ Some y
    → Turns mid new result (IsFieldOrMethod it y) → Turns old new result (IsOfValue it x)
of_value old mid new it x y o result a r e h =
    asks_soundly old mid new (λ (types : Table). single types x) (IsFieldOrMethod it) o y result a r e h

pub of_several : (old mid : Ground) (it : Selected) (x : Given) (o : Option Given)
    → o ≡ (single old.types x).sound → mid ≡ reported old (single old.types x).broken → o ≡ None
    → Turns old mid (nothing_came {A = TypedExpr}) (IsOfValue it x)
of_several old mid it x o a r e = asks_nothing old mid (λ (types : Table). single types x) (IsFieldOrMethod it) o a r e
