-- What becomes of calls of `clear`, `close`, `copy`, `delete`, `len` and `cap`.
use Rattle.std.proofs.Common.{◌≡◌, ℤ, refl, sym, ap, ◌∙◌, subst, List, [], ◌∷◌, ◌++◌, Bool, true, false}
use Rattle.std.proofs.Common.{Option, Some, None, Result, Ok, Err}
use Rattle.std.specs.Global.{Vec}
use Rattle.std.specs.Prelude.{IsTrue, ◌↔◌}
use Rattle.std.specs.Option.{option_zip}
use Rattle.go_base.specs.declared.ids.TypeId.{TypeId}
use Rattle.go_base.specs.declared.memory.NoMemory.{NoMemory}
use Rattle.go_base.specs.declared.rule.Rule.TheVariants.{BadBuiltInCall}
use Rattle.go_tree.specs.declared.exprs.ExprKind.TheVariants.{ConstOf}
use Rattle.go_tree.specs.declared.exprs.TypedExpr.{TypedExpr}
use Rattle.go_type.specs.declared.constants.Const.TheVariants as constant
use Rattle.go_type.specs.declared.term.Basic.TheVariants as basic
use Rattle.go_type.specs.Table.{Table, basic_id}
use Rattle.typed_parts.specs.declared.ground.Ground.{Ground}
use Rattle.typed_parts.specs.declared.meaning.Given.{Given}
use Rattle.typed_parts.specs.declared.shapes.Shape.{Shape}
use Rattle.typed_parts.specs.Adapting.{IsAssignedTo}
use Rattle.typed_parts.specs.Joining.{asked, beside, items_of}
use Rattle.typed_parts.specs.Judged.{Comes, IsRest, Judged, Outcome, fine, reported, unsound}
use Rattle.typed_parts.specs.Nodes.{node}
use Rattle.typed_parts.specs.Shapes.{shape_of}
use Rattle.typed_parts.specs.Wholes.{IsTextTyped}
use Rattle.typed_built_ins.specs.declared.built_ins.BuiltInCall.{BuiltInCall}
use Rattle.typed_built_ins.specs.BuiltIns.{IsAction, built_in_node}
use Rattle.typed_built_ins.specs.Measuring.{IsLengthOf, IsMeasured, constant_length, has_length}
use Rattle.typed_built_ins.specs.Moving.{IsCopiedFrom, IsCopy, IsCopyAfter, IsCopyOf, IsCopyTo, IsDelete, IsDeletedFrom}
use Rattle.typed_built_ins.specs.Moving.{IsDeletion, IsSource, MayCopy, copied_to, deleted_from, key_type}
use Rattle.typed_parts.specs.Turning.{Asks, Keeps, Soundly, Turned, Turns}
use Rattle.typed_built_ins.proofs.Asks.{asked_fact}
use Rattle.typed_parts.proofs.Turns.{asked_test, asks, first_came, followed, keeps, keeps_comes, outcome_of, second_stays, then_soundly}

pub deletes : (old mid last new : Ground) (call : BuiltInCall) (m key there : Option Given) (of : Option TypeId)
    (came : Result (Option TypedExpr) NoMemory) (k : Option TypedExpr) (n : Option Given)
    (result : Result (Option TypedExpr) NoMemory)
    → there ≡ (deleted_from old.types m).sound → mid ≡ reported old (deleted_from old.types m).broken
    → of ≡ key_type mid.types there → Comes mid last came (IsAssignedTo mid.types key of)
    → beside came there ≡ Ok (k, n)
    → Turns last new result (Soundly (IsDeletion call) (option_zip n k))
    → Turns old new result (IsDelete call m key)
deletes old mid last new call m key there of came k n result a r t h b go =
    let typed = subst (λ (o : Option TypeId). Comes mid last came (IsAssignedTo mid.types key o)) t h in
    let same : there ≡ n = second_stays k n came there b in
    let goes = subst (λ (o : Option Given). Turns last new result (Soundly (IsDeletion call) (option_zip o k))) (sym same) go in
    followed old mid new (Asks (λ (types : Table). deleted_from types m)) (IsDeletedFrom call key) there result
    (asks old mid (λ (types : Table). deleted_from types m) there a r)
    (followed mid last new (Keeps (λ (types : Table). IsAssignedTo types key (key_type types there)))
    (λ (o : Option TypedExpr). Soundly (IsDeletion call) (option_zip there o)) k result
    (keeps mid last (λ (types : Table). IsAssignedTo types key (key_type types there)) k
    (outcome_of mid last (IsAssignedTo mid.types key (key_type mid.types there)) came k (first_came k n came there b) typed))
    goes)

pub copies : (old mid last new : Ground) (call : BuiltInCall) (to from source there : Option Given) (answer : Option Given)
    (result : Result (Option TypedExpr) NoMemory)
    → Outcome old mid source (IsTextTyped old.types from)
    → there ≡ (copied_to mid.types to).sound → last ≡ reported mid (copied_to mid.types to).broken
    → Outcome last new answer (IsCopiedFrom last.types there source)
    → Turns new new result (Soundly (IsCopyOf call) (option_zip there answer))
    → Turns old new result (IsCopy call to from)
copies old mid last new call to from source there answer result text a r h go =
    followed old mid new (Keeps (λ (types : Table). IsTextTyped types from)) (IsCopyAfter call to) source result
    (keeps old mid (λ (types : Table). IsTextTyped types from) source text)
    (followed mid last new (Asks (λ (types : Table). copied_to types to)) (IsCopyTo call source) there result
    (asks mid last (λ (types : Table). copied_to types to) there a r)
    (followed last new new (Keeps (λ (types : Table). IsCopiedFrom types there source))
    (λ (s : Option Given). Soundly (IsCopyOf call) (option_zip there s)) answer result
    (keeps last new (λ (types : Table). IsCopiedFrom types there source) answer h) go))

-- ---- len and cap

pub length_known : (g : Ground) (call : BuiltInCall) (expr : TypedExpr) (l : Option ℤ) (len : ℤ) (made : TypedExpr)
    → l ≡ Some len → made ≡ node call.at (basic_id basic.Int) (ConstOf (constant.Int len))
    → Outcome g g (Some made) (IsLengthOf call expr l)
length_known g call expr l len made e m =
    subst (λ (o : Option ℤ). Outcome g g (Some made) (IsLengthOf call expr o)) (sym e)
    (record { judged = fine made; is = ap (λ (x : TypedExpr). fine x) m; answers = refl; reports = refl })

pub length_called : (g : Ground) (call : BuiltInCall) (expr : TypedExpr) (l : Option ℤ) (v : Vec TypedExpr) (made : TypedExpr)
    → l ≡ None → v.items ≡ expr ∷ [] → made ≡ built_in_node call (basic_id basic.Int) None v false
    → Outcome g g (Some made) (IsLengthOf call expr l)
length_called g call expr l v made e i m =
    subst (λ (o : Option ℤ). Outcome g g (Some made) (IsLengthOf call expr o)) (sym e)
    (record { judged = fine made; is = (made, ((v, (i, m)), refl)); answers = refl; reports = refl })

pub measured : (mid new : Ground) (call : BuiltInCall) (x y : Given) (shape : Option Shape) (takes : Bool) (o : Option Given)
    (result : Result (Option TypedExpr) NoMemory)
    → shape ≡ shape_of mid.types x.expr.of → takes ≡ has_length call.builtin shape
    → o ≡ (asked x takes BadBuiltInCall).sound → new ≡ reported mid (asked x takes BadBuiltInCall).broken → o ≡ Some y
    → Comes new new result (IsLengthOf call y.expr (constant_length shape y.expr))
    → Turns mid new result (IsMeasured call x)
measured mid new call x y shape false o result s t a r e h = cc
measured mid new call x y shape true o result s t a r e h =
    let same : x ≡ y = cc in
    let here : new ≡ mid = r in
    let shaped : shape ≡ shape_of new.types y.expr.of = s ∙ (ap (λ (z : Given). shape_of mid.types z.expr.of) same ∙ ap (λ (g : Ground). shape_of g.types y.expr.of) (sym here)) in
    then_soundly mid new new (Asks (λ (types : Table). asked x (has_length call.builtin (shape_of types x.expr.of)) BadBuiltInCall))
    (λ (z : Given). Keeps (λ (types : Table). IsLengthOf call z.expr (constant_length (shape_of types z.expr.of) z.expr))) o y result e
    (asked_test mid new x true BadBuiltInCall (λ (types : Table). has_length call.builtin (shape_of types x.expr.of)) o
    (ap (λ (p : Option Shape). has_length call.builtin p) (sym s) ∙ sym t) a r)
    (keeps_comes new new (λ (types : Table). IsLengthOf call y.expr (constant_length (shape_of types y.expr.of) y.expr)) result
    (subst (λ (p : Option Shape). Comes new new result (IsLengthOf call y.expr (constant_length p y.expr))) shaped h))

abbrev pub no_given : Option Given
no_given = None

-- ---- copy

pub source_asked : (old new : Ground) (pair : Option (TypeId × Given)) (elem : TypeId) (from : Given) (may : Bool)
    (answer : Option Given) → pair ≡ Some (elem, from) → (IsTrue may ↔ MayCopy old.types elem from.expr.of)
    → answer ≡ (asked from may BadBuiltInCall).sound → new ≡ reported old (asked from may BadBuiltInCall).broken
    → Outcome old new answer (IsRest pair (IsSource old.types))
source_asked old new pair elem from may answer e d a r =
    subst (λ (p : Option (TypeId × Given)). Outcome old new answer (IsRest p (IsSource old.types))) (sym e)
    (record {
      judged = asked from may BadBuiltInCall;
      is = asked_fact from may BadBuiltInCall (MayCopy old.types elem from.expr.of) d;
      answers = a;
      reports = r;
    })

pub no_source : (old : Ground) (pair : Option (TypeId × Given)) → pair ≡ None
    → Outcome old old no_given (IsRest pair (IsSource old.types))
no_source old pair e =
    subst (λ (p : Option (TypeId × Given)). Outcome old old no_given (IsRest p (IsSource old.types))) (sym e)
    (record { judged = unsound; is = refl; answers = refl; reports = refl })
