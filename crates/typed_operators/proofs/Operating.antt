-- What rules make of operands, of what becomes of their parts.
use Rattle.std.proofs.Common.{◌≡◌, refl, sym, ap, ◌∙◌, subst, List, [], ◌∷◌, ◌++◌, Bool, true, false, append_assoc}
use Rattle.std.proofs.Common.{Option, Some, None, Result, Ok, Err}
use Rattle.std.specs.Global.{Box}
use Rattle.std.specs.Option.{option_map, option_zip}
use Rattle.std.specs.Prelude.{IfOk, is_some, int_lt}
use Rattle.go_base.specs.declared.ids.TypeId.{TypeId}
use Rattle.go_base.specs.declared.memory.NoMemory.{NoMemory}
use Rattle.go_base.specs.declared.place.Pos.{Pos}
use Rattle.go_base.specs.declared.rule.Rule.TheVariants.{BadChannelOperation, BadOperand}
use Rattle.go_tree.specs.declared.exprs.ExprKind.{ExprKind}
use Rattle.go_tree.specs.declared.exprs.ExprKind.TheVariants.{ConvertTo, Deref, UnaryOf}
use Rattle.go_tree.specs.declared.exprs.TypedExpr.{TypedExpr}
use Rattle.go_type.specs.declared.constants.Const.{Const}
use Rattle.go_type.specs.declared.operators.UnaryOp.{UnaryOp}
use Rattle.go_type.specs.Assignable.{underlying_term_of}
use Rattle.go_type.specs.Table.{Table}
use Rattle.typed_parts.specs.declared.ground.Ground.{Ground}
use Rattle.typed_parts.specs.declared.meaning.Given.{Given}
use Rattle.typed_parts.specs.declared.meaning.Seen.{Seen}
use Rattle.typed_parts.specs.Joining.{both, paired, sound}
use Rattle.typed_parts.specs.Judged.{Broken, Comes, Exactly, IsFine, IsRest, IsThen, IsWhere, Judged, Outcome, breaks, fine, judged}
use Rattle.typed_parts.specs.Judged.{reported, unsound}
use Rattle.typed_parts.specs.Meanings.{one_value}
use Rattle.typed_parts.specs.Nodes.{node}
use Rattle.typed_parts.specs.Numbers.{constant_in}
use Rattle.typed_parts.specs.Retyping.{IsDefaulted, IsGiven, IsOfTwo, Makes}
use Rattle.typed_parts.specs.Shapes.{pointed}
use Rattle.typed_parts.proofs.Reports.{reported_after}
use Rattle.typed_parts.proofs.Steps.{broke, came, exactly, fine_made, nothing, nothing_came, of_made, rest_comes, stays}
use Rattle.typed_parts.proofs.Steps.{then_comes, then_nothing}
use Rattle.typed_operators.specs.declared.unary.SignOp.{SignOp}
use Rattle.typed_operators.specs.declared.unary.SignOp.TheVariants as sign_op
use Rattle.typed_operators.specs.Made.{IsOnOne, IsOnTwo}
use Rattle.typed_operators.specs.Unary.{IsIndirect, IsIndirectOf, IsOperation, IsOperationOf, IsPlus, IsPlusOf, IsReceipt, IsReceiptOf}
use Rattle.typed_operators.specs.Unary.{IsSignedAs}
use Rattle.typed_operators.specs.Unary.{folded, is_plain, receipt, received}

-- ---- a rule after one that is a function

pub exact_then : {A B : Type 0} (old mid new : Ground) (one : Judged A) (Rest : Table → A → Judged B → Type 0)
    (o : Option A) (x : A) (result : Result (Option B) NoMemory)
    → o ≡ one.sound → mid ≡ reported old one.broken → o ≡ Some x → Comes mid new result (Rest mid.types x)
    → Comes old new result (IsThen (Exactly one) (Rest old.types))
exact_then old mid new one Rest o x result a r e k =
    then_comes old mid new (Exactly one) Rest o x result e (exactly old mid one o a r) k

pub exact_nothing : {A B : Type 0} (old mid : Ground) (one : Judged A) (Rest : Table → A → Judged B → Type 0)
    (o : Option A) → o ≡ one.sound → mid ≡ reported old one.broken → o ≡ None
    → Comes old mid (nothing_came {A = B}) (IsThen (Exactly one) (Rest old.types))
exact_nothing old mid one Rest o a r e = then_nothing old mid (Exactly one) Rest o e (exactly old mid one o a r)

pub exact_rest : {A B : Type 0} (old mid new : Ground) (one : Judged A) (Rest : Table → A → Judged B → Type 0)
    (o : Option A) (result : Result (Option B) NoMemory)
    → o ≡ one.sound → mid ≡ reported old one.broken → Comes mid new result (IsRest o (Rest mid.types))
    → Comes old new result (IsThen (Exactly one) (Rest old.types))
exact_rest old mid new one Rest o result a r k =
    rest_comes old mid new (Exactly one) Rest o result (exactly old mid one o a r) k

-- a rule that is a function, and the last
pub exactly_came : {A : Type 0} (old new : Ground) (one : Judged A) (o : Option A)
    → o ≡ one.sound → new ≡ reported old one.broken → Comes old new (came o) (Exactly one)
exactly_came old new one o a r = exactly old new one o a r

-- ---- nodes

pub on_one : (at : Pos) (of : TypeId) (form : Box TypedExpr → ExprKind) (x : TypedExpr) (b : Box TypedExpr) (made : TypedExpr)
    → b.value ≡ x → made ≡ node at of (form b) → IsOnOne at of form x made
on_one at of form x b made e m = subst (λ (y : TypedExpr). IsOnOne at of form x y) (sym m) (IsOnOne.in_box b e)

pub on_two : (at : Pos) (of : TypeId) (form : Box TypedExpr → Box TypedExpr → ExprKind) (x y : TypedExpr)
    (b c : Box TypedExpr) (made : TypedExpr)
    → b.value ≡ x → c.value ≡ y → made ≡ node at of (form b c) → IsOnTwo at of form x y made
on_two at of form x y b c made e f m =
    subst (λ (z : TypedExpr). IsOnTwo at of form x y z) (sym m) (IsOnTwo.in_boxes b c e f)

-- two operands that came are made one node
pub two_fine : (old : Ground) (at : Pos) (of : TypeId) (form : Box TypedExpr → Box TypedExpr → ExprKind) (x y : TypedExpr)
    (result : Result (Option TypedExpr) NoMemory)
    → Makes {E = NoMemory} (IsOfTwo at of form) (Ok (Some (x, y))) result
    → Comes old old result (IsFine (IsOnTwo at of form x y))
two_fine old at of form x y (Err error) h = tt
two_fine old at of form x y (Ok answer) h =
    let made = node at of (form h.0 h.1.0) in
    record {
      judged = fine made;
      is = (made, (on_two at of form x y h.0 h.1.0 made h.1.1.0 h.1.1.1.0 refl, refl));
      answers = h.1.1.1.1;
      reports = refl;
    }

-- ---- operators on one operand

pub plus_same : (types : Table) (at : Pos) (x made : TypedExpr) → is_plain types x ≡ true → made ≡ node at x.of x.kind
    → IsPlus types at x made
plus_same types at x made e m = subst (λ (b : Bool). IsPlusOf at x b made) (sym e) m

pub plus_value : (types : Table) (at : Pos) (x : TypedExpr) (made : Result TypedExpr NoMemory) → is_plain types x ≡ false
    → IfOk made (IsOnOne at x.of ConvertTo x) → IfOk made (IsPlus types at x)
plus_value types at x (Err error) e m = tt
plus_value types at x (Ok made) e m = subst (λ (b : Bool). IsPlusOf at x b made) (sym e) m

folded_of : (old new : Ground) (at : Pos) (op : UnaryOp) (x : TypedExpr) (o : Option Const) (answer : Option TypedExpr)
    → is_some o ≡ true → answer ≡ (judged o (folded old.types at op x.of)).sound
    → new ≡ reported old (judged o (folded old.types at op x.of)).broken
    → Comes old new (came answer) (IsOperationOf old.types at op x o)
folded_of old new at op x None answer e a r = cc
folded_of old new at op x (Some value) answer e a r = exactly old new (folded old.types at op x.of value) answer a r

pub operation_folded : (old new : Ground) (at : Pos) (op : UnaryOp) (x : TypedExpr) (answer : Option TypedExpr)
    → is_some (constant_in x.kind) ≡ true → answer ≡ (judged (constant_in x.kind) (folded old.types at op x.of)).sound
    → new ≡ reported old (judged (constant_in x.kind) (folded old.types at op x.of)).broken
    → Comes old new (came answer) (IsOperation old.types at op x)
operation_folded old new at op x answer e a r = folded_of old new at op x (constant_in x.kind) answer e a r

operated_of : (old : Ground) (at : Pos) (op : UnaryOp) (x : TypedExpr) (o : Option Const) (made : Result TypedExpr NoMemory)
    (result : Result (Option TypedExpr) NoMemory)
    → is_some o ≡ false → IfOk made (IsOnOne at x.of (UnaryOf op) x) → result ≡ sound made
    → Comes old old result (IsOperationOf old.types at op x o)
operated_of old at op x (Some value) made result e h s = cc
operated_of old at op x None made result e h s = fine_made old (IsOnOne at x.of (UnaryOf op) x) made result h s

pub operation_made : (old : Ground) (at : Pos) (op : UnaryOp) (x : TypedExpr) (made : Result TypedExpr NoMemory)
    (result : Result (Option TypedExpr) NoMemory)
    → is_some (constant_in x.kind) ≡ false → IfOk made (IsOnOne at x.of (UnaryOf op) x) → result ≡ sound made
    → Comes old old result (IsOperation old.types at op x)
operation_made old at op x made result e h s = operated_of old at op x (constant_in x.kind) made result e h s

pub indirect_made : (old : Ground) (at : Pos) (x : Given) (base : TypeId) (made : Result TypedExpr NoMemory)
    (result : Result (Option TypedExpr) NoMemory)
    → pointed old.types x.expr.of ≡ Some base → IfOk made (IsOnOne at base Deref x.expr) → result ≡ sound made
    → Comes old old result (IsIndirect old.types at x)
indirect_made old at x base made result e h s =
    subst (λ (o : Option TypeId). Comes old old result (IsIndirectOf at x o)) (sym e)
    (fine_made old (IsOnOne at base Deref x.expr) made result h s)

pub no_indirect : (old new : Ground) (at : Pos) (x : Given) → pointed old.types x.expr.of ≡ None
    → new ≡ reported old (record { at = x.at; rule = BadOperand } ∷ [])
    → Comes old new (came None) (IsIndirect old.types at x)
no_indirect old new at x e r =
    subst (λ (o : Option TypeId). Comes old new (came None) (IsIndirectOf at x o)) (sym e)
    (broke old new (IsIndirectOf at x None) x.at BadOperand refl r)

pub receipt_made : (old : Ground) (at : Pos) (x : Given) (elem : TypeId) (made : Result TypedExpr NoMemory)
    (result : Result (Option TypedExpr) NoMemory)
    → received (underlying_term_of old.types x.expr.of) ≡ Some elem → IfOk made (IsOnOne at elem receipt x.expr)
    → result ≡ sound made → Comes old old result (IsReceipt old.types at x)
receipt_made old at x elem made result e h s =
    subst (λ (o : Option TypeId). Comes old old result (IsReceiptOf at x o)) (sym e)
    (fine_made old (IsOnOne at elem receipt x.expr) made result h s)

pub no_receipt : (old new : Ground) (at : Pos) (x : Given) → received (underlying_term_of old.types x.expr.of) ≡ None
    → new ≡ reported old (record { at = x.at; rule = BadChannelOperation } ∷ [])
    → Comes old new (came None) (IsReceipt old.types at x)
no_receipt old new at x e r =
    subst (λ (o : Option TypeId). Comes old new (came None) (IsReceiptOf at x o)) (sym e)
    (broke old new (IsReceiptOf at x None) x.at BadChannelOperation refl r)

pub signed_plus : (old : Ground) (at : Pos) (op : SignOp) (x : Given) (result : Result (Option TypedExpr) NoMemory)
    → op ≡ sign_op.Plus → Comes old old result (IsFine (IsPlus old.types at x.expr))
    → Comes old old result (IsSignedAs old.types at op x)
signed_plus old at op x result e h =
    subst (λ (o : SignOp). Comes old old result (IsSignedAs old.types at o x)) (sym e) h

-- two values, and what is asked of both
pub asked_reported : (old : Ground) (x y : Seen) (ask : Table → Option Given → Option Given → List Broken) (m1 m2 m3 : Ground)
    (ox oy : Option Given)
    → ox ≡ (one_value old.types x).sound → m1 ≡ reported old (one_value old.types x).broken
    → oy ≡ (one_value m1.types y).sound → m2 ≡ reported m1 (one_value m1.types y).broken
    → m3 ≡ reported m2 (ask m2.types ox oy)
    → m3 ≡ reported old ((one_value old.types x).broken ++ ((one_value old.types y).broken
    ++ ask old.types (one_value old.types x).sound (one_value old.types y).sound))
asked_reported old x y ask m1 m2 m3 ox oy ex r1 ey r2 r3 =
    let t1 : m1.types ≡ old.types = ap (λ (g : Ground). g.types) r1 in
    let t2 : m2.types ≡ old.types = ap (λ (g : Ground). g.types) r2 ∙ t1 in
    let sx = one_value old.types x in
    let sy = one_value old.types y in
    let y_is : oy ≡ sy.sound = ey ∙ ap (λ (t : Table). (one_value t y).sound) t1 in
    let s2 : m2 ≡ reported (reported old sx.broken) sy.broken =
    r2 ∙ (ap (λ (t : Table). reported m1 (one_value t y).broken) t1 ∙ ap (λ (g : Ground). reported g sy.broken) r1) in
    let asks : ask m2.types ox oy ≡ ask old.types sx.sound sy.sound =
    ap (λ (t : Table). ask t ox oy) t2 ∙ (ap (λ (o : Option Given). ask old.types o oy) ex
    ∙ ap (λ (o : Option Given). ask old.types sx.sound o) y_is) in
    let last = ask old.types sx.sound sy.sound in
    r3 ∙ (ap (λ (b : List Broken). reported m2 b) asks ∙ (ap (λ (g : Ground). reported g last) s2
    ∙ (reported_after (reported old sx.broken) sy.broken last ∙ reported_after old sx.broken (sy.broken ++ last))))
