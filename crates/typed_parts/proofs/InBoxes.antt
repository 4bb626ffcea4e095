-- What functions make of operands that came.
use Rattle.std.proofs.Common.{◌≡◌, ◌∙◌, refl, sym, ap, subst, Option, Some, None, Result, Ok, Err, false}
use Rattle.std.specs.Global.{Box, Vec}
use Rattle.go_base.specs.declared.ids.TypeId.{TypeId}
use Rattle.go_base.specs.declared.memory.NoMemory.{NoMemory}
use Rattle.go_base.specs.declared.place.Pos.{Pos}
use Rattle.go_tree.specs.declared.exprs.ExprKind.{ExprKind}
use Rattle.go_tree.specs.declared.exprs.ExprKind.TheVariants as kinds
use Rattle.go_tree.specs.declared.exprs.TypedExpr.{TypedExpr}
use Rattle.go_type.specs.declared.operators.BinaryOp.{BinaryOp}
use Rattle.go_type.specs.declared.operators.Builtin.{Builtin}
use Rattle.typed_parts.specs.Joining.{both}
use Rattle.typed_parts.specs.Nodes.{AreBoxed, IsBoxed, node}
use Rattle.typed_parts.specs.Retyping.{IsOfList, IsOfOne, IsOfTwo, Makes}

abbrev CameBox : Type 0
CameBox = Result (Option (Box TypedExpr)) NoMemory

abbrev CameBoxes : Type 0
CameBoxes = Result (Option (Box TypedExpr × Box TypedExpr)) NoMemory

one_of : (at : Pos) (of : TypeId) (form : Box TypedExpr → ExprKind) (operand : Result (Option TypedExpr) NoMemory)
    (b : Box TypedExpr) (made : TypedExpr) → operand ≡ Ok (Some b.value) → made ≡ node at of (form b)
    → Makes (IsOfOne at of form) operand (Ok (Some made))
one_of at of form operand b made e m =
    subst (λ (o : Result (Option TypedExpr) NoMemory). Makes (IsOfOne at of form) o (Ok (Some made))) (sym e)
    (b, (refl, ap Some m))

pub one_made : (at : Pos) (of : TypeId) (form : Box TypedExpr → ExprKind) (operand : Result (Option TypedExpr) NoMemory)
    (boxed : CameBox) (o : Option (Box TypedExpr)) (b : Box TypedExpr) (made : TypedExpr)
    → IsBoxed operand boxed → boxed ≡ Ok o → o ≡ Some b → made ≡ node at of (form b)
    → Makes (IsOfOne at of form) operand (Ok (Some made))
one_made at of form operand boxed o b made h was is m =
    one_of at of form operand b made (subst (λ (r : CameBox). IsBoxed operand r) (was ∙ ap Ok is) h) m

none_of : (at : Pos) (of : TypeId) (form : Box TypedExpr → ExprKind) (operand : Result (Option TypedExpr) NoMemory)
    → operand ≡ Ok None → Makes (IsOfOne at of form) operand (Ok None)
none_of at of form operand e =
    subst (λ (o : Result (Option TypedExpr) NoMemory). Makes (IsOfOne at of form) o (Ok None)) (sym e) refl

pub one_not_made : (at : Pos) (of : TypeId) (form : Box TypedExpr → ExprKind)
    (operand : Result (Option TypedExpr) NoMemory) (boxed : CameBox) (o : Option (Box TypedExpr))
    → IsBoxed operand boxed → boxed ≡ Ok o → o ≡ None → Makes (IsOfOne at of form) operand (Ok None)
one_not_made at of form operand boxed o h was is =
    none_of at of form operand (subst (λ (r : CameBox). IsBoxed operand r) (was ∙ ap Ok is) h)

two_of : (at : Pos) (of : TypeId) (form : Box TypedExpr → Box TypedExpr → ExprKind)
    (operands : Result (Option (TypedExpr × TypedExpr)) NoMemory) (b c : Box TypedExpr) (made : TypedExpr)
    → operands ≡ Ok (Some (b.value, c.value)) → made ≡ node at of (form b c)
    → Makes (IsOfTwo at of form) operands (Ok (Some made))
two_of at of form operands b c made e m =
    subst (λ (o : Result (Option (TypedExpr × TypedExpr)) NoMemory). Makes (IsOfTwo at of form) o (Ok (Some made)))
    (sym e) (b, (c, (refl, (refl, ap Some m))))

pub two_made : (at : Pos) (of : TypeId) (form : Box TypedExpr → Box TypedExpr → ExprKind)
    (operands : Result (Option (TypedExpr × TypedExpr)) NoMemory) (boxed : CameBoxes)
    (o : Option (Box TypedExpr × Box TypedExpr)) (b c : Box TypedExpr) (made : TypedExpr)
    → AreBoxed operands boxed → boxed ≡ Ok o → o ≡ Some (b, c) → made ≡ node at of (form b c)
    → Makes (IsOfTwo at of form) operands (Ok (Some made))
two_made at of form operands boxed o b c made h was is m =
    two_of at of form operands b c made (subst (λ (r : CameBoxes). AreBoxed operands r) (was ∙ ap Ok is) h) m

neither_of : (at : Pos) (of : TypeId) (form : Box TypedExpr → Box TypedExpr → ExprKind)
    (operands : Result (Option (TypedExpr × TypedExpr)) NoMemory) → operands ≡ Ok None
    → Makes (IsOfTwo at of form) operands (Ok None)
neither_of at of form operands e =
    subst (λ (o : Result (Option (TypedExpr × TypedExpr)) NoMemory). Makes (IsOfTwo at of form) o (Ok None)) (sym e) refl

pub two_not_made : (at : Pos) (of : TypeId) (form : Box TypedExpr → Box TypedExpr → ExprKind)
    (operands : Result (Option (TypedExpr × TypedExpr)) NoMemory) (boxed : CameBoxes)
    (o : Option (Box TypedExpr × Box TypedExpr))
    → AreBoxed operands boxed → boxed ≡ Ok o → o ≡ None → Makes (IsOfTwo at of form) operands (Ok None)
two_not_made at of form operands boxed o h was is =
    neither_of at of form operands (subst (λ (r : CameBoxes). AreBoxed operands r) (was ∙ ap Ok is) h)

-- the operand of a shift beside its count
shift_of : (at : Pos) (of : TypeId) (op : BinaryOp) (operand : Result (Option TypedExpr) NoMemory) (boxed : CameBox)
    (count b c : Box TypedExpr) (made : TypedExpr)
    → IsBoxed operand boxed → both boxed (Ok (Some count)) ≡ Ok (Some (b, c)) → made ≡ node at of (kinds.BinaryOf op b c)
    → Makes (IsOfOne at of (λ x. kinds.BinaryOf op x count)) operand (Ok (Some made))
shift_of at of op operand (Err error) count b c made h e m = cc
shift_of at of op operand (Ok None) count b c made h e m = cc
shift_of at of op operand (Ok (Some d)) count b c made h e m =
    let pairs : (d, count) ≡ (b, c) = cc in
    let first : d ≡ b = ap (λ (p : Box TypedExpr × Box TypedExpr). p.0) pairs in
    let second : count ≡ c = ap (λ (p : Box TypedExpr × Box TypedExpr). p.1) pairs in
    one_of at of (λ x. kinds.BinaryOf op x count) operand d made h
    (m ∙ (ap (λ (x : Box TypedExpr). node at of (kinds.BinaryOf op x c)) (sym first)
    ∙ ap (λ (y : Box TypedExpr). node at of (kinds.BinaryOf op d y)) (sym second)))

pub shift_made : (at : Pos) (of : TypeId) (op : BinaryOp) (operand : Result (Option TypedExpr) NoMemory) (boxed : CameBox)
    (joined : CameBoxes) (o : Option (Box TypedExpr × Box TypedExpr)) (count b c : Box TypedExpr) (made : TypedExpr)
    → IsBoxed operand boxed → joined ≡ both boxed (Ok (Some count)) → joined ≡ Ok o → o ≡ Some (b, c)
    → made ≡ node at of (kinds.BinaryOf op b c)
    → Makes (IsOfOne at of (λ x. kinds.BinaryOf op x count)) operand (Ok (Some made))
shift_made at of op operand boxed joined o count b c made h j was is m =
    shift_of at of op operand boxed count b c made h (sym j ∙ (was ∙ ap Ok is)) m

no_shift_of : (at : Pos) (of : TypeId) (op : BinaryOp) (operand : Result (Option TypedExpr) NoMemory) (boxed : CameBox)
    (count : Box TypedExpr) → IsBoxed operand boxed → both boxed (Ok (Some count)) ≡ Ok None
    → Makes (IsOfOne at of (λ x. kinds.BinaryOf op x count)) operand (Ok None)
no_shift_of at of op operand (Err error) count h e = cc
no_shift_of at of op operand (Ok None) count h e = none_of at of (λ x. kinds.BinaryOf op x count) operand h
no_shift_of at of op operand (Ok (Some d)) count h e = cc

pub shift_not_made : (at : Pos) (of : TypeId) (op : BinaryOp) (operand : Result (Option TypedExpr) NoMemory)
    (boxed : CameBox) (joined : CameBoxes) (o : Option (Box TypedExpr × Box TypedExpr)) (count : Box TypedExpr)
    → IsBoxed operand boxed → joined ≡ both boxed (Ok (Some count)) → joined ≡ Ok o → o ≡ None
    → Makes (IsOfOne at of (λ x. kinds.BinaryOf op x count)) operand (Ok None)
shift_not_made at of op operand boxed joined o count h j was is =
    no_shift_of at of op operand boxed count h (sym j ∙ (was ∙ ap Ok is))

abbrev CameList : Type 0
CameList = Result (Option (Vec TypedExpr)) NoMemory

pub each_made : (at : Pos) (of : TypeId) (builtin : Builtin) (arguments : CameList) (o : Option (Vec TypedExpr))
    (v : Vec TypedExpr) (made : TypedExpr) → arguments ≡ Ok o → o ≡ Some v
    → made ≡ node at of (kinds.BuiltinOf builtin None v false)
    → Makes (IsOfList at of builtin) arguments (Ok (Some made))
each_made at of builtin arguments o v made was is m =
    subst (λ (r : CameList). Makes (IsOfList at of builtin) r (Ok (Some made)))
    (sym (was ∙ ap Ok is)) (v, (refl, ap Some m))

pub each_not_made : (at : Pos) (of : TypeId) (builtin : Builtin) (arguments : CameList) (o : Option (Vec TypedExpr))
    → arguments ≡ Ok o → o ≡ None → Makes (IsOfList at of builtin) arguments (Ok None)
each_not_made at of builtin arguments o was is =
    subst (λ (r : CameList). Makes (IsOfList at of builtin) r (Ok None)) (sym (was ∙ ap Ok is)) refl
