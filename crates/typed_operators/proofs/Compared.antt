-- Comparisons, shifts and what statements ask, of what becomes of their parts.
use Rattle.std.proofs.Common.{◌≡◌, refl, sym, ap, ◌∙◌, subst, List, [], ◌∷◌, ◌++◌, Bool, true, false}
use Rattle.std.proofs.Common.{Option, Some, None, Result, Ok, Err}
use Rattle.std.specs.Global.{Box}
use Rattle.std.specs.Option.{option_zip}
use Rattle.std.specs.Prelude.{ℤ, IfOk}
use Rattle.go_base.specs.declared.ids.TypeId.{TypeId}
use Rattle.go_base.specs.declared.memory.NoMemory.{NoMemory}
use Rattle.go_base.specs.declared.place.Pos.{Pos}
use Rattle.go_base.specs.declared.rule.Rule.TheVariants.{NotComparable}
use Rattle.go_rules.specs.declared.matching.Matched.{Matched}
use Rattle.go_rules.specs.declared.matching.Matched.TheVariants as match_of
use Rattle.go_rules.specs.declared.untyped.Untyped.TheVariants as kind
use Rattle.go_rules.specs.Folding.{compared}
use Rattle.go_rules.specs.Matching.{compared_types}
use Rattle.go_rules.specs.Operands.{TakesComparison}
use Rattle.go_tree.specs.declared.exprs.ExprKind.TheVariants.{BinaryOf, CompareOf, ConstOf}
use Rattle.go_tree.specs.declared.exprs.TypedExpr.{TypedExpr}
use Rattle.go_tree.specs.declared.stmts.TypedCase.{TypedCase}
use Rattle.go_type.specs.declared.constants.Const.{Const}
use Rattle.go_type.specs.declared.constants.Const.TheVariants as constant
use Rattle.go_type.specs.declared.operators.BinaryOp.{BinaryOp}
use Rattle.go_type.specs.declared.operators.CompareOp.{CompareOp}
use Rattle.go_type.specs.declared.operators.CompareOp.TheVariants as compare
use Rattle.go_type.specs.declared.term.Basic.TheVariants as basic
use Rattle.go_type.specs.Assignable.{Assignable}
use Rattle.go_type.specs.Table.{Table, basic_id}
use Rattle.typed_parts.specs.declared.ground.Ground.{Ground}
use Rattle.typed_parts.specs.declared.meaning.Given.{Given}
use Rattle.typed_parts.specs.declared.meaning.Seen.{Seen}
use Rattle.typed_parts.specs.Adapting.{IsAssignedTo, IsMade}
use Rattle.typed_parts.specs.Joining.{beside, both, paired}
use Rattle.typed_parts.specs.Judged.{Comes, Exactly, Judged, Outcome, breaks, fine, reported}
use Rattle.typed_parts.specs.Meanings.{one_value}
use Rattle.typed_parts.specs.Nodes.{node, untyped}
use Rattle.typed_parts.specs.Numbers.{integer_of}
use Rattle.typed_parts.specs.Retyping.{IsDefaulted, IsOfTwo, Makes}
use Rattle.typed_parts.proofs.Reports.{reported_after}
use Rattle.typed_parts.proofs.Steps.{broke, came, stays, weaker}
use Rattle.typed_operators.specs.declared.pairs.Pair.{Pair}
use Rattle.typed_operators.specs.declared.stating.Sent.{Sent}
use Rattle.typed_operators.specs.Comparing.{AreCompared, AreDefaulted, IsAsked, IsAskedCase, IsCaseMatched, IsCaseOf, IsCaseOperand}
use Rattle.typed_operators.specs.Comparing.{IsComparablePair, IsCompared, IsComparedOf, IsLevelled, IsMatchedFor, IsPairMatched}
use Rattle.typed_operators.specs.Comparing.{with_nil}
use Rattle.typed_operators.specs.Comparing.{IsTruth, IsTruthCaseOf, IsTruthOf, true_node}
use Rattle.typed_operators.specs.Pairs.{both_judged, constants, joined, pair}
use Rattle.typed_operators.specs.Shifting.{AreShiftOperands, IsCount, IsShiftedBy, IsShiftedOf, shift_op, shift_operands, shift_value}
use Rattle.typed_operators.specs.Shifting.{shifted}
use Rattle.typed_operators.specs.Stating.{IsConstantAs, IsSend, elem_sent, send_parts, sent_channel, sent_of}
use Rattle.typed_operators.proofs.Operating.{on_two, two_fine}
use Rattle.typed_operators.proofs.Paired.{CameExpr, CamePair}

-- ---- what is asked of operands

pub asked_is : (old : Ground) (op : CompareOp) (at : Pos) (nil : Bool) (operands : Pair)
    → IsAsked old.types op at nil operands (fine operands)
    → Outcome old old (Some operands) (IsAsked old.types op at nil operands)
asked_is old op at nil operands is = record { judged = fine operands; is = is; answers = refl; reports = refl }

pub asked_not : (old new : Ground) (op : CompareOp) (at : Pos) (nil : Bool) (operands : Pair)
    → IsAsked old.types op at nil operands (breaks at NotComparable)
    → new ≡ reported old (record { at = at; rule = NotComparable } ∷ [])
    → Outcome old new None (IsAsked old.types op at nil operands)
asked_not old new op at nil operands is r =
    record { judged = breaks at NotComparable; is = is; answers = refl; reports = r }

pub case_is : (old : Ground) (at : Pos) (nil : Bool) (tag : TypeId) (value : TypedExpr)
    → IsAskedCase old.types at nil tag value (fine value)
    → Outcome old old (Some value) (IsAskedCase old.types at nil tag value)
case_is old at nil tag value is = record { judged = fine value; is = is; answers = refl; reports = refl }

pub case_not : (old new : Ground) (at : Pos) (nil : Bool) (tag : TypeId) (value : TypedExpr)
    → IsAskedCase old.types at nil tag value (breaks at NotComparable)
    → new ≡ reported old (record { at = at; rule = NotComparable } ∷ [])
    → Outcome old new None (IsAskedCase old.types at nil tag value)
case_not old new at nil tag value is r =
    record { judged = breaks at NotComparable; is = is; answers = refl; reports = r }

pub comparable_matched : (old new : Ground) (op : CompareOp) (x y : Given) (o : Option Matched) (how : Matched)
    (result : CamePair) → IsMatchedFor old.types op x.expr.of y.expr.of o → o ≡ Some how
    → Comes old new result (IsPairMatched old.types op how x y)
    → Comes old new result (IsComparablePair old.types op x y)
comparable_matched old new op x y o how result m e h =
    let here = subst (λ (a : Option Matched). IsMatchedFor old.types op x.expr.of y.expr.of a) e m in
    weaker old new (IsPairMatched old.types op how x y) (IsComparablePair old.types op x y) result
    (λ one is. IsComparablePair.matched how one here is) h

pub not_comparable : (old new : Ground) (op : CompareOp) (x y : Given) (o : Option Matched)
    → IsMatchedFor old.types op x.expr.of y.expr.of o → o ≡ None
    → new ≡ reported old (record { at = x.at; rule = NotComparable } ∷ [])
    → Comes old new (came None) (IsComparablePair old.types op x y)
not_comparable old new op x y o m e r =
    broke old new (IsComparablePair old.types op x y) x.at NotComparable
    (IsComparablePair.mismatched (subst (λ (a : Option Matched). IsMatchedFor old.types op x.expr.of y.expr.of a) e m)) r

-- ---- comparisons

pub compared_constants : (old : Ground) (op : CompareOp) (at : Pos) (operands : Pair) (a b : Const) (truth : Bool) (of : TypeId)
    (made : TypedExpr) → constants operands ≡ Some (a, b) → truth ≡ compared op a b → of ≡ untyped kind.Bool
    → made ≡ node at of (ConstOf (constant.Truth truth))
    → Comes old old (came (Some made)) (IsCompared old.types op at operands)
compared_constants old op at operands a b truth of made e t k m =
    subst (λ (o : Option (Const × Const)). Comes old old (came (Some made)) (IsComparedOf old.types op at operands o)) (sym e)
    (stays old (IsComparedOf old.types op at operands (Some (a, b))) made
    (ap fine (m ∙ (ap (λ (x : Bool). node at of (ConstOf (constant.Truth x))) t
    ∙ ap (λ (x : TypeId). node at x (ConstOf (constant.Truth (compared op a b)))) k))))

pub compared_others : (old new : Ground) (op : CompareOp) (at : Pos) (operands : Pair) (result : CameExpr)
    → constants operands ≡ None → Comes old new result (IsComparedOf old.types op at operands None)
    → Comes old new result (IsCompared old.types op at operands)
compared_others old new op at operands result e h =
    subst (λ (o : Option (Const × Const)). Comes old new result (IsComparedOf old.types op at operands o)) (sym e) h

pub defaulted_both : (old mid new : Ground) (operands : Pair) (left right : CameExpr) (result : CamePair)
    → Comes old mid left (IsDefaulted old.types operands.left) → Comes mid new right (IsDefaulted mid.types operands.right)
    → result ≡ paired joined left right → Comes old new result (AreDefaulted old.types operands)
defaulted_both old mid new operands (Err error) right result h k e =
    subst (λ (r : CamePair). Comes old new r (AreDefaulted old.types operands)) (sym e) tt
defaulted_both old mid new operands (Ok a) (Err error) result h k e =
    subst (λ (r : CamePair). Comes old new r (AreDefaulted old.types operands)) (sym e) tt
defaulted_both old mid new operands (Ok a) (Ok b) result h k e =
    let second = subst (λ (t : Table). IsDefaulted t operands.right k.judged) (ap (λ (g : Ground). g.types) h.reports) k.is in
    subst (λ (r : CamePair). Comes old new r (AreDefaulted old.types operands)) (sym e)
    (record {
      judged = both_judged h.judged k.judged;
      is = (h.judged, (k.judged, (h.is, (second, refl))));
      answers = ap (λ (x : Option TypedExpr). joined x b) h.answers
          ∙ ap (λ (y : Option TypedExpr). joined h.judged.sound y) k.answers;
      reports = k.reports
          ∙ (ap (λ (g : Ground). reported g k.judged.broken) h.reports ∙ reported_after old h.judged.broken k.judged.broken);
    })

pub are_compared : (types : Table) (op : CompareOp) (at : Pos) (operands level : Pair) (of : TypeId) (b c : Box TypedExpr)
    (made : TypedExpr) → IsLevelled types operands.left operands.right level → b.value ≡ level.left → c.value ≡ level.right
    → of ≡ untyped kind.Bool → made ≡ node at of (CompareOf op b c) → AreCompared types op at operands made
are_compared types op at operands level of b c made is e f k m = (
  level,
  (
    is,
    on_two at (untyped kind.Bool) (CompareOf op) level.left level.right b c made e f
        (m ∙ ap (λ (x : TypeId). node at x (CompareOf op b c)) k),
  ),
)

pub level_left : (types : Table) (left right : TypedExpr) (made : Result TypedExpr NoMemory) (a b : TypedExpr)
    → Assignable types left.of right.of → IfOk made (IsMade types left right.of) → beside made right ≡ Ok (a, b)
    → IsLevelled types left right (pair a b)
level_left types left right (Err error) a b may is e = cc
level_left types left right (Ok x) a b may is e =
    let pairs : (x, right) ≡ (a, b) = cc in
    let first : x ≡ a = ap (λ (p : TypedExpr × TypedExpr). p.0) pairs in
    let second : right ≡ b = ap (λ (p : TypedExpr × TypedExpr). p.1) pairs in
    subst (λ (y : TypedExpr). IsLevelled types left right (pair a y)) second
    (subst (λ (y : TypedExpr). IsLevelled types left right (pair y right)) first (IsLevelled.left_made x may is))

pub level_right : (types : Table) (left right : TypedExpr) (made : Result TypedExpr NoMemory) (a b : TypedExpr)
    → (Assignable types left.of right.of → ⊥) → IfOk made (IsMade types right left.of) → beside made left ≡ Ok (a, b)
    → IsLevelled types left right (pair b a)
level_right types left right (Err error) a b may is e = cc
level_right types left right (Ok x) a b may is e =
    let pairs : (x, left) ≡ (a, b) = cc in
    let first : x ≡ a = ap (λ (p : TypedExpr × TypedExpr). p.0) pairs in
    let second : left ≡ b = ap (λ (p : TypedExpr × TypedExpr). p.1) pairs in
    subst (λ (y : TypedExpr). IsLevelled types left right (pair y a)) second
    (subst (λ (y : TypedExpr). IsLevelled types left right (pair left y)) first (IsLevelled.right_made x may is))

-- ---- cases

pub case_comes : (old new : Ground) (tag : TypeId) (x : Given) (o : Option Matched) (how : Matched)
    (result : Result (Option TypedCase) NoMemory) → IsMatchedFor old.types compare.Equal x.expr.of tag o → o ≡ Some how
    → Comes old new result (IsCaseMatched old.types how x tag) → Comes old new result (IsCaseOf old.types tag x)
case_comes old new tag x o how result m e h =
    let here = subst (λ (a : Option Matched). IsMatchedFor old.types compare.Equal x.expr.of tag a) e m in
    weaker old new (IsCaseMatched old.types how x tag) (IsCaseOf old.types tag x) result
    (λ one is. IsCaseOf.matched how one here is) h

pub no_case : (old new : Ground) (tag : TypeId) (x : Given) (o : Option Matched)
    → IsMatchedFor old.types compare.Equal x.expr.of tag o → o ≡ None
    → new ≡ reported old (record { at = x.at; rule = NotComparable } ∷ [])
    → Comes old new (came None) (IsCaseOf old.types tag x)
no_case old new tag x o m e r =
    broke old new (IsCaseOf old.types tag x) x.at NotComparable
    (IsCaseOf.mismatched (subst (λ (a : Option Matched). IsMatchedFor old.types compare.Equal x.expr.of tag a) e m)) r

pub is_truth_made : (types : Table) (at : Pos) (to of : TypeId) (value truth made one other : TypedExpr)
    (came_truth : Result TypedExpr NoMemory) (b c : Box TypedExpr)
    → of ≡ basic_id basic.Bool → truth ≡ node at of (ConstOf (constant.Truth true))
    → IfOk came_truth (IsMade types truth to) → beside came_truth value ≡ Ok (one, other)
    → b.value ≡ one → c.value ≡ other → made ≡ node at of (CompareOf compare.Equal b c)
    → IsTruth types at to value made
is_truth_made types at to of value truth made one other (Err error) b c k t is e f g m = cc
is_truth_made types at to of value truth made one other (Ok x) b c k t is e f g m =
    let pairs : (x, value) ≡ (one, other) = cc in
    let first : x ≡ one = ap (λ (p : TypedExpr × TypedExpr). p.0) pairs in
    let second : value ≡ other = ap (λ (p : TypedExpr × TypedExpr). p.1) pairs in
    let node_is : truth ≡ true_node at = t ∙ ap (λ (y : TypeId). node at y (ConstOf (constant.Truth true))) k in (
      x,
      (
        subst (λ (y : TypedExpr). IsMade types y to x) node_is is,
        on_two at (basic_id basic.Bool) (CompareOf compare.Equal) x value b c made (f ∙ sym first) (g ∙ sym second)
            (m ∙ ap (λ (y : TypeId). node at y (CompareOf compare.Equal b c)) k),
      ),
    )

pub case_stays : (old : Ground) (how : Matched) (expr : TypedExpr) (tag : TypeId) → how ≡ match_of.Typed
    → Comes old old (came (Some expr)) (IsCaseOperand old.types how expr tag)
case_stays old how expr tag e =
    subst (λ (m : Matched). Comes old old (came (Some expr)) (IsCaseOperand old.types m expr tag)) (sym e)
    (stays old (IsCaseOperand old.types match_of.Typed expr tag) expr refl)

pub truth_case_made : (types : Table) (one : TypedCase) (at : Pos) (to : Option TypeId) (value truth : TypedExpr)
    → at ≡ one.at → to ≡ one.tag_to → value ≡ one.value → IsTruthOf types at value to truth
    → IsTruthCaseOf types one (record { at = at; tag_to = None; value = truth })
truth_case_made types one at to value truth e f g is =
    let by_at = subst (λ (p : Pos). IsTruthOf types p value to truth) e is in
    let by_to = subst (λ (o : Option TypeId). IsTruthOf types one.at value o truth) f by_at in
    let by_value = subst (λ (v : TypedExpr). IsTruthOf types one.at v one.tag_to truth) g by_to in
    (truth, (by_value, ap (λ (p : Pos). record { at = p; tag_to = None; value = truth }) e))

-- ---- shifts

pub shifted_constants : (old new : Ground) (left : Bool) (x : Given) (count : TypedExpr) (a b one other : ℤ)
    (answer : Option TypedExpr)
    → option_zip (integer_of x.expr) (integer_of count) ≡ Some (a, b) → one ≡ a → other ≡ b
    → answer ≡ (shifted old.types left x.at one other x.expr.of).sound
    → new ≡ reported old (shifted old.types left x.at one other x.expr.of).broken
    → Comes old new (came answer) (IsShiftedBy old.types left x count)
shifted_constants old new left x count a b one other answer e f g s r =
    let same : shifted old.types left x.at one other x.expr.of ≡ shifted old.types left x.at a b x.expr.of =
    ap (λ (z : ℤ). shifted old.types left x.at z other x.expr.of) f ∙ ap (λ (z : ℤ). shifted old.types left x.at a z x.expr.of) g in
    subst (λ (o : Option (ℤ × ℤ)). Comes old new (came answer) (IsShiftedOf old.types left x count o)) (sym e)
    (record { judged = shifted old.types left x.at one other x.expr.of; is = same; answers = s; reports = r })

pub shifted_nodes : (old : Ground) (left : Bool) (x : Given) (count : TypedExpr) (binary : BinaryOp) (result : CameExpr)
    → option_zip (integer_of x.expr) (integer_of count) ≡ None → binary ≡ shift_op left
    → Makes {E = NoMemory} (IsOfTwo x.at x.expr.of (BinaryOf binary)) (Ok (Some (x.expr, count))) result
    → Comes old old result (IsShiftedBy old.types left x count)
shifted_nodes old left x count binary result e f h =
    let here = subst (λ (b : BinaryOp). Makes {E = NoMemory} (IsOfTwo x.at x.expr.of (BinaryOf b)) (Ok (Some (x.expr, count))) result) f h in
    subst (λ (o : Option (ℤ × ℤ)). Comes old old result (IsShiftedOf old.types left x count o)) (sym e)
    (two_fine old x.at x.expr.of (BinaryOf (shift_op left)) x.expr count result here)

-- four rules after one another
reported_four : (g : Ground) (a b c d : _) → reported (reported (reported (reported g a) b) c) d ≡ reported g (a ++ (b ++ (c ++ d)))
reported_four g a b c d =
    reported_after (reported (reported g a) b) c d
    ∙ (reported_after (reported g a) b (c ++ d) ∙ reported_after g a (b ++ (c ++ d)))

-- two values, and something that is asked of the first
three_steps : (old : Ground) (x y : Seen) (ask : Table → Option Given → Judged Given) (m1 m2 m3 : Ground)
    (ox oy value : Option Given)
    → ox ≡ (one_value old.types x).sound → m1 ≡ reported old (one_value old.types x).broken
    → oy ≡ (one_value m1.types y).sound → m2 ≡ reported m1 (one_value m1.types y).broken
    → value ≡ (ask m2.types ox).sound → m3 ≡ reported m2 (ask m2.types ox).broken
    → (value ≡ (ask old.types (one_value old.types x).sound).sound)
    × ((oy ≡ (one_value old.types y).sound)
    × ((m3.types ≡ old.types)
    × (m3 ≡ reported (reported (reported old (one_value old.types x).broken) (one_value old.types y).broken)
    (ask old.types (one_value old.types x).sound).broken)))
three_steps old x y ask m1 m2 m3 ox oy value ex r1 ey r2 ev r3 =
    let t1 : m1.types ≡ old.types = ap (λ (g : Ground). g.types) r1 in
    let t2 : m2.types ≡ old.types = ap (λ (g : Ground). g.types) r2 ∙ t1 in
    let t3 : m3.types ≡ old.types = ap (λ (g : Ground). g.types) r3 ∙ t2 in
    let sx = one_value old.types x in
    let sy = one_value old.types y in
    let s2 : m2 ≡ reported (reported old sx.broken) sy.broken =
    r2 ∙ (ap (λ (t : Table). reported m1 (one_value t y).broken) t1 ∙ ap (λ (g : Ground). reported g sy.broken) r1) in (
      ev ∙ (ap (λ (t : Table). (ask t ox).sound) t2 ∙ ap (λ (o : Option Given). (ask old.types o).sound) ex),
      (
        ey ∙ ap (λ (t : Table). (one_value t y).sound) t1,
        (
          t3,
          r3 ∙ (ap (λ (t : Table). reported m2 (ask t ox).broken) t2
              ∙ (ap (λ (o : Option Given). reported m2 (ask old.types o).broken) ex
              ∙ ap (λ (g : Ground). reported g (ask old.types sx.sound).broken) s2)),
        ),
      ),
    )

pub shift_comes : (old : Ground) (x y : Seen) (m1 m2 m3 new : Ground) (ox oy value : Option Given) (count : CameExpr)
    (result : Result (Option (Given × TypedExpr)) NoMemory)
    → ox ≡ (one_value old.types x).sound → m1 ≡ reported old (one_value old.types x).broken
    → oy ≡ (one_value m1.types y).sound → m2 ≡ reported m1 (one_value m1.types y).broken
    → value ≡ (shift_value m2.types ox).sound → m3 ≡ reported m2 (shift_value m2.types ox).broken
    → Comes m3 new count (IsCount m3.types oy) → result ≡ both (Ok value) count
    → Comes old new result (AreShiftOperands old.types x y)
shift_comes old x y m1 m2 m3 new ox oy value (Err error) result ex r1 ey r2 ev r3 h e =
    subst (λ (r : Result (Option (Given × TypedExpr)) NoMemory). Comes old new r (AreShiftOperands old.types x y)) (sym e) tt
shift_comes old x y m1 m2 m3 new ox oy value (Ok count) result ex r1 ey r2 ev r3 h e =
    let steps = three_steps old x y shift_value m1 m2 m3 ox oy value ex r1 ey r2 ev r3 in
    let sx = one_value old.types x in
    let sy = one_value old.types y in
    let sv = shift_value old.types sx.sound in
    let by_types : IsCount old.types oy h.judged = subst (λ (t : Table). IsCount t oy h.judged) steps.1.1.0 h.is in
    let is : IsCount old.types sy.sound h.judged = subst (λ (o : Option Given). IsCount old.types o h.judged) steps.1.0 by_types in
    subst (λ (r : Result (Option (Given × TypedExpr)) NoMemory). Comes old new r (AreShiftOperands old.types x y)) (sym e)
    (record {
      judged = shift_operands sx sy sv h.judged;
      is = (h.judged, (is, refl));
      answers = ap (λ (o : Option Given). option_zip o count) steps.0 ∙ ap (λ (o : Option TypedExpr). option_zip sv.sound o) h.answers;
      reports = h.reports ∙ (ap (λ (g : Ground). reported g h.judged.broken) steps.1.1.1
          ∙ reported_four old sx.broken sy.broken sv.broken h.judged.broken);
    })

-- ---- sends

pub send_comes : (old : Ground) (x y : Seen) (m1 m2 m3 new : Ground) (ox oy channel : Option Given) (elem : Option TypeId)
    (sent : Option TypedExpr) (answer : Option Sent)
    → ox ≡ (one_value old.types x).sound → m1 ≡ reported old (one_value old.types x).broken
    → oy ≡ (one_value m1.types y).sound → m2 ≡ reported m1 (one_value m1.types y).broken
    → channel ≡ (sent_channel m2.types ox).sound → m3 ≡ reported m2 (sent_channel m2.types ox).broken
    → elem ≡ elem_sent m3.types channel
    → Outcome m3 new sent (IsAssignedTo m3.types oy elem) → answer ≡ sent_of channel sent
    → Comes old new (came answer) (IsSend old.types x y)
send_comes old x y m1 m2 m3 new ox oy channel elem sent answer ex r1 ey r2 ev r3 el h e =
    let steps = three_steps old x y sent_channel m1 m2 m3 ox oy channel ex r1 ey r2 ev r3 in
    let sx = one_value old.types x in
    let sy = one_value old.types y in
    let sc = sent_channel old.types sx.sound in
    let elem_is : elem ≡ elem_sent old.types sc.sound =
    el ∙ (ap (λ (t : Table). elem_sent t channel) steps.1.1.0 ∙ ap (λ (o : Option Given). elem_sent old.types o) steps.0) in
    let by_types : IsAssignedTo old.types oy elem h.judged = subst (λ (t : Table). IsAssignedTo t oy elem h.judged) steps.1.1.0 h.is in
    let by_value : IsAssignedTo old.types sy.sound elem h.judged =
    subst (λ (o : Option Given). IsAssignedTo old.types o elem h.judged) steps.1.0 by_types in
    let is : IsAssignedTo old.types sy.sound (elem_sent old.types sc.sound) h.judged =
    subst (λ (o : Option TypeId). IsAssignedTo old.types sy.sound o h.judged) elem_is by_value in
    record {
      judged = send_parts sx sy sc h.judged;
      is = (h.judged, (is, refl));
      answers = e ∙ (ap (λ (o : Option Given). sent_of o sent) steps.0 ∙ ap (λ (o : Option TypedExpr). sent_of sc.sound o) h.answers);
      reports = h.reports ∙ (ap (λ (g : Ground). reported g h.judged.broken) steps.1.1.1
          ∙ reported_four old sx.broken sy.broken sc.broken h.judged.broken);
    }

-- ---- constants

pub constant_untyped : (old : Ground) (to : Option TypeId) (x : Given) → to ≡ None
    → Comes old old (came (Some x.expr)) (IsConstantAs old.types to x)
constant_untyped old to x e =
    subst (λ (o : Option TypeId). Comes old old (came (Some x.expr)) (IsConstantAs old.types o x)) (sym e)
    (stays old (IsConstantAs old.types None x) x.expr refl)

pub constant_typed : (old new : Ground) (to : Option TypeId) (of : TypeId) (x : Given) (result : CameExpr) → to ≡ Some of
    → Comes old new result (IsConstantAs old.types (Some of) x) → Comes old new result (IsConstantAs old.types to x)
constant_typed old new to of x result e h =
    subst (λ (o : Option TypeId). Comes old new result (IsConstantAs old.types o x)) (sym e) h

-- ---- what operands become

pub for_mismatch : (types : Table) (op : CompareOp) (x y : TypeId) (o r : Option Matched) → with_nil types x y ≡ false
    → r ≡ compared_types types x y → r ≡ None → o ≡ None → IsMatchedFor types op x y o
for_mismatch types op x y o r w is e f =
    subst (λ (a : Option Matched). IsMatchedFor types op x y a) (sym f) (IsMatchedFor.mismatch w (sym is ∙ e))

pub for_becomes : (types : Table) (op : CompareOp) (x y : TypeId) (r : Option Matched) (how same : Matched)
    → with_nil types x y ≡ false → r ≡ compared_types types x y → r ≡ Some how → (how ≡ match_of.Typed → ⊥) → how ≡ same
    → IsMatchedFor types op x y (Some same)
for_becomes types op x y r how same w is e not_typed s =
    subst (λ (a : Matched). IsMatchedFor types op x y (Some a)) s (IsMatchedFor.becomes how w (sym is ∙ e) not_typed)
