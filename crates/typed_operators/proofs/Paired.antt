-- What two operands become, and what is made of them.
use Rattle.std.proofs.Common.{◌≡◌, refl, sym, ap, ◌∙◌, subst, List, [], ◌∷◌, ◌++◌, Bool, true, false}
use Rattle.std.proofs.Common.{Option, Some, None, Result, Ok, Err}
use Rattle.std.specs.Option.{option_map}
use Rattle.go_base.specs.declared.ids.TypeId.{TypeId}
use Rattle.go_base.specs.declared.memory.NoMemory.{NoMemory}
use Rattle.go_base.specs.declared.place.Pos.{Pos}
use Rattle.go_base.specs.declared.rule.Rule.TheVariants.{BadOperand}
use Rattle.go_rules.specs.declared.folding.LogicOp.{LogicOp}
use Rattle.go_rules.specs.declared.folding.LogicOp.TheVariants as logic
use Rattle.go_rules.specs.declared.matching.Matched.{Matched}
use Rattle.go_rules.specs.declared.matching.Matched.TheVariants as match_of
use Rattle.go_rules.specs.declared.untyped.Untyped.{Untyped}
use Rattle.go_rules.specs.Folding.{arithmetic_folded, logic_folded}
use Rattle.go_rules.specs.Matching.{matched_types}
use Rattle.go_tree.specs.declared.exprs.ExprKind.TheVariants.{AndAlso, BinaryOf, ConstOf, OrElse}
use Rattle.go_tree.specs.declared.exprs.TypedExpr.{TypedExpr}
use Rattle.go_type.specs.declared.constants.Const.{Const}
use Rattle.go_type.specs.declared.constants.Const.TheVariants as constant
use Rattle.go_type.specs.declared.constants.ConstOp.{ConstOp}
use Rattle.go_type.specs.declared.operators.BinaryOp.{BinaryOp}
use Rattle.go_type.specs.Table.{Table}
use Rattle.typed_parts.specs.declared.ground.Ground.{Ground}
use Rattle.typed_parts.specs.declared.meaning.Given.{Given}
use Rattle.typed_parts.specs.Joining.{both, paired}
use Rattle.typed_parts.specs.Judged.{Comes, Exactly, IsFine, Judged, Outcome, breaks, fine, reported}
use Rattle.typed_parts.specs.Nodes.{node}
use Rattle.typed_parts.specs.Retyping.{IsOfTwo, Makes, rekinded}
use Rattle.typed_parts.proofs.Reports.{reported_after}
use Rattle.typed_parts.proofs.Steps.{broke, came, stays, weaker}
use Rattle.typed_operators.specs.declared.binary.Operands.{Operands}
use Rattle.typed_operators.specs.declared.binary.Places.{Places}
use Rattle.typed_operators.specs.declared.pairs.Pair.{Pair}
use Rattle.typed_operators.specs.Binary.{IsAlike, IsCombined, IsCombinedOf, IsJunction, IsJunctionOf, IsMatchedAlike}
use Rattle.typed_operators.specs.Binary.{binary_op, folded_node, truths}
use Rattle.typed_operators.specs.Made.{IsOnTwo}
use Rattle.typed_operators.specs.Pairs.{IsPaired, both_judged, constants, joined, pair, with_left, with_right}
use Rattle.typed_operators.proofs.Operating.{two_fine}

abbrev pub CameExpr : Type 0
CameExpr = Result (Option TypedExpr) NoMemory

abbrev pub CamePair : Type 0
CamePair = Result (Option Pair) NoMemory

-- by a value that is known
pub paired_as : (old new : Ground) (how known : Matched) (left right : TypedExpr) (result : CamePair)
    → how ≡ known → Comes old new result (IsPaired old.types known left right)
    → Comes old new result (IsPaired old.types how left right)
paired_as old new how known left right result e h =
    subst (λ (m : Matched). Comes old new result (IsPaired old.types m left right)) (sym e) h

pub typed_pair : (old : Ground) (left right : TypedExpr)
    → Comes old old (came (Some (pair left right))) (IsPaired old.types match_of.Typed left right)
typed_pair old left right = stays old (IsPaired old.types match_of.Typed left right) (pair left right) refl

pub kinds_pair : (old mid new : Ground) (kind : Untyped) (left right : TypedExpr) (a b : Option TypedExpr) (result : CamePair)
    → a ≡ (rekinded old.types left kind).sound → mid ≡ reported old (rekinded old.types left kind).broken
    → b ≡ (rekinded mid.types right kind).sound → new ≡ reported mid (rekinded mid.types right kind).broken
    → result ≡ paired {E = NoMemory} joined (Ok a) (Ok b)
    → Comes old new result (IsPaired old.types (match_of.Untyped kind) left right)
kinds_pair old mid new kind left right a b result e r f s m =
    let types : mid.types ≡ old.types = ap (λ (g : Ground). g.types) r in
    let one = rekinded old.types left kind in
    let other = rekinded old.types right kind in
    let b_is : b ≡ other.sound = subst (λ (t : Table). b ≡ (rekinded t right kind).sound) types f in
    let s_is : new ≡ reported mid other.broken = subst (λ (t : Table). new ≡ reported mid (rekinded t right kind).broken) types s in
    subst (λ (x : CamePair). Comes old new x (IsPaired old.types (match_of.Untyped kind) left right)) (sym m)
    (record {
      judged = both_judged one other;
      is = refl;
      answers = ap (λ (x : Option TypedExpr). joined x b) e ∙ ap (λ (y : Option TypedExpr). joined one.sound y) b_is;
      reports = s_is ∙ (ap (λ (g : Ground). reported g other.broken) r ∙ reported_after old one.broken other.broken);
    })

-- the left operand becomes something, and the right one stays
pub right_stays : (old new : Ground) (Is : Judged TypedExpr → Type 0) (left : CameExpr) (right : TypedExpr) (result : CamePair)
    → Comes old new left Is → result ≡ paired joined left (Ok (Some right))
    → Comes old new result (λ p. (one : Judged TypedExpr) × (Is one × (p ≡ with_right one right)))
right_stays old new Is (Err error) right result h e =
    subst (λ (r : CamePair). Comes old new r (λ p. (one : Judged TypedExpr) × (Is one × (p ≡ with_right one right)))) (sym e) tt
right_stays old new Is (Ok a) right result h e =
    subst (λ (r : CamePair). Comes old new r (λ p. (one : Judged TypedExpr) × (Is one × (p ≡ with_right one right)))) (sym e)
    (record {
      judged = with_right h.judged right;
      is = (h.judged, (h.is, refl));
      answers = ap (λ (x : Option TypedExpr). joined x (Some right)) h.answers;
      reports = h.reports;
    })

pub left_stays : (old new : Ground) (Is : Judged TypedExpr → Type 0) (left : TypedExpr) (right : CameExpr) (result : CamePair)
    → Comes old new right Is → result ≡ paired joined (Ok (Some left)) right
    → Comes old new result (λ p. (one : Judged TypedExpr) × (Is one × (p ≡ with_left left one)))
left_stays old new Is left (Err error) result h e =
    subst (λ (r : CamePair). Comes old new r (λ p. (one : Judged TypedExpr) × (Is one × (p ≡ with_left left one)))) (sym e) tt
left_stays old new Is left (Ok a) result h e =
    subst (λ (r : CamePair). Comes old new r (λ p. (one : Judged TypedExpr) × (Is one × (p ≡ with_left left one)))) (sym e)
    (record {
      judged = with_left left h.judged;
      is = (h.judged, (h.is, refl));
      answers = ap (λ (x : Option TypedExpr). joined (Some left) x) h.answers;
      reports = h.reports;
    })

-- ---- operands made alike

pub alike_matched : (old new : Ground) (x y : Given) (o : Option Matched) (how : Matched) (result : CamePair)
    → IsMatchedAlike old.types x.expr.of y.expr.of o → o ≡ Some how
    → Comes old new result (IsPaired old.types how x.expr y.expr) → Comes old new result (IsAlike old.types x y)
alike_matched old new x y o how result m e h =
    let here = subst (λ (a : Option Matched). IsMatchedAlike old.types x.expr.of y.expr.of a) e m in
    weaker old new (IsPaired old.types how x.expr y.expr) (IsAlike old.types x y) result
    (λ one is. IsAlike.matched how one here is) h

pub alike_mismatched : (old new : Ground) (x y : Given) (o : Option Matched)
    → IsMatchedAlike old.types x.expr.of y.expr.of o → o ≡ None
    → new ≡ reported old (record { at = x.at; rule = BadOperand } ∷ [])
    → Comes old new (came None) (IsAlike old.types x y)
alike_mismatched old new x y o m e r =
    broke old new (IsAlike old.types x y) x.at BadOperand
    (IsAlike.mismatched (subst (λ (a : Option Matched). IsMatchedAlike old.types x.expr.of y.expr.of a) e m)) r

-- ---- arithmetic

pub combined_constants : (old new : Ground) (op : ConstOp) (places : Places) (operands : Pair) (a b : Const)
    (result : CameExpr) → constants operands ≡ Some (a, b)
    → Comes old new result (Exactly (folded_node places operands.left.of
    (arithmetic_folded old.types op a b operands.left.of)))
    → Comes old new result (IsCombined old.types op places operands)
combined_constants old new op places operands a b result e h =
    subst (λ (o : Option (Const × Const)). Comes old new result (IsCombinedOf old.types op places operands o)) (sym e) h

pub combined_nodes : (old : Ground) (op : ConstOp) (places : Places) (operands : Pair) (binary : BinaryOp)
    (result : CameExpr) → constants operands ≡ None → binary ≡ binary_op op
    → Makes (IsOfTwo places.whole operands.left.of (BinaryOf binary))
    (both {E = NoMemory} (Ok (Some operands.left)) (Ok (Some operands.right))) result
    → Comes old old result (IsCombined old.types op places operands)
combined_nodes old op places operands binary result e f h =
    let of = operands.left.of in
    let here : Makes {E = NoMemory} (IsOfTwo places.whole of (BinaryOf (binary_op op)))
    (Ok (Some (operands.left, operands.right))) result =
    subst (λ (b : BinaryOp). Makes {E = NoMemory} (IsOfTwo places.whole of (BinaryOf b))
    (Ok (Some (operands.left, operands.right))) result) f h in
    subst (λ (o : Option (Const × Const)). Comes old old result (IsCombinedOf old.types op places operands o)) (sym e)
    (two_fine old places.whole of (BinaryOf (binary_op op)) operands.left operands.right result here)

-- ---- logic

junction_constant_of : (old : Ground) (op : LogicOp) (at : Pos) (operands : Pair) (o : Option (Bool × Bool)) (truth : Bool)
    (made : TypedExpr) → option_map (λ pair. logic_folded op pair.0 pair.1) o ≡ Some truth
    → made ≡ node at operands.left.of (ConstOf (constant.Truth truth))
    → Comes old old (came (Some made)) (IsJunctionOf op at operands o)
junction_constant_of old op at operands None truth made e m = cc
junction_constant_of old op at operands (Some (a, b)) truth made e m =
    let same : logic_folded op a b ≡ truth = cc in
    stays old (IsJunctionOf op at operands (Some (a, b))) made
    (ap fine (m ∙ ap (λ (t : Bool). node at operands.left.of (ConstOf (constant.Truth t))) (sym same)))

pub junction_constant : (old : Ground) (op : LogicOp) (at : Pos) (operands : Pair) (folded : Option Bool) (truth : Bool)
    (made : TypedExpr)
    → folded ≡ option_map (λ pair. logic_folded op pair.0 pair.1) (truths (constants operands)) → folded ≡ Some truth
    → made ≡ node at operands.left.of (ConstOf (constant.Truth truth))
    → Comes old old (came (Some made)) (IsJunction op at operands)
junction_constant old op at operands folded truth made f e m =
    junction_constant_of old op at operands (truths (constants operands)) truth made (sym f ∙ e) m

junction_and_of : (old : Ground) (at : Pos) (operands : Pair) (o : Option (Bool × Bool)) (result : CameExpr)
    → option_map (λ pair. logic_folded logic.And pair.0 pair.1) o ≡ None
    → Makes {E = NoMemory} (IsOfTwo at operands.left.of AndAlso) (Ok (Some (operands.left, operands.right))) result
    → Comes old old result (IsJunctionOf logic.And at operands o)
junction_and_of old at operands (Some (a, b)) result e h = cc
junction_and_of old at operands None result e h = two_fine old at operands.left.of AndAlso operands.left operands.right result h

pub junction_and : (old : Ground) (op : LogicOp) (at : Pos) (operands : Pair) (folded : Option Bool) (result : CameExpr)
    → folded ≡ option_map (λ pair. logic_folded op pair.0 pair.1) (truths (constants operands)) → folded ≡ None
    → op ≡ logic.And
    → Makes {E = NoMemory} (IsOfTwo at operands.left.of AndAlso) (Ok (Some (operands.left, operands.right))) result
    → Comes old old result (IsJunction op at operands)
junction_and old op at operands folded result f e is h =
    let none = sym f ∙ e in
    let here = subst (λ (o : LogicOp). option_map (λ pair. logic_folded o pair.0 pair.1) (truths (constants operands)) ≡ None) is none in
    subst (λ (o : LogicOp). Comes old old result (IsJunction o at operands)) (sym is)
    (junction_and_of old at operands (truths (constants operands)) result here h)

junction_or_of : (old : Ground) (at : Pos) (operands : Pair) (o : Option (Bool × Bool)) (result : CameExpr)
    → option_map (λ pair. logic_folded logic.Or pair.0 pair.1) o ≡ None
    → Makes {E = NoMemory} (IsOfTwo at operands.left.of OrElse) (Ok (Some (operands.left, operands.right))) result
    → Comes old old result (IsJunctionOf logic.Or at operands o)
junction_or_of old at operands (Some (a, b)) result e h = cc
junction_or_of old at operands None result e h = two_fine old at operands.left.of OrElse operands.left operands.right result h

pub junction_or : (old : Ground) (op : LogicOp) (at : Pos) (operands : Pair) (folded : Option Bool) (result : CameExpr)
    → folded ≡ option_map (λ pair. logic_folded op pair.0 pair.1) (truths (constants operands)) → folded ≡ None
    → op ≡ logic.Or
    → Makes {E = NoMemory} (IsOfTwo at operands.left.of OrElse) (Ok (Some (operands.left, operands.right))) result
    → Comes old old result (IsJunction op at operands)
junction_or old op at operands folded result f e is h =
    let none = sym f ∙ e in
    let here = subst (λ (o : LogicOp). option_map (λ pair. logic_folded o pair.0 pair.1) (truths (constants operands)) ≡ None) is none in
    subst (λ (o : LogicOp). Comes old old result (IsJunction o at operands)) (sym is)
    (junction_or_of old at operands (truths (constants operands)) result here h)

-- ---- what operands become

pub alike_mismatch : (types : Table) (x y : TypeId) (o r : Option Matched) → r ≡ matched_types types x y → r ≡ None → o ≡ None
    → IsMatchedAlike types x y o
alike_mismatch types x y o r is e f =
    subst (λ (a : Option Matched). IsMatchedAlike types x y a) (sym f) (IsMatchedAlike.mismatch (sym is ∙ e))

pub alike_becomes : (types : Table) (x y : TypeId) (r : Option Matched) (how same : Matched)
    → r ≡ matched_types types x y → r ≡ Some how → (how ≡ match_of.Typed → ⊥) → how ≡ same
    → IsMatchedAlike types x y (Some same)
alike_becomes types x y r how same is e not_typed s =
    subst (λ (a : Matched). IsMatchedAlike types x y (Some a)) s (IsMatchedAlike.become how (sym is ∙ e) not_typed)
