-- What becomes of slice expressions.
use Rattle.std.proofs.Common.{◌≡◌, refl, sym, ap, ◌∙◌, subst, Bool, true, false, List, [], ◌∷◌, ◌++◌, Option, Some, None, Result, Ok, Err}
use Rattle.std.specs.Prelude.{ℤ, IfOk, OnOk, not, ◌&&◌}
use Rattle.std.specs.Global.{Box}
use Rattle.std.specs.Option.{option_zip}
use Rattle.go_base.specs.declared.ids.TypeId.{TypeId}
use Rattle.go_base.specs.declared.memory.NoMemory.{NoMemory}
use Rattle.go_base.specs.declared.place.Pos.{Pos}
use Rattle.go_base.specs.declared.rule.Rule.TheVariants.{BadSlice}
use Rattle.go_tree.specs.declared.exprs.ExprKind.TheVariants.{SliceOf}
use Rattle.go_tree.specs.declared.exprs.SliceBase.{SliceBase}
use Rattle.go_tree.specs.declared.exprs.SliceBase.TheVariants as base_of
use Rattle.go_tree.specs.declared.exprs.TypedExpr.{TypedExpr}
use Rattle.go_type.specs.declared.term.TypeTerm.TheVariants.{Slice}
use Rattle.go_type.specs.Table.{Table, term_at, with_term}
use Rattle.typed_parts.specs.declared.ground.Ground.{Ground}
use Rattle.typed_parts.specs.declared.meaning.Given.{Given}
use Rattle.typed_parts.specs.declared.meaning.Seen.{Seen}
use Rattle.typed_parts.specs.declared.shapes.Shape.{Shape}
use Rattle.typed_parts.specs.Joining.{beside, only, sound}
use Rattle.typed_parts.specs.Judged.{Broken, Comes, Judged, fine, judged, reported}
use Rattle.typed_parts.specs.Limits.{Basis, basis}
use Rattle.typed_parts.specs.Meanings.{one_value}
use Rattle.typed_parts.specs.Nodes.{node}
use Rattle.typed_parts.specs.Turning.{Asks, IsHeld, Keeps, Soundly, Turned, Turns}
use Rattle.typed_parts.specs.Wholes.{IsTextTyped, IsWhole}
use Rattle.typed_parts.proofs.Reports.{reported_after}
use Rattle.typed_parts.proofs.Turns.{asks, came, first_came, followed, held, keeps, nothing_came, outcome_of, second_stays, then_nothing}
use Rattle.typed_parts.proofs.Turns.{then_soundly}
use Rattle.typed_primaries.specs.declared.slicing.Bound.{Bound}
use Rattle.typed_primaries.specs.declared.slicing.Bound.TheVariants as bound
use Rattle.typed_primaries.specs.declared.slicing.Bounds.{Bounds}
use Rattle.typed_primaries.specs.Indexing.{known_length}
use Rattle.typed_primaries.specs.Slicing.{AreBounds, IsArraySlice, IsBound, IsBoxedBound, IsOfBounds, IsSliceBounded, IsSliceExpression}
use Rattle.typed_primaries.specs.Slicing.{IsSliceMade, IsSliceNode, IsSliceOf, IsSliceOperand, IsSliceOrdered, IsSliceTo, IsSliceType}
use Rattle.typed_primaries.specs.Slicing.{IsSliceOperandBy, IsSliceTypeBy, IsSliceTyped, IsSliceWithin, IsSliced, IsUpToHigh, IsUpToMax, IsValueBound}
use Rattle.typed_primaries.specs.Slicing.{are_sound, bound_at, bounds_asked, full_broken, full_text, may_slice, order_asked, order_broken}
use Rattle.typed_primaries.specs.Slicing.{array_elem, is_array, plain_base, sliced, unbroken, within_broken}
use Rattle.typed_primaries.specs.Steps.{IsAddress}
use Rattle.typed_primaries.proofs.Follows.{asks_then, fine_came, turned_sound}

-- ---- bounds

pub absent_bound : (old : Ground) (part : Option Seen) → part ≡ None → Turns old old (came (Some bound.Absent)) (IsBound part)
absent_bound old part e =
    subst (λ (p : Option Seen). Turns old old (came (Some bound.Absent)) (IsBound p)) (sym e)
    (asks old old (λ (types : Table). fine bound.Absent) (Some bound.Absent) refl refl)

-- a bound that is written, of what becomes of it as a value
written : (old mid new : Ground) (part : Option Seen) (p : Seen) (o : Option Given) (made : Bound) → part ≡ Some p
    → o ≡ (one_value old.types p).sound → mid ≡ reported old (one_value old.types p).broken
    → Turns mid new (came (Some made)) (IsValueBound o) → Turns old new (came (Some made)) (IsBound part)
written old mid new part p o made e a r h =
    subst (λ (q : Option Seen). Turns old new (came (Some made)) (IsBound q)) (sym e)
    (asks_then old mid new (λ (types : Table). one_value types p) IsValueBound o (came (Some made)) a r h)

pub unsound_bound : (old mid : Ground) (part : Option Seen) (p : Seen) (o : Option Given) → part ≡ Some p
    → o ≡ (one_value old.types p).sound → mid ≡ reported old (one_value old.types p).broken → o ≡ None
    → Turns old mid (came (Some bound.Unsound)) (IsBound part)
unsound_bound old mid part p o e a r is =
    written old mid mid part p o bound.Unsound e a r
    (subst (λ (q : Option Given). Turns mid mid (came (Some bound.Unsound)) (IsValueBound q)) (sym is)
    (asks mid mid (λ (types : Table). fine bound.Unsound) (Some bound.Unsound) refl refl))

pub whole_bound : (old mid new : Ground) (part : Option Seen) (p : Seen) (o : Option Given) (x : Given)
    (value : Option TypedExpr) (made : Bound) → part ≡ Some p
    → o ≡ (one_value old.types p).sound → mid ≡ reported old (one_value old.types p).broken → o ≡ Some x
    → Comes mid new (came value) (IsWhole mid.types (Some x) BadSlice) → made ≡ bound_at x.at value
    → Turns old new (came (Some made)) (IsBound part)
whole_bound old mid new part p o x value made e a r is h m =
    written old mid new part p o made e a r
    (subst (λ (q : Option Given). Turns mid new (came (Some made)) (IsValueBound q)) (sym is)
    (followed mid new new (Keeps (λ (types : Table). IsWhole types (Some x) BadSlice))
    (λ (v : Option TypedExpr). Asks (λ (types : Table). fine (bound_at x.at v))) value (came (Some made))
    (keeps mid new (λ (types : Table). IsWhole types (Some x) BadSlice) value h)
    (asks new new (λ (types : Table). fine (bound_at x.at value)) (Some made) (ap (λ (b : Bound). Some b) m) refl)))

pub bounds_come : (old one two three : Ground) (low high max high1 max1 max2 : Option Seen) (l l2 l3 h h3 m : Bound)
    (first second third : Result Bound NoMemory)
    → Turns old one (sound first) (IsBound low) → beside {B = Option Seen × Option Seen} first (high, max) ≡ Ok (l, (high1, max1))
    → Turns one two (sound second) (IsBound high1) → beside {B = Bound × Option Seen} second (l, max1) ≡ Ok (h, (l2, max2))
    → Turns two three (sound third) (IsBound max2) → beside {B = Bound × Bound} third (l2, h) ≡ Ok (m, (l3, h3))
    → Turns old three (came (Some (record { low = l3; high = h3; max = m }))) (AreBounds low high max)
bounds_come old one two three low high max high1 max1 max2 l l2 l3 h h3 m first second third t1 e1 t2 e2 t3 e3 =
    let p1 : (high, max) ≡ (high1, max1) = second_stays l (high1, max1) first (high, max) e1 in
    let p2 : (l, max1) ≡ (l2, max2) = second_stays h (l2, max2) second (l, max1) e2 in
    let p3 : (l2, h) ≡ (l3, h3) = second_stays m (l3, h3) third (l2, h) e3 in
    let high_same : high1 ≡ high = sym (ap (λ (p : Option Seen × Option Seen). p.0) p1) in
    let max_same : max2 ≡ max = sym (ap (λ (p : Option Seen × Option Seen). p.1) p1 ∙ ap (λ (p : Bound × Option Seen). p.1) p2) in
    let low_is : l3 ≡ l = sym (ap (λ (p : Bound × Option Seen). p.0) p2 ∙ ap (λ (p : Bound × Bound). p.0) p3) in
    let high_is : h3 ≡ h = sym (ap (λ (p : Bound × Bound). p.1) p3) in
    let made : Bounds = record { low = l; high = h; max = m } in
    let as_made : record { low = l3; high = h3; max = m } ≡ made =
    ap (λ (b : Bound). record { low = b; high = h3; max = m }) low_is ∙ ap (λ (b : Bound). record { low = l; high = b; max = m }) high_is in
    let is_low = turned_sound old one (IsBound low) first l (first_came l (high1, max1) first (high, max) e1) t1 in
    let is_high = subst (λ (o : Option Seen). Turned one two (Some h) (IsBound o)) high_same
    (turned_sound one two (IsBound high1) second h (first_came h (l2, max2) second (l, max1) e2) t2) in
    let is_max = subst (λ (o : Option Seen). Turned two three (Some m) (IsBound o)) max_same
    (turned_sound two three (IsBound max2) third m (first_came m (l3, h3) third (l2, h) e3) t3) in
    subst (λ (b : Bounds). Turns old three (came (Some b)) (AreBounds low high max)) (sym as_made)
    (then_soundly old one three (IsBound low) (IsUpToHigh high max) (Some l) l (came (Some made)) refl is_low
    (then_soundly one two three (IsBound high) (IsUpToMax max l) (Some h) h (came (Some made)) refl is_high
    (then_soundly two three three (IsBound max) (IsOfBounds l h) (Some m) m (came (Some made)) refl is_max
    (asks three three (λ (types : Table). fine made) (Some made) refl refl))))

-- ---- all

abbrev pub IsSliceOfAll : (Given × Shape) × Bounds → Basis → Basis → Judged TypedExpr → Type 0
IsSliceOfAll ((x, of), b) before after result = IsSliceWithin b x of before after result

shape_there : (old new : Ground) (b : Bounds) (x : Given) (of : Option Shape) (result : Result (Option TypedExpr) NoMemory)
    → Turns old new result (Soundly IsSliceOfAll (option_zip (option_zip (Some x) of) (Some b)))
    → Turns old new result (Soundly (IsSliceWithin b x) of)
shape_there old new b x None result h = h
shape_there old new b x (Some of) result h = h

after_text : (old mid new : Ground) (b : Bounds) (x : Option Given) (of : Option Shape) (result : Result (Option TypedExpr) NoMemory)
    → of ≡ (judged x (sliced old.types)).sound → mid ≡ reported old (judged x (sliced old.types)).broken
    → Turns mid new result (Soundly IsSliceOfAll (option_zip (option_zip x of) (Some b)))
    → Turns old new result (Soundly (IsSliceOf b) x)
after_text old mid new b (Some x) of result a r h =
    asks_then old mid new (λ (types : Table). sliced types x) (Soundly (IsSliceWithin b x)) of result a r
    (shape_there mid new b x of result h)
after_text old mid new b None None result a r h =
    subst (λ (g : Ground). Turns g new result (Soundly (IsSliceOf b) None)) r h
after_text old mid new b None (Some of) result a r h = cc

pub slices : (old one two three four five new : Ground) (x : Seen) (low high max : Option Seen) (ox ox1 tx : Option Given)
    (b b1 : Bounds) (of : Option Shape) (first : Result Bounds NoMemory) (text : Result (Option Given) NoMemory)
    (result : Result (Option TypedExpr) NoMemory)
    → ox ≡ (one_value old.types x).sound → one ≡ reported old (one_value old.types x).broken
    → Turns one two (sound first) (AreBounds low high max) → beside first ox ≡ Ok (b, ox1)
    → three ≡ reported two (order_broken b)
    → Comes three four text (IsTextTyped three.types ox1) → beside text b ≡ Ok (tx, b1)
    → of ≡ (judged tx (sliced four.types)).sound → five ≡ reported four (judged tx (sliced four.types)).broken
    → Turns five new result (Soundly IsSliceOfAll (option_zip (option_zip tx of) (Some b1)))
    → Turns old new result (IsSliceExpression x low high max)
slices old one two three four five new x low high max ox ox1 tx b b1 of first text result ax rx t e ro c f a r h =
    let x_same : ox1 ≡ ox = sym (second_stays b ox1 first ox e) in
    let b_same : b1 ≡ b = sym (second_stays tx b1 text b f) in
    let typed = subst (λ (o : Option Given). Comes three four text (IsTextTyped three.types o)) x_same c in
    let here = subst (λ (d : Bounds). Turns five new result (Soundly IsSliceOfAll (option_zip (option_zip tx of) (Some d)))) b_same h in
    asks_then old one new (λ (types : Table). one_value types x) (IsSliceBounded low high max) ox result ax rx
    (then_soundly one two new (AreBounds low high max) (IsSliceOrdered ox) (Some b) b result refl
    (turned_sound one two (AreBounds low high max) first b (first_came b ox1 first ox e) t)
    (then_soundly two three new (Asks (λ (types : Table). order_asked b)) (IsSliceTo ox) (Some b) b result refl
    (asks two three (λ (types : Table). order_asked b) (Some b) refl ro)
    (followed three four new (Keeps (λ (types : Table). IsTextTyped types ox)) (Soundly (IsSliceOf b)) tx result
    (keeps three four (λ (types : Table). IsTextTyped types ox) tx
    (outcome_of three four (IsTextTyped three.types ox) text tx (first_came tx b1 text b f) typed))
    (after_text four five new b tx of result a r here))))

abbrev bounds_in : Bounds → Option ((Given × Shape) × Bounds) → Bounds
bounds_in b None = b
bounds_in b (Some (pair, d)) = d

-- the bounds are those whose order was asked
pub same_bounds : (b b1 d : Bounds) (p : Given × Shape) (tx : Option Given) (pair : Option (Given × Shape)) (text : Result (Option Given) NoMemory)
    (zipped : Option ((Given × Shape) × Bounds))
    → beside text b ≡ Ok (tx, b1) → zipped ≡ option_zip pair (Some b1) → zipped ≡ Some (p, d) → b ≡ d
same_bounds b b1 d p tx None text zipped f z e = cc
same_bounds b b1 d p tx (Some q) text zipped f z e =
    let same : b ≡ b1 = second_stays tx b1 text b f in
    same ∙ ap (bounds_in b1) (sym z ∙ e)

-- ---- what is asked of three bounds

unbroken_after : (a b : List Broken) → unbroken (a ++ b) ≡ (unbroken a && unbroken b)
unbroken_after [] b = refl
unbroken_after (x ∷ a) b = refl

and_assoc : (a b c : Bool) → ((a && b) && c) ≡ (a && (b && c))
and_assoc true b c = refl
and_assoc false b c = refl

pub three_hold : (a b c : List Broken) (one two three : Bool) → one ≡ unbroken a → two ≡ unbroken b → three ≡ unbroken c
    → ((one && two) && three) ≡ unbroken (a ++ (b ++ c))
three_hold a b c one two three e f g =
    and_assoc one two three
    ∙ (ap (λ (t : Bool). t && (two && three)) e
    ∙ (ap (λ (t : Bool). unbroken a && (t && three)) f
    ∙ (ap (λ (t : Bool). unbroken a && (unbroken b && t)) g
    ∙ (ap (λ (t : Bool). unbroken a && t) (sym (unbroken_after b c)) ∙ sym (unbroken_after a (b ++ c))))))

pub three_reported : (old one two three : Ground) (a b c : List Broken) → one ≡ reported old a → two ≡ reported one b
    → three ≡ reported two c → three ≡ reported old (a ++ (b ++ c))
three_reported old one two three a b c r s t =
    t ∙ (ap (λ (g : Ground). reported g c) s
    ∙ (reported_after one b c
    ∙ (ap (λ (g : Ground). reported g (b ++ c)) r ∙ reported_after old a (b ++ c))))

-- ---- within what is sliced

asked_both : (old one two : Ground) (x : Given) (of : Shape) (b : Bounds)
    → one ≡ reported old (within_broken (known_length of x.expr) b) → two ≡ reported one (full_broken x.at of b)
    → two ≡ reported old (bounds_asked x.at of x.expr b).broken
asked_both old one two x of b r s =
    s ∙ (ap (λ (g : Ground). reported g (full_broken x.at of b)) r
    ∙ reported_after old (within_broken (known_length of x.expr) b) (full_broken x.at of b))

pub slice_allowed : (old one two new : Ground) (x y : Given) (of : Shape) (b d : Bounds) (may : Bool) (o : Option (Given × Bounds))
    (result : Result (Option TypedExpr) NoMemory)
    → may ≡ may_slice of x.expr b
    → one ≡ reported old (within_broken (known_length of x.expr) b) → two ≡ reported one (full_broken x.at of b)
    → o ≡ only (Some (x, b)) may → o ≡ Some (y, d) → Turns two new result (IsSliced y of d)
    → Turns old new result (IsSliceWithin b x of)
slice_allowed old one two new x y of b d false o result m r s e f h = cc
slice_allowed old one two new x y of b d true o result m r s e f h =
    let pair : (y, d) ≡ (x, b) = (let is : Some (y, d) ≡ Some (x, b) = sym f ∙ e in cc) in
    let here = subst (λ (p : Given × Bounds). Turns two new result (IsSliced p.0 of p.1)) pair h in
    then_soundly old two new (Asks (λ (types : Table). bounds_asked x.at of x.expr b)) (IsSliced x of) (Some b) b result refl
    (asks old two (λ (types : Table). bounds_asked x.at of x.expr b) (Some b)
    (ap (λ (t : Bool). only (Some b) t) m) (asked_both old one two x of b r s)) here

pub slice_refused : (old one two : Ground) (x : Given) (of : Shape) (b : Bounds) (may : Bool) (o : Option (Given × Bounds))
    → may ≡ may_slice of x.expr b
    → one ≡ reported old (within_broken (known_length of x.expr) b) → two ≡ reported one (full_broken x.at of b)
    → o ≡ only (Some (x, b)) may → o ≡ None → Turns old two (nothing_came {A = TypedExpr}) (IsSliceWithin b x of)
slice_refused old one two x of b true o m r s e f = cc
slice_refused old one two x of b false o m r s e f =
    then_nothing old two (Asks (λ (types : Table). bounds_asked x.at of x.expr b)) (IsSliced x of) None refl
    (asks old two (λ (types : Table). bounds_asked x.at of x.expr b) None
    (ap (λ (t : Bool). only (Some b) t) m) (asked_both old one two x of b r s))

pub all_asked : (of : Shape) (expr : TypedExpr) (b : Bounds) (ordered within full sound may : Bool) (len : Option ℤ)
    → ordered ≡ unbroken (order_broken b) → len ≡ known_length of expr → within ≡ unbroken (within_broken len b)
    → full ≡ not (full_text of b) → sound ≡ are_sound b → may ≡ (((ordered && within) && full) && sound)
    → may ≡ may_slice of expr b
all_asked of expr b ordered within full sound may len o l w f s m =
    let w_is : within ≡ unbroken (within_broken (known_length of expr) b) = w ∙ ap (λ (n : Option ℤ). unbroken (within_broken n b)) l in
    m ∙ (and_assoc (ordered && within) full sound ∙ and_assoc ordered within (full && sound))
    ∙ (ap (λ (t : Bool). t && (within && (full && sound))) o
    ∙ (ap (λ (t : Bool). unbroken (order_broken b) && (t && (full && sound))) w_is
    ∙ (ap (λ (t : Bool). unbroken (order_broken b) && (unbroken (within_broken (known_length of expr) b) && (t && sound))) f
    ∙ ap (λ (t : Bool). unbroken (order_broken b) && (unbroken (within_broken (known_length of expr) b) && (not (full_text of b) && t))) s)))

-- ---- the slice

pub array_slice_held : (old new : Ground) (elem slice : TypeId) (first : Result TypeId NoMemory)
    → first ≡ Ok slice → IfOk first (λ (i : TypeId). term_at new.types i ≡ Some (Slice elem))
    → OnOk first (new ≡ record old { types = with_term (Slice elem) old.types })
    → Turns old new (came (Some (base_of.ArrayPointer, slice))) (IsArraySlice elem)
array_slice_held old new elem slice first e n h =
    then_soundly old new new (IsHeld (Slice elem)) (λ (id : TypeId). Asks (λ (types : Table). fine (base_of.ArrayPointer, id)))
    (Some slice) slice (came (Some (base_of.ArrayPointer, slice))) refl (held old new (Slice elem) first slice e n h)
    (asks new new (λ (types : Table). fine (base_of.ArrayPointer, slice)) (Some (base_of.ArrayPointer, slice)) refl refl)

pub slice_comes : (old one two : Ground) (at : Pos) (expr expr1 operand : TypedExpr) (of : Shape) (b b1 b2 : Bounds)
    (typed : SliceBase × TypeId) (first : Result (SliceBase × TypeId) NoMemory) (second third : Result TypedExpr NoMemory)
    → Turns old one (sound first) (IsSliceType of expr.of) → beside {B = TypedExpr × Bounds} first (expr, b) ≡ Ok (typed, (expr1, b1))
    → Turns one two (sound second) (IsSliceOperand of expr1) → beside second b1 ≡ Ok (operand, b2)
    → IfOk third (IsSliceNode at typed b2 operand)
    → Turns old two (sound third) (IsSliced (record { at = at; expr = expr }) of b)
slice_comes old one two at expr expr1 operand of b b1 b2 typed first second third t e u f h =
    let pair : (expr, b) ≡ (expr1, b1) = second_stays typed (expr1, b1) first (expr, b) e in
    let same : expr1 ≡ expr = sym (ap (λ (p : TypedExpr × Bounds). p.0) pair) in
    let b_same : b2 ≡ b = sym (ap (λ (p : TypedExpr × Bounds). p.1) pair ∙ second_stays operand b2 second b1 f) in
    then_soundly old one two (IsSliceType of expr.of) (IsSliceTyped (record { at = at; expr = expr }) of b) (Some typed) typed (sound third) refl
    (turned_sound old one (IsSliceType of expr.of) first typed (first_came typed (expr1, b1) first (expr, b) e) t)
    (then_soundly one two two (IsSliceOperand of expr) (IsSliceMade at b typed) (Some operand) operand (sound third) refl
    (subst (λ (y : TypedExpr). Turned one two (Some operand) (IsSliceOperand of y)) same
    (turned_sound one two (IsSliceOperand of expr1) second operand (first_came operand b2 second b1 f) u))
    (fine_came two (λ (types : Table). IsSliceNode at typed b operand) third
    (subst (λ (d : Bounds). IfOk third (IsSliceNode at typed d operand)) b_same h)))

pub slice_node_made : (at : Pos) (typed : SliceBase × TypeId) (x made : TypedExpr) (b b1 : Bounds) (operand operand1 : Box TypedExpr)
    (low high max : Option (Box TypedExpr)) (first : Result (Box TypedExpr) NoMemory)
    → IfOk first (λ (c : Box TypedExpr). c.value ≡ x) → beside first b ≡ Ok (operand, b1)
    → IsBoxedBound b1.low low → IsBoxedBound b1.high high → IsBoxedBound b1.max max → operand ≡ operand1
    → made ≡ node at typed.1 (SliceOf typed.0 operand1 low high max) → IsSliceNode at typed b x made
slice_node_made at typed x made b b1 operand operand1 low high max first v e il ih im o m =
    let is_first : first ≡ Ok operand = first_came operand b1 first b e in
    let same : b1 ≡ b = sym (second_stays operand b1 first b e) in
    let stands = subst (λ (r : Result (Box TypedExpr) NoMemory). IfOk r (λ (c : Box TypedExpr). c.value ≡ x)) is_first v in
    record {
      operand = operand1;
      low = low;
      high = high;
      max = max;
      stands = subst (λ (c : Box TypedExpr). c.value ≡ x) o stands;
      is_low = subst (λ (d : Bounds). IsBoxedBound d.low low) same il;
      is_high = subst (λ (d : Bounds). IsBoxedBound d.high high) same ih;
      is_max = subst (λ (d : Bounds). IsBoxedBound d.max max) same im;
      is = m;
    }

by_type : (old new : Ground) (of : Shape) (id : TypeId) (o : Option TypeId) (result : Result (Option (SliceBase × TypeId)) NoMemory)
    → o ≡ array_elem of → Turns old new result (IsSliceTypeBy o of id) → Turns old new result (IsSliceType of id)
by_type old new of id o (Err error) e h = tt
by_type old new of id o (Ok answer) e h =
    record {
      judged = h.judged;
      is = subst (λ (p : Option TypeId). IsSliceTypeBy p of id (basis old) (basis new) h.judged) e h.is;
      answers = h.answers;
      reports = h.reports;
    }

pub array_type : (old new : Ground) (of : Shape) (id elem : TypeId) (o : Option TypeId) (result : Result (Option (SliceBase × TypeId)) NoMemory)
    → o ≡ array_elem of → o ≡ Some elem → Turns old new result (IsArraySlice elem) → Turns old new result (IsSliceType of id)
array_type old new of id elem o result e is h = by_type old new of id (Some elem) result (sym is ∙ e) h

pub plain_type : (old : Ground) (of : Shape) (id : TypeId) (o : Option TypeId) (base : SliceBase)
    → o ≡ array_elem of → o ≡ None → base ≡ plain_base of → Turns old old (came (Some (base, id))) (IsSliceType of id)
plain_type old of id o base e is b =
    by_type old old of id None (came (Some (base, id))) (sym is ∙ e)
    (asks old old (λ (types : Table). fine (plain_base of, id)) (Some (base, id))
    (ap (λ (s : SliceBase). Some (s, id)) b) refl)

by_operand : (old new : Ground) (of : Shape) (expr : TypedExpr) (b : Bool) (result : Result (Option TypedExpr) NoMemory)
    → b ≡ is_array of → Turns old new result (IsSliceOperandBy b expr) → Turns old new result (IsSliceOperand of expr)
by_operand old new of expr b (Err error) e h = tt
by_operand old new of expr b (Ok answer) e h =
    record {
      judged = h.judged;
      is = subst (λ (p : Bool). IsSliceOperandBy p expr (basis old) (basis new) h.judged) e h.is;
      answers = h.answers;
      reports = h.reports;
    }

pub array_operand : (old new : Ground) (of : Shape) (expr : TypedExpr) (b : Bool) (result : Result (Option TypedExpr) NoMemory)
    → b ≡ is_array of → b ≡ true → Turns old new result (IsAddress expr) → Turns old new result (IsSliceOperand of expr)
array_operand old new of expr b result e is h = by_operand old new of expr true result (sym is ∙ e) h

pub plain_operand : (old : Ground) (of : Shape) (expr : TypedExpr) (b : Bool) → b ≡ is_array of → b ≡ false
    → Turns old old (came (Some expr)) (IsSliceOperand of expr)
plain_operand old of expr b e is =
    by_operand old old of expr false (came (Some expr)) (sym is ∙ e)
    (asks old old (λ (types : Table). fine expr) (Some expr) refl refl)

-- ---- bounds in their boxes

in_its_box : (at : Pos) (expr : TypedExpr) (first : Result (Box TypedExpr) NoMemory) → IfOk first (λ (c : Box TypedExpr). c.value ≡ expr)
    → IfOk (sound first) (IsBoxedBound (bound.Sound at expr))
in_its_box at expr (Err error) h = tt
in_its_box at expr (Ok c) h = (c, (h, refl))

pub bound_boxed : (b : Bound) (at : Pos) (expr : TypedExpr) (first : Result (Box TypedExpr) NoMemory)
    (result : Result (Option (Box TypedExpr)) NoMemory) → b ≡ bound.Sound at expr → result ≡ sound first
    → IfOk first (λ (c : Box TypedExpr). c.value ≡ expr) → IfOk result (IsBoxedBound b)
bound_boxed b at expr first result e r h =
    subst (λ (d : Bound). IfOk result (IsBoxedBound d)) (sym e)
    (subst (λ (o : Result (Option (Box TypedExpr)) NoMemory). IfOk o (IsBoxedBound (bound.Sound at expr))) (sym r) (in_its_box at expr first h))

pub bounds_boxed : (low high max high1 max1 max2 : Bound) (l h m l2 l3 h3 : Option (Box TypedExpr))
    (first second third : Result (Option (Box TypedExpr)) NoMemory)
    → IfOk first (IsBoxedBound low) → beside {B = Bound × Bound} first (high, max) ≡ Ok (l, (high1, max1))
    → IfOk second (IsBoxedBound high1) → beside {B = Option (Box TypedExpr) × Bound} second (l, max1) ≡ Ok (h, (l2, max2))
    → IfOk third (IsBoxedBound max2) → beside {B = Option (Box TypedExpr) × Option (Box TypedExpr)} third (l2, h) ≡ Ok (m, (l3, h3))
    → IsBoxedBound low l3 × IsBoxedBound high h3 × IsBoxedBound max m
bounds_boxed low high max high1 max1 max2 l h m l2 l3 h3 first second third i1 e1 i2 e2 i3 e3 =
    let p1 : (high, max) ≡ (high1, max1) = second_stays l (high1, max1) first (high, max) e1 in
    let p2 : (l, max1) ≡ (l2, max2) = second_stays h (l2, max2) second (l, max1) e2 in
    let p3 : (l2, h) ≡ (l3, h3) = second_stays m (l3, h3) third (l2, h) e3 in
    let high_same : high1 ≡ high = sym (ap (λ (p : Bound × Bound). p.0) p1) in
    let max_same : max2 ≡ max = sym (ap (λ (p : Bound × Bound). p.1) p1 ∙ ap (λ (p : Option (Box TypedExpr) × Bound). p.1) p2) in
    let low_is : l ≡ l3 = ap (λ (p : Option (Box TypedExpr) × Bound). p.0) p2 ∙ ap (λ (p : Option (Box TypedExpr) × Option (Box TypedExpr)). p.0) p3 in
    let high_is : h ≡ h3 = ap (λ (p : Option (Box TypedExpr) × Option (Box TypedExpr)). p.1) p3 in
    let is_low = subst (λ (r : Result (Option (Box TypedExpr)) NoMemory). IfOk r (IsBoxedBound low)) (first_came l (high1, max1) first (high, max) e1) i1 in
    let is_high = subst (λ (r : Result (Option (Box TypedExpr)) NoMemory). IfOk r (IsBoxedBound high1)) (first_came h (l2, max2) second (l, max1) e2) i2 in
    let is_max = subst (λ (r : Result (Option (Box TypedExpr)) NoMemory). IfOk r (IsBoxedBound max2)) (first_came m (l3, h3) third (l2, h) e3) i3 in (
      subst (λ (o : Option (Box TypedExpr)). IsBoxedBound low o) low_is is_low,
      subst (λ (o : Option (Box TypedExpr)). IsBoxedBound high o) high_is (subst (λ (b : Bound). IsBoxedBound b h) high_same is_high),
      subst (λ (b : Bound). IsBoxedBound b m) max_same is_max,
    )
