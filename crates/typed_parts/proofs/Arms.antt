-- An operand given a type, for each form that it has.
use Rattle.std.proofs.Common.{◌≡◌, refl, sym, ap, ◌∙◌, subst, List, [], ◌∷◌, ◌++◌, Bool, true, false, Option, Some, None}
use Rattle.std.proofs.Common.{Result, Ok, Err}
use Rattle.std.specs.Global.{Box, Vec}
use Rattle.std.specs.Prelude.{is_some}
use Rattle.go_base.specs.declared.ids.TypeId.{TypeId}
use Rattle.go_base.specs.declared.memory.NoMemory.{NoMemory}
use Rattle.go_base.specs.declared.place.Pos.{Pos}
use Rattle.go_base.specs.declared.rule.Rule.TheVariants.{BadShift}
use Rattle.go_tree.specs.declared.exprs.ExprKind.{ExprKind}
use Rattle.go_tree.specs.declared.exprs.ExprKind.TheVariants as kinds
use Rattle.go_tree.specs.declared.exprs.TypedExpr.{TypedExpr}
use Rattle.go_type.specs.declared.constants.Const.{Const}
use Rattle.go_type.specs.declared.operators.BinaryOp.{BinaryOp}
use Rattle.go_type.specs.declared.operators.Builtin.{Builtin}
use Rattle.go_type.specs.declared.operators.CompareOp.{CompareOp}
use Rattle.go_type.specs.declared.operators.UnaryOp.{UnaryOp}
use Rattle.go_type.specs.Kinds.{kind_of}
use Rattle.go_type.specs.Operators.{shift_of}
use Rattle.go_type.specs.Table.{Table}
use Rattle.typed_parts.specs.declared.ground.Ground.{Ground}
use Rattle.typed_parts.specs.Joining.{both, listed, with_last}
use Rattle.typed_parts.specs.Judged.{Comes, Judged, Outcome, breaks, fine, reported}
use Rattle.typed_parts.specs.Nodes.{node}
use Rattle.typed_parts.specs.Retyping.{AreRetyped, IsGiven, IsOfEach, IsOfList, IsOfOne, IsOfTwo, IsRetyped, IsShifted, Makes}
use Rattle.typed_parts.specs.Retyping.{constant_as}
use Rattle.typed_parts.proofs.Reports.{reported_after}
use Rattle.typed_parts.proofs.Retypes.{of_one, of_two}
use Rattle.typed_parts.proofs.Steps.{came}

-- an operand by its place and form
pub of_parts : (old new : Ground) (to : TypeId) (expr : TypedExpr) (at : Pos) (kind form : ExprKind)
    (result : Result (Option TypedExpr) NoMemory) → at ≡ expr.at → kind ≡ expr.kind → kind ≡ form
    → Comes old new result (IsRetyped old.types to at form)
    → Comes old new result (IsGiven old.types to expr)
of_parts old new to expr at kind form result is_at is_kind is h =
    subst (λ (p : Pos). Comes old new result (IsRetyped old.types to p expr.kind)) is_at
    (subst (λ (k : ExprKind). Comes old new result (IsRetyped old.types to at k)) (sym is ∙ is_kind) h)

-- an operand that was taken out of its box
pub unboxed : (old new : Ground) (to : TypeId) (b : Box TypedExpr) (x : TypedExpr)
    (result : Result (Option TypedExpr) NoMemory) → x ≡ b.value
    → Comes old new result (IsGiven old.types to x) → Comes old new result (IsGiven old.types to b.value)
unboxed old new to b x result is h =
    subst (λ (y : TypedExpr). Comes old new result (IsGiven old.types to y)) is h

pub constant_comes : (old new : Ground) (to : TypeId) (at : Pos) (value : Const) (answer : Option TypedExpr)
    → answer ≡ (constant_as old.types at value to).sound
    → new ≡ reported old (constant_as old.types at value to).broken
    → Comes old new (came answer) (IsRetyped old.types to at (kinds.ConstOf value))
constant_comes old new to at value answer a r =
    record { judged = constant_as old.types at value to; is = IsRetyped.constant at value; answers = a; reports = r }

pub nil_comes : (old : Ground) (to : TypeId) (at : Pos) (made : TypedExpr) → made ≡ node at to ExprKind.NilOf
    → Comes old old (came (Some made)) (IsRetyped old.types to at ExprKind.NilOf)
nil_comes old to at made m =
    record { judged = fine (node at to ExprKind.NilOf); is = IsRetyped.nil at; answers = ap Some m; reports = refl }

pub comparison_comes : (old : Ground) (to : TypeId) (at : Pos) (made : TypedExpr) (op : CompareOp) (x y : Box TypedExpr)
    → made ≡ node at to (kinds.CompareOf op x y)
    → Comes old old (came (Some made)) (IsRetyped old.types to at (kinds.CompareOf op x y))
comparison_comes old to at made op x y m =
    record {
      judged = fine (node at to (kinds.CompareOf op x y));
      is = IsRetyped.comparison at op x y;
      answers = ap Some m;
      reports = refl;
    }

pub unary_comes : (old new : Ground) (to : TypeId) (at : Pos) (op : UnaryOp) (x : Box TypedExpr)
    (operand result : Result (Option TypedExpr) NoMemory)
    → Comes old new operand (IsGiven old.types to x.value)
    → Makes (IsOfOne at to (kinds.UnaryOf op)) operand result
    → Comes old new result (IsRetyped old.types to at (kinds.UnaryOf op x))
unary_comes old new to at op x operand result h m =
    of_one old new at to (kinds.UnaryOf op) (IsGiven old.types to x.value)
    (IsRetyped old.types to at (kinds.UnaryOf op x))
    (λ one made a b. IsRetyped.unary at op x one made a b) operand result h m

pub and_comes : (old mid new : Ground) (to : TypeId) (at : Pos) (x y : Box TypedExpr)
    (left right result : Result (Option TypedExpr) NoMemory)
    → Comes old mid left (IsGiven old.types to x.value)
    → Comes mid new right (IsGiven mid.types to y.value)
    → Makes (IsOfTwo at to kinds.AndAlso) (both left right) result
    → Comes old new result (IsRetyped old.types to at (kinds.AndAlso x y))
and_comes old mid new to at x y left right result h k m =
    of_two old mid new at to kinds.AndAlso x.value y.value (IsRetyped old.types to at (kinds.AndAlso x y))
    (λ one other made a b d. IsRetyped.conjunction at x y one other made a b d) left right result h k m

pub or_comes : (old mid new : Ground) (to : TypeId) (at : Pos) (x y : Box TypedExpr)
    (left right result : Result (Option TypedExpr) NoMemory)
    → Comes old mid left (IsGiven old.types to x.value)
    → Comes mid new right (IsGiven mid.types to y.value)
    → Makes (IsOfTwo at to kinds.OrElse) (both left right) result
    → Comes old new result (IsRetyped old.types to at (kinds.OrElse x y))
or_comes old mid new to at x y left right result h k m =
    of_two old mid new at to kinds.OrElse x.value y.value (IsRetyped old.types to at (kinds.OrElse x y))
    (λ one other made a b d. IsRetyped.disjunction at x y one other made a b d) left right result h k m

pub arithmetic_comes : (old mid new : Ground) (to : TypeId) (at : Pos) (op : BinaryOp) (x y : Box TypedExpr)
    (left right result : Result (Option TypedExpr) NoMemory)
    → is_some (shift_of op) ≡ false
    → Comes old mid left (IsGiven old.types to x.value)
    → Comes mid new right (IsGiven mid.types to y.value)
    → Makes (IsOfTwo at to (kinds.BinaryOf op)) (both left right) result
    → Comes old new result (IsRetyped old.types to at (kinds.BinaryOf op x y))
arithmetic_comes old mid new to at op x y left right result plain h k m =
    of_two old mid new at to (kinds.BinaryOf op) x.value y.value (IsRetyped old.types to at (kinds.BinaryOf op x y))
    (λ one other made a b d. IsRetyped.arithmetic at op x y one other made plain a b d) left right result h k m

shifted : (types : Table) (to : TypeId) (at : Pos) (op : BinaryOp) (x count : Box TypedExpr)
    (result : Option TypedExpr) (one : Judged TypedExpr) → is_some (shift_of op) ≡ true → IsShifted types to x.value one
    → IsOfOne at to (λ b. kinds.BinaryOf op b count) one.sound result
    → IsRetyped types to at (kinds.BinaryOf op x count) (record { sound = result; broken = one.broken })
shifted types to at op x count result one s (IsShifted.integer r e h) m =
    IsRetyped.shift at op x count one result s e h m
shifted types to at op x count result one s (IsShifted.other e) m =
    subst (λ (r : Option TypedExpr). IsRetyped types to at (kinds.BinaryOf op x count)
    (record { sound = r; broken = (breaks {A = TypedExpr} x.value.at BadShift).broken })) (sym m)
    (IsRetyped.bad_shift at op x count s e)

pub shift_comes : (old new : Ground) (to : TypeId) (at : Pos) (op : BinaryOp) (x count : Box TypedExpr)
    (left result : Result (Option TypedExpr) NoMemory)
    → is_some (shift_of op) ≡ true
    → Comes old new left (IsShifted old.types to x.value)
    → Makes (IsOfOne at to (λ b. kinds.BinaryOf op b count)) left result
    → Comes old new result (IsRetyped old.types to at (kinds.BinaryOf op x count))
shift_comes old new to at op x count left result s h m =
    of_one old new at to (λ b. kinds.BinaryOf op b count) (IsShifted old.types to x.value)
    (IsRetyped old.types to at (kinds.BinaryOf op x count))
    (λ one made a b. shifted old.types to at op x count made one s a b) left result h m

pub built_in_comes : (old new : Ground) (to : TypeId) (at : Pos) (builtin : Builtin) (form : Option TypeId)
    (xs : Vec TypedExpr) (spread : Bool)
    (arguments : Result (Option (Vec TypedExpr)) NoMemory) (result : Result (Option TypedExpr) NoMemory)
    → Comes old new (listed arguments) (AreRetyped old.types to xs.items)
    → Makes (IsOfList at to builtin) arguments result
    → Comes old new result (IsRetyped old.types to at (kinds.BuiltinOf builtin form xs spread))
built_in_comes old new to at builtin form xs spread arguments (Err error) h m = tt
built_in_comes old new to at builtin form xs spread (Err error) (Ok result) h m = absurd m
built_in_comes old new to at builtin form xs spread (Ok each) (Ok result) h m =
    record {
      judged = record { sound = result; broken = h.judged.broken };
      is = IsRetyped.built_in at builtin form xs spread h.judged result h.is
          (subst (λ (s : Option (List TypedExpr)). IsOfEach at to builtin s result) h.answers m);
      answers = refl;
      reports = h.reports;
    }

pub each_none : (old : Ground) (to : TypeId) (xs : List TypedExpr) → xs ≡ []
    → Outcome old old (Some xs) (AreRetyped old.types to [])
each_none old to xs e = record { judged = fine []; is = AreRetyped.none; answers = ap Some e; reports = refl }

pub each_more : (old mid new : Ground) (to : TypeId) (xs : List TypedExpr) (x : TypedExpr)
    (before after : Option (List TypedExpr)) (answer : Option TypedExpr)
    → Outcome old mid before (AreRetyped old.types to xs)
    → Outcome mid new answer (IsGiven mid.types to x)
    → after ≡ with_last before answer
    → Outcome old new after (AreRetyped old.types to (xs ++ x ∷ []))
each_more old mid new to xs x before after answer h k e =
    let second = subst (λ (types : Table). IsGiven types to x k.judged) (ap (λ (g : Ground). g.types) h.reports) k.is in
    record {
      judged = record { sound = with_last h.judged.sound k.judged.sound; broken = h.judged.broken ++ k.judged.broken };
      is = AreRetyped.more xs x h.judged k.judged h.is second;
      answers = e ∙ (ap (λ (t : Option (List TypedExpr)). with_last t answer) h.answers
          ∙ ap (λ (a : Option TypedExpr). with_last h.judged.sound a) k.answers);
      reports = k.reports
          ∙ (ap (λ (g : Ground). reported g k.judged.broken) h.reports ∙ reported_after old h.judged.broken k.judged.broken);
    }

pub shifted_integer : (old new : Ground) (to : TypeId) (x : TypedExpr) (result : Result (Option TypedExpr) NoMemory)
    → is_some (kind_of old.types to) ≡ true → Comes old new result (IsGiven old.types to x)
    → Comes old new result (IsShifted old.types to x)
shifted_integer old new to x (Err error) e h = tt
shifted_integer old new to x (Ok answer) e h =
    record { judged = h.judged; is = IsShifted.integer h.judged e h.is; answers = h.answers; reports = h.reports }

pub shifted_other : (old new : Ground) (to : TypeId) (x : TypedExpr) (at : Pos) → is_some (kind_of old.types to) ≡ false
    → at ≡ x.at → new ≡ reported old (record { at = at; rule = BadShift } ∷ [])
    → Comes old new (came None) (IsShifted old.types to x)
shifted_other old new to x at e is r =
    record {
      judged = breaks x.at BadShift;
      is = IsShifted.other e;
      answers = refl;
      reports = subst (λ (p : Pos). new ≡ reported old (record { at = p; rule = BadShift } ∷ [])) is r;
    }
