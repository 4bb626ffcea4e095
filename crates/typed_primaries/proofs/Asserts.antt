-- What becomes of type assertions, and of forms with a second value.
use Rattle.std.proofs.Common.{◌≡◌, refl, sym, ap, ◌∙◌, subst, Bool, true, false, [], ◌∷◌, Option, Some, None, Result, Ok}
use Rattle.std.specs.Prelude.{IfOk, OnOk, IsTrue, ◌↔◌}
use Rattle.std.specs.Global.{Box}
use Rattle.std.specs.Option.{option_zip}
use Rattle.go_base.specs.declared.ids.TypeId.{TypeId}
use Rattle.go_base.specs.declared.memory.NoMemory.{NoMemory}
use Rattle.go_base.specs.declared.place.Pos.{Pos}
use Rattle.go_base.specs.declared.rule.Rule.TheVariants.{BadTypeAssertion}
use Rattle.go_tree.specs.declared.exprs.Callee.TheOpen as layers
use Rattle.go_tree.specs.declared.exprs.Callee.TheOpen.{ExprKind-F}
use Rattle.go_tree.specs.declared.exprs.Callee.TheViews.{out-ExprKind, roll-ExprKind, roll-out-ExprKind}
use Rattle.go_tree.specs.declared.exprs.Callee.{Callee}
use Rattle.go_tree.specs.declared.exprs.Elements.{Elements}
use Rattle.go_tree.specs.declared.exprs.EntryInit.{EntryInit}
use Rattle.go_tree.specs.declared.exprs.ExprKind.{ExprKind}
use Rattle.go_tree.specs.declared.exprs.ExprKind.TheVariants as kinds
use Rattle.go_tree.specs.declared.exprs.FieldInit.{FieldInit}
use Rattle.go_tree.specs.declared.exprs.ItemInit.{ItemInit}
use Rattle.go_tree.specs.declared.exprs.TypedExpr.{TypedExpr}
use Rattle.go_tree.specs.declared.exprs.Values.{Values}
use Rattle.go_type.specs.declared.term.Basic.TheVariants as basic
use Rattle.go_type.specs.declared.term.TypeTerm.TheVariants.{Tuple}
use Rattle.go_type.specs.Table.{Table, basic_id, term_at, with_term}
use Rattle.typed_parts.specs.declared.ground.Ground.{Ground}
use Rattle.typed_parts.specs.declared.meaning.Given.{Given}
use Rattle.typed_parts.specs.declared.meaning.Seen.{Seen}
use Rattle.typed_parts.specs.Joining.{beside, only}
use Rattle.typed_parts.specs.Judged.{Judged, breaks, fine, reported}
use Rattle.typed_parts.specs.Limits.{Basis}
use Rattle.typed_parts.specs.Nodes.{node}
use Rattle.typed_parts.specs.Turning.{IsHeld, Soundly, Turned, Turns}
use Rattle.typed_parts.proofs.Turns.{asks, came, first_came, held, keeps, nothing_came, second_stays, then_soundly}
use Rattle.typed_primaries.specs.Asserting.{IsAsserted, IsAssertedAs, IsAssertedTo, IsPaired, IsTypeAssertion, IsWithOk, MayBe}
use Rattle.typed_primaries.specs.Asserting.{case_broken, interface_value, paired_layer, paired_with_ok}
use Rattle.typed_primaries.proofs.Follows.{asks_then}

abbrev pub IsAssertedPair : Pos → Given × TypeId → Basis → Basis → Judged TypedExpr → Type 0
IsAssertedPair to_at (x, to) before after result = IsAsserted to_at x to before after result

pair_there : (old new : Ground) (to_at : Pos) (x : Option Given) (to : Option TypeId) (result : Result (Option TypedExpr) NoMemory)
    → Turns old new result (Soundly (IsAssertedPair to_at) (option_zip x to))
    → Turns old new result (Soundly (IsAssertedTo to_at to) x)
pair_there old new to_at None None result h = h
pair_there old new to_at None (Some to) result h = h
pair_there old new to_at (Some x) None result h = h
pair_there old new to_at (Some x) (Some to) result h = h

pub assertion_comes : (old mid new : Ground) (x : Seen) (to : Option TypeId) (to_at : Pos) (o : Option Given)
    (result : Result (Option TypedExpr) NoMemory)
    → o ≡ (interface_value old.types x).sound → mid ≡ reported old (interface_value old.types x).broken
    → Turns mid new result (Soundly (IsAssertedPair to_at) (option_zip o to))
    → Turns old new result (IsTypeAssertion x to to_at)
assertion_comes old mid new x to to_at o result a r h =
    asks_then old mid new (λ (types : Table). interface_value types x) (Soundly (IsAssertedTo to_at to)) o result a r
    (pair_there mid new to_at o to result h)

pub assertion_made : (old new : Ground) (x y : Given) (to : TypeId) (to_at : Pos) (may : Bool) (b : Box TypedExpr)
    (made : TypedExpr) → (IsTrue may ↔ MayBe old.types x.expr.of to) → new ≡ reported old (case_broken to_at may)
    → only (Some x) may ≡ Some y → b.value ≡ y.expr → made ≡ node y.at to (kinds.AssertTo b to false)
    → Turns old new (came (Some made)) (IsAsserted to_at x to)
assertion_made old new x y to to_at false b made d r e v m = cc
assertion_made old new x y to to_at true b made d r e v m =
    let same : y ≡ x = cc in
    keeps old new (λ (types : Table). IsAssertedAs types to_at x to) (Some made)
    (record {
      judged = fine made;
      is = IsAssertedAs.may_be made (d.0 refl) (b, (v ∙ ap (λ (z : Given). z.expr) same, m ∙ ap (λ (z : Given). node z.at to (kinds.AssertTo b to false)) same));
      answers = refl;
      reports = r;
    })

pub assertion_refused : (old new : Ground) (x : Given) (to : TypeId) (to_at : Pos) (may : Bool)
    → (IsTrue may ↔ MayBe old.types x.expr.of to) → new ≡ reported old (case_broken to_at may) → only (Some x) may ≡ None
    → Turns old new (nothing_came {A = TypedExpr}) (IsAsserted to_at x to)
assertion_refused old new x to to_at true d r e = cc
assertion_refused old new x to to_at false d r e =
    keeps old new (λ (types : Table). IsAssertedAs types to_at x to) None
    (record {
      judged = breaks to_at BadTypeAssertion;
      is = IsAssertedAs.may_not_be (λ (p : MayBe old.types x.expr.of to). let f : false ≡ true = d.1 p in cc);
      answers = refl;
      reports = r;
    })

-- ---- a second value

-- what an expression is made of, one layer
abbrev Layer : Type 0
Layer = ExprKind-F Callee Elements ExprKind Values EntryInit FieldInit ItemInit TypedExpr

pub paired_form : (x : TypedExpr) (pair : TypeId) (at : Pos) (kind form second : ExprKind) (layer : Layer) (made : TypedExpr)
    → at ≡ x.at → kind ≡ x.kind → kind ≡ form → out-ExprKind form ≡ layer
    → node x.at pair second ≡ paired_layer x pair layer → made ≡ node at pair second → made ≡ paired_with_ok x pair
paired_form x pair at kind form second layer made is_at is_kind is out same m =
    m ∙ (ap (λ (p : Pos). node p pair second) is_at
    ∙ (same ∙ ap (paired_layer x pair) (sym out ∙ ap out-ExprKind (sym is ∙ is_kind))))

-- the forms that give no second value
other_layer : (x : TypedExpr) (pair : TypeId) (y : Layer)
    → ((table key comma_ok : _) → roll-ExprKind y ≡ kinds.MapIndex table key comma_ok → ⊥)
    → ((channel comma_ok : _) → roll-ExprKind y ≡ kinds.Receive channel comma_ok → ⊥)
    → ((operand to comma_ok : _) → roll-ExprKind y ≡ kinds.AssertTo operand to comma_ok → ⊥)
    → x ≡ paired_layer x pair y
other_layer x pair (layers.ExprKind-F.MapIndex table key comma_ok) m r a = absurd (m table key comma_ok (kinds.rolls-MapIndex table key comma_ok))
other_layer x pair (layers.ExprKind-F.Receive channel comma_ok) m r a = absurd (r channel comma_ok (kinds.rolls-Receive channel comma_ok))
other_layer x pair (layers.ExprKind-F.AssertTo operand to comma_ok) m r a = absurd (a operand to comma_ok (kinds.rolls-AssertTo operand to comma_ok))
other_layer x pair _ m r a = refl

pub other_form : (x : TypedExpr) (pair : TypeId) (at : Pos) (of : TypeId) (kind : ExprKind) (made : TypedExpr)
    → at ≡ x.at → of ≡ x.of → kind ≡ x.kind
    → ((table key comma_ok : _) → kind ≡ kinds.MapIndex table key comma_ok → ⊥)
    → ((channel comma_ok : _) → kind ≡ kinds.Receive channel comma_ok → ⊥)
    → ((operand to comma_ok : _) → kind ≡ kinds.AssertTo operand to comma_ok → ⊥)
    → made ≡ node at of kind → made ≡ paired_with_ok x pair
other_form x pair at of kind made is_at is_of is_kind m r a e =
    let rolled : roll-ExprKind (out-ExprKind x.kind) ≡ x.kind = roll-out-ExprKind x.kind in
    e ∙ (ap (λ (p : Pos). node p of kind) is_at ∙ (ap (λ (t : TypeId). node x.at t kind) is_of ∙ ap (λ (k : ExprKind). node x.at x.of k) is_kind))
    ∙ other_layer x pair (out-ExprKind x.kind)
    (λ table key comma_ok q. m table key comma_ok (is_kind ∙ (sym rolled ∙ q)))
    (λ channel comma_ok q. r channel comma_ok (is_kind ∙ (sym rolled ∙ q)))
    (λ operand to comma_ok q. a operand to comma_ok (is_kind ∙ (sym rolled ∙ q)))

pub with_ok_comes : (old new : Ground) (x other : TypedExpr) (bool : TypeId) (came1 : Result TypeId NoMemory) (pair : TypeId)
    (made : TypedExpr) → bool ≡ basic_id basic.Bool
    → IfOk came1 (λ (i : TypeId). term_at new.types i ≡ Some (Tuple (x.of ∷ bool ∷ [])))
    → OnOk came1 (new ≡ record old { types = with_term (Tuple (x.of ∷ bool ∷ [])) old.types })
    → beside came1 x ≡ Ok (pair, other) → made ≡ paired_with_ok other pair
    → Turns old new (came (Some made)) (IsWithOk x)
with_ok_comes old new x other bool came1 pair made b n h w m =
    let same : other ≡ x = sym (second_stays pair other came1 x w) in
    let is_held = held old new (Tuple (x.of ∷ bool ∷ [])) came1 pair (first_came pair other came1 x w) n h in
    then_soundly old new new (IsHeld (Tuple (x.of ∷ basic_id basic.Bool ∷ []))) (IsPaired x) (Some pair) pair (came (Some made)) refl
    (subst (λ (t : TypeId). Turned old new (Some pair) (IsHeld (Tuple (x.of ∷ t ∷ [])))) b is_held)
    (asks new new (λ (types : Table). fine (paired_with_ok x pair)) (Some made)
    (ap (λ (y : TypedExpr). Some y) (m ∙ ap (λ (y : TypedExpr). paired_with_ok y pair) same)) refl)
