-- What becomes of whole numbers and of strings.
use Rattle.std.proofs.Common.{◌≡◌, refl, sym, ap, ◌∙◌, subst, Bool, true, false, Option, Some, None, Result}
use Rattle.std.specs.Option.{option_map}
use Rattle.go_base.specs.declared.ids.TypeId.{TypeId}
use Rattle.go_base.specs.declared.memory.NoMemory.{NoMemory}
use Rattle.go_base.specs.declared.rule.Rule.{Rule}
use Rattle.go_rules.specs.declared.untyped.Untyped.{Untyped}
use Rattle.go_rules.specs.Untyped.{default_of, kind_at}
use Rattle.go_tree.specs.declared.exprs.TypedExpr.{TypedExpr}
use Rattle.go_type.specs.declared.term.Basic.{Basic}
use Rattle.go_type.specs.declared.term.Basic.TheVariants as basic
use Rattle.go_type.specs.Table.{basic_id}
use Rattle.typed_parts.proofs.Steps.{came, nothing_came, stays}
use Rattle.typed_parts.specs.declared.ground.Ground.{Ground}
use Rattle.typed_parts.specs.declared.meaning.Given.{Given}
use Rattle.typed_parts.specs.Judged.{Comes, Outcome, fine, unsound}
use Rattle.typed_parts.specs.Numbers.{whole_breach}
use Rattle.typed_parts.specs.Retyping.{IsAsUntyped, IsDefaultOf, IsDefaulted, IsOfDefault, IsGiven, IsTakenAs}
use Rattle.typed_parts.specs.Shapes.{is_untyped_text}
use Rattle.typed_parts.specs.Wholes.{IsTextTyped, IsTextWhere, IsWhole, IsWholeWhere, given_as, given_at}

pub untyped_taken : (old new : Ground) (to : TypeId) (expr : TypedExpr) (kind : Untyped)
    (result : Result (Option TypedExpr) NoMemory) → Some kind ≡ kind_at old.types expr.of
    → Comes old new result (IsGiven old.types to expr) → Comes old new result (IsAsUntyped old.types to expr)
unfolding IsAsUntyped
untyped_taken old new to expr kind result e h =
    subst (λ (k : Option Untyped). Comes old new result (IsTakenAs old.types to expr k)) e h

pub typed_stays : (old : Ground) (to : TypeId) (expr : TypedExpr) → None ≡ kind_at old.types expr.of
    → Comes old old (came (Some expr)) (IsAsUntyped old.types to expr)
unfolding IsAsUntyped
typed_stays old to expr e =
    subst (λ (k : Option Untyped). Comes old old (came (Some expr)) (IsTakenAs old.types to expr k)) e
    (stays old (IsTakenAs old.types to expr None) expr refl)

pub typed_has_its_type : (old : Ground) (expr : TypedExpr) → None ≡ kind_at old.types expr.of
    → Comes old old (came (Some expr)) (IsDefaulted old.types expr)
unfolding IsDefaulted
typed_has_its_type old expr e =
    subst (λ (k : Option Untyped). Comes old old (came (Some expr)) (IsDefaultOf old.types expr k)) e
    (stays old (IsDefaultOf old.types expr None) expr refl)

by_plain : (old new : Ground) (expr : TypedExpr) (of : TypeId) (plain : Option Basic)
    (result : Result (Option TypedExpr) NoMemory) → Some of ≡ option_map basic_id plain
    → Comes old new result (IsGiven old.types of expr) → Comes old new result (IsOfDefault old.types expr plain)
by_plain old new expr of None result e h = cc
by_plain old new expr of (Some plain) result e h =
    let same : of ≡ basic_id plain = cc in
    subst (λ (o : TypeId). Comes old new result (IsGiven old.types o expr)) same h

pub untyped_takes_default : (old new : Ground) (expr : TypedExpr) (kind : Untyped) (of : TypeId)
    (result : Result (Option TypedExpr) NoMemory) → Some kind ≡ kind_at old.types expr.of
    → Some of ≡ option_map basic_id (default_of kind)
    → Comes old new result (IsGiven old.types of expr) → Comes old new result (IsDefaulted old.types expr)
unfolding IsDefaulted
untyped_takes_default old new expr kind of result e d h =
    subst (λ (k : Option Untyped). Comes old new result (IsDefaultOf old.types expr k)) e
    (by_plain old new expr of (default_of kind) result d h)

pub whole_comes : (old new : Ground) (i : Option Given) (given : Given) (rule : Rule) (broken : Option Rule)
    (result : Result (Option TypedExpr) NoMemory) → i ≡ Some given → broken ≡ whole_breach old.types given.expr rule
    → Comes old new result (IsWholeWhere old.types given broken) → Comes old new result (IsWhole old.types i rule)
whole_comes old new i given rule broken result e b h =
    subst (λ (x : Option Given). Comes old new result (IsWhole old.types x rule)) (sym e)
    (subst (λ (r : Option Rule). Comes old new result (IsWholeWhere old.types given r)) b h)

pub no_whole : (old : Ground) (i : Option Given) (rule : Rule) → i ≡ None
    → Comes old old (nothing_came {A = TypedExpr}) (IsWhole old.types i rule)
no_whole old i rule e =
    subst (λ (x : Option Given). Comes old old (nothing_came {A = TypedExpr}) (IsWhole old.types x rule)) (sym e)
    (record { judged = unsound; is = refl; answers = refl; reports = refl })

pub text_typed : (old new : Ground) (x : Option Given) (given : Given) (to : TypeId) (answer : Option TypedExpr)
    (result : Option Given)
    → x ≡ Some given → is_untyped_text old.types given.expr.of ≡ true → to ≡ basic_id basic.Text
    → Outcome old new answer (IsGiven old.types to given.expr)
    → result ≡ option_map (given_as given.at) answer
    → Comes old new (came result) (IsTextTyped old.types x)
text_typed old new x given to answer result e t is h r =
    let text : IsGiven old.types (basic_id basic.Text) given.expr h.judged =
    subst (λ (o : TypeId). IsGiven old.types o given.expr h.judged) is h.is in
    subst (λ (y : Option Given). Comes old new (came result) (IsTextTyped old.types y)) (sym e)
    (record {
      judged = given_at given.at h.judged;
      is = subst (λ (b : Bool). IsTextWhere old.types given b (given_at given.at h.judged)) (sym t) (h.judged, (text, refl));
      answers = r ∙ ap (option_map (given_as given.at)) h.answers;
      reports = h.reports;
    })

pub other_stays : (old : Ground) (x : Option Given) (given : Given) → x ≡ Some given
    → is_untyped_text old.types given.expr.of ≡ false
    → Comes old old (came (Some given)) (IsTextTyped old.types x)
other_stays old x given e t =
    subst (λ (y : Option Given). Comes old old (came (Some given)) (IsTextTyped old.types y)) (sym e)
    (record {
      judged = fine given;
      is = subst (λ (b : Bool). IsTextWhere old.types given b (fine given)) (sym t) refl;
      answers = refl;
      reports = refl;
    })

pub no_text : (old : Ground) (x : Option Given) → x ≡ None
    → Comes old old (nothing_came {A = Given}) (IsTextTyped old.types x)
no_text old x e =
    subst (λ (y : Option Given). Comes old old (nothing_came {A = Given}) (IsTextTyped old.types y)) (sym e)
    (record { judged = unsound; is = refl; answers = refl; reports = refl })
