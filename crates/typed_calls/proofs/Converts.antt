-- What becomes of conversions.
use Rattle.std.proofs.Common.{◌≡◌, refl, sym, ap, ◌∙◌, subst, List, [], ◌∷◌, Bool}
use Rattle.std.proofs.Common.{Option, Some, None, Result, Ok, Err, inl, inr}
use Rattle.std.specs.Global.{Vec}
use Rattle.std.specs.Option.{option_map}
use Rattle.std.specs.Prelude.{IfOk, IsTrue, ◌↔◌, ◌⊎◌}
use Rattle.go_base.specs.declared.ids.TypeId.{TypeId}
use Rattle.go_base.specs.declared.memory.NoMemory.{NoMemory}
use Rattle.go_base.specs.declared.place.Pos.{Pos}
use Rattle.go_base.specs.declared.rule.Rule.TheVariants.{BadConversion}
use Rattle.go_rules.specs.declared.untyped.Untyped.{Untyped}
use Rattle.go_rules.specs.Untyped.{kind_at}
use Rattle.go_tree.specs.declared.exprs.TypedExpr.{TypedExpr}
use Rattle.go_type.specs.Grows.{Grows}
use Rattle.go_type.specs.Table.{Table}
use Rattle.type_bare.specs.Stripped.{KeepsDefinitions}
use Rattle.typed_parts.specs.declared.ground.Ground.{Ground}
use Rattle.typed_parts.specs.declared.meaning.Given.{Given}
use Rattle.typed_parts.specs.Joining.{items_of, listed, sound}
use Rattle.typed_parts.specs.Judged.{Broken, Comes, Judged, breaks, fine, judged, reported}
use Rattle.typed_parts.specs.Retyping.{IsGiven}
use Rattle.typed_calls.specs.declared.converting.ConstantConversion.{ConstantConversion}
use Rattle.typed_calls.specs.declared.converting.UntypedConversion.{UntypedConversion}
use Rattle.typed_calls.specs.Converting.{IsConverted, IsConvertedAs, IsExplicit, IsExplicitNode, IsTypedAs, IsTypedConverted}
use Rattle.typed_calls.specs.Converting.{IsRetypedAt, IsUntypedAs, IsUntypedConverted, IsValueOfKind, MayConvert, constant_conversion}
use Rattle.typed_calls.specs.Converting.{moved, moved_result, placed, untyped_conversion}
use Rattle.typed_parts.specs.Turning.{Asks, IsThenSoundly, Keeps, Soundly, Turned, Turns}
use Rattle.typed_parts.proofs.Turns.{asks, came, followed, held_reports, kept_reports, weaker}
use Rattle.typed_parts.specs.Limits.{Basis, basis}

-- a function that is asked of what a first rule made, and a rule of what it gives
pub after_function : {A B C : Type 0} (old mid last new : Ground) (First : Basis → Basis → Judged A → Type 0)
    (rule : A → Judged B) (Next : B → Basis → Basis → Judged C → Type 0) (o : Option A) (p : Option B)
    (result : Result (Option C) NoMemory) → Turned old mid o First → p ≡ (judged o rule).sound
    → last ≡ reported mid (judged o rule).broken → Turns last new result (Soundly Next p)
    → Turns old new result (IsThenSoundly First (λ x. IsThenSoundly (Asks (λ types. rule x)) Next))
after_function {A} {B} {C} old mid last new First rule Next None p result h a r go =
    let here : last ≡ mid = r in
    let goes = subst (λ (g : Ground). Turns g new result (Soundly Next p)) here go in
    let none = subst (λ (q : Option B). Turns mid new result (Soundly Next q)) a goes in
    followed old mid new First (Soundly (λ (x : A). IsThenSoundly (Asks (λ (types : Table). rule x)) Next)) None result h none
after_function {A} {B} {C} old mid last new First rule Next (Some x) p result h a r go =
    followed old mid new First (Soundly (λ (y : A). IsThenSoundly (Asks (λ (types : Table). rule y)) Next)) (Some x) result h
    (followed mid last new (Asks (λ (types : Table). rule x)) (Soundly Next) p result
    (asks mid last (λ (types : Table). rule x) p a r) go)

pub converted_by : (old new : Ground) (at : Pos) (to : TypeId) (x : Given) (by : ConstantConversion)
    (result : Result (Option TypedExpr) NoMemory) → by ≡ constant_conversion old.types x.expr to
    → Turns old new result (IsConvertedAs by at x to) → Turns old new result (IsConverted at to x)
converted_by old new at to x by result e h =
    weaker old new (IsConvertedAs by at x to) (IsConverted at to x) result
    (λ (one : Judged TypedExpr) is. subst (λ (b : ConstantConversion). IsConvertedAs b at x to (basis old) (basis new) one) e is) h

-- a function that breaks no rule, unless memory ran out
pub made_by : {A : Type 0} (old : Ground) (rule : Table → Judged A) (came : Result (Option A) NoMemory)
    → IfOk came (λ made. made ≡ (rule old.types).sound) → (rule old.types).broken ≡ [] → Turns old old came (Asks rule)
made_by old rule (Err error) h b = tt
made_by old rule (Ok made) h b =
    asks old old rule made h (ap (λ (broken : List Broken). reported old broken) (sym b))

pub value_of_kind : (old new : Ground) (at : Pos) (to : TypeId) (expr : TypedExpr) (kind : Option Untyped)
    (result : Result (Option TypedExpr) NoMemory) → kind ≡ kind_at old.types expr.of
    → Turns old new result (IsValueOfKind kind at expr to)
    → Turns old new result (IsValueOfKind (kind_at old.types expr.of) at expr to)
value_of_kind old new at to expr kind result e h =
    subst (λ (k : Option Untyped). Turns old new result (IsValueOfKind k at expr to)) e h

pub untyped_by : (old new : Ground) (at : Pos) (to : TypeId) (expr : TypedExpr) (kind : Untyped) (by : UntypedConversion)
    (result : Result (Option TypedExpr) NoMemory) → by ≡ untyped_conversion old.types kind to
    → Turns old new result (IsUntypedAs by at expr to) → Turns old new result (IsUntypedConverted at expr kind to)
untyped_by old new at to expr kind by result e h =
    weaker old new (IsUntypedAs by at expr to) (IsUntypedConverted at expr kind to) result
    (λ (one : Judged TypedExpr) is. subst (λ (b : UntypedConversion). IsUntypedAs b at expr to (basis old) (basis new) one) e is) h

-- a conversion of what came
pub explicit_made : (g : Ground) (at : Pos) (to : TypeId) (expr : TypedExpr) (made : Result TypedExpr NoMemory)
    (result : Result (Option TypedExpr) NoMemory) → IfOk made (IsExplicit g.types at expr to) → result ≡ sound made
    → Turns g g result (IsExplicitNode at to expr)
explicit_made g at to expr (Err error) result h e =
    subst (λ (r : Result (Option TypedExpr) NoMemory). Turns g g r (IsExplicitNode at to expr)) (sym e) tt
explicit_made g at to expr (Ok x) result h e =
    subst (λ (r : Result (Option TypedExpr) NoMemory). Turns g g r (IsExplicitNode at to expr)) (sym e)
    (record { judged = fine x; is = (refl, (x, (h, refl))); answers = refl; reports = refl })

-- a typed value that is converted
pub typed_made : (old new : Ground) (at : Pos) (to : TypeId) (expr : TypedExpr) (made : Result TypedExpr NoMemory)
    (result : Result (Option TypedExpr) NoMemory)
    → Grows old.types new.types → KeepsDefinitions old.types new.types → new ≡ record old { types = new.types }
    → MayConvert old.types new.types expr.of to
    → IfOk made (IsExplicit new.types at expr to) → result ≡ sound made
    → Turns old new result (IsTypedConverted at expr to)
typed_made old new at to expr (Err error) result grows definitions same may h e =
    subst (λ (r : Result (Option TypedExpr) NoMemory). Turns old new r (IsTypedConverted at expr to)) (sym e) tt
typed_made old new at to expr (Ok x) result grows definitions same may h e =
    subst (λ (r : Result (Option TypedExpr) NoMemory). Turns old new r (IsTypedConverted at expr to)) (sym e)
    (record {
      judged = fine x;
      is = record { within = ap (λ (g : Ground). (basis g).within) same; grows = grows; definitions = definitions; is = IsTypedAs.converted x may h };
      answers = refl;
      reports = held_reports old new [] same;
    })

pub typed_refused : (old mid new : Ground) (at : Pos) (to : TypeId) (expr : TypedExpr) (answer : Option TypedExpr)
    → Grows old.types mid.types → KeepsDefinitions old.types mid.types → mid ≡ record old { types = mid.types }
    → (MayConvert old.types mid.types expr.of to → ⊥)
    → answer ≡ None → new ≡ reported mid (record { at = at; rule = BadConversion } ∷ [])
    → Turns old new (came answer) (IsTypedConverted at expr to)
typed_refused old mid new at to expr answer grows definitions same never a r =
    let broken : List Broken = record { at = at; rule = BadConversion } ∷ [] in
    let whole : new ≡ reported (record old { types = mid.types }) broken = r ∙ ap (λ (g : Ground). reported g broken) same in
    let types : new.types ≡ mid.types = ap (λ (g : Ground). g.types) r in
    record {
      judged = breaks at BadConversion;
      is = record {
        within = ap (λ (g : Ground). (basis g).within) whole;
        grows = subst (λ (t : Table). Grows old.types t) (sym types) grows;
        definitions = subst (λ (t : Table). KeepsDefinitions old.types t) (sym types) definitions;
        is = subst (λ (t : Table). IsTypedAs at expr to old.types t (breaks at BadConversion)) (sym types) (IsTypedAs.refused never);
      };
      answers = a;
      reports = held_reports old new broken
          (subst (λ (t : Table). new ≡ reported (record old { types = t }) broken) (sym types) whole);
    }

-- of a list that came
pub list_came : {A : Type 0} (old new : Ground) (Is : Basis → Basis → Judged (List A) → Type 0)
    (came : Result (Option (Vec A)) NoMemory) (o : Option (Vec A)) → came ≡ Ok o → Turns old new (listed came) Is
    → Turned old new (items_of o) Is
list_came {A} old new Is came o e h = subst (λ (r : Result (Option (Vec A)) NoMemory). Turns old new (listed r) Is) e h

-- an operand that takes a type, at a place
pub retyped_placed : (old new : Ground) (at : Pos) (to : TypeId) (expr : TypedExpr)
    (came result : Result (Option TypedExpr) NoMemory) → Comes old new came (IsGiven old.types to expr)
    → result ≡ moved_result at came → Turns old new result (Keeps (λ types. IsRetypedAt types at expr to))
retyped_placed old new at to expr (Err error) result h e =
    subst (λ (r : Result (Option TypedExpr) NoMemory). Turns old new r (Keeps (λ (types : Table). IsRetypedAt types at expr to))) (sym e) tt
retyped_placed old new at to expr (Ok answer) result h e =
    subst (λ (r : Result (Option TypedExpr) NoMemory). Turns old new r (Keeps (λ (types : Table). IsRetypedAt types at expr to))) (sym e)
    (record {
      judged = placed at h.judged;
      is = (ap basis h.reports, (h.judged, (h.is, refl)));
      answers = ap (option_map (moved at)) h.answers;
      reports = kept_reports old new h.judged.broken h.reports;
    })

-- ---- which types convert

pub grows_same : (types : Table) → Grows types types
grows_same types = record { terms = λ id term e. e; defined = λ id underlying e. e; blank = refl }

left_out : {A P L : Type 0} → (A → ⊥) → (P → ⊥) → A ⊎ (P ⊎ L) → L
left_out no_one no_other (inl a) = absurd (no_one a)
left_out no_one no_other (inr (inl p)) = absurd (no_other p)
left_out no_one no_other (inr (inr l)) = l

pub converts_if_like : (A P L : Type 0) (like : Result Bool NoMemory) → (A → ⊥) → (P → ⊥)
    → IfOk like (λ (l : Bool). IsTrue l ↔ L) → IfOk like (λ (m : Bool). IsTrue m ↔ (A ⊎ (P ⊎ L)))
converts_if_like A P L (Err error) no_one no_other h = tt
converts_if_like A P L (Ok l) no_one no_other h = (λ t. inr (inr (h.0 t)), λ s. h.1 (left_out no_one no_other s))
