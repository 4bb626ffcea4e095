-- What becomes of values, of what becomes of their parts.
use Rattle.std.proofs.Common.{◌≡◌, refl, sym, ap, ◌∙◌, subst, [], ◌∷◌, ◌++◌, Bool, true, false}
use Rattle.std.proofs.Common.{Option, Some, None, Result, Ok, Err}
use Rattle.std.specs.Prelude.{IfOk}
use Rattle.go_base.specs.declared.memory.NoMemory.{NoMemory}
use Rattle.go_base.specs.declared.place.Pos.{Pos}
use Rattle.go_base.specs.declared.rule.Rule.{Rule}
use Rattle.go_type.specs.Table.{Table}
use Rattle.typed_parts.specs.declared.ground.Ground.{Ground}
use Rattle.typed_parts.specs.Joining.{only, sound}
use Rattle.typed_parts.specs.Judged.{Comes, Exactly, IsFine, IsRest, IsThen, IsWhere, Judged, Outcome, breaks, fine, reported}
use Rattle.typed_parts.specs.Judged.{unsound}
use Rattle.typed_parts.proofs.Reports.{reported_after}

-- what came
abbrev pub came : {A : Type 0} → Option A → Result (Option A) NoMemory
came x = Ok x

abbrev pub nothing_came : {A : Type 0} → Result (Option A) NoMemory
nothing_came = Ok None

-- what a rule is by another
pub weaker : {A : Type 0} (old new : Ground) (Is Other : Judged A → Type 0) (result : Result (Option A) NoMemory)
    → ((one : Judged A) → Is one → Other one) → Comes old new result Is → Comes old new result Other
weaker old new Is Other (Err error) f h = tt
weaker old new Is Other (Ok answer) f h =
    record { judged = h.judged; is = f h.judged h.is; answers = h.answers; reports = h.reports }

pub broke : {A : Type 0} (old new : Ground) (Is : Judged A → Type 0) (at : Pos) (rule : Rule) → Is (breaks at rule)
    → new ≡ reported old (record { at = at; rule = rule } ∷ []) → Comes old new (came None) Is
broke old new Is at rule is r = record { judged = breaks at rule; is = is; answers = refl; reports = r }

pub nothing : {A : Type 0} (old : Ground) (Is : Judged A → Type 0) → Is unsound → Comes old old (came None) Is
nothing old Is is = record { judged = unsound; is = is; answers = refl; reports = refl }

pub stays : {A : Type 0} (old : Ground) (Is : Judged A → Type 0) (x : A) → Is (fine x) → Comes old old (came (Some x)) Is
stays old Is x is = record { judged = fine x; is = is; answers = refl; reports = refl }

-- what a rule makes that is a function
pub exactly : {A : Type 0} (old new : Ground) (one : Judged A) (answer : Option A)
    → answer ≡ one.sound → new ≡ reported old one.broken → Outcome old new answer (Exactly one)
exactly old new one answer a r = record { judged = one; is = refl; answers = a; reports = r }

-- what is made of a value alone
pub of_made : {A : Type 0} (old : Ground) (Made : A → Type 0) (Is : Judged A → Type 0)
    (made : Result A NoMemory) (result : Result (Option A) NoMemory)
    → ((x : A) → Made x → Is (fine x)) → IfOk made Made → result ≡ sound made → Comes old old result Is
of_made {A} old Made Is (Err error) result f h e =
    subst (λ (r : Result (Option A) NoMemory). Comes old old r Is) (sym e) tt
of_made {A} old Made Is (Ok x) result f h e =
    subst (λ (r : Result (Option A) NoMemory). Comes old old r Is) (sym e) (stays old Is x (f x h))

pub fine_made : {A : Type 0} (old : Ground) (Made : A → Type 0) (made : Result A NoMemory)
    (result : Result (Option A) NoMemory) → IfOk made Made → result ≡ sound made → Comes old old result (IsFine Made)
fine_made old Made made result h e = of_made old Made (IsFine Made) made result (λ x is. (x, (is, refl))) h e

-- a second rule, after a first one
pub rest_comes : {A B : Type 0} (old mid new : Ground) (First : Judged A → Type 0) (Rest : Table → A → Judged B → Type 0)
    (x : Option A) (result : Result (Option B) NoMemory)
    → Outcome old mid x First → Comes mid new result (IsRest x (Rest mid.types))
    → Comes old new result (IsThen First (Rest old.types))
rest_comes old mid new First Rest x (Err error) h k = tt
rest_comes {A} {B} old mid new First Rest x (Ok answer) h k =
    let here = subst (λ (types : Table). IsRest x (Rest types) k.judged) (ap (λ (g : Ground). g.types) h.reports) k.is in
    record {
      judged = record { sound = k.judged.sound; broken = h.judged.broken ++ k.judged.broken };
      is = record {
        first = h.judged;
        rest = k.judged;
        is = h.is;
        goes_on = subst (λ (s : Option A). IsRest s (Rest old.types) k.judged) h.answers here;
        whole = refl;
      };
      answers = k.answers;
      reports = k.reports
          ∙ (ap (λ (g : Ground). reported g k.judged.broken) h.reports ∙ reported_after old h.judged.broken k.judged.broken);
    }

-- the first one makes something
pub then_comes : {A B : Type 0} (old mid new : Ground) (First : Judged A → Type 0) (Rest : Table → A → Judged B → Type 0)
    (o : Option A) (x : A) (result : Result (Option B) NoMemory)
    → o ≡ Some x → Outcome old mid o First → Comes mid new result (Rest mid.types x)
    → Comes old new result (IsThen First (Rest old.types))
then_comes {A} old mid new First Rest o x result e h k =
    rest_comes old mid new First Rest (Some x) result (subst (λ (a : Option A). Outcome old mid a First) e h) k

-- it makes nothing
pub then_nothing : {A B : Type 0} (old mid : Ground) (First : Judged A → Type 0) (Rest : Table → A → Judged B → Type 0)
    (o : Option A) → o ≡ None → Outcome old mid o First
    → Comes old mid (nothing_came {A = B}) (IsThen First (Rest old.types))
then_nothing {A} {B} old mid First Rest o e h =
    rest_comes old mid mid First Rest None (nothing_came {A = B})
    (subst (λ (a : Option A). Outcome old mid a First) e h)
    (nothing {A = B} mid (IsRest None (Rest mid.types)) refl)

-- a part where what was asked of it holds
pub where_comes : {A B : Type 0} (old mid new : Ground) (First : Judged A → Type 0) (Rest : Table → A → Judged B → Type 0)
    (holds : Bool) (o : Option A) (x : A) (result : Result (Option B) NoMemory)
    → only o holds ≡ Some x → Outcome old mid o First → Comes mid new result (Rest mid.types x)
    → Comes old new result (IsThen First (λ y. IsWhere holds (Rest old.types y)))
where_comes old mid new First Rest false o x result e h k = cc
where_comes old mid new First Rest true o x result e h k = then_comes old mid new First Rest o x result e h k

pub where_nothing : {A B : Type 0} (old mid : Ground) (First : Judged A → Type 0) (Rest : Table → A → Judged B → Type 0)
    (holds : Bool) (o : Option A) → only o holds ≡ None → Outcome old mid o First
    → Comes old mid (nothing_came {A = B}) (IsThen First (λ y. IsWhere holds (Rest old.types y)))
where_nothing old mid First Rest true o e h = then_nothing old mid First Rest o e h
where_nothing {A} {B} old mid First Rest false None e h =
    then_nothing old mid First (λ (types : Table) (y : A). IsWhere false (Rest types y)) None refl h
where_nothing {A} {B} old mid First Rest false (Some x) e h =
    then_comes old mid mid First (λ (types : Table) (y : A). IsWhere false (Rest types y)) (Some x) x (nothing_came {A = B})
    refl h (nothing {A = B} mid (IsWhere false (Rest mid.types x)) refl)
