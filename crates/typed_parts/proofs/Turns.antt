-- What becomes of rules one after another, of what becomes of each.
use Rattle.std.proofs.Common.{◌≡◌, ℕ, refl, sym, ap, ◌∙◌, subst, List, [], ◌∷◌, ◌++◌, length, append-nil}
use Rattle.std.proofs.Common.{Option, Some, None, Result, Ok, Err, Bool, true, false}
use Rattle.std.specs.Prelude.{IfOk, OnOk}
use Rattle.go_base.specs.declared.memory.NoMemory.{NoMemory}
use Rattle.go_base.specs.declared.ids.TypeId.{TypeId}
use Rattle.go_base.specs.declared.rule.Rule.{Rule}
use Rattle.go_type.specs.declared.term.TypeTerm.{TypeTerm}
use Rattle.go_type.specs.Table.{Table, term_at, with_term}
use Rattle.typed_parts.specs.declared.meaning.Given.{Given}
use Rattle.typed_parts.specs.declared.ground.Ground.{Ground}
use Rattle.typed_parts.specs.Joining.{asked, beside, with_last}
use Rattle.typed_parts.specs.Judged.{Broken, Comes, Judged, Outcome, breaks, fine, reported, unsound}
use Rattle.typed_parts.proofs.Reports.{reported_after}
use Rattle.typed_parts.specs.Limits.{Basis, basis, on_basis}
use Rattle.typed_parts.specs.Turning.{AreEach, Asks, IsEach, IsFollowed, IsHeld, Keeps, Soundly, Turned, Turns}

-- what came
abbrev pub came : {A : Type 0} → Option A → Result (Option A) NoMemory
came x = Ok x

abbrev pub nothing_came : {A : Type 0} → Result (Option A) NoMemory
nothing_came = Ok None

-- a rule that changes nothing
basis_stays : (old new : Ground) (broken : List Broken) → new ≡ reported old broken → basis new ≡ basis old
basis_stays old new broken e = ap basis e

pub kept_reports : (old new : Ground) (broken : List Broken) → new ≡ reported old broken
    → new ≡ reported (on_basis (basis new) old) broken
kept_reports old new broken e =
    subst (λ (base : Basis). new ≡ reported (on_basis base old) broken) (sym (basis_stays old new broken e)) e

-- a rule that holds types, and asks for no limits
pub held_reports : (old new : Ground) (broken : List Broken) → new ≡ reported (record old { types = new.types }) broken
    → new ≡ reported (on_basis (basis new) old) broken
held_reports old new broken e =
    subst (λ (base : Basis). new ≡ reported (on_basis base old) broken) (sym (ap basis e)) e

pub asks : {A : Type 0} (old new : Ground) (rule : Table → Judged A) (answer : Option A)
    → answer ≡ (rule old.types).sound → new ≡ reported old (rule old.types).broken
    → Turned old new answer (Asks rule)
asks old new rule answer a r = record {
  judged = rule old.types;
  is = (basis_stays old new (rule old.types).broken r, refl);
  answers = a;
  reports = kept_reports old new (rule old.types).broken r;
}

pub keeps : {A : Type 0} (old new : Ground) (Is : Table → Judged A → Type 0) (answer : Option A)
    → Outcome old new answer (Is old.types) → Turned old new answer (Keeps Is)
keeps old new Is answer h = record {
  judged = h.judged;
  is = (basis_stays old new h.judged.broken h.reports, h.is);
  answers = h.answers;
  reports = kept_reports old new h.judged.broken h.reports;
}

pub nothing : {A B : Type 0} (old : Ground) (Is : A → Basis → Basis → Judged B → Type 0) (o : Option A) → o ≡ None
    → Turns old old (nothing_came {A = B}) (Soundly Is o)
nothing {A} {B} old Is o e =
    subst (λ (p : Option A). Turns old old (nothing_came {A = B}) (Soundly Is p)) (sym e)
    (record { judged = unsound; is = (refl, refl); answers = refl; reports = refl })

pub nothing_made : {A : Type 0} (old : Ground)
    → Turns old old (nothing_came {A = A}) (λ before after result. (after ≡ before) × (result ≡ unsound))
nothing_made old = record { judged = unsound; is = (refl, refl); answers = refl; reports = refl }

pub something : {A B : Type 0} (old new : Ground) (Is : A → Basis → Basis → Judged B → Type 0) (o : Option A) (x : A)
    (result : Result (Option B) NoMemory) → o ≡ Some x → Turns old new result (Is x) → Turns old new result (Soundly Is o)
something {A} {B} old new Is o x result e h =
    subst (λ (p : Option A). Turns old new result (Soundly Is p)) (sym e) h

pub stays : {A : Type 0} (old : Ground) (Is : Basis → Basis → Judged A → Type 0) (x : A) → Is (basis old) (basis old) (fine x)
    → Turns old old (came (Some x)) Is
stays old Is x is = record { judged = fine x; is = is; answers = refl; reports = refl }

pub weaker : {A : Type 0} (old new : Ground) (Is Other : Basis → Basis → Judged A → Type 0)
    (result : Result (Option A) NoMemory) → ((one : Judged A) → Is (basis old) (basis new) one → Other (basis old) (basis new) one)
    → Turns old new result Is → Turns old new result Other
weaker old new Is Other (Err error) f h = tt
weaker old new Is Other (Ok answer) f h =
    record { judged = h.judged; is = f h.judged h.is; answers = h.answers; reports = h.reports }

-- one rule after another
pub followed : {A B : Type 0} (old mid new : Ground) (First : Basis → Basis → Judged A → Type 0)
    (Next : Option A → Basis → Basis → Judged B → Type 0) (x : Option A) (result : Result (Option B) NoMemory)
    → Turned old mid x First → Turns mid new result (Next x) → Turns old new result (IsFollowed First Next)
followed old mid new First Next x (Err error) h k = tt
followed {A} {B} old mid new First Next x (Ok answer) h k = record {
  judged = record { sound = k.judged.sound; broken = h.judged.broken ++ k.judged.broken };
  is = record {
    middle = basis mid;
    first = h.judged;
    next = k.judged;
    is = h.is;
    goes_on = subst (λ (o : Option A). Next o (basis mid) (basis new) k.judged) h.answers k.is;
    whole = refl;
  };
  answers = k.answers;
  reports = k.reports
      ∙ (ap (λ (g : Ground). reported (on_basis (basis new) g) k.judged.broken) h.reports
      ∙ reported_after (on_basis (basis new) old) h.judged.broken k.judged.broken);
}

pub then_soundly : {A B : Type 0} (old mid new : Ground) (First : Basis → Basis → Judged A → Type 0)
    (Next : A → Basis → Basis → Judged B → Type 0) (o : Option A) (x : A) (result : Result (Option B) NoMemory)
    → o ≡ Some x → Turned old mid o First → Turns mid new result (Next x)
    → Turns old new result (IsFollowed First (Soundly Next))
then_soundly old mid new First Next o x result e h k =
    followed old mid new First (Soundly Next) o result h (something mid new Next o x result e k)

pub then_nothing : {A B : Type 0} (old mid : Ground) (First : Basis → Basis → Judged A → Type 0)
    (Next : A → Basis → Basis → Judged B → Type 0) (o : Option A) → o ≡ None → Turned old mid o First
    → Turns old mid (nothing_came {A = B}) (IsFollowed First (Soundly Next))
then_nothing {A} {B} old mid First Next o e h =
    followed old mid mid First (Soundly Next) o (nothing_came {A = B}) h (nothing mid Next o e)

-- a rule that is asked of none, and of one more
pub each_none : {A B : Type 0} (old : Ground) (Is : ℕ → A → Basis → Basis → Judged B → Type 0) (made : List B) → made ≡ []
    → Turned old old (Some made) (IsEach Is [])
each_none {A} {B} old Is made e =
    record { judged = fine []; is = AreEach.none; answers = ap (λ (list : List B). Some list) e; reports = refl }

pub each_more : {A B : Type 0} (old mid new : Ground) (Is : ℕ → A → Basis → Basis → Judged B → Type 0) (xs : List A) (x : A)
    (made more : Option (List B)) (one : Option B) → Turned old mid made (IsEach Is xs) → Turned mid new one (Is (length xs) x)
    → more ≡ with_last made one → Turned old new more (IsEach Is (xs ++ x ∷ []))
each_more {A} {B} old mid new Is xs x made more one h k e = record {
  judged = record { sound = with_last h.judged.sound k.judged.sound; broken = h.judged.broken ++ k.judged.broken };
  is = AreEach.more xs x (basis mid) (basis new) h.judged k.judged h.is k.is;
  answers = e ∙ (ap (λ (o : Option (List B)). with_last o one) h.answers ∙ ap (with_last h.judged.sound) k.answers);
  reports = k.reports
      ∙ (ap (λ (g : Ground). reported (on_basis (basis new) g) k.judged.broken) h.reports
      ∙ reported_after (on_basis (basis new) old) h.judged.broken k.judged.broken);
}

pub of_some : {A B : Type 0} (old new : Ground) (Is : A → Basis → Basis → Judged B → Type 0) (o : Option A) (x : A)
    (result : Result (Option B) NoMemory) → o ≡ Some x → Turns old new result (Soundly Is o) → Turns old new result (Is x)
of_some {A} {B} old new Is o x result e h = subst (λ (p : Option A). Turns old new result (Soundly Is p)) e h

-- a value of which a test was asked
pub asked_test : (old new : Ground) (x : Given) (takes : Bool) (rule : Rule) (test : Table → Bool) (answer : Option Given)
    → test old.types ≡ takes → answer ≡ (asked x takes rule).sound → new ≡ reported old (asked x takes rule).broken
    → Turned old new answer (Asks (λ types. asked x (test types) rule))
asked_test old new x takes rule test answer e a r =
    asks old new (λ (types : Table). asked x (test types) rule) answer
    (subst (λ (b : Bool). answer ≡ (asked x b rule).sound) (sym e) a)
    (subst (λ (b : Bool). new ≡ reported old (asked x b rule).broken) (sym e) r)

-- a type is held
pub held : (old new : Ground) (term : TypeTerm) (came : Result TypeId NoMemory) (id : TypeId) → came ≡ Ok id
    → IfOk came (λ (i : TypeId). term_at new.types i ≡ Some term)
    → OnOk came (new ≡ record old { types = with_term term old.types })
    → Turned old new (Some id) (IsHeld term)
held old new term (Err error) id e n h = cc
held old new term (Ok i) id e n h =
    let same : i ≡ id = cc in
    let base : basis new ≡ record (basis old) { types = with_term term old.types } = ap basis h in
    record {
      judged = fine id;
      is = record {
        id = id;
        named = subst (λ (j : TypeId). term_at new.types j ≡ Some term) same n;
        held = base;
        whole = refl;
      };
      answers = refl;
      reports = subst (λ (b : Basis). new ≡ on_basis b old) (sym base) h;
    }

came_first : {A B : Type 0} → A → Result (A × B) NoMemory → A
came_first x (Ok (one, two)) = one
came_first x (Err error) = x

came_second : {A B : Type 0} → B → Result (A × B) NoMemory → B
came_second y (Ok (one, two)) = two
came_second y (Err error) = y

-- a first part that came, beside a second
pub first_came : {A B : Type 0} (one : A) (two : B) (came : Result A NoMemory) (other : B)
    → beside came other ≡ Ok (one, two) → came ≡ Ok one
unfolding came_first
first_came one two (Err error) other e = cc
first_came {A} one two (Ok x) other e = ap (λ (y : A). Ok y) (ap (came_first x) e)

pub second_stays : {A B : Type 0} (one : A) (two : B) (came : Result A NoMemory) (other : B)
    → beside came other ≡ Ok (one, two) → other ≡ two
unfolding came_second
second_stays one two (Err error) other e = cc
second_stays one two (Ok x) other e = ap (came_second other) e

-- a rule that changes nothing, unless memory ran out
pub keeps_comes : {A : Type 0} (old new : Ground) (Is : Table → Judged A → Type 0) (result : Result (Option A) NoMemory)
    → Comes old new result (Is old.types) → Turns old new result (Keeps Is)
keeps_comes old new Is (Err error) h = tt
keeps_comes old new Is (Ok answer) h = keeps old new Is answer h

pub outcome_of : {A : Type 0} (old new : Ground) (Is : Judged A → Type 0) (came : Result (Option A) NoMemory) (answer : Option A)
    → came ≡ Ok answer → Comes old new came Is → Outcome old new answer Is
outcome_of {A} old new Is came answer e h = subst (λ (r : Result (Option A) NoMemory). Comes old new r Is) e h
