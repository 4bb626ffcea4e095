-- What is reported of parts, and then of the rules of the whole, is what is to be reported of the whole.
use Rattle.std.proofs.Common.{◌≡◌, ◌∙◌, ap, sym, refl, subst, List, ◌++◌, Option, Some, None, Result, Ok, Err}
use Rattle.std.specs.Option.{option_map, option_zip}
use Rattle.go_faults.specs.declared.fault.Fault.{Fault}
use Rattle.go_faults.specs.declared.least.Least.{Least}
use Rattle.go_faults.specs.Faults.{least_with}
use Rattle.go_faults.specs.Seen.{Seen, both, join, judge, judged, judged_both, zip_with}
use Rattle.go_faults.specs.Reports.{Reports, Sees}
use Rattle.go_faults.proofs.Leasts.{reported_after}

-- what is reported after a part
after : {X Y E : Type 0} (view : X → Y) (r : Result (Option X) E) (l0 l1 l2 : Least) (xs : List Fault) (s : Seen Y)
    → l1.fault ≡ least_with l0.fault xs
    → Reports view r l1 l2 s
    → Reports view r l0 l2 (record { sound = s.sound; broken = xs ++ s.broken })
after view (Ok x) l0 l1 l2 xs s first h =
    (h.0, h.1 ∙ ap (λ o. least_with o s.broken) first ∙ sym (reported_after l0.fault xs s.broken))
after view (Err e) l0 l1 l2 xs s first h = tt

zip-view : {X Y A B C : Type 0} (v : X → A) (w : Y → B) (f : A → B → C) (o : Option X) (p : Option Y)
    → zip_with f (option_map v o) (option_map w p) ≡ option_map (λ q. f (v q.0) (w q.1)) (option_zip o p)
zip-view v w f None p = refl
zip-view v w f (Some x) None = refl
zip-view v w f (Some x) (Some y) = refl

-- two parts, one after the other
pub sees_join : {X Y A B C : Type 0} (v : X → A) (w : Y → B) (f : A → B → C) (o : Option X) (p : Option Y) (l0 l1 l2 : Least) (s : Seen A) (t : Seen B)
    → Sees v o l0 l1 s
    → Sees w p l1 l2 t
    → Sees (λ q. f (v q.0) (w q.1)) (option_zip o p) l0 l2 (join f s t)
sees_join v w f o p l0 l1 l2 s t a b = (
  sym (zip-view v w f o p) ∙ ap (λ x. zip_with f x (option_map w p)) a.0 ∙ ap (zip_with f s.sound) b.0,
  b.1 ∙ ap (λ o. least_with o t.broken) a.1 ∙ sym (reported_after l0.fault s.broken t.broken),
)

-- the rules of a whole of two parts, after both
pub after_both : {X Y Z A B C E : Type 0} (v : X → A) (w : Y → B) (view : Z → C) (whole : Seen C) (s : Seen A) (t : Seen B) (rule : A → B → Seen C)
    (o : Option X) (p : Option Y) (r : Result (Option Z) E) (l0 l1 l2 l3 : Least)
    → whole ≡ judge (both s t) (λ (a, b). rule a b)
    → Sees v o l0 l1 s
    → Sees w p l1 l2 t
    → Reports view r l2 l3 (judged_both (option_map v o) (option_map w p) rule)
    → Reports view r l0 l3 whole
after_both {A = A} {B = B} v w view whole s t rule o p r l0 l1 l2 l3 is first second h =
    let joined = sees_join {C = A × B} v w (λ a b. (a, b)) o p l0 l1 l2 s t first second in
    subst (Reports view r l0 l3) (sym is)
    (after view r l0 l2 l3 (both s t).broken (judged (both s t).sound (λ (a, b). rule a b)) joined.1
    (subst (λ q. Reports view r l2 l3 (judged_both q t.sound rule)) first.0 (subst (λ q. Reports view r l2 l3 (judged_both (option_map v o) q rule)) second.0 h)))

-- the rules of a whole whose part is sound, for a tactic
pub judged_at : {A B : Type 0} (o : Option A) (rule : A → Seen B) (x : A) → o ≡ Some x → judged o rule ≡ rule x
judged_at o rule x e = rw e refl

pub ruleset judging = (judged_at, reported_after)

-- a whole of two parts with no rule of its own, where both are sound
pub joined_sound : {X Y Z A B C : Type 0} (v : X → A) (w : Y → B) (view : Z → C) (f : A → B → C) (whole : Seen C) (s : Seen A) (t : Seen B)
    (o : Option X) (p : Option Y) (q : Option (X × Y)) (x : X) (y : Y) (z : Z) (l0 l1 l2 : Least)
    → whole ≡ join f s t
    → Sees v o l0 l1 s
    → Sees w p l1 l2 t
    → q ≡ option_zip o p
    → q ≡ Some (x, y)
    → view z ≡ f (v x) (w y)
    → Sees view (Some z) l0 l2 whole
joined_sound v w view f whole s t o p q x y z l0 l1 l2 is first second zipped found same =
    let both = sees_join v w f o p l0 l1 l2 s t first second in
    subst (Sees view (Some z) l0 l2) (sym is)
    (ap Some same ∙ ap (option_map (λ q. f (v q.0) (w q.1))) (sym found ∙ zipped) ∙ both.0, both.1)

-- and where one is not
pub joined_unsound : {X Y Z A B C : Type 0} (v : X → A) (w : Y → B) (view : Z → C) (f : A → B → C) (whole : Seen C) (s : Seen A) (t : Seen B)
    (o : Option X) (p : Option Y) (q : Option (X × Y)) (l0 l1 l2 : Least)
    → whole ≡ join f s t
    → Sees v o l0 l1 s
    → Sees w p l1 l2 t
    → q ≡ option_zip o p
    → q ≡ None
    → Sees view None l0 l2 whole
joined_unsound v w view f whole s t o p q l0 l1 l2 is first second zipped none =
    let both = sees_join v w f o p l0 l1 l2 s t first second in
    subst (Sees view None l0 l2) (sym is)
    (ap (option_map (λ q. f (v q.0) (w q.1))) (sym none ∙ zipped) ∙ both.0, both.1)
