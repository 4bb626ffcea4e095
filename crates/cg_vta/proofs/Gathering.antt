-- What is asked and answered, one after another.
use Rattle.std.proofs.Common.{◌≡◌, ◌⊎◌, ◌<◌, ◌≤◌, ◌+◌, ◌++◌, ℕ, List, [], ◌∷◌, Option, Some, None, inl, inr, refl, sym, ap, ◌∙◌, subst, take, get_or, length, slice_get, arith}
use Rattle.std.specs.Prelude.{◌↔◌}
use Rattle.std.proofs.lemmas.Bool.{cases_lt}
use Rattle.std.proofs.lemmas.List.{take_more}
use Rattle.cg_numbers.specs.Numbered.{IsAt}
use Rattle.cg_numbers.specs.declared.sites.Call.{Call}
use Rattle.cg_numbers.specs.declared.sites.Call.TheVariants as call
use Rattle.cg_numbers.specs.declared.sites.Site.{Site}
use Rattle.cg_numbers.proofs.Lists.{at_later, grown_cases, has_at}
use Rattle.cg_sets.specs.Asking.{answer_rule}
use Rattle.cg_sets.specs.declared.asking.Asked.{Asked}
use Rattle.cg_sets.specs.declared.asking.Asked.TheVariants as asked_of
use Rattle.cg_sets.specs.declared.asking.Question.{Question}
use Rattle.cg_sets.specs.declared.candidates.Candidate.{Candidate}
use Rattle.cg_sets.specs.declared.candidates.Goal.{Goal}
use Rattle.cg_solve.specs.Lists.{Has}
use Rattle.cg_solve.specs.declared.solving.Rule.{Rule}
use Rattle.cg_solve.proofs.Members.{Has-left, Has-right, Has-cases}
use Rattle.cg_vta.specs.Asks.{AreAnswered, AreAsked, AskedAt, GrowsAs, IsAsked, IsGoalOf, IsRest, PutsGoals, PutsTarget, TargetAt, ask_of, asks_for, next_ask}
use Rattle.cg_vta.specs.declared.asks.Ask.{Ask}
use Rattle.cg_vta.proofs.Standings.{grows_on}
use Rattle.cg_vta.proofs.Streams.{below_length, place_at}
use Rattle.cg_vta.proofs.Choices.{one_there}

-- ---- asks that were listed

pub as_stays : (old new : List Ask) (o : Option Ask) → GrowsAs old new o → (k : ℕ) (a : Ask) → IsAt old k a → IsAt new k a
as_stays old new None e k a h = subst (λ (l : List Ask). IsAt l k a) (sym e) h
as_stays old new (Some b) g k a h = at_later old new k a (grows_on old new b g) h

pub as_cases : (old new : List Ask) (o : Option Ask) → GrowsAs old new o → (a : Ask) → Has new a → Has old a ⊎ (o ≡ Some a)
as_cases old new None e a h = inl (subst (λ (l : List Ask). Has l a) e h)
as_cases old new (Some b) g a h = elim (grown_cases old new b a g h) [ inl i ↦ inl i | inr e ↦ inr (ap Some (sym e)) ]

-- ---- questions

pub record Questions (before after : List Ask) (sites : List Site) (questions : List Question) : Type 0 where
  pub asked : AreAsked after sites questions
  pub stays : (k : ℕ) (a : Ask) → IsAt before k a → IsAt after k a
  pub only : (a : Ask) → Has after a → Has before a ⊎ ((x : Site) × Has sites x × (ask_of x.call ≡ Some a))

pub questions_none : (asks : List Ask) (questions : List Question) → questions ≡ [] → Questions asks asks [] questions
questions_none asks questions e = record {
  asked = record { only = λ q h. absurd (subst (λ (l : List Question). Has l q) e h); whole = λ x h. absurd h };
  stays = λ k a h. h;
  only = λ a h. inl h;
}

asked_later : (old new : List Ask) (o : Option Ask) → GrowsAs old new o → (x : Call) (q : Asked) → AskedAt old x q → AskedAt new x q
asked_later old new o g (call.Fixed f) (asked_of.Fixed h) e = e
asked_later old new o g (call.Fixed f) (asked_of.Answer k) e = e
asked_later old new o g (call.Chosen i j l) (asked_of.Fixed h) e = e
asked_later old new o g (call.Chosen i j l) (asked_of.Answer k) e = as_stays old new o g k (asks_for i j l) e

is_asked_later : (old new : List Ask) (o : Option Ask) → GrowsAs old new o → (x : Site) (q : Question) → IsAsked old x q → IsAsked new x q
is_asked_later old new o g x q h = record { caller = h.caller; at = h.at; asked = asked_later old new o g x.call q.asked h.asked }

pub questions_more : (before old new : List Ask) (sites : List Site) (i : ℕ) (d : Site) (mid after : List Question) (q : Asked) → i < length sites → AskedAt new (get_or sites i d).call q → GrowsAs old new (ask_of (get_or sites i d).call)
    → after ≡ mid ++ record { caller = (get_or sites i d).caller; at = (get_or sites i d).at; asked = q } ∷ [] → Questions before old (take i sites) mid → Questions before new (take (i + 1) sites) after
questions_more before old new sites i d mid after q less at grows put h =
    let x = get_or sites i d in
    let one : Question = record { caller = x.caller; at = x.at; asked = q } in
    let next : take (i + 1) sites ≡ take i sites ++ x ∷ [] = take_more sites i d less in
    let o = ask_of x.call in
    let here : Has (take (i + 1) sites) x = subst (λ (l : List Site). Has l x) (sym next) (Has-right (take i sites) (x ∷ []) x (inl refl)) in
    let front : (y : Site) → Has (take i sites) y → Has (take (i + 1) sites) y = λ y k. subst (λ (l : List Site). Has l y) (sym next) (Has-left (take i sites) (x ∷ []) y k) in
    let is_one : IsAsked new x one = record { caller = refl; at = refl; asked = at } in
    record {
      asked = record {
        only = λ r k. elim (Has-cases mid (one ∷ []) r (subst (λ (l : List Question). Has l r) put k)) [
          | inl j ↦ (let w = h.asked.only r j in (w.0, front w.0 w.1, is_asked_later old new o grows w.0 r w.2))
          | inr (inl e) ↦ (x, here, subst (λ (y : Question). IsAsked new x y) e is_one)
          | inr (inr j) ↦ absurd j
        ];
        whole = λ y k. elim (Has-cases (take i sites) (x ∷ []) y (subst (λ (l : List Site). Has l y) next k)) [
          | inl j ↦ (let w = h.asked.whole y j in (w.0, subst (λ (l : List Question). Has l w.0) (sym put) (Has-left mid (one ∷ []) w.0 w.1), is_asked_later old new o grows y w.0 w.2))
          | inr (inl e) ↦ (one, subst (λ (l : List Question). Has l one) (sym put) (Has-right mid (one ∷ []) one (inl refl)), subst (λ (z : Site). IsAsked new z one) e is_one)
          | inr (inr j) ↦ absurd j
        ];
      };
      stays = λ k a b. as_stays old new o grows k a (h.stays k a b);
      only = λ a k. elim (as_cases old new o grows a k) [
        | inl j ↦ elim (h.only a j) [ inl z ↦ inl z | inr z ↦ inr (z.0, front z.0 z.1, z.2) ]
        | inr e ↦ inr (x, here, e)
      ];
    }

-- ---- the goals of an ask

target_later : (old new : List Ask) → ((k : ℕ) (a : Ask) → IsAt old k a → IsAt new k a) → (y : Goal) (o : Option Ask) (t : ℕ) → TargetAt old y o t → TargetAt new y o t
target_later old new f y None t e = e
target_later old new f y (Some a) t e = (e.0, f e.0 a e.1, e.2)

pub puts_none : (nothing j : ℕ) (a : Ask) (asks : List Ask) (rules : List Rule) → PutsGoals nothing j a (Has []) asks asks rules rules
puts_none nothing j a asks rules = record { kept = λ r h. h; only = λ r h. inl h; whole = λ y h. absurd h; stays = λ k b h. h; asks = λ b h. inl h }

pub puts_more : (nothing j : ℕ) (a : Ask) (goals : List Goal) (i : ℕ) (d : Goal) (before old new : List Ask) (first mid last : List Rule) → i < length goals → PutsTarget nothing j a (get_or goals i d) new mid last
    → GrowsAs old new (next_ask nothing a (get_or goals i d)) → PutsGoals nothing j a (Has (take i goals)) before old first mid → PutsGoals nothing j a (Has (take (i + 1) goals)) before new first last
puts_more nothing j a goals i d before old new first mid last less put grows h =
    let y = get_or goals i d in
    let o = next_ask nothing a y in
    let rule = answer_rule j put.0 in
    let next : take (i + 1) goals ≡ take i goals ++ y ∷ [] = take_more goals i d less in
    let here : Has (take (i + 1) goals) y = subst (λ (l : List Goal). Has l y) (sym next) (Has-right (take i goals) (y ∷ []) y (inl refl)) in
    let front : (z : Goal) → Has (take i goals) z → Has (take (i + 1) goals) z = λ z k. subst (λ (l : List Goal). Has l z) (sym next) (Has-left (take i goals) (y ∷ []) z k) in
    let stays = as_stays old new o grows in
    record {
      kept = λ r k. subst (λ (l : List Rule). Has l r) (sym put.2) (Has-left mid (rule ∷ []) r (h.kept r k));
      only = λ r k. elim (Has-cases mid (rule ∷ []) r (subst (λ (l : List Rule). Has l r) put.2 k)) [
        | inl q ↦ elim (h.only r q) [ inl w ↦ inl w | inr w ↦ inr (w.0, w.1, front w.0 w.2, target_later old new stays w.0 (next_ask nothing a w.0) w.1 w.3, w.4) ]
        | inr (inl e) ↦ inr (y, put.0, here, put.1, sym e)
        | inr (inr q) ↦ absurd q
      ];
      whole = λ z k. elim (Has-cases (take i goals) (y ∷ []) z (subst (λ (l : List Goal). Has l z) next k)) [
        | inl q ↦ (let w = h.whole z q in (w.0, target_later old new stays z (next_ask nothing a z) w.0 w.1, subst (λ (l : List Rule). Has l (answer_rule j w.0)) (sym put.2) (Has-left mid (rule ∷ []) (answer_rule j w.0) w.2)))
        | inr (inl e) ↦ (put.0, subst (λ (x : Goal). TargetAt new x (next_ask nothing a x) put.0) e put.1, subst (λ (l : List Rule). Has l rule) (sym put.2) (Has-right mid (rule ∷ []) rule (inl refl)))
        | inr (inr q) ↦ absurd q
      ];
      stays = λ k b g. stays k b (h.stays k b g);
      asks = λ b k. elim (as_cases old new o grows b k) [
        | inl q ↦ elim (h.asks b q) [ inl w ↦ inl w | inr w ↦ inr (w.0, front w.0 w.1, w.2) ]
        | inr e ↦ inr (y, here, e)
      ];
    }

pub puts_as : (nothing j : ℕ) (a : Ask) (P Q : Goal → Type 0) (before after : List Ask) (old new : List Rule) → ((y : Goal) → P y ↔ Q y) → PutsGoals nothing j a P before after old new → PutsGoals nothing j a Q before after old new
puts_as nothing j a P Q before after old new same h = record {
  kept = h.kept;
  only = λ r k. elim (h.only r k) [ inl q ↦ inl q | inr q ↦ inr (q.0, q.1, (same q.0).0 q.2, q.3, q.4) ];
  whole = λ y k. h.whole y ((same y).1 k);
  stays = h.stays;
  asks = λ b k. elim (h.asks b k) [ inl q ↦ inl q | inr q ↦ inr (q.0, (same q.0).0 q.1, q.2) ];
}

-- ---- ask after ask

pub record AnsweredBelow (facts : ℕ → List ℕ) (rows : ℕ → List Candidate) (nothing k : ℕ) (before asks : List Ask) (rules : List Rule) : Type 0 where
  pub stays : (j : ℕ) (a : Ask) → IsAt before j a → IsAt asks j a
  pub asked : (a : Ask) → Has asks a → IsRest facts rows nothing before a
  pub only : (r : Rule) → Has rules r → (j : ℕ) × (a : Ask) × (y : Goal) × (t : ℕ) × IsAt asks j a × IsGoalOf facts rows a y × TargetAt asks y (next_ask nothing a y) t × (r ≡ answer_rule j t)
  pub whole : (j : ℕ) (a : Ask) (y : Goal) → j < k → IsAt asks j a → IsGoalOf facts rows a y → (t : ℕ) × TargetAt asks y (next_ask nothing a y) t × Has rules (answer_rule j t)

module _ (facts : ℕ → List ℕ) (rows : ℕ → List Candidate) (nothing : ℕ) where
  pub answered_none : (asks : List Ask) (rules : List Rule) → rules ≡ [] → AnsweredBelow facts rows nothing 0 asks asks rules
  answered_none asks rules e = record {
    stays = λ j a h. h;
    asked = λ a h. IsRest.first a h;
    only = λ r h. absurd (subst (λ (l : List Rule). Has l r) e h);
    whole = λ j a y l. absurd (omega arith);
  }

  -- what stays was there before
  stayed : (old new : List Ask) (j : ℕ) (a : Ask) → ((k : ℕ) (b : Ask) → IsAt old k b → IsAt new k b) → j < length old → IsAt new j a → IsAt old j a
  stayed old new j a f l at = let p = place_at old j l in subst (λ (x : Ask). IsAt old j x) (one_there new j p.0 a (f j p.0 p.1) at) p.1

  pub answered_more : (k : ℕ) (before old new : List Ask) (mid after : List Rule) → k < length old → ((a : Ask) → IsAt old k a → PutsGoals nothing k a (IsGoalOf facts rows a) old new mid after)
      → AnsweredBelow facts rows nothing k before old mid → AnsweredBelow facts rows nothing (k + 1) before new after
  answered_more k before old new mid after less put h =
      let here = place_at old k less in
      let a = here.0 in
      let g = put a here.1 in
      let there : IsAt new k a = g.stays k a here.1 in
      record {
        stays = λ j b i. g.stays j b (h.stays j b i);
        asked = λ b i. elim (g.asks b i) [ inl q ↦ h.asked b q | inr q ↦ IsRest.next a b q.0 (h.asked a (has_at old k a here.1)) q.1 q.2 ];
        only = λ r i. elim (g.only r i) [
          | inl q ↦ (let w = h.only r q in (w.0, w.1, w.2, w.3, g.stays w.0 w.1 w.4, w.5, target_later old new g.stays w.2 (next_ask nothing w.1 w.2) w.3 w.6, w.7))
          | inr q ↦ (k, a, q.0, q.1, there, q.2, q.3, q.4)
        ];
        whole = λ j b y l at goal. elim (cases_lt j k) [
          | inl below ↦ (
              let w = h.whole j b y below (stayed old new j b g.stays (omega arith) at) goal in
              (w.0, target_later old new g.stays y (next_ask nothing b y) w.0 w.1, g.kept (answer_rule j w.0) w.2))
          | inr above ↦ (
              let last : k ≡ j = omega arith in
              let one : a ≡ b = one_there new j a b (subst (λ (i : ℕ). IsAt new i a) last there) at in
              let w = g.whole y (subst (λ (x : Ask). IsGoalOf facts rows x y) (sym one) goal) in
              (w.0, subst (λ (x : Ask). TargetAt new y (next_ask nothing x y) w.0) one w.1, subst (λ (i : ℕ). Has after (answer_rule i w.0)) last w.2))
        ];
      }

  pub answered_all : (k : ℕ) (before asks : List Ask) (rules : List Rule) → length asks ≤ k → AnsweredBelow facts rows nothing k before asks rules → AreAnswered facts rows nothing before asks rules
  answered_all k before asks rules l h = record {
    stays = h.stays;
    asked = h.asked;
    only = h.only;
    whole = λ j a y at goal. h.whole j a y (let b = below_length asks j a at in omega arith) at goal;
  }

none_here : {A : Type 0} {x : A} → ◌≡◌ {A = _} None (Some x) → ⊥
none_here h = cc

pub not_there : {A : Type 0} (xs : List A) (k : ℕ) (x : A) → slice_get xs k ≡ None → IsAt xs k x → ⊥
not_there xs k x h g = none_here (sym h ∙ g)
