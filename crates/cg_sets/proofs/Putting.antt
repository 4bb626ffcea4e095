-- Candidates, one after another.
use Rattle.std.proofs.Common.{◌≡◌, ◌⊎◌, ◌<◌, ◌+◌, ◌++◌, ℕ, zero, suc, Bool, true, false, List, [], ◌∷◌, Option, Some, None, inl, inr, refl, sym, ap, ◌∙◌, subst, arith, eq-eqb}
use Rattle.std.specs.Prelude.{◌==◌}
use Rattle.std.proofs.lemmas.Bool.{eqb-true}
use Rattle.cg_nodes.specs.declared.nodes.Group.{Group}
use Rattle.cg_numbers.specs.Numbered.{IsAt, Extends}
use Rattle.cg_numbers.specs.declared.numbers.Numbers.{Numbers}
use Rattle.cg_numbers.proofs.Collecting.{node_later}
use Rattle.cg_numbers.proofs.Lists.{at_later}
use Rattle.cg_sets.specs.Answering.{Puts, ArePlaced, placed_in}
use Rattle.cg_sets.specs.Numbering.{CandidateAt}
use Rattle.cg_sets.specs.Candidates.{Standing}
use Rattle.cg_sets.specs.declared.candidates.Candidate.{Candidate}
use Rattle.cg_sets.specs.declared.candidates.Placed.{Placed}
use Rattle.cg_sets.proofs.ClassMethods.{aim_later}
use Rattle.cg_solve.specs.Lists.{Has, when}
use Rattle.cg_solve.proofs.Members.{Has-left, Has-right, Has-cases, Has-when, when_has}

pub candidate_later : (old new : Numbers) → Extends old new → (c : Candidate) (s : Standing) → CandidateAt old c s → CandidateAt new c s
candidate_later old new e c s h = record {
  value = at_later old.values.keys new.values.keys c.value s.value e.values h.value;
  aim = aim_later old new e s.aim c.goal h.aim;
  skip = h.skip;
  base = h.base;
  receiver = node_later old new e c.receiver s.receiver h.receiver;
}

pub puts_none : (n : Numbers) (rows : ℕ → List Candidate) (P : Group → Standing → Type 0) → ((g : Group) (s : Standing) → P g s → ⊥) → Puts n rows rows P
puts_none n rows P none = record { kept = λ k c h. h; only = λ k c h. inl h; whole = λ g s h. absurd (none g s h) }

pub puts_as : (n : Numbers) (old new : ℕ → List Candidate) (P Q : Group → Standing → Type 0) → ((g : Group) (s : Standing) → P g s → Q g s) → ((g : Group) (s : Standing) → Q g s → P g s) → Puts n old new P → Puts n old new Q
puts_as n old new P Q to from h = record {
  kept = h.kept;
  only = λ k c g. elim (h.only k c g) [ inl i ↦ inl i | inr r ↦ inr (r.0, r.1, to r.0 r.1 r.2, r.3, r.4) ];
  whole = λ g s q. h.whole g s (from g s q);
}

pub puts_on : (m n : Numbers) (a b c : ℕ → List Candidate) (P Q : Group → Standing → Type 0) → Extends m n → Puts m a b P → Puts n b c Q → Puts n a c (λ g s. P g s ⊎ Q g s)
puts_on m n a b c P Q e h k = record {
  kept = λ i x g. k.kept i x (h.kept i x g);
  only = λ i x g. elim (k.only i x g) [
    | inl j ↦ elim (h.only i x j) [ inl q ↦ inl q | inr r ↦ inr (r.0, r.1, inl r.2, at_later m.groups.keys n.groups.keys i r.0 e.groups r.3, candidate_later m n e x r.1 r.4) ]
    | inr r ↦ inr (r.0, r.1, inr r.2, r.3, r.4)
  ];
  whole = λ g s q. elim q [
    | inl j ↦ (let r = h.whole g s j in (r.0, r.1, at_later m.groups.keys n.groups.keys r.0 g e.groups r.2, k.kept r.0 r.1 r.3, candidate_later m n e r.1 s r.4))
    | inr j ↦ k.whole g s j
  ];
}

-- numbers that were given later change nothing
pub puts_later : (m n : Numbers) (a b : ℕ → List Candidate) (P : Group → Standing → Type 0) → Extends m n → Puts m a b P → Puts n a b P
puts_later m n a b P e h = record {
  kept = h.kept;
  only = λ i x g. elim (h.only i x g) [ inl j ↦ inl j | inr r ↦ inr (r.0, r.1, r.2, at_later m.groups.keys n.groups.keys i r.0 e.groups r.3, candidate_later m n e x r.1 r.4) ];
  whole = λ g s q. let r = h.whole g s q in (r.0, r.1, at_later m.groups.keys n.groups.keys r.0 g e.groups r.2, r.3, candidate_later m n e r.1 s r.4);
}

-- one candidate, which stands for all of P, or none where P tells nothing
pub puts_placed : (n : Numbers) (old new : ℕ → List Candidate) (P : Group → Standing → Type 0) (x : Option Placed) → ((k : ℕ) → new k ≡ old k ++ placed_in k x) → ArePlaced n P x → Puts n old new P
puts_placed n old new P None put none = record {
  kept = λ k c h. subst (λ (l : List Candidate). Has l c) (sym (put k)) (Has-left (old k) [] c h);
  only = λ k c h. elim (Has-cases (old k) [] c (subst (λ (l : List Candidate). Has l c) (put k) h)) [ inl i ↦ inl i | inr i ↦ absurd i ];
  whole = λ g s h. absurd (none g s h);
}
puts_placed n old new P (Some x) put placed = record {
  kept = λ k c h. subst (λ (l : List Candidate). Has l c) (sym (put k)) (Has-left (old k) (when (x.group == k) x.candidate) c h);
  only = λ k c h. elim (Has-cases (old k) (when (x.group == k) x.candidate) c (subst (λ (l : List Candidate). Has l c) (put k) h)) [
    | inl i ↦ inl i
    | inr i ↦ (
        let w = Has-when (x.group == k) x.candidate c i in
        let first = placed.0 in
        let stands = placed.1 first.0 first.1 first.2 in
        inr (first.0, first.1, first.2, subst (λ (m : ℕ). IsAt n.groups.keys m first.0) (eqb-true x.group k w.0) stands.0, subst (λ (y : Candidate). CandidateAt n y first.1) w.1 stands.1))
  ];
  whole = λ g s q. (
      let stands = placed.1 g s q in
      (x.group, x.candidate, stands.0, subst (λ (l : List Candidate). Has l x.candidate) (sym (put x.group)) (Has-right (old x.group) (when (x.group == x.group) x.candidate) x.candidate (when_has (x.group == x.group) x.candidate (eq-eqb x.group x.group refl))), stands.1));
}

-- one turn of a loop
pub puts_next : (m n : Numbers) (a b c : ℕ → List Candidate) (P Q R : Group → Standing → Type 0) → ((g : Group) (s : Standing) → P g s ⊎ Q g s → R g s) → ((g : Group) (s : Standing) → R g s → P g s ⊎ Q g s)
    → Extends m n → Puts m a b P → Puts n b c Q → Puts n a c R
puts_next m n a b c P Q R to from e h k = puts_as n a c (λ g s. P g s ⊎ Q g s) R to from (puts_on m n a b c P Q e h k)
