-- The nodes that a value is in, and the numbers that rules derive from where it is made.
use Rattle.std.proofs.Common.{◌≡◌, ◌⊎◌, ◌+◌, ℕ, Bool, true, List, inl, inr, refl, sym, subst, flat_map, eq-eqb}
use Rattle.std.specs.Prelude.{◌==◌, ◌↔◌}
use Rattle.std.proofs.lemmas.Bool.{eqb-true}
use Rattle.go_base.specs.declared.ids.FuncId.{FuncId}
use Rattle.go_base.specs.declared.ids.TypeId.{TypeId}
use Rattle.go_tree.specs.declared.program.Program.{Program}
use Rattle.go_type.specs.Table.{Table}
use Rattle.cg_nodes.specs.declared.nodes.Group.{Group}
use Rattle.cg_nodes.specs.declared.nodes.Mention.TheVariants as mention
use Rattle.cg_nodes.specs.declared.nodes.Node.{Node}
use Rattle.cg_nodes.specs.declared.nodes.Node.TheVariants as node_of
use Rattle.cg_nodes.specs.declared.nodes.Value.{Value}
use Rattle.cg_nodes.specs.declared.nodes.Value.TheVariants as value_of
use Rattle.cg_numbers.specs.Alike.{like_node, like_value}
use Rattle.cg_numbers.specs.Numbered.{IsAt, IsOnce}
use Rattle.cg_numbers.specs.Sites.{Stands}
use Rattle.cg_numbers.specs.declared.numbers.Numbers.{Numbers}
use Rattle.cg_numbers.specs.declared.sites.Seed.{Seed}
use Rattle.cg_numbers.specs.declared.sites.Site.{Site}
use Rattle.cg_sets.specs.Rules.{AreSeeds}
use Rattle.cg_sets.specs.declared.candidates.Candidate.{Candidate}
use Rattle.cg_solve.specs.LeastSets.{Derives, marked}
use Rattle.cg_solve.specs.Lists.{Has, when}
use Rattle.cg_solve.specs.declared.solving.Rule.{Rule}
use Rattle.cg_solve.proofs.Members.{Has-left, Has-right, Has-cases, Has-flat_map, from_flat_map, Has-when, when_has}
use Rattle.cg_solve.proofs.Worklist.{derived}
use Rattle.cg_vta.specs.Facts.{AreFacts, AreReached, AreStarts, IsChosen, IsFollowed, seed_at, seeds_at}
use Rattle.cg_vta.specs.Flows as flows
use Rattle.cg_vta.specs.Flows.{Vta}
use Rattle.cg_vta.specs.Passing.{AreStreams, RuleAt}
use Rattle.cg_vta.specs.declared.facts.Starts.{Starts}
use Rattle.cg_vta.proofs.Choices.{one_there}

module _ (p : Program) (n : Numbers) (seeds : List Seed) (starts : Starts) (rules : List Rule)
    (made : AreSeeds p n seeds) (first : AreStarts n p.error_string starts) (streams : AreStreams p n rules) (once_nodes : IsOnce n.nodes.keys) (once_values : IsOnce n.values.keys) where
  abbrev types : Table
  types = n.likeness.types

  abbrev bares : List TypeId
  bares = n.likeness.bares

  abbrev Is : Node → Value → Type 0
  Is a v = Vta p types bares a v

  abbrev Reached : ℕ → ℕ → Type 0
  Reached w k = Derives (seeds_at seeds starts w) rules k

  -- ---- a value that is in a node reaches it

  -- only an outcome may have no number
  abbrev Shown : ℕ → Node → Type 0
  Shown w a = ((k : ℕ) → IsAt n.nodes.keys k a → Reached w k) × (((g : Group) × (i : ℕ) × (a ≡ node_of.Outcome g i)) ⊎ ((k : ℕ) × IsAt n.nodes.keys k a))

  at_number : (w : ℕ) (a : Node) (k : ℕ) → IsAt n.nodes.keys k a → Reached w k → Shown w a
  at_number w a k at d = (λ j there. subst (λ (i : ℕ). Reached w i) (once_nodes k j a at there) d, inr (k, at))

  from_rule : (w : ℕ) (a b : Node) (r : Rule) → Has rules r → RuleAt n r a b → ((k : ℕ) → IsAt n.nodes.keys k a → Reached w k) → Reached w r.then
  from_rule w a b r h at all = let d = all r.left at.source in Derives.rule r h d (subst (λ (i : ℕ). Reached w i) (sym at.both) d)

  by_rule : (w : ℕ) (a b : Node) (r : Rule) → Has rules r → RuleAt n r a b → Shown w a → Shown w b
  by_rule w a b r h at s = at_number w b r.then at.target (from_rule w a b r h at s.0)

  no_outcome : (g : Group) (place : ℕ) (h : Group) (i : ℕ) → node_of.Argument g place ≡ node_of.Outcome h i → ⊥
  no_outcome g place h i e = cc

  number_of : (w : ℕ) (g : Group) (place : ℕ) → Shown w (node_of.Argument g place) → (k : ℕ) × IsAt n.nodes.keys k (node_of.Argument g place)
  number_of w g place s = elim s.1 [ inl q ↦ absurd (no_outcome g place q.0 q.1 q.2) | inr q ↦ q ]

  made_like : (v : Value) → like_node types bares (node_of.Made v) ≡ node_of.Made (like_value types bares v)
  unfolding like_node
  made_like v = refl

  recover_like : like_node types bares node_of.Recover ≡ node_of.Recover
  unfolding like_node
  recover_like = refl

  start_at : (w k : ℕ) → Has (seeds_at seeds starts w) k → Reached w k
  start_at w k h = Derives.seed k h

  shown_made : (w : ℕ) (f : FuncId) (u : Value) → Stands p f (mention.Seed u) → IsAt n.values.keys w (like_value types bares u) → Shown w (node_of.Made (like_value types bares u))
  shown_made w f u stands at =
      let x = made.whole f u stands in
      let same : x.0.value ≡ w = once_values x.0.value w (like_value types bares u) x.2.value at in
      at_number w (node_of.Made (like_value types bares u)) x.0.node (subst (λ (a : Node). IsAt n.nodes.keys x.0.node a) (made_like u) x.2.node)
      (start_at w x.0.node (Has-left (flat_map (seed_at w) seeds) (when (starts.fault == w) starts.recover) x.0.node
      (Has-flat_map (seed_at w) seeds x.0 x.0.node x.1 (when_has (x.0.value == w) x.0.node (eq-eqb x.0.value w same)))))

  shown_fault : (w : ℕ) → IsAt n.values.keys w (like_value types bares (value_of.Class p.error_string)) → Shown w node_of.Recover
  shown_fault w at =
      let same : starts.fault ≡ w = once_values starts.fault w (like_value types bares (value_of.Class p.error_string)) first.faults at in
      at_number w node_of.Recover starts.recover (subst (λ (a : Node). IsAt n.nodes.keys starts.recover a) recover_like first.recovers)
      (start_at w starts.recover (Has-right (flat_map (seed_at w) seeds) (when (starts.fault == w) starts.recover) starts.recover (when_has (starts.fault == w) starts.recover (eq-eqb starts.fault w same))))

  pub shown : (w : ℕ) (a : Node) (v : Value) → Is a v → IsAt n.values.keys w v → Shown w a
  shown w _ _ (Vta.made f u stands) at = shown_made w f u stands at
  shown w _ _ Vta.fault at = shown_fault w at
  shown w _ _ (Vta.flow f a b v stands is) at =
      let r = streams.flow f a b stands in
      by_rule w (like_node types bares a) (like_node types bares b) r.0 r.1 r.2 (shown w (like_node types bares a) v is at)
  shown w _ _ (Vta.argument g c i v called answers is) at =
      let s = shown w (node_of.Argument g (c.skip + i)) v is at in
      let k = number_of w g (c.skip + i) s in
      let r = streams.argument g c i k.0 called answers k.1 in
      by_rule w (node_of.Argument g (c.skip + i)) (like_node types bares (flows.given_to p types bares c.aim (c.base + i))) r.0 r.1 r.2 s
  shown w _ _ (Vta.result g c i v called answers is) at =
      let s = shown w (like_node types bares (flows.given_by p types bares c.aim i)) v is at in (
        λ k there. (
            let r = streams.result g c i k called answers there in
            let d = from_rule w (like_node types bares (flows.given_by p types bares c.aim i)) (node_of.Outcome g i) r.0 r.1 r.2 s.0 in
            subst (λ (j : ℕ). Reached w j) (once_nodes r.0.then k (node_of.Outcome g i) r.2.target there) d),
        inl (g, i, refl),
      )
  shown w _ _ (Vta.receiver g c f v called answers aim is) at =
      let r = streams.receiver g c f called answers aim in
      by_rule w (like_node types bares c.receiver) (node_of.Parameter f 0) r.0 r.1 r.2 (shown w (like_node types bares c.receiver) v is at)

  -- ---- a value is in the nodes that it reaches

  module _ (w : ℕ) (v : Value) (at : IsAt n.values.keys w v) where
    abbrev Tells : ℕ → Type 0
    Tells k = (a : Node) → IsAt n.nodes.keys k a → Is a v

    tells : (k : ℕ) (a : Node) → IsAt n.nodes.keys k a → Is a v → Tells k
    tells k a there is = λ b here. subst (λ (x : Node). Is x v) (one_there n.nodes.keys k a b there here) is

    seed_tells : (x : Seed) (k : ℕ) → Has seeds x → x.value ≡ w → x.node ≡ k → Tells k
    seed_tells x k h e i =
        let q = made.only x h in
        let same : like_value types bares q.1 ≡ v = one_there n.values.keys w (like_value types bares q.1) v (subst (λ (j : ℕ). IsAt n.values.keys j (like_value types bares q.1)) e q.3.value) at in
        tells k (node_of.Made (like_value types bares q.1)) (subst (λ (j : ℕ). IsAt n.nodes.keys j (node_of.Made (like_value types bares q.1))) i (subst (λ (a : Node). IsAt n.nodes.keys x.node a) (made_like q.1) q.3.node))
        (subst (λ (u : Value). Is (node_of.Made (like_value types bares q.1)) u) same (Vta.made q.0 q.1 q.2))

    fault_tells : (k : ℕ) → starts.fault ≡ w → starts.recover ≡ k → Tells k
    fault_tells k e i =
        let fault = like_value types bares (value_of.Class p.error_string) in
        let same : fault ≡ v = one_there n.values.keys w fault v (subst (λ (j : ℕ). IsAt n.values.keys j fault) e first.faults) at in
        tells k node_of.Recover (subst (λ (j : ℕ). IsAt n.nodes.keys j node_of.Recover) i (subst (λ (a : Node). IsAt n.nodes.keys starts.recover a) recover_like first.recovers)) (subst (λ (u : Value). Is node_of.Recover u) same Vta.fault)

    seeds_tell : (k : ℕ) → Has (seeds_at seeds starts w) k → Tells k
    seeds_tell k h = elim (Has-cases (flat_map (seed_at w) seeds) (when (starts.fault == w) starts.recover) k h) [
      | inl i ↦ (let x = from_flat_map (seed_at w) seeds k i in let e = Has-when (x.0.value == w) x.0.node k x.2 in seed_tells x.0 k x.1 (eqb-true x.0.value w e.0) e.1)
      | inr i ↦ (let e = Has-when (starts.fault == w) starts.recover k i in fault_tells k (eqb-true starts.fault w e.0) e.1)
    ]

    rules_tell : (r : Rule) → Has rules r → Tells r.left → Tells r.right → Tells r.then
    rules_tell r h t u = let q = streams.only r h in tells r.then q.1 q.2.target (q.3 v (t q.0 q.2.source))

    pub is_there : (k : ℕ) (a : Node) → Reached w k → IsAt n.nodes.keys k a → Is a v
    is_there k a d there = derived (seeds_at seeds starts w) rules Tells seeds_tell rules_tell k d a there

  -- ---- in rows

  pub are_facts : (sites : List Site) (rows : ℕ → List Candidate) (table : ℕ → List ℕ) (chosen followed : List ℕ) (nodes values : List Bool) (facts : ℕ → List ℕ) → ((k : ℕ) → table k ≡ seeds_at seeds starts k)
      → ((k : ℕ) → IsChosen sites rows starts.nothing k → Has chosen k) → ((k : ℕ) → IsFollowed rows k → Has followed k) → ((k : ℕ) → (marked nodes k ≡ true) ↔ Has chosen k) → ((k : ℕ) → (marked values k ≡ true) ↔ Has followed k)
      → AreReached rules table nodes values facts → AreFacts p n sites rows starts.nothing facts
  are_facts sites rows table chosen followed nodes values facts same all_chosen all_followed mark_nodes mark_values h = record {
    only = λ k w a v there at value. is_there w v value k a (subst (λ (l : List ℕ). Derives l rules k) (same w) (h.only k w there)) at;
    whole = λ k w a v choose follow at value is.
        h.whole k w ((mark_nodes k).1 (all_chosen k choose)) ((mark_values w).1 (all_followed w follow)) (subst (λ (l : List ℕ). Derives l rules k) (sym (same w)) ((shown w a v is value).0 k at));
  }
