-- The flows of the program as rules, one after another.
use Rattle.std.proofs.Common.{◌≡◌, ◌⊎◌, ◌<◌, ◌≤◌, ◌+◌, ◌-◌, ◌++◌, ℕ, zero, suc, Bool, true, false, List, [], ◌∷◌, Option, Some, None, inl, inr, refl, sym, ap, ◌∙◌, subst, flat_map, map, take, get_or, length, slice_get, arith, nat_lt, true≢false}
use Rattle.std.specs.Prelude.{if◌then◌else◌}
use Rattle.std.proofs.lemmas.Bool.{cases_lt, le-ltb, ltb-false}
use Rattle.std.proofs.lemmas.List.{take_more}
use Rattle.go_base.specs.declared.ids.FuncId.{FuncId}
use Rattle.go_base.specs.declared.ids.TypeId.{TypeId}
use Rattle.go_tree.specs.declared.program.Program.{Program}
use Rattle.go_type.specs.Table.{Table}
use Rattle.cg_nodes.specs.declared.nodes.Group.{Group}
use Rattle.cg_nodes.specs.declared.nodes.Node.{Node}
use Rattle.cg_nodes.specs.declared.nodes.Node.TheVariants as node_of
use Rattle.cg_nodes.specs.declared.nodes.Value.{Value}
use Rattle.cg_numbers.specs.Alike.{like_node}
use Rattle.cg_numbers.specs.Numbered.{Continues, Extends, IsAt, IsOnce}
use Rattle.cg_numbers.specs.declared.likeness.Likeness.{Likeness}
use Rattle.cg_numbers.specs.declared.numbers.Numbers.{Numbers}
use Rattle.cg_numbers.specs.declared.sites.Flow.{Flow}
use Rattle.cg_numbers.proofs.Collecting.{extends_on, flow_later}
use Rattle.cg_numbers.proofs.Lists.{at_later}
use Rattle.cg_sets.specs.Answering.{AreAnswers}
use Rattle.cg_sets.specs.Candidates.{Answers, Standing}
use Rattle.cg_sets.specs.Embedding.{Aim, Asks, Calls}
use Rattle.cg_sets.specs.Numbering.{AimAt, CandidateAt}
use Rattle.cg_sets.specs.declared.candidates.Candidate.{Candidate}
use Rattle.cg_sets.specs.declared.candidates.Goal.{Goal}
use Rattle.cg_sets.specs.declared.candidates.Goal.TheVariants as goal_of
use Rattle.cg_sets.proofs.Reached.{answers_later}
use Rattle.cg_solve.specs.LeastSets.{marked}
use Rattle.cg_solve.specs.Lists.{Has}
use Rattle.cg_solve.specs.declared.solving.Rule.{Rule}
use Rattle.cg_solve.proofs.Members.{Has-left, Has-right, Has-cases, Has-flat_map, Has-map, from_flat_map, from_map}
use Rattle.cg_vta.specs.Choosing.{AreCalled}
use Rattle.cg_vta.specs.Flows as flows
use Rattle.cg_vta.specs.Flows.{IsCalled, Vta}
use Rattle.cg_vta.specs.Passing.{AreFlows, AreStreams, AreWays, IsCalledAt, IsWay, OfNode, Puts, PutsStations, PutsWay, RuleAt, WayAt, argument_of, flow_rule, given_by, given_to, outcome_of, receiver_by, receiver_way, station, way, way_of}
use Rattle.cg_vta.specs.Rows.{AreOf, called_row}
use Rattle.cg_vta.specs.declared.ways.Way.{Way}
use Rattle.cg_vta.proofs.Choices.{one_there}
use Rattle.cg_vta.proofs.Rowed.{called_has, in_called}

-- ---- numbers that stay

pub rule_later : (m n : Numbers) → Extends m n → (r : Rule) (a b : Node) → RuleAt m r a b → RuleAt n r a b
rule_later m n e r a b h = record {
  source = at_later m.nodes.keys n.nodes.keys r.left a e.nodes h.source;
  both = h.both;
  target = at_later m.nodes.keys n.nodes.keys r.then b e.nodes h.target;
}

pub place_at : {A : Type 0} (xs : List A) (k : ℕ) → k < length xs → (x : A) × IsAt xs k x
place_at [] k h = absurd (omega arith)
place_at (y ∷ xs) zero h = (y, refl)
place_at (y ∷ xs) (suc k) h = place_at xs k (less k (length xs) h)
  where
    less : (i j : ℕ) → suc i < suc j → i < j
    less i j g = omega arith

no_place : {A : Type 0} {x : A} → ◌≡◌ {A = _} None (Some x) → ⊥
no_place h = cc

pub below_length : {A : Type 0} (xs : List A) (k : ℕ) (x : A) → IsAt xs k x → k < length xs
below_length [] k x h = absurd (no_place h)
below_length (y ∷ xs) zero x h = omega arith
below_length (y ∷ xs) (suc k) x h = let l = below_length xs k x h in omega arith

-- what was at a place before
pub at_earlier : {A : Type 0} (xs ys : List A) (k : ℕ) (x : A) → Continues xs ys → k < length xs → IsAt ys k x → IsAt xs k x
at_earlier {A = A} xs ys k x e l h =
    let p = place_at xs k l in
    subst (λ (y : A). IsAt xs k y) (one_there ys k p.0 x (at_later xs ys k p.0 e p.1) h) p.1

-- ---- way after way

pub puts_none : (n : Numbers) (rules : List Rule) → Puts n (Has []) rules rules
puts_none n rules = record { kept = λ r h. h; only = λ r h. inl h; whole = λ x h. absurd h }

pub puts_later : (m n : Numbers) (P : Way → Type 0) (old new : List Rule) → Extends m n → Puts m P old new → Puts n P old new
puts_later m n P old new e h = record {
  kept = h.kept;
  only = λ r g. elim (h.only r g) [ inl i ↦ inl i | inr q ↦ inr (q.0, q.1, rule_later m n e r q.0.from q.0.to q.2) ];
  whole = λ x g. (let q = h.whole x g in (q.0, q.1, rule_later m n e q.0 x.from x.to q.2));
}

pub puts_as : (n : Numbers) (P Q : Way → Type 0) (old new : List Rule) → ((x : Way) → P x → Q x) → ((x : Way) → Q x → P x) → Puts n P old new → Puts n Q old new
puts_as n P Q old new to from h = record {
  kept = h.kept;
  only = λ r g. elim (h.only r g) [ inl i ↦ inl i | inr q ↦ inr (q.0, to q.0 q.1, q.2) ];
  whole = λ x g. h.whole x (from x g);
}

pub puts_more : (m n : Numbers) (ways : List Way) (i : ℕ) (d : Way) (old mid new : List Rule) → Extends m n → i < length ways → PutsWay n (get_or ways i d) mid new → Puts m (Has (take i ways)) old mid → Puts n (Has (take (i + 1) ways)) old new
puts_more m n ways i d old mid new e less put h =
    let x = get_or ways i d in
    let next : take (i + 1) ways ≡ take i ways ++ x ∷ [] = take_more ways i d less in
    let g = puts_later m n (Has (take i ways)) old mid e h in
    record {
      kept = λ r k. subst (λ (l : List Rule). Has l r) (sym put.2) (Has-left mid (put.0 ∷ []) r (g.kept r k));
      only = λ r k. elim (Has-cases mid (put.0 ∷ []) r (subst (λ (l : List Rule). Has l r) put.2 k)) [
        | inl j ↦ elim (g.only r j) [
          | inl q ↦ inl q
          | inr q ↦ inr (q.0, subst (λ (l : List Way). Has l q.0) (sym next) (Has-left (take i ways) (x ∷ []) q.0 q.1), q.2)
        ]
        | inr (inl same) ↦ inr (x, subst (λ (l : List Way). Has l x) (sym next) (Has-right (take i ways) (x ∷ []) x (inl refl)), subst (λ (s : Rule). WayAt n s x) same put.1)
        | inr (inr j) ↦ absurd j
      ];
      whole = λ y k. elim (Has-cases (take i ways) (x ∷ []) y (subst (λ (l : List Way). Has l y) next k)) [
        | inl j ↦ (let q = g.whole y j in (q.0, subst (λ (l : List Rule). Has l q.0) (sym put.2) (Has-left mid (put.0 ∷ []) q.0 q.1), q.2))
        | inr (inl same) ↦ (put.0, subst (λ (l : List Rule). Has l put.0) (sym put.2) (Has-right mid (put.0 ∷ []) put.0 (inl refl)), subst (λ (z : Way). WayAt n put.0 z) same put.1)
        | inr (inr j) ↦ absurd j
      ];
    }

-- ---- node after node

pub record StationsBelow (n : Numbers) (rows : ℕ → List Candidate) (called : List Bool) (k : ℕ) (old new : List Rule) : Type 0 where
  pub kept : (r : Rule) → Has old r → Has new r
  pub only : (r : Rule) → Has new r → Has old r ⊎ ((node : Node) × (x : Way) × OfNode n rows called node x × WayAt n r x)
  pub whole : (j : ℕ) (node : Node) → j < k → IsAt n.nodes.keys j node → (x : Way) → OfNode n rows called node x → (r : Rule) × Has new r × WayAt n r x

module _ (rows : ℕ → List Candidate) (called : List Bool) where
  pub stations_none : (n : Numbers) (rules : List Rule) → StationsBelow n rows called 0 rules rules
  stations_none n rules = record { kept = λ r h. h; only = λ r h. inl h; whole = λ j node l. absurd (omega arith) }

  of_node : (m n : Numbers) (node : Node) (x : Way) → n.groups ≡ m.groups → OfNode m rows called node x → OfNode n rows called node x
  of_node m n node x e h = subst (λ s. IsWay s.keys rows called node x) (sym e) h

  node_of_old : (m n : Numbers) (node : Node) (x : Way) → n.groups ≡ m.groups → OfNode n rows called node x → OfNode m rows called node x
  node_of_old m n node x e h = subst (λ s. IsWay s.keys rows called node x) e h

  pub stations_more : (m n : Numbers) (k : ℕ) (old mid new : List Rule) → Extends m n → n.groups ≡ m.groups → k < length m.nodes.keys
      → ((node : Node) → IsAt m.nodes.keys k node → Puts n (OfNode n rows called node) mid new) → StationsBelow m rows called k old mid → StationsBelow n rows called (k + 1) old new
  stations_more m n k old mid new e same less put h =
      let here = place_at m.nodes.keys k less in
      let g = put here.0 here.1 in
      record {
        kept = λ r i. g.kept r (h.kept r i);
        only = λ r i. elim (g.only r i) [
          | inl j ↦ elim (h.only r j) [ inl q ↦ inl q | inr q ↦ inr (q.0, q.1, of_node m n q.0 q.1 same q.2, rule_later m n e r q.1.from q.1.to q.3) ]
          | inr q ↦ inr (here.0, q.0, q.1, q.2)
        ];
        whole = λ j node l at x of. elim (cases_lt j k) [
          | inl below ↦ (
              let earlier : IsAt m.nodes.keys j node = at_earlier m.nodes.keys n.nodes.keys j node e.nodes (omega arith) at in
              let q = h.whole j node below earlier x (node_of_old m n node x same of) in
              (q.0, g.kept q.0 q.1, rule_later m n e q.0 x.from x.to q.2))
          | inr above ↦ (
              let last : k ≡ j = omega arith in
              let there : IsAt n.nodes.keys j here.0 = subst (λ (i : ℕ). IsAt n.nodes.keys i here.0) last (at_later m.nodes.keys n.nodes.keys k here.0 e.nodes here.1) in
              let one : node ≡ here.0 = one_there n.nodes.keys j node here.0 at there in
              g.whole x (subst (λ (y : Node). OfNode n rows called y x) one of))
        ];
      }

  pub stations_all : (n : Numbers) (k : ℕ) (old new : List Rule) → length n.nodes.keys ≤ k → StationsBelow n rows called k old new → PutsStations n rows called old new
  stations_all n k old new l h = record {
    kept = h.kept;
    only = h.only;
    whole = λ j node at x of. h.whole j node (let b = below_length n.nodes.keys j node at in omega arith) at x of;
  }

-- ---- all

module _ (p : Program) (n : Numbers) (rows : ℕ → List Candidate) (called : List Bool) (answers : AreAnswers p n rows) (marks : AreCalled p n called) where
  abbrev types : Table
  types = n.likeness.types

  abbrev bares : List TypeId
  bares = n.likeness.bares

  abbrev groups : List Group
  groups = n.groups.keys

  abbrev Is : Node → Value → Type 0
  Is a v = Vta p types bares a v

  -- what a goal is given, and what it gives
  pub to_same : (a : Aim) (y : Goal) (i : ℕ) → AimAt n a y → like_node types bares (flows.given_to p types bares a i) ≡ given_to groups y i
  unfolding like_node
  to_same (Calls f) (goal_of.Function g) i at = ap (λ (x : FuncId). node_of.Parameter x i) at
  to_same (Calls f) (goal_of.Group of group) i at = absurd at
  to_same (Calls f) (goal_of.First group) i at = absurd at
  to_same (Asks (Some m) h) (goal_of.Function g) i at = absurd at
  to_same (Asks (Some m) h) (goal_of.Group of group) i at = sym (ap (λ (o : Option Group). argument_of o i) at.1)
  to_same (Asks (Some m) h) (goal_of.First group) i at = absurd at
  to_same (Asks None h) (goal_of.Function g) i at = absurd at
  to_same (Asks None h) (goal_of.Group of group) i at = absurd at
  to_same (Asks None h) (goal_of.First group) i at = sym (ap (λ (o : Option Group). argument_of o i) at)

  pub by_same : (a : Aim) (y : Goal) (i : ℕ) → AimAt n a y → like_node types bares (flows.given_by p types bares a i) ≡ given_by groups y i
  unfolding like_node
  by_same (Calls f) (goal_of.Function g) i at = ap (λ (x : FuncId). node_of.Returned x i) at
  by_same (Calls f) (goal_of.Group of group) i at = absurd at
  by_same (Calls f) (goal_of.First group) i at = absurd at
  by_same (Asks (Some m) h) (goal_of.Function g) i at = absurd at
  by_same (Asks (Some m) h) (goal_of.Group of group) i at = sym (ap (λ (o : Option Group). outcome_of o i) at.1)
  by_same (Asks (Some m) h) (goal_of.First group) i at = absurd at
  by_same (Asks None h) (goal_of.Function g) i at = absurd at
  by_same (Asks None h) (goal_of.Group of group) i at = absurd at
  by_same (Asks None h) (goal_of.First group) i at = sym (ap (λ (o : Option Group). outcome_of o i) at)

  -- ---- ways keep what is in nodes

  abbrev Keeps : Node → Node → Type 0
  Keeps a b = (v : Value) → Is a v → Is b v

  keeps_way : (a b : Node) (x : Way) → way a b ≡ x → Keeps a b → Keeps x.from x.to
  keeps_way a b x e h = subst (λ (y : Way). Keeps y.from y.to) e h

  -- the standing of a candidate in the row of a group that is chosen from
  record Chosen (g : Group) (c : Candidate) : Type 0 where
    is : IsCalled p types bares g
    standing : Standing
    stands_for : Answers p types bares g standing
    at : CandidateAt n c standing

  chosen : (k : ℕ) (g : Group) (c : Candidate) → IsAt groups k g → marked called k ≡ true → Has (rows k) c → Chosen g c
  chosen k g c at mark h =
      let r = answers.only k c h in
      let same : r.0 ≡ g = one_there groups k r.0 g r.3 at in
      record { is = (marks.exact k g at).0 mark; standing = r.1; stands_for = subst (λ (x : Group). Answers p types bares x r.1) same r.2; at = r.4 }

  back : (place skip i : ℕ) → skip ≤ place → i ≡ skip → i + (place - skip) ≡ place
  back place skip i h e = omega arith

  index_same : (place skip base s b : ℕ) → skip ≡ s → base ≡ b → b + (place - s) ≡ (place - skip) + base
  index_same place skip base s b e f = omega arith

  keeps_argument : (g : Group) (place : ℕ) (c : Candidate) → c.skip ≤ place → Chosen g c → Keeps (node_of.Argument g place) (given_to groups c.goal ((place - c.skip) + c.base))
  keeps_argument g place c l h = λ v is. (
      let s = h.standing in
      let i = place - s.skip in
      let source : place ≡ s.skip + i = sym (back place c.skip s.skip l (sym h.at.skip)) ∙ ap (λ (k : ℕ). s.skip + (place - k)) h.at.skip in
      let target : like_node types bares (flows.given_to p types bares s.aim (s.base + i)) ≡ given_to groups c.goal ((place - c.skip) + c.base) =
      to_same s.aim c.goal (s.base + i) h.at.aim ∙ ap (λ (k : ℕ). given_to groups c.goal k) (index_same place c.skip c.base s.skip s.base h.at.skip h.at.base)
      in
      subst (λ (b : Node). Is b v) target (Vta.argument g s i v h.is h.stands_for (subst (λ (k : ℕ). Is (node_of.Argument g k) v) source is)))

  keeps_outcome : (g : Group) (i : ℕ) (c : Candidate) → Chosen g c → Keeps (given_by groups c.goal i) (node_of.Outcome g i)
  keeps_outcome g i c h = λ v is. Vta.result g h.standing i v h.is h.stands_for (subst (λ (b : Node). Is b v) (sym (by_same h.standing.aim c.goal i h.at.aim)) is)

  keeps_test : (g : Group) (place : ℕ) (c : Candidate) (x : Way) (b : Bool) → nat_lt place c.skip ≡ b → Chosen g c
      → Has (if b then [] else way (node_of.Argument g place) (given_to groups c.goal ((place - c.skip) + c.base)) ∷ []) x → Keeps x.from x.to
  keeps_test g place c x true e h k = absurd k
  keeps_test g place c x false e h (inl i) = keeps_way _ _ x i (keeps_argument g place c (ltb-false place c.skip e) h)
  keeps_test g place c x false e h (inr i) = absurd i

  group_same : (g h : Group) → ◌≡◌ {A = Option Group} (Some g) (Some h) → h ≡ g
  group_same g h e = cc

  no_group : {g : Group} → ◌≡◌ {A = Option Group} None (Some g) → ⊥
  no_group h = cc

  keeps_at : (node : Node) (g : Group) (c : Candidate) (x : Way) → station node ≡ Some g → Chosen g c → Has (way_of groups node c) x → Keeps x.from x.to
  keeps_at (node_of.Argument o place) g c x e h k = keeps_test o place c x (nat_lt place c.skip) refl (subst (λ (y : Group). Chosen y c) (group_same o g e) h) k
  keeps_at (node_of.Outcome o i) g c x e h (inl k) = keeps_way _ _ x k (keeps_outcome o i c (subst (λ (y : Group). Chosen y c) (group_same o g e) h))
  keeps_at (node_of.Outcome o i) g c x e h (inr k) = absurd k
  keeps_at _ g c x e h k = absurd k

  keeps_station : (node : Node) (x : Way) → OfNode n rows called node x → Keeps x.from x.to
  keeps_station node x h = keeps_at node h.at.0 h.candidate x h.at.1 (chosen h.number h.at.0 h.candidate h.at.2 h.at.3 h.stands) h.goes

  -- ---- receivers

  module _ (nodes : List Node) (kept : Continues nodes n.nodes.keys) where
    keeps_by : (g : Group) (c : Candidate) (a : Aim) (y : Goal) (o : Option Node) (x : Way) (h : Chosen g c) → h.standing.aim ≡ a → AimAt n a y → slice_get nodes c.receiver ≡ o → Has (receiver_by y o) x → Keeps x.from x.to
    keeps_by g c (Calls f) (goal_of.Function k) None x h e at there i = absurd i
    keeps_by g c (Calls f) (goal_of.Function k) (Some from) x h e at there (inr i) = absurd i
    keeps_by g c (Calls f) (goal_of.Function k) (Some from) x h e at there (inl i) =
        keeps_way _ _ x i (λ v is. (
        let same : from ≡ like_node types bares h.standing.receiver = one_there n.nodes.keys c.receiver from (like_node types bares h.standing.receiver) (at_later nodes n.nodes.keys c.receiver from kept there) h.at.receiver in
        subst (λ (q : FuncId). Is (node_of.Parameter q 0) v) at (Vta.receiver g h.standing f v h.is h.stands_for e (subst (λ (b : Node). Is b v) same is))))
    keeps_by g c (Asks m k) (goal_of.Function f) o x h e at there i = absurd (no_function m k f at)
      where
        no_function : (m : Option Node) (k : Group) (f : FuncId) → AimAt n (Asks m k) (goal_of.Function f) → ⊥
        no_function (Some m) k f at = at
        no_function None k f at = at
    keeps_by g c a (goal_of.Group of group) o x h e at there i = absurd i
    keeps_by g c a (goal_of.First group) o x h e at there i = absurd i

    keeps_receiver : (k : ℕ) (c : Candidate) (x : Way) → Has (called_row called rows k) c → Has (receiver_way nodes k c) x → Keeps x.from x.to
    keeps_receiver k c x there h =
        let r = in_called called rows k c there in
        let q = answers.only k c r.1 in
        let d = chosen k q.0 c q.3 r.0 r.1 in
        keeps_by q.0 c d.standing.aim c.goal (slice_get nodes c.receiver) x d refl d.at.aim refl h

    -- ---- the rules

    module _ (all_flows : List Flow) (given : List Way) (body second rules : List Rule) (met : AreFlows p n all_flows) (base : body ≡ map flow_rule all_flows)
        (are : AreOf (called_row called rows) (receiver_way nodes) given) (first : Puts n (Has given) body second) (last : PutsStations n rows called second rules)
        (received : (k : ℕ) (b : Node) → IsAt n.nodes.keys k b → (c : Candidate) → k ≡ c.receiver → (g : ℕ) → Has (rows g) c → IsAt nodes k b) where
      abbrev Stream : Rule → Type 0
      Stream r = (a : Node) × (b : Node) × RuleAt n r a b × Keeps a b

      body_stream : (r : Rule) → Has body r → Stream r
      body_stream r h =
          let x = from_map flow_rule all_flows r (subst (λ (l : List Rule). Has l r) base h) in
          let q = met.only x.0 x.1 in (
            like_node types bares q.1,
            like_node types bares q.2,
            subst (λ (s : Rule). RuleAt n s (like_node types bares q.1) (like_node types bares q.2)) x.2 (record { source = q.4.source; both = refl; target = q.4.target }),
            λ v is. Vta.flow q.0 q.1 q.2 v q.3 is,
          )

      stream_of : (r : Rule) → Has rules r → Stream r
      stream_of r h = elim (last.only r h) [
        | inl i ↦ elim (first.only r i) [
          | inl j ↦ body_stream r j
          | inr q ↦ (let o = are.only q.0 q.1 in (q.0.from, q.0.to, q.2, keeps_receiver o.0 o.1 q.0 o.2 o.3))
        ]
        | inr q ↦ (q.1.from, q.1.to, q.3, keeps_station q.0 q.1 q.2)
      ]

      -- a candidate of a group that is chosen from
      record Found (g : Group) (s : Standing) : Type 0 where
        number : ℕ
        there : IsAt groups number g
        mark : marked called number ≡ true
        candidate : Candidate
        stands : Has (rows number) candidate
        at : CandidateAt n candidate s

      found : (g : Group) (s : Standing) → IsCalled p types bares g → Answers p types bares g s → Found g s
      found g s is ans =
          let k = marks.listed g is in
          let c = answers.whole k.0 g s k.1 ans in
          record { number = k.0; there = k.1; mark = (marks.exact k.0 g k.1).1 is; candidate = c.0; stands = c.1; at = c.2 }

      from_station : (k : ℕ) (node : Node) (g : Group) (s : Standing) (x : Way) (f : Found g s) → IsAt n.nodes.keys k node → station node ≡ Some g → Has (way_of groups node f.candidate) x → (r : Rule) × Has rules r × WayAt n r x
      from_station k node g s x f at e goes = last.whole k node at x (record { number = f.number; at = (g, e, f.there, f.mark); candidate = f.candidate; stands = f.stands; goes = goes })

      in_test : (b : Bool) (x : Way) → b ≡ false → Has (if b then [] else x ∷ []) x
      in_test true x e = absurd (true≢false e)
      in_test false x e = inl refl

      less_same : (i skip s : ℕ) → skip ≡ s → skip ≤ s + i
      less_same i skip s e = omega arith

      place_same : (i skip base s b : ℕ) → skip ≡ s → base ≡ b → ((s + i) - skip) + base ≡ b + i
      place_same i skip base s b e f = omega arith

      argument_stream : (g : Group) (s : Standing) (i k : ℕ) → IsCalled p types bares g → Answers p types bares g s → IsAt n.nodes.keys k (node_of.Argument g (s.skip + i))
          → (r : Rule) × Has rules r × RuleAt n r (node_of.Argument g (s.skip + i)) (like_node types bares (flows.given_to p types bares s.aim (s.base + i)))
      argument_stream g s i k is ans at =
          let f = found g s is ans in
          let c = f.candidate in
          let place = s.skip + i in
          let node = node_of.Argument g place in
          let to = given_to groups c.goal ((place - c.skip) + c.base) in
          let same : to ≡ like_node types bares (flows.given_to p types bares s.aim (s.base + i)) =
          ap (λ (j : ℕ). given_to groups c.goal j) (place_same i c.skip c.base s.skip s.base f.at.skip f.at.base) ∙ sym (to_same s.aim c.goal (s.base + i) f.at.aim)
          in
          let r = from_station k node g s (way node to) f at refl (in_test (nat_lt place c.skip) (way node to) (le-ltb place c.skip (less_same i c.skip s.skip f.at.skip))) in
          (r.0, r.1, subst (λ (b : Node). RuleAt n r.0 node b) same r.2)

      result_stream : (g : Group) (s : Standing) (i k : ℕ) → IsCalled p types bares g → Answers p types bares g s → IsAt n.nodes.keys k (node_of.Outcome g i)
          → (r : Rule) × Has rules r × RuleAt n r (like_node types bares (flows.given_by p types bares s.aim i)) (node_of.Outcome g i)
      result_stream g s i k is ans at =
          let f = found g s is ans in
          let node = node_of.Outcome g i in
          let from = given_by groups f.candidate.goal i in
          let r = from_station k node g s (way from node) f at refl (inl refl) in
          (r.0, r.1, subst (λ (a : Node). RuleAt n r.0 a node) (sym (by_same s.aim f.candidate.goal i f.at.aim)) r.2)

      calls_goal : (f : FuncId) (y : Goal) (o : Option Node) (from : Node) → AimAt n (Calls f) y → o ≡ Some from → Has (receiver_by y o) (way from (node_of.Parameter f 0))
      calls_goal f (goal_of.Function g) o from at e = subst (λ (q : Option Node). Has (receiver_by (goal_of.Function g) q) (way from (node_of.Parameter f 0))) (sym e) (inl (ap (λ (q : FuncId). way from (node_of.Parameter q 0)) (sym at)))
      calls_goal f (goal_of.Group of group) o from at e = absurd at
      calls_goal f (goal_of.First group) o from at e = absurd at

      receiver_stream : (g : Group) (s : Standing) (f : FuncId) → IsCalled p types bares g → Answers p types bares g s → s.aim ≡ Calls f
          → (r : Rule) × Has rules r × RuleAt n r (like_node types bares s.receiver) (node_of.Parameter f 0)
      receiver_stream g s f is ans e =
          let d = found g s is ans in
          let c = d.candidate in
          let from = like_node types bares s.receiver in
          let there : IsAt nodes c.receiver from = received c.receiver from d.at.receiver c refl d.number d.stands in
          let goes : Has (receiver_way nodes d.number c) (way from (node_of.Parameter f 0)) = calls_goal f c.goal (slice_get nodes c.receiver) from (subst (λ (a : Aim). AimAt n a c.goal) e d.at.aim) there in
          let put : Has given (way from (node_of.Parameter f 0)) = are.whole d.number c (way from (node_of.Parameter f 0)) (called_has called rows d.number c d.mark d.stands) goes in
          let r = first.whole (way from (node_of.Parameter f 0)) put in
          (r.0, last.kept r.0 r.1, r.2)

      pub are_streams : AreStreams p n rules
      are_streams = record {
        only = stream_of;
        flow = λ f a b stands. (
            let x = met.whole f a b stands in
            let rule : Has body (flow_rule x.0) = subst (λ (l : List Rule). Has l (flow_rule x.0)) (sym base) (Has-map flow_rule all_flows x.0 x.1) in
            (flow_rule x.0, last.kept (flow_rule x.0) (first.kept (flow_rule x.0) rule), record { source = x.2.source; both = refl; target = x.2.target }));
        argument = argument_stream;
        result = result_stream;
        receiver = receiver_stream;
      }

-- ---- nodes alone are added

pub same_on : (a b c : Numbers) → b ≡ record a { nodes = b.nodes } → c ≡ record b { nodes = c.nodes } → c ≡ record a { nodes = c.nodes }
same_on a b c h k = k ∙ ap (λ (x : Numbers). record x { nodes = c.nodes }) h

-- ---- the rules, with numbers that were given on the way

pub flows_later : (p : Program) (m n : Numbers) (all : List Flow) → Extends m n → AreFlows p m all → AreFlows p n all
flows_later p m n all e h = record {
  only = λ x k. (let r = h.only x k in (r.0, r.1, r.2, r.3, flow_later m n e x r.1 r.2 r.4));
  whole = λ f a b stands. (let r = h.whole f a b stands in (r.0, r.1, flow_later m n e r.0 a b r.2));
}

pub called_later : (p : Program) (m n : Numbers) (marks : List Bool) → Extends m n → n.groups ≡ m.groups → AreCalled p m marks → AreCalled p n marks
called_later p m n marks e same h = record {
  exact = λ k g at. (
    λ i. subst (λ (l : Likeness). IsCalled p l.types l.bares g) (sym e.likeness) ((h.exact k g (subst (λ s. IsAt s.keys k g) same at)).0 i),
    λ i. (h.exact k g (subst (λ s. IsAt s.keys k g) same at)).1 (subst (λ (l : Likeness). IsCalled p l.types l.bares g) e.likeness i),
  );
  listed = λ g i. (let r = h.listed g (subst (λ (l : Likeness). IsCalled p l.types l.bares g) e.likeness i) in (r.0, subst (λ s. IsAt s.keys r.0 g) (sym same) r.1));
}

pub all_streams : (p : Program) (m mid n : Numbers) (rows : ℕ → List Candidate) (called : List Bool) (all : List Flow) (given : List Way) (body second rules : List Rule) → AreFlows p m all → AreAnswers p m rows → AreCalled p m called → Extends m mid → Extends mid n
    → mid.groups ≡ m.groups → n.groups ≡ mid.groups → body ≡ map flow_rule all → AreOf (called_row called rows) (receiver_way m.nodes.keys) given → Puts mid (Has given) body second → PutsStations n rows called second rules → AreStreams p n rules
all_streams p m mid n rows called all given body second rules met answers marks x y first_same last_same base are first last =
    let e = extends_on x y in
    let same : n.groups ≡ m.groups = last_same ∙ first_same in
    are_streams p n rows called (answers_later p m n rows e same answers) (called_later p m n called e same marks) m.nodes.keys e.nodes all given body second rules (flows_later p m n all e met) base are (puts_later mid n (Has given) body second y first) last
    (λ k b at c here g h. (
    let r = answers.only g c h in
    let at_old : IsAt m.nodes.keys k (like_node m.likeness.types m.likeness.bares r.1.receiver) = subst (λ (i : ℕ). IsAt m.nodes.keys i (like_node m.likeness.types m.likeness.bares r.1.receiver)) (sym here) r.4.receiver in
    subst (λ (z : Node). IsAt m.nodes.keys k z) (one_there n.nodes.keys k _ b (at_later m.nodes.keys n.nodes.keys k _ e.nodes at_old) at) at_old))

-- the ways of a node
pub put_node : (rows : ℕ → List Candidate) (called : List Bool) (m n : Numbers) (a b : Node) (ways : List Way) (old new : List Rule) → a ≡ b → n ≡ record m { nodes = n.nodes } → AreWays m.groups.keys rows called a ways → Puts n (Has ways) old new → Puts n (OfNode n rows called b) old new
put_node rows called m n a b ways old new e same are h =
    let groups : n.groups ≡ m.groups = ap (λ (x : Numbers). x.groups) same in
    subst (λ (y : Node). Puts n (OfNode n rows called y) old new) e
    (puts_as n (Has ways) (OfNode n rows called a) old new (λ x i. of_node rows called m n a x groups (are.only x i)) (λ x i. are.whole x (node_of_old rows called m n a x groups i)) h)

module _ (groups : List Group) (rows : ℕ → List Candidate) (called : List Bool) (node : Node) where
  pub ways_none : (ways : List Way) → ways ≡ [] → ((k : ℕ) → IsCalledAt groups called node k → ⊥) → AreWays groups rows called node ways
  ways_none ways e none = record {
    only = λ x h. absurd (subst (λ (l : List Way). Has l x) e h);
    whole = λ x h. absurd (none h.number h.at);
  }

  one_group : (g h : Group) → ◌≡◌ {A = Option Group} (Some g) (Some h) → g ≡ h
  one_group g h e = cc

  -- a node is that of one group
  same_at : IsOnce groups → (j k : ℕ) → IsCalledAt groups called node j → IsCalledAt groups called node k → j ≡ k
  same_at once j k h i = let g : h.0 ≡ i.0 = one_group h.0 i.0 (sym h.1 ∙ i.1) in once j k i.0 (subst (λ (y : Group). IsAt groups j y) g h.2) i.2

  pub ways_some : IsOnce groups → (k : ℕ) → IsCalledAt groups called node k → (keys : List Group) (candidates : List Candidate) (ways : List Way) → keys ≡ groups → candidates ≡ rows k → ways ≡ flat_map (way_of keys node) candidates → AreWays groups rows called node ways
  ways_some once k at keys candidates ways e f put =
      let all : ways ≡ flat_map (way_of groups node) (rows k) = put ∙ (ap (λ (l : List Group). flat_map (way_of l node) candidates) e ∙ ap (λ (l : List Candidate). flat_map (way_of groups node) l) f) in
      record {
        only = λ x h. (let r = from_flat_map (way_of groups node) (rows k) x (subst (λ (l : List Way). Has l x) all h) in record { number = k; at = at; candidate = r.0; stands = r.1; goes = r.2 });
        whole = λ x h. subst (λ (l : List Way). Has l x) (sym all) (Has-flat_map (way_of groups node) (rows k) h.candidate x (subst (λ (j : ℕ). Has (rows j) h.candidate) (same_at once h.number k h.at at) h.stands) h.goes);
      }
