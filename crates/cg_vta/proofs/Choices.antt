-- The groups that are chosen from, and the numbers that rules derive.
use Rattle.std.proofs.Common.{◌≡◌, ◌<◌, ◌≤◌, ◌+◌, ◌++◌, ℕ, zero, suc, Bool, true, List, [], ◌∷◌, Option, Some, None, inl, inr, refl, sym, ap, ◌∙◌, subst, flat_map, length, slice_get, arith}
use Rattle.std.specs.Prelude.{◌↔◌}
use Rattle.std.proofs.lemmas.Bool.{cases_lt}
use Rattle.go_base.specs.declared.ids.FuncId.{FuncId}
use Rattle.go_base.specs.declared.ids.TypeId.{TypeId}
use Rattle.go_base.specs.declared.place.Pos.{Pos}
use Rattle.go_tree.specs.declared.program.Program.{Program}
use Rattle.go_type.specs.Table.{Table}
use Rattle.cg_nodes.specs.declared.nodes.Called.{Called}
use Rattle.cg_nodes.specs.declared.nodes.Called.TheVariants as called_of
use Rattle.cg_nodes.specs.declared.nodes.Group.{Group}
use Rattle.cg_nodes.specs.declared.nodes.Group.TheVariants as group_of
use Rattle.cg_nodes.specs.declared.nodes.Mention.TheVariants as mention
use Rattle.cg_nodes.specs.declared.nodes.Node.{Node}
use Rattle.cg_nodes.specs.declared.nodes.Selector.{Selector}
use Rattle.cg_nodes.specs.declared.nodes.Spot.{Spot}
use Rattle.cg_nodes.specs.declared.nodes.Value.{Value}
use Rattle.cg_nodes.specs.declared.nodes.Value.TheVariants as value_of
use Rattle.cg_numbers.specs.Alike.{like_group, like_selector, like_value}
use Rattle.cg_numbers.specs.Numbered.{Extends, IsAt, IsOnce}
use Rattle.cg_numbers.specs.Sites.{CallAt, Stands}
use Rattle.cg_numbers.specs.declared.numbers.Numbers.{Numbers}
use Rattle.cg_numbers.specs.declared.sites.Call.{Call}
use Rattle.cg_numbers.specs.declared.sites.Call.TheVariants as call
use Rattle.cg_numbers.specs.declared.sites.Site.{Site}
use Rattle.cg_numbers.proofs.Collecting.{group_later}
use Rattle.cg_numbers.proofs.Lists.{at_later, has_at}
use Rattle.cg_sets.specs.Answering.{AreAnswers, ListsMade}
use Rattle.cg_sets.specs.Candidates.{Answers, Standing}
use Rattle.cg_sets.specs.Embedding.{Aim, Asks, Calls}
use Rattle.cg_sets.specs.Numbering.{AimAt, AsksAt}
use Rattle.cg_sets.specs.Rules.{AreSites}
use Rattle.cg_sets.specs.declared.candidates.Candidate.{Candidate}
use Rattle.cg_sets.specs.declared.candidates.Goal.{Goal}
use Rattle.cg_sets.specs.declared.candidates.Goal.TheVariants as goal_of
use Rattle.cg_solve.specs.LeastSets.{Derives, marked}
use Rattle.cg_solve.specs.Lists.{Has}
use Rattle.cg_solve.specs.declared.solving.Rule.{Rule}
use Rattle.cg_solve.proofs.Members.{Has-left, Has-right, Has-cases, Has-flat_map, from_flat_map}
use Rattle.cg_solve.proofs.Worklist.{derived}
use Rattle.cg_vta.specs.Choosing.{AreBound, AreCalled, ListsBound, PutsBound, bound_at, bound_in, chosen_by, chosen_group, goal_rule, group_rule, plain_rule}
use Rattle.cg_vta.specs.Flows.{IsCalled}
use Rattle.cg_vta.specs.Rows.{AreOf}

pub one_there : {A : Type 0} (xs : List A) (k : ℕ) (x y : A) → IsAt xs k x → IsAt xs k y → x ≡ y
one_there xs k x y h g = let e : Some x ≡ Some y = sym h ∙ g in cc

-- ---- method values, one after another

-- the groups of the values with numbers below k
pub record BoundBelow (n : Numbers) (values : List Value) (k : ℕ) (groups : List ℕ) : Type 0 where
  pub only : (x : ℕ) → Has groups x → (i : ℕ) × (s : Selector) × (bound_at values i ≡ Some s) × IsAt n.groups.keys x (group_of.Selected s)
  pub whole : (i : ℕ) (s : Selector) → i < k → bound_at values i ≡ Some s → (x : ℕ) × Has groups x × IsAt n.groups.keys x (group_of.Selected s)

pub bound_none : (n : Numbers) (values : List Value) (groups : List ℕ) → groups ≡ [] → BoundBelow n values 0 groups
bound_none n values groups e = record {
  only = λ x h. absurd (subst (λ (l : List ℕ). Has l x) e h);
  whole = λ i s l h. absurd (omega arith);
}

module _ (m n : Numbers) (e : Extends m n) (values : List Value) (k : ℕ) (old new : List ℕ) where
  later : (x : ℕ) (s : Selector) → IsAt m.groups.keys x (group_of.Selected s) → IsAt n.groups.keys x (group_of.Selected s)
  later x s h = at_later m.groups.keys n.groups.keys x (group_of.Selected s) e.groups h

  last_below : (i : ℕ) → k ≤ i → i < k + 1 → i ≡ k
  last_below i h g = omega arith

  some_same : (s t : Selector) (o : Option Selector) → o ≡ Some s → o ≡ Some t → s ≡ t
  some_same s t o h g = let q : Some s ≡ Some t = sym h ∙ g in cc

  not_some : {s : Selector} → ◌≡◌ {A = _} None (Some s) → ⊥
  not_some h = cc

  more_by : (o : Option Selector) → bound_at values k ≡ o → PutsBound n o old new → BoundBelow m values k old → BoundBelow n values (k + 1) new
  more_by None is put h = record {
    only = λ x g. (let r = h.only x (subst (λ (l : List ℕ). Has l x) put g) in (r.0, r.1, r.2, later x r.1 r.3));
    whole = λ i s l b. elim (cases_lt i k) [
      | inl less ↦ (let r = h.whole i s less b in (r.0, subst (λ (y : List ℕ). Has y r.0) (sym put) r.1, later r.0 s r.2))
      | inr more ↦ absurd (not_some (sym is ∙ subst (λ (j : ℕ). bound_at values j ≡ Some s) (last_below i more l) b))
    ];
  }
  more_by (Some t) is put h = record {
    only = λ x g. elim (Has-cases old (put.0 ∷ []) x (subst (λ (l : List ℕ). Has l x) put.2 g)) [
      | inl i ↦ (let r = h.only x i in (r.0, r.1, r.2, later x r.1 r.3))
      | inr (inl same) ↦ (k, t, is, subst (λ (j : ℕ). IsAt n.groups.keys j (group_of.Selected t)) same put.1)
      | inr (inr i) ↦ absurd i
    ];
    whole = λ i s l b. elim (cases_lt i k) [
      | inl less ↦ (let r = h.whole i s less b in (r.0, subst (λ (y : List ℕ). Has y r.0) (sym put.2) (Has-left old (put.0 ∷ []) r.0 r.1), later r.0 s r.2))
      | inr more ↦ (
          let same : t ≡ s = some_same t s (bound_at values k) is (subst (λ (j : ℕ). bound_at values j ≡ Some s) (last_below i more l) b) in
          (put.0, subst (λ (y : List ℕ). Has y put.0) (sym put.2) (Has-right old (put.0 ∷ []) put.0 (inl refl)), subst (λ (u : Selector). IsAt n.groups.keys put.0 (group_of.Selected u)) same put.1))
    ];
  }

  pub bound_more : PutsBound n (bound_at values k) old new → BoundBelow m values k old → BoundBelow n values (k + 1) new
  bound_more put h = more_by (bound_at values k) refl put h

none_past : {A : Type 0} (xs : List A) (i : ℕ) → length xs ≤ i → slice_get xs i ≡ None
none_past [] i h = refl
none_past (x ∷ xs) zero h = absurd (omega arith)
none_past (x ∷ xs) (suc i) h = none_past xs i (omega arith)

pub bound_all : (n : Numbers) (values : List Value) (groups : List ℕ) → n.values.keys ≡ values → BoundBelow n values (length values) groups → ListsBound n groups
bound_all n values groups same h = record {
  only = λ x g. (let r = h.only x g in (r.0, r.1, subst (λ (l : List Value). bound_at l r.0 ≡ Some r.1) (sym same) r.2, r.3));
  whole = λ i s b. elim (cases_lt i (length values)) [
    | inl less ↦ h.whole i s less (subst (λ (l : List Value). bound_at l i ≡ Some s) same b)
    | inr more ↦ absurd (no_bound s (sym (ap bound_in (none_past values i more)) ∙ subst (λ (l : List Value). bound_at l i ≡ Some s) same b))
  ];
}
  where
    no_bound : (s : Selector) → ◌≡◌ {A = Option Selector} None (Some s) → ⊥
    no_bound s e = cc

-- ---- those of the program

module _ (p : Program) (n : Numbers) (made : ListsMade p n) where
  abbrev held : Table
  held = n.likeness.types

  abbrev plain : List TypeId
  plain = n.likeness.bares

  no_selector : (s : Selector) → ◌≡◌ {A = Option Selector} None (Some s) → ⊥
  no_selector s e = cc

  same_selector : (s t : Selector) → ◌≡◌ {A = Option Selector} (Some s) (Some t) → s ≡ t
  same_selector s t e = cc

  -- a value that is listed as a method value of an interface is one
  pub like_bound : (u : Value) (s : Selector) → bound_in (Some (like_value held plain u)) ≡ Some s → (at : Spot) × (t : Selector) × (id : TypeId) × (u ≡ value_of.BoundSelector at t id) × (like_selector held plain t ≡ s)
  unfolding like_value
  like_bound (value_of.Class id) s e = absurd (no_selector s e)
  like_bound (value_of.Function f) s e = absurd (no_selector s e)
  like_bound (value_of.Bound f) s e = absurd (no_selector s e)
  like_bound (value_of.Unbound t id) s e = absurd (no_selector s e)
  like_bound (value_of.BoundSelector at t id) s e = (at, t, id, refl, same_selector (like_selector held plain t) s e)

  bound_like : (at : Spot) (s : Selector) (id : TypeId) → bound_in (Some (like_value held plain (value_of.BoundSelector at s id))) ≡ Some (like_selector held plain s)
  unfolding like_value
  bound_like at s id = refl

  selected_like : (s : Selector) → group_of.Selected (like_selector held plain s) ≡ like_group held plain (group_of.Selected s)
  unfolding like_group
  selected_like s = refl

  value_there : (i : ℕ) (s : Selector) (o : Option Value) → slice_get n.values.keys i ≡ o → bound_in o ≡ Some s → (v : Value) × IsAt n.values.keys i v × (bound_in (Some v) ≡ Some s)
  value_there i s None e b = absurd (no_selector s b)
  value_there i s (Some v) e b = (v, e, b)

  pub are_bound : (groups : List ℕ) → ListsBound n groups → AreBound p n groups
  are_bound groups h = record {
    only = λ x g. (
        let r = h.only x g in
        let v = value_there r.0 r.1 (slice_get n.values.keys r.0) refl r.2 in
        let m = made.only v.0 (has_at n.values.keys r.0 v.0 v.1) in
        let b = like_bound m.1 r.1 (subst (λ (w : Value). bound_in (Some w) ≡ Some r.1) m.3 v.2) in (
          m.0,
          b.0,
          b.1,
          b.2,
          subst (λ (u : Value). Stands p m.0 (mention.Seed u)) b.3 m.2,
          subst (λ (k : Group). IsAt n.groups.keys x k) (selected_like b.1) (subst (λ (s : Selector). IsAt n.groups.keys x (group_of.Selected s)) (sym b.4) r.3),
        ));
    whole = λ f at s id stands. (
        let m = made.whole f (value_of.BoundSelector at s id) stands in
        let r = h.whole m.0 (like_selector held plain s) (ap bound_in m.1 ∙ bound_like at s id) in
        (r.0, r.1, subst (λ (k : Group). IsAt n.groups.keys r.0 k) (selected_like s) r.2));
  }

pub bound_later : (p : Program) (m n : Numbers) (groups : List ℕ) → Extends m n → AreBound p m groups → AreBound p n groups
bound_later p m n groups e h = record {
  only = λ x g. (let r = h.only x g in (r.0, r.1, r.2, r.3, r.4, group_later m n e x (group_of.Selected r.2) r.5));
  whole = λ f at s id stands. (let r = h.whole f at s id stands in (r.0, r.1, group_later m n e r.0 (group_of.Selected s) r.2));
}

-- ---- all that are chosen from

module _ (p : Program) (n : Numbers) (sites : List Site) (bound : List ℕ) (rows : ℕ → List Candidate) (starts : List ℕ) (rules : List Rule)
    (met : AreSites p n sites) (values : AreBound p n bound) (answers : AreAnswers p n rows) (are : AreOf rows group_rule rules)
    (all : starts ≡ bound ++ flat_map chosen_group sites) (once : IsOnce n.groups.keys) where
  abbrev types : Table
  types = n.likeness.types

  abbrev bares : List TypeId
  bares = n.likeness.bares

  abbrev Chosen : Group → Type 0
  Chosen g = IsCalled p types bares g

  abbrev Shown : Group → Type 0
  Shown g = (k : ℕ) × IsAt n.groups.keys k g × Derives starts rules k

  start : (k : ℕ) → Has (bound ++ flat_map chosen_group sites) k → Derives starts rules k
  start k h = Derives.seed k (subst (λ (l : List ℕ). Has l k) (sym all) h)

  by_site : (n1 first : Node) (g : Group) (x : Site) (y : Call) → x.call ≡ y → Has sites x → CallAt n (called_of.Chosen n1 first g) y → Shown (like_group types bares g)
  by_site n1 first g x (call.Fixed f) e h at = absurd at
  by_site n1 first g x (call.Chosen i j k) e h at = (k, at.2, start k (Has-right bound (flat_map chosen_group sites) k (Has-flat_map chosen_group sites x k h (subst (λ (z : Call). Has (chosen_by z) k) (sym e) (inl refl)))))

  by_goal : (j : ℕ) (c : Candidate) (m : Option Node) (h : Group) (y : Goal) → c.goal ≡ y → Has (rows j) c → AsksAt n m h y → Derives starts rules j → Shown (like_group types bares h)
  by_goal j c (Some m) h (goal_of.Function f) e there at d = absurd at
  by_goal j c (Some m) h (goal_of.First group) e there at d = absurd at
  by_goal j c (Some m) h (goal_of.Group of group) e there at d = (group, at.1, Derives.rule (plain_rule j group) (are.whole j c (plain_rule j group) there (subst (λ (y : Goal). Has (goal_rule j y) (plain_rule j group)) (sym e) (inl refl))) d d)
  by_goal j c None h (goal_of.Function f) e there at d = absurd at
  by_goal j c None h (goal_of.Group of group) e there at d = absurd at
  by_goal j c None h (goal_of.First group) e there at d = (group, at, Derives.rule (plain_rule j group) (are.whole j c (plain_rule j group) there (subst (λ (y : Goal). Has (goal_rule j y) (plain_rule j group)) (sym e) (inl refl))) d d)

  pub shown : (g : Group) → Chosen g → Shown g
  shown _ (IsCalled.by_call f at n1 first g stands) = let x = met.whole f at (called_of.Chosen n1 first g) stands in by_site n1 first g x.0 x.0.call refl x.1 x.2.call
  shown _ (IsCalled.by_value f at s id stands) = let x = values.whole f at s id stands in (x.0, x.2, start x.0 (Has-left bound (flat_map chosen_group sites) x.0 x.1))
  shown _ (IsCalled.through g h c m is ans aim) =
      let s = shown g is in
      let r = answers.whole s.0 g c s.1 ans in
      by_goal s.0 r.0 m h r.0.goal refl r.1 (subst (λ (a : Aim). AimAt n a r.0.goal) aim r.2.aim) s.2

  -- ---- what is derived is chosen from

  abbrev Tells : ℕ → Type 0
  Tells k = (g : Group) → IsAt n.groups.keys k g → Chosen g

  tells : (k : ℕ) (g : Group) → IsAt n.groups.keys k g → Chosen g → Tells k
  tells k g at h = λ o there. subst (λ (x : Group). Chosen x) (one_there n.groups.keys k g o at there) h

  site_tells : (f : FuncId) (at : Pos) (c : Called) (y : Call) (k : ℕ) → Stands p f (mention.Call at c) → CallAt n c y → Has (chosen_by y) k → Tells k
  site_tells f at c (call.Fixed g) k stands same h = absurd h
  site_tells f at (called_of.Fixed g) (call.Chosen i j m) k stands same h = absurd same
  site_tells f at (called_of.Chosen n1 first g) (call.Chosen i j m) k stands same (inl e) =
      tells k (like_group types bares g) (subst (λ (z : ℕ). IsAt n.groups.keys z (like_group types bares g)) e same.2) (IsCalled.by_call f at n1 first g stands)
  site_tells f at (called_of.Chosen n1 first g) (call.Chosen i j m) k stands same (inr h) = absurd h

  starts_tell : (k : ℕ) → Has starts k → Tells k
  starts_tell k h = elim (Has-cases bound (flat_map chosen_group sites) k (subst (λ (l : List ℕ). Has l k) all h)) [
    | inl i ↦ (let r = values.only k i in tells k (like_group types bares (group_of.Selected r.2)) r.5 (IsCalled.by_value r.0 r.1 r.2 r.3 r.4))
    | inr i ↦ (let x = from_flat_map chosen_group sites k i in let r = met.only x.0 x.1 in site_tells r.0 r.1 r.2 x.0.call k r.3 r.4.call x.2)
  ]

  aim_tells : (j : ℕ) (g : Group) (s : Standing) (a : Aim) (y : Goal) (r : Rule) → IsAt n.groups.keys j g → Answers p types bares g s → s.aim ≡ a → AimAt n a y → Has (goal_rule j y) r → Tells r.left → Tells r.then
  aim_tells j g s a (goal_of.Function f) r at ans e same h t = absurd h
  aim_tells j g s (Calls f) (goal_of.Group of group) r at ans e same h t = absurd same
  aim_tells j g s (Calls f) (goal_of.First group) r at ans e same h t = absurd same
  aim_tells j g s (Asks (Some m) o) (goal_of.First group) r at ans e same h t = absurd same
  aim_tells j g s (Asks None o) (goal_of.Group of group) r at ans e same h t = absurd same
  aim_tells j g s (Asks (Some m) o) (goal_of.Group of group) r at ans e same (inr h) t = absurd h
  aim_tells j g s (Asks None o) (goal_of.First group) r at ans e same (inr h) t = absurd h
  aim_tells j g s (Asks (Some m) o) (goal_of.Group of group) r at ans e same (inl i) t =
      subst (λ (z : Rule). Tells z.then) i (tells group (like_group types bares o) same.1 (IsCalled.through g o s (Some m) (t g (subst (λ (z : Rule). IsAt n.groups.keys z.left g) i at)) ans e))
  aim_tells j g s (Asks None o) (goal_of.First group) r at ans e same (inl i) t =
      subst (λ (z : Rule). Tells z.then) i (tells group (like_group types bares o) same (IsCalled.through g o s None (t g (subst (λ (z : Rule). IsAt n.groups.keys z.left g) i at)) ans e))

  rules_tell : (r : Rule) → Has rules r → Tells r.left → Tells r.right → Tells r.then
  rules_tell r h t u =
      let x = are.only r h in
      let q = answers.only x.0 x.1 x.2 in
      aim_tells x.0 q.0 q.1 q.1.aim x.1.goal r q.3 q.2 refl q.4.aim x.3 t

  pub is_called : (k : ℕ) (g : Group) → IsAt n.groups.keys k g → Derives starts rules k → Chosen g
  is_called k g at d = derived starts rules Tells starts_tell rules_tell k d g at

  pub are_called : (marks : List Bool) → ((k : ℕ) → (marked marks k ≡ true) ↔ Derives starts rules k) → AreCalled p n marks
  are_called marks solved = record {
    exact = λ k g at. (
      λ h. is_called k g at ((solved k).0 h),
      λ h. (let s = shown g h in (solved k).1 (subst (λ (j : ℕ). Derives starts rules j) (once s.0 k g s.1 at) s.2)),
    );
    listed = λ g h. (let s = shown g h in (s.0, s.1));
  }

-- ---- a group is put down

pub puts_one : (n : Numbers) (o : Option Selector) (s : Selector) (old new : List ℕ) (k : ℕ) → o ≡ Some s → IsAt n.groups.keys k (group_of.Selected s) → new ≡ old ++ k ∷ [] → PutsBound n o old new
puts_one n o s old new k e at put = subst (λ (x : Option Selector). PutsBound n x old new) (sym e) (k, at, put)

pub puts_no : (n : Numbers) (o : Option Selector) (old : List ℕ) → o ≡ None → PutsBound n o old old
puts_no n o old e = subst (λ (x : Option Selector). PutsBound n x old old) (sym e) refl
