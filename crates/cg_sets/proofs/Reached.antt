-- What is reached, and the numbers that rules derive.
use Rattle.std.proofs.Common.{◌≡◌, ◌⊎◌, ◌<◌, ◌+◌, ◌*◌, ◌++◌, ℕ, Bool, true, false, List, [], ◌∷◌, Option, Some, None, inl, inr, refl, sym, ap, ◌∙◌, subst, map, length, slice_get, arith, true≢false}
use Rattle.go_base.specs.declared.ids.FuncId.{FuncId}
use Rattle.go_base.specs.declared.ids.TypeId.{TypeId}
use Rattle.go_base.specs.declared.place.Pos.{Pos}
use Rattle.go_tree.specs.declared.functions.FunctionDecl.{FunctionDecl}
use Rattle.go_tree.specs.declared.functions.FunctionForm.{FunctionForm}
use Rattle.go_tree.specs.declared.functions.FunctionForm.TheVariants as form_of
use Rattle.go_tree.specs.declared.program.Program.{Program}
use Rattle.go_type.specs.Table.{Table}
use Rattle.cg_nodes.specs.declared.nodes.Called.{Called}
use Rattle.cg_nodes.specs.declared.nodes.Called.TheVariants as called
use Rattle.cg_nodes.specs.declared.nodes.Group.{Group}
use Rattle.cg_nodes.specs.declared.nodes.Mention.TheVariants as mention
use Rattle.cg_nodes.specs.declared.nodes.Node.{Node}
use Rattle.cg_nodes.specs.declared.nodes.Value.{Value}
use Rattle.cg_nodes.specs.declared.nodes.Value.TheVariants as value_of
use Rattle.cg_numbers.specs.Alike.{like_group, like_value}
use Rattle.std.specs.Prelude.{◌↔◌}
use Rattle.std.specs.List.{filter}
use Rattle.cg_numbers.specs.Numbered.{Extends, IsAt, IsOnce, ValueAt, GroupAt}
use Rattle.cg_numbers.specs.declared.likeness.Likeness.{Likeness}
use Rattle.cg_numbers.specs.Sites.{CallAt, SiteAt, Stands}
use Rattle.cg_numbers.specs.declared.numbers.Numbers.{Numbers}
use Rattle.cg_numbers.specs.declared.sites.Call.{Call}
use Rattle.cg_numbers.specs.declared.sites.Call.TheVariants as call
use Rattle.cg_numbers.specs.declared.sites.Seed.{Seed}
use Rattle.cg_numbers.specs.declared.sites.Site.{Site}
use Rattle.cg_sets.specs.Answering.{AreAnswers}
use Rattle.cg_sets.specs.Candidates.{Standing, Answers}
use Rattle.cg_sets.specs.Embedding.{Aim, Calls, Asks}
use Rattle.cg_sets.specs.Graphs.{Fact, Reached, Known, Asked, Rta}
use Rattle.cg_sets.specs.Numbering.{AimAt, AsksAt, CallsAt, CandidateAt}
use Rattle.cg_sets.specs.Reaching.{AreRowRules, IsReach, runs_in, call_fact, candidate_rule, fact_number, fact_rule, goal_fact, init_start, is_init, main_start, seed_rule, site_rule, start_at, starts_of}
use Rattle.cg_sets.specs.Rules.{AreSeeds, AreSites, question_of}
use Rattle.cg_sets.specs.declared.by_reach.FactNumber.{FactNumber}
use Rattle.cg_sets.specs.declared.by_reach.FactNumber.TheVariants as fact
use Rattle.cg_sets.specs.declared.candidates.Candidate.{Candidate}
use Rattle.cg_sets.specs.declared.candidates.Goal.{Goal}
use Rattle.cg_sets.specs.declared.candidates.Goal.TheVariants as goal_of
use Rattle.cg_sets.specs.declared.edges.Edge.{Edge}
use Rattle.cg_sets.proofs.Implementers.{place_below}
use Rattle.cg_sets.proofs.Calling.{AreQuestions}
use Rattle.cg_sets.proofs.Putting.{candidate_later}
use Rattle.cg_sets.proofs.RowRules.{from_filter, to_filter}
use Rattle.cg_solve.specs.LeastSets.{Derives, marked}
use Rattle.cg_solve.specs.Lists.{Has, each_below, when}
use Rattle.cg_solve.specs.declared.solving.Rule.{Rule}
use Rattle.cg_solve.proofs.Members.{Has-left, Has-right, Has-cases, Has-map, from_map, Has-below, from_below, Has-when, when_has}
use Rattle.cg_solve.proofs.Worklist.{derived}

some_same : {A : Type 0} (x y : A) (o : Option A) → o ≡ Some x → o ≡ Some y → x ≡ y
some_same x y o h k = let e : Some x ≡ Some y = sym h ∙ k in cc

-- ---- kinds of facts are apart

same_thrice : (a b : ℕ) → a * 3 ≡ b * 3 → a ≡ b
same_thrice a b e = omega arith

same_known : (a b : ℕ) → a * 3 + 1 ≡ b * 3 + 1 → a ≡ b
same_known a b e = omega arith

same_asked : (a b : ℕ) → a * 3 + 2 ≡ b * 3 + 2 → a ≡ b
same_asked a b e = omega arith

apart-0-1 : (a b : ℕ) → a * 3 ≡ b * 3 + 1 → ⊥
apart-0-1 a b e = omega arith

apart-0-2 : (a b : ℕ) → a * 3 ≡ b * 3 + 2 → ⊥
apart-0-2 a b e = omega arith

apart-1-2 : (a b : ℕ) → a * 3 + 1 ≡ b * 3 + 2 → ⊥
apart-1-2 a b e = omega arith

init_form : (form : FunctionForm) → is_init form ≡ true → form ≡ form_of.PackageInit
init_form form_of.PackageInit h = refl
init_form form_of.Init h = absurd (cc)
init_form form_of.Function h = absurd (cc)
init_form form_of.Method h = absurd (cc)
init_form (form_of.Literal within) h = absurd (cc)

module _ (p : Program) (n : Numbers) (sites : List Site) (seeds : List Seed) (rows : ℕ → List Candidate) (fault : ℕ) (rules row_rules : List Rule)
    (met : AreSites p n sites) (made : AreSeeds p n seeds) (answers : AreAnswers p n rows) (at_fault : ValueAt n fault (value_of.Class p.error_string)) (are : AreRowRules rows row_rules)
    (all : rules ≡ (row_rules ++ map site_rule sites) ++ map seed_rule seeds) (once : IsOnce n.values.keys) where
  abbrev types : Table
  types = n.likeness.types

  abbrev bares : List TypeId
  bares = n.likeness.bares

  abbrev Holds : Fact p types bares → Type 0
  Holds x = Rta p types bares x

  abbrev starts : List ℕ
  starts = starts_of p fault

  abbrev Derived : FactNumber → Type 0
  Derived x = Derives starts rules (fact_number x)

  -- ---- the rules

  abbrev fronts : List Rule
  fronts = row_rules ++ map site_rule sites

  has_row : (k : ℕ) (c : Candidate) → Has (rows k) c → Has rules (candidate_rule k c)
  has_row k c h = subst (λ (l : List Rule). Has l (candidate_rule k c)) (sym all) (Has-left fronts (map seed_rule seeds) (candidate_rule k c) (Has-left row_rules (map site_rule sites) (candidate_rule k c) (are.whole k c h)))

  has_site : (x : Site) → Has sites x → Has rules (site_rule x)
  has_site x h = subst (λ (l : List Rule). Has l (site_rule x)) (sym all) (Has-left fronts (map seed_rule seeds) (site_rule x) (Has-right row_rules (map site_rule sites) (site_rule x) (Has-map site_rule sites x h)))

  has_seed : (x : Seed) → Has seeds x → Has rules (seed_rule x)
  has_seed x h = subst (λ (l : List Rule). Has l (seed_rule x)) (sym all) (Has-right fronts (map seed_rule seeds) (seed_rule x) (Has-map seed_rule seeds x h))

  -- ---- what holds is derived

  by_rule : (left right then : FactNumber) → Has rules (fact_rule left right then) → Derived left → Derived right → Derived then
  by_rule left right then h a b = Derives.rule (fact_rule left right then) h a b

  by_site : (x : Site) (f : FuncId) → Has sites x → x.caller ≡ f → Derived (fact.Reached f) → Derived (call_fact x.call)
  by_site x f h e d = let here : Derived (fact.Reached x.caller) = subst (λ (y : FuncId). Derived (fact.Reached y)) (sym e) d in by_rule (fact.Reached x.caller) (fact.Reached x.caller) (call_fact x.call) (has_site x h) here here

  abbrev Shown : Fact p types bares → Type 0
  Shown (Reached f) = Derived (fact.Reached f)
  Shown (Known v) = (k : ℕ) × IsAt n.values.keys k v × Derived (fact.Known k)
  Shown (Asked g) = (k : ℕ) × IsAt n.groups.keys k g × Derived (fact.Asked k)

  called_fixed : (g : FuncId) (x : Call) → CallAt n (called.Fixed g) x → Derived (call_fact x) → Derived (fact.Reached g)
  called_fixed g (call.Fixed h) at d = subst (λ (y : FuncId). Derived (fact.Reached y)) (sym at) d
  called_fixed g (call.Chosen i j k) at d = absurd at

  called_chosen : (node first : Node) (g : Group) (x : Call) → CallAt n (called.Chosen node first g) x → Derived (call_fact x) → Shown (Asked (like_group types bares g))
  called_chosen node first g (call.Fixed h) at d = absurd at
  called_chosen node first g (call.Chosen i j k) at d = (k, at.2, d)

  goal_calls : (f : FuncId) (goal : Goal) → CallsAt f goal → Derived (goal_fact goal) → Derived (fact.Reached f)
  goal_calls f (goal_of.Function g) at d = subst (λ (y : FuncId). Derived (fact.Reached y)) (sym at) d
  goal_calls f (goal_of.Group of group) at d = absurd at
  goal_calls f (goal_of.First group) at d = absurd at

  goal_asks : (m : Option Node) (h : Group) (goal : Goal) → AsksAt n m h goal → Derived (goal_fact goal) → Shown (Asked (like_group types bares h))
  goal_asks (Some m) h (goal_of.Function f) at d = absurd at
  goal_asks (Some m) h (goal_of.Group of group) at d = (group, at.1, d)
  goal_asks (Some m) h (goal_of.First group) at d = absurd at
  goal_asks None h (goal_of.Function f) at d = absurd at
  goal_asks None h (goal_of.Group of group) at d = absurd at
  goal_asks None h (goal_of.First group) at d = (group, at, d)

  by_answer : (g : Group) (s : Standing) → Shown (Asked g) → Shown (Known s.value) → Answers p types bares g s → (c : Candidate) × AimAt n s.aim c.goal × Derived (goal_fact c.goal)
  by_answer g s a k ans =
      let c = answers.whole a.0 g s a.1 ans in
      let same : k.0 ≡ c.0.value = once k.0 c.0.value s.value k.1 c.2.value in
      let known : Derived (fact.Known c.0.value) = subst (λ (y : ℕ). Derived (fact.Known y)) same k.2 in
      (c.0, c.2.aim, by_rule (fact.Asked a.0) (fact.Known c.0.value) (goal_fact c.0.goal) (has_row a.0 c.0 c.1) a.2 known)

  start_in : (number : ℕ) → Has starts number → Derives starts rules number
  start_in number h = Derives.seed number h

  abbrev front : List ℕ
  front = fact_number (fact.Known fault) ∷ [] ++ main_start p.main

  pub shown : (x : Fact p types bares) → Holds x → Shown x
  shown _ (Rta.main f e) = start_in (fact_number (fact.Reached f)) (Has-left front (each_below (start_at p) (length p.functions)) (fact_number (fact.Reached f)) (inr (subst (λ (o : Option FuncId). Has (main_start o) (fact_number (fact.Reached f))) (sym e) (inl refl))))
  shown _ (Rta.start f d e form) =
      let there : Has (start_at p f.number) (fact_number (fact.Reached f)) = subst (λ (o : Option FunctionDecl). Has (init_start f.number o) (fact_number (fact.Reached f))) (sym e) (when_has (is_init d.form) (fact_number (fact.Reached f)) (ap is_init form)) in
      start_in (fact_number (fact.Reached f)) (Has-right front (each_below (start_at p) (length p.functions)) (fact_number (fact.Reached f)) (Has-below (start_at p) (length p.functions) f.number (fact_number (fact.Reached f)) (place_below p.functions f.number d e) there))
  shown _ Rta.fault = (fault, at_fault, start_in (fact_number (fact.Known fault)) (Has-left front (each_below (start_at p) (length p.functions)) (fact_number (fact.Known fault)) (inl refl)))
  shown _ (Rta.makes f v r stands) =
      let x = made.whole f v stands in
      let here : Derived (fact.Reached x.0.function) = subst (λ (y : FuncId). Derived (fact.Reached y)) (sym x.2.function) (shown (Reached f) r) in
      (x.0.value, x.2.value, by_rule (fact.Reached x.0.function) (fact.Reached x.0.function) (fact.Known x.0.value) (has_seed x.0 x.1) here here)
  shown _ (Rta.calls f e r stands) = let x = met.whole e.caller e.site (called.Fixed e.callee) stands in called_fixed e.callee x.0.call x.2.call (by_site x.0 e.caller x.1 x.2.caller (shown (Reached e.caller) r))
  shown _ (Rta.asks f g e node first group r stands) = let x = met.whole e.caller e.site (called.Chosen node first group) stands in called_chosen node first group x.0.call x.2.call (by_site x.0 e.caller x.1 x.2.caller (shown (Reached e.caller) r))
  shown _ (Rta.chooses g s f a k ans aim) =
      let c = by_answer g s (shown (Asked g) a) (shown (Known s.value) k) ans in
      goal_calls f c.0.goal (subst (λ (y : Aim). AimAt n y c.0.goal) aim c.1) c.2
  shown _ (Rta.hands_on g h s m a k ans aim) =
      let c = by_answer g s (shown (Asked g) a) (shown (Known s.value) k) ans in
      goal_asks m h c.0.goal (subst (λ (y : Aim). AimAt n y c.0.goal) aim c.1) c.2

  -- ---- what is derived holds

  abbrev Means : FactNumber → Type 0
  Means (fact.Reached f) = Holds (Reached f)
  Means (fact.Known k) = (v : Value) → IsAt n.values.keys k v → Holds (Known v)
  Means (fact.Asked k) = (g : Group) → IsAt n.groups.keys k g → Holds (Asked g)

  abbrev Tells : ℕ → Type 0
  Tells number = (x : FactNumber) → number ≡ fact_number x → Means x

  same_fact : (x y : FactNumber) → fact_number x ≡ fact_number y → x ≡ y
  same_fact (fact.Reached f) (fact.Reached g) e = ap (λ (m : ℕ). fact.Reached (record { number = m })) (same_thrice f.number g.number e)
  same_fact (fact.Reached f) (fact.Known k) e = absurd (apart-0-1 f.number k e)
  same_fact (fact.Reached f) (fact.Asked k) e = absurd (apart-0-2 f.number k e)
  same_fact (fact.Known j) (fact.Reached f) e = absurd (apart-0-1 f.number j (sym e))
  same_fact (fact.Known j) (fact.Known k) e = ap (λ (m : ℕ). fact.Known m) (same_known j k e)
  same_fact (fact.Known j) (fact.Asked k) e = absurd (apart-1-2 j k e)
  same_fact (fact.Asked j) (fact.Reached f) e = absurd (apart-0-2 f.number j (sym e))
  same_fact (fact.Asked j) (fact.Known k) e = absurd (apart-1-2 k j (sym e))
  same_fact (fact.Asked j) (fact.Asked k) e = ap (λ (m : ℕ). fact.Asked m) (same_asked j k e)

  tells : (y : FactNumber) → Means y → Tells (fact_number y)
  tells y m = λ x e. subst Means (same_fact y x e) m

  tells_number : (number : ℕ) (y : FactNumber) → number ≡ fact_number y → Means y → Tells number
  tells_number number y e m = subst Tells (sym e) (tells y m)

  means_main : (o : Option FuncId) (number : ℕ) → p.main ≡ o → Has (main_start o) number → Tells number
  means_main None number e h = absurd h
  means_main (Some f) number e (inl h) = tells_number number (fact.Reached f) (sym h) (Rta.main f e)
  means_main (Some f) number e (inr h) = absurd h

  means_init : (k : ℕ) (o : Option FunctionDecl) (number : ℕ) → slice_get p.functions k ≡ o → Has (init_start k o) number → Tells number
  means_init k None number e h = absurd h
  means_init k (Some d) number e h = let w = Has-when (is_init d.form) (fact_number (fact.Reached (record { number = k }))) number h in tells_number number (fact.Reached (record { number = k })) (sym w.1) (Rta.start (record { number = k }) d e (init_form d.form w.0))

  means_fault : Means (fact.Known fault)
  means_fault = λ v at. subst (λ (w : Value). Holds (Known w)) (some_same (like_value types bares (value_of.Class p.error_string)) v (slice_get n.values.keys fault) at_fault at) Rta.fault

  starts_hold : (number : ℕ) → Has starts number → Tells number
  starts_hold number h = elim (Has-cases front (each_below (start_at p) (length p.functions)) number h) [
    | inl (inl e) ↦ tells_number number (fact.Known fault) (sym e) means_fault
    | inl (inr g) ↦ means_main p.main number refl g
    | inr g ↦ (let r = from_below (start_at p) (length p.functions) number g in means_init r.0 (slice_get p.functions r.0) number refl r.2)
  ]

  call_means : (f : FuncId) (at : Pos) (c : Called) (x : Call) → CallAt n c x → Stands p f (mention.Call at c) → Holds (Reached f) → Means (call_fact x)
  call_means f at (called.Fixed g) (call.Fixed h) same stands r = subst (λ (y : FuncId). Holds (Reached y)) same (Rta.calls f (record { caller = f; site = at; callee = g }) r stands)
  call_means f at (called.Fixed g) (call.Chosen i j k) same stands r = absurd same
  call_means f at (called.Chosen node first group) (call.Fixed h) same stands r = absurd same
  call_means f at (called.Chosen node first group) (call.Chosen i j k) same stands r =
      λ g there. subst (λ (y : Group). Holds (Asked y)) (some_same (like_group types bares group) g (slice_get n.groups.keys k) same.2 there) (Rta.asks f f (record { caller = f; site = at; callee = f }) node first group r stands)

  site_means : (x : Site) → Has sites x → Holds (Reached x.caller) → Means (call_fact x.call)
  site_means x h r = let q = met.only x h in call_means q.0 q.1 q.2 x.call q.4.call q.3 (subst (λ (y : FuncId). Holds (Reached y)) q.4.caller r)

  seed_means : (x : Seed) → Has seeds x → Holds (Reached x.function) → Means (fact.Known x.value)
  seed_means x h r = λ v at. (
      let q = made.only x h in
      subst (λ (w : Value). Holds (Known w)) (some_same (like_value types bares q.1) v (slice_get n.values.keys x.value) q.3.value at) (Rta.makes q.0 q.1 (subst (λ (y : FuncId). Holds (Reached y)) q.3.function r) q.2))

  aim_means : (g : Group) (s : Standing) (a : Aim) (goal : Goal) → s.aim ≡ a → AimAt n a goal → Answers p types bares g s → Holds (Asked g) → Holds (Known s.value) → Means (goal_fact goal)
  aim_means g s (Calls f) (goal_of.Function h) e at ans a k = subst (λ (y : FuncId). Holds (Reached y)) at (Rta.chooses g s f a k ans e)
  aim_means g s (Calls f) (goal_of.Group of group) e at ans a k = absurd at
  aim_means g s (Calls f) (goal_of.First group) e at ans a k = absurd at
  aim_means g s (Asks (Some m) h) (goal_of.Function f) e at ans a k = absurd at
  aim_means g s (Asks (Some m) h) (goal_of.First group) e at ans a k = absurd at
  aim_means g s (Asks (Some m) h) (goal_of.Group of group) e at ans a k = λ o there. subst (λ (y : Group). Holds (Asked y)) (some_same (like_group types bares h) o (slice_get n.groups.keys group) at.1 there) (Rta.hands_on g h s (Some m) a k ans e)
  aim_means g s (Asks None h) (goal_of.Function f) e at ans a k = absurd at
  aim_means g s (Asks None h) (goal_of.Group of group) e at ans a k = absurd at
  aim_means g s (Asks None h) (goal_of.First group) e at ans a k = λ o there. subst (λ (y : Group). Holds (Asked y)) (some_same (like_group types bares h) o (slice_get n.groups.keys group) at there) (Rta.hands_on g h s None a k ans e)

  row_means : (k : ℕ) (c : Candidate) → Has (rows k) c → Means (fact.Asked k) → Means (fact.Known c.value) → Means (goal_fact c.goal)
  row_means k c h asked known = let q = answers.only k c h in aim_means q.0 q.1 q.1.aim c.goal refl q.4.aim q.2 (asked q.0 q.3) (known q.1.value q.4.value)

  rule_holds : (left right then : FactNumber) → (Means left → Means right → Means then) → (r : Rule) → r ≡ fact_rule left right then → Tells r.left → Tells r.right → Tells r.then
  rule_holds left right then step r e a b = tells_number r.then then (ap (λ (x : Rule). x.then) e) (step (a left (ap (λ (x : Rule). x.left) e)) (b right (ap (λ (x : Rule). x.right) e)))

  rules_hold : (r : Rule) → Has rules r → Tells r.left → Tells r.right → Tells r.then
  rules_hold r h = elim (Has-cases fronts (map seed_rule seeds) r (subst (λ (l : List Rule). Has l r) all h)) [
    | inl i ↦ elim (Has-cases row_rules (map site_rule sites) r i) [
      | inl j ↦ (let q = are.only r j in rule_holds (fact.Asked q.0) (fact.Known q.1.value) (goal_fact q.1.goal) (row_means q.0 q.1 q.2) r q.3)
      | inr j ↦ (let q = from_map site_rule sites r j in rule_holds (fact.Reached q.0.caller) (fact.Reached q.0.caller) (call_fact q.0.call) (λ a b. site_means q.0 q.1 a) r (sym q.2))
    ]
    | inr i ↦ (let q = from_map seed_rule seeds r i in rule_holds (fact.Reached q.0.function) (fact.Reached q.0.function) (fact.Known q.0.value) (λ a b. seed_means q.0 q.1 a) r (sym q.2))
  ]

  pub holds_so : (x : FactNumber) → Derived x → Means x
  holds_so x d = derived starts rules Tells starts_hold rules_hold (fact_number x) d x refl

  module _ (marks : List Bool) (solved : (k : ℕ) → (marked marks k ≡ true) ↔ Derives starts rules k) where
    pub is_reach : IsReach p n marks
    is_reach = record {
      runs = λ f. (λ h. holds_so (fact.Reached f) ((solved (fact_number (fact.Reached f))).0 h), λ h. (solved (fact_number (fact.Reached f))).1 (shown (Reached f) h));
      made = λ k v at. (
        λ h. holds_so (fact.Known k) ((solved (fact_number (fact.Known k))).0 h) v at,
        λ h. (let d = shown (Known v) h in (solved (fact_number (fact.Known k))).1 (subst (λ (j : ℕ). Derived (fact.Known j)) (once d.0 k v d.1 at) d.2)),
      );
    }

-- ---- later numbers

pub answers_later : (p : Program) (m n : Numbers) (rows : ℕ → List Candidate) → Extends m n → n.groups ≡ m.groups → AreAnswers p m rows → AreAnswers p n rows
answers_later p m n rows e same h = record {
  only = λ k c g. (let r = h.only k c g in (r.0, r.1, subst (λ (l : Likeness). Answers p l.types l.bares r.0 r.1) (sym e.likeness) r.2, subst (λ s. IsAt s.keys k r.0) (sym same) r.3, candidate_later m n e c r.1 r.4));
  whole = λ k g s at ans. (let r = h.whole k g s (subst (λ s. IsAt s.keys k g) same at) (subst (λ (l : Likeness). Answers p l.types l.bares g s) e.likeness ans) in (r.0, r.1, candidate_later m n e r.0 s r.2));
}

-- the questions of the calls in functions that are reached
pub asked_where : (p : Program) (n : Numbers) (marks : List Bool) → IsReach p n marks → (sites : List Site) → AreQuestions sites (λ f. Rta p n.likeness.types n.likeness.bares (Reached f)) (map question_of (filter (runs_in marks) sites))
asked_where p n marks reach sites = record {
  only = λ q h. (
      let x = from_map question_of (filter (runs_in marks) sites) q h in
      let f = from_filter (runs_in marks) sites x.0 x.1 in
      (x.0, f.0, (reach.runs x.0.caller).0 f.1, x.2));
  whole = λ x h runs. Has-map question_of (filter (runs_in marks) sites) x (to_filter (runs_in marks) sites x h ((reach.runs x.caller).1 runs));
}
