-- The functions that candidates lead to, and the numbers that rules derive.
use Rattle.std.proofs.Common.{◌≡◌, ◌⊎◌, ◌<◌, ◌+◌, ◌*◌, ℕ, List, [], ◌∷◌, Option, Some, None, inl, inr, refl, sym, ap, ◌∙◌, subst, arith}
use Rattle.go_base.specs.declared.ids.FuncId.{FuncId}
use Rattle.go_base.specs.declared.ids.TypeId.{TypeId}
use Rattle.go_tree.specs.declared.program.Program.{Program}
use Rattle.go_type.specs.Table.{Table}
use Rattle.cg_nodes.specs.declared.nodes.Group.{Group}
use Rattle.cg_nodes.specs.declared.nodes.Node.{Node}
use Rattle.cg_nodes.specs.declared.nodes.Node.TheVariants as node_of
use Rattle.cg_nodes.specs.declared.nodes.Value.{Value}
use Rattle.cg_numbers.specs.Alike.{like_group, like_node}
use Rattle.cg_numbers.specs.Numbered.{IsAt, IsOnce}
use Rattle.cg_numbers.specs.declared.numbers.Numbers.{Numbers}
use Rattle.cg_sets.specs.Answering.{AreAnswers}
use Rattle.cg_sets.specs.Numbering.{CandidateAt, AimAt, AsksAt, CallsAt}
use Rattle.cg_sets.specs.Asking.{answer_number, function_number, answer_rule}
use Rattle.cg_sets.specs.Candidates.{Standing, Answers}
use Rattle.cg_sets.specs.Embedding.{Aim, Calls, Asks}
use Rattle.cg_sets.specs.Graphs.{Gives}
use Rattle.cg_sets.specs.Rules.{goal_number, AreRules}
use Rattle.cg_sets.specs.declared.candidates.Candidate.{Candidate}
use Rattle.cg_sets.specs.declared.candidates.Goal.{Goal}
use Rattle.cg_sets.specs.declared.candidates.Goal.TheVariants as goal_of
use Rattle.cg_solve.specs.LeastSets.{Derives}
use Rattle.cg_solve.specs.Lists.{Has}
use Rattle.cg_solve.specs.declared.solving.Rule.{Rule}
use Rattle.cg_solve.proofs.Worklist.{derived}

module _ (p : Program) (types : Table) (bares : List TypeId) (K : Value → Type 0) where
  -- the functions that the values of K that are candidates of a group lead to
  pub data Leads : Group → FuncId → Type 0 where
    calls : (g : Group) (s : Standing) (f : FuncId) → Answers p types bares g s → K s.value → s.aim ≡ Calls f → Leads g f
    asks : (g h : Group) (node : Option Node) (s : Standing) (f : FuncId) → Answers p types bares g s → K s.value → s.aim ≡ Asks node h → Leads (like_group types bares h) f → Leads g f

  -- wherever nodes have the values of K
  pub leads_given : (n first : Node) (g : Group) (f : FuncId) → Gives p types bares (λ node v. K v) n first g f → Leads (like_group types bares g) f
  leads_given _ _ _ _ (Gives.calls n first g s f a k e) = Leads.calls (like_group types bares g) s f a k e
  leads_given _ _ _ _ (Gives.asks n first m g h s f a k e more) = Leads.asks (like_group types bares g) h (Some m) s f a k e (leads_given m node_of.Nothing h f more)
  leads_given _ _ _ _ (Gives.asks_first n first g h s f a k e more) = Leads.asks (like_group types bares g) h None s f a k e (leads_given first node_of.Nothing h f more)

  gives_by : (l : Group) (f : FuncId) → Leads l f → (g : Group) → l ≡ like_group types bares g → (n first : Node) → Gives p types bares (λ node v. K v) n first g f
  gives_by _ _ (Leads.calls l s f a k e) g q n first = Gives.calls n first g s f (subst (λ (x : Group). Answers p types bares x s) q a) k e
  gives_by _ _ (Leads.asks l h (Some m) s f a k e more) g q n first = Gives.asks n first m g h s f (subst (λ (x : Group). Answers p types bares x s) q a) k e (gives_by (like_group types bares h) f more h refl m node_of.Nothing)
  gives_by _ _ (Leads.asks l h None s f a k e more) g q n first = Gives.asks_first n first g h s f (subst (λ (x : Group). Answers p types bares x s) q a) k e (gives_by (like_group types bares h) f more h refl first node_of.Nothing)

  pub gives_led : (n first : Node) (g : Group) (f : FuncId) → Leads (like_group types bares g) f → Gives p types bares (λ node v. K v) n first g f
  gives_led n first g f d = gives_by (like_group types bares g) f d g refl n first

-- ---- rules

module _ (p : Program) (n : Numbers) (rows : ℕ → List Candidate) (answers : AreAnswers p n rows) (K : Value → Type 0) (Kept : Candidate → Type 0)
    (keeps : (c : Candidate) (v : Value) → IsAt n.values.keys c.value v → Kept c → K v) (kept : (c : Candidate) (v : Value) → IsAt n.values.keys c.value v → K v → Kept c)
    (rules : List Rule) (are : AreRules rows Kept rules) where
  abbrev types : Table
  types = n.likeness.types

  abbrev bares : List TypeId
  bares = n.likeness.bares

  abbrev Led : Group → FuncId → Type 0
  Led g f = Leads p types bares K g f

  one_there : {A : Type 0} (xs : List A) (i : ℕ) (x y : A) → IsAt xs i x → IsAt xs i y → x ≡ y
  one_there xs i x y h k = let e : Some x ≡ Some y = sym h ∙ k in cc

  -- a rule that a candidate gives
  rule_of : (seeds : List ℕ) (k : ℕ) (c : Candidate) → Has (rows k) c → Kept c → Derives seeds rules (answer_number k) → Derives seeds rules (goal_number c.goal)
  rule_of seeds k c there q d = Derives.rule (answer_rule k (goal_number c.goal)) (are.whole k c there q) d d

  calls_number : (f : FuncId) (goal : Goal) → CallsAt f goal → goal_number goal ≡ function_number f
  calls_number f (goal_of.Function g) h = sym (ap function_number h)
  calls_number f (goal_of.Group of group) h = absurd h
  calls_number f (goal_of.First group) h = absurd h

  asks_number : (node : Option Node) (h : Group) (goal : Goal) → AsksAt n node h goal → (k : ℕ) × IsAt n.groups.keys k (like_group types bares h) × (goal_number goal ≡ answer_number k)
  asks_number (Some m) h (goal_of.Function g) q = absurd q
  asks_number (Some m) h (goal_of.Group of group) q = (group, q.1, refl)
  asks_number (Some m) h (goal_of.First group) q = absurd q
  asks_number None h (goal_of.Function g) q = absurd q
  asks_number None h (goal_of.Group of group) q = absurd q
  asks_number None h (goal_of.First group) q = (group, q, refl)

  pub led_derives : (seeds : List ℕ) (g : Group) (f : FuncId) → Led g f → (k : ℕ) → IsAt n.groups.keys k g → Derives seeds rules (answer_number k) → Derives seeds rules (function_number f)
  led_derives seeds _ _ (Leads.calls g s f a q e) k at d =
      let c = answers.whole k g s at a in
      let number : goal_number c.0.goal ≡ function_number f = calls_number f c.0.goal (subst (λ (x : Aim). AimAt n x c.0.goal) e c.2.aim) in
      subst (Derives seeds rules) number (rule_of seeds k c.0 c.1 (kept c.0 s.value c.2.value q) d)
  led_derives seeds _ _ (Leads.asks g h node s f a q e more) k at d =
      let c = answers.whole k g s at a in
      let next = asks_number node h c.0.goal (subst (λ (x : Aim). AimAt n x c.0.goal) e c.2.aim) in
      led_derives seeds (like_group types bares h) f more next.0 next.1 (subst (Derives seeds rules) next.2 (rule_of seeds k c.0 c.1 (kept c.0 s.value c.2.value q) d))

  -- what a number that is derived from a group tells of the group
  pub record Tells (from : Group) (number : ℕ) : Type 0 where
    pub function : (f : FuncId) → number ≡ function_number f → Led from f
    pub group : (k : ℕ) (g : Group) → number ≡ answer_number k → IsAt n.groups.keys k g → (f : FuncId) → Led g f → Led from f

  apart : (k : ℕ) (f : FuncId) → answer_number k ≡ function_number f → ⊥
  apart k f e = omega arith

  same_answer : (j k : ℕ) → answer_number j ≡ answer_number k → j ≡ k
  same_answer j k e = omega arith

  same_number : (a b : ℕ) → a * 2 + 1 ≡ b * 2 + 1 → a ≡ b
  same_number a b e = omega arith

  same_function : (f g : FuncId) → function_number f ≡ function_number g → f ≡ g
  same_function f g e = λ i. record { number = same_number f.number g.number e i }

  tells_seed : (from : Group) (k : ℕ) → IsAt n.groups.keys k from → Tells from (answer_number k)
  tells_seed from k at = record {
    function = λ f e. absurd (apart k f e);
    group = λ j g e there f d. subst (λ (x : Group). Led x f) (one_there n.groups.keys k g from (subst (λ (m : ℕ). IsAt n.groups.keys m g) (sym (same_answer k j e)) there) at) d;
  }

  tells_goal : (from g : Group) (s : Standing) (k : ℕ) (goal : Goal) (a : Aim) → s.aim ≡ a → AimAt n a goal → Answers p types bares g s → K s.value → IsAt n.groups.keys k g → Tells from (answer_number k) → Tells from (goal_number goal)
  tells_goal from g s k goal (Calls f) e at a q there t = record {
    function = λ other same. t.group k g refl there other (Leads.calls g s other a q (e ∙ ap Calls (same_function f other (sym (calls_number f goal at) ∙ same))));
    group = λ j h same. absurd (apart j f (sym same ∙ calls_number f goal at));
  }
  tells_goal from g s k goal (Asks node h) e at a q there t =
      let next = asks_number node h goal at in
      record {
        function = λ other same. absurd (apart next.0 other (sym next.2 ∙ same));
        group = λ j other same place f d. (
            let l : other ≡ like_group types bares h = one_there n.groups.keys j other (like_group types bares h) place (subst (λ (m : ℕ). IsAt n.groups.keys m (like_group types bares h)) (same_answer next.0 j (sym next.2 ∙ same)) next.1) in
            t.group k g refl there f (Leads.asks g h node s f a q e (subst (λ (x : Group). Led x f) l d)));
      }

  tells_rule : (from : Group) (r : Rule) → Has rules r → Tells from r.left → Tells from r.right → Tells from r.then
  tells_rule from r h left right =
      let c = are.only r h in
      let s = answers.only c.0 c.1 c.2 in
      let number : r.left ≡ answer_number c.0 = ap (λ (x : Rule). x.left) c.4 in
      subst (Tells from) (sym (ap (λ (x : Rule). x.then) c.4)) (tells_goal from s.0 s.1 c.0 c.1.goal s.1.aim refl s.4.aim s.2 (keeps c.1 s.1.value s.4.value c.3) s.3 (subst (Tells from) number left))

  pub derives_led : (g : Group) (k : ℕ) (f : FuncId) → IsAt n.groups.keys k g → Derives (answer_number k ∷ []) rules (function_number f) → Led g f
  derives_led g k f at d = (derived (answer_number k ∷ []) rules (Tells g) seeds (tells_rule g) (function_number f) d).function f refl
    where
      seeds : (m : ℕ) → Has (answer_number k ∷ []) m → Tells g m
      seeds m (inl e) = subst (Tells g) e (tells_seed g k at)
      seeds m (inr h) = absurd h

  pub exact : (g : Group) (k : ℕ) (f : FuncId) → IsAt n.groups.keys k g → Led g f → Derives (answer_number k ∷ []) rules (function_number f)
  exact g k f at d = led_derives (answer_number k ∷ []) g f d k at (Derives.seed (answer_number k) (inl refl))
