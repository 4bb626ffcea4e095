-- The functions that asks lead to, and the numbers that rules derive.
use Rattle.std.proofs.Common.{◌≡◌, ◌+◌, ◌*◌, ℕ, List, [], ◌∷◌, Option, Some, None, inl, inr, refl, sym, ap, ◌∙◌, subst, arith}
use Rattle.go_base.specs.declared.ids.FuncId.{FuncId}
use Rattle.go_base.specs.declared.ids.TypeId.{TypeId}
use Rattle.go_base.specs.declared.place.Pos.{Pos}
use Rattle.go_tree.specs.declared.program.Program.{Program}
use Rattle.go_type.specs.Table.{Table}
use Rattle.cg_nodes.specs.declared.nodes.Called.{Called}
use Rattle.cg_nodes.specs.declared.nodes.Called.TheVariants as called_of
use Rattle.cg_nodes.specs.declared.nodes.Group.{Group}
use Rattle.cg_nodes.specs.declared.nodes.Mention.TheVariants as mention
use Rattle.cg_nodes.specs.declared.nodes.Node.{Node}
use Rattle.cg_nodes.specs.declared.nodes.Node.TheVariants as node_of
use Rattle.cg_nodes.specs.declared.nodes.Value.{Value}
use Rattle.cg_numbers.specs.Alike.{like_group, like_node}
use Rattle.cg_numbers.specs.Numbered.{IsAt, NodeAt}
use Rattle.cg_numbers.specs.Sites.{CallAt, Stands}
use Rattle.cg_numbers.specs.declared.numbers.Numbers.{Numbers}
use Rattle.cg_numbers.specs.declared.sites.Call.{Call}
use Rattle.cg_numbers.specs.declared.sites.Call.TheVariants as call
use Rattle.cg_numbers.specs.declared.sites.Site.{Site}
use Rattle.cg_numbers.proofs.Lists.{has_at}
use Rattle.cg_sets.specs.Answering.{AreAnswers}
use Rattle.cg_sets.specs.Asking.{HasEdge, answer_number, answer_rule, function_number, target_number}
use Rattle.cg_sets.specs.Asking as asking
use Rattle.cg_sets.specs.Candidates.{Answers, Standing}
use Rattle.cg_sets.specs.Embedding.{Aim, Asks, Calls}
use Rattle.cg_sets.specs.Graphs.{CalledBy, Gives}
use Rattle.cg_sets.specs.Numbering.{AimAt}
use Rattle.cg_sets.specs.Rules.{AreSites}
use Rattle.cg_sets.specs.declared.asking.Asked.{Asked}
use Rattle.cg_sets.specs.declared.asking.Asked.TheVariants as asked_of
use Rattle.cg_sets.specs.declared.asking.Question.{Question}
use Rattle.cg_sets.specs.declared.candidates.Candidate.{Candidate}
use Rattle.cg_sets.specs.declared.candidates.Goal.{Goal}
use Rattle.cg_sets.specs.declared.candidates.Goal.TheVariants as goal_of
use Rattle.cg_sets.specs.declared.edges.Edge.{Edge}
use Rattle.cg_solve.specs.LeastSets.{Derives}
use Rattle.cg_solve.specs.Lists.{Has}
use Rattle.cg_solve.specs.declared.solving.Rule.{Rule}
use Rattle.cg_solve.proofs.Worklist.{derived}
use Rattle.cg_vta.specs.Asks.{AreAnswered, AreAsked, AskedAt, IsRest, TargetAt, ask_of, asks_for, next_ask}
use Rattle.cg_vta.specs.Facts.{AreFacts, IsChosen, call_nodes, goal_nodes}
use Rattle.cg_vta.specs.Flows.{IsVtaEdge, Vta}
use Rattle.cg_vta.specs.declared.asks.Ask.{Ask}
use Rattle.cg_vta.proofs.Choices.{one_there}

module _ (p : Program) (types : Table) (bares : List TypeId) where
  abbrev In : Node → Value → Type 0
  In a v = Vta p types bares a v

  abbrev like : Node → Node
  like a = like_node types bares a

  -- the functions that the values in a node stand for in a group, in the form that stands for all alike
  pub data Leads : Node → Node → Group → FuncId → Type 0 where
    calls : (a first : Node) (g : Group) (s : Standing) (f : FuncId) → Answers p types bares g s → In a s.value → s.aim ≡ Calls f → Leads a first g f
    asks : (a first m : Node) (g h : Group) (s : Standing) (f : FuncId) → Answers p types bares g s → In a s.value → s.aim ≡ Asks (Some m) h
        → Leads (like m) node_of.Nothing (like_group types bares h) f → Leads a first g f
    asks_first : (a first : Node) (g h : Group) (s : Standing) (f : FuncId) → Answers p types bares g s → In a s.value → s.aim ≡ Asks None h
        → Leads first node_of.Nothing (like_group types bares h) f → Leads a first g f

  nothing_like : like node_of.Nothing ≡ node_of.Nothing
  unfolding like_node
  nothing_like = refl

  abbrev Given : Node → Node → Group → FuncId → Type 0
  Given n first g f = Gives p types bares In n first g f

  pub leads_given : (n first : Node) (g : Group) (f : FuncId) → Given n first g f → Leads (like n) (like first) (like_group types bares g) f
  leads_given _ _ _ _ (Gives.calls n first g s f a is e) = Leads.calls (like n) (like first) (like_group types bares g) s f a is e
  leads_given _ _ _ _ (Gives.asks n first m g h s f a is e more) =
      Leads.asks (like n) (like first) m (like_group types bares g) h s f a is e (subst (λ (x : Node). Leads (like m) x (like_group types bares h) f) nothing_like (leads_given m node_of.Nothing h f more))
  leads_given _ _ _ _ (Gives.asks_first n first g h s f a is e more) =
      Leads.asks_first (like n) (like first) (like_group types bares g) h s f a is e (subst (λ (x : Node). Leads (like first) x (like_group types bares h) f) nothing_like (leads_given first node_of.Nothing h f more))

  gives_by : (a b : Node) (k : Group) (f : FuncId) → Leads a b k f → (n first : Node) (g : Group) → like n ≡ a → like first ≡ b → like_group types bares g ≡ k → Given n first g f
  gives_by _ _ _ _ (Leads.calls a b k s f answers is e) n first g i j l = Gives.calls n first g s f (subst (λ (x : Group). Answers p types bares x s) (sym l) answers) (subst (λ (x : Node). In x s.value) (sym i) is) e
  gives_by _ _ _ _ (Leads.asks a b m k h s f answers is e more) n first g i j l =
      Gives.asks n first m g h s f (subst (λ (x : Group). Answers p types bares x s) (sym l) answers) (subst (λ (x : Node). In x s.value) (sym i) is) e (gives_by (like m) node_of.Nothing (like_group types bares h) f more m node_of.Nothing h refl nothing_like refl)
  gives_by _ _ _ _ (Leads.asks_first a b k h s f answers is e more) n first g i j l =
      Gives.asks_first n first g h s f (subst (λ (x : Group). Answers p types bares x s) (sym l) answers) (subst (λ (x : Node). In x s.value) (sym i) is) e (gives_by b node_of.Nothing (like_group types bares h) f more first node_of.Nothing h j nothing_like refl)

  pub gives_led : (n first : Node) (g : Group) (f : FuncId) → Leads (like n) (like first) (like_group types bares g) f → Given n first g f
  gives_led n first g f d = gives_by (like n) (like first) (like_group types bares g) f d n first g refl refl refl

module _ (p : Program) (n : Numbers) (sites : List Site) (rows : ℕ → List Candidate) (nothing : ℕ) (facts : ℕ → List ℕ) (met : AreSites p n sites) (answers : AreAnswers p n rows) (are : AreFacts p n sites rows nothing facts) (empty : NodeAt n nothing node_of.Nothing)
    (before asks : List Ask) (questions : List Question) (rules : List Rule) (asked : AreAsked before sites questions) (answered : AreAnswered facts rows nothing before asks rules) (of_sites : (a : Ask) → Has before a → (x : Site) × Has sites x × (ask_of x.call ≡ Some a)) where
  abbrev types : Table
  types = n.likeness.types

  abbrev bares : List TypeId
  bares = n.likeness.bares

  abbrev Is : Node → Value → Type 0
  Is a v = Vta p types bares a v

  abbrev Led : Node → Node → Group → FuncId → Type 0
  Led a b g f = Leads p types bares a b g f

  empty_at : IsAt n.nodes.keys nothing node_of.Nothing
  unfolding like_node
  empty_at = empty

  -- what an ask stands for
  record AskAt (a : Ask) (x y : Node) (h : Group) : Type 0 where
    operand : IsAt n.nodes.keys a.of x
    given : IsAt n.nodes.keys a.first y
    group : IsAt n.groups.keys a.group h

  abbrev Chosen : ℕ → Type 0
  Chosen k = IsChosen sites rows nothing k

  record Good (a : Ask) : Type 0 where
    operand : Node
    given : Node
    group : Group
    at : AskAt a operand given group
    chosen : Chosen a.of
    chosen_first : Chosen a.first

  some_same : (a b : Ask) → ◌≡◌ {A = Option Ask} (Some a) (Some b) → a ≡ b
  some_same a b e = cc

  no_ask : (a : Ask) → ◌≡◌ {A = Option Ask} None (Some a) → ⊥
  no_ask a e = cc

  good_call : (x : Site) (c : Called) (y : Call) (a : Ask) → x.call ≡ y → Has sites x → CallAt n c y → ask_of y ≡ Some a → Good a
  good_call x c (call.Fixed f) a e h at k = absurd (no_ask a k)
  good_call x (called_of.Fixed f) (call.Chosen i j l) a e h at k = absurd at
  good_call x (called_of.Chosen m first g) (call.Chosen i j l) a e h at k =
      subst (λ (b : Ask). Good b) (some_same (asks_for i j l) a k) (record {
        operand = like_node types bares m;
        given = like_node types bares first;
        group = like_group types bares g;
        at = record { operand = at.0; given = at.1; group = at.2 };
        chosen = IsChosen.by_site x i h (subst (λ (z : Call). Has (call_nodes z) i) (sym e) (inl refl));
        chosen_first = IsChosen.by_site x j h (subst (λ (z : Call). Has (call_nodes z) j) (sym e) (inr (inl refl)));
      })

  good_goal : (a b : Ask) (c : Candidate) (s : Standing) (m : Aim) (y : Goal) → Good a → Has (rows a.group) c → c.goal ≡ y → s.aim ≡ m → AimAt n m y → next_ask nothing a y ≡ Some b → Good b
  good_goal a b c s m (goal_of.Function f) g h e i at k = absurd (no_ask b k)
  good_goal a b c s (Calls f) (goal_of.Group of group) g h e i at k = absurd at
  good_goal a b c s (Calls f) (goal_of.First group) g h e i at k = absurd at
  good_goal a b c s (Asks None o) (goal_of.Group of group) g h e i at k = absurd at
  good_goal a b c s (Asks (Some m) o) (goal_of.First group) g h e i at k = absurd at
  good_goal a b c s (Asks (Some m) o) (goal_of.Group of group) g h e i at k =
      subst (λ (x : Ask). Good x) (some_same (asks_for of nothing group) b k) (record {
        operand = like_node types bares m;
        given = node_of.Nothing;
        group = like_group types bares o;
        at = record { operand = at.0; given = empty_at; group = at.1 };
        chosen = IsChosen.by_goal a.group c of h (subst (λ (z : Goal). Has (goal_nodes z) of) (sym e) (inl refl));
        chosen_first = IsChosen.none;
      })
  good_goal a b c s (Asks None o) (goal_of.First group) g h e i at k =
      subst (λ (x : Ask). Good x) (some_same (asks_for a.first nothing group) b k) (record {
        operand = g.given;
        given = node_of.Nothing;
        group = like_group types bares o;
        at = record { operand = g.at.given; given = empty_at; group = at };
        chosen = g.chosen_first;
        chosen_first = IsChosen.none;
      })

  good_rest : (a : Ask) → IsRest facts rows nothing before a → Good a
  good_rest _ (IsRest.first a h) = let x = of_sites a h in let q = met.only x.0 x.1 in good_call x.0 q.2 x.0.call a refl x.1 q.4.call x.2
  good_rest _ (IsRest.next a b y rest goal e) = let q = answers.only a.group goal.0 goal.1 in good_goal a b goal.0 q.1 q.1.aim y (good_rest a rest) goal.1 goal.3 refl (subst (λ (z : Goal). AimAt n q.1.aim z) goal.3 q.4.aim) e

  good : (j : ℕ) (a : Ask) → IsAt asks j a → Good a
  good j a at = good_rest a (answered.asked a (has_at asks j a at))

  -- ---- a function that is led to is derived

  module _ (seeds : List ℕ) where
    abbrev Derived : ℕ → Type 0
    Derived k = Derives seeds rules k

    step : (j t : ℕ) → Has rules (answer_rule j t) → Derived (answer_number j) → Derived t
    step j t h d = Derives.rule (answer_rule j t) h d d

    -- the goal of a candidate, and its rule
    record Goes (j : ℕ) (a : Ask) (s : Standing) : Type 0 where
      goal : Goal
      aims : AimAt n s.aim goal
      number : ℕ
      at : TargetAt asks goal (next_ask nothing a goal) number
      rule : Has rules (answer_rule j number)

    goes : (j : ℕ) (a : Ask) (x y : Node) (g : Group) (s : Standing) → IsAt asks j a → AskAt a x y g → Answers p types bares g s → Is x s.value → Goes j a s
    goes j a x y g s at stands ans is =
        let c = answers.whole a.group g s stands.group ans in
        let fact : Has (facts a.of) c.0.value = are.whole a.of c.0.value x s.value (good j a at).chosen (a.group, c.0, c.1, refl) stands.operand c.2.value is in
        let t = answered.whole j a c.0.goal at (c.0, c.1, fact, refl) in
        record { goal = c.0.goal; aims = c.2.aim; number = t.0; at = t.1; rule = t.2 }

    calls_target : (a : Ask) (f : FuncId) (y : Goal) (t : ℕ) → AimAt n (Calls f) y → TargetAt asks y (next_ask nothing a y) t → t ≡ function_number f
    calls_target a f (goal_of.Function g) t at e = e ∙ sym (ap function_number at)
    calls_target a f (goal_of.Group of group) t at e = absurd at
    calls_target a f (goal_of.First group) t at e = absurd at

    -- the ask of a goal
    record Next (x y : Node) (h : Group) (t : ℕ) : Type 0 where
      number : ℕ
      ask : Ask
      there : IsAt asks number ask
      stands : AskAt ask x y h
      target : t ≡ answer_number number

    asks_target : (a : Ask) (m : Node) (h : Group) (y : Goal) (t : ℕ) → AimAt n (Asks (Some m) h) y → TargetAt asks y (next_ask nothing a y) t → Next (like_node types bares m) node_of.Nothing (like_group types bares h) t
    asks_target a m h (goal_of.Function g) t at e = absurd at
    asks_target a m h (goal_of.First group) t at e = absurd at
    asks_target a m h (goal_of.Group of group) t at e = record { number = e.0; ask = asks_for of nothing group; there = e.1; stands = record { operand = at.0; given = empty_at; group = at.1 }; target = e.2 }

    first_target : (a : Ask) (b : Node) (h : Group) (y : Goal) (t : ℕ) → IsAt n.nodes.keys a.first b → AimAt n (Asks None h) y → TargetAt asks y (next_ask nothing a y) t → Next b node_of.Nothing (like_group types bares h) t
    first_target a b h (goal_of.Function g) t there at e = absurd at
    first_target a b h (goal_of.Group of group) t there at e = absurd at
    first_target a b h (goal_of.First group) t there at e = record { number = e.0; ask = asks_for a.first nothing group; there = e.1; stands = record { operand = there; given = empty_at; group = at }; target = e.2 }

    led_derives : (x y : Node) (g : Group) (f : FuncId) → Led x y g f → (j : ℕ) (a : Ask) → IsAt asks j a → AskAt a x y g → Derived (answer_number j) → Derived (function_number f)
    led_derives _ _ _ _ (Leads.calls x y g s f ans is e) j a at stands d =
        let q = goes j a x y g s at stands ans is in
        subst (λ (t : ℕ). Derived t) (calls_target a f q.goal q.number (subst (λ (m : Aim). AimAt n m q.goal) e q.aims) q.at) (step j q.number q.rule d)
    led_derives _ _ _ _ (Leads.asks x y m g h s f ans is e more) j a at stands d =
        let q = goes j a x y g s at stands ans is in
        let next = asks_target a m h q.goal q.number (subst (λ (k : Aim). AimAt n k q.goal) e q.aims) q.at in
        led_derives (like_node types bares m) node_of.Nothing (like_group types bares h) f more next.number next.ask next.there next.stands (subst (λ (t : ℕ). Derived t) next.target (step j q.number q.rule d))
    led_derives _ _ _ _ (Leads.asks_first x y g h s f ans is e more) j a at stands d =
        let q = goes j a x y g s at stands ans is in
        let next = first_target a y h q.goal q.number stands.given (subst (λ (k : Aim). AimAt n k q.goal) e q.aims) q.at in
        led_derives y node_of.Nothing (like_group types bares h) f more next.number next.ask next.there next.stands (subst (λ (t : ℕ). Derived t) next.target (step j q.number q.rule d))

  -- ---- a function that is derived is led to

  record Tells (a b : Node) (g : Group) (number : ℕ) : Type 0 where
    function : (f : FuncId) → number ≡ function_number f → Led a b g f
    ask : (j : ℕ) (c : Ask) (x y : Node) (h : Group) → number ≡ answer_number j → IsAt asks j c → AskAt c x y h → (f : FuncId) → Led x y h f → Led a b g f

  apart : (k : ℕ) (f : FuncId) → answer_number k ≡ function_number f → ⊥
  apart k f e = omega arith

  same_answer : (j k : ℕ) → answer_number j ≡ answer_number k → j ≡ k
  same_answer j k e = omega arith

  same_number : (a b : ℕ) → a * 2 + 1 ≡ b * 2 + 1 → a ≡ b
  same_number a b e = omega arith

  same_function : (f g : FuncId) → function_number f ≡ function_number g → f ≡ g
  same_function f g e = λ i. record { number = same_number f.number g.number e i }

  same_led : (a b x y : Node) (g h : Group) (f : FuncId) → x ≡ a → y ≡ b → h ≡ g → Led x y h f → Led a b g f
  same_led a b x y g h f i j k d = subst (λ (z : Group). Led a b z f) k (subst (λ (z : Node). Led a z h f) j (subst (λ (z : Node). Led z y h f) i d))

  -- the same ask stands for one thing
  same_ask : (j k : ℕ) (c e : Ask) (a b x y : Node) (g h : Group) (f : FuncId) → j ≡ k → IsAt asks j c → IsAt asks k e → AskAt c x y h → AskAt e a b g → Led x y h f → Led a b g f
  same_ask j k c e a b x y g h f i here there at stands d =
      let same : c ≡ e = one_there asks k c e (subst (λ (m : ℕ). IsAt asks m c) i here) there in
      let now : AskAt e x y h = subst (λ (z : Ask). AskAt z x y h) same at in
      same_led a b x y g h f (one_there n.nodes.keys e.of x a now.operand stands.operand) (one_there n.nodes.keys e.first y b now.given stands.given) (one_there n.groups.keys e.group h g now.group stands.group) d

  tells_goal : (a b : Node) (g : Group) (j t : ℕ) (c : Ask) (s : Standing) (m : Aim) (y : Goal) (q : Good c) → IsAt asks j c → Answers p types bares q.group s → Is q.operand s.value → s.aim ≡ m → AimAt n m y → TargetAt asks y (next_ask nothing c y) t → Tells a b g (answer_number j) → Tells a b g t
  tells_goal a b g j t c s (Calls k) (goal_of.Function l) q at ans is e aims target u = record {
    function = λ f same. u.ask j c q.operand q.given q.group refl at q.at f (Leads.calls q.operand q.given q.group s f ans is (e ∙ ap Calls (aims ∙ same_function l f (sym target ∙ same))));
    ask = λ i o x y h same. absurd (apart i l (sym same ∙ target));
  }
  tells_goal a b g j t c s (Calls k) (goal_of.Group of group) q at ans is e aims target u = absurd aims
  tells_goal a b g j t c s (Calls k) (goal_of.First group) q at ans is e aims target u = absurd aims
  tells_goal a b g j t c s (Asks (Some m) k) (goal_of.Function l) q at ans is e aims target u = absurd aims
  tells_goal a b g j t c s (Asks (Some m) k) (goal_of.First group) q at ans is e aims target u = absurd aims
  tells_goal a b g j t c s (Asks None k) (goal_of.Function l) q at ans is e aims target u = absurd aims
  tells_goal a b g j t c s (Asks None k) (goal_of.Group of group) q at ans is e aims target u = absurd aims
  tells_goal a b g j t c s (Asks (Some m) k) (goal_of.Group of group) q at ans is e aims target u = record {
    function = λ f same. absurd (apart target.0 f (sym target.2 ∙ same));
    ask = λ i o x y h same there stands f d. u.ask j c q.operand q.given q.group refl at q.at f (Leads.asks q.operand q.given m q.group k s f ans is e
        (same_ask i target.0 o (asks_for of nothing group) (like_node types bares m) node_of.Nothing x y (like_group types bares k) h f (same_answer i target.0 (sym same ∙ target.2)) there target.1 stands (record { operand = aims.0; given = empty_at; group = aims.1 }) d));
  }
  tells_goal a b g j t c s (Asks None k) (goal_of.First group) q at ans is e aims target u = record {
    function = λ f same. absurd (apart target.0 f (sym target.2 ∙ same));
    ask = λ i o x y h same there stands f d. u.ask j c q.operand q.given q.group refl at q.at f (Leads.asks_first q.operand q.given q.group k s f ans is e
        (same_ask i target.0 o (asks_for c.first nothing group) q.given node_of.Nothing x y (like_group types bares k) h f (same_answer i target.0 (sym same ∙ target.2)) there target.1 stands (record { operand = q.at.given; given = empty_at; group = aims }) d));
  }

  tells_rule : (a b : Node) (g : Group) (r : Rule) → Has rules r → Tells a b g r.left → Tells a b g r.right → Tells a b g r.then
  tells_rule a b g r h u w =
      let x = answered.only r h in
      let j = x.0 in
      let c = x.1 in
      let q = good j c x.4 in
      let goal = x.5 in
      let s = answers.only c.group goal.0 goal.1 in
      let group : s.0 ≡ q.group = one_there n.groups.keys c.group s.0 q.group s.3 q.at.group in
      let is : Is q.operand s.1.value = are.only c.of goal.0.value q.operand s.1.value goal.2 q.at.operand s.4.value in
      subst (λ (k : ℕ). Tells a b g k) (sym (ap (λ (z : Rule). z.then) x.7))
      (tells_goal a b g j x.3 c s.1 s.1.aim x.2 q x.4 (subst (λ (z : Group). Answers p types bares z s.1) group s.2) is refl (subst (λ (z : Goal). AimAt n s.1.aim z) goal.3 s.4.aim) x.6
      (subst (λ (k : ℕ). Tells a b g k) (ap (λ (z : Rule). z.left) x.7) u))

  derives_led : (x y : Node) (g : Group) (j : ℕ) (a : Ask) (f : FuncId) → IsAt asks j a → AskAt a x y g → Derives (answer_number j ∷ []) rules (function_number f) → Led x y g f
  derives_led x y g j a f at stands d = (derived (answer_number j ∷ []) rules (λ k. Tells x y g k) seeds (tells_rule x y g) (function_number f) d).function f refl
    where
      seeds : (k : ℕ) → Has (answer_number j ∷ []) k → Tells x y g k
      seeds k (inl e) = record {
        function = λ k same. absurd (apart j k (e ∙ same));
        ask = λ i o v w h same there here k led. same_ask i j o a x y v w g h k (same_answer i j (sym same ∙ sym e)) there at here stands led;
      }
      seeds k (inr h) = absurd h

  -- ---- edges

  to_called : (c : Called) (x : Call) (o : Asked) (f : FuncId) → CallAt n c x → AskedAt asks x o → asking.Calls rules o f → CalledBy p types bares Is c f
  to_called (called_of.Fixed g) (call.Fixed h) (asked_of.Fixed k) f at same led = at ∙ (same ∙ led)
  to_called (called_of.Fixed g) (call.Fixed h) (asked_of.Answer k) f at same led = absurd same
  to_called (called_of.Fixed g) (call.Chosen i j l) o f at same led = absurd at
  to_called (called_of.Chosen m first group) (call.Fixed h) o f at same led = absurd at
  to_called (called_of.Chosen m first group) (call.Chosen i j l) (asked_of.Fixed k) f at same led = absurd same
  to_called (called_of.Chosen m first group) (call.Chosen i j l) (asked_of.Answer k) f at same led =
      gives_led p types bares m first group f (derives_led (like_node types bares m) (like_node types bares first) (like_group types bares group) k (asks_for i j l) f same (record { operand = at.0; given = at.1; group = at.2 }) led)

  from_called : (c : Called) (x : Call) (o : Asked) (f : FuncId) → CallAt n c x → AskedAt asks x o → CalledBy p types bares Is c f → asking.Calls rules o f
  from_called (called_of.Fixed g) (call.Fixed h) (asked_of.Fixed k) f at same led = sym same ∙ (sym at ∙ led)
  from_called (called_of.Fixed g) (call.Fixed h) (asked_of.Answer k) f at same led = absurd same
  from_called (called_of.Fixed g) (call.Chosen i j l) o f at same led = absurd at
  from_called (called_of.Chosen m first group) (call.Fixed h) o f at same led = absurd at
  from_called (called_of.Chosen m first group) (call.Chosen i j l) (asked_of.Fixed k) f at same led = absurd same
  from_called (called_of.Chosen m first group) (call.Chosen i j l) (asked_of.Answer k) f at same led =
      led_derives (answer_number k ∷ []) (like_node types bares m) (like_node types bares first) (like_group types bares group) f (leads_given p types bares m first group f led) k (asks_for i j l) same (record { operand = at.0; given = at.1; group = at.2 }) (Derives.seed (answer_number k) (inl refl))

  asked_later : (x : Call) (o : Asked) → AskedAt before x o → AskedAt asks x o
  asked_later (call.Fixed f) (asked_of.Fixed g) h = h
  asked_later (call.Fixed f) (asked_of.Answer k) h = h
  asked_later (call.Chosen i j l) (asked_of.Fixed g) h = h
  asked_later (call.Chosen i j l) (asked_of.Answer k) h = answered.stays k (asks_for i j l) h

  pub is_edge : (e : Edge) → HasEdge questions rules e → IsVtaEdge p types bares e
  is_edge e h =
      let site = asked.only h.question h.stands in
      let r = met.only site.0 site.1 in
      let caller : r.0 ≡ e.caller = sym r.4.caller ∙ (sym site.2.caller ∙ h.caller) in
      let place : r.1 ≡ e.site = sym r.4.at ∙ (sym site.2.at ∙ h.site) in
      record {
        runs = tt;
        callee_of = r.2;
        stands = subst (λ (f : FuncId). Stands p f (mention.Call e.site r.2)) caller (subst (λ (at : Pos). Stands p r.0 (mention.Call at r.2)) place r.3);
        calls = to_called r.2 site.0.call h.question.asked e.callee r.4.call (asked_later site.0.call h.question.asked site.2.asked) h.calls;
      }

  pub has_edge : (e : Edge) → IsVtaEdge p types bares e → HasEdge questions rules e
  has_edge e h =
      let x = met.whole e.caller e.site h.callee_of h.stands in
      let q = asked.whole x.0 x.1 in
      record {
        question = q.0;
        stands = q.1;
        caller = q.2.caller ∙ x.2.caller;
        site = q.2.at ∙ x.2.at;
        calls = from_called h.callee_of x.0.call q.0.asked e.callee x.2.call (asked_later x.0.call q.0.asked q.2.asked) h.calls;
      }
