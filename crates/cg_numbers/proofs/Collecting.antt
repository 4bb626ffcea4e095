-- What was met, one after another.
use Rattle.std.proofs.Common.{◌≡◌, ◌⊎◌, ◌<◌, ℕ, zero, suc, List, [], ◌∷◌, ◌++◌, inl, inr, refl, sym, ap, ◌∙◌, subst, map, length, take, get_or, append_assoc, Option, None, Some, slice_get, arith, ◌+◌, add-one}
use Rattle.go_base.specs.declared.ids.FuncId.{FuncId}
use Rattle.go_base.specs.declared.place.Pos.{Pos}
use Rattle.go_tree.specs.declared.functions.FunctionDecl.{FunctionDecl}
use Rattle.go_tree.specs.declared.program.Program.{Program}
use Rattle.cg_nodes.specs.declared.nodes.Called.{Called}
use Rattle.cg_nodes.specs.declared.nodes.Called.TheVariants as called
use Rattle.cg_nodes.specs.declared.nodes.Group.{Group}
use Rattle.cg_nodes.specs.declared.nodes.Mention.{Mention}
use Rattle.cg_nodes.specs.declared.nodes.Mention.TheVariants as mention
use Rattle.cg_nodes.specs.declared.nodes.Node.{Node}
use Rattle.cg_nodes.specs.declared.nodes.Node.TheVariants as node_of
use Rattle.cg_nodes.specs.declared.nodes.Value.{Value}
use Rattle.cg_numbers.specs.declared.likeness.Likeness.{Likeness}
use Rattle.cg_numbers.specs.declared.numbers.Numbers.{Numbers}
use Rattle.cg_numbers.specs.declared.sites.Call.{Call}
use Rattle.cg_numbers.specs.declared.sites.Call.TheVariants as call
use Rattle.cg_numbers.specs.declared.sites.Flow.{Flow}
use Rattle.cg_numbers.specs.declared.sites.Seed.{Seed}
use Rattle.cg_numbers.specs.declared.sites.Site.{Site}
use Rattle.cg_numbers.specs.declared.sites.Sites.{Sites}
use Rattle.cg_numbers.specs.Alike.{like_node, like_value, like_group}
use Rattle.cg_numbers.specs.Numbered.{IsAt, NodeAt, ValueAt, GroupAt, GrowsBy, Extends}
use Rattle.cg_numbers.specs.Sites.{CallAt, SiteAt, SeedAt, FlowAt, Keeps, Collects, Stands, Met, met_in, Among, met_of, all_met, Puts, IsMade, Adds}
use Rattle.cg_numbers.proofs.Lists.{continues_self, continues_on, at_later, grown_cases}
use Rattle.type_bare.proofs.Terms.{map_next}
use Rattle.cg_solve.specs.Lists.{Has, each_below}
use Rattle.cg_solve.proofs.Members.{Has-left, Has-right, Has-cases, Has-below, from_below, Has-map, from_map, Has-Contains, Contains-Has}
use Rattle.cg_uses.specs.Bodies.{uses, declared_uses}
use Rattle.cg_uses.specs.Statements.{uses_in_some}

-- ---- numbers that stay

pub extends_self : (n : Numbers) → Extends n n
extends_self n = record { likeness = refl; nodes = continues_self n.nodes.keys; values = continues_self n.values.keys; groups = continues_self n.groups.keys }

pub extends_on : {a b c : Numbers} → Extends a b → Extends b c → Extends a c
extends_on {a} {b} {c} h k = record {
  likeness = k.likeness ∙ h.likeness;
  nodes = continues_on a.nodes.keys b.nodes.keys c.nodes.keys h.nodes k.nodes;
  values = continues_on a.values.keys b.values.keys c.values.keys h.values k.values;
  groups = continues_on a.groups.keys b.groups.keys c.groups.keys h.groups k.groups;
}

module _ (old new : Numbers) (e : Extends old new) where
  pub node_later : (k : ℕ) (x : Node) → NodeAt old k x → NodeAt new k x
  node_later k x h = subst (λ (l : Likeness). IsAt new.nodes.keys k (like_node l.types l.bares x)) (sym e.likeness) (at_later old.nodes.keys new.nodes.keys k (like_node old.likeness.types old.likeness.bares x) e.nodes h)

  pub value_later : (k : ℕ) (x : Value) → ValueAt old k x → ValueAt new k x
  value_later k x h = subst (λ (l : Likeness). IsAt new.values.keys k (like_value l.types l.bares x)) (sym e.likeness) (at_later old.values.keys new.values.keys k (like_value old.likeness.types old.likeness.bares x) e.values h)

  pub group_later : (k : ℕ) (x : Group) → GroupAt old k x → GroupAt new k x
  group_later k x h = subst (λ (l : Likeness). IsAt new.groups.keys k (like_group l.types l.bares x)) (sym e.likeness) (at_later old.groups.keys new.groups.keys k (like_group old.likeness.types old.likeness.bares x) e.groups h)

  pub call_later : (c : Called) (x : Call) → CallAt old c x → CallAt new c x
  call_later (called.Fixed f) (call.Fixed g) h = h
  call_later (called.Fixed f) (call.Chosen i j k) h = h
  call_later (called.Chosen of first group) (call.Fixed g) h = h
  call_later (called.Chosen of first group) (call.Chosen i j k) h = (node_later i of h.0, node_later j first h.1, group_later k group h.2)

  pub site_later : (x : Site) (f : FuncId) (at : Pos) (c : Called) → SiteAt old x f at c → SiteAt new x f at c
  site_later x f at c h = record { caller = h.caller; at = h.at; call = call_later c x.call h.call }

  pub seed_later : (x : Seed) (f : FuncId) (v : Value) → SeedAt old x f v → SeedAt new x f v
  seed_later x f v h = record { function = h.function; value = value_later x.value v h.value; node = node_later x.node _ h.node }

  pub flow_later : (x : Flow) (from to : Node) → FlowAt old x from to → FlowAt new x from to
  flow_later x from to h = record { source = node_later x.from from h.source; target = node_later x.to to h.target }

-- ---- one more

module _ (old new : Sites) where
  abbrev More : Type 0
  More = ((x : Site) → Has old.sites.items x → Has new.sites.items x) × ((x : Seed) → Has old.seeds.items x → Has new.seeds.items x) × ((x : Flow) → Has old.flows.items x → Has new.flows.items x)

  grown : {A : Type 0} (xs ys : List A) (x y : A) → ys ≡ xs ++ y ∷ [] → Has xs x → Has ys x
  grown {A = A} xs ys x y e h = subst (λ (l : List A). Has l x) (sym e) (Has-left xs (y ∷ []) x h)

  stayed : {A : Type 0} (xs ys : List A) (x : A) → ys ≡ xs → Has xs x → Has ys x
  stayed {A = A} xs ys x e h = subst (λ (l : List A). Has l x) (sym e) h

  more : (f : FuncId) (m : Mention) → Puts old new f m → More
  more f (mention.Seed v) p = (λ x. stayed old.sites.items new.sites.items x p.3, λ x. grown old.seeds.items new.seeds.items x p.0 p.2, λ x. stayed old.flows.items new.flows.items x p.4)
  more f (mention.Flow from to) p = (λ x. stayed old.sites.items new.sites.items x p.3, λ x. stayed old.seeds.items new.seeds.items x p.4, λ x. grown old.flows.items new.flows.items x p.0 p.2)
  more f (mention.Call at c) p = (λ x. grown old.sites.items new.sites.items x p.0 p.2, λ x. stayed old.seeds.items new.seeds.items x p.3, λ x. stayed old.flows.items new.flows.items x p.4)

  keeps_later : Extends old.numbers new.numbers → More → (f : FuncId) (m : Mention) → Keeps old f m → Keeps new f m
  keeps_later e h f (mention.Seed v) k = (k.0, h.1 k.0 k.1, seed_later old.numbers new.numbers e k.0 f v k.2)
  keeps_later e h f (mention.Flow from to) k = (k.0, h.2 k.0 k.1, flow_later old.numbers new.numbers e k.0 from to k.2)
  keeps_later e h f (mention.Call at c) k = (k.0, h.0 k.0 k.1, site_later old.numbers new.numbers e k.0 f at c k.2)

  last : {A : Type 0} (xs ys : List A) (y : A) → ys ≡ xs ++ y ∷ [] → Has ys y
  last {A = A} xs ys y e = subst (λ (l : List A). Has l y) (sym e) (Has-right xs (y ∷ []) y (inl refl))

  keeps_new : (f : FuncId) (m : Mention) → Puts old new f m → Keeps new f m
  keeps_new f (mention.Seed v) p = (p.0, last old.seeds.items new.seeds.items p.0 p.2, p.1)
  keeps_new f (mention.Flow from to) p = (p.0, last old.flows.items new.flows.items p.0 p.2, p.1)
  keeps_new f (mention.Call at c) p = (p.0, last old.sites.items new.sites.items p.0 p.2, p.1)

  of_grown : {A : Type 0} (xs ys : List A) (x y : A) → ys ≡ xs ++ y ∷ [] → Has ys x → Has xs x ⊎ (y ≡ x)
  of_grown {A = A} xs ys x y e h = elim (Has-cases xs (y ∷ []) x (subst (λ (l : List A). Has l x) e h)) [ inl g ↦ inl g | inr (inl i) ↦ inr i | inr (inr g) ↦ absurd g ]

  of_stayed : {A : Type 0} (xs ys : List A) (x : A) → ys ≡ xs → Has ys x → Has xs x
  of_stayed {A = A} xs ys x e h = subst (λ (l : List A). Has l x) e h

  -- what stands for which mention
  abbrev SiteOf : (FuncId → Mention → Type 0) → Numbers → Site → Type 0
  SiteOf P n x = (f : FuncId) × (at : Pos) × (c : Called) × P f (mention.Call at c) × SiteAt n x f at c

  abbrev SeedOf : (FuncId → Mention → Type 0) → Numbers → Seed → Type 0
  SeedOf P n x = (f : FuncId) × (v : Value) × P f (mention.Seed v) × SeedAt n x f v

  abbrev FlowOf : (FuncId → Mention → Type 0) → Numbers → Flow → Type 0
  FlowOf P n x = (f : FuncId) × (from : Node) × (to : Node) × P f (mention.Flow from to) × FlowAt n x from to

  site_from : (f : FuncId) (m : Mention) (x : Site) → Puts old new f m → Has new.sites.items x → Has old.sites.items x ⊎ ((at : Pos) × (c : Called) × (m ≡ mention.Call at c) × SiteAt new.numbers x f at c)
  site_from f (mention.Seed v) x p h = inl (of_stayed old.sites.items new.sites.items x p.3 h)
  site_from f (mention.Flow from to) x p h = inl (of_stayed old.sites.items new.sites.items x p.3 h)
  site_from f (mention.Call at c) x p h = elim (of_grown old.sites.items new.sites.items x p.0 p.2 h) [ inl g ↦ inl g | inr e ↦ inr (at, c, refl, subst (λ (y : Site). SiteAt new.numbers y f at c) e p.1) ]

  seed_from : (f : FuncId) (m : Mention) (x : Seed) → Puts old new f m → Has new.seeds.items x → Has old.seeds.items x ⊎ ((v : Value) × (m ≡ mention.Seed v) × SeedAt new.numbers x f v)
  seed_from f (mention.Seed v) x p h = elim (of_grown old.seeds.items new.seeds.items x p.0 p.2 h) [ inl g ↦ inl g | inr e ↦ inr (v, refl, subst (λ (y : Seed). SeedAt new.numbers y f v) e p.1) ]
  seed_from f (mention.Flow from to) x p h = inl (of_stayed old.seeds.items new.seeds.items x p.4 h)
  seed_from f (mention.Call at c) x p h = inl (of_stayed old.seeds.items new.seeds.items x p.3 h)

  flow_from : (f : FuncId) (m : Mention) (x : Flow) → Puts old new f m → Has new.flows.items x → Has old.flows.items x ⊎ ((from : Node) × (to : Node) × (m ≡ mention.Flow from to) × FlowAt new.numbers x from to)
  flow_from f (mention.Seed v) x p h = inl (of_stayed old.flows.items new.flows.items x p.4 h)
  flow_from f (mention.Flow from to) x p h = elim (of_grown old.flows.items new.flows.items x p.0 p.2 h) [ inl g ↦ inl g | inr e ↦ inr (from, to, refl, subst (λ (y : Flow). FlowAt new.numbers y from to) e p.1) ]
  flow_from f (mention.Call at c) x p h = inl (of_stayed old.flows.items new.flows.items x p.4 h)

  made_from : (n : Numbers) (m : Mention) (v : Value) → IsMade n m v → (u : Value) × (m ≡ mention.Seed u) × (v ≡ like_value n.likeness.types n.likeness.bares u)
  made_from n (mention.Seed u) v h = (u, refl, h)
  made_from n (mention.Flow from to) v h = absurd h
  made_from n (mention.Call at c) v h = absurd h

  module _ (met : List Met) (f : FuncId) (m : Mention) (adds : Adds old new f m) (all : Collects (Among met) old) where
    abbrev after : List Met
    after = met ++ met_in f m ∷ []

    earlier : (g : FuncId) (k : Mention) → Among met g k → Among after g k
    earlier g k h = Has-left met (met_in f m ∷ []) (met_in g k) h

    now : (k : Mention) → m ≡ k → Among after f k
    now k e = Has-right met (met_in f m ∷ []) (met_in f k) (inl (ap (met_in f) e))

    like_same : (u : Value) → like_value old.numbers.likeness.types old.numbers.likeness.bares u ≡ like_value new.numbers.likeness.types new.numbers.likeness.bares u
    like_same u = ap (λ (l : Likeness). like_value l.types l.bares u) (sym adds.extends.likeness)

    pub collects_more : Collects (Among after) new
    collects_more = record {
      whole = λ g k h. elim (Has-cases met (met_in f m ∷ []) (met_in g k) h) [
        | inl i ↦ keeps_later adds.extends (more f m adds.puts) g k (all.whole g k i)
        | inr (inl e) ↦ subst (λ (x : Met). Keeps new x.function x.mention) e (keeps_new f m adds.puts)
        | inr (inr i) ↦ absurd i
      ];
      sites = λ x h. elim (site_from f m x adds.puts h) [
        | inl i ↦ (let r = all.sites x i in (r.0, r.1, r.2, earlier r.0 (mention.Call r.1 r.2) r.3, site_later old.numbers new.numbers adds.extends x r.0 r.1 r.2 r.4))
        | inr r ↦ (f, r.0, r.1, now (mention.Call r.0 r.1) r.2, r.3)
      ];
      seeds = λ x h. elim (seed_from f m x adds.puts h) [
        | inl i ↦ (let r = all.seeds x i in (r.0, r.1, earlier r.0 (mention.Seed r.1) r.2, seed_later old.numbers new.numbers adds.extends x r.0 r.1 r.3))
        | inr r ↦ (f, r.0, now (mention.Seed r.0) r.1, r.2)
      ];
      flows = λ x h. elim (flow_from f m x adds.puts h) [
        | inl i ↦ (let r = all.flows x i in (r.0, r.1, r.2, earlier r.0 (mention.Flow r.1 r.2) r.3, flow_later old.numbers new.numbers adds.extends x r.1 r.2 r.4))
        | inr r ↦ (f, r.0, r.1, now (mention.Flow r.0 r.1) r.2, r.3)
      ];
      values = λ v h. elim (adds.values v h) [
        | inl i ↦ (let r = all.values v i in (r.0, r.1, earlier r.0 (mention.Seed r.1) r.2, r.3 ∙ like_same r.1))
        | inr i ↦ (let r = made_from old.numbers m v i in (f, r.0, now (mention.Seed r.0) r.1, r.2 ∙ like_same r.0))
      ];
    }

-- ---- all

pub collects_as : (P Q : FuncId → Mention → Type 0) (s : Sites) → ((f : FuncId) (m : Mention) → P f m → Q f m) → ((f : FuncId) (m : Mention) → Q f m → P f m) → Collects P s → Collects Q s
collects_as P Q s to from all = record {
  whole = λ f m h. all.whole f m (from f m h);
  sites = λ x h. let r = all.sites x h in (r.0, r.1, r.2, to r.0 (mention.Call r.1 r.2) r.3, r.4);
  seeds = λ x h. let r = all.seeds x h in (r.0, r.1, to r.0 (mention.Seed r.1) r.2, r.3);
  flows = λ x h. let r = all.flows x h in (r.0, r.1, r.2, to r.0 (mention.Flow r.1 r.2) r.3, r.4);
  values = λ v h. let r = all.values v h in (r.0, r.1, to r.0 (mention.Seed r.1) r.2, r.3);
}

pub collects_none : (s : Sites) → s.sites.items ≡ [] → s.seeds.items ≡ [] → s.flows.items ≡ [] → s.numbers.values.keys ≡ [] → Collects (Among []) s
collects_none s a b c d = record {
  whole = λ f m h. absurd h;
  sites = λ x h. absurd (subst (λ (l : List Site). Has l x) a h);
  seeds = λ x h. absurd (subst (λ (l : List Seed). Has l x) b h);
  flows = λ x h. absurd (subst (λ (l : List Flow). Has l x) c h);
  values = λ v h. absurd (subst (λ (l : List Value). Has l v) d h);
}

place_below : {A : Type 0} (xs : List A) (n : ℕ) (x : A) → IsAt xs n x → n < length xs
place_below [] n x h = absurd (no_place h)
  where
    no_place : {A : Type 0} {x : A} → ◌≡◌ {A = _} None (Some x) → ⊥
    no_place h = cc
place_below (y ∷ xs) zero x h = omega arith
place_below (y ∷ xs) (suc n) x h = let l = place_below xs n x h in omega arith

-- nothing stands in a function that there is not
used_below : (p : Program) (f : FuncId) (m : Mention) → Has (uses p f) m → f.number < length p.functions
unfolding uses
used_below p f m h = by (slice_get p.functions f.number) refl h
  where
    by : (d : Option FunctionDecl) → slice_get p.functions f.number ≡ d → Has (uses_in_some (declared_uses p f) d) m → f.number < length p.functions
    by None e k = absurd k
    by (Some d) e k = place_below p.functions f.number d e

module _ (p : Program) where
  pub met_stands : (f : FuncId) (m : Mention) → Among (all_met p) f m → Stands p f m
  met_stands f m h =
      let r = from_below (met_of p) (length p.functions) (met_in f m) h in
      let q = from_map (met_in (record { number = r.0 })) (uses p (record { number = r.0 })) (met_in f m) r.2 in
      Has-Contains (uses p f) m (subst (λ (x : Met). Has (uses p x.function) x.mention) q.2 q.1)

  pub stands_met : (f : FuncId) (m : Mention) → Stands p f m → Among (all_met p) f m
  stands_met f m h =
      let k = Contains-Has (uses p f) m h in
      Has-below (met_of p) (length p.functions) f.number (met_in f m) (used_below p f m k) (Has-map (met_in f) (uses p f) m k)

-- ---- what was put down

module _ (old new : Numbers) (e : Extends old new) where
  pub node_put : (k : ℕ) (x : Node) → IsAt new.nodes.keys k (like_node old.likeness.types old.likeness.bares x) → NodeAt new k x
  node_put k x h = subst (λ (l : Likeness). IsAt new.nodes.keys k (like_node l.types l.bares x)) (sym e.likeness) h

  pub value_put : (k : ℕ) (x : Value) → IsAt new.values.keys k (like_value old.likeness.types old.likeness.bares x) → ValueAt new k x
  value_put k x h = subst (λ (l : Likeness). IsAt new.values.keys k (like_value l.types l.bares x)) (sym e.likeness) h

  pub group_put : (k : ℕ) (x : Group) → IsAt new.groups.keys k (like_group old.likeness.types old.likeness.bares x) → GroupAt new k x
  group_put k x h = subst (λ (l : Likeness). IsAt new.groups.keys k (like_group l.types l.bares x)) (sym e.likeness) h

same_values : (n m : Numbers) (v : Value) → n.values ≡ m.values → Has n.values.keys v → Has m.values.keys v
same_values n m v e h = subst (λ s. Has s.keys v) e h

module _ (old new : Sites) (mid : Numbers) (first : Extends old.numbers mid) (kept : mid.values ≡ old.numbers.values) (second : Extends mid new.numbers) where
  both : Extends old.numbers new.numbers
  both = extends_on first second

  pub adds_seed : (f : FuncId) (v : Value) (node number : ℕ) → IsAt mid.nodes.keys node (like_node old.numbers.likeness.types old.numbers.likeness.bares (node_of.Made v))
      → IsAt new.numbers.values.keys number (like_value mid.likeness.types mid.likeness.bares v) → GrowsBy mid.values.keys new.numbers.values.keys (like_value mid.likeness.types mid.likeness.bares v)
      → new.seeds.items ≡ old.seeds.items ++ record { function = f; value = number; node = node } ∷ [] → new.sites.items ≡ old.sites.items → new.flows.items ≡ old.flows.items → Adds old new f (mention.Seed v)
  adds_seed f v node number h k g seeds sites flows = record {
    extends = both;
    puts = (record { function = f; value = number; node = node }, record { function = refl; value = value_put mid new.numbers second number v k; node = node_later mid new.numbers second node (node_of.Made v) (node_put old.numbers mid first node (node_of.Made v) h) }, seeds, sites, flows);
    values = λ u there. elim (grown_cases mid.values.keys new.numbers.values.keys (like_value mid.likeness.types mid.likeness.bares v) u g there) [
      | inl i ↦ inl (same_values mid old.numbers u kept i)
      | inr e ↦ inr (e ∙ ap (λ (l : Likeness). like_value l.types l.bares v) first.likeness)
    ];
  }

  pub adds_flow : (from to : Node) (i j : ℕ) → new.numbers.values ≡ mid.values → IsAt mid.nodes.keys i (like_node old.numbers.likeness.types old.numbers.likeness.bares from) → IsAt new.numbers.nodes.keys j (like_node mid.likeness.types mid.likeness.bares to)
      → new.flows.items ≡ old.flows.items ++ record { from = i; to = j } ∷ [] → new.sites.items ≡ old.sites.items → new.seeds.items ≡ old.seeds.items → (f : FuncId) → Adds old new f (mention.Flow from to)
  adds_flow from to i j same h k flows sites seeds f = record {
    extends = both;
    puts = (record { from = i; to = j }, record { source = node_later mid new.numbers second i from (node_put old.numbers mid first i from h); target = node_put mid new.numbers second j to k }, flows, sites, seeds);
    values = λ u there. inl (same_values mid old.numbers u kept (same_values new.numbers mid u same there));
  }

pub adds_call : (old new : Sites) (f : FuncId) (at : Pos) (c : Called) (x : Call) → Extends old.numbers new.numbers → new.numbers.values ≡ old.numbers.values → CallAt new.numbers c x
    → new.sites.items ≡ old.sites.items ++ record { caller = f; at = at; call = x } ∷ [] → new.seeds.items ≡ old.seeds.items → new.flows.items ≡ old.flows.items → Adds old new f (mention.Call at c)
adds_call old new f at c x e same h sites seeds flows = record {
  extends = e;
  puts = (record { caller = f; at = at; call = x }, record { caller = refl; at = refl; call = h }, sites, seeds, flows);
  values = λ u there. inl (same_values new.numbers old.numbers u same there);
}

pub chosen_at : (a b c d : Numbers) (of first : Node) (group : Group) (i j k : ℕ) → Extends a b → Extends b c → Extends c d → IsAt b.nodes.keys i (like_node a.likeness.types a.likeness.bares of) → IsAt c.nodes.keys j (like_node b.likeness.types b.likeness.bares first)
    → IsAt d.groups.keys k (like_group c.likeness.types c.likeness.bares group) → CallAt d (called.Chosen of first group) (call.Chosen i j k)
chosen_at a b c d of first group i j k x y z p q r = (node_later b d (extends_on y z) i of (node_put a b x i of p), node_later c d z j first (node_put b c y j first q), group_put c d z k group r)

pub map_push : (f : FuncId) (met : List Met) (ms : List Mention) (i : ℕ) (d : Mention) → i < length ms → (met ++ map (met_in f) (take i ms)) ++ met_in f (get_or ms i d) ∷ [] ≡ met ++ map (met_in f) (take (i + 1) ms)
map_push f met ms i d there = append_assoc met (map (met_in f) (take i ms)) (met_in f (get_or ms i d) ∷ []) ∙ ap (λ (l : List Met). met ++ l) (sym (map_next (met_in f) ms i d there))

-- what stands in the next function
pub next_met : (p : Program) (n : ℕ) (ms : List Mention) → ms ≡ uses p (record { number = n }) → each_below (met_of p) n ++ map (met_in (record { number = n })) ms ≡ each_below (met_of p) (n + 1)
next_met p n ms e = rw add-one (ap (λ (l : List Mention). each_below (met_of p) n ++ map (met_in (record { number = n })) l) e)
