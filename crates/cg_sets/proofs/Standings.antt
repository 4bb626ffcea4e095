-- What functions, method values and method expressions stand for, by numbers.
use Rattle.std.proofs.Common.{◌≡◌, ◌⊎◌, ℕ, zero, Bool, true, false, List, Option, Some, None, inl, inr, refl, sym, ap, ◌∙◌, subst, eq-eqb, true≢false}
use Rattle.std.specs.Prelude.{◌&&◌, ◌==◌, if◌then◌else◌, slice_get}
use Rattle.std.specs.List.{list_any}
use Rattle.std.proofs.lemmas.Bool.{eqb-true}
use Rattle.go_base.specs.declared.ids.NameId.{NameId}
use Rattle.go_type.specs.Same.{both, each}
use Rattle.go_base.specs.declared.ids.FuncId.{FuncId}
use Rattle.go_base.specs.declared.ids.TypeId.{TypeId}
use Rattle.go_tree.specs.declared.functions.FunctionDecl.{FunctionDecl}
use Rattle.go_tree.specs.declared.program.Program.{Program}
use Rattle.go_type.specs.MethodSets.{IsMethod, name_of}
use Rattle.go_type.specs.Table.{Table}
use Rattle.go_type.specs.declared.methods.MethodEntry.{MethodEntry}
use Rattle.cg_nodes.specs.Kinds.{is_interface}
use Rattle.cg_nodes.specs.declared.nodes.Group.{Group}
use Rattle.cg_nodes.specs.declared.nodes.Group.TheVariants as group_of
use Rattle.cg_nodes.specs.declared.nodes.Mention.TheVariants as mention
use Rattle.cg_nodes.specs.declared.nodes.Node.{Node}
use Rattle.cg_nodes.specs.declared.nodes.Node.TheVariants as node_of
use Rattle.cg_nodes.specs.declared.nodes.Selector.{Selector}
use Rattle.cg_nodes.specs.declared.nodes.Spot.{Spot}
use Rattle.cg_nodes.specs.declared.nodes.Value.{Value}
use Rattle.cg_nodes.specs.declared.nodes.Value.TheVariants as value_of
use Rattle.cg_numbers.specs.Alike.{like_group, like_node, like_selector, like_value, under}
use Rattle.cg_numbers.specs.Numbered.{Extends, IsAt, NodeAt, GroupAt}
use Rattle.cg_numbers.specs.Sites.{Stands}
use Rattle.cg_numbers.specs.declared.likeness.Likeness.{Likeness}
use Rattle.cg_numbers.specs.declared.numbers.Numbers.{Numbers}
use Rattle.cg_numbers.proofs.Collecting.{extends_on}
use Rattle.cg_numbers.proofs.Lists.{at_later}
use Rattle.cg_sets.specs.Answering.{ArePlaced, FirstAt, IsListed, OfThis, goal_base, is_selected, signature_by, signature_of, takes_first}
use Rattle.cg_sets.specs.Candidates.{Standing, OfFunction, OfValue, base_of, first_by, is_in, is_value_form, takes}
use Rattle.cg_sets.specs.Classes.{AimsAt}
use Rattle.cg_sets.specs.Embedding.{Aim, Calls, Asks, Aimed, aim_of, receiver_type}
use Rattle.cg_sets.specs.Numbering.{AimAt, AsksAt, CallsAt, CandidateAt}
use Rattle.cg_sets.specs.declared.aiming.Aiming.{Aiming}
use Rattle.cg_sets.specs.declared.candidates.Candidate.{Candidate}
use Rattle.cg_sets.specs.declared.candidates.Goal.{Goal}
use Rattle.cg_sets.specs.declared.candidates.Goal.TheVariants as goal_of
use Rattle.cg_sets.specs.declared.candidates.Placed.{Placed}
use Rattle.cg_sets.proofs.ClassMethods.{one_method}
use Rattle.cg_sets.proofs.Keys.{has_any}
use Rattle.cg_solve.specs.Lists.{Has}

-- ---- what is alike

module _ (n : Numbers) (k : ℕ) where
  pub nothing_there : IsAt n.nodes.keys k node_of.Nothing → NodeAt n k node_of.Nothing
  unfolding like_node
  nothing_there h = h

  pub operand_there : (at : Spot) → IsAt n.nodes.keys k (node_of.Operand at) → NodeAt n k (node_of.Operand at)
  unfolding like_node
  operand_there at h = h

  pub argument_there : (sig id : TypeId) → sig ≡ under n.likeness.types n.likeness.bares id → IsAt n.nodes.keys k (node_of.Argument (group_of.Signed sig) 0) → NodeAt n k (node_of.Argument (group_of.Signed id) 0)
  unfolding like_node like_group
  argument_there sig id e h = subst (λ (x : TypeId). IsAt n.nodes.keys k (node_of.Argument (group_of.Signed x) 0)) e h

  pub signed_there : (sig id : TypeId) → sig ≡ under n.likeness.types n.likeness.bares id → IsAt n.groups.keys k (group_of.Signed sig) → GroupAt n k (group_of.Signed id)
  unfolding like_group
  signed_there sig id e h = subst (λ (x : TypeId). IsAt n.groups.keys k (group_of.Signed x)) e h

  pub selected_there : (sel s : Selector) → sel ≡ like_selector n.likeness.types n.likeness.bares s → IsAt n.groups.keys k (group_of.Selected sel) → GroupAt n k (group_of.Selected s)
  unfolding like_group
  selected_there sel s e h = subst (λ (x : Selector). IsAt n.groups.keys k (group_of.Selected x)) e h

bound_same : (f g : FuncId) → value_of.Bound f ≡ value_of.Bound g → f ≡ g
bound_same f g h = cc

chosen_same : (a b : Spot) (s t : Selector) (i j : TypeId) → value_of.BoundSelector a s i ≡ value_of.BoundSelector b t j → (a ≡ b) × (s ≡ t) × (i ≡ j)
chosen_same a b s t i j h = (cc, cc, cc)

unbound_same : (s t : Selector) (i j : TypeId) → value_of.Unbound s i ≡ value_of.Unbound t j → (s ≡ t) × (i ≡ j)
unbound_same s t i j h = (cc, cc)

module _ (types : Table) (bares : List TypeId) where
  bound_from : (f : FuncId) (u : Value) → value_of.Bound f ≡ like_value types bares u → value_of.Bound f ≡ u
  unfolding like_value
  bound_from f (value_of.Class id) h = absurd (cc)
  bound_from f (value_of.Function g) h = absurd (cc)
  bound_from f (value_of.Bound g) h = h
  bound_from f (value_of.BoundSelector at s id) h = absurd (cc)
  bound_from f (value_of.Unbound s id) h = absurd (cc)

  abbrev ChosenBy : Spot → Selector → TypeId → Value → Type 0
  ChosenBy at sel sig u = (s : Selector) × (id : TypeId) × (value_of.BoundSelector at s id ≡ u) × (sel ≡ like_selector types bares s) × (sig ≡ under types bares id)

  chosen_from : (at : Spot) (sel : Selector) (sig : TypeId) (u : Value) → value_of.BoundSelector at sel sig ≡ like_value types bares u → ChosenBy at sel sig u
  unfolding like_value
  chosen_from at sel sig (value_of.Class id) h = absurd (cc)
  chosen_from at sel sig (value_of.Function g) h = absurd (cc)
  chosen_from at sel sig (value_of.Bound g) h = absurd (cc)
  chosen_from at sel sig (value_of.BoundSelector b s id) h =
      let e = chosen_same at b sel (like_selector types bares s) sig (under types bares id) h in
      (s, id, ap (λ (x : Spot). value_of.BoundSelector x s id) e.0, e.1, e.2)
  chosen_from at sel sig (value_of.Unbound s id) h = absurd (cc)

  abbrev UnboundBy : Selector → TypeId → Value → Type 0
  UnboundBy sel sig u = (s : Selector) × (id : TypeId) × (value_of.Unbound s id ≡ u) × (sel ≡ like_selector types bares s) × (sig ≡ under types bares id)

  unbound_from : (sel : Selector) (sig : TypeId) (u : Value) → value_of.Unbound sel sig ≡ like_value types bares u → UnboundBy sel sig u
  unfolding like_value
  unbound_from sel sig (value_of.Class id) h = absurd (cc)
  unbound_from sel sig (value_of.Function g) h = absurd (cc)
  unbound_from sel sig (value_of.Bound g) h = absurd (cc)
  unbound_from sel sig (value_of.BoundSelector b s id) h = absurd (cc)
  unbound_from sel sig (value_of.Unbound s id) h = let e = unbound_same sel (like_selector types bares s) sig (under types bares id) h in (s, id, refl, e.0, e.1)

pub placed_like : (p : Program) (n : Numbers) (l : Likeness) (v : Value) (x : Option Placed) → n.likeness ≡ l → (IsListed p n.likeness v → ArePlaced n (OfThis p n.likeness v) x) → IsListed p l v → ArePlaced n (OfThis p l v) x
placed_like p n l v x e h listed = subst (λ (k : Likeness). ArePlaced n (OfThis p k v) x) e (h (subst (λ (k : Likeness). IsListed p k v) (sym e) listed))

-- ---- functions

if_both : {A : Type 0} (x y : A) (a b : Bool) → a ≡ true → b ≡ true → (if a && b then x else y) ≡ x
if_both x y true true h k = refl
if_both x y true false h k = absurd (cc)
if_both x y false b h k = absurd (cc)

both_if : {A : Type 0} (x : A) (id : A) (a b : Bool) → (if a && b then Some x else None) ≡ Some id → (a ≡ true) × (b ≡ true) × (x ≡ id)
both_if x id true true h = (refl, refl, cc)
both_if x id true false h = absurd (cc)
both_if x id false b h = absurd (cc)

signed_by : (p : Program) (f : FuncId) (id : TypeId) (o : Option FunctionDecl) → signature_by p f o ≡ Some id → (d : FunctionDecl) × (o ≡ Some d) × (is_value_form d.form ≡ true) × (is_in p f ≡ true) × (d.signature ≡ id)
signed_by p f id None h = absurd (cc)
signed_by p f id (Some d) h = let r = both_if d.signature id (is_value_form d.form) (is_in p f) h in (d, refl, r.0, r.1, r.2)

signature_there : (p : Program) (f : FuncId) (d : FunctionDecl) → slice_get p.functions f.number ≡ Some d → is_value_form d.form ≡ true → is_in p f ≡ true → signature_of p f ≡ Some d.signature
signature_there p f d e v i = ap (signature_by p f) e ∙ if_both (Some d.signature) None (is_value_form d.form) (is_in p f) v i

pub some_same : {A : Type 0} (x y : A) (o : Option A) → o ≡ Some x → o ≡ Some y → x ≡ y
some_same x y o h k = let e : Some x ≡ Some y = sym h ∙ k in cc

pub none_some : {A : Type 0} (x : A) (o : Option A) → o ≡ None → o ≡ Some x → ⊥
none_some x o h k = let e : None ≡ Some x = sym h ∙ k in cc

abbrev pub of_itself : FuncId → ℕ → ℕ → ℕ → Candidate
of_itself f value base receiver = record { value = value; goal = goal_of.Function f; skip = 0; base = base; receiver = receiver }

function_all : (p : Program) (n : Numbers) (l : Likeness) (f : FuncId) (g : Group) (s : Standing) → OfFunction p l.types l.bares f g s → (id : TypeId) (value receiver group : ℕ) → signature_of p f ≡ Some id
    → IsAt n.values.keys value (value_of.Function f) → IsAt n.nodes.keys receiver node_of.Nothing → IsAt n.groups.keys group (like_group l.types l.bares (group_of.Signed id)) → IsAt n.groups.keys group g × CandidateAt n (of_itself f value 0 receiver) s
function_all p n l _ _ _ (OfFunction.function f d e form there) id value receiver group is v r k =
    let same : id ≡ d.signature = some_same id d.signature (signature_of p f) is (signature_there p f d e form there) in
    (subst (λ (x : TypeId). IsAt n.groups.keys group (like_group l.types l.bares (group_of.Signed x))) same k, record { value = v; aim = refl; skip = refl; base = refl; receiver = nothing_there n receiver r })

pub function_placed : (p : Program) (n : Numbers) (l : Likeness) (f : FuncId) (id : TypeId) (value receiver group : ℕ) → signature_of p f ≡ Some id
    → IsAt n.values.keys value (value_of.Function f) → IsAt n.nodes.keys receiver node_of.Nothing → IsAt n.groups.keys group (like_group l.types l.bares (group_of.Signed id))
    → ArePlaced n (OfFunction p l.types l.bares f) (Some (record { group = group; candidate = of_itself f value 0 receiver }))
function_placed p n l f id value receiver group is v r k =
    let d = signed_by p f id (slice_get p.functions f.number) is in (
      (like_group l.types l.bares (group_of.Signed d.0.signature), record { value = value_of.Function f; aim = Calls f; skip = 0; base = 0; receiver = node_of.Nothing }, OfFunction.function f d.0 d.1 d.2 d.3),
      λ g s h. function_all p n l f g s h id value receiver group is v r k,
    )

function_none : (p : Program) (l : Likeness) (f : FuncId) (g : Group) (s : Standing) → OfFunction p l.types l.bares f g s → signature_of p f ≡ None → ⊥
function_none p l _ _ _ (OfFunction.function f d e form there) is = none_some d.signature (signature_of p f) is (signature_there p f d e form there)

pub function_unplaced : (p : Program) (n : Numbers) (l : Likeness) (f : FuncId) → signature_of p f ≡ None → ArePlaced n (OfFunction p l.types l.bares f) None
function_unplaced p n l f is = λ g s h. function_none p l f g s h is

-- ---- method values of declared methods

module _ (p : Program) (n : Numbers) where
  abbrev types : Table
  types = n.likeness.types

  abbrev bares : List TypeId
  bares = n.likeness.bares

  bound_all : (u : Value) (g : Group) (s : Standing) → OfValue p types bares u g s → (f : FuncId) (d : FunctionDecl) (value receiver group : ℕ) → slice_get p.functions f.number ≡ Some d → value_of.Bound f ≡ u
      → IsAt n.values.keys value (value_of.Bound f) → IsAt n.nodes.keys receiver node_of.Nothing → GroupAt n group (group_of.Signed d.signature) → IsAt n.groups.keys group g × CandidateAt n (of_itself f value 1 receiver) s
  bound_all _ _ _ (OfValue.bound h d' e') f d value receiver group e q v r k =
      let same : f ≡ h = bound_same f h q in
      let decl : d ≡ d' = some_same d d' (slice_get p.functions f.number) e (ap (λ (x : FuncId). slice_get p.functions x.number) same ∙ e') in (
        subst (λ (x : FunctionDecl). IsAt n.groups.keys group (like_group types bares (group_of.Signed x.signature))) decl k,
        record { value = subst (λ (x : FuncId). IsAt n.values.keys value (value_of.Bound x)) same v; aim = sym same; skip = refl; base = refl; receiver = nothing_there n receiver r },
      )
  bound_all _ _ _ (OfValue.chosen at s id) f d value receiver group e q v r k = absurd (cc)
  bound_all _ _ _ (OfValue.of_first s id i) f d value receiver group e q v r k = absurd (cc)
  bound_all _ _ _ (OfValue.unbound s id m a i j x y z) f d value receiver group e q v r k = absurd (cc)

  pub bound_placed : (f : FuncId) (d : FunctionDecl) (value receiver group : ℕ) → slice_get p.functions f.number ≡ Some d
      → IsAt n.values.keys value (value_of.Bound f) → IsAt n.nodes.keys receiver node_of.Nothing → GroupAt n group (group_of.Signed d.signature)
      → IsListed p n.likeness (value_of.Bound f) → ArePlaced n (OfThis p n.likeness (value_of.Bound f)) (Some (record { group = group; candidate = of_itself f value 1 receiver }))
  bound_placed f d value receiver group e v r k listed =
      let standing : Standing = record { value = value_of.Bound f; aim = Calls f; skip = 0; base = 1; receiver = node_of.Nothing } in
      let signed = like_group types bares (group_of.Signed d.signature) in
      let same = bound_from types bares f listed.1 listed.3 in (
        (signed, standing, (listed.0, listed.1, listed.2, listed.3, subst (λ (u : Value). OfValue p types bares u signed standing) same (OfValue.bound f d e))),
        λ g s h. bound_all h.1 g s h.4 f d value receiver group e (bound_from types bares f h.1 h.3) v r k,
      )

  bound_none : (u : Value) (g : Group) (s : Standing) → OfValue p types bares u g s → (f : FuncId) → slice_get p.functions f.number ≡ None → value_of.Bound f ≡ u → ⊥
  bound_none _ _ _ (OfValue.bound h d e) f none q = none_some d (slice_get p.functions f.number) none (ap (λ (x : FuncId). slice_get p.functions x.number) (bound_same f h q) ∙ e)
  bound_none _ _ _ (OfValue.chosen at s id) f none q = cc
  bound_none _ _ _ (OfValue.of_first s id i) f none q = cc
  bound_none _ _ _ (OfValue.unbound s id m a i j x y z) f none q = cc

  pub bound_unplaced : (f : FuncId) → slice_get p.functions f.number ≡ None → ArePlaced n (OfThis p n.likeness (value_of.Bound f)) None
  bound_unplaced f none = λ g s h. bound_none h.1 g s h.4 f none (bound_from types bares f h.1 h.3)

  -- ---- method values of interfaces

  abbrev pub of_operand : ℕ → ℕ → ℕ → ℕ → Candidate
  of_operand value of chosen receiver = record { value = value; goal = goal_of.Group of chosen; skip = 0; base = 0; receiver = receiver }

  chosen_all : (u : Value) (g : Group) (s : Standing) → OfValue p types bares u g s → (at : Spot) (sel : Selector) (sig : TypeId) (value of chosen receiver group : ℕ) → value_of.BoundSelector at sel sig ≡ like_value types bares u → ChosenBy types bares at sel sig u
      → IsAt n.values.keys value (value_of.BoundSelector at sel sig) → IsAt n.nodes.keys of (node_of.Operand at) → IsAt n.groups.keys chosen (group_of.Selected sel) → IsAt n.nodes.keys receiver node_of.Nothing → IsAt n.groups.keys group (group_of.Signed sig)
      → IsAt n.groups.keys group g × CandidateAt n (of_operand value of chosen receiver) s
  chosen_all _ _ _ (OfValue.chosen b t id) at sel sig value of chosen receiver group e by v o c r k =
      let q = chosen_same at b by.0 t by.1 id by.2 in
      let selector : sel ≡ like_selector types bares t = by.3 ∙ ap (like_selector types bares) q.1 in
      let signature : sig ≡ under types bares id = by.4 ∙ ap (under types bares) q.2 in (
        signed_there n group sig id signature k,
        record {
          value = subst (IsAt n.values.keys value) e v;
          aim = (operand_there n of b (subst (λ (x : Spot). IsAt n.nodes.keys of (node_of.Operand x)) q.0 o), selected_there n chosen sel t selector c);
          skip = refl;
          base = refl;
          receiver = nothing_there n receiver r;
        },
      )
  chosen_all _ _ _ (OfValue.bound h d e') at sel sig value of chosen receiver group e by v o c r k = absurd (let q = by.2 in cc)
  chosen_all _ _ _ (OfValue.of_first t id i) at sel sig value of chosen receiver group e by v o c r k = absurd (let q = by.2 in cc)
  chosen_all _ _ _ (OfValue.unbound t id m a i j x y z) at sel sig value of chosen receiver group e by v o c r k = absurd (let q = by.2 in cc)

  pub chosen_placed : (at : Spot) (sel : Selector) (sig : TypeId) (value of chosen receiver group : ℕ)
      → IsAt n.values.keys value (value_of.BoundSelector at sel sig) → IsAt n.nodes.keys of (node_of.Operand at) → IsAt n.groups.keys chosen (group_of.Selected sel) → IsAt n.nodes.keys receiver node_of.Nothing → IsAt n.groups.keys group (group_of.Signed sig)
      → IsListed p n.likeness (value_of.BoundSelector at sel sig) → ArePlaced n (OfThis p n.likeness (value_of.BoundSelector at sel sig)) (Some (record { group = group; candidate = of_operand value of chosen receiver }))
  chosen_placed at sel sig value of chosen receiver group v o c r k listed =
      let by = chosen_from types bares at sel sig listed.1 listed.3 in
      let standing : Standing = record { value = like_value types bares (value_of.BoundSelector at by.0 by.1); aim = Asks (Some (node_of.Operand at)) (group_of.Selected by.0); skip = 0; base = 0; receiver = node_of.Nothing } in
      let signed = like_group types bares (group_of.Signed by.1) in (
        (signed, standing, (listed.0, listed.1, listed.2, listed.3, subst (λ (u : Value). OfValue p types bares u signed standing) by.2 (OfValue.chosen at by.0 by.1))),
        λ g s h. chosen_all h.1 g s h.4 at sel sig value of chosen receiver group h.3 (chosen_from types bares at sel sig h.1 h.3) v o c r k,
      )

  -- ---- method expressions of interfaces

  abbrev pub of_argument : ℕ → ℕ → ℕ → Candidate
  of_argument value chosen receiver = record { value = value; goal = goal_of.First chosen; skip = 1; base = 0; receiver = receiver }

  of_same : (sel s t : Selector) → sel ≡ like_selector types bares s → s ≡ t → sel.of ≡ (like_selector types bares t).of
  of_same sel s t h e = ap (λ (x : Selector). x.of) (h ∙ ap (like_selector types bares) e)

  first_all : (u : Value) (g : Group) (s : Standing) → OfValue p types bares u g s → (sel : Selector) (sig : TypeId) (value chosen receiver group : ℕ) → value_of.Unbound sel sig ≡ like_value types bares u → UnboundBy types bares sel sig u → is_interface types sel.of ≡ true
      → IsAt n.values.keys value (value_of.Unbound sel sig) → IsAt n.groups.keys chosen (group_of.Selected sel) → IsAt n.nodes.keys receiver node_of.Nothing → IsAt n.groups.keys group (group_of.Signed sig)
      → IsAt n.groups.keys group g × CandidateAt n (of_argument value chosen receiver) s
  first_all _ _ _ (OfValue.of_first t id i) sel sig value chosen receiver group e by is v c r k =
      let q = unbound_same by.0 t by.1 id by.2 in (
        signed_there n group sig id (by.4 ∙ ap (under types bares) q.1) k,
        record { value = subst (IsAt n.values.keys value) e v; aim = selected_there n chosen sel t (by.3 ∙ ap (like_selector types bares) q.0) c; skip = refl; base = refl; receiver = nothing_there n receiver r },
      )
  first_all _ _ _ (OfValue.unbound t id m a i j x y z) sel sig value chosen receiver group e by is v c r k =
      let q = unbound_same by.0 t by.1 id by.2 in
      absurd (clash (is_interface types sel.of) is (ap (is_interface types) (of_same sel by.0 t by.3 q.0) ∙ i))
    where
      clash : (b : Bool) → b ≡ true → b ≡ false → ⊥
      clash b h l = cc
  first_all _ _ _ (OfValue.bound h d e') sel sig value chosen receiver group e by is v c r k = absurd (let q = by.2 in cc)
  first_all _ _ _ (OfValue.chosen b t id) sel sig value chosen receiver group e by is v c r k = absurd (let q = by.2 in cc)

  pub first_placed : (sel : Selector) (sig : TypeId) (value chosen receiver group : ℕ) → is_interface types sel.of ≡ true
      → IsAt n.values.keys value (value_of.Unbound sel sig) → IsAt n.groups.keys chosen (group_of.Selected sel) → IsAt n.nodes.keys receiver node_of.Nothing → IsAt n.groups.keys group (group_of.Signed sig)
      → IsListed p n.likeness (value_of.Unbound sel sig) → ArePlaced n (OfThis p n.likeness (value_of.Unbound sel sig)) (Some (record { group = group; candidate = of_argument value chosen receiver }))
  first_placed sel sig value chosen receiver group is v c r k listed =
      let by = unbound_from types bares sel sig listed.1 listed.3 in
      let standing : Standing = record { value = like_value types bares (value_of.Unbound by.0 by.1); aim = Asks None (group_of.Selected by.0); skip = 1; base = 0; receiver = node_of.Nothing } in
      let signed = like_group types bares (group_of.Signed by.1) in
      let kind : is_interface types (like_selector types bares by.0).of ≡ true = ap (is_interface types) (sym (of_same sel by.0 by.0 by.3 refl)) ∙ is in (
        (signed, standing, (listed.0, listed.1, listed.2, listed.3, subst (λ (u : Value). OfValue p types bares u signed standing) by.2 (OfValue.of_first by.0 by.1 kind))),
        λ g s h. first_all h.1 g s h.4 sel sig value chosen receiver group h.3 (unbound_from types bares sel sig h.1 h.3) is v c r k,
      )

  -- ---- method expressions of other types

  abbrev pub of_receiver : ℕ → Aiming → ℕ → Candidate
  of_receiver value x receiver = record { value = value; goal = x.goal; skip = 1; base = goal_base x.goal; receiver = receiver }

  pub base_aim : (a : Aim) (goal : Goal) → AimAt n a goal → goal_base goal ≡ base_of a
  base_aim (Calls f) (goal_of.Function g) h = refl
  base_aim (Calls f) (goal_of.Group node group) h = absurd h
  base_aim (Calls f) (goal_of.First group) h = absurd h
  base_aim (Asks (Some m) g) (goal_of.Function f) h = absurd h
  base_aim (Asks None g) (goal_of.Function f) h = absurd h
  base_aim (Asks m g) (goal_of.Group node group) h = refl
  base_aim (Asks m g) (goal_of.First group) h = refl

  first_or : (sig id : TypeId) (r : Node) (from k : ℕ) → sig ≡ under types bares id → NodeAt n from r → (b : Bool) → FirstAt b n sig from k → NodeAt n k (if b then node_of.Argument (group_of.Signed id) 0 else r)
  first_or sig id r from k e there true h = argument_there n k sig id e h
  first_or sig id r from k e there false h = subst (λ (m : ℕ). NodeAt n m r) (sym h) there

  receiver_at : (class sig id : TypeId) (a : Aim) (goal : Goal) (r : Node) (from k : ℕ) → AimAt n a goal → sig ≡ under types bares id → NodeAt n from r → FirstAt (takes_first p n.likeness class goal) n sig from k → NodeAt n k (first_by p types bares class id a r)
  receiver_at class sig id (Calls f) (goal_of.Function g) r from k at e there first =
      first_or sig id r from k e there (takes p types bares class (receiver_type p.functions f)) (subst (λ (x : FuncId). FirstAt (takes p types bares class (receiver_type p.functions x)) n sig from k) (sym at) first)
  receiver_at class sig id (Calls f) (goal_of.Group node group) r from k at e there first = absurd at
  receiver_at class sig id (Calls f) (goal_of.First group) r from k at e there first = absurd at
  receiver_at class sig id (Asks (Some m) g) (goal_of.Function f) r from k at e there first = absurd at
  receiver_at class sig id (Asks None g) (goal_of.Function f) r from k at e there first = absurd at
  receiver_at class sig id (Asks m g) (goal_of.Group node group) r from k at e there first = subst (λ (x : ℕ). NodeAt n x r) (sym first) there
  receiver_at class sig id (Asks m g) (goal_of.First group) r from k at e there first = subst (λ (x : ℕ). NodeAt n x r) (sym first) there

  module _ (sel : Selector) (sig : TypeId) (entry : MethodEntry) (x : Aiming) (value receiver group : ℕ) (plain : is_interface types sel.of ≡ false) (is : IsMethod types sel.of entry) (named : entry.name ≡ sel.name) (packaged : entry.«package» ≡ sel.«package»)
      (aims : AimsAt p.functions n sel.of entry x) (first : FirstAt (takes_first p n.likeness sel.of x.goal) n sig x.receiver receiver) (v : IsAt n.values.keys value (value_of.Unbound sel sig)) (k : IsAt n.groups.keys group (group_of.Signed sig)) where
    standing_at : (t : Selector) (id : TypeId) (a : Aimed) → sel ≡ like_selector types bares t → sig ≡ under types bares id → value_of.Unbound sel sig ≡ like_value types bares (value_of.Unbound t id) → aims.0 ≡ a
        → CandidateAt n (of_receiver value x receiver) (record { value = like_value types bares (value_of.Unbound t id); aim = a.aim; skip = 1; base = base_of a.aim; receiver = first_by p types bares (like_selector types bares t).of id a.aim a.receiver })
    standing_at t id a s g e same =
        let aim : AimAt n a.aim x.goal = subst (λ (y : Aimed). AimAt n y.aim x.goal) same aims.2 in
        let from : NodeAt n x.receiver a.receiver = subst (λ (y : Aimed). NodeAt n x.receiver y.receiver) same aims.3 in
        record {
          value = subst (IsAt n.values.keys value) e v;
          aim = aim;
          skip = refl;
          base = base_aim a.aim x.goal aim;
          receiver = receiver_at (like_selector types bares t).of sig id a.aim x.goal a.receiver x.receiver receiver aim g from (subst (λ (y : Selector). FirstAt (takes_first p n.likeness y.of x.goal) n sig x.receiver receiver) s first);
        }

    method_same : (t : Selector) (m : MethodEntry) → sel ≡ like_selector types bares t → IsMethod types (like_selector types bares t).of m → m.name ≡ t.name → m.«package» ≡ t.«package» → m ≡ entry
    method_same t m s method name packaging =
        let there : IsMethod types sel.of m = subst (λ (y : Selector). IsMethod types y.of m) (sym s) method in
        let names : m.name ≡ entry.name = name ∙ (sym (ap (λ (y : Selector). y.name) s) ∙ sym named) in
        let packages : m.«package» ≡ entry.«package» = packaging ∙ (sym (ap (λ (y : Selector). y.«package») s) ∙ sym packaged) in
        one_method types sel.of m entry there is (λ i. record { name = names i; «package» = packages i })

    aim_same : (t : Selector) (m : MethodEntry) (a : Aimed) → sel ≡ like_selector types bares t → m ≡ entry → aim_of types p.functions (like_selector types bares t).of m ≡ Some a → aims.0 ≡ a
    aim_same t m a s e h = some_same aims.0 a (aim_of types p.functions sel.of entry) aims.1
        (ap (λ (y : Selector). aim_of types p.functions y.of entry) s ∙ (ap (λ (y : MethodEntry). aim_of types p.functions (like_selector types bares t).of y) (sym e) ∙ h))

    method_all : (u : Value) (g : Group) (s : Standing) → OfValue p types bares u g s → value_of.Unbound sel sig ≡ like_value types bares u → UnboundBy types bares sel sig u → IsAt n.groups.keys group g × CandidateAt n (of_receiver value x receiver) s
    method_all _ _ _ (OfValue.unbound t id m a i method name packaging aim) e by =
        let q = unbound_same by.0 t by.1 id by.2 in
        let selector : sel ≡ like_selector types bares t = by.3 ∙ ap (like_selector types bares) q.0 in
        let signature : sig ≡ under types bares id = by.4 ∙ ap (under types bares) q.1 in
        let same = method_same t m selector method name packaging in
        (signed_there n group sig id signature k, standing_at t id a selector signature e (aim_same t m a selector same aim))
    method_all _ _ _ (OfValue.of_first t id i) e by =
        let q = unbound_same by.0 t by.1 id by.2 in
        absurd (clash (is_interface types sel.of) (ap (is_interface types) (of_same sel by.0 t by.3 q.0) ∙ i) plain)
      where
        clash : (b : Bool) → b ≡ true → b ≡ false → ⊥
        clash b h l = cc
    method_all _ _ _ (OfValue.bound h d e') e by = absurd (let q = by.2 in cc)
    method_all _ _ _ (OfValue.chosen b t id) e by = absurd (let q = by.2 in cc)

    pub method_placed : IsListed p n.likeness (value_of.Unbound sel sig) → ArePlaced n (OfThis p n.likeness (value_of.Unbound sel sig)) (Some (record { group = group; candidate = of_receiver value x receiver }))
    method_placed listed =
        let by = unbound_from types bares sel sig listed.1 listed.3 in
        let t = by.0 in
        let a = aims.0 in
        let of : sel.of ≡ (like_selector types bares t).of = of_same sel t t by.3 refl in
        let standing : Standing = record { value = like_value types bares (value_of.Unbound t by.1); aim = a.aim; skip = 1; base = base_of a.aim; receiver = first_by p types bares (like_selector types bares t).of by.1 a.aim a.receiver } in
        let signed = like_group types bares (group_of.Signed by.1) in
        let stands : OfValue p types bares (value_of.Unbound t by.1) signed standing =
        OfValue.unbound t by.1 entry a (ap (is_interface types) (sym of) ∙ plain) (subst (λ (y : TypeId). IsMethod types y entry) of is) (named ∙ ap (λ (y : Selector). y.name) by.3) (packaged ∙ ap (λ (y : Selector). y.«package») by.3) (ap (λ (y : TypeId). aim_of types p.functions y entry) (sym of) ∙ aims.1)
        in
        ((signed, standing, (listed.0, listed.1, listed.2, listed.3, subst (λ (u : Value). OfValue p types bares u signed standing) by.2 stands)), λ g s h. method_all h.1 g s h.4 h.3 (unbound_from types bares sel sig h.1 h.3))

  -- no method has the name
  method_none : (sel : Selector) (sig : TypeId) → is_interface types sel.of ≡ false → ((e : MethodEntry) → IsMethod types sel.of e → e.name ≡ sel.name → e.«package» ≡ sel.«package» → ⊥) → (u : Value) (g : Group) (s : Standing) → OfValue p types bares u g s → UnboundBy types bares sel sig u → ⊥
  method_none sel sig plain none _ _ _ (OfValue.unbound t id m a i method name packaging aim) by =
      let q = unbound_same by.0 t by.1 id by.2 in
      let selector : sel ≡ like_selector types bares t = by.3 ∙ ap (like_selector types bares) q.0 in
      none m (subst (λ (y : Selector). IsMethod types y.of m) (sym selector) method) (name ∙ sym (ap (λ (y : Selector). y.name) selector)) (packaging ∙ sym (ap (λ (y : Selector). y.«package») selector))
  method_none sel sig plain none _ _ _ (OfValue.of_first t id i) by =
      let q = unbound_same by.0 t by.1 id by.2 in
      clash (is_interface types sel.of) (ap (is_interface types) (of_same sel by.0 t by.3 q.0) ∙ i) plain
    where
      clash : (b : Bool) → b ≡ true → b ≡ false → ⊥
      clash b h l = cc
  method_none sel sig plain none _ _ _ (OfValue.bound h d e') by = (let q = by.2 in cc)
  method_none sel sig plain none _ _ _ (OfValue.chosen b t id) by = (let q = by.2 in cc)

  pub method_unplaced : (sel : Selector) (sig : TypeId) → is_interface types sel.of ≡ false → ((e : MethodEntry) → IsMethod types sel.of e → e.name ≡ sel.name → e.«package» ≡ sel.«package» → ⊥) → ArePlaced n (OfThis p n.likeness (value_of.Unbound sel sig)) None
  method_unplaced sel sig plain none = λ g s h. method_none sel sig plain none h.1 g s h.4 (unbound_from types bares sel sig h.1 h.3)

pub first_later : (p : Program) (a b c : Numbers) → Extends a b → Extends b c → (of : TypeId) (goal : Goal) (sig : TypeId) (from k : ℕ) → FirstAt (takes_first p a.likeness of goal) b sig from k → FirstAt (takes_first p c.likeness of goal) c sig from k
first_later p a b c x y of goal sig from k h = by (takes_first p c.likeness of goal) (subst (λ (l : Likeness). FirstAt (takes_first p l of goal) b sig from k) (sym (extends_on x y).likeness) h)
  where
    by : (t : Bool) → FirstAt t b sig from k → FirstAt t c sig from k
    by true g = at_later b.nodes.keys c.nodes.keys k (node_of.Argument (group_of.Signed sig) 0) y.nodes g
    by false g = g

pub selected_so : (s : Selector) (e : MethodEntry) → is_selected s e ≡ true → (e.name ≡ s.name) × (e.«package» ≡ s.«package»)
selected_so s e h =
    let r = both (e.name.number == s.name.number) (e.«package» == s.«package») h in
    let number : e.name.number ≡ s.name.number = eqb-true e.name.number s.name.number r.0 in
    (λ i. record { number = number i }, eqb-true e.«package» s.«package» r.1)

so_selected : (s : Selector) (e : MethodEntry) → e.name ≡ s.name → e.«package» ≡ s.«package» → is_selected s e ≡ true
so_selected s e h k = each (e.name.number == s.name.number) (e.«package» == s.«package») (eq-eqb e.name.number s.name.number (ap (λ (x : NameId). x.number) h)) (eq-eqb e.«package» s.«package» k)

-- no method of a set has the name
pub none_selected : (types : Table) (s : Selector) (set : List MethodEntry) → ((e : MethodEntry) → IsMethod types s.of e → Has set e) → list_any (is_selected s) set ≡ false → (e : MethodEntry) → IsMethod types s.of e → e.name ≡ s.name → e.«package» ≡ s.«package» → ⊥
none_selected types s set whole none e is named packaged = true≢false (sym (has_any (is_selected s) set e (whole e is) (so_selected s e named packaged)) ∙ none)

-- ---- values of other kinds

pub class_unplaced : (p : Program) (n : Numbers) (l : Likeness) (id : TypeId) → ArePlaced n (OfThis p l (value_of.Class id)) None
unfolding like_value
class_unplaced p n l id = λ g s h. none h.1 g s h.4 h.3
  where
    none : (u : Value) (g : Group) (s : Standing) → OfValue p l.types l.bares u g s → value_of.Class id ≡ like_value l.types l.bares u → ⊥
    none _ _ _ (OfValue.bound h d e) q = cc
    none _ _ _ (OfValue.chosen b t i) q = cc
    none _ _ _ (OfValue.of_first t i k) q = cc
    none _ _ _ (OfValue.unbound t i m a k x y z w) q = cc

pub itself_unplaced : (p : Program) (n : Numbers) (l : Likeness) (f : FuncId) → ArePlaced n (OfThis p l (value_of.Function f)) None
unfolding like_value
itself_unplaced p n l f = λ g s h. none h.1 g s h.4 h.3
  where
    none : (u : Value) (g : Group) (s : Standing) → OfValue p l.types l.bares u g s → value_of.Function f ≡ like_value l.types l.bares u → ⊥
    none _ _ _ (OfValue.bound h d e) q = cc
    none _ _ _ (OfValue.chosen b t i) q = cc
    none _ _ _ (OfValue.of_first t i k) q = cc
    none _ _ _ (OfValue.unbound t i m a k x y z w) q = cc
