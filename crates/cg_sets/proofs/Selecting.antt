-- What classes stand for in the group of a selector.
use Rattle.std.proofs.Common.{◌≡◌, ◌⊎◌, ◌<◌, ◌++◌, ◌&&◌, ℕ, Bool, true, false, List, [], ◌∷◌, Option, Some, None, inl, inr, refl, sym, ap, ◌∙◌, subst, length, flat_map, slice_get, eq-eqb}
use Rattle.std.specs.Prelude.{◌==◌, if◌then◌else◌}
use Rattle.std.specs.List.{Contains, list_any}
use Rattle.std.proofs.lemmas.Bool.{eqb-true}
use Rattle.go_base.specs.declared.ids.NameId.{NameId}
use Rattle.go_base.specs.declared.ids.TypeId.{TypeId}
use Rattle.go_tree.specs.declared.program.Program.{Program}
use Rattle.go_type.specs.MethodSets.{IsMethod}
use Rattle.go_type.specs.Same.{both, each}
use Rattle.go_type.specs.Table.{Table, term_at}
use Rattle.go_type.specs.declared.methods.MethodEntry.{MethodEntry}
use Rattle.go_type.specs.declared.term.MethodType.{MethodType}
use Rattle.go_type.specs.declared.term.TypeTerm.{TypeTerm}
use Rattle.go_type.specs.declared.term.TypeTerm.TheVariants.{Interface}
use Rattle.cg_nodes.specs.declared.nodes.Group.{Group}
use Rattle.cg_nodes.specs.declared.nodes.Group.TheVariants as group_of
use Rattle.cg_nodes.specs.declared.nodes.Selector.{Selector}
use Rattle.cg_nodes.specs.declared.nodes.Value.TheVariants as value_of
use Rattle.cg_numbers.specs.Numbered.{IsAt, IsOnce, NodeAt}
use Rattle.cg_numbers.specs.declared.numbers.Numbers.{Numbers}
use Rattle.cg_numbers.proofs.Lists.{has_at, at_has}
use Rattle.cg_sets.specs.Answering.{OfGroup, Puts, candidate_by, class_candidate, if_so, of_class}
use Rattle.cg_sets.specs.Candidates.{Fits, Implements, IsClass, OfClass, Standing, base_of}
use Rattle.cg_sets.specs.Classes.{AimsAt, AreClasses, MethodAt, key_of, method_at}
use Rattle.cg_sets.specs.Embedding.{Aimed, aim_of}
use Rattle.cg_sets.specs.Implementing.{AreImplementers, is_named, methods_in}
use Rattle.cg_sets.specs.Numbering.{AimAt, CandidateAt}
use Rattle.cg_sets.specs.declared.candidates.Candidate.{Candidate}
use Rattle.cg_sets.specs.declared.classes.ClassMethod.{ClassMethod}
use Rattle.cg_sets.specs.declared.classes.Classes.{Classes}
use Rattle.cg_sets.specs.declared.classes.MethodName.{MethodName}
use Rattle.cg_sets.proofs.ClassMethods.{one_method, name_from_key}
use Rattle.cg_sets.proofs.Implementers.{place_below}
use Rattle.cg_sets.proofs.Keys.{any_has, has_any}
use Rattle.cg_sets.proofs.Standings.{base_aim}
use Rattle.cg_sets.proofs.Putting.{puts_none}
use Rattle.cg_solve.specs.Lists.{Has}
use Rattle.cg_solve.proofs.Members.{Has-left, Has-right, Has-cases, Has-flat_map, from_flat_map, Has-Contains, Contains-Has}

some_same : {A : Type 0} (x y : A) (o : Option A) → o ≡ Some x → o ≡ Some y → x ≡ y
some_same x y o h k = let e : Some x ≡ Some y = sym h ∙ k in cc

named_so : (name : NameId) (of : ℕ) (m : MethodType) → is_named name of m ≡ true → (m.name ≡ name) × (m.«package» ≡ of)
named_so name of m h =
    let r = both (m.name.number == name.number) (m.«package» == of) h in
    let number : m.name.number ≡ name.number = eqb-true m.name.number name.number r.0 in
    (λ i. record { number = number i }, eqb-true m.«package» of r.1)

so_named : (name : NameId) (of : ℕ) (m : MethodType) → m.name ≡ name → m.«package» ≡ of → is_named name of m ≡ true
so_named name of m h k = each (m.name.number == name.number) (m.«package» == of) (eq-eqb m.name.number name.number (ap (λ (x : NameId). x.number) h)) (eq-eqb m.«package» of k)

term_of : (t : Option TypeTerm) (m : MethodType) → Has (methods_in t) m → t ≡ Some (Interface (methods_in t))
term_of (Some (Interface methods)) m h = refl
term_of None m h = absurd h
term_of (Some _) m h = absurd h

candidate_from : (a : Option ℕ) (b : Option ClassMethod) (c : Candidate) → Has (candidate_by b a) c → (v : ℕ) × (x : ClassMethod) × (a ≡ Some v) × (b ≡ Some x) × (of_class v x ≡ c)
candidate_from (Some v) (Some x) c (inl e) = (v, x, refl, refl, e)
candidate_from (Some v) (Some x) c (inr h) = absurd h
candidate_from None (Some x) c h = absurd h
candidate_from a None c h = absurd h

to_candidate : (a : Option ℕ) (b : Option ClassMethod) (v : ℕ) (x : ClassMethod) → a ≡ Some v → b ≡ Some x → Has (candidate_by b a) (of_class v x)
to_candidate a b v x h k = subst (λ (o : Option ClassMethod). Has (candidate_by o a) (of_class v x)) (sym k) (subst (λ (o : Option ℕ). Has (candidate_by (Some x) o) (of_class v x)) (sym h) (inl refl))

in_if_so : (b : Bool) (cs : List Candidate) (c : Candidate) → Has (if_so b cs) c → (b ≡ true) × Has cs c
in_if_so true cs c h = (refl, h)
in_if_so false cs c h = absurd h

so_has : (b : Bool) (cs : List Candidate) (c : Candidate) → b ≡ true → Has cs c → Has (if_so b cs) c
so_has true cs c e h = h
so_has false cs c e h = absurd (cc)

group_same : (s t : Selector) → group_of.Selected s ≡ group_of.Selected t → s ≡ t
group_same s t h = cc

module _ (p : Program) (n : Numbers) (cs : Classes) (classes : AreClasses p n cs) where
  abbrev types : Table
  types = n.likeness.types

  abbrev bares : List TypeId
  bares = n.likeness.bares

  abbrev standing : TypeId → Aimed → Standing
  standing id a = record { value = value_of.Class id; aim = a.aim; skip = 0; base = base_of a.aim; receiver = a.receiver }

  candidate_at : (i : ℕ) (id : TypeId) (e : MethodEntry) (v : ℕ) (x : ClassMethod) (a : Aimed) → IsAt cs.list.types.keys i id → IsAt cs.list.values.items i v → MethodAt p.functions n id e x → aim_of types p.functions id e ≡ Some a → CandidateAt n (of_class v x) (standing id a)
  candidate_at i id e v x a at value stands aim =
      let valued = classes.list.values.valued i id at in
      let number : valued.0 ≡ v = some_same valued.0 v (slice_get cs.list.values.items i) valued.1 value in
      let same : stands.aims.0 ≡ a = some_same stands.aims.0 a (aim_of types p.functions id e) stands.aims.1 aim in
      let goal : AimAt n a.aim x.aiming.goal = subst (λ (y : Aimed). AimAt n y.aim x.aiming.goal) same stands.aims.2 in
      record {
        value = subst (λ (k : ℕ). IsAt n.values.keys k (value_of.Class id)) number valued.2;
        aim = goal;
        skip = refl;
        base = base_aim p n a.aim x.aiming.goal goal;
        receiver = subst (λ (y : Aimed). NodeAt n x.aiming.receiver y.receiver) same stands.aims.3;
      }

  -- a method that fits has the name that is asked for
  key_fits : (name : NameId) (of : ℕ) (m : MethodType) (e : MethodEntry) → m.name ≡ name → m.«package» ≡ of → Fits p types bares m e → key_of e ≡ record { name = name; «package» = of }
  key_fits name of m e h k fits = let a : e.name ≡ name = fits.0 ∙ h in let b : e.«package» ≡ of = fits.1 ∙ k in λ i. record { name = a i; «package» = b i }

  module _ (k : ℕ) (s : Selector) (there : IsAt n.groups.keys k (group_of.Selected s)) where
    abbrev methods : List MethodType
    methods = methods_in (term_at types s.of)

    abbrev key : MethodName
    key = record { name = s.name; «package» = s.«package» }

    -- ---- what stands for a class that implements the interface

    stood : (id : TypeId) (m : MethodType) (e : MethodEntry) (a : Aimed) → Has methods m → m.name ≡ s.name → m.«package» ≡ s.«package» → IsClass p types bares id → Implements p types bares id methods → IsMethod types id e → Fits p types bares m e → aim_of types p.functions id e ≡ Some a
        → OfClass p types bares (group_of.Selected s) (standing id a)
    stood id m e a has name packaged class all is fits aim =
        let same : record { of = s.of; name = m.name; «package» = m.«package» } ≡ s = λ i. record { of = s.of; name = name i; «package» = packaged i } in
        subst (λ (x : Selector). OfClass p types bares (group_of.Selected x) (standing id a)) same (OfClass.class s.of id methods m e a (term_of (term_at types s.of) m has) (Has-Contains methods m has) class all is fits aim)

    abbrev Asked : MethodType → TypeId → MethodEntry → Aimed → Type 0
    Asked m id e a = (m.name ≡ s.name) × (m.«package» ≡ s.«package») × Has methods m × IsClass p types bares id × Implements p types bares id methods × IsMethod types id e × Fits p types bares m e × (aim_of types p.functions id e ≡ Some a)

    -- what is asked for where something stands for a class
    asked : (g : Group) (c : Standing) → OfClass p types bares g c → IsAt n.groups.keys k g → (m : MethodType) × (id : TypeId) × (e : MethodEntry) × (a : Aimed) × Asked m id e a × (standing id a ≡ c)
    asked _ _ (OfClass.class t id ms m e a term has class all is fits aim) at =
        let same : s ≡ record { of = t; name = m.name; «package» = m.«package» } = group_same s (record { of = t; name = m.name; «package» = m.«package» }) (some_same (group_of.Selected s) (group_of.Selected (record { of = t; name = m.name; «package» = m.«package» })) (slice_get n.groups.keys k) there at) in
        let list : methods ≡ ms = ap (λ (x : Selector). methods_in (term_at types x.of)) same ∙ ap methods_in term in (
          m,
          id,
          e,
          a,
          (sym (ap (λ (x : Selector). x.name) same), sym (ap (λ (x : Selector). x.«package») same), subst (λ (l : List MethodType). Has l m) (sym list) (Contains-Has ms m has), class, subst (Implements p types bares id) (sym list) all, is, fits, aim),
          refl,
        )

    at_group : (g : Group) → IsAt n.groups.keys k g → group_of.Selected s ≡ g
    at_group g at = some_same (group_of.Selected s) g (slice_get n.groups.keys k) there at

    -- nothing stands where the interface has no such method
    pub unoffered : (rows : ℕ → List Candidate) → list_any (is_named s.name s.«package») methods ≡ false → Puts n rows rows (OfGroup p n.likeness n.groups.keys k)
    unoffered rows none = puts_none n rows (OfGroup p n.likeness n.groups.keys k) (λ g c h. let r = asked g c h.1 h.0 in clash (list_any (is_named s.name s.«package») methods) (has_any (is_named s.name s.«package») methods r.0 r.4.2 (so_named s.name s.«package» r.0 r.4.0 r.4.1)) none)
      where
        clash : (b : Bool) → b ≡ true → b ≡ false → ⊥
        clash b h l = cc

    placed : (id : TypeId) (e : MethodEntry) → IsClass p types bares id → IsMethod types id e → (i : ℕ) × IsAt cs.list.types.keys i id × (j : ℕ) × (x : ClassMethod) × IsAt cs.names.keys j (key_of e) × (method_at cs i j ≡ Some x) × MethodAt p.functions n id e x
    placed id e class is =
        let i = at_has cs.list.types.keys id (classes.list.whole id class) in
        let r = classes.methods.whole i.0 id e (place_below cs.list.types.keys i.0 id i.1) i.1 is in
        (i.0, i.1, r.0, r.1, r.2, r.3, r.4)

    -- nor where no class has a method of the name
    pub unnamed : (rows : ℕ → List Candidate) → ((j : ℕ) → IsAt cs.names.keys j key → ⊥) → Puts n rows rows (OfGroup p n.likeness n.groups.keys k)
    unnamed rows none = puts_none n rows (OfGroup p n.likeness n.groups.keys k) (λ g c h. (
        let r = asked g c h.1 h.0 in
        let q = placed r.1 r.2 r.4.3 r.4.5 in
        none q.2 (subst (IsAt cs.names.keys q.2) (key_fits s.name s.«package» r.0 r.2 r.4.0 r.4.1 r.4.6) q.4)))

    module _ (once : IsOnce cs.names.keys) (offered : list_any (is_named s.name s.«package») methods ≡ true) (name : ℕ) (named : IsAt cs.names.keys name key) (places : List ℕ) (all : AreImplementers p n cs s.of places) where
      abbrev candidates : List Candidate
      candidates = flat_map (class_candidate cs name) places

      abbrev Stands : Candidate → Type 0
      Stands c = (g : Group) × (t : Standing) × OfGroup p n.likeness n.groups.keys k g t × IsAt n.groups.keys k g × CandidateAt n c t

      stands : (c : Candidate) → Has candidates c → Stands c
      stands c h =
          let i = from_flat_map (class_candidate cs name) places c h in
          let from = candidate_from (slice_get cs.list.values.items i.0) (method_at cs i.0 name) c i.2 in
          let class = all.only i.0 i.1 in
          let found = classes.methods.only i.0 name from.1 from.3 in
          let same : found.0 ≡ class.0 = some_same found.0 class.0 (slice_get cs.list.types.keys i.0) found.2 class.1 in
          let is : IsMethod types class.0 found.1 = subst (λ (t : TypeId). IsMethod types t found.1) same found.3 in
          let at : MethodAt p.functions n class.0 found.1 from.1 = subst (λ (t : TypeId). MethodAt p.functions n t found.1 from.1) same found.5 in
          let m = any_has (is_named s.name s.«package») methods offered in
          let so = named_so s.name s.«package» m.0 m.2 in
          let fit = class.2 m.0 (Has-Contains methods m.0 m.1) in
          let key_same : key_of found.1 ≡ key_of fit.0 = some_same (key_of found.1) key (slice_get cs.names.keys name) found.4 named ∙ sym (key_fits s.name s.«package» m.0 fit.0 so.0 so.1 fit.2) in
          let entry : fit.0 ≡ found.1 = sym (one_method types class.0 found.1 fit.0 is fit.1 (name_from_key found.1 fit.0 key_same)) in
          let fits : Fits p types bares m.0 found.1 = subst (Fits p types bares m.0) entry fit.2 in
          let a = at.aims.0 in
          let of = stood class.0 m.0 found.1 a m.1 so.0 so.1 (classes.list.only class.0 (has_at cs.list.types.keys i.0 class.0 class.1)) class.2 is fits at.aims.1 in
          (group_of.Selected s, standing class.0 a, (there, of), there, subst (λ (x : Candidate). CandidateAt n x (standing class.0 a)) from.4 (candidate_at i.0 class.0 found.1 from.0 from.1 a class.1 from.2 at at.aims.1))

      stand : (g : Group) (t : Standing) → OfGroup p n.likeness n.groups.keys k g t → (c : Candidate) × Has candidates c × CandidateAt n c t
      stand g t h =
          let r = asked g t h.1 h.0 in
          let q = placed r.1 r.2 r.4.3 r.4.5 in
          let j : q.2 ≡ name = once q.2 name key (subst (IsAt cs.names.keys q.2) (key_fits s.name s.«package» r.0 r.2 r.4.0 r.4.1 r.4.6) q.4) named in
          let method : method_at cs q.0 name ≡ Some q.3 = subst (λ (y : ℕ). method_at cs q.0 y ≡ Some q.3) j q.5 in
          let v = classes.list.values.valued q.0 r.1 q.1 in
          let has = all.whole r.0 (Has-Contains methods r.0 r.4.2) q.0 r.1 q.1 r.4.4 in
          let stands : CandidateAt n (of_class v.0 q.3) (standing r.1 r.3) = candidate_at q.0 r.1 r.2 v.0 q.3 r.3 q.1 v.1 q.6 r.4.7 in
          (of_class v.0 q.3, Has-flat_map (class_candidate cs name) places q.0 (of_class v.0 q.3) has (to_candidate (slice_get cs.list.values.items q.0) (method_at cs q.0 name) v.0 q.3 v.1 method), subst (CandidateAt n (of_class v.0 q.3)) r.5 stands)

      pub selected : (old new : ℕ → List Candidate) → ((j : ℕ) → new j ≡ old j ++ if_so (k == j) candidates) → Puts n old new (OfGroup p n.likeness n.groups.keys k)
      selected old new put = record {
        kept = λ j c h. subst (λ (l : List Candidate). Has l c) (sym (put j)) (Has-left (old j) (if_so (k == j) candidates) c h);
        only = λ j c h. elim (Has-cases (old j) (if_so (k == j) candidates) c (subst (λ (l : List Candidate). Has l c) (put j) h)) [
          | inl i ↦ inl i
          | inr i ↦ (
              let so = in_if_so (k == j) candidates c i in
              let r = stands c so.1 in
              inr (r.0, r.1, r.2, subst (λ (x : ℕ). IsAt n.groups.keys x r.0) (eqb-true k j so.0) r.3, r.4))
        ];
        whole = λ g t h. (
            let r = stand g t h in
            (k, r.0, h.0, subst (λ (l : List Candidate). Has l r.0) (sym (put k)) (Has-right (old k) (if_so (k == k) candidates) r.0 (so_has (k == k) candidates r.0 (eq-eqb k k refl) r.1)), r.2));
      }

-- no method is selected
pub not_selected : (p : Program) (n : Numbers) (k : ℕ) (rows : ℕ → List Candidate) → ((s : Selector) → IsAt n.groups.keys k (group_of.Selected s) → ⊥) → Puts n rows rows (OfGroup p n.likeness n.groups.keys k)
not_selected p n k rows none = puts_none n rows (OfGroup p n.likeness n.groups.keys k) (λ g c h. by g c h.1 h.0)
  where
    by : (g : Group) (c : Standing) → OfClass p n.likeness.types n.likeness.bares g c → IsAt n.groups.keys k g → ⊥
    by _ _ (OfClass.class t id ms m e a term has class all is fits aim) at = none (record { of = t; name = m.name; «package» = m.«package» }) at
