-- The methods of classes, one after another.
use Rattle.std.proofs.Common.{◌≡◌, ◌⊎◌, ◌<◌, ◌≤◌, ◌+◌, ◌++◌, take, get_or, ℕ, zero, suc, Bool, true, false, List, [], ◌∷◌, Option, Some, None, Ok, inl, inr, refl, sym, ap, ◌∙◌, subst, length, arith, if◌then◌else◌}
use Rattle.std.specs.Prelude.{◌==◌}
use Rattle.std.proofs.lemmas.Bool.{cases_lt}
use Rattle.std.proofs.lemmas.Grind.{take_at_read}
use Rattle.go_base.specs.declared.ids.TypeId.{TypeId}
use Rattle.go_tree.specs.declared.functions.FunctionDecl.{FunctionDecl}
use Rattle.go_tree.specs.declared.program.Program.{Program}
use Rattle.go_type.specs.MethodSets.{IsMethod, name_of, entry_of}
use Rattle.go_type.specs.Selector.{Finds, selected_at}
use Rattle.go_type.specs.Table.{Table}
use Rattle.go_type.specs.declared.members.Member.{Member}
use Rattle.go_type.specs.declared.members.Wanted.{Wanted}
use Rattle.go_type.specs.declared.methods.MethodEntry.{MethodEntry}
use Rattle.cg_nodes.specs.declared.nodes.Group.{Group}
use Rattle.cg_nodes.specs.declared.nodes.Node.{Node}
use Rattle.cg_numbers.specs.Alike.{bare}
use Rattle.cg_numbers.specs.Numbered.{IsAt, Extends, NodeAt}
use Rattle.cg_numbers.specs.declared.likeness.Likeness.{Likeness}
use Rattle.cg_numbers.specs.declared.numbers.Numbers.{Numbers}
use Rattle.cg_numbers.proofs.Collecting.{node_later, group_later}
use Rattle.cg_numbers.proofs.Lists.{at_later}
use Rattle.cg_sets.specs.Numbering.{AimAt}
use Rattle.cg_sets.specs.Classes.{AimsAt, Below, MethodAt, HasMethods, PutsMethod, same_key, method_at, key_of}
use Rattle.cg_sets.specs.Embedding.{Aim, Calls, Asks, Aimed, aim_of}
use Rattle.cg_sets.specs.declared.aiming.Aiming.{Aiming}
use Rattle.cg_sets.specs.declared.candidates.Goal.{Goal}
use Rattle.cg_sets.specs.declared.candidates.Goal.TheVariants as goal_of
use Rattle.cg_sets.specs.declared.classes.ClassMethod.{ClassMethod}
use Rattle.cg_sets.specs.declared.classes.Classes.{Classes}
use Rattle.cg_sets.specs.declared.classes.MethodName.{MethodName}
use Rattle.cg_solve.specs.Lists.{Has, when}
use Rattle.cg_solve.specs.Tables.{row}
use Rattle.cg_solve.proofs.Members.{Has-left, Has-right, Has-cases, when_has}

-- ---- a type has one method of a name

order : (a b : ℕ) → (a < b) ⊎ ((a ≡ b) ⊎ (b < a))
order zero zero = inr (inl refl)
order zero (suc b) = inl (omega arith)
order (suc a) zero = inr (inr (omega arith))
order (suc a) (suc b) = elim (order a b) [ inl h ↦ inl (omega arith) | inr (inl h) ↦ inr (inl (ap suc h)) | inr (inr h) ↦ inr (inr (omega arith)) ]

one_and_none : (xs : List Member) (m : Member) → xs ≡ m ∷ [] → xs ≡ [] → ⊥
one_and_none xs m h k = cc

finds_same : (types : Table) (w : Wanted) (a : TypeId) (m k : Member) → Finds types w a (Ok m) → Finds types w a (Ok k) → m ≡ k
finds_same types w a m k f g = by (order f.0 g.0)
  where
    by : (f.0 < g.0) ⊎ ((f.0 ≡ g.0) ⊎ (g.0 < f.0)) → m ≡ k
    by (inl h) = absurd (one_and_none (selected_at f.0 types w a) m f.1 (g.2 f.0 h))
    by (inr (inl h)) = let e = sym f.1 ∙ (ap (λ (n : ℕ). selected_at n types w a) h ∙ g.1) in let l : m ∷ [] ≡ k ∷ [] = e in cc
    by (inr (inr h)) = absurd (one_and_none (selected_at g.0 types w a) k g.1 (f.2 g.0 h))

pub one_method : (types : Table) (a : TypeId) (e f : MethodEntry) → IsMethod types a e → IsMethod types a f → name_of e ≡ name_of f → e ≡ f
one_method types a e f h k same =
    let m : h.0 ≡ k.0 = finds_same types (name_of f) a h.0 k.0 (subst (λ (w : Wanted). Finds types w a (Ok h.0)) same h.1.0.0) k.1.0.0 in
    h.1.1 ∙ (ap (λ (w : Wanted). entry_of w h.0) same ∙ (ap (λ (x : Member). entry_of (name_of f) x) m ∙ sym k.1.1))

pub name_from_key : (e f : MethodEntry) → key_of e ≡ key_of f → name_of e ≡ name_of f
name_from_key e f h = ap (λ (k : MethodName). record { name = k.name; «package» = k.package }) h

-- ---- numbers that stay

module _ (old new : Numbers) (e : Extends old new) where
  asks_later : (node : Option Node) (g : Group) (goal : Goal) → AimAt old (Asks node g) goal → AimAt new (Asks node g) goal
  asks_later (Some n) g (goal_of.Function f) h = h
  asks_later (Some n) g (goal_of.Group of group) h = (node_later old new e of n h.0, group_later old new e group g h.1)
  asks_later (Some n) g (goal_of.First group) h = h
  asks_later None g (goal_of.Function f) h = h
  asks_later None g (goal_of.Group of group) h = h
  asks_later None g (goal_of.First group) h = group_later old new e group g h

  pub aim_later : (a : Aim) (goal : Goal) → AimAt old a goal → AimAt new a goal
  aim_later (Calls f) goal h = h
  aim_later (Asks node g) goal h = asks_later node g goal h

  pub aims_later : (functions : List FunctionDecl) (class : TypeId) (m : MethodEntry) (x : Aiming) → AimsAt functions old class m x → AimsAt functions new class m x
  aims_later functions class m x h = (h.0, ap (λ (l : Likeness). aim_of l.types functions class m) e.likeness ∙ h.1, aim_later h.0.aim x.goal h.2, node_later old new e x.receiver h.0.receiver h.3)

  pub method_later : (functions : List FunctionDecl) (class : TypeId) (m : MethodEntry) (x : ClassMethod) → MethodAt functions old class m x → MethodAt functions new class m x
  method_later functions class m x h = record { of = h.of ∙ ap (λ (l : Likeness). bare l.types l.bares m.of) (sym e.likeness); aims = aims_later functions class m x.aiming h.aims }

  pub is_method_later : (class : TypeId) (m : MethodEntry) → IsMethod old.likeness.types class m → IsMethod new.likeness.types class m
  is_method_later class m h = subst (λ (l : Likeness). IsMethod l.types class m) (sym e.likeness) h

  pub is_method_before : (class : TypeId) (m : MethodEntry) → IsMethod new.likeness.types class m → IsMethod old.likeness.types class m
  is_method_before class m h = subst (λ (l : Likeness). IsMethod l.types class m) e.likeness h

-- ---- a method more

same_at : {A : Type 0} (x y z : Option A) (b c : A) → x ≡ Some b → x ≡ Some c → b ≡ c
same_at x y z b c h k = let e : Some b ≡ Some c = sym h ∙ k in cc

one_there : {A : Type 0} (xs : List A) (i : ℕ) (x y : A) → IsAt xs i x → IsAt xs i y → x ≡ y
one_there xs i x y h k = let e : Some x ≡ Some y = sym h ∙ k in cc

key_self : (i j : ℕ) → same_key (record { class = i; name = j }) (record { class = i; name = j }) ≡ true
key_self i j = search arith

key_parts : (i j k l : ℕ) → same_key (record { class = i; name = j }) (record { class = k; name = l }) ≡ true → (i ≡ k) × (j ≡ l)
key_parts i j k l h = search arith

module _ (p : Program) (first n : Numbers) (ext : Extends first n) (old new : Classes) (P : ℕ → MethodEntry → Type 0) (i : ℕ) (id : TypeId) (e : MethodEntry)
    (list : new.list ≡ old.list) (there : IsAt old.list.types.keys i id) (is : IsMethod first.likeness.types id e) (puts : PutsMethod p.functions n old new i id e) (all : HasMethods p first old P) where
  abbrev also : ℕ → MethodEntry → Type 0
  also k f = P k f ⊎ ((k ≡ i) × (f ≡ e))

  same_place : (k : ℕ) (t : TypeId) → IsAt new.list.types.keys k t → IsAt old.list.types.keys k t
  same_place k t h = subst (λ l. IsAt l.types.keys k t) list h

  new_place : (k : ℕ) (t : TypeId) → IsAt old.list.types.keys k t → IsAt new.list.types.keys k t
  new_place k t h = subst (λ l. IsAt l.types.keys k t) (sym list) h

  later_name : (j : ℕ) (f : MethodEntry) → IsAt old.names.keys j (key_of f) → IsAt new.names.keys j (key_of f)
  later_name j f h = at_later old.names.keys new.names.keys j (key_of f) puts.names h

  abbrev Only : ℕ → ℕ → ClassMethod → Type 0
  Only k j x = (t : TypeId) × (f : MethodEntry) × IsAt new.list.types.keys k t × IsMethod n.likeness.types t f × IsAt new.names.keys j (key_of f) × MethodAt p.functions n t f x

  only_by : (k j : ℕ) (x : ClassMethod) (b : Bool) → same_key (record { class = i; name = puts.name }) (record { class = k; name = j }) ≡ b → (if b then Some puts.method else method_at old k j) ≡ Some x → Only k j x
  only_by k j x true s h =
      let q = key_parts i puts.name k j s in
      let m : puts.method ≡ x = cc in
      (id, e, subst (λ (y : ℕ). IsAt new.list.types.keys y id) q.0 (new_place i id there), is_method_later first n ext id e is, subst (λ (y : ℕ). IsAt new.names.keys y (key_of e)) q.1 puts.named, subst (MethodAt p.functions n id e) m puts.stands)
  only_by k j x false s h =
      let r = all.only k j x h in
      (r.0, r.1, new_place k r.0 r.2, is_method_later first n ext r.0 r.1 r.3, later_name j r.1 r.4, method_later first n ext p.functions r.0 r.1 x r.5)

  abbrev Whole : ℕ → TypeId → MethodEntry → Type 0
  Whole k t f = (j : ℕ) × (x : ClassMethod) × IsAt new.names.keys j (key_of f) × (method_at new k j ≡ Some x) × MethodAt p.functions n t f x

  whole_old : (k : ℕ) (t : TypeId) (f : MethodEntry) (j : ℕ) (x : ClassMethod) (b : Bool) → IsAt old.list.types.keys k t → IsMethod first.likeness.types t f → IsAt old.names.keys j (key_of f) → method_at old k j ≡ Some x → MethodAt p.functions first t f x
      → same_key (record { class = i; name = puts.name }) (record { class = k; name = j }) ≡ b → method_at new k j ≡ (if b then Some puts.method else method_at old k j) → Whole k t f
  whole_old k t f j x false h m a g s q u = (j, x, later_name j f a, u ∙ g, method_later first n ext p.functions t f x s)
  whole_old k t f j x true h m a g s q u =
      let r = key_parts i puts.name k j q in
      let same_type : t ≡ id = one_there old.list.types.keys k t id h (subst (λ (y : ℕ). IsAt old.list.types.keys y id) r.0 there) in
      let keys : key_of f ≡ key_of e = one_there new.names.keys j (key_of f) (key_of e) (later_name j f a) (subst (λ (y : ℕ). IsAt new.names.keys y (key_of e)) r.1 puts.named) in
      let same : f ≡ e = one_method first.likeness.types id f e (subst (λ (y : TypeId). IsMethod first.likeness.types y f) same_type m) is (name_from_key f e keys) in
      (j, puts.method, later_name j f a, u, subst (λ (y : TypeId). MethodAt p.functions n y f puts.method) (sym same_type) (subst (λ (y : MethodEntry). MethodAt p.functions n id y puts.method) (sym same) puts.stands))

  whole_new : (k : ℕ) (t : TypeId) (f : MethodEntry) → IsAt new.list.types.keys k t → k ≡ i → f ≡ e → Whole k t f
  whole_new k t f h a b =
      let same_type : t ≡ id = one_there old.list.types.keys i t id (subst (λ (y : ℕ). IsAt old.list.types.keys y t) a (same_place k t h)) there in
      let found : method_at new i puts.name ≡ Some puts.method = puts.at i puts.name ∙ ap (λ (c : Bool). if c then Some puts.method else method_at old i puts.name) (key_self i puts.name) in
      (puts.name, puts.method, subst (λ (y : MethodEntry). IsAt new.names.keys puts.name (key_of y)) (sym b) puts.named, subst (λ (y : ℕ). method_at new y puts.name ≡ Some puts.method) (sym a) found, subst (λ (y : TypeId). MethodAt p.functions n y f puts.method) (sym same_type) (subst (λ (y : MethodEntry). MethodAt p.functions n id y puts.method) (sym b) puts.stands))

  having_by : (k j : ℕ) (x : ClassMethod) (b : Bool) → same_key (record { class = i; name = puts.name }) (record { class = k; name = j }) ≡ b → (if b then Some puts.method else method_at old k j) ≡ Some x → Has (row old.having j ++ when (puts.name == j) i) k
  having_by k j x true s h =
      let r = key_parts i puts.name k j s in
      Has-right (row old.having j) (when (puts.name == j) i) k (subst (λ (y : ℕ). Has (when (puts.name == y) i) k) r.1 (subst (λ (y : ℕ). Has (when (puts.name == puts.name) i) y) r.0 (when_has (puts.name == puts.name) i (self puts.name))))
    where
      self : (m : ℕ) → (m == m) ≡ true
      self m = search arith
  having_by k j x false s h = Has-left (row old.having j) (when (puts.name == j) i) k (all.having k j x h)

  pub methods_more : HasMethods p n new also
  methods_more = record {
    only = λ k j x h. only_by k j x (same_key (record { class = i; name = puts.name }) (record { class = k; name = j })) refl (sym (puts.at k j) ∙ h);
    whole = λ k t f q h m. elim q [
      | inl g ↦ (let r = all.whole k t f g (same_place k t h) (is_method_before first n ext t f m) in whole_old k t f r.0 r.1 (same_key (record { class = i; name = puts.name }) (record { class = k; name = r.0 })) (same_place k t h) (is_method_before first n ext t f m) r.2 r.3 r.4 refl (puts.at k r.0))
      | inr g ↦ whole_new k t f h g.0 g.1
    ];
    having = λ k j x h. subst (λ (l : List ℕ). Has l k) (sym (puts.having j)) (having_by k j x (same_key (record { class = i; name = puts.name }) (record { class = k; name = j })) refl (sym (puts.at k j) ∙ h));
  }

pub methods_as : (p : Program) (n : Numbers) (cs : Classes) (P Q : ℕ → MethodEntry → Type 0) → ((i : ℕ) (id : TypeId) (e : MethodEntry) → Q i e → IsAt cs.list.types.keys i id → IsMethod n.likeness.types id e → P i e) → HasMethods p n cs P → HasMethods p n cs Q
methods_as p n cs P Q from h = record { only = h.only; whole = λ i id e q a m. h.whole i id e (from i id e q a m) a m; having = h.having }

pub methods_later : (p : Program) (old new : Numbers) (ext : Extends old new) (cs : Classes) (P : ℕ → MethodEntry → Type 0) → HasMethods p old cs P → HasMethods p new cs P
methods_later p old new ext cs P h = record {
  only = λ i j x g. (let r = h.only i j x g in (r.0, r.1, r.2, is_method_later old new ext r.0 r.1 r.3, r.4, method_later old new ext p.functions r.0 r.1 x r.5));
  whole = λ i id e q a m. (let r = h.whole i id e q a (is_method_before old new ext id e m) in (r.0, r.1, r.2, r.3, method_later old new ext p.functions id e r.1 r.4));
  having = h.having;
}

-- ---- the methods of one class after the other

-- those of the classes below k, and those of the class at k that are done
abbrev pub UpTo : ℕ → List MethodEntry → ℕ → MethodEntry → Type 0
UpTo k done i e = (i < k) ⊎ ((i ≡ k) × Has done e)

place_cases : (i k : ℕ) → i < k + 1 → (i < k) ⊎ (i ≡ k)
place_cases i k h = elim (cases_lt i k) [ inl l ↦ inl l | inr l ↦ inr (last i k l h) ]
  where
    last : (i k : ℕ) → k ≤ i → i < k + 1 → i ≡ k
    last i k h g = omega arith

pub methods_start : (p : Program) (n : Numbers) (cs : Classes) (k : ℕ) → HasMethods p n cs (Below k) → HasMethods p n cs (UpTo k [])
methods_start p n cs k h = methods_as p n cs (Below k) (UpTo k []) (λ i id e q at is. elim q [ inl l ↦ l | inr r ↦ absurd r.1 ]) h

pub methods_next : (p : Program) (first n : Numbers) (ext : Extends first n) (old new : Classes) (k : ℕ) (id : TypeId) (items : List MethodEntry) (j : ℕ) (d : MethodEntry) → j < length items → new.list ≡ old.list → IsAt old.list.types.keys k id → IsMethod first.likeness.types id (get_or items j d)
    → PutsMethod p.functions n old new k id (get_or items j d) → HasMethods p first old (UpTo k (take j items)) → HasMethods p n new (UpTo k (take (j + 1) items))
methods_next p first n ext old new k id items j d less list there is puts h =
    methods_as p n new (λ i e. UpTo k (take j items) i e ⊎ ((i ≡ k) × (e ≡ get_or items j d))) (UpTo k (take (j + 1) items))
    (λ i t e q at is'. elim q [
      | inl l ↦ inl (inl l)
      | inr r ↦ elim (Has-cases (take j items) (get_or items j d ∷ []) e (subst (λ (l : List MethodEntry). Has l e) (take_at_read items j d less).1 r.1)) [
        | inl g ↦ inl (inr (r.0, g))
        | inr (inl g) ↦ inr (r.0, sym g)
        | inr (inr g) ↦ absurd g
      ]
    ])
    (methods_more p first n ext old new (UpTo k (take j items)) k id (get_or items j d) list there is puts h)

pub methods_row : (p : Program) (n : Numbers) (cs : Classes) (k : ℕ) (id : TypeId) (items : List MethodEntry) → IsAt cs.list.types.keys k id → ((e : MethodEntry) → IsMethod n.likeness.types id e → Has items e) → HasMethods p n cs (UpTo k items) → HasMethods p n cs (Below (k + 1))
methods_row p n cs k id items there whole h = methods_as p n cs (UpTo k items) (Below (k + 1))
    (λ i t e q at is. elim (place_cases i k q) [
      | inl l ↦ inl l
      | inr s ↦ (
          let same : t ≡ id = one_there cs.list.types.keys k t id (subst (λ (y : ℕ). IsAt cs.list.types.keys y t) s at) there in
          inr (s, whole e (subst (λ (y : TypeId). IsMethod n.likeness.types y e) same is)))
    ]) h

-- no class is at the place
pub methods_past : (p : Program) (n : Numbers) (cs : Classes) (k : ℕ) → ((id : TypeId) → IsAt cs.list.types.keys k id → ⊥) → HasMethods p n cs (Below k) → HasMethods p n cs (Below (k + 1))
methods_past p n cs k none h = methods_as p n cs (Below k) (Below (k + 1))
    (λ i t e q at is. elim (place_cases i k q) [ inl l ↦ l | inr s ↦ absurd (none t (subst (λ (y : ℕ). IsAt cs.list.types.keys y t) s at)) ]) h

pub methods_none : (p : Program) (n : Numbers) (cs : Classes) → ((i j : ℕ) → method_at cs i j ≡ None) → HasMethods p n cs (Below 0)
methods_none p n cs none = record {
  only = λ i j x h. absurd (clash x (method_at cs i j) (none i j) h);
  whole = λ i id e q at is. absurd (below_none i q);
  having = λ i j x h. absurd (clash x (method_at cs i j) (none i j) h);
}
  where
    clash : (x : ClassMethod) (o : Option ClassMethod) → o ≡ None → o ≡ Some x → ⊥
    clash x o h k = let e : None ≡ Some x = sym h ∙ k in cc

    below_none : (i : ℕ) → i < 0 → ⊥
    below_none i h = omega arith

pub none_in : (cs : Classes) → cs.methods.entries ≡ [] → (i j : ℕ) → method_at cs i j ≡ None
none_in cs e i j = rw e refl
