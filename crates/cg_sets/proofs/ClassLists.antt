-- The types of classes, one after another.
use Rattle.std.proofs.Common.{◌≡◌, ◌⊎◌, ◌<◌, ◌≤◌, ◌+◌, ◌++◌, take, get_or, ℕ, zero, suc, Bool, true, false, List, [], ◌∷◌, Option, Some, None, inl, inr, refl, sym, ap, ◌∙◌, subst, length, length-append, slice_get, arith, true≢false}
use Rattle.std.specs.Prelude.{if◌then◌else◌, not, ◌&&◌}
use Rattle.std.specs.List.{Contains}
use Rattle.std.proofs.lemmas.Bool.{cases_lt}
use Rattle.std.proofs.lemmas.Grind.{take_at_read}
use Rattle.go_base.specs.declared.ids.TypeId.{TypeId}
use Rattle.go_tree.specs.declared.program.Program.{Program}
use Rattle.go_tree.specs.declared.variables.DeclaredType.{DeclaredType}
use Rattle.go_type.specs.Held.{IsHeld}
use Rattle.go_type.specs.Same.{same_id, same_id-Decides}
use Rattle.go_type.specs.Table.{Table, term_at}
use Rattle.go_type.proofs.IdenticalTypes.{one_place}
use Rattle.go_type.specs.declared.term.Field.{Field}
use Rattle.go_type.specs.declared.term.TypeTerm.{TypeTerm}
use Rattle.go_type.specs.declared.term.TypeTerm.TheVariants.{Pointer, Struct}
use Rattle.cg_nodes.specs.Kinds.{is_interface}
use Rattle.cg_nodes.specs.declared.nodes.Value.{Value}
use Rattle.cg_nodes.specs.declared.nodes.Value.TheVariants as value_of
use Rattle.cg_numbers.specs.Alike.{bare}
use Rattle.cg_numbers.specs.Numbered.{IsAt, Extends, GrowsBy}
use Rattle.cg_numbers.specs.declared.likeness.Likeness.{Likeness}
use Rattle.cg_numbers.specs.declared.numbers.Numbers.{Numbers}
use Rattle.cg_numbers.proofs.Collecting.{extends_self, extends_on}
use Rattle.cg_numbers.proofs.Lists.{at_later, has_at}
use Rattle.cg_sets.specs.Candidates.{IsBase, IsClass, ArePointed, is_in_some}
use Rattle.cg_sets.specs.ClassLists.{AddsBases, AreValued, AreListed, ListsMore, IsThat, OrPointer, IsDeclaredBase, IsStructBase, IsThisStruct, is_struct_term}
use Rattle.cg_sets.specs.declared.class_list.ClassList.{ClassList}
use Rattle.cg_solve.specs.Lists.{Has}
use Rattle.cg_solve.proofs.Members.{Has-left, Has-right, Has-cases, Has-Contains, Contains-Has}

nothing_at : {A : Type 0} {x : A} → ◌≡◌ {A = _} None (Some x) → ⊥
nothing_at h = cc

some_is : {A : Type 0} (x y : A) → Some x ≡ Some y → x ≡ y
some_is x y h = cc

pub at_push : {A : Type 0} (xs : List A) (y : A) → IsAt (xs ++ y ∷ []) (length xs) y
at_push [] y = refl
at_push (x ∷ xs) y = at_push xs y

pub at_push_cases : {A : Type 0} (xs : List A) (y : A) (i : ℕ) (x : A) → IsAt (xs ++ y ∷ []) i x → IsAt xs i x ⊎ ((i ≡ length xs) × (y ≡ x))
at_push_cases [] y zero x h = inr (refl, some_is y x h)
at_push_cases [] y (suc i) x h = absurd (nothing_at h)
at_push_cases (z ∷ xs) y zero x h = inl h
at_push_cases (z ∷ xs) y (suc i) x h = elim (at_push_cases xs y i x h) [ inl g ↦ inl g | inr g ↦ inr (ap suc g.0, g.1) ]

-- ---- sets of types

module _ (a b c : List TypeId) (P Q : TypeId → Type 0) where
  pub lists_on : ListsMore a b P → ListsMore b c Q → ListsMore a c (λ id. P id ⊎ Q id)
  lists_on h k = record {
    kept = λ id g. k.kept id (h.kept id g);
    only = λ id g. elim (k.only id g) [ inl i ↦ elim (h.only id i) [ inl j ↦ inl j | inr j ↦ inr (inl j) ] | inr j ↦ inr (inr j) ];
    whole = λ id g. elim g [ inl i ↦ k.kept id (h.whole id i) | inr i ↦ k.whole id i ];
  }

pub lists_as : (a b : List TypeId) (P Q : TypeId → Type 0) → ((id : TypeId) → P id → Q id) → ((id : TypeId) → Q id → P id) → ListsMore a b P → ListsMore a b Q
lists_as a b P Q to from h = record {
  kept = h.kept;
  only = λ id g. elim (h.only id g) [ inl i ↦ inl i | inr i ↦ inr (to id i) ];
  whole = λ id g. h.whole id (from id g);
}

pub lists_none : (a : List TypeId) (P : TypeId → Type 0) → ((id : TypeId) → P id → ⊥) → ListsMore a a P
lists_none a P none = record { kept = λ id g. g; only = λ id g. inl g; whole = λ id g. absurd (none id g) }

pub lists_that : (a b : List TypeId) (x : TypeId) → GrowsBy a b x → Has b x → ListsMore a b (IsThat x)
lists_that a b x (inl e) h = record {
  kept = λ id g. subst (λ (l : List TypeId). Has l id) (sym e) g;
  only = λ id g. inl (subst (λ (l : List TypeId). Has l id) e g);
  whole = λ id g. subst (Has b) (sym g) h;
}
lists_that a b x (inr e) h = record {
  kept = λ id g. subst (λ (l : List TypeId). Has l id) (sym e) (Has-left a (x ∷ []) id g);
  only = λ id g. elim (Has-cases a (x ∷ []) id (subst (λ (l : List TypeId). Has l id) e g)) [ inl i ↦ inl i | inr (inl i) ↦ inr (sym i) | inr (inr i) ↦ absurd i ];
  whole = λ id g. subst (Has b) (sym g) h;
}

-- ---- values

pub valued_later : (old new : Numbers) (types : List TypeId) (values : List ℕ) → Extends old new → AreValued old types values → AreValued new types values
valued_later old new types values e h = record {
  count = h.count;
  valued = λ i id g. let r = h.valued i id g in (r.0, r.1, at_later old.values.keys new.values.keys r.0 (value_of.Class id) e.values r.2);
}

-- a class more, with its value
pub valued_more : (old new : Numbers) (types later : List TypeId) (values after : List ℕ) (id : TypeId) (v : ℕ) → Extends old new → later ≡ types ++ id ∷ [] → after ≡ values ++ v ∷ [] → IsAt new.values.keys v (value_of.Class id) → AreValued old types values → AreValued new later after
valued_more old new types later values after id v e f g at h =
    let n = valued_later old new types values e h in
    subst (λ (l : List ℕ). AreValued new later l) (sym g) (subst (λ (l : List TypeId). AreValued new l (values ++ v ∷ [])) (sym f) record {
      count = (let a = length-append values (v ∷ []) in let b = length-append types (id ∷ []) in let c = h.count in omega arith);
      valued = λ i x k. elim (at_push_cases types id i x k) [
        | inl j ↦ (let r = n.valued i x j in (r.0, at_later values (values ++ v ∷ []) i r.0 (v ∷ [], refl) r.1, r.2))
        | inr j ↦ (v, subst (λ m. IsAt (values ++ v ∷ []) m v) (h.count ∙ sym j.0) (at_push values v), subst (λ (y : TypeId). IsAt new.values.keys v (value_of.Class y)) j.1 at)
      ];
    })

-- ---- all of a program

module _ (p : Program) (types : Table) (bares : List TypeId) where
  base_declared : (b : TypeId) → IsDeclaredBase p.declared p types bares b → IsBase p types bares b
  base_declared b h = subst (IsBase p types bares) (sym h.4) (IsBase.declared h.0 (Has-Contains p.declared h.0 h.1) h.3 h.2)

  struct_fields : (t : Option TypeTerm) → is_struct_term t ≡ true → (fields : List Field) × (t ≡ Some (Struct fields))
  struct_fields (Some (Struct fields)) h = (fields, refl)
  struct_fields None h = absurd (cc)
  struct_fields (Some _) h = absurd (cc)

  base_struct : (b : TypeId) → IsStructBase (length p.types.terms) types bares b → IsBase p types bares b
  base_struct b h = let r = struct_fields (term_at types h.0) h.2 in subst (IsBase p types bares) (sym h.3) (IsBase.unnamed h.0 r.0 h.1 r.1)

  abbrev pub Either : TypeId → Type 0
  Either id = OrPointer types (IsDeclaredBase p.declared p types bares) id ⊎ OrPointer types (IsStructBase (length p.types.terms) types bares) id

  class_or : (P : TypeId → Type 0) (id : TypeId) → ((b : TypeId) → P b → IsBase p types bares b) → OrPointer types P id → IsClass p types bares id
  class_or P id is h = elim h.2 [ inl e ↦ subst (IsClass p types bares) (sym e) (IsClass.base h.0 (is h.0 h.1)) | inr e ↦ IsClass.pointer id h.0 e (is h.0 h.1) ]

  pub class_of : (id : TypeId) → Either id → IsClass p types bares id
  class_of id (inl h) = class_or (IsDeclaredBase p.declared p types bares) id base_declared h
  class_of id (inr h) = class_or (IsStructBase (length p.types.terms) types bares) id base_struct h

  pub to_base : (b : TypeId) → IsBase p types bares b → IsDeclaredBase p.declared p types bares b ⊎ IsStructBase (length p.types.terms) types bares b
  to_base _ (IsBase.declared d there plain in') = inl (d, Contains-Has p.declared d there, in', plain, refl)
  to_base _ (IsBase.unnamed x fields below e) = inr (x, below, ap is_struct_term e, refl)

  of_base : (b id : TypeId) → IsBase p types bares b → (id ≡ b) ⊎ (term_at types id ≡ Some (Pointer b)) → Either id
  of_base b id h s = elim (to_base b h) [ inl i ↦ inl (b, i, s) | inr i ↦ inr (b, i, s) ]

  pub of_class : (id : TypeId) → IsClass p types bares id → Either id
  of_class _ (IsClass.base id h) = of_base id id h (inl refl)
  of_class _ (IsClass.pointer id to e h) = of_base to id h (inr e)

-- ---- one type more

pub stays : (b : Bool) (old new : List TypeId) (x : TypeId) (is_new : Bool) → new ≡ (if b then old else old ++ x ∷ []) → is_new ≡ not b → is_new ≡ false → new ≡ old
stays true old new x is_new e f g = e
stays false old new x is_new e f g = absurd (true≢false (sym f ∙ g))

pub grows : (b : Bool) (old new : List TypeId) (x : TypeId) (is_new : Bool) → new ≡ (if b then old else old ++ x ∷ []) → is_new ≡ not b → is_new ≡ true → new ≡ old ++ x ∷ []
grows true old new x is_new e f g = absurd (true≢false (sym g ∙ f))
grows false old new x is_new e f g = e

pub has_stored : (xs : List TypeId) (i : ℕ) (x k : TypeId) → slice_get xs i ≡ Some k → same_id x k ≡ true → Has xs x
has_stored xs i x k at e = has_at xs i x (at ∙ ap Some (sym ((same_id-Decides x k).0 e)))

pub valued_same : (n : Numbers) (types later : List TypeId) (values : List ℕ) → later ≡ types → AreValued n types values → AreValued n later values
valued_same n types later values e h = subst (λ (l : List TypeId). AreValued n l values) (sym e) h

-- ---- a type, and pointers to it

pub one_id : (types : Table) → IsHeld types → (x y : TypeId) (t : TypeTerm) → term_at types x ≡ Some t → term_at types y ≡ Some t → x ≡ y
one_id types held x y t h k = λ i. record { number = one_place types.terms held.distinct x.number y.number t h k i }

pub with_pointer : (types : Table) → IsHeld types → (a b c : List TypeId) (base pointer : TypeId) → term_at types pointer ≡ Some (Pointer base) → ListsMore a b (IsThat base) → ListsMore b c (IsThat pointer) → ListsMore a c (OrPointer types (IsThat base))
with_pointer types held a b c base pointer is h k =
    lists_as a c (λ id. (id ≡ base) ⊎ (id ≡ pointer)) (OrPointer types (IsThat base)) to from (lists_on a b c (IsThat base) (IsThat pointer) h k)
  where
    to : (id : TypeId) → (id ≡ base) ⊎ (id ≡ pointer) → OrPointer types (IsThat base) id
    to id (inl e) = (base, refl, inl e)
    to id (inr e) = (base, refl, inr (ap (term_at types) e ∙ is))

    from : (id : TypeId) → OrPointer types (IsThat base) id → (id ≡ base) ⊎ (id ≡ pointer)
    from id h = elim h.2 [ inl e ↦ inl (e ∙ h.1) | inr e ↦ inr (one_id types held id pointer (Pointer base) (e ∙ ap (λ (b : TypeId). Some (Pointer b)) h.1) is) ]

-- ---- bases, one after another

pub class_added : (m n o : Numbers) (held : IsHeld m.likeness.types) (a b c : ClassList) (base pointer : TypeId) → term_at m.likeness.types pointer ≡ Some (Pointer base) → Extends m n → Extends n o
    → (AreValued m a.types.keys a.values.items → AreValued n b.types.keys b.values.items) → (AreValued n b.types.keys b.values.items → AreValued o c.types.keys c.values.items)
    → ListsMore a.types.keys b.types.keys (IsThat base) → ListsMore b.types.keys c.types.keys (IsThat pointer) → AddsBases m o a c (IsThat base)
class_added m n o held a b c base pointer is e f v w h k = record {
  extends = extends_on e f;
  valued = λ g. w (v g);
  listed = with_pointer m.likeness.types held a.types.keys b.types.keys c.types.keys base pointer is h k;
  pointed = λ to g. (pointer, is ∙ ap (λ (x : TypeId). Some (Pointer x)) (sym g));
}

pub bases_as : (m n : Numbers) (a b : ClassList) (P Q : TypeId → Type 0) → ((to : TypeId) → P to → Q to) → ((to : TypeId) → Q to → P to) → AddsBases m n a b P → AddsBases m n a b Q
bases_as m n a b P Q to from h = record {
  extends = h.extends;
  valued = h.valued;
  listed = lists_as a.types.keys b.types.keys (OrPointer m.likeness.types P) (OrPointer m.likeness.types Q) (λ id g. (g.0, to g.0 g.1, g.2)) (λ id g. (g.0, from g.0 g.1, g.2)) h.listed;
  pointed = λ id g. h.pointed id (from id g);
}

pub bases_none : (n : Numbers) (a : ClassList) (P : TypeId → Type 0) → ((to : TypeId) → P to → ⊥) → AddsBases n n a a P
bases_none n a P none = record {
  extends = extends_self n;
  valued = λ g. g;
  listed = lists_none a.types.keys (OrPointer n.likeness.types P) (λ id g. none g.0 g.1);
  pointed = λ id g. absurd (none id g);
}

pub bases_next : (m n o : Numbers) (a b c : ClassList) (P : TypeId → Type 0) (Q : Likeness → TypeId → Type 0) (R : TypeId → Type 0)
    → ((to : TypeId) → P to ⊎ Q m.likeness to → R to) → ((to : TypeId) → R to → P to ⊎ Q m.likeness to) → AddsBases m n a b P → AddsBases n o b c (Q n.likeness) → AddsBases m o a c R
bases_next m n o a b c P Q R to from h k = record {
  extends = extends_on h.extends k.extends;
  valued = λ g. k.valued (h.valued g);
  listed = lists_as a.types.keys c.types.keys (λ id. OrPointer m.likeness.types P id ⊎ OrPointer m.likeness.types (Q m.likeness) id) (OrPointer m.likeness.types R)
      (λ id g. elim g [ inl i ↦ (i.0, to i.0 (inl i.1), i.2) | inr i ↦ (i.0, to i.0 (inr i.1), i.2) ])
      (λ id g. elim (from g.0 g.1) [ inl i ↦ inl (g.0, i, g.2) | inr i ↦ inr (g.0, i, g.2) ])
      (lists_on a.types.keys b.types.keys c.types.keys (OrPointer m.likeness.types P) (OrPointer m.likeness.types (Q m.likeness)) h.listed
      (subst (λ (l : Likeness). ListsMore b.types.keys c.types.keys (OrPointer l.types (Q l))) h.extends.likeness k.listed));
  pointed = λ id g. elim (from id g) [ inl i ↦ h.pointed id i | inr i ↦ subst (λ (l : Likeness). ArePointed l.types (Q l)) h.extends.likeness k.pointed id i ];
}

-- ---- the bases that are declared

pub one_declared : (p : Program) (m n : Numbers) (a c : ClassList) (d : DeclaredType) → is_in_some p d.function && not (is_interface m.likeness.types d.id) ≡ true → AddsBases m n a c (IsThat (bare m.likeness.types m.likeness.bares d.id)) → AddsBases m n a c (IsDeclaredBase (d ∷ []) p m.likeness.types m.likeness.bares)
one_declared p m n a c d e h = bases_as m n a c (IsThat (bare m.likeness.types m.likeness.bares d.id)) (IsDeclaredBase (d ∷ []) p m.likeness.types m.likeness.bares) (λ to q. (d, inl refl, r.0, r.1, q)) back h
  where
    both_true : (b c : Bool) → b && not c ≡ true → (b ≡ true) × (c ≡ false)
    both_true true false h = (refl, refl)
    both_true true true h = absurd (true≢false (sym h))
    both_true false c h = absurd (true≢false (sym h))

    r : (is_in_some p d.function ≡ true) × (is_interface m.likeness.types d.id ≡ false)
    r = both_true (is_in_some p d.function) (is_interface m.likeness.types d.id) e

    back : (b : TypeId) → IsDeclaredBase (d ∷ []) p m.likeness.types m.likeness.bares b → b ≡ bare m.likeness.types m.likeness.bares d.id
    back b q = elim q.1 [ inl i ↦ q.4 ∙ ap (λ (x : DeclaredType). bare m.likeness.types m.likeness.bares x.id) (sym i) | inr i ↦ absurd i ]

pub no_declared : (p : Program) (n : Numbers) (a : ClassList) (d : DeclaredType) → is_in_some p d.function && not (is_interface n.likeness.types d.id) ≡ false → AddsBases n n a a (IsDeclaredBase (d ∷ []) p n.likeness.types n.likeness.bares)
no_declared p n a d e = bases_none n a (IsDeclaredBase (d ∷ []) p n.likeness.types n.likeness.bares) (λ to h. elim h.1 [ inl i ↦ none h.0 i h.2 h.3 | inr i ↦ absurd i ])
  where
    both_false : (b c : Bool) → b && not c ≡ false → b ≡ true → c ≡ false → ⊥
    both_false true true h k l = true≢false l
    both_false true false h k l = true≢false h
    both_false false c h k l = true≢false (sym k)

    none : (x : DeclaredType) → d ≡ x → is_in_some p x.function ≡ true → is_interface n.likeness.types x.id ≡ false → ⊥
    none x i h k = both_false (is_in_some p d.function) (is_interface n.likeness.types d.id) e (ap (λ (y : DeclaredType). is_in_some p y.function) i ∙ h) (ap (λ (y : DeclaredType). is_interface n.likeness.types y.id) i ∙ k)

pub declared_next : (p : Program) (m n o : Numbers) (a b c : ClassList) (items : List DeclaredType) (i : ℕ) (d : DeclaredType) → i < length items
    → AddsBases m n a b (IsDeclaredBase (take i items) p m.likeness.types m.likeness.bares) → AddsBases n o b c (IsDeclaredBase (get_or items i d ∷ []) p n.likeness.types n.likeness.bares)
    → AddsBases m o a c (IsDeclaredBase (take (i + 1) items) p m.likeness.types m.likeness.bares)
declared_next p m n o a b c items i d less = bases_next m n o a b c (IsDeclaredBase (take i items) p m.likeness.types m.likeness.bares) (λ l. IsDeclaredBase (get_or items i d ∷ []) p l.types l.bares) (IsDeclaredBase (take (i + 1) items) p m.likeness.types m.likeness.bares)
    (λ to h. elim h [ inl q ↦ (q.0, later q.0 (inl q.1), q.2, q.3, q.4) | inr q ↦ (q.0, later q.0 (inr q.1), q.2, q.3, q.4) ])
    (λ to h. elim (before h.0 h.1) [ inl i ↦ inl (h.0, i, h.2, h.3, h.4) | inr i ↦ inr (h.0, i, h.2, h.3, h.4) ])
  where
    all : take (i + 1) items ≡ take i items ++ get_or items i d ∷ []
    all = (take_at_read items i d less).1

    later : (x : DeclaredType) → Has (take i items) x ⊎ Has (get_or items i d ∷ []) x → Has (take (i + 1) items) x
    later x h = subst (λ (l : List DeclaredType). Has l x) (sym all) (elim h [ inl q ↦ Has-left (take i items) (get_or items i d ∷ []) x q | inr q ↦ Has-right (take i items) (get_or items i d ∷ []) x q ])

    before : (x : DeclaredType) → Has (take (i + 1) items) x → Has (take i items) x ⊎ Has (get_or items i d ∷ []) x
    before x h = Has-cases (take i items) (get_or items i d ∷ []) x (subst (λ (l : List DeclaredType). Has l x) all h)

pub declared_none : (p : Program) (n : Numbers) (a : ClassList) → AddsBases n n a a (IsDeclaredBase [] p n.likeness.types n.likeness.bares)
declared_none p n a = bases_none n a (IsDeclaredBase [] p n.likeness.types n.likeness.bares) (λ to h. absurd h.1)

-- ---- the struct types

pub one_struct : (m n : Numbers) (a c : ClassList) (id : TypeId) → is_struct_term (term_at m.likeness.types id) ≡ true → AddsBases m n a c (IsThat (bare m.likeness.types m.likeness.bares id)) → AddsBases m n a c (IsThisStruct id m.likeness.types m.likeness.bares)
one_struct m n a c id e h = bases_as m n a c (IsThat (bare m.likeness.types m.likeness.bares id)) (IsThisStruct id m.likeness.types m.likeness.bares) (λ to q. (e, q)) (λ to q. q.1) h

pub no_struct : (n : Numbers) (a : ClassList) (id : TypeId) → is_struct_term (term_at n.likeness.types id) ≡ false → AddsBases n n a a (IsThisStruct id n.likeness.types n.likeness.bares)
no_struct n a id e = bases_none n a (IsThisStruct id n.likeness.types n.likeness.bares) (λ to h. true≢false (sym h.0 ∙ e))

pub structs_none : (n : Numbers) (a : ClassList) → AddsBases n n a a (IsStructBase 0 n.likeness.types n.likeness.bares)
structs_none n a = bases_none n a (IsStructBase 0 n.likeness.types n.likeness.bares) (λ to h. nothing_below h.0.number h.1)
  where
    nothing_below : (k : ℕ) → k < 0 → ⊥
    nothing_below k h = omega arith

pub structs_next : (m n o : Numbers) (a b c : ClassList) (k : ℕ) → AddsBases m n a b (IsStructBase k m.likeness.types m.likeness.bares) → AddsBases n o b c (IsThisStruct (record { number = k }) n.likeness.types n.likeness.bares)
    → AddsBases m o a c (IsStructBase (k + 1) m.likeness.types m.likeness.bares)
structs_next m n o a b c k = bases_next m n o a b c (IsStructBase k m.likeness.types m.likeness.bares) (λ l. IsThisStruct (record { number = k }) l.types l.bares) (IsStructBase (k + 1) m.likeness.types m.likeness.bares)
    (λ to h. elim h [ inl q ↦ (q.0, below q.0.number q.1, q.2, q.3) | inr q ↦ (record { number = k }, self k, q.0, q.1) ])
    (λ to h. elim (cases_lt h.0.number k) [ inl i ↦ inl (h.0, i, h.2, h.3) | inr i ↦ inr (last to h.0 (same h.0.number i h.1) h.2 h.3) ])
  where
    below : (j : ℕ) → j < k → j < k + 1
    below j h = omega arith

    self : (j : ℕ) → j < j + 1
    self j = omega arith

    same : (j : ℕ) → k ≤ j → j < k + 1 → j ≡ k
    same j h g = omega arith

    last : (to id : TypeId) → id.number ≡ k → is_struct_term (term_at m.likeness.types id) ≡ true → to ≡ bare m.likeness.types m.likeness.bares id → IsThisStruct (record { number = k }) m.likeness.types m.likeness.bares to
    last to id e h q = subst (λ (j : ℕ). IsThisStruct (record { number = j }) m.likeness.types m.likeness.bares to) e (h, q)

-- ---- all

pub listed_all : (p : Program) (m n o : Numbers) (a b c : ClassList) → a.types.keys ≡ [] → a.values.items ≡ [] → AddsBases m n a b (IsDeclaredBase p.declared p m.likeness.types m.likeness.bares) → AddsBases n o b c (IsStructBase (length p.types.terms) n.likeness.types n.likeness.bares) → AreListed p o c
listed_all p m n o a b c none nothing h k = record {
  only = λ id g. elim (all.only id g) [ inl i ↦ absurd (subst (λ (l : List TypeId). Has l id) none i) | inr i ↦ class_of p o.likeness.types o.likeness.bares id i ];
  whole = λ id g. all.whole id (of_class p o.likeness.types o.likeness.bares id g);
  values = k.valued (h.valued start);
}
  where
    all : ListsMore a.types.keys c.types.keys (Either p o.likeness.types o.likeness.bares)
    all = lists_on a.types.keys b.types.keys c.types.keys (OrPointer o.likeness.types (IsDeclaredBase p.declared p o.likeness.types o.likeness.bares)) (OrPointer o.likeness.types (IsStructBase (length p.types.terms) o.likeness.types o.likeness.bares))
        (subst (λ (l : Likeness). ListsMore a.types.keys b.types.keys (OrPointer l.types (IsDeclaredBase p.declared p l.types l.bares))) (sym (extends_on h.extends k.extends).likeness) h.listed)
        (subst (λ (l : Likeness). ListsMore b.types.keys c.types.keys (OrPointer l.types (IsStructBase (length p.types.terms) l.types l.bares))) (sym k.extends.likeness) k.listed)

    start : AreValued m a.types.keys a.values.items
    start = subst (λ (l : List TypeId). AreValued m l a.values.items) (sym none) (subst (λ (l : List ℕ). AreValued m [] l) (sym nothing) record { count = refl; valued = λ i id g. absurd (nothing_at g) })

pub pointed_all : (p : Program) (m n o : Numbers) (a b c : ClassList) → AddsBases m n a b (IsDeclaredBase p.declared p m.likeness.types m.likeness.bares) → AddsBases n o b c (IsStructBase (length p.types.terms) n.likeness.types n.likeness.bares) → ArePointed o.likeness.types (IsBase p o.likeness.types o.likeness.bares)
pointed_all p m n o a b c h k = λ to g. elim (to_base p o.likeness.types o.likeness.bares to g) [ inl i ↦ declared to i | inr i ↦ structs to i ]
  where
    declared : ArePointed o.likeness.types (IsDeclaredBase p.declared p o.likeness.types o.likeness.bares)
    declared = subst (λ (l : Likeness). ArePointed l.types (IsDeclaredBase p.declared p l.types l.bares)) (sym (extends_on h.extends k.extends).likeness) h.pointed

    structs : ArePointed o.likeness.types (IsStructBase (length p.types.terms) o.likeness.types o.likeness.bares)
    structs = subst (λ (l : Likeness). ArePointed l.types (IsStructBase (length p.types.terms) l.types l.bares)) (sym k.extends.likeness) k.pointed

pub listed_later : (p : Program) (m n : Numbers) (list : ClassList) → Extends m n → AreListed p m list → AreListed p n list
listed_later p m n list e h = record {
  only = λ id g. subst (λ (l : Likeness). IsClass p l.types l.bares id) (sym e.likeness) (h.only id g);
  whole = λ id g. h.whole id (subst (λ (l : Likeness). IsClass p l.types l.bares id) e.likeness g);
  values = valued_later m n list.types.keys list.values.items e h.values;
}

pub pointed_later : (p : Program) (m n : Numbers) → Extends m n → ArePointed m.likeness.types (IsBase p m.likeness.types m.likeness.bares) → ArePointed n.likeness.types (IsBase p n.likeness.types n.likeness.bares)
pointed_later p m n e h = subst (λ (l : Likeness). ArePointed l.types (IsBase p l.types l.bares)) (sym e.likeness) h
