-- The candidates of all groups: those of values, of functions and of classes.
use Rattle.std.proofs.Common.{◌≡◌, ◌⊎◌, ◌<◌, ◌≤◌, ◌+◌, ◌++◌, ℕ, zero, suc, List, [], ◌∷◌, Option, Some, None, inl, inr, refl, sym, ap, ◌∙◌, subst, length, slice_get, arith}
use Rattle.std.proofs.lemmas.Bool.{cases_lt}
use Rattle.go_base.specs.declared.ids.FuncId.{FuncId}
use Rattle.go_tree.specs.declared.program.Program.{Program}
use Rattle.cg_nodes.specs.declared.nodes.Group.{Group}
use Rattle.cg_nodes.specs.declared.nodes.Mention.TheVariants as mention
use Rattle.cg_nodes.specs.declared.nodes.Value.{Value}
use Rattle.cg_numbers.specs.Alike.{like_value}
use Rattle.cg_numbers.specs.Numbered.{IsAt, IsOnce, Extends}
use Rattle.cg_numbers.specs.Sites.{Stands}
use Rattle.cg_numbers.specs.declared.likeness.Likeness.{Likeness}
use Rattle.cg_numbers.specs.declared.numbers.Numbers.{Numbers}
use Rattle.cg_numbers.proofs.Collecting.{extends_on, extends_self}
use Rattle.cg_numbers.proofs.Lists.{has_at}
use Rattle.cg_sets.specs.Answering.{AreAnswers, ArePlaced, IsListed, ListsMade, OfFunctions, OfGroup, OfGroups, OfThis, OfValues, Puts, placed_in}
use Rattle.cg_sets.specs.Candidates.{Answers, OfClass, OfFunction, OfValue, Standing}
use Rattle.cg_sets.specs.Numbering.{CandidateAt}
use Rattle.cg_sets.specs.declared.candidates.Candidate.{Candidate}
use Rattle.cg_sets.specs.declared.candidates.Placed.{Placed}
use Rattle.cg_sets.proofs.Implementers.{place_below}
use Rattle.cg_sets.proofs.Putting.{puts_next, puts_on, puts_placed}
use Rattle.cg_solve.specs.Lists.{Has}

some_same : {A : Type 0} (x y : A) (o : Option A) → o ≡ Some x → o ≡ Some y → x ≡ y
some_same x y o h k = let e : Some x ≡ Some y = sym h ∙ k in cc

-- ---- one more

below_next : (i k : ℕ) → i < k → i < k + 1
below_next i k h = omega arith

below_self : (k : ℕ) → k < k + 1
below_self k = omega arith

last_below : (i k : ℕ) → k ≤ i → i < k + 1 → i ≡ k
last_below i k h g = omega arith

none_below : (i : ℕ) → i < 0 → ⊥
none_below i h = omega arith

module _ (p : Program) (l : Likeness) where
  pub values_none : (values : List Value) (g : Group) (s : Standing) → OfValues p l values 0 g s → ⊥
  values_none values g s h = none_below h.0 h.2

  pub values_to : (values : List Value) (k : ℕ) (v : Value) → IsAt values k v → (g : Group) (s : Standing) → OfValues p l values k g s ⊎ OfThis p l v g s → OfValues p l values (k + 1) g s
  values_to values k v at g s (inl h) = (h.0, h.1, below_next h.0 k h.2, h.3, h.4)
  values_to values k v at g s (inr h) = (k, v, below_self k, at, h)

  pub values_from : (values : List Value) (k : ℕ) (v : Value) → IsAt values k v → (g : Group) (s : Standing) → OfValues p l values (k + 1) g s → OfValues p l values k g s ⊎ OfThis p l v g s
  values_from values k v at g s h = elim (cases_lt h.0 k) [
    | inl i ↦ inl (h.0, h.1, i, h.3, h.4)
    | inr i ↦ (
        let here : IsAt values k h.1 = subst (λ (j : ℕ). IsAt values j h.1) (last_below h.0 k i h.2) h.3 in
        inr (subst (λ (w : Value). OfThis p l w g s) (some_same h.1 v (slice_get values k) here at) h.4))
  ]

  pub functions_none : (g : Group) (s : Standing) → OfFunctions p l 0 g s → ⊥
  functions_none g s h = none_below h.0.number h.1

  pub functions_to : (k : ℕ) (g : Group) (s : Standing) → OfFunctions p l k g s ⊎ OfFunction p l.types l.bares (record { number = k }) g s → OfFunctions p l (k + 1) g s
  functions_to k g s (inl h) = (h.0, below_next h.0.number k h.1, h.2)
  functions_to k g s (inr h) = (record { number = k }, below_self k, h)

  pub functions_from : (k : ℕ) (g : Group) (s : Standing) → OfFunctions p l (k + 1) g s → OfFunctions p l k g s ⊎ OfFunction p l.types l.bares (record { number = k }) g s
  functions_from k g s h = elim (cases_lt h.0.number k) [
    | inl i ↦ inl (h.0, i, h.2)
    | inr i ↦ inr (subst (λ (j : ℕ). OfFunction p l.types l.bares (record { number = j }) g s) (last_below h.0.number k i h.1) h.2)
  ]

  module _ (groups : List Group) where
    pub groups_none : (g : Group) (s : Standing) → OfGroups p l groups 0 g s → ⊥
    groups_none g s h = none_below h.0 h.1

    pub groups_to : (k : ℕ) (g : Group) (s : Standing) → OfGroups p l groups k g s ⊎ OfGroup p l groups k g s → OfGroups p l groups (k + 1) g s
    groups_to k g s (inl h) = (h.0, below_next h.0 k h.1, h.2)
    groups_to k g s (inr h) = (k, below_self k, h)

    pub groups_from : (k : ℕ) (g : Group) (s : Standing) → OfGroups p l groups (k + 1) g s → OfGroups p l groups k g s ⊎ OfGroup p l groups k g s
    groups_from k g s h = elim (cases_lt h.0 k) [
      | inl i ↦ inl (h.0, i, h.2)
      | inr i ↦ inr (subst (λ (j : ℕ). OfGroup p l groups j g s) (last_below h.0 k i h.1) h.2)
    ]

-- ---- all

-- a listed value is one that is made
pub is_listed : (p : Program) (n : Numbers) (made : ListsMade p n) (i : ℕ) (v : Value) → IsAt n.values.keys i v → IsListed p n.likeness v
is_listed p n made i v at = made.only v (has_at n.values.keys i v at)

module _ (p : Program) (a b c d : Numbers) (x : Extends a b) (y : Extends b c) (z : Extends c d) (made : ListsMade p a) (start first second last : ℕ → List Candidate) where
  abbrev All : Group → Standing → Type 0
  All g s = (OfValues p a.likeness a.values.keys (length a.values.keys) g s ⊎ OfFunctions p b.likeness (length p.functions) g s) ⊎ OfGroups p d.likeness d.groups.keys (length d.groups.keys) g s

  from_a : d.likeness ≡ a.likeness
  from_a = (extends_on x (extends_on y z)).likeness

  from_b : d.likeness ≡ b.likeness
  from_b = (extends_on y z).likeness

  to_answers : (g : Group) (s : Standing) → All g s → Answers p d.likeness.types d.likeness.bares g s
  to_answers g s (inl (inl h)) = let of = h.4 in Answers.of_value of.0 of.1 g s of.2 (subst (λ (l : Likeness). OfValue p l.types l.bares of.1 g s) (sym from_a) of.4)
  to_answers g s (inl (inr h)) = Answers.of_function h.0 g s (subst (λ (l : Likeness). OfFunction p l.types l.bares h.0 g s) (sym from_b) h.2)
  to_answers g s (inr h) = Answers.of_class g s h.2.1

  function_below : (types : _) (bares : _) (f : FuncId) (g : Group) (s : Standing) → OfFunction p types bares f g s → f.number < length p.functions
  function_below types bares _ _ _ (OfFunction.function f decl e form there) = place_below p.functions f.number decl e

  from_answers : (k : ℕ) (g : Group) (s : Standing) → IsAt d.groups.keys k g → Answers p d.likeness.types d.likeness.bares g s → All g s
  from_answers k _ _ at (Answers.of_value f v g s stands of) =
      let place = made.whole f v stands in
      let like = like_value a.likeness.types a.likeness.bares v in
      inl (inl (place.0, like, place_below a.values.keys place.0 like place.1, place.1, (f, v, stands, refl, subst (λ (l : Likeness). OfValue p l.types l.bares v g s) from_a of)))
  from_answers k _ _ at (Answers.of_function f g s of) = inl (inr (f, function_below d.likeness.types d.likeness.bares f g s of, subst (λ (l : Likeness). OfFunction p l.types l.bares f g s) from_b of))
  from_answers k _ _ at (Answers.of_class g s of) = inr (k, place_below d.groups.keys k g at, (at, of))

  pub answers_all : ((k : ℕ) → start k ≡ []) → IsOnce d.groups.keys → Puts b start first (OfValues p a.likeness a.values.keys (length a.values.keys)) → Puts c first second (OfFunctions p b.likeness (length p.functions))
      → Puts d second last (OfGroups p d.likeness d.groups.keys (length d.groups.keys)) → AreAnswers p d last
  answers_all empty once values functions groups = record {
    only = λ k i h. elim (puts.only k i h) [
      | inl g ↦ absurd (subst (λ (l : List Candidate). Has l i) (empty k) g)
      | inr r ↦ (r.0, r.1, to_answers r.0 r.1 r.2, r.3, r.4)
    ];
    whole = λ k g s at h. (
        let r = puts.whole g s (from_answers k g s at h) in
        (r.1, subst (λ (j : ℕ). Has (last j) r.1) (once r.0 k g r.2 at) r.3, r.4));
  }
    where
      puts : Puts d start last All
      puts = puts_on c d start second last (λ g s. OfValues p a.likeness a.values.keys (length a.values.keys) g s ⊎ OfFunctions p b.likeness (length p.functions) g s) (OfGroups p d.likeness d.groups.keys (length d.groups.keys)) z
          (puts_on b c start first second (OfValues p a.likeness a.values.keys (length a.values.keys)) (OfFunctions p b.likeness (length p.functions)) y values functions) groups

-- ---- turns of loops

place_at : {A : Type 0} (xs : List A) (k : ℕ) → k < length xs → (x : A) × IsAt xs k x
place_at [] k h = absurd (none_below k h)
place_at (y ∷ xs) zero h = (y, refl)
place_at (y ∷ xs) (suc k) h = place_at xs k (less k (length xs) h)
  where
    less : (i j : ℕ) → suc i < suc j → i < j
    less i j g = omega arith

pub values_turn : (p : Program) (o m n : Numbers) (k : ℕ) (a b c : ℕ → List Candidate) (x : Option Placed) → k < length o.values.keys → ListsMade p o → Extends o m → m.values ≡ o.values → Extends m n
    → ((v : Value) → IsAt m.values.keys k v → IsListed p m.likeness v → ArePlaced n (OfThis p m.likeness v) x) → ((j : ℕ) → c j ≡ b j ++ placed_in j x)
    → Puts m a b (OfValues p o.likeness o.values.keys k) → Puts n a c (OfValues p o.likeness o.values.keys (k + 1))
values_turn p o m n k a b c x less made e same f placed put h =
    let at = place_at o.values.keys k less in
    let v = at.0 in
    let there : IsAt m.values.keys k v = subst (λ s. IsAt s.keys k v) (sym same) at.1 in
    let listed : IsListed p m.likeness v = subst (λ (l : Likeness). IsListed p l v) (sym e.likeness) (is_listed p o made k v at.1) in
    let this : ArePlaced n (OfThis p o.likeness v) x = subst (λ (l : Likeness). ArePlaced n (OfThis p l v) x) e.likeness (placed v there listed) in
    puts_next m n a b c (OfValues p o.likeness o.values.keys k) (OfThis p o.likeness v) (OfValues p o.likeness o.values.keys (k + 1)) (values_to p o.likeness o.values.keys k v at.1) (values_from p o.likeness o.values.keys k v at.1) f h
    (puts_placed n b c (OfThis p o.likeness v) x put this)

pub functions_turn : (p : Program) (l : Likeness) (m n : Numbers) (k : ℕ) (a b c : ℕ → List Candidate) (x : Option Placed) → m.likeness ≡ l → Extends m n → ArePlaced n (OfFunction p m.likeness.types m.likeness.bares (record { number = k })) x → ((j : ℕ) → c j ≡ b j ++ placed_in j x)
    → Puts m a b (OfFunctions p l k) → Puts n a c (OfFunctions p l (k + 1))
functions_turn p l m n k a b c x e f placed put h =
    let this : ArePlaced n (OfFunction p l.types l.bares (record { number = k })) x = subst (λ (y : Likeness). ArePlaced n (OfFunction p y.types y.bares (record { number = k })) x) e placed in
    puts_next m n a b c (OfFunctions p l k) (OfFunction p l.types l.bares (record { number = k })) (OfFunctions p l (k + 1)) (functions_to p l k) (functions_from p l k) f h
    (puts_placed n b c (OfFunction p l.types l.bares (record { number = k })) x put this)

pub groups_turn : (p : Program) (n : Numbers) (k : ℕ) (a b c : ℕ → List Candidate) → Puts n a b (OfGroups p n.likeness n.groups.keys k) → Puts n b c (OfGroup p n.likeness n.groups.keys k) → Puts n a c (OfGroups p n.likeness n.groups.keys (k + 1))
groups_turn p n k a b c h g =
    puts_next n n a b c (OfGroups p n.likeness n.groups.keys k) (OfGroup p n.likeness n.groups.keys k) (OfGroups p n.likeness n.groups.keys (k + 1)) (groups_to p n.likeness n.groups.keys k) (groups_from p n.likeness n.groups.keys k) (extends_self n) h g
