-- Tests of lists, and of the items that stand at places.
use Rattle.std.proofs.Common.{◌≡◌, ℕ, arith, inl, inr, ◌<◌, ◌≤◌, ◌++◌, zero, suc, Contains, Bool, true, false, List, [], ◌∷◌, length, get_or, take, ◌+◌, sym, ap, ◌∙◌, refl, subst}
use Rattle.std.specs.Prelude.{◌&&◌, if◌then◌else◌, slice_get, Option, Some, unwrap_or}
use Rattle.std.specs.List.{All, flat_map, list_all, list_any}
use Rattle.std.proofs.lemmas.List.Folds.{list_all-append, list_all_at}
use Rattle.std.proofs.lemmas.List.Elements.{All-more, Contains-append_cases, Contains-append_left, Contains-append_right}
use Rattle.std.proofs.lemmas.Bool.{cases_lt}
use Rattle.std.proofs.lemmas.List.{get_or_append_left, get_or_default, length-append, take_all}
use Rattle.std.proofs.Math.Seq.{get_or-append_seam}
use Rattle.indexmap.specs.IndexSet.{insert_key}
use Rattle.indexmap.proofs.CallerLemmas.{Contains-insert_key}
use Rattle.go_base.specs.declared.ids.TypeId.{TypeId}
use Rattle.go_type.specs.Same.{both, same_id, same_id-Decides}
use Rattle.ssa_ir.specs.declared.operands.Operand.{Operand}
use Rattle.ssa_ir.specs.declared.ops.PhiEdge.{PhiEdge}
use Rattle.ssa_ir.specs.declared.ops.SelectCase.{SelectCase}
use Rattle.ssa_ir.specs.declared.ops.SelectCase.TheVariants as case
use Rattle.ssa_runnable.specs.Runnable.{operands_of_cases, operands_of_edges}

pub all_three : {A : Type 0} (test : A → Bool) (xs ys zs : List A)
    → list_all test (xs ++ (ys ++ zs)) ≡ (list_all test xs && (list_all test ys && list_all test zs))
all_three test xs ys zs =
    list_all-append test xs (ys ++ zs) ∙ ap (λ b. list_all test xs && b) (list_all-append test ys zs)

-- the operands of edges, and of cases, one after another
pub edges_mean : (test : Operand → Bool) (edges : List PhiEdge)
    → list_all (λ edge. test edge.value) edges ≡ list_all test (operands_of_edges edges)
edges_mean test [] = refl
edges_mean test (edge ∷ edges) = ap (λ b. test edge.value && b) (edges_mean test edges)

and_all : (a b c : Bool) → (a && (b && true)) && c ≡ a && (b && c)
and_all false b c = refl
and_all true true c = refl
and_all true false c = refl

and_one : (a c : Bool) → (a && true) && c ≡ a && c
and_one false c = refl
and_one true c = refl

pub cases_mean : (test : Operand → Bool) (cases : List SelectCase)
    → list_all (λ it. list_all test (operands_of_cases (it ∷ []))) cases ≡ list_all test (operands_of_cases cases)
cases_mean test [] = refl
cases_mean test (case.Send channel it ∷ cases) =
    and_all (test channel) (test it) (list_all (λ it. list_all test (operands_of_cases (it ∷ []))) cases)
    ∙ ap (λ b. test channel && (test it && b)) (cases_mean test cases)
cases_mean test (case.Receive channel ∷ cases) =
    and_one (test channel) (list_all (λ it. list_all test (operands_of_cases (it ∷ []))) cases)
    ∙ ap (λ b. test channel && b) (cases_mean test cases)

-- what stands in a list of which all pass a test passes it
pub some_same : {A : Type 0} (x y : A) → ◌≡◌ {A = Option A} (Some x) (Some y) → x ≡ y
some_same x y e = ap (λ o. unwrap_or o x) e

pub all_at : {A : Type 0} (test : A → Bool) (xs : List A) (i : ℕ) (x : A) → list_all test xs ≡ true
    → slice_get xs i ≡ Some x → test x ≡ true
all_at test [] i x h e = cc
all_at test (y ∷ xs) zero x h e = ap test (sym (some_same y x e)) ∙ (both (test y) (list_all test xs) h).0
all_at test (y ∷ xs) (suc i) x h e = all_at test xs i x (both (test y) (list_all test xs) h).1 e

-- what an item that stands in a list gives is in what all give
pub flat_at : {A B : Type 0} (g : A → List B) (xs : List A) (i : ℕ) (x : A) (y : B) → slice_get xs i ≡ Some x
    → Contains (g x) y → Contains (flat_map g xs) y
flat_at g [] i x y e h = cc
flat_at g (z ∷ xs) zero x y e h =
    Contains-append_left (g z) (flat_map g xs) y (subst (λ v. Contains (g v) y) (sym (some_same z x e)) h)
flat_at g (z ∷ xs) (suc i) x y e h = Contains-append_right (g z) (flat_map g xs) y (flat_at g xs i x y e h)

-- all pass a test where each that stands in the list does
pub all_from : {A : Type 0} (test : A → Bool) (xs : List A)
    → ((i : ℕ) (x : A) → slice_get xs i ≡ Some x → test x ≡ true) → list_all test xs ≡ true
all_from test [] h = refl
all_from test (x ∷ xs) h =
    ap (λ b. b && list_all test xs) (h 0 x refl) ∙ all_from test xs (λ i y e. h (suc i) y e)

-- an item whose gift has something, of a list
pub record IsGiven {A B : Type 0} (g : A → List B) (xs : List A) (y : B) : Type 0 where
  pub place : ℕ
  pub item : A
  pub stands : slice_get xs place ≡ Some item
  pub has : Contains (g item) y

pub none_in : {A : Type 0} (y : A) → Contains [] y → ⊥
none_in y h = let no : h.0 < 0 = h.1 in omega (arith, no)

-- what is in the gifts of all is in that of one
pub flat_from : {A B : Type 0} (g : A → List B) (xs : List A) (y : B) → Contains (flat_map g xs) y → IsGiven g xs y
flat_from g [] y h = absurd (none_in y h)
flat_from g (x ∷ xs) y h = elim (Contains-append_cases (g x) (flat_map g xs) y h) [
  | inl first ↦ record { place = 0; item = x; stands = refl; has = first }
  | inr later ↦
      let rest = flat_from g xs y later in
      record { place = suc rest.place; item = rest.item; stands = rest.stands; has = rest.has }
]

-- ---- loops over edges and cases

module _ (test : Operand → Bool) where
  pub edges_fail : (edges : List PhiEdge) (i : ℕ) (edge : PhiEdge) → i < length edges → edge ≡ get_or edges i edge
      → test edge.value ≡ false → list_all test (operands_of_edges edges) ≡ false
  edges_fail edges i edge l is h =
      sym (edges_mean test edges)
      ∙ list_all_at (λ (it : PhiEdge). test it.value) edges i edge l (ap (λ (it : PhiEdge). test it.value) (sym is) ∙ h)

  pub edges_pass : (edges : List PhiEdge) (i : ℕ) → length edges ≤ i
      → list_all (λ edge. test edge.value) (take i edges) ≡ true → list_all test (operands_of_edges edges) ≡ true
  edges_pass edges i l h =
      sym (edges_mean test edges)
      ∙ ap (list_all (λ (it : PhiEdge). test it.value)) (sym (take_all i edges l)) ∙ h

  abbrev case_means : SelectCase → Bool
  case_means it = list_all test (operands_of_cases (it ∷ []))

  pub cases_fail : (cases : List SelectCase) (i : ℕ) (it : SelectCase) → i < length cases → it ≡ get_or cases i it
      → case_means it ≡ false → list_all test (operands_of_cases cases) ≡ false
  cases_fail cases i it l is h =
      sym (cases_mean test cases) ∙ list_all_at case_means cases i it l (ap case_means (sym is) ∙ h)

  pub cases_pass : (cases : List SelectCase) (i : ℕ) → length cases ≤ i
      → list_all case_means (take i cases) ≡ true → list_all test (operands_of_cases cases) ≡ true
  cases_pass cases i l h = sym (cases_mean test cases) ∙ ap (list_all case_means) (sym (take_all i cases l)) ∙ h

-- ---- sets

still : (eq : TypeId → TypeId → Bool) (keys : List TypeId) (of other : TypeId) → Contains keys other
    → Contains (insert_key eq keys of) other
still eq keys of other h = by (list_any (eq of) keys)
  where
    by : (b : Bool) → Contains (if b then keys else keys ++ of ∷ []) other
    by true = h
    by false = Contains-append_left keys (of ∷ []) other h

pub set_more : (types : List TypeId) (i : ℕ) (d : TypeId) (old now : List TypeId) → i < length types
    → now ≡ insert_key same_id old (get_or types i d) → All (Contains old) (take i types)
    → All (Contains now) (take (i + 1) types)
set_more types i d old now l e all =
    let of = get_or types i d in
    subst (λ (keys : List TypeId). All (Contains keys) (take (i + 1) types)) (sym e)
    (All-more (Contains (insert_key same_id old of)) types i d l
    (λ k other w. still same_id old of (get_or (take i types) k other) (all k other w))
    (Contains-insert_key same_id (λ x y h. (same_id-Decides x y).0 h) old of))

-- and nothing else comes into it
pub set_within : (types : List TypeId) (i : ℕ) (d : TypeId) (old now : List TypeId) → i < length types
    → now ≡ insert_key same_id old (get_or types i d) → All (Contains types) old → All (Contains types) now
set_within types i d old now l e all =
    subst (λ (keys : List TypeId). All (Contains types) keys) (sym e) (by (list_any (same_id (get_or types i d)) old))
  where
    one : Contains types (get_or types i d)
    one = (i, l, get_or_default types i (get_or types i d) d l)

    more : All (Contains types) (old ++ get_or types i d ∷ [])
    more k other w = elim (cases_lt k (length old)) [
      | inl v ↦ subst (Contains types) (sym (get_or_append_left old (get_or types i d ∷ []) other k v)) (all k other v)
      | inr v ↦
          let last : k ≡ length old = (let size = length-append old (get_or types i d ∷ []) in omega (arith, size, w, v)) in
          subst (Contains types)
          (sym (ap (λ n. get_or (old ++ get_or types i d ∷ []) n other) last
          ∙ get_or-append_seam old (get_or types i d) [] other)) one
    ]

    by : (b : Bool) → All (Contains types) (if b then old else old ++ get_or types i d ∷ [])
    by true = all
    by false = more

pub set_whole : (types keys : List TypeId) (i : ℕ) → length types ≤ i → All (Contains keys) (take i types)
    → All (Contains keys) types
set_whole types keys i l all = subst (λ (xs : List TypeId). All (Contains keys) xs) (take_all i types l) all
