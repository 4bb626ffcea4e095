-- The first violation that no other silences, among those in order.
use Rattle.std.proofs.Common.{◌≡◌, ◌<◌, inl, inr, sym, refl, ap, subst, ℕ, zero, suc, false, List, [], ◌∷◌, Option, Some, None, MatchOption, length, map, get_or, slice_get, arith}
use Rattle.std.specs.Cmp.{IsTotalOrder}
use Rattle.std.specs.List.Sorted.{IsPermutation, IsSortedBy}
use Rattle.std.specs.Ordering.{is_lt}
use Rattle.std.proofs.lemmas.Cmp.{nat_cmp_total, on_total, then_total}
use Rattle.std.proofs.lemmas.List.Sorted.{Contains-permutation, IsPermutation-sym, ranks_by, sorted_far}
use Rattle.go_base.specs.declared.place.Pos.{Pos}
use Rattle.go_base.specs.Rules.{row_of}
use Rattle.go_graph.specs.declared.fault.Fault.{Fault}
use Rattle.go_graph.specs.Graph.{IsAmong}
use Rattle.go_graph.specs.Silence.{IsFirst, IsUnsilenced, Silences}
use Rattle.go_graph.proofs.Lists.{among_at, at_among, before_or, get_within}
use Rattle.decl_nodes.specs.declared.violations.Violation.{Violation}
use Rattle.decl_nodes.specs.Violated.{IsBroken, IsFirstBroken, fault_of, violation_cmp}

violation_cmp-total : IsTotalOrder violation_cmp
violation_cmp-total =
    then_total (on_total (λ (v : Violation). v.package) nat_cmp_total)
    (then_total (on_total (λ (v : Violation). v.at) (then_total (on_total (λ (p : Pos). p.file) nat_cmp_total) (on_total (λ (p : Pos). p.offset) nat_cmp_total))) (on_total (λ (v : Violation). row_of v.rule) nat_cmp_total))

get_is : {A : Type 0} (xs : List A) (i : ℕ) (d x : A) → slice_get xs i ≡ Some x → get_or xs i d ≡ x
get_is [] i d x h = cc
get_is (y ∷ xs) zero d x h = cc
get_is (y ∷ xs) (suc i) d x h = get_is xs i d x h

among_moved : {A : Type 0} (xs ys : List A) (x : A) → IsPermutation xs ys → IsAmong x xs → IsAmong x ys
among_moved xs ys x moved among =
    let at = at_among x xs among in
    let there = Contains-permutation xs ys x moved (at.0, get_within xs at.0 x at.1, get_is xs at.0 x x at.1) in
    among_by ys there.0 x there.1 there.2
  where
    among_by : {A : Type 0} (ys : List A) (k : ℕ) (x : A) → k < length ys → get_or ys k x ≡ x → IsAmong x ys
    among_by [] k x less is = absurd (omega arith)
    among_by (y ∷ ys) zero x less is = inl (sym is)
    among_by (y ∷ ys) (suc k) x less is = inr (among_by ys k x (omega arith) is)

among_map : (v : Violation) (xs : List Violation) → IsAmong v xs → IsAmong (fault_of v) (map fault_of xs)
among_map v [] h = absurd h
among_map v (x ∷ xs) (inl e) = inl (ap fault_of e)
among_map v (x ∷ xs) (inr h) = inr (among_map v xs h)

map_among : (f : Fault) (xs : List Violation) → IsAmong f (map fault_of xs) → (v : Violation) × IsAmong v xs × (f ≡ fault_of v)
map_among f [] h = absurd h
map_among f (x ∷ xs) (inl e) = (x, inl refl, e)
map_among f (x ∷ xs) (inr h) = let found = map_among f xs h in (found.0, inr found.1, found.2)

get_map : (xs : List Violation) (i : ℕ) (v : Violation) → slice_get xs i ≡ Some v → slice_get (map fault_of xs) i ≡ Some (fault_of v)
get_map [] i v h = cc
get_map (x ∷ xs) zero v h = let e : x ≡ v = cc in ap (λ (w : Violation). Some (fault_of w)) e
get_map (x ∷ xs) (suc i) v h = get_map xs i v h

module _ (edges : ℕ → List ℕ) (old sorted : List Violation) (moved : IsPermutation old sorted) where
  back : (v : Violation) → IsAmong v sorted → IsAmong v old
  back v = among_moved sorted old v (IsPermutation-sym old sorted moved)

  there : (v : Violation) → IsAmong v old → IsAmong v sorted
  there v = among_moved old sorted v moved

  is_unsilenced : (v : Violation) → IsBroken edges old v → IsUnsilenced edges (map fault_of sorted) (fault_of v)
  is_unsilenced v broken = record {
    is_fault = among_map v sorted (there v broken.violated);
    unsilenced = λ g among silences. (
        let found = map_among g sorted among in
        broken.heard found.0 (back found.0 found.1) (subst (λ f. Silences edges f (fault_of v)) found.2 silences)
        );
  }

  is_broken : (v : Violation) → IsAmong v sorted → IsUnsilenced edges (map fault_of sorted) (fault_of v) → IsBroken edges old v
  is_broken v among un = record {
    violated = back v among;
    heard = λ w is silences. un.unsilenced (fault_of w) (among_map w sorted (there w is)) silences;
  }

  pub none_first : map fault_of sorted ≡ [] → old ≡ []
  none_first none = by old there
    where
      no_more : (xs : List Violation) (v : Violation) → map fault_of xs ≡ [] → IsAmong v xs → ⊥
      no_more [] v e h = h
      no_more (x ∷ xs) v e h = cc

      by : (xs : List Violation) → ((v : Violation) → IsAmong v xs → IsAmong v sorted) → xs ≡ []
      by [] h = refl
      by (x ∷ xs) h = absurd (no_more sorted x none (h x (inl refl)))

  pub first_broken : IsSortedBy (λ v w. is_lt (violation_cmp v w)) sorted → (index : ℕ) (v : Violation) → slice_get sorted index ≡ Some v → IsFirst edges (map fault_of sorted) index → IsFirstBroken edges old v
  first_broken ascends index v at first = record {
    broken = is_broken v (among_at sorted index v at) (subst (IsUnsilenced edges (map fault_of sorted)) same first.unsilenced);
    first = λ w broken. (let place = at_among w sorted (there w broken.violated) in by_place w broken place.0 place.1);
  }
    where
      same : first.fault ≡ fault_of v
      same = let one = first.fault_is in let two = get_map sorted index v at in cc

      by_place : (w : Violation) → IsBroken edges old w → (k : ℕ) → slice_get sorted k ≡ Some w → is_lt (violation_cmp w v) ≡ false
      by_place w broken k is = elim (before_or k index) [
        | inl under ↦ absurd (first.before k (fault_of w) under (get_map sorted k w is) (is_unsilenced w broken))
        | inr over ↦ (
            let far = sorted_far (λ a b. is_lt (violation_cmp a b)) (ranks_by violation_cmp-total (λ (a : Violation). a)) sorted ascends index k v over (get_within sorted k w is) in
            subst (λ a. is_lt (violation_cmp a v) ≡ false) (get_is sorted k v w is)
            (subst (λ b. is_lt (violation_cmp (get_or sorted k v) b) ≡ false) (get_is sorted index v v at) far)
            )
      ]

  pub broken_or_none : IsSortedBy (λ v w. is_lt (violation_cmp v w)) sorted → (index : ℕ) → IsFirst edges (map fault_of sorted) index → MatchOption (slice_get sorted index) (old ≡ []) (IsFirstBroken edges old)
  broken_or_none ascends index first = by (slice_get sorted index) refl
    where
      lost : (xs : List Violation) (i : ℕ) (f : Fault) → slice_get xs i ≡ None → slice_get (map fault_of xs) i ≡ Some f → ⊥
      lost [] i f none some = cc
      lost (x ∷ xs) zero f none some = cc
      lost (x ∷ xs) (suc i) f none some = lost xs i f none some

      by : (o : Option Violation) → slice_get sorted index ≡ o → MatchOption o (old ≡ []) (IsFirstBroken edges old)
      by None e = absurd (lost sorted index first.fault e first.fault_is)
      by (Some v) e = first_broken ascends index v e first
