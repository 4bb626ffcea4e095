-- What groups become that are told.
use Rattle.std.proofs.Common.{◌≡◌, ◌≢◌, ◌<◌, ◌-◌, ◌∙◌, ℕ, suc, zero, Bool, true, false, List, [], ◌∷◌, ◌++◌, ◌⊎◌, inl, inr, Option, Some, None, length, refl, sym, ap, arith}
use Rattle.std.proofs.Math.ListN.{set}
use Rattle.std.specs.Prelude.{◌==◌, slice_index, slice_index_or, if◌then◌else◌}
use Rattle.std.specs.Ordering.{nat_cmp, match_ordering}
use Rattle.std.specs.declared.cmp.Ordering.{Ordering}
use Rattle.std.specs.declared.cmp.Ordering.TheVariants.{Less, Equal, Greater}
use Rattle.std.proofs.lemmas.Cmp.{ranked}
use Rattle.std.specs.BTreeSet.{insert_key}
use Rattle.std.proofs.lemmas.Bool.{eqb-true, eqb-false}
use Rattle.go_graph.specs.Graph.{IsAmong}
use Rattle.init_order.specs.declared.edges.Edge.{Edge}
use Rattle.init_order.specs.Groups.{State, released, passed, told}
use Rattle.init_order.specs.Taking.{IsTaking}
use Rattle.init_order.proofs.Kahn.{told_stays, told_frees, told_readies}

index_same : (xs : List ℕ) (i v : ℕ) → i < length xs → slice_index (set xs i v) i ≡ v
index_same [] i v less = absurd (omega arith)
index_same (x ∷ xs) zero v less = refl
index_same (x ∷ xs) (suc i) v less = index_same xs i v (omega arith)

index_other : (xs : List ℕ) (i j v : ℕ) → j ≢ i → slice_index (set xs i v) j ≡ slice_index xs j
index_other [] i j v differ = refl
index_other (x ∷ xs) zero zero v differ = absurd (differ refl)
index_other (x ∷ xs) zero (suc j) v differ = refl
index_other (x ∷ xs) (suc i) zero v differ = refl
index_other (x ∷ xs) (suc i) (suc j) v differ = index_other xs i j v (λ e. differ (ap suc e))

set_length : {A : Type 0} (xs : List A) (i : ℕ) (v : A) → length (set xs i v) ≡ length xs
set_length [] i v = refl
set_length (x ∷ xs) zero v = omega arith
set_length (x ∷ xs) (suc i) v = let e = set_length xs i v in omega arith

-- what is kept of a state
pub record Keeps (n : ℕ) (edges : List Edge) (label : ℕ → Option ℕ) (group : ℕ → ℕ) (pending : List ℕ) (s : State) : Type 0 where
  pub size : length s.waiting ≡ n
  pub taking : IsTaking n edges label group pending (slice_index s.waiting) s.free s.ready s.taken

new_by : (o : Ordering) (s x : ℕ) (xs : List ℕ) → o ≡ nat_cmp s x → IsAmong s (insert_key nat_cmp xs s)
    → IsAmong s (match_ordering o (s ∷ x ∷ xs) (x ∷ xs) (x ∷ insert_key nat_cmp xs s))
new_by Less s x xs e more = inl refl
new_by Equal s x xs e more = inl (ranked s x Equal e)
new_by Greater s x xs e more = inr more

insert_new : (xs : List ℕ) (s : ℕ) → IsAmong s (insert_key nat_cmp xs s)
insert_new [] s = inl refl
insert_new (x ∷ xs) s = new_by (nat_cmp s x) s x xs refl (insert_new xs s)

old_by : (o : Ordering) (s x y : ℕ) (xs : List ℕ) → (IsAmong y xs → IsAmong y (insert_key nat_cmp xs s)) → IsAmong y (x ∷ xs)
    → IsAmong y (match_ordering o (s ∷ x ∷ xs) (x ∷ xs) (x ∷ insert_key nat_cmp xs s))
old_by Less s x y xs more h = inr h
old_by Equal s x y xs more h = h
old_by Greater s x y xs more (inl e) = inl e
old_by Greater s x y xs more (inr h) = inr (more h)

insert_old : (xs : List ℕ) (s y : ℕ) → IsAmong y xs → IsAmong y (insert_key nat_cmp xs s)
insert_old [] s y h = absurd h
insert_old (x ∷ xs) s y h = old_by (nat_cmp s x) s x y xs (insert_old xs s y) h

only_by : (o : Ordering) (s x y : ℕ) (xs : List ℕ) → (IsAmong y (insert_key nat_cmp xs s) → (y ≡ s) ⊎ IsAmong y xs)
    → IsAmong y (match_ordering o (s ∷ x ∷ xs) (x ∷ xs) (x ∷ insert_key nat_cmp xs s)) → (y ≡ s) ⊎ IsAmong y (x ∷ xs)
only_by Less s x y xs more (inl e) = inl e
only_by Less s x y xs more (inr h) = inr h
only_by Equal s x y xs more h = inr h
only_by Greater s x y xs more (inl e) = inr (inl e)
only_by Greater s x y xs more (inr h) = elim (more h) [ inl e ↦ inl e | inr k ↦ inr (inr k) ]

insert_only : (xs : List ℕ) (s y : ℕ) → IsAmong y (insert_key nat_cmp xs s) → (y ≡ s) ⊎ IsAmong y xs
insert_only [] s y (inl e) = inl e
insert_only [] s y (inr h) = absurd h
insert_only (x ∷ xs) s y h = only_by (nat_cmp s x) s x y xs (insert_only xs s y) h

module _ (n : ℕ) (edges : List Edge) (labels : List (Option ℕ)) (group : ℕ → ℕ) (of_label : (g s : ℕ) → slice_index_or labels g None ≡ Some s → group s ≡ g) where
  keeps_released : (p : ℕ) (pending : List ℕ) (s : State) (o : Option ℕ) → slice_index_or labels p None ≡ o → Keeps n edges (λ g. slice_index_or labels g None) group (p ∷ pending) s
      → slice_index s.waiting p - 1 ≡ 0
      → Keeps n edges (λ g. slice_index_or labels g None) group pending (released o p (record s { waiting = set s.waiting p (slice_index s.waiting p - 1) }))
  keeps_released p pending s None none k zero_left =
      let less : p < length s.waiting = (let a = (k.taking.to_tell p (inl refl)).0 in let b = k.size in omega arith) in
      let it = index_same s.waiting p (slice_index s.waiting p - 1) less in
      record {
        size = set_length s.waiting p (slice_index s.waiting p - 1) ∙ k.size;
        taking = told_frees n edges (λ g. slice_index_or labels g None) group p pending (slice_index s.waiting) (slice_index (set s.waiting p (slice_index s.waiting p - 1))) s.free s.ready (s.free ++ p ∷ []) s.ready s.taken k.taking it
            (λ g differ. index_other s.waiting p g (slice_index s.waiting p - 1) differ)
            (record { none = it ∙ zero_left; is_label = none; more_free = refl; same_ready = refl });
      }
  keeps_released p pending s (Some step) some k zero_left =
      let less : p < length s.waiting = (let a = (k.taking.to_tell p (inl refl)).0 in let b = k.size in omega arith) in
      let it = index_same s.waiting p (slice_index s.waiting p - 1) less in
      record {
        size = set_length s.waiting p (slice_index s.waiting p - 1) ∙ k.size;
        taking = told_readies n edges (λ g. slice_index_or labels g None) group p pending (slice_index s.waiting) (slice_index (set s.waiting p (slice_index s.waiting p - 1))) s.free s.ready s.free (insert_key nat_cmp s.ready step) s.taken k.taking it
            (λ g differ. index_other s.waiting p g (slice_index s.waiting p - 1) differ) of_label
            (record { step = step; none = it ∙ zero_left; is_label = some; same_free = refl; new = insert_new s.ready step; old = λ x h. insert_old s.ready step x h; only = λ x h. insert_only s.ready step x h });
      }

  keeps_by : (p : ℕ) (pending : List ℕ) (s : State) (b : Bool) → (slice_index s.waiting p - 1 == 0) ≡ b → Keeps n edges (λ g. slice_index_or labels g None) group (p ∷ pending) s
      → Keeps n edges (λ g. slice_index_or labels g None) group pending
      (if b then released (slice_index_or labels p None) p (record s { waiting = set s.waiting p (slice_index s.waiting p - 1) }) else record s { waiting = set s.waiting p (slice_index s.waiting p - 1) })
  keeps_by p pending s true is k = keeps_released p pending s (slice_index_or labels p None) refl k (eqb-true (slice_index s.waiting p - 1) 0 is)
  keeps_by p pending s false is k =
      let less : p < length s.waiting = (let a = (k.taking.to_tell p (inl refl)).0 in let b = k.size in omega arith) in
      let it = index_same s.waiting p (slice_index s.waiting p - 1) less in
      record {
        size = set_length s.waiting p (slice_index s.waiting p - 1) ∙ k.size;
        taking = told_stays n edges (λ g. slice_index_or labels g None) group p pending (slice_index s.waiting) (slice_index (set s.waiting p (slice_index s.waiting p - 1))) s.free s.ready s.free s.ready s.taken k.taking it
            (λ g differ. index_other s.waiting p g (slice_index s.waiting p - 1) differ)
            (λ e. eqb-false (slice_index s.waiting p - 1) 0 is (sym it ∙ e)) (record { same_free = refl; same_ready = refl });
      }

  pub keeps_passed : (p : ℕ) (pending : List ℕ) (s : State) → Keeps n edges (λ g. slice_index_or labels g None) group (p ∷ pending) s → Keeps n edges (λ g. slice_index_or labels g None) group pending (passed labels p s)
  keeps_passed p pending s k = keeps_by p pending s (slice_index s.waiting p - 1 == 0) refl k

  pub keeps_told : (pending : List ℕ) (s : State) → Keeps n edges (λ g. slice_index_or labels g None) group pending s → Keeps n edges (λ g. slice_index_or labels g None) group [] (told labels pending s)
  keeps_told [] s k = k
  keeps_told (p ∷ pending) s k = keeps_told pending (passed labels p s) (keeps_passed p pending s k)
