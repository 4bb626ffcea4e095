-- The lines of any edges have an order, and so any edges have a listing.
use Rattle.std.proofs.Common.{◌≡◌, ◌+◌, ℕ, zero, suc, Bool, true, false, List, [], ◌∷◌, map, refl, ap, subst, slice_index_or, arith}
use Rattle.std.proofs.lemmas.Cmp.{nat_cmp_total, nat_list_cmp_total, on_total, then_total}
use Rattle.std.proofs.lemmas.List.Sorted.{IsPermutation-refl, IsPermutation-cons, IsPermutation-middle, IsPermutation-trans}
use Rattle.std.specs.Cmp.{IsTotalOrder}
use Rattle.std.specs.List.Sorted.{IsPermutation, IsSortedBy}
use Rattle.std.specs.Ordering.{is_lt, ordering_reverse}
use Rattle.std.specs.declared.cmp.Ordering.{Ordering}
use Rattle.std.specs.declared.cmp.Ordering.TheVariants.{Less, Equal, Greater}
use Rattle.cg_listing.specs.Listing.{IsListing, Line, line_by, line_cmp, lines_text, name_of}
use Rattle.cg_sets.specs.declared.edges.Edge.{Edge}
use Rattle.go_sources.specs.declared.sources.SourceFile.{SourceFile}
use Rattle.go_tree.specs.declared.program.Program.{Program}

-- ---- any list has an order

-- what holds of the first, where there is one
abbrev AtHead : {X : Type 0} → (X → Type 0) → List X → Type 0
AtHead P [] = Unit {0}
AtHead P (x ∷ xs) = P x

module _ {X : Type 0} (lt : X → X → Bool) (once : (a b : X) → lt a b ≡ true → lt b a ≡ false) where
  sorted_cons : (y : X) (zs : List X) → AtHead (λ z. lt z y ≡ false) zs → IsSortedBy lt zs → IsSortedBy lt (y ∷ zs)
  sorted_cons y [] first sorted = λ k d low high. absurd (omega arith)
  sorted_cons y (z ∷ zs) first sorted = go
    where
      go : IsSortedBy lt (y ∷ z ∷ zs)
      go zero d low high = first
      go (suc k) d low high =
          let e : suc (k + 1) ≡ suc k + 1 = omega arith in
          subst (λ n. lt (slice_index_or (y ∷ z ∷ zs) n d) (slice_index_or (z ∷ zs) k d) ≡ false) e (sorted k d (omega arith) (omega arith))

  sorted_tail : (y : X) (zs : List X) → IsSortedBy lt (y ∷ zs) → IsSortedBy lt zs
  sorted_tail y zs sorted = λ k d low high.
      let e : suc k + 1 ≡ suc (k + 1) = omega arith in
      subst (λ n. lt (slice_index_or (y ∷ zs) n d) (slice_index_or zs k d) ≡ false) e (sorted (suc k) d (omega arith) (omega arith))

  sorted_head : (y : X) (zs : List X) → IsSortedBy lt (y ∷ zs) → AtHead (λ z. lt z y ≡ false) zs
  sorted_head y [] sorted = tt
  sorted_head y (z ∷ zs) sorted = sorted 0 y (omega arith) (omega arith)

  -- x is put into a list in order
  record Put (x : X) (ys : List X) : Type 0 where
    out : List X
    same : IsPermutation (x ∷ ys) out
    sorted : IsSortedBy lt out
    least : (y : X) → lt x y ≡ false → AtHead (λ z. lt z y ≡ false) ys → AtHead (λ z. lt z y ≡ false) out

  put : (x : X) (ys : List X) → IsSortedBy lt ys → Put x ys
  put x [] sorted = record {
    out = x ∷ [];
    same = IsPermutation-refl (x ∷ []);
    sorted = sorted_cons x [] tt sorted;
    least = λ y h first. h;
  }
  put x (y ∷ ys) sorted = go (lt y x) refl (put x ys (sorted_tail y ys sorted))
    where
      go : (b : Bool) → lt y x ≡ b → Put x ys → Put x (y ∷ ys)
      go false e more = record {
        out = x ∷ y ∷ ys;
        same = IsPermutation-refl (x ∷ y ∷ ys);
        sorted = sorted_cons x (y ∷ ys) e sorted;
        least = λ w h first. h;
      }
      go true e more = record {
        out = y ∷ more.out;
        same = IsPermutation-trans (x ∷ y ∷ ys) (y ∷ x ∷ ys) (y ∷ more.out) (IsPermutation-middle (x ∷ []) y ys) (IsPermutation-cons y (x ∷ ys) more.out more.same);
        sorted = sorted_cons y more.out (more.least y (once y x e) (sorted_head y ys sorted)) more.sorted;
        least = λ w h first. first;
      }

  pub some_order : (xs : List X) → (ys : List X) × IsPermutation xs ys × IsSortedBy lt ys
  some_order [] = ([], IsPermutation-refl [], λ k d low high. absurd (omega arith))
  some_order (x ∷ xs) =
      let rest = some_order xs in
      let all = put x rest.0 rest.2 in
      (all.out, IsPermutation-trans (x ∷ xs) (x ∷ rest.0) all.out (IsPermutation-cons x xs rest.0 rest.1) all.same, all.sorted)

-- ---- the order of lines

line_total : IsTotalOrder line_cmp
line_total = then_total (on_total (λ (l : Line). l.caller) nat_list_cmp_total) (then_total (on_total (λ (l : Line). l.path) nat_list_cmp_total) (then_total (on_total (λ (l : Line). l.site.offset) nat_cmp_total) (on_total (λ (l : Line). l.callee) nat_list_cmp_total)))

back : (o p : Ordering) → p ≡ ordering_reverse o → is_lt o ≡ true → is_lt p ≡ false
back Less p e h = ap is_lt e
back Equal p e h = ap is_lt e
back Greater p e h = cc

line_once : (a b : Line) → is_lt (line_cmp a b) ≡ true → is_lt (line_cmp b a) ≡ false
line_once a b h = back (line_cmp a b) (line_cmp b a) (line_total.antisymm b a) h

pub edges_listed : (files : List SourceFile) (program : Program) (edges : List Edge) → (text : List ℕ) × IsListing files program edges text
edges_listed files program edges =
    let lines = some_order (λ a b. is_lt (line_cmp a b)) line_once (map (line_by (name_of program) files) edges) in
    (lines_text files lines.0, record { lines = lines.0; order = record { same = lines.1; ascending = lines.2 }; whole = refl })
