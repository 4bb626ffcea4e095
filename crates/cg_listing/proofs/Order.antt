-- The order of lines, from that of the rows that hold them.
use Rattle.std.proofs.Common.{◌≡◌, ◌<◌, ◌+◌, ℕ, zero, suc, List, [], ◌∷◌, Bool, false, map, length, get_or, refl, ap, ◌∙◌, arith}
use Rattle.std.proofs.lemmas.List.{length-map}
use Rattle.std.specs.List.Sorted.{IsSortedBy}
use Rattle.std.specs.declared.cmp.Ordering.{Ordering}
use Rattle.std.specs.declared.cmp.Ordering.TheVariants.{Less, Equal, Greater}
use Rattle.std.specs.Ordering.{is_lt, ordering_then}
use Rattle.go_sources.specs.declared.sources.SourceFile.{SourceFile}
use Rattle.cg_listing.specs.Listing.{line_by}
use Rattle.cg_sets.specs.declared.edges.Edge.{Edge}

front_alone : (s t : Ordering) → is_lt (ordering_then s t) ≡ false → is_lt s ≡ false
front_alone Less t h = h
front_alone Equal t h = refl
front_alone Greater t h = refl

below : (p a b : Ordering) → (is_lt a ≡ false → is_lt b ≡ false) → is_lt (ordering_then p a) ≡ false → is_lt (ordering_then p b) ≡ false
below Less a b f h = h
below Equal a b f h = f h
below Greater a b f h = refl

-- where the last of five comparisons is left out
pub four_of_five : (p q r s t : Ordering) → is_lt (ordering_then p (ordering_then q (ordering_then r (ordering_then s t)))) ≡ false → is_lt (ordering_then p (ordering_then q (ordering_then r s))) ≡ false
four_of_five p q r s t = below p _ _ (below q _ _ (below r _ _ (front_alone s t)))

get_or-map : {X Y : Type 0} (f : X → Y) (xs : List X) (k : ℕ) (x : X) (y : Y) → k < length xs → get_or (map f xs) k y ≡ f (get_or xs k x)
get_or-map f [] k x y h = absurd (omega arith)
get_or-map f (z ∷ xs) zero x y h = refl
get_or-map f (z ∷ xs) (suc k) x y h = get_or-map f xs k x y (omega arith)

sorted_from : {X Y : Type 0} (lt : X → X → Bool) (less : Y → Y → Bool) (f : X → Y) → ((a b : X) → lt a b ≡ false → less (f a) (f b) ≡ false) → (xs : List X) (x : X) → IsSortedBy lt xs → IsSortedBy less (map f xs)
sorted_from lt less f keeps xs x sorted = λ k d low high.
    let count = length-map xs f in
    let later : k + 1 < length xs = omega arith in
    let here : k < length xs = omega arith in
    ap (λ u. less u (get_or (map f xs) k d)) (get_or-map f xs (k + 1) x d later)
    ∙ (ap (λ v. less (f (get_or xs (k + 1) x)) v) (get_or-map f xs k x d here) ∙ keeps (get_or xs (k + 1) x) (get_or xs k x) (sorted k x low later))

pub sorted_map : {X Y : Type 0} (lt : X → X → Bool) (less : Y → Y → Bool) (f : X → Y) → ((a b : X) → lt a b ≡ false → less (f a) (f b) ≡ false) → (xs : List X) → IsSortedBy lt xs → IsSortedBy less (map f xs)
sorted_map lt less f keeps [] sorted = λ k d low high. absurd (omega arith)
sorted_map lt less f keeps (x ∷ xs) sorted = sorted_from lt less f keeps (x ∷ xs) x sorted

-- lines by names that are the same are the same
pub lines_by-same : (f g : ℕ → List ℕ) → ((k : ℕ) → f k ≡ g k) → (files : List SourceFile) (edges : List Edge) → map (line_by f files) edges ≡ map (line_by g files) edges
lines_by-same f g same files [] = refl
lines_by-same f g same files (e ∷ edges) =
    let caller = same e.caller.number in
    let callee = same e.callee.number in
    let rest = lines_by-same f g same files edges in
    cc
