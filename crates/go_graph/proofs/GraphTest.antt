-- The tests that each edge leads to a node, and that each fault is at one.
use Rattle.std.proofs.Common.{◌≡◌, ◌↔◌, IsTrue, inl, inr, refl, ℕ, zero, suc, ◌<◌, Bool, true, false, ◌&&◌, nat_lt, List, [], ◌∷◌, length, arith}
use Rattle.std.proofs.lemmas.Bool.Decides.{nat_tests}
use Rattle.go_graph.specs.declared.fault.Fault.{Fault}
use Rattle.go_graph.specs.Silence.{are_at_nodes, AreAtNodes}
use Rattle.go_graph.specs.Graph.{IsAmong, next, are_below, all_below, IsGraph}

both : (a b : Bool) → (a && b) ≡ true → (a ≡ true) × (b ≡ true)
both true b h = (refl, h)
both false b h = cc

and : (a b : Bool) → a ≡ true → b ≡ true → (a && b) ≡ true
and true b h k = k
and false b h k = cc

less_is : (x n : ℕ) → nat_lt x n ≡ true → x < n
less_is x n h = grind (arith, nat_tests)

is_less : (x n : ℕ) → x < n → nat_lt x n ≡ true
is_less x n h = grind (arith, nat_tests)

below_is : (n : ℕ) (xs : List ℕ) → are_below n xs ≡ true → (y : ℕ) → IsAmong y xs → y < n
below_is n [] h y among = absurd among
below_is n (x ∷ xs) h y (inl same) = let less = less_is x n (both (nat_lt x n) (are_below n xs) h).0 in rw same less
below_is n (x ∷ xs) h y (inr more) = below_is n xs (both (nat_lt x n) (are_below n xs) h).1 y more

is_below : (n : ℕ) (xs : List ℕ) → ((y : ℕ) → IsAmong y xs → y < n) → are_below n xs ≡ true
is_below n [] h = refl
is_below n (x ∷ xs) h = and (nat_lt x n) (are_below n xs) (is_less x n (h x (inl refl))) (is_below n xs (λ y among. h y (inr among)))

all_is : (n : ℕ) (rows : List (List ℕ)) → all_below n rows ≡ true → (x y : ℕ) → IsAmong y (next rows x) → y < n
all_is n [] h x y among = absurd among
all_is n (row ∷ rows) h zero y among = below_is n row (both (are_below n row) (all_below n rows) h).0 y among
all_is n (row ∷ rows) h (suc x) y among = all_is n rows (both (are_below n row) (all_below n rows) h).1 x y among

is_all : (n : ℕ) (rows : List (List ℕ)) → ((x y : ℕ) → IsAmong y (next rows x) → y < n) → all_below n rows ≡ true
is_all n [] h = refl
is_all n (row ∷ rows) h = and (are_below n row) (all_below n rows) (is_below n row (h 0)) (is_all n rows (λ x. h (suc x)))

pub graph_test : (rows : List (List ℕ)) → IsTrue (all_below (length rows) rows) ↔ IsGraph rows
graph_test rows = ((λ h. all_is (length rows) rows h), (λ h. is_all (length rows) rows h))

nodes_are : (n : ℕ) (faults : List Fault) → are_at_nodes n faults ≡ true → (f : Fault) → IsAmong f faults → f.node < n
nodes_are n [] h f among = absurd among
nodes_are n (g ∷ gs) h f (inl same) = let less = less_is g.node n (both (nat_lt g.node n) (are_at_nodes n gs) h).0 in rw same less
nodes_are n (g ∷ gs) h f (inr more) = nodes_are n gs (both (nat_lt g.node n) (are_at_nodes n gs) h).1 f more

are_nodes : (n : ℕ) (faults : List Fault) → ((f : Fault) → IsAmong f faults → f.node < n) → are_at_nodes n faults ≡ true
are_nodes n [] h = refl
are_nodes n (g ∷ gs) h = and (nat_lt g.node n) (are_at_nodes n gs) (is_less g.node n (h g (inl refl))) (are_nodes n gs (λ f among. h f (inr among)))

pub nodes_test : (n : ℕ) (faults : List Fault) → IsTrue (are_at_nodes n faults) ↔ AreAtNodes n faults
nodes_test n faults = ((λ h. nodes_are n faults h), (λ h. are_nodes n faults h))
