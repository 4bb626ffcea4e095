-- How much groups wait for.
use Rattle.std.proofs.Common.{◌≡◌, ◌≢◌, ◌<◌, ◌≤◌, ◌+◌, ◌∙◌, ℕ, suc, zero, Bool, true, false, List, [], ◌∷◌, ◌++◌, ◌⊎◌, inl, inr, refl, sym, ap, arith, eq-eqb}
use Rattle.std.specs.Prelude.{◌&&◌, ◌||◌, not, nat_eq, if◌then◌else◌}
use Rattle.std.proofs.lemmas.Bool.{eqb-true}
use Rattle.go_graph.specs.Graph.{IsAmong}
use Rattle.init_order.specs.declared.edges.Edge.{Edge}
use Rattle.init_order.specs.Groups.{has, waits, sources, times}

-- a test, true or false
pub by_bool : (b : Bool) → (b ≡ true) ⊎ (b ≡ false)
by_bool true = inl refl
by_bool false = inr refl

pub has_among : (x : ℕ) (xs : List ℕ) → has x xs ≡ true → IsAmong x xs
has_among x [] h = cc
has_among x (y ∷ ys) h =
    elim (by_bool (nat_eq x y)) [
      | inl e ↦ inl (eqb-true x y e)
      | inr e ↦ inr (has_among x ys (ap (λ b. b || has x ys) (sym e) ∙ h))
    ]

or_true : (b : Bool) → (b || true) ≡ true
or_true true = refl
or_true false = refl

pub among_has : (x : ℕ) (xs : List ℕ) → IsAmong x xs → has x xs ≡ true
among_has x [] h = absurd h
among_has x (y ∷ ys) (inl e) = ap (λ b. b || has x ys) (eq-eqb x y e)
among_has x (y ∷ ys) (inr h) = ap (λ b. nat_eq x y || b) (among_has x ys h) ∙ or_true (nat_eq x y)

or_swap : (a b c : Bool) → (a || (b || c)) ≡ (b || (a || c))
or_swap true true c = refl
or_swap true false c = refl
or_swap false true c = refl
or_swap false false c = refl

-- one more is taken
pub has_more : (x h : ℕ) (xs : List ℕ) → has x (xs ++ h ∷ []) ≡ (nat_eq x h || has x xs)
has_more x h [] = refl
has_more x h (y ∷ ys) = ap (λ b. nat_eq x y || b) (has_more x h ys) ∙ or_swap (nat_eq x y) (nat_eq x h) (has x ys)

one_step : (b1 b2 b3 : Bool) (W W2 T : ℕ) → (b2 ≡ true → b3 ≡ false) → W ≡ W2 + T
    → (if b1 && not b3 then suc W else W) ≡ (if b1 && not (b2 || b3) then suc W2 else W2) + (if b2 then (if b1 then suc T else T) else T)
one_step true true true W W2 T no_3 e = let f = no_3 refl in cc
one_step true true false W W2 T no_3 e = omega arith
one_step true false true W W2 T no_3 e = e
one_step true false false W W2 T no_3 e = omega arith
one_step false true true W W2 T no_3 e = e
one_step false true false W W2 T no_3 e = e
one_step false false true W W2 T no_3 e = e
one_step false false false W W2 T no_3 e = e

times_if : (b2 : Bool) (g x : ℕ) (xs : List ℕ) → times g (if b2 then x ∷ xs else xs) ≡ (if b2 then (if nat_eq x g then suc (times g xs) else times g xs) else times g xs)
times_if true g x xs = refl
times_if false g x xs = refl

pub waits_less : (edges : List Edge) (taken : List ℕ) (h g : ℕ) → has h taken ≡ false → waits edges taken g ≡ waits edges (taken ++ h ∷ []) g + times g (sources edges h)
waits_less [] taken h g new = refl
waits_less (e ∷ edges) taken h g new =
    one_step (nat_eq e.leaves g) (nat_eq e.enters h) (has e.enters taken) (waits edges taken g) (waits edges (taken ++ h ∷ []) g) (times g (sources edges h))
    (λ same. ap (λ x. has x taken) (eqb-true e.enters h same) ∙ new) (waits_less edges taken h g new)
    ∙ ap (λ b. (if nat_eq e.leaves g && not b then suc (waits edges (taken ++ h ∷ []) g) else waits edges (taken ++ h ∷ []) g)
    + (if nat_eq e.enters h then (if nat_eq e.leaves g then suc (times g (sources edges h)) else times g (sources edges h)) else times g (sources edges h))) (sym (has_more e.enters h taken))
    ∙ ap (λ t. (if nat_eq e.leaves g && not (has e.enters (taken ++ h ∷ [])) then suc (waits edges (taken ++ h ∷ []) g) else waits edges (taken ++ h ∷ []) g) + t)
    (sym (times_if (nat_eq e.enters h) g e.leaves (sources edges h)))

-- an edge from a group to one that is not taken
pub record Open (edges : List Edge) (taken : List ℕ) (g : ℕ) : Type 0 where
  pub to : ℕ
  pub is_edge : IsAmong (record { leaves = g; enters = to }) edges
  pub is_left : has to taken ≡ false

open_more : (e : Edge) (edges : List Edge) (taken : List ℕ) (g : ℕ) → Open edges taken g → Open (e ∷ edges) taken g
open_more e edges taken g o = record { to = o.to; is_edge = inr o.is_edge; is_left = o.is_left }

not_back : (b : Bool) → not b ≡ true → b ≡ false
not_back true h = cc
not_back false h = refl

open_by : (e : Edge) (edges : List Edge) (taken : List ℕ) (g : ℕ) (b1 b3 : Bool) → nat_eq e.leaves g ≡ b1 → has e.enters taken ≡ b3
    → (waits edges taken g ≡ 0) ⊎ Open edges taken g
    → ((if b1 && not b3 then suc (waits edges taken g) else waits edges taken g) ≡ 0) ⊎ Open (e ∷ edges) taken g
open_by e edges taken g true true e1 e3 (inl h) = inl h
open_by e edges taken g true false e1 e3 more =
    inr (record { to = e.enters; is_edge = inl (ap (λ (a : ℕ). let x : Edge = record { leaves = a; enters = e.enters } in x) (sym (eqb-true e.leaves g e1))); is_left = e3 })
open_by e edges taken g false b3 e1 e3 (inl h) = inl h
open_by e edges taken g b1 b3 e1 e3 (inr o) = inr (open_more e edges taken g o)

pub is_open : (edges : List Edge) (taken : List ℕ) (g : ℕ) → (waits edges taken g ≡ 0) ⊎ Open edges taken g
is_open [] taken g = inl refl
is_open (e ∷ edges) taken g = open_by e edges taken g (nat_eq e.leaves g) (has e.enters taken) refl refl (is_open edges taken g)

waits_none_by : (b1 b3 : Bool) (W : ℕ) → (if b1 && not b3 then suc W else W) ≡ 0 → (W ≡ 0) × (b1 ≡ true → b3 ≡ true)
waits_none_by true true W h = (h, λ _. refl)
waits_none_by true false W h = absurd (omega arith)
waits_none_by false b3 W h = (h, λ e. cc)

pub waits_none : (edges : List Edge) (taken : List ℕ) (g : ℕ) (e : Edge) → waits edges taken g ≡ 0 → IsAmong e edges → e.leaves ≡ g → has e.enters taken ≡ true
waits_none [] taken g e none h same = absurd h
waits_none (d ∷ edges) taken g e none (inl is) same =
    let parts = waits_none_by (nat_eq d.leaves g) (has d.enters taken) (waits edges taken g) none in
    ap (λ (x : Edge). has x.enters taken) is ∙ parts.1 (eq-eqb d.leaves g (ap (λ (x : Edge). x.leaves) (sym is) ∙ same))
waits_none (d ∷ edges) taken g e none (inr h) same =
    waits_none edges taken g e (waits_none_by (nat_eq d.leaves g) (has d.enters taken) (waits edges taken g) none).0 h same

-- an edge from one group to another
pub record Source (edges : List Edge) (g h : ℕ) : Type 0 where
  pub is_edge : IsAmong (record { leaves = g; enters = h }) edges

source_by : (d : Edge) (edges : List Edge) (g h : ℕ) (b : Bool) → nat_eq d.enters h ≡ b → (IsAmong g (sources edges h) → Source edges g h)
    → IsAmong g (if b then d.leaves ∷ sources edges h else sources edges h) → Source (d ∷ edges) g h
source_by d edges g h true same more (inl e) =
    record { is_edge = inl (ap (λ (a : ℕ). let x : Edge = record { leaves = a; enters = h } in x) e ∙ ap (λ (b : ℕ). let x : Edge = record { leaves = d.leaves; enters = b } in x) (sym (eqb-true d.enters h same))) }
source_by d edges g h true same more (inr k) = let s = more k in record { is_edge = inr s.is_edge }
source_by d edges g h false same more k = let s = more k in record { is_edge = inr s.is_edge }

pub source : (edges : List Edge) (g h : ℕ) → IsAmong g (sources edges h) → Source edges g h
source [] g h k = absurd k
source (d ∷ edges) g h k = source_by d edges g h (nat_eq d.enters h) refl (source edges g h) k

-- how many numbers below a bound are not taken
abbrev pub untaken : ℕ → List ℕ → ℕ
untaken zero taken = 0
untaken (suc k) taken = (if has k taken then 0 else 1) + untaken k taken

less_by : (b c : Bool) (U V : ℕ) → (b ≡ true → c ≡ true) → V ≤ U → (if c then 0 else 1) + V ≤ (if b then 0 else 1) + U
less_by true true U V h le = omega arith
less_by true false U V h le = let f = h refl in cc
less_by false true U V h le = omega arith
less_by false false U V h le = omega arith

or_right : (a b : Bool) → b ≡ true → (a || b) ≡ true
or_right true b h = refl
or_right false b h = h

pub taken_stays : (x h : ℕ) (taken : List ℕ) → has x taken ≡ true → has x (taken ++ h ∷ []) ≡ true
taken_stays x h taken e = has_more x h taken ∙ or_right (nat_eq x h) (has x taken) e

untaken_le : (n h : ℕ) (taken : List ℕ) → untaken n (taken ++ h ∷ []) ≤ untaken n taken
untaken_le zero h taken = omega arith
untaken_le (suc k) h taken = less_by (has k taken) (has k (taken ++ h ∷ [])) (untaken k taken) (untaken k (taken ++ h ∷ [])) (taken_stays k h taken) (untaken_le k h taken)

fewer_by : (b c : Bool) (U V : ℕ) → b ≡ false → c ≡ true → V ≤ U → (if c then 0 else 1) + V < (if b then 0 else 1) + U
fewer_by true c U V e f le = cc
fewer_by false true U V e f le = omega arith
fewer_by false false U V e f le = cc

fewer_on : (b c : Bool) (U V : ℕ) → (b ≡ true → c ≡ true) → V < U → (if c then 0 else 1) + V < (if b then 0 else 1) + U
fewer_on true true U V h le = omega arith
fewer_on true false U V h le = let f = h refl in cc
fewer_on false true U V h le = omega arith
fewer_on false false U V h le = omega arith

pub untaken_fewer : (n h : ℕ) (taken : List ℕ) → h < n → has h taken ≡ false → untaken n (taken ++ h ∷ []) < untaken n taken
untaken_fewer zero h taken less new = absurd (omega arith)
untaken_fewer (suc k) h taken less new =
    elim (by_bool (nat_eq h k)) [
      | inl e ↦
          let same = eqb-true h k e in
          fewer_by (has k taken) (has k (taken ++ h ∷ [])) (untaken k taken) (untaken k (taken ++ h ∷ []))
          (ap (λ x. has x taken) (sym same) ∙ new) (has_more k h taken ∙ ap (λ b. b || has k taken) (eq-eqb k h (sym same))) (untaken_le k h taken)
      | inr e ↦
          let differ : h ≢ k = λ same. (let f = eq-eqb h k same in cc) in
          let low : h < k = omega arith in
          fewer_on (has k taken) (has k (taken ++ h ∷ [])) (untaken k taken) (untaken k (taken ++ h ∷ [])) (taken_stays k h taken) (untaken_fewer k h taken low new)
    ]
