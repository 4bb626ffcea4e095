-- Rows of numbers.
use Rattle.std.proofs.Common.{◌≡◌, ◌<◌, ◌+◌, ◌∙◌, ℕ, suc, zero, List, [], ◌∷◌, ◌++◌, ◌⊎◌, inl, inr, Result, Ok, Err, OnOk, OnErr, length, map, get_or, replicate, refl, sym, ap, subst, Vec, Global, add-one, arith, append_assoc}
use Rattle.std.proofs.Math.ListN.{set}
use Rattle.go_graph.specs.Graph.{IsAmong, IsGraph, next}
use Rattle.std.specs.Vec.{with_items}
use Rattle.std.proofs.lemmas.List.{with_items_is}

-- what rows hold
abbrev pub rows_of : List (Vec ℕ Global) → List (List ℕ)
rows_of vs = map (λ (v : Vec ℕ Global). v.items) vs

pub rows_end : (vs : List (Vec ℕ Global)) (v : Vec ℕ Global) → rows_of (vs ++ v ∷ []) ≡ rows_of vs ++ v.items ∷ []
rows_end [] v = refl
rows_end (w ∷ vs) v = ap (λ l. w.items ∷ l) (rows_end vs v)

replicate_end : {A : Type 0} (n : ℕ) (x : A) → replicate n x ++ x ∷ [] ≡ replicate (suc n) x
replicate_end zero x = refl
replicate_end (suc n) x = ap (λ l. x ∷ l) (replicate_end n x)

pub one_more : (old now new : List (Vec ℕ Global)) (v : Vec ℕ Global) (n : ℕ) → rows_of now ≡ rows_of old ++ replicate n [] → new ≡ now ++ v ∷ [] → v.items ≡ []
    → rows_of new ≡ rows_of old ++ replicate (n + 1) []
one_more old now new v n so_far pushed empty =
    rw add-one (
    ap rows_of pushed ∙ rows_end now v ∙ ap (λ l. rows_of now ++ l ∷ []) empty ∙ ap (λ l. l ++ [] ∷ []) so_far
    ∙ append_assoc (rows_of old) (replicate n []) ([] ∷ []) ∙ ap (λ l. rows_of old ++ l) (replicate_end n [])
    )

pub rows_set : (vs : List (Vec ℕ Global)) (i : ℕ) (v : Vec ℕ Global) → rows_of (set vs i v) ≡ set (rows_of vs) i v.items
rows_set [] i v = refl
rows_set (w ∷ vs) zero v = refl
rows_set (w ∷ vs) (suc i) v = ap (λ l. w.items ∷ l) (rows_set vs i v)

pub row_of : (vs : List (Vec ℕ Global)) (i : ℕ) (d : Vec ℕ Global) → i < length vs → (get_or vs i d).items ≡ next (rows_of vs) i
row_of [] i d less = absurd (omega arith)
row_of (w ∷ vs) zero d less = refl
row_of (w ∷ vs) (suc i) d less = row_of vs i d (omega arith)

pub set_back : (vs : List (Vec ℕ Global)) (i : ℕ) (v : Vec ℕ Global) (d : Vec ℕ Global) → i < length vs → v.items ≡ (get_or vs i d).items → rows_of (set vs i v) ≡ rows_of vs
set_back [] i v d less e = refl
set_back (w ∷ vs) zero v d less e = ap (λ l. l ∷ rows_of vs) e
set_back (w ∷ vs) (suc i) v d less e = ap (λ l. w.items ∷ l) (set_back vs i v d (omega arith) e)

pub replicate_append : {A : Type 0} (m n : ℕ) (x : A) → replicate m x ++ replicate n x ≡ replicate (m + n) x
replicate_append zero n x = ap (λ k. replicate k x) (let e : n ≡ 0 + n = omega arith in e)
replicate_append (suc m) n x =
    ap (λ l. x ∷ l) (replicate_append m n x) ∙ ap (λ k. replicate k x) (let e : suc (m + n) ≡ suc m + n = omega arith in e)

replicate_next : (n x : ℕ) → next (replicate n []) x ≡ []
replicate_next zero x = refl
replicate_next (suc n) zero = refl
replicate_next (suc n) (suc x) = replicate_next n x

pub replicate_length : {A : Type 0} (n : ℕ) (x : A) → length (replicate n x) ≡ n
replicate_length zero x = refl
replicate_length (suc n) x = let e = replicate_length n x in omega arith

pub empty_graph : (n : ℕ) → IsGraph (replicate n [])
empty_graph n x y h = absurd (subst (IsAmong y) (replicate_next n x) h)

set_size : {A : Type 0} (xs : List A) (i : ℕ) (v : A) → length (set xs i v) ≡ length xs
set_size [] i v = refl
set_size (x ∷ xs) zero v = omega arith
set_size (x ∷ xs) (suc i) v = let e = set_size xs i v in omega arith

among_end : (y t : ℕ) (xs : List ℕ) → IsAmong y (xs ++ t ∷ []) → IsAmong y xs ⊎ (y ≡ t)
among_end y t [] (inl e) = inr e
among_end y t [] (inr h) = absurd h
among_end y t (x ∷ xs) (inl e) = inl (inl e)
among_end y t (x ∷ xs) (inr h) = elim (among_end y t xs h) [ inl a ↦ inl (inr a) | inr b ↦ inr b ]

set_next : (rows : List (List ℕ)) (i : ℕ) (t x y : ℕ) → IsAmong y (next (set rows i (next rows i ++ t ∷ [])) x) → IsAmong y (next rows x) ⊎ (y ≡ t)
set_next [] i t x y h = inl h
set_next (r ∷ rows) zero t zero y h = among_end y t r h
set_next (r ∷ rows) zero t (suc x) y h = inl h
set_next (r ∷ rows) (suc i) t zero y h = inl h
set_next (r ∷ rows) (suc i) t (suc x) y h = set_next rows i t x y h

pub edge_size : (rows : List (List ℕ)) (i t : ℕ) → length (set rows i (next rows i ++ t ∷ [])) ≡ length rows
edge_size rows i t = set_size rows i (next rows i ++ t ∷ [])

pub edge_graph : (rows : List (List ℕ)) (i t : ℕ) → IsGraph rows → t < length rows → IsGraph (set rows i (next rows i ++ t ∷ []))
edge_graph rows i t graph less x y h =
    let size = edge_size rows i t in
    elim (set_next rows i t x y h) [
      | inl old ↦ let low = graph x y old in omega arith
      | inr is ↦ omega arith
    ]

pub on_err : {T E : Type 0} {P : Type 0} (r : Result T E) → P → OnErr r P
on_err (Ok x) p = tt
on_err (Err e) p = p

pub three_parts : (a b c d : List (Vec ℕ Global)) (v s f : ℕ) → a ≡ [] → rows_of b ≡ rows_of a ++ replicate v [] → rows_of c ≡ rows_of b ++ replicate s [] → rows_of d ≡ rows_of c ++ replicate f []
    → rows_of d ≡ replicate (v + s + f) []
three_parts a b c d v s f none first second third =
    let one : rows_of b ≡ replicate v [] = first ∙ ap (λ l. rows_of l ++ replicate v []) none in
    third ∙ ap (λ l. l ++ replicate f []) (second ∙ ap (λ l. l ++ replicate s []) one ∙ replicate_append v s []) ∙ replicate_append (v + s) f []

pub is_new_graph : (rows : List (List ℕ)) (n : ℕ) → rows ≡ replicate n [] → (length rows ≡ n) × IsGraph rows
is_new_graph rows n is = (ap length is ∙ replicate_length n [], subst IsGraph (sym is) (empty_graph n))

edge_keeps : {T E : Type 0} (r : Result T E) (old new : List (List ℕ)) (i t k : ℕ) → OnOk r (new ≡ set old i (next old i ++ t ∷ [])) → OnErr r (new ≡ old) → (length old ≡ k) × IsGraph old
    → t < length old → (length new ≡ k) × IsGraph new
edge_keeps (Ok x) old new i t k ok err was less =
    subst (λ rows. (length rows ≡ k) × IsGraph rows) (sym ok) (edge_size old i t ∙ was.0, edge_graph old i t was.1 less)
edge_keeps (Err e) old new i t k ok err was less = subst (λ rows. (length rows ≡ k) × IsGraph rows) (sym err) was

pub still_graph : {T E : Type 0} (r : Result T E) (v : Vec (Vec ℕ Global) Global) (now new : List (Vec ℕ Global)) (i t k : ℕ) → now ≡ v.items → length new ≡ length now → length now ≡ v.len
    → OnOk r (rows_of new ≡ set (rows_of now) i (next (rows_of now) i ++ t ∷ [])) → OnErr r (rows_of new ≡ rows_of now) → (length (rows_of v.items) ≡ k) × IsGraph (rows_of v.items)
    → t < length (rows_of v.items) → (length (rows_of (with_items v new).items) ≡ k) × IsGraph (rows_of (with_items v new).items)
still_graph r v now new i t k same size len ok err was less =
    subst (λ l. (length (rows_of l) ≡ k) × IsGraph (rows_of l)) (sym (with_items_is v new (size ∙ len)))
    (edge_keeps r (rows_of now) (rows_of new) i t k ok err (subst (λ l. (length (rows_of l) ≡ k) × IsGraph (rows_of l)) (sym same) was) (subst (λ l. t < length (rows_of l)) (sym same) less))
