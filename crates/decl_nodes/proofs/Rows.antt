-- Rows of numbers, and marks by components.
use Rattle.std.proofs.Common.{◌≡◌, ◌<◌, ◌+◌, ◌∙◌, ℕ, suc, zero, Bool, List, [], ◌∷◌, ◌++◌, Result, Ok, Err, OnErr, IfOk, length, map, get_or, replicate, slice_index, refl, sym, ap, Vec, Global, add-one, arith}
use Rattle.std.proofs.Math.ListN.{set}
use Rattle.std.proofs.lemmas.List.{length-map}
use Rattle.go_graph.specs.Graph.{AreComponents, next}
use Rattle.go_graph.specs.Marks.{AreMarks, AreReaching, ReachesMark, marked}
use Rattle.go_graph.proofs.MarkLaws.{marked_within}

-- what rows hold
abbrev pub rows_of : List (Vec ℕ Global) → List (List ℕ)
rows_of vs = map (λ (v : Vec ℕ Global). v.items) vs

pub rows_end : (vs : List (Vec ℕ Global)) (v : Vec ℕ Global) → rows_of (vs ++ v ∷ []) ≡ rows_of vs ++ v.items ∷ []
rows_end [] v = refl
rows_end (w ∷ vs) v = ap (λ l. w.items ∷ l) (rows_end vs v)

replicate_end : {A : Type 0} (n : ℕ) (x : A) → replicate n x ++ x ∷ [] ≡ replicate (suc n) x
replicate_end zero x = refl
replicate_end (suc n) x = ap (λ l. x ∷ l) (replicate_end n x)

pub one_row_more : (now new : List (Vec ℕ Global)) (v : Vec ℕ Global) (n : ℕ) → rows_of now ≡ replicate n [] → new ≡ now ++ v ∷ [] → v.items ≡ [] → rows_of new ≡ replicate (n + 1) []
one_row_more now new v n so_far pushed empty =
    rw add-one (ap rows_of pushed ∙ rows_end now v ∙ ap (λ l. rows_of now ++ l ∷ []) empty ∙ ap (λ l. l ++ [] ∷ []) so_far ∙ replicate_end n [])

pub rows_set : (vs : List (Vec ℕ Global)) (i : ℕ) (v : Vec ℕ Global) → rows_of (set vs i v) ≡ set (rows_of vs) i v.items
rows_set [] i v = refl
rows_set (w ∷ vs) zero v = refl
rows_set (w ∷ vs) (suc i) v = ap (λ l. w.items ∷ l) (rows_set vs i v)

pub row_of : (vs : List (Vec ℕ Global)) (i : ℕ) (d : Vec ℕ Global) → i < length vs → (get_or vs i d).items ≡ next (rows_of vs) i
row_of [] i d less = absurd (omega arith)
row_of (w ∷ vs) zero d less = refl
row_of (w ∷ vs) (suc i) d less = row_of vs i d (omega arith)

pub set_back : (vs : List (Vec ℕ Global)) (i : ℕ) (v d : Vec ℕ Global) → i < length vs → v.items ≡ (get_or vs i d).items → rows_of (set vs i v) ≡ rows_of vs
set_back [] i v d less e = refl
set_back (w ∷ vs) zero v d less e = ap (λ l. l ∷ rows_of vs) e
set_back (w ∷ vs) (suc i) v d less e = ap (λ l. w.items ∷ l) (set_back vs i v d (omega arith) e)

pub on_err : {T E : Type 0} {P : Type 0} (r : Result T E) → P → OnErr r P
on_err (Ok x) p = tt
on_err (Err e) p = p

pub if_ok : {T E : Type 0} {P Q : T → Type 0} (r : Result T E) → IfOk r P → ((x : T) → P x → Q x) → IfOk r Q
if_ok (Ok x) p f = f x p
if_ok (Err e) p f = tt

pub marked_map : (f : ℕ → Bool) (xs : List ℕ) (x : ℕ) → x < length xs → marked (map f xs) x ≡ f (slice_index xs x)
marked_map f [] x less = absurd (omega arith)
marked_map f (y ∷ xs) zero less = refl
marked_map f (y ∷ xs) (suc x) less = marked_map f xs x (omega arith)

-- the marks of nodes by those of their components
pub node_marks : (rows : List (List ℕ)) (of order : List ℕ) (marks flags v : List Bool) (n : ℕ) → AreComponents rows of order → AreReaching rows of order marks flags → v ≡ map (marked flags) of
    → n ≡ length rows → AreMarks n (ReachesMark rows marks) v
node_marks rows of order marks flags v n components reaching is count =
    let size : length v ≡ length of = ap length is ∙ length-map of (marked flags) in
    let sizes = components.sizes in
    let at : (x : ℕ) → x < length rows → marked v x ≡ marked flags (slice_index of x) = λ x less. ap (λ l. marked l x) is ∙ marked_map (marked flags) of x (omega arith) in
    record {
      size = size ∙ sizes ∙ sym count;
      sound = λ x e. (let less = marked_within v x e in let low : x < length rows = omega arith in reaching.sound x low (sym (at x low) ∙ e));
      complete = λ x less r. (let low : x < length rows = omega arith in at x low ∙ reaching.complete x low r);
    }
