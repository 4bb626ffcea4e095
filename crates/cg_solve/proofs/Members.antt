-- Members of lists.
use Rattle.std.proofs.Common.{◌≡◌, ◌⊎◌, ◌<◌, ◌≤◌, ◌+◌, ℕ, zero, suc, List, [], ◌∷◌, ◌++◌, Bool, true, false, inl, inr, refl, sym, ap, ◌∙◌, subst, append_assoc, flat_map, map, drop, length, get_or, arith, add-one}
use Rattle.std.specs.List.{All, Contains}
use Rattle.std.proofs.lemmas.Bool.{cases_lt}
use Rattle.cg_solve.specs.Lists.{Has, Each, each_below, when}

pub Has-left : {A : Type 0} (xs ys : List A) (x : A) → Has xs x → Has (xs ++ ys) x
Has-left [] ys x h = absurd h
Has-left (y ∷ xs) ys x (inl e) = inl e
Has-left (y ∷ xs) ys x (inr h) = inr (Has-left xs ys x h)

pub Has-right : {A : Type 0} (xs ys : List A) (x : A) → Has ys x → Has (xs ++ ys) x
Has-right [] ys x h = h
Has-right (y ∷ xs) ys x h = inr (Has-right xs ys x h)

pub Has-cases : {A : Type 0} (xs ys : List A) (x : A) → Has (xs ++ ys) x → Has xs x ⊎ Has ys x
Has-cases [] ys x h = inr h
Has-cases (y ∷ xs) ys x (inl e) = inl (inl e)
Has-cases (y ∷ xs) ys x (inr h) = elim (Has-cases xs ys x h) [ inl g ↦ inl (inr g) | inr g ↦ inr g ]

pub Each-weaker : {A : Type 0} (P Q : A → Type 0) → ((x : A) → P x → Q x) → (xs : List A) → Each P xs → Each Q xs
Each-weaker P Q f [] h = tt
Each-weaker P Q f (x ∷ xs) h = (f x h.0, Each-weaker P Q f xs h.1)

first_of_rest : {X A : Type 0} (f : X → List A) (xs : List X) (i : ℕ) (d : X) → i < length xs → f (get_or xs i d) ++ flat_map f (drop (suc i) xs) ≡ flat_map f (drop i xs)
first_of_rest f [] i d h = absurd (omega arith)
first_of_rest f (x ∷ xs) zero d h = refl
first_of_rest f (x ∷ xs) (suc i) d h = first_of_rest f xs i d (omega arith)

-- one step of a loop that appends what f gives of each of xs
pub flat_step : {X A : Type 0} (f : X → List A) (xs : List X) (i : ℕ) (d : X) (out more all : List A) → i < length xs → more ≡ out ++ f (get_or xs i d) → out ++ flat_map f (drop i xs) ≡ all → more ++ flat_map f (drop (i + 1) xs) ≡ all
flat_step f xs i d out more all h e k =
    rw add-one (ap (λ l. l ++ flat_map f (drop (suc i) xs)) e ∙ (append_assoc out (f (get_or xs i d)) (flat_map f (drop (suc i) xs)) ∙ (ap (λ l. out ++ l) (first_of_rest f xs i d h) ∙ k)))

pub Has-flat_map : {X A : Type 0} (f : X → List A) (xs : List X) (x : X) (a : A) → Has xs x → Has (f x) a → Has (flat_map f xs) a
Has-flat_map f [] x a h k = absurd h
Has-flat_map f (y ∷ xs) x a (inl e) k = Has-left (f y) (flat_map f xs) a (subst (λ z. Has (f z) a) (sym e) k)
Has-flat_map f (y ∷ xs) x a (inr h) k = Has-right (f y) (flat_map f xs) a (Has-flat_map f xs x a h k)

pub from_flat_map : {X A : Type 0} (f : X → List A) (xs : List X) (a : A) → Has (flat_map f xs) a → (x : X) × Has xs x × Has (f x) a
from_flat_map f [] a h = absurd h
from_flat_map f (y ∷ xs) a h = elim (Has-cases (f y) (flat_map f xs) a h) [ inl g ↦ (y, inl refl, g) | inr g ↦ (let r = from_flat_map f xs a g in (r.0, inr r.1, r.2)) ]

last_or_below : {A : Type 0} (f : ℕ → List A) (n k : ℕ) (a : A) → Has (f k) a → (k < n → Has (each_below f n) a) → (k < n) ⊎ (n ≤ k) → k ≤ n → Has (each_below f n ++ f n) a
last_or_below f n k a g r (inl l) m = Has-left (each_below f n) (f n) a (r l)
last_or_below f n k a g r (inr l) m = Has-right (each_below f n) (f n) a (let e : k ≡ n = omega arith in subst (λ j. Has (f j) a) e g)

pub Has-below : {A : Type 0} (f : ℕ → List A) (n k : ℕ) (a : A) → k < n → Has (f k) a → Has (each_below f n) a
Has-below f zero k a h g = absurd (omega arith)
Has-below f (suc n) k a h g = last_or_below f n k a g (λ l. Has-below f n k a l g) (cases_lt k n) (omega arith)

pub from_below : {A : Type 0} (f : ℕ → List A) (n : ℕ) (a : A) → Has (each_below f n) a → (k : ℕ) × (k < n) × Has (f k) a
from_below f zero a h = absurd h
from_below f (suc n) a h = elim (Has-cases (each_below f n) (f n) a h) [ inl g ↦ (let r = from_below f n a g in (r.0, omega arith, r.2)) | inr g ↦ (n, omega arith, g) ]

pub Has-when : {A : Type 0} (b : Bool) (x y : A) → Has (when b x) y → (b ≡ true) × (x ≡ y)
Has-when true x y (inl e) = (refl, e)
Has-when true x y (inr h) = absurd h
Has-when false x y h = absurd h

pub when_has : {A : Type 0} (b : Bool) (x : A) → b ≡ true → Has (when b x) x
when_has true x e = inl refl
when_has false x e = absurd (cc)

pub Has-all : {A : Type 0} (P : A → Type 0) (xs : List A) → All P xs → (x : A) → Has xs x → P x
Has-all P [] h x k = absurd k
Has-all P (y ∷ xs) h x (inl e) = subst P e (h 0 y (omega arith))
Has-all P (y ∷ xs) h x (inr k) = Has-all P xs (λ i d l. h (suc i) d (omega arith)) x k

pub Has-map : {X A : Type 0} (f : X → A) (xs : List X) (x : X) → Has xs x → Has (map f xs) (f x)
Has-map f [] x h = absurd h
Has-map f (y ∷ xs) x (inl e) = inl (ap f e)
Has-map f (y ∷ xs) x (inr h) = inr (Has-map f xs x h)

pub from_map : {X A : Type 0} (f : X → A) (xs : List X) (a : A) → Has (map f xs) a → (x : X) × Has xs x × (f x ≡ a)
from_map f [] a h = absurd h
from_map f (y ∷ xs) a (inl e) = (y, inl refl, e)
from_map f (y ∷ xs) a (inr h) = let r = from_map f xs a h in (r.0, inr r.1, r.2)

pub Has-Contains : {A : Type 0} (xs : List A) (x : A) → Has xs x → Contains xs x
Has-Contains [] x h = absurd h
Has-Contains (y ∷ xs) x (inl e) = (0, (omega arith), e)
Has-Contains (y ∷ xs) x (inr h) = let r = Has-Contains xs x h in (suc r.0, (let l = r.1 in omega arith), r.2)

has_at : {A : Type 0} (xs : List A) (k : ℕ) (x : A) → k < length xs → get_or xs k x ≡ x → Has xs x
has_at [] k x h e = absurd (omega arith)
has_at (y ∷ xs) zero x h e = inl e
has_at (y ∷ xs) (suc k) x h e = inr (has_at xs k x (omega arith) e)

pub Contains-Has : {A : Type 0} (xs : List A) (x : A) → Contains xs x → Has xs x
Contains-Has xs x h = has_at xs h.0 x h.1 h.2
