-- Lists in order that have the same elements are one.
use Rattle.std.proofs.Common.{◌≡◌, ◌⊎◌, inl, inr, ◌<◌, ℕ, suc, ◌+◌, Bool, true, false, true≢false, if◌then◌else◌, List, [], ◌∷◌, get_or, refl, sym, ap, subst, ◌∙◌, arith, bytes_eq}
use Rattle.std.specs.Cmp.Lexicographic.{slice_cmp}
use Rattle.std.specs.List.{sum_by}
use Rattle.std.specs.List.Sorted.{IsSorted, IsPermutation}
use Rattle.std.specs.Ordering.{nat_cmp, is_lt, is_eq}
use Rattle.std.proofs.lemmas.Cmp.{nat_list_cmp_total}
use Rattle.std.proofs.lemmas.List.Sorted.{sum_by-IsPermutation}
use Rattle.std.proofs.lemmas.List.Sums.{sum_by-cons}
use Rattle.std.proofs.lemmas.Map.Text.{is_eq-slice_cmp}
use Rattle.std.proofs.lemmas.Slice.Eq.{bytes_eq-Decides}
use Rattle.std.specs.declared.cmp.Ordering.{Ordering}
use Rattle.std.specs.declared.cmp.Ordering.TheVariants.{Less, Equal, Greater}
use Rattle.std.specs.Ordering.{ordering_reverse}

abbrev Text : Type 0
Text = List ℕ

abbrev cmp : Text → Text → Ordering
cmp = slice_cmp nat_cmp

-- the one is not after the other
abbrev NotAfter : Text → Text → Type 0
NotAfter x y = is_lt (cmp y x) ≡ false

reversed : (a b : Ordering) → a ≡ ordering_reverse b → is_lt a ≡ false → (b ≡ Less) ⊎ (b ≡ Equal)
reversed a Less e h = inl refl
reversed a Equal e h = inr refl
reversed a Greater e h = absurd (true≢false (sym (ap is_lt e) ∙ h))

-- x y where y is not before x
either : (x y : Text) → NotAfter x y → (cmp x y ≡ Less) ⊎ (cmp x y ≡ Equal)
either x y h = reversed (cmp y x) (cmp x y) (nat_list_cmp_total.antisymm y x) h

not_less : (a b : Ordering) → a ≡ ordering_reverse b → (b ≡ Less) ⊎ (b ≡ Equal) → is_lt a ≡ false
not_less a b e (inl less) = ap is_lt (e ∙ ap ordering_reverse less)
not_less a b e (inr equal) = ap is_lt (e ∙ ap ordering_reverse equal)

not_after : (x y : Text) → (cmp x y ≡ Less) ⊎ (cmp x y ≡ Equal) → NotAfter x y
not_after x y h = not_less (cmp y x) (cmp x y) (nat_list_cmp_total.antisymm y x) h

equal_is : (x y : Text) → cmp x y ≡ Equal → x ≡ y
equal_is x y e = (bytes_eq-Decides x y).0 (sym (is_eq-slice_cmp x y) ∙ ap is_eq e)

chain : (x y z : Text) → NotAfter x y → NotAfter y z → NotAfter x z
chain x y z h k = not_after x z (by (either x y h) (either y z k))
  where
    by : (cmp x y ≡ Less) ⊎ (cmp x y ≡ Equal) → (cmp y z ≡ Less) ⊎ (cmp y z ≡ Equal) → (cmp x z ≡ Less) ⊎ (cmp x z ≡ Equal)
    by (inl a) (inl b) = inl (nat_list_cmp_total.trans x y z a b)
    by (inl a) (inr b) = inl (ap (cmp x) (sym (equal_is y z b)) ∙ a)
    by (inr a) b = subst (λ (t : Text). (cmp t z ≡ Less) ⊎ (cmp t z ≡ Equal)) (sym (equal_is x y a)) b

both : (x y : Text) → NotAfter x y → NotAfter y x → x ≡ y
both x y h k = by (either x y h)
  where
    by : (cmp x y ≡ Less) ⊎ (cmp x y ≡ Equal) → x ≡ y
    by (inl less) = absurd (true≢false (sym (ap is_lt less) ∙ k))
    by (inr equal) = equal_is x y equal

-- ---- lists by their first element

abbrev AreAfter : Text → List Text → Type 0
AreAfter x [] = Unit {0}
AreAfter x (y ∷ ys) = NotAfter x y × AreAfter x ys

abbrev Rises : List Text → Type 0
Rises [] = Unit {0}
Rises (x ∷ xs) = AreAfter x xs × Rises xs

after_more : (x y : Text) (ys : List Text) → NotAfter x y → AreAfter y ys → AreAfter x ys
after_more x y [] h a = tt
after_more x y (z ∷ ys) h a = (chain x y z h a.0, after_more x y ys h a.1)

tail_sorted : (x : Text) (xs : List Text) → IsSorted cmp (x ∷ xs) → IsSorted cmp xs
tail_sorted x xs h k d low high =
    let e : suc k + 1 ≡ suc (k + 1) = omega arith in
    subst (λ (n : ℕ). is_lt (cmp (get_or (x ∷ xs) n d) (get_or xs k d)) ≡ false) e (h (suc k) d (omega arith) (omega (arith, high)))

rises : (xs : List Text) → IsSorted cmp xs → Rises xs
rises [] h = tt
rises (x ∷ []) h = (tt, tt)
rises (x ∷ (y ∷ ys)) h =
    let rest : Rises (y ∷ ys) = rises (y ∷ ys) (tail_sorted x (y ∷ ys) h) in
    let first : NotAfter x y = h 0 x (omega arith) (omega arith) in
    ((first, after_more x y ys first rest.0), rest)

-- ---- how often a text is there

abbrev num : Text → Text → ℕ
num key x = if bytes_eq key x then 1 else 0

abbrev count : Text → List Text → ℕ
count key [] = 0
count key (x ∷ xs) = num key x + count key xs

count_sum : (key : Text) (xs : List Text) → sum_by (num key) xs ≡ count key xs
count_sum key [] = refl
count_sum key (x ∷ xs) = sum_by-cons (num key) x xs ∙ ap (λ (n : ℕ). num key x + n) (count_sum key xs)

itself : (x : Text) → num x x ≡ 1
itself x = ap (λ (b : Bool). if b then 1 else 0) ((bytes_eq-Decides x x).1 refl)

not_before : (x key : Text) (xs : List Text) → AreAfter x xs → 0 < count key xs → NotAfter x key
not_before x key [] a h = absurd (omega (arith, h))
not_before x key (y ∷ ys) a h = by (bytes_eq key y) refl h (not_before x key ys a.1)
  where
    by : (b : Bool) → bytes_eq key y ≡ b → 0 < (if b then 1 else 0) + count key ys → (0 < count key ys → NotAfter x key) → NotAfter x key
    by true e more rest = subst (NotAfter x) (sym ((bytes_eq-Decides key y).0 e)) a.0
    by false e more rest = rest (omega (arith, more))

reflexive : (x : Text) → NotAfter x x
reflexive x = by (cmp x x) (nat_list_cmp_total.antisymm x x)
  where
    by : (o : Ordering) → o ≡ ordering_reverse o → is_lt o ≡ false
    by Less e = cc e
    by Equal e = refl
    by Greater e = refl

at_head : (x key : Text) (xs : List Text) → AreAfter x xs → 0 < count key (x ∷ xs) → NotAfter x key
at_head x key xs a h = not_before x key (x ∷ xs) (reflexive x, a) h

same_rise : (xs ys : List Text) → Rises xs → Rises ys → ((key : Text) → count key xs ≡ count key ys) → xs ≡ ys
same_rise [] [] h k same = refl
same_rise [] (y ∷ ys) h k same = absurd (omega (arith, same y, itself y))
same_rise (x ∷ xs) [] h k same = absurd (omega (arith, same x, itself x))
same_rise (x ∷ xs) (y ∷ ys) h k same =
    let x_there : 0 < count x (y ∷ ys) = omega (arith, same x, itself x) in
    let y_there : 0 < count y (x ∷ xs) = omega (arith, same y, itself y) in
    let first : x ≡ y = both x y (at_head x y xs h.0 y_there) (at_head y x ys k.0 x_there) in
    let left : (key : Text) → count key xs ≡ count key ys = λ key. omega (arith, same key, ap (num key) first) in
    ap (λ (z : Text). z ∷ xs) first ∙ ap (λ (zs : List Text). y ∷ zs) (same_rise xs ys h.1 k.1 left)

pub one_order : (all xs ys : List Text) → IsPermutation all xs → IsPermutation all ys → IsSorted cmp xs → IsSorted cmp ys → xs ≡ ys
one_order all xs ys p q h k = same_rise xs ys (rises xs h) (rises ys k) (λ key.
    sym (count_sum key xs) ∙ sum_by-IsPermutation (num key) all xs p ∙ sym (sum_by-IsPermutation (num key) all ys q) ∙ count_sum key ys)
