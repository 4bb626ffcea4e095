-- Numbers that are given once each, told from the front.
use Rattle.std.proofs.Common.{◌≡◌, ℕ, ◌+◌, ◌<◌, ◌≤◌, Bool, true, false, ◌&&◌, ◌||◌, List, [], ◌∷◌, ◌++◌, length, take, drop, get_or, refl, sym, ◌∙◌, ap, take-append-drop}
use Rattle.std.specs.Prelude.{not, nat_eq, if◌then◌else◌}
use Rattle.std.specs.List.{list_any}
use Rattle.std.specs.Cmp.{decided, unsigned_Decides}
use Rattle.std.proofs.lemmas.List.{take_all}
use Rattle.std.proofs.lemmas.Grind.{take_at_read}
use Rattle.std.proofs.lemmas.List.Folds.{list_any-append}
use Rattle.typed_trees.specs.Nodes.{are_distinct}

same_both_ways : (m n : ℕ) → nat_eq m n ≡ nat_eq n m
same_both_ways m n = (decided nat_eq unsigned_Decides).symm m n

mix : (p q r s : Bool) → not (p || (q || false)) && (r && not s) ≡ (not p && r) && not (q || s)
mix true q r s = refl
mix false true true s = refl
mix false true false s = refl
mix false false r s = refl

-- one number more
push : (xs : List ℕ) (x : ℕ) → are_distinct (xs ++ x ∷ []) ≡ are_distinct xs && not (list_any (nat_eq x) xs)
push [] x = refl
push (y ∷ ys) x =
    (λ i. not (list_any-append (nat_eq y) ys (x ∷ []) i) && push ys x i)
    ∙ (mix (list_any (nat_eq y) ys) (nat_eq y x) (are_distinct ys) (list_any (nat_eq x) ys)
    ∙ ap (λ b. (not (list_any (nat_eq y) ys) && are_distinct ys) && not (b || list_any (nat_eq x) ys)) (same_both_ways y x))

and_false : (b : Bool) → b && false ≡ false
and_false true = refl
and_false false = refl

step : (b c d e : Bool) → not b && d ≡ false → (d ≡ false → e ≡ false) → not (b || c) && e ≡ false
step true c d e h f = refl
step false c d e h f = ap (λ z. not c && z) (f h) ∙ and_false (not c)

front_fails : (xs ys : List ℕ) → are_distinct xs ≡ false → are_distinct (xs ++ ys) ≡ false
front_fails [] ys h = cc
front_fails (x ∷ xs) ys h =
    ap (λ b. not b && are_distinct (xs ++ ys)) (list_any-append (nat_eq x) xs ys)
    ∙ step (list_any (nat_eq x) xs) (list_any (nat_eq x) ys) (are_distinct xs) (are_distinct (xs ++ ys)) h (front_fails xs ys)

module _ (numbers keys : List ℕ) (i n d : ℕ) (b : Bool) (h : i < length numbers) (e : n ≡ get_or numbers i d)
    (k : keys ≡ take i numbers) (before : are_distinct (take i numbers) ≡ true) (q : b ≡ not (list_any (nat_eq n) keys)) where
  front : take (i + 1) numbers ≡ take i numbers ++ n ∷ []
  front = (take_at_read numbers i d h).1 ∙ ap (λ v. take i numbers ++ v ∷ []) (sym e)

  told : are_distinct (take (i + 1) numbers) ≡ b
  told =
      ap are_distinct front ∙ (push (take i numbers) n ∙ (ap (λ c. c && not (list_any (nat_eq n) (take i numbers))) before
      ∙ (ap (λ l. not (list_any (nat_eq n) l)) (sym k) ∙ sym q)))

  pub given_twice : b ≡ false → false ≡ are_distinct numbers
  given_twice f = sym (ap are_distinct (sym (take-append-drop (i + 1) numbers)) ∙ front_fails (take (i + 1) numbers) (drop (i + 1) numbers) (told ∙ f))

  new_one : (c : Bool) (later : List ℕ) → b ≡ true → b ≡ not c → later ≡ (if c then keys else keys ++ n ∷ []) → later ≡ keys ++ n ∷ []
  new_one true later t r s = cc
  new_one false later t r s = s

  pub given_once : (later : List ℕ) → b ≡ true → later ≡ (if list_any (nat_eq n) keys then keys else keys ++ n ∷ [])
      → (later ≡ take (i + 1) numbers) × (are_distinct (take (i + 1) numbers) ≡ true)
  given_once later t s = (
    new_one (list_any (nat_eq n) keys) later t q s ∙ (ap (λ l. l ++ n ∷ []) k ∙ sym front),
    told ∙ t,
  )

pub given_all : (numbers : List ℕ) (i : ℕ) → length numbers ≤ i → are_distinct (take i numbers) ≡ true → true ≡ are_distinct numbers
given_all numbers i h before = sym (sym (ap are_distinct (take_all i numbers h)) ∙ before)
