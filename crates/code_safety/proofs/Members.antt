-- Items of lists by their places, and the registers that instructions give.
use Rattle.std.proofs.Common.{◌≡◌, ◌⊎◌, inl, inr, ⊎_elim, ◌<◌, ◌≤◌, ◌+◌, arith, ℕ, zero, suc, Bool, true, false, cond, ◌&&◌, ◌||◌, not, ◌==◌, List, [], ◌∷◌, ◌++◌, length, take, Option, Some, None, refl, sym, ap, ◌∙◌, slice_get, Contains, find, true≢false}
use Rattle.std.proofs.lemmas.Option.{none-some, get_or_from_slice_get, slice_get-get_or}
use Rattle.std.specs.Cmp.{unsigned_Decides}
use Rattle.std.specs.List.{prefix_len}
use Rattle.code_safety.proofs.Machines.{IsIn}
use Rattle.code_safety.proofs.Lists.{get_below, some_same, get_front}
use Rattle.ssa_ir.specs.Uses.{given_register, given_registers}
use Rattle.ssa_ir.specs.declared.ops.Instr.{Instr}

pub both : (a b : Bool) → (a && b) ≡ true → (a ≡ true) × (b ≡ true)
both true b h = (refl, h)
both false b h = absurd (true≢false (sym h))

pub either : (b : Bool) → (b ≡ true) ⊎ (b ≡ false)
either true = inl refl
either false = inr refl

pub one_of_both : (a b : Bool) → (a || b) ≡ true → (a ≡ true) ⊎ (b ≡ true)
one_of_both true b h = inl refl
one_of_both false b h = inr h

pub not_true : (b : Bool) → not b ≡ true → b ≡ false
not_true true h = absurd (true≢false (sym h))
not_true false h = refl

-- ---- items by their places

abbrev pub Member : {A : Type 0} → A → List A → Type 0
Member x xs = (k : ℕ) × (slice_get xs k ≡ Some x)

pub member : {A : Type 0} (xs : List A) (x : A) → Contains xs x → Member x xs
member xs x h = (h.0, slice_get-get_or xs h.0 x h.1 ∙ ap Some h.2)

pub contains : {A : Type 0} (xs : List A) (x : A) → Member x xs → Contains xs x
contains xs x h = (h.0, get_below xs h.0 x h.1, get_or_from_slice_get xs h.0 x x h.1)

pub member_left : {A : Type 0} (xs ys : List A) (x : A) → Member x xs → Member x (xs ++ ys)
member_left xs ys x h = (h.0, get_front xs ys h.0 x h.1)

pub member_right : {A : Type 0} (xs ys : List A) (x : A) → Member x ys → Member x (xs ++ ys)
member_right [] ys x h = h
member_right (z ∷ xs) ys x h = let r = member_right xs ys x h in (suc r.0, r.1)

later_member : {A : Type 0} (z : A) (xs ys : List A) (x : A) → Member x xs ⊎ Member x ys → Member x (z ∷ xs) ⊎ Member x ys
later_member z xs ys x (inl m) = inl (suc m.0, m.1)
later_member z xs ys x (inr m) = inr m

split_at : {A : Type 0} (xs ys : List A) (x : A) (k : ℕ) → slice_get (xs ++ ys) k ≡ Some x → Member x xs ⊎ Member x ys
split_at [] ys x k is = inr (k, is)
split_at (z ∷ xs) ys x zero is = inl (0, is)
split_at (z ∷ xs) ys x (suc k) is = later_member z xs ys x (split_at xs ys x k is)

pub member_split : {A : Type 0} (xs ys : List A) (x : A) → Member x (xs ++ ys) → Member x xs ⊎ Member x ys
member_split xs ys x h = split_at xs ys x h.0 h.1

pub no_member : {A : Type 0} (x : A) → Member x [] → ⊥
no_member x h = none-some x h.1

pub take_get : {A : Type 0} (n : ℕ) (xs : List A) (k : ℕ) (x : A) → slice_get (take n xs) k ≡ Some x
    → (k < n) × (slice_get xs k ≡ Some x)
take_get zero xs k x is = absurd (none-some x is)
take_get (suc n) [] k x is = absurd (none-some x is)
take_get (suc n) (y ∷ ys) zero x is = (omega arith, is)
take_get (suc n) (y ∷ ys) (suc k) x is = let r = take_get n ys k x is in (omega (arith, r.0), r.1)

pub get_take_below : {A : Type 0} (n : ℕ) (xs : List A) (k : ℕ) (x : A) → k < n → slice_get xs k ≡ Some x
    → slice_get (take n xs) k ≡ Some x
get_take_below zero xs k x less is = absurd (omega (arith, less))
get_take_below (suc n) [] k x less is = absurd (none-some x is)
get_take_below (suc n) (y ∷ ys) zero x less is = is
get_take_below (suc n) (y ∷ ys) (suc k) x less is = get_take_below n ys k x (omega (arith, less)) is

-- a list whose last item stands at a place
pub last_split : {A : Type 0} (xs : List A) (n : ℕ) (x : A) → slice_get xs n ≡ Some x → n + 1 ≡ length xs
    → xs ≡ take n xs ++ x ∷ []
last_split [] n x is count = absurd (none-some x is)
last_split (y ∷ []) zero x is count = ap (λ z. z ∷ []) (some_same y x is)
last_split (y ∷ z ∷ ys) zero x is count = absurd (omega (arith, count))
last_split (y ∷ ys) (suc n) x is count = ap (λ zs. y ∷ zs) (last_split ys n x is (omega (arith, count)))

-- the first item that passes a test
pub record FirstOf {A : Type 0} (p : A → Bool) (xs : List A) : Type 0 where
  pub it : A
  pub found : find p xs ≡ Some it
  pub passes : p it ≡ true
  pub there : Member it xs

first_here : {A : Type 0} (p : A → Bool) (z : A) (xs : List A) (b : Bool) → p z ≡ b
    → (b ≡ false → FirstOf p xs) → FirstOf p (z ∷ xs)
first_here p z xs true e rest =
    record { it = z; found = ap (λ b. cond b (Some z) (find p xs)) e; passes = e; there = (0, refl) }
first_here p z xs false e rest =
    let r = rest refl in
    record {
      it = r.it;
      found = ap (λ b. cond b (Some z) (find p xs)) e ∙ r.found;
      passes = r.passes;
      there = (suc r.there.0, r.there.1);
    }

first_at : {A : Type 0} (p : A → Bool) (xs : List A) (k : ℕ) (x : A) → slice_get xs k ≡ Some x → p x ≡ true → FirstOf p xs
first_at p [] k x is passes = absurd (none-some x is)
first_at p (z ∷ xs) zero x is passes =
    first_here p z xs (p z) refl (λ e. absurd (true≢false (sym passes ∙ ap p (sym (some_same z x is)) ∙ e)))
first_at p (z ∷ xs) (suc k) x is passes = first_here p z xs (p z) refl (λ e. first_at p xs k x is passes)

pub find_first : {A : Type 0} (p : A → Bool) (xs : List A) (x : A) → Member x xs → p x ≡ true → FirstOf p xs
find_first p xs x h passes = first_at p xs h.0 x h.1 passes

-- ---- items that come first and pass a test

pub prefix_within : {A : Type 0} (p : A → Bool) (xs : List A) (n : ℕ) (x : A) → slice_get xs n ≡ Some x → p x ≡ false
    → prefix_len p xs ≤ n
prefix_within p [] n x is fails = absurd (none-some x is)
prefix_within p (y ∷ ys) zero x is fails = at (p y) (ap p (some_same y x is) ∙ fails)
  where
    at : (b : Bool) → b ≡ false → cond b (1 + prefix_len p ys) 0 ≤ 0
    at true e = absurd (true≢false e)
    at false e = omega arith
prefix_within p (y ∷ ys) (suc n) x is fails = at (p y) (prefix_within p ys n x is fails)
  where
    at : (b : Bool) → prefix_len p ys ≤ n → cond b (1 + prefix_len p ys) 0 ≤ suc n
    at true h = omega (arith, h)
    at false h = omega arith

-- ---- registers that are given

pub given_at : (instrs : List Instr) (register : ℕ) → Member register (given_registers instrs)
    → (k : ℕ) × ((instr : Instr) × ((slice_get instrs k ≡ Some instr) × (instr.register ≡ Some register)))
given_at [] register h = absurd (no_member register h)
given_at (instr ∷ instrs) register h =
    ⊎_elim (λ m. (0, (instr, (refl, gives instr.register m))))
    (λ m. let r = given_at instrs register m in (suc r.0, (r.1.0, (r.1.1.0, r.1.1.1))))
    (member_split (given_register instr) (given_registers instrs) register h)
  where
    gives : (it : Option ℕ) → Member register (given_register (record instr { register = it })) → it ≡ Some register
    gives None m = absurd (no_member register m)
    gives (Some x) (zero, is) = is
    gives (Some x) (suc k, is) = absurd (none-some register is)

pub at_given : (instrs : List Instr) (register k : ℕ) (instr : Instr) → slice_get instrs k ≡ Some instr
    → instr.register ≡ Some register → Member register (given_registers instrs)
at_given [] register k instr is gives = absurd (none-some instr is)
at_given (first ∷ instrs) register zero instr is gives =
    member_left (given_register first) (given_registers instrs) register
    (given first.register (ap (λ (it : Instr). it.register) (some_same first instr is) ∙ gives))
  where
    given : (it : Option ℕ) → it ≡ Some register → Member register (given_register (record first { register = it }))
    given None e = absurd (none-some register e)
    given (Some x) e = (0, e)
at_given (first ∷ instrs) register (suc k) instr is gives =
    member_right (given_register first) (given_registers instrs) register (at_given instrs register k instr is gives)

-- ---- numbers

pub same_or_other : (a b : ℕ) → (a ≡ b) ⊎ (a ≡ b → ⊥)
same_or_other a b = decide (a == b) refl
  where
    decide : (test : Bool) → (a == b) ≡ test → (a ≡ b) ⊎ (a ≡ b → ⊥)
    decide true e = inl ((unsigned_Decides a b).0 e)
    decide false e = inr (λ same. true≢false (sym ((unsigned_Decides a b).1 same) ∙ e))

pub in_left : (n : ℕ) (xs ys : List ℕ) → IsIn n xs → IsIn n (xs ++ ys)
in_left n [] ys h = absurd h
in_left n (x ∷ xs) ys (inl e) = inl e
in_left n (x ∷ xs) ys (inr h) = inr (in_left n xs ys h)

pub in_right : (n : ℕ) (xs ys : List ℕ) → IsIn n ys → IsIn n (xs ++ ys)
in_right n [] ys h = h
in_right n (x ∷ xs) ys h = inr (in_right n xs ys h)

pub in_split : (n : ℕ) (xs ys : List ℕ) → IsIn n (xs ++ ys) → IsIn n xs ⊎ IsIn n ys
in_split n [] ys h = inr h
in_split n (x ∷ xs) ys (inl e) = inl (inl e)
in_split n (x ∷ xs) ys (inr h) = ⊎_elim (λ l. inl (inr l)) (λ r. inr r) (in_split n xs ys h)
