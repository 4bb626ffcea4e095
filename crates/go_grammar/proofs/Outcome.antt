-- What holds of what a step gives, where it gives something.
use Rattle.std.proofs.Common.{◌≡◌, ℕ, zero, suc, Bool, true, false, cond, Option, Some, None, refl, subst}
use Rattle.go_grammar.specs.Reading.{◌>>=◌}
use Rattle.go_grammar.specs.ExprReading.{Turn, Done, On, after, repeat}

pub record Yields {A : Type 0} (o : Option A) (P : A → Type 0) : Type 0 where
  pub given : (x : A) → o ≡ Some x → P x

some_is : {A : Type 0} (x y : A) → Some x ≡ Some y → x ≡ y
some_is x y e = cc

pub yields_some : {A : Type 0} {P : A → Type 0} {x : A} → P x → Yields (Some x) P
yields_some {A} {P} {x} h = record { given = λ y e. subst P (some_is x y e) h }

pub yields_none : {A : Type 0} {P : A → Type 0} → Yields None P
yields_none = record { given = λ y e. absurd cc }

pub yields_bind : {A B : Type 0} {o : Option A} {f : A → Option B} {P : A → Type 0} {Q : B → Type 0} → Yields o P → ((x : A) → P x → Yields (f x) Q) → Yields (o >>= f) Q
yields_bind {A} {B} {o} {f} {P} {Q} h k = go o h
  where
    go : (o : Option A) → Yields o P → Yields (o >>= f) Q
    go None h = yields_none
    go (Some x) h = k x (h.given x refl)

pub yields_if : {A : Type 0} {P : A → Type 0} (b : Bool) {x y : Option A} → (b ≡ true → Yields x P) → (b ≡ false → Yields y P) → Yields (cond b x y) P
yields_if true h k = h refl
yields_if false h k = k refl

-- what a loop keeps: here before each turn, while n turns are left, and there at the end
abbrev pub AfterTurn : {S : Type 0} → (S → Type 0) → (S → Type 0) → Turn S → Type 0
AfterTurn here there (Done s) = there s
AfterTurn here there (On s) = here s

pub yields_repeat : {S : Type 0} (turn : S → Option (Turn S)) (here : ℕ → S → Type 0) (there : S → Type 0)
    → ((s : S) → here zero s → there s)
    → ((n : ℕ) (s : S) → here (suc n) s → Yields (turn s) (AfterTurn (here n) there))
    → (n : ℕ) (s : S) → here n s → Yields (repeat turn n s) there
yields_repeat turn here there last step zero s h = yields_some (last s h)
yields_repeat {S} turn here there last step (suc n) s h = go (turn s) (step n s h) (yields_repeat turn here there last step n)
  where
    go : (o : Option (Turn S)) → Yields o (AfterTurn (here n) there) → ((t : S) → here n t → Yields (repeat turn n t) there) → Yields (after o (repeat turn n)) there
    go None k again = yields_none
    go (Some (Done t)) k again = yields_some (k.given (Done t) refl)
    go (Some (On t)) k again = again t (k.given (On t) refl)
