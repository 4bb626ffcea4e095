-- The least of faults is one of them that none of them comes before.
use Rattle.std.proofs.Common.{◌≡◌, ◌≢◌, ◌⊎◌, inl, inr, sym, refl, subst, ℕ, suc, ◌<◌, ◌≤◌, Bool, true, false, cond, List, [], ◌∷◌, Option, Some, None, MatchOption, arith}
use Rattle.std.specs.Prelude.{nat_lt, Contains}
use Rattle.std.specs.List.{AllByRecursion}
use Rattle.std.proofs.lemmas.Bool.Decides.{nat_tests}
use Rattle.std.proofs.lemmas.List.Elements.{All-from_recursion}
use Rattle.go_faults.specs.declared.fault.Fault.{Fault}
use Rattle.go_base.specs.Rules.{row_of}
use Rattle.go_faults.specs.Faults.{comes_before, in_order, lesser, least_with, IsLeast}

not_lex : (a x : ℕ) (r : Bool) → in_order a x r ≡ false → (x ≤ a) × (a ≡ x → r ≡ false)
not_lex a x true h = (grind (arith, nat_tests), λ e. grind (arith, nat_tests))
not_lex a x false h = (grind (arith, nat_tests), λ e. refl)

lex_not : (a x : ℕ) (r : Bool) → x ≤ a → (a ≡ x → r ≡ false) → in_order a x r ≡ false
lex_not a x true le h = let ne : a ≢ x = λ e. (let bad = h e in cc) in grind (arith, nat_tests)
lex_not a x false le h = grind (arith, nat_tests)

is_lex : (a x : ℕ) (r : Bool) → in_order a x r ≡ true → (a < x) ⊎ ((a ≡ x) × (r ≡ true))
is_lex a x true h = grind (arith, nat_tests)
is_lex a x false h = inl (grind (arith, nat_tests))

lex_through : (a x p : ℕ) (r s t : Bool) → (r ≡ false → s ≡ false → t ≡ false) → in_order a x r ≡ false → in_order x p s ≡ false → in_order a p t ≡ false
lex_through a x p r s t rest h k =
    let (f, g) = not_lex a x r h in
    let (i, j) = not_lex x p s k in
    lex_not a p t (omega arith) (λ e. let same : a ≡ x = omega arith in let too : x ≡ p = omega arith in rest (g same) (j too))

lex_back : (a x : ℕ) (r s : Bool) → (r ≡ true → s ≡ false) → in_order a x r ≡ true → in_order x a s ≡ false
lex_back a x r s rest h = elim (is_lex a x r h) [
  | inl lt ↦ lex_not x a s (omega arith) (λ e. absurd (omega arith))
  | inr same ↦ (let e = same.0 in let back = rest same.1 in lex_not x a s (omega arith) (λ _. back))
]

lex_self : (a : ℕ) (r : Bool) → r ≡ false → in_order a a r ≡ false
lex_self a r h = lex_not a a r (omega arith) (λ _. h)

-- the last part
lt_through : (a x p : ℕ) → nat_lt a x ≡ false → nat_lt x p ≡ false → nat_lt a p ≡ false
lt_through a x p h k = grind (arith, nat_tests)

lt_back : (a x : ℕ) → nat_lt a x ≡ true → nat_lt x a ≡ false
lt_back a x h = grind (arith, nat_tests)

lt_self : (a : ℕ) → nat_lt a a ≡ false
lt_self a = grind (arith, nat_tests)

-- no fault that does not come before another comes before one that the other does not come before
through : (f g h : Fault) → comes_before f g ≡ false → comes_before g h ≡ false → comes_before f h ≡ false
unfolding comes_before
through f g h =
    lex_through f.phase g.phase h.phase _ _ _
    (lex_through f.package g.package h.package _ _ _
    (lex_through f.pos.file g.pos.file h.pos.file _ _ _
    (lex_through f.pos.offset g.pos.offset h.pos.offset _ _ _ (lt_through (row_of f.rule) (row_of g.rule) (row_of h.rule)))))

-- of two faults at most one comes before the other
back : (f g : Fault) → comes_before f g ≡ true → comes_before g f ≡ false
unfolding comes_before
back f g =
    lex_back f.phase g.phase _ _
    (lex_back f.package g.package _ _
    (lex_back f.pos.file g.pos.file _ _
    (lex_back f.pos.offset g.pos.offset _ _ (lt_back (row_of f.rule) (row_of g.rule)))))

self : (f : Fault) → comes_before f f ≡ false
unfolding comes_before
self f = lex_self f.phase _ (lex_self f.package _ (lex_self f.pos.file _ (lex_self f.pos.offset _ (lt_self (row_of f.rule)))))

here : (x : Fault) (xs : List Fault) → Contains (x ∷ xs) x
here x xs = (0, omega arith, refl)

there : (x y : Fault) (xs : List Fault) → Contains xs y → Contains (x ∷ xs) y
there x y xs (k, lt, e) = (suc k, omega arith, e)

-- what is the least of a fault and a list
record IsLeastWith (f : Fault) (gs : List Fault) (h : Fault) : Type 0 where
  found : (h ≡ f) ⊎ Contains gs h
  first : comes_before f h ≡ false
  rest : AllByRecursion (λ g. comes_before g h ≡ false) gs

-- by whether the head comes before
step : (f g : Fault) (gs : List Fault) (h : Fault) (b : Bool) → comes_before g f ≡ b → IsLeastWith (cond b g f) gs h → IsLeastWith f (g ∷ gs) h
step f g gs h true e is = record {
  found = elim is.found [ inl same ↦ inr (subst (Contains (g ∷ gs)) (sym same) (here g gs)) | inr more ↦ inr (there g h gs more) ];
  first = through f g h (back g f e) is.first;
  rest = (is.first, is.rest);
}
step f g gs h false e is = record {
  found = elim is.found [ inl same ↦ inl same | inr more ↦ inr (there g h gs more) ];
  first = is.first;
  rest = (through g f h e is.first, is.rest);
}

least_is_of : (f : Fault) (gs : List Fault) (h : Fault) → least_with (Some f) gs ≡ Some h → IsLeastWith f gs h
unfolding lesser
least_is_of f [] h e = let same : f ≡ h = cc in record { found = inl (sym same); first = subst (λ x. comes_before f x ≡ false) same (self f); rest = tt }
least_is_of f (g ∷ gs) h e = step f g gs h (comes_before g f) refl (least_is_of (cond (comes_before g f) g f) gs h e)

some : (f : Fault) (gs : List Fault) → (h : Fault) × (least_with (Some f) gs ≡ Some h)
some f [] = (f, refl)
some f (g ∷ gs) = some (lesser (Some f) g) gs

none : (faults : List Fault) → least_with None faults ≡ None → faults ≡ []
none [] e = refl
none (f ∷ fs) e = let found = some (lesser None f) fs in let is = found.1 in cc

one : (faults : List Fault) (fault : Fault) → least_with None faults ≡ Some fault → IsLeast fault faults
unfolding lesser
one [] fault e = cc
one (f ∷ fs) fault e =
    let is = least_is_of f fs fault e in
    record {
      found = elim is.found [ inl same ↦ subst (Contains (f ∷ fs)) (sym same) (here f fs) | inr more ↦ there f fault fs more ];
      least = All-from_recursion (λ other. comes_before other fault ≡ false) (f ∷ fs) (is.first, is.rest);
    }

-- the least of faults is one of them that none of them comes before
pub least_is : (faults : List Fault) → MatchOption (least_with None faults) (faults ≡ []) (λ fault. IsLeast fault faults)
least_is faults = go (least_with None faults) refl
  where
    go : (least : Option Fault) → least_with None faults ≡ least → MatchOption least (faults ≡ []) (λ fault. IsLeast fault faults)
    go None e = none faults e
    go (Some fault) e = one faults fault e
