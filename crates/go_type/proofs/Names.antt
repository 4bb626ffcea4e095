-- Names in their order, and sets of them.
use Rattle.std.proofs.Common.{◌≡◌, ℕ, ◌+◌, ◌<◌, Bool, true, false, true≢false, ◌||◌, ◌==◌, cond, List, [], ◌∷◌, ◌++◌, length, take, refl, sym, ap, ◌∙◌}
use Rattle.std.specs.List.{list_any}
use Rattle.std.specs.Cmp.{nat_cmp_is, unsigned_Decides}
use Rattle.std.specs.Ordering.{nat_cmp, ordering_then, is_eq}
use Rattle.std.specs.declared.cmp.Ordering.{Ordering}
use Rattle.std.specs.declared.cmp.Ordering.TheVariants.{Less, Equal, Greater}
use Rattle.std.proofs.Math.ListN.{get_or}
use Rattle.std.proofs.lemmas.Grind.{take_at_read}
use Rattle.std.proofs.lemmas.List.Folds.{list_any-append}
use Rattle.std.proofs.lemmas.Map.Lookups.{exact_unsigned}
use Rattle.go_type.specs.declared.members.Wanted.{Wanted}
use Rattle.go_type.specs.MethodSets.{by_name}
use Rattle.go_type.specs.Same.{both, each}
use Rattle.go_type.specs.Selector.{is_wanted}

same_bool : (b c : Bool) → (b ≡ true → c ≡ true) → (c ≡ true → b ≡ true) → b ≡ c
same_bool true c h k = sym (h refl)
same_bool false true h k = absurd (true≢false (sym (k refl)))
same_bool false false h k = refl

is_equal : (o : Ordering) → is_eq o ≡ true → o ≡ Equal
is_equal Less h = absurd (true≢false (sym h))
is_equal Equal h = refl
is_equal Greater h = absurd (true≢false (sym h))

pub names_equal : (k w : Wanted) → is_eq (by_name k w) ≡ true → k ≡ w
names_equal k w h = by (nat_cmp k.name.number w.name.number) refl h
  where
    by : (o : Ordering) → nat_cmp k.name.number w.name.number ≡ o → is_eq (ordering_then o (nat_cmp k.package w.package)) ≡ true → k ≡ w
    by Less e g = absurd (true≢false (sym g))
    by Equal e g = λ i. record {
      name = record { number = exact_unsigned k.name.number w.name.number e i };
      «package» = exact_unsigned k.package w.package (is_equal (nat_cmp k.package w.package) g) i;
    }
    by Greater e g = absurd (true≢false (sym g))

pub name_itself : (k : Wanted) → by_name k k ≡ Equal
name_itself k =
    ap (λ o. ordering_then o (nat_cmp k.package k.package)) (sym (nat_cmp_is k.name.number k.name.number Equal refl)) ∙ sym (nat_cmp_is k.package k.package Equal refl)

wanted_itself : (k : Wanted) → is_wanted k k.name k.package ≡ true
wanted_itself k = each _ _ ((unsigned_Decides k.name.number k.name.number).1 refl) ((unsigned_Decides k.package k.package).1 refl)

wanted_is : (k w : Wanted) → is_wanted w k.name k.package ≡ true → k ≡ w
wanted_is k w h =
    let parts = both (w.name.number == k.name.number) _ h in
    sym (λ i. record { name = record { number = (unsigned_Decides w.name.number k.name.number).0 parts.0 i }; «package» = (unsigned_Decides w.package k.package).0 parts.1 i })

pub named : (k w : Wanted) → is_eq (by_name k w) ≡ is_wanted w k.name k.package
named k w =
    same_bool (is_eq (by_name k w)) (is_wanted w k.name k.package)
    (λ h. ap (λ x. is_wanted x k.name k.package) (sym (names_equal k w h)) ∙ wanted_itself k)
    (λ h. ap (λ x. is_eq (by_name k x)) (sym (wanted_is k w h)) ∙ ap is_eq (name_itself k))

pub or_assoc : (a b c : Bool) → (a || b) || c ≡ a || (b || c)
or_assoc true b c = refl
or_assoc false b c = refl

or_false : (b : Bool) → b || false ≡ b
or_false true = refl
or_false false = refl

cond_or : (b c : Bool) → cond b true c ≡ c || b
cond_or true true = refl
cond_or true false = refl
cond_or false true = refl
cond_or false false = refl

-- one more turn of a loop that looks for any
pub any_turn : {X : Type 0} (p : X → Bool) (xs : List X) (i : ℕ) (d x : X) (old mid new : Bool) → i < length xs → x ≡ get_or xs i d
    → mid ≡ old || list_any p (take i xs) → new ≡ mid || p x → new ≡ old || list_any p (take (i + 1) xs)
any_turn p xs i d x old mid new less is before step =
    let longer : take (i + 1) xs ≡ take i xs ++ x ∷ [] = (take_at_read xs i d less).1 ∙ sym (ap (λ y. take i xs ++ y ∷ []) is) in
    step ∙ ap (λ b. b || p x) before ∙ or_assoc old (list_any p (take i xs)) (p x)
    ∙ ap (λ b. old || b) (sym (ap (list_any p) longer ∙ list_any-append p (take i xs) (x ∷ []) ∙ ap (λ b. list_any p (take i xs) || b) (or_false (p x))))

-- an insertion adds one name
pub named_turn : (k w : Wanted) (mid new : Bool) → new ≡ cond (is_eq (by_name k w)) true mid → new ≡ mid || is_wanted w k.name k.package
named_turn k w mid new h = h ∙ cond_or (is_eq (by_name k w)) mid ∙ ap (λ b. mid || b) (named k w)
