-- How the values of one type are compared.
use Rattle.std.proofs.Common.{◌≡◌, ℕ, zero, suc, ◌+◌, ◌<◌, ◌≤◌, refl, ap, sym, subst, ◌∙◌, Bool, true, false, List, [], ◌∷◌, drop, get_or, length, Result, Ok, Err, arith}
use Rattle.std.specs.Prelude.{IsTrue, ◌↔◌, ◌==◌}
use Rattle.std.proofs.lemmas.Bool.{false≢true, cond-true, cond-false, ne_eqb, eq-eqb}
use Rattle.std.proofs.lemmas.List.{drop_more}
use Rattle.go_base.specs.declared.ids.TypeId.{TypeId}
use Rattle.go_type.specs.Comparable.{Comparable}
use Rattle.go_type.specs.Table.{Table}
use Rattle.go_value.specs.declared.faults.Fault.{Fault}
use Rattle.go_value.specs.declared.faults.Fault.TheVariants as fault
use Rattle.go_value.specs.declared.faults.ValueError.{ValueError}
use Rattle.go_value.specs.declared.faults.ValueError.TheVariants as errors
use Rattle.go_value.specs.Values.{Val, Field, part, dynamic, parts_of}
use Rattle.go_maps.specs.Equality.{TellsComparable, Tells, Compares, compared, compared_parts, compared_part, next_where_equal, is_empty}

-- ---- values in interfaces

pub others : (types : Table) (a b : TypeId) (it other : Val) → (a.number ≡ b.number → ⊥) → Compares types (dynamic a it) (dynamic b other) (Ok false)
others types a b it other ne test tells = cond-false (a.number == b.number) _ _ (ne_eqb a.number b.number ne)

pub not_told : (types : Table) (test : TypeId → Bool) (of : TypeId) (known : Bool) → TellsComparable types test → (IsTrue known ↔ Comparable types of) → known ≡ false → (b : Bool) → test of ≡ b → test of ≡ false
not_told types test of known tells means no_way true is = absurd (false≢true (sym no_way ∙ means.1 ((tells of).0 is)))
not_told types test of known tells means no_way false is = is

pub uncomparable : (types : Table) (a b : TypeId) (it other : Val) (known : Bool) → a.number ≡ b.number → (IsTrue known ↔ Comparable types a) → known ≡ false → Compares types (dynamic a it) (dynamic b other) (Err (errors.Fault (fault.Uncomparable a)))
uncomparable types a b it other known same means no_way test tells =
    cond-true (a.number == b.number) _ _ (eq-eqb a.number b.number same) ∙ cond-false (test a) _ _ (not_told types test a known tells means no_way (test a) refl)

pub told : (types : Table) (test : TypeId → Bool) (of : TypeId) (known : Bool) → TellsComparable types test → (IsTrue known ↔ Comparable types of) → known ≡ true → test of ≡ true
told types test of known tells means yes_way = (tells of).1 (means.0 yes_way)

pub within : (types : Table) (a b : TypeId) (it other : Val) (known : Bool) (answer : Result Bool ValueError) → a.number ≡ b.number → (IsTrue known ↔ Comparable types a) → known ≡ true → Compares types it other answer → Compares types (dynamic a it) (dynamic b other) answer
within types a b it other known answer same means yes_way inner test tells =
    subst (Tells answer) (sym (cond-true (a.number == b.number) _ _ (eq-eqb a.number b.number same) ∙ cond-true (test a) _ _ (told types test a known tells means yes_way))) (inner test tells)

-- ---- parts

first_at : (test : TypeId → Bool) (blank blank' : Bool) (it other : Val) (them others : List Field) → compared_parts test (part it blank (parts_of them)) (part other blank' (parts_of others)) ≡ next_where_equal (compared_part blank blank' (compared test it other)) (compared_parts test (parts_of them) (parts_of others))
first_at test true true it other them others = refl
first_at test true false it other them others = refl
first_at test false true it other them others = refl
first_at test false false it other them others = refl

pub first_fields : (test : TypeId → Bool) (a b : Field) (them others rest rest' : List Field) → them ≡ a ∷ rest → others ≡ b ∷ rest' → compared_parts test (parts_of them) (parts_of others) ≡ next_where_equal (compared_part a.blank b.blank (compared test a.value b.value)) (compared_parts test (parts_of rest) (parts_of rest'))
first_fields test a b them others rest rest' split split' =
    ap (λ (xs : List Field). compared_parts test (parts_of xs) (parts_of others)) split
    ∙ ap (λ (xs : List Field). compared_parts test (parts_of (a ∷ rest)) (parts_of xs)) split'
    ∙ first_at test a.blank b.blank a.value b.value rest rest'

pub equal_first : (first later : Result Bool Fault) → first ≡ Ok true → next_where_equal first later ≡ later
equal_first first later is = ap (λ r. next_where_equal r later) is

pub unequal_first : (first later : Result Bool Fault) → first ≡ Ok false → next_where_equal first later ≡ Ok false
unequal_first first later is = ap (λ r. next_where_equal r later) is

pub failed_first : (it : ValueError) (first later : Result Bool Fault) → Tells (Err it) first → Tells (Err it) (next_where_equal first later)
failed_first (errors.Fault it) first later is = ap (λ r. next_where_equal r later) is
failed_first (errors.OutOfMemory) first later is = absurd is

pub empty_parts : (xs : List Field) → (length xs == 0) ≡ is_empty (parts_of xs)
empty_parts [] = eq-eqb 0 0 refl
empty_parts (x ∷ xs) = ne_eqb (length (x ∷ xs)) 0 (λ e. omega arith)

pub drop_whole : (n : ℕ) (xs : List Field) → length xs ≤ n → drop n xs ≡ []
drop_whole zero [] le = refl
drop_whole zero (x ∷ xs) le = absurd (omega arith)
drop_whole (suc n) [] le = refl
drop_whole (suc n) (x ∷ xs) le = drop_whole n xs (omega arith)

pub next_part : (xs : List Field) (i : ℕ) (x : Field) → i < length xs → x ≡ get_or xs i x → drop i xs ≡ x ∷ drop (i + 1) xs
next_part xs i x below is = drop_more xs i x below ∙ ap (λ y. y ∷ drop (i + 1) xs) (sym is)

pub compares_as : (types : Table) (a b c d : Val) (answer : Result Bool ValueError) → a ≡ c → b ≡ d → Compares types c d answer → Compares types a b answer
compares_as types a b c d answer is is' h test tells =
    subst (Tells answer) (sym (ap (λ v. compared test v b) is ∙ ap (compared test c) is')) (h test tells)

-- ---- fields named `_`

pub plain_parts : (test : TypeId → Bool) (x y : Field) → x.blank ≡ false → y.blank ≡ false → compared_part x.blank y.blank (compared test x.value y.value) ≡ compared test x.value y.value
plain_parts test x y is is' =
    ap (λ p. compared_part p y.blank (compared test x.value y.value)) is
    ∙ ap (λ q. compared_part false q (compared test x.value y.value)) is'
