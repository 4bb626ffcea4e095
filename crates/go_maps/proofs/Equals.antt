-- Entries are found by the codes of their keys, and so by keys that are equal.
use Rattle.std.proofs.Common.{◌≡◌, ℕ, suc, ap, sym, ◌∙◌, refl, [], ◌∷◌, Bool, true, false, true≢false, cond, Option, Some, None, option_map, Result, Ok, Err}
use Rattle.go_base.specs.declared.ids.TypeId.{TypeId}
use Rattle.go_value.specs.Values.{Val}
use Rattle.go_value.specs.declared.faults.Fault.{Fault}
use Rattle.go_maps.specs.Entries.{Pair, has_code, same_code}
use Rattle.go_maps.specs.Equality.{compared}
use Rattle.go_maps.specs.Finds.{FindsLaw, has_equal, is_ok_true}
use Rattle.go_maps.specs.Keys.{Alike, key_code, unhashable}
use Rattle.go_maps.proofs.Codes.{keys_law}
use Rattle.go_maps.proofs.Standing.{codes_same, same_itself}

same_bools : (s t : Bool) → (s ≡ true → t ≡ true) → (t ≡ true → s ≡ true) → s ≡ t
same_bools true true to from = refl
same_bools false false to from = refl
same_bools true false to from = sym (to refl)
same_bools false true to from = from refl

ok_true : (answer : Result Bool Fault) → is_ok_true answer ≡ true → answer ≡ Ok true
ok_true (Ok same) h = ap Ok h
ok_true (Err fault) h = absurd (true≢false (sym h))

one_has : (test : TypeId → Bool) (key : Val) (pair : Pair) → Alike pair.key key → unhashable test pair.key ≡ None → has_code (key_code key) (Some pair) ≡ has_equal test key (Some pair)
one_has test key pair alike fine =
    let law = keys_law test pair.key key alike fine in
    same_bools (same_code (key_code key) (key_code pair.key)) (is_ok_true (compared test pair.key key))
    (λ h. ap is_ok_true (law.0 (sym (codes_same (key_code key) (key_code pair.key) h))))
    (λ h. ap (same_code (key_code key)) (law.1 (ok_true (compared test pair.key key) h)) ∙ same_itself (key_code key))

step : (s t : Bool) (a b : Option ℕ) → s ≡ t → a ≡ b → cond s (Some 0) (option_map (λ number. suc number) a) ≡ cond t (Some 0) (option_map (λ number. suc number) b)
step s t a b same rest = ap (λ x. cond x (Some 0) (option_map (λ number. suc number) a)) same ∙ ap (λ x. cond t (Some 0) (option_map (λ number. suc number) x)) rest

pub finds_law : FindsLaw
finds_law test key [] alike = refl
finds_law test key (None ∷ entries) alike =
    ap (option_map (λ number. suc number)) (finds_law test key entries alike)
finds_law test key (Some pair ∷ entries) alike =
    step (has_code (key_code key) (Some pair)) (has_equal test key (Some pair)) _ _ (one_has test key pair alike.0 alike.1)
    (finds_law test key entries alike.2)
