-- The longest mark: it is one, and none that begins the same text is longer.
use Rattle.std.proofs.Common.{◌≡◌, ℕ, ◌≤◌, Bool, true, false, if◌then◌else◌, None, is_some, List, [], ◌∷◌, ◌++◌, length, take, refl, ap, ◌∙◌, arith}
use Rattle.std.proofs.Math.Bool.{and-false}
use Rattle.go_ast.specs.Literals.{first, second}
use Rattle.go_ast.specs.Marks.{mark_of_one, mark_of_two, mark_of_three, mark_kind}
use Rattle.go_scan.specs.Reach.{mark_length}

abbrev longest_by : Bool → Bool → Bool → ℕ
longest_by three two one = if three then 3 else if two then 2 else if one then 1 else 0

no_three : (a b : ℕ) → mark_of_three a b 0 ≡ None
no_three a b = simp and-false

no_two : (a : ℕ) → mark_of_two a 0 ≡ None
no_two a = simp and-false

by-least : (three two one : Bool) → two ≡ true → 2 ≤ longest_by three two one
by-least true two one e = omega arith
by-least false true one e = omega arith
by-least false false one e = absurd cc

by-one : (three two one : Bool) → one ≡ true → 1 ≤ longest_by three two one
by-one true two one e = omega arith
by-one false true one e = omega arith
by-one false false true e = omega arith
by-one false false false e = absurd cc

by-three : (three two one : Bool) → three ≡ true → 3 ≤ longest_by three two one
by-three true two one e = omega arith
by-three false two one e = absurd cc

pub mark-longest : (text more : List ℕ) → is_some (mark_kind text) ≡ true → length text ≤ mark_length (text ++ more)
mark-longest [] more e = absurd cc
mark-longest (a ∷ []) more e = by-one (is_some (mark_of_three a (first more) (second more))) (is_some (mark_of_two a (first more))) (is_some (mark_of_one a)) e
mark-longest (a ∷ b ∷ []) more e = by-least (is_some (mark_of_three a b (first more))) (is_some (mark_of_two a b)) (is_some (mark_of_one a)) e
mark-longest (a ∷ b ∷ c ∷ []) more e = by-three (is_some (mark_of_three a b c)) (is_some (mark_of_two a b)) (is_some (mark_of_one a)) e
mark-longest (a ∷ b ∷ c ∷ d ∷ text) more e = absurd cc

pub record IsMark (text : List ℕ) : Type 0 where
  pub within : mark_length text ≤ length text
  pub one : 1 ≤ mark_length text → is_some (mark_kind (take (mark_length text) text)) ≡ true

-- what holds for the number of bytes that was found
abbrev IsMarkOf : List ℕ → ℕ → Type 0
IsMarkOf text n = (n ≤ length text) × (1 ≤ n → is_some (mark_kind (take n text)) ≡ true)

by_one : (a : ℕ) (one : Bool) → is_some (mark_of_one a) ≡ one → IsMarkOf (a ∷ []) (longest_by false false one)
by_one a true e = (omega arith, λ h. e)
by_one a false e = (omega arith, λ h. absurd (omega arith))

by_two : (a b : ℕ) (two one : Bool) → is_some (mark_of_two a b) ≡ two → is_some (mark_of_one a) ≡ one → IsMarkOf (a ∷ b ∷ []) (longest_by false two one)
by_two a b true one f e = (omega arith, λ h. f)
by_two a b false true f e = (omega arith, λ h. e)
by_two a b false false f e = (omega arith, λ h. absurd (omega arith))

by_three : (a b c : ℕ) (text : List ℕ) (three two one : Bool) → is_some (mark_of_three a b c) ≡ three → is_some (mark_of_two a b) ≡ two → is_some (mark_of_one a) ≡ one → IsMarkOf (a ∷ b ∷ c ∷ text) (longest_by three two one)
by_three a b c text true two one g f e = (omega arith, λ h. g)
by_three a b c text false true one g f e = (omega arith, λ h. f)
by_three a b c text false false true g f e = (omega arith, λ h. e)
by_three a b c text false false false g f e = (omega arith, λ h. absurd (omega arith))

made : (text : List ℕ) (n : ℕ) → mark_length text ≡ n → IsMarkOf text n → IsMark text
made text n e h = record { within = omega (arith, e, h.0); one = λ l. ap (λ k. is_some (mark_kind (take k text))) e ∙ h.1 (omega (arith, e, l)) }

pub mark-found : (text : List ℕ) → IsMark text
mark-found [] = made [] 0 refl (omega arith, λ h. absurd (omega arith))
mark-found (a ∷ []) =
    made (a ∷ []) (longest_by false false (is_some (mark_of_one a)))
    (ap (λ o. longest_by (is_some o) (is_some (mark_of_two a 0)) (is_some (mark_of_one a))) (no_three a 0) ∙ ap (λ o. longest_by false (is_some o) (is_some (mark_of_one a))) (no_two a))
    (by_one a (is_some (mark_of_one a)) refl)
mark-found (a ∷ b ∷ []) =
    made (a ∷ b ∷ []) (longest_by false (is_some (mark_of_two a b)) (is_some (mark_of_one a)))
    (ap (λ o. longest_by (is_some o) (is_some (mark_of_two a b)) (is_some (mark_of_one a))) (no_three a b))
    (by_two a b (is_some (mark_of_two a b)) (is_some (mark_of_one a)) refl refl)
mark-found (a ∷ b ∷ c ∷ text) =
    made (a ∷ b ∷ c ∷ text) (longest_by (is_some (mark_of_three a b c)) (is_some (mark_of_two a b)) (is_some (mark_of_one a))) refl
    (by_three a b c text (is_some (mark_of_three a b c)) (is_some (mark_of_two a b)) (is_some (mark_of_one a)) refl refl refl)
