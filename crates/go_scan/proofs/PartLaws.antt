-- The longest run of parts: it is parts alone, and none that begins the same text is longer.
use Rattle.std.proofs.Common.{◌≡◌, ℕ, zero, suc, ◌+◌, ◌-◌, ◌≤◌, Bool, true, false, ◌&&◌, Option, Some, None, is_some, List, [], ◌∷◌, ◌++◌, length, take, drop, refl, ap, sym, ◌∙◌, arith, take-append-drop}
use Rattle.std.proofs.lemmas.List.{take-take}
use Rattle.std.specs.Prelude.{unwrap_or}
use Rattle.std.specs.Option.{option_map_or}
use Rattle.std.specs.List.{list_all}
use Rattle.go_ast.specs.Characters.{rests}
use Rattle.go_scan.specs.Reach.{run_length}
use Rattle.go_scan.proofs.Parts.{IsLocal}

-- parts alone behind `left` bytes
abbrev pub all_parts : (List ℕ → Option ℕ) → ℕ → List ℕ → Bool
all_parts step left text = list_all (λ rest. is_some (step rest)) (rests step left text)

pub is_some-is : {A : Type 0} (o : Option A) → is_some o ≡ true → (x : A) × (o ≡ Some x)
is_some-is None e = absurd cc
is_some-is (Some x) e = (x, refl)

pub and-both : (a b : Bool) → (a && b) ≡ true → (a ≡ true) × (b ≡ true)
and-both true b e = (refl, e)
and-both false b e = absurd cc

-- no run of parts is longer
pub parts-longest : (step : List ℕ → Option ℕ) (left : ℕ) (text more : List ℕ) → IsLocal step → all_parts step left text ≡ true → left ≤ length text → length text ≤ run_length step left (text ++ more)
parts-longest step left [] more local e h = omega arith
parts-longest step (suc left) (byte ∷ text) more local e h = omega (arith, parts-longest step left text more local e (omega arith))
parts-longest step zero (byte ∷ text) more local e h =
    let both = and-both (is_some (step (byte ∷ text))) (all_parts step (unwrap_or (step (byte ∷ text)) 1 - 1) text) e in
    let found = is_some-is (step (byte ∷ text)) both.0 in
    let width = found.0 in
    let grown : step (byte ∷ text ++ more) ≡ Some width = local.grows (byte ∷ text) more width found.1 in
    let others : all_parts step (width - 1) text ≡ true = ap (λ o. all_parts step (unwrap_or o 1 - 1) text) (sym found.1) ∙ both.1 in
    let fits = local.within (byte ∷ text) width found.1 in
    let rest = parts-longest step (width - 1) text more local others (omega (arith, fits)) in
    let turn : run_length step 0 (byte ∷ text ++ more) ≡ 1 + run_length step (width - 1) (text ++ more) =
    ap (λ o. option_map_or (λ width. 1 + run_length step (width - 1) (text ++ more)) o 0) grown in
    omega (arith, rest, turn)

pub run-least : (step : List ℕ → Option ℕ) (left : ℕ) (text : List ℕ) → left ≤ length text → left ≤ run_length step left text
run-least step zero text h = omega arith
run-least step (suc left) [] h = absurd (omega arith)
run-least step (suc left) (byte ∷ text) h = omega (arith, run-least step left text (omega arith))

pub run-within : (step : List ℕ → Option ℕ) (left : ℕ) (text : List ℕ) → run_length step left text ≤ length text
run-within step left [] = omega arith
run-within step (suc left) (byte ∷ text) = omega (arith, run-within step left text)
run-within step zero (byte ∷ text) = split (step (byte ∷ text)) (λ n. run-within step n text)
  where
    split : (o : Option ℕ) → ((n : ℕ) → run_length step n text ≤ length text) → option_map_or (λ width. 1 + run_length step (width - 1) text) o 0 ≤ length (byte ∷ text)
    split None f = omega arith
    split (Some width) f = omega (arith, f (width - 1))

-- a step in a front of the text that holds what it finds
pub step-front : (step : List ℕ → Option ℕ) (text : List ℕ) (width n : ℕ) → IsLocal step → step text ≡ Some width → width ≤ n → step (take n text) ≡ Some width
step-front step text width n local e h =
    let front : take n text ≡ take width text ++ drop width (take n text) =
    sym (take-append-drop width (take n text)) ∙ ap (λ xs. xs ++ drop width (take n text)) (take-take width n text h) in
    ap step front ∙ local.grows (take width text) (drop width (take n text)) width (local.shrinks text width e)

-- the run is parts alone
pub parts-run : (step : List ℕ → Option ℕ) (left : ℕ) (text : List ℕ) → IsLocal step → left ≤ length text → all_parts step left (take (run_length step left text) text) ≡ true
parts-run step zero [] local h = refl
parts-run step (suc left) [] local h = absurd (omega arith)
parts-run step (suc left) (byte ∷ text) local h =
    let turn : run_length step (suc left) (byte ∷ text) ≡ suc (run_length step left text) = omega arith in
    ap (λ k. all_parts step (suc left) (take k (byte ∷ text))) turn ∙ parts-run step left text local (omega arith)
parts-run step zero (byte ∷ text) local h = go (step (byte ∷ text)) refl (λ left h. parts-run step left text local h)
  where
    go : (o : Option ℕ) → step (byte ∷ text) ≡ o → ((left : ℕ) → left ≤ length text → all_parts step left (take (run_length step left text) text) ≡ true)
        → all_parts step zero (take (run_length step zero (byte ∷ text)) (byte ∷ text)) ≡ true
    go None e more =
        let turn : run_length step zero (byte ∷ text) ≡ 0 = ap (λ o. option_map_or (λ width. 1 + run_length step (width - 1) text) o 0) e in
        ap (λ k. all_parts step zero (take k (byte ∷ text))) turn
    go (Some width) e more =
        let m = run_length step (width - 1) text in
        let fits = local.within (byte ∷ text) width e in
        let least = run-least step (width - 1) text (omega (arith, fits)) in
        let turn : run_length step zero (byte ∷ text) ≡ suc m = ap (λ o. option_map_or (λ width. 1 + run_length step (width - 1) text) o 0) e ∙ omega arith in
        let here : step (byte ∷ take m text) ≡ Some width = step-front step (byte ∷ text) width (suc m) local e (omega (arith, least)) in
        ap (λ k. all_parts step zero (take k (byte ∷ text))) turn
        ∙ ap (λ o. is_some o && all_parts step (unwrap_or o 1 - 1) (take m text)) here
        ∙ more (width - 1) (omega (arith, fits))
