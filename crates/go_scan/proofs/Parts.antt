-- Texts as lists of parts.
use Rattle.std.proofs.Common.{◌≡◌, ℕ, zero, suc, ◌+◌, ◌-◌, ◌≤◌, Option, Some, None, List, [], ◌∷◌, ◌++◌, length, take, drop, refl, ap, ◌∙◌, arith}
use Rattle.std.specs.Option.{option_map_or}
use Rattle.go_ast.specs.Characters.{rests}
use Rattle.go_scan.specs.Reach.{run_length}

-- what a step finds lies in the text, and hangs on its own bytes alone
pub record IsLocal (step : List ℕ → Option ℕ) : Type 0 where
  pub least : (text : List ℕ) (width : ℕ) → step text ≡ Some width → 1 ≤ width
  pub within : (text : List ℕ) (width : ℕ) → step text ≡ Some width → width ≤ length text
  pub grows : (text more : List ℕ) (width : ℕ) → step text ≡ Some width → step (text ++ more) ≡ Some width
  pub shrinks : (text : List ℕ) (width : ℕ) → step text ≡ Some width → step (take width text) ≡ Some width

pub rests-skip : (step : List ℕ → Option ℕ) (left : ℕ) (text : List ℕ) → rests step left text ≡ rests step 0 (drop left text)
rests-skip step zero text = refl
rests-skip step (suc left) [] = refl
rests-skip step (suc left) (byte ∷ text) = rests-skip step left text

pub run-skip : (step : List ℕ → Option ℕ) (left : ℕ) (text : List ℕ) → left ≤ length text → run_length step left text ≡ left + run_length step 0 (drop left text)
run-skip step zero text h = omega arith
run-skip step (suc left) [] h = absurd (omega arith)
run-skip step (suc left) (byte ∷ text) h = let e = run-skip step left text (omega arith) in omega (arith, e)

pub run-step : (step : List ℕ → Option ℕ) (text : List ℕ) (width : ℕ) → IsLocal step → step text ≡ Some width → run_length step 0 text ≡ width + run_length step 0 (drop width text)
run-step step [] width local e = absurd (omega (arith, local.least [] width e, local.within [] width e))
run-step step (byte ∷ text) zero local e = absurd (omega (arith, local.least (byte ∷ text) 0 e))
run-step step (byte ∷ text) (suc left) local e =
    let inside : left ≤ length text = omega (arith, local.within (byte ∷ text) (suc left) e) in
    let turn : run_length step 0 (byte ∷ text) ≡ 1 + run_length step (suc left - 1) text =
    ap (λ o. option_map_or (λ width. 1 + run_length step (width - 1) text) o 0) e in
    let less : suc left - 1 ≡ left = omega arith in
    let skips : run_length step (suc left - 1) text ≡ left + run_length step 0 (drop left text) =
    ap (λ n. run_length step n text) less ∙ run-skip step left text inside in
    omega arith

pub run-stop : (step : List ℕ → Option ℕ) (text : List ℕ) → step text ≡ None → run_length step 0 text ≡ 0
run-stop step [] e = refl
run-stop step (byte ∷ text) e = ap (λ o. option_map_or (λ width. 1 + run_length step (width - 1) text) o 0) e
