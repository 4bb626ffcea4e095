-- Turns of loops that read a text part by part.
use Rattle.std.proofs.Common.{◌≡◌, ℕ, ◌+◌, ◌-◌, ◌≤◌, Option, Some, None, List, length, take, drop, ap, sym, ◌∙◌, arith, length-drop, take_all, drop-drop}
use Rattle.go_scan.specs.Reach.{run_length}
use Rattle.go_scan.proofs.Parts.{IsLocal, run-step, run-stop}

pub rest-is : (text : List ℕ) (at : ℕ) → take (length text - at) (drop at text) ≡ drop at text
rest-is text at = take_all (length text - at) (drop at text) (omega (arith, length-drop at text))

pub record IsTurn (step : List ℕ → Option ℕ) (text : List ℕ) (at width : ℕ) : Type 0 where
  pub least : 1 ≤ width
  pub within : at + width ≤ length text
  pub reached : run_length step 0 (drop at text) ≡ width + run_length step 0 (drop (at + width) text)

pub run-turn : (step : List ℕ → Option ℕ) (text : List ℕ) (at width : ℕ) → IsLocal step → at ≤ length text → step (take (length text - at) (drop at text)) ≡ Some width → IsTurn step text at width
run-turn step text at width local inside e =
    let found : step (drop at text) ≡ Some width = ap step (sym (rest-is text at)) ∙ e in
    record {
      least = local.least (drop at text) width found;
      within = omega (arith, local.within (drop at text) width found, length-drop at text);
      reached = run-step step (drop at text) width local found ∙ ap (λ rest. width + run_length step 0 rest) (drop-drop width at text);
    }

pub run-over : (step : List ℕ → Option ℕ) (text : List ℕ) (at : ℕ) → step (take (length text - at) (drop at text)) ≡ None → run_length step 0 (drop at text) ≡ 0
run-over step text at e = run-stop step (drop at text) (ap step (sym (rest-is text at)) ∙ e)
