use Rattle.std.proofs.Common.{arith, sym, ◌∙◌}
use Rattle.go_ast.specs.Characters.{passing}
use Rattle.go_scan.specs.Runs.{allows}
use Rattle.go_scan.proofs.Decoding.{passing-local}
use Rattle.go_scan.proofs.Runs.{IsTurn, run-turn}
use Rattle.go_scan.proofs.characters.run_length.Goals as goal

turn : (c : goal.In-Some) → IsTurn (passing (allows c.args.run)) c.args.text.now c.loop-width.at c.in-Some.width
turn c = run-turn (passing (allows c.args.run)) c.args.text.now c.loop-width.at c.in-Some.width (passing-local (allows c.args.run)) c.loop-width.invariant.within (sym c.run_step.ensures ∙ c.in-Some.is)

pub overflow_add-at : goal.overflow_add-at
overflow_add-at c = let t = turn c in omega arith

pub loop-width-smaller : goal.loop-width-smaller
loop-width-smaller c = let t = turn c in omega arith

pub loop-width-preserved : goal.loop-width-preserved
loop-width-preserved c = let t = turn c in record {
  within = omega arith;
  reached = omega arith;
}
