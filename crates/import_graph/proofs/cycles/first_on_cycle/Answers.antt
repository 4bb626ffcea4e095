use Rattle.std.proofs.Common.{◌≡◌, All, take, sym, subst, true≢false, ◌∙◌, arith}
use Rattle.std.proofs.lemmas.List.{take_all}
use Rattle.std.proofs.lemmas.List.Elements.{All-more}
use Rattle.import_graph.specs.Cycles.{IsOnCycle}
use Rattle.import_graph.proofs.Leading.{tests_cycle, at_index}
use Rattle.import_graph.proofs.cycles.first_on_cycle.Goals as goal

pub returns-then-branch : goal.returns-then-branch
returns-then-branch c =
    let test = tests_cycle c.args.edges.now c.in_ok-sorted.sorted.items _ _ _ c.in_ok-sorted.ensures.same c.as_slice-in-loop-index.ensures.value c.in_ok-is_on_cycle.ensures in
    (at_index c.args.edges.now c.loop-index.index _ c.loop-index-test.true (test.0 c.if-branch.true), c.loop-index.invariant)

pub loop-index-preserved : goal.loop-index-preserved
loop-index-preserved c =
    let test = tests_cycle c.args.edges.now c.in_ok-sorted.sorted.items _ _ _ c.in_ok-sorted.ensures.same c.as_slice-in-loop-index.ensures.value c.in_ok-is_on_cycle.ensures in
    All-more (λ edge. ¬ IsOnCycle c.args.edges.now edge) c.args.edges.now c.loop-index.index _ c.loop-index-test.true c.loop-index.invariant
    (λ way. true≢false (sym (test.1 way) ∙ c.if-branch.false))

pub returns : goal.returns
returns c =
    let all : take c.loop-index.index c.args.edges.now ≡ c.args.edges.now = take_all c.loop-index.index c.args.edges.now (omega arith) in
    subst (All (λ edge. ¬ IsOnCycle c.args.edges.now edge)) all c.loop-index.invariant
