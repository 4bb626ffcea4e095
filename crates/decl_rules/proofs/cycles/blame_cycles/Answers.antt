use Rattle.std.proofs.Common.{◌≡◌, ◌∙◌, ◌++◌, ◌⊎◌, ◌↔◌, Bool, List, OnOk, Result, Ok, Err, ap, length, subst, sym}
use Rattle.go_graph.specs.Graph.{IsAmong, StandsOn, next}
use Rattle.go_graph.specs.Marks.{AreMarks}
use Rattle.decl_nodes.specs.declared.violations.Violation.{Violation}
use Rattle.decl_rules.specs.Cycles.{IsCycleViolation, IsRecursive, RefersToItself, cycles_below, holds}
use Rattle.decl_rules.proofs.Circles.{blamed}
use Rattle.decl_rules.proofs.cycles.blame_cycles.Goals as goal

on_ok : {T E : Type 0} {P Q : Type 0} (r : Result T E) → OnOk r P → (P → Q) → OnOk r Q
on_ok (Ok x) p f = f p
on_ok (Err e) p f = tt

pub returns : goal.returns
returns c = λ holding ordered.
    let nodes = c.args.tables.now.nodes in
    let declared = c.args.tables.now.declarations.items in
    let ties = c.args.tables.now.ties.items in
    let facts = c.args.facts.now in
    let old = c.args.tables.now.violations in
    let new = c.add_cycles.new.violations in
    let first = c.in_ok-recursive.recursive.items in
    let second = c.in_ok-selves.selves.items in
    let firsts : AreMarks (length facts) (IsRecursive nodes.list declared ties facts) first =
    subst (λ ds. AreMarks (length facts) (IsRecursive nodes.list ds ties facts) first) c.as_slice.ensures.value
    (subst (λ ts. AreMarks (length facts) (IsRecursive nodes.list c.as_slice.result.now ts facts) first) c.as_slice-2.ensures.value
    (c.in_ok-recursive.ensures (subst (AreMarks (length nodes.list) (λ x. StandsOn (next (holds nodes.list)) x x)) (sym c.deref.ensures.value) holding))) in
    let seconds : AreMarks (length facts) (RefersToItself nodes declared) second =
    subst (λ ds. AreMarks (length facts) (RefersToItself nodes ds) second) c.as_slice-3.ensures.value (c.in_ok-selves.ensures ordered) in
    on_ok {P = new ≡ old ++ cycles_below nodes.list c.deref-2.result.now c.deref-3.result.now (length facts)}
    {Q = (v : Violation) → IsAmong v new ↔ (IsAmong v old ⊎ IsCycleViolation nodes declared ties facts v)} c.add_cycles.result c.add_cycles.ensures
    (λ is. blamed nodes declared ties facts first second firsts seconds old new
    (is ∙ ap (λ (l : List Bool). old ++ cycles_below nodes.list l c.deref-3.result.now (length facts)) c.deref-2.ensures.value
    ∙ ap (λ (l : List Bool). old ++ cycles_below nodes.list first l (length facts)) c.deref-3.ensures.value))
