use Rattle.std.proofs.Common.{◌≡◌, ◌+◌, ◌∙◌, ◌&&◌, ◌||◌, ◌∷◌, [], Bool, List, ap, arith, length, length-append, subst}
use Rattle.go_graph.specs.Marks.{AreMarks, marked}
use Rattle.go_graph.proofs.MarkLaws.{marks_more}
use Rattle.decl_rules.specs.Cycles.{LeadsTo, aliased, is_type, tied}
use Rattle.decl_rules.proofs.Circles.{are_recursive}
use Rattle.decl_rules.proofs.cycles.recursive_types.Goals as goal

pub loop-node-preserved : goal.loop-node-preserved
loop-node-preserved c =
    let declared = c.args.declared.now in
    let held = c.args.held.now in
    let by_ties = c.in_ok-by_ties.by_ties.items in
    let by_names = c.in_ok-by_names.by_names.items in
    let n = c.loop-node.node in
    let old = c.loop-node.marks.items in
    let b = c.is_recursive.result in
    let pushed = c.in_ok-push.ensures.items in
    let found : b ≡ (is_type declared n && (marked held n || (marked by_ties n || marked by_names n))) =
    c.is_recursive.ensures ∙ ap (λ (l : List Bool). is_type declared n && (marked held n || (marked l n || marked c.deref-in-loop-node-2.result.now n))) c.deref-in-loop-node.ensures.value
    ∙ ap (λ (l : List Bool). is_type declared n && (marked held n || (marked by_ties n || marked l n))) c.deref-in-loop-node-2.ensures.value in
    record {
      size = ap length pushed ∙ length-append old (b ∷ []) ∙ ap (λ m. m + 1) c.loop-node.invariant.size;
      so_far = λ x less. ap (λ l. marked l x) pushed
          ∙ marks_more (λ y. is_type declared y && (marked held y || (marked by_ties y || marked by_names y))) old n b c.loop-node.invariant.size c.loop-node.invariant.so_far found x less;
    }

pub returns : goal.returns
returns c = λ holding.
    let list = c.args.nodes.now.list in
    let declared = c.args.declared.now in
    let ties = c.args.ties.now in
    let facts = c.args.facts.now in
    let by_ties = c.in_ok-by_ties.by_ties.items in
    let by_names = c.in_ok-by_names.by_names.items in
    let end : c.loop-node.node ≡ length facts = (let a = c.loop-node-test.false in let b = c.loop-node.auto.node-end in omega arith) in
    let tying : AreMarks (length facts) (λ x. LeadsTo (tied declared ties facts) x x) by_ties =
    subst (λ es. AreMarks (length facts) (λ x. LeadsTo es x x) by_ties) (c.deref.ensures.value ∙ c.in_ok-tied.ensures) c.in_ok-by_ties.ensures in
    let naming : AreMarks (length facts) (λ x. LeadsTo (aliased declared ties) x x) by_names =
    subst (λ es. AreMarks (length facts) (λ x. LeadsTo es x x) by_names) (c.deref-2.ensures.value ∙ c.in_ok-aliased.ensures) c.in_ok-by_names.ensures in
    are_recursive list declared ties facts c.args.held.now by_ties by_names holding tying naming c.loop-node.marks.items (c.loop-node.invariant.size ∙ end)
    (λ x less. c.loop-node.invariant.so_far x (omega arith))
