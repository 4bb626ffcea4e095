use Rattle.std.proofs.Common.{◌≡◌, ◌≤◌, ◌+◌, ◌∙◌, ℕ, Bool, List, None, Option, Some, Vec, Global, ap, arith, get_or, length, replicate, slice_get, subst, sym}
use Rattle.std.proofs.lemmas.List.{length-map}
use Rattle.std.proofs.lemmas.Option.{slice_get-get_or}
use Rattle.decl_nodes.specs.Edges.{IsOrder}
use Rattle.decl_nodes.proofs.Rows.{rows_of}
use Rattle.decl_rules.specs.declared.denoting.Denoted.{Denoted}
use Rattle.decl_rules.specs.Denoting.{settled}
use Rattle.decl_rules.proofs.Following.{IsSoFar, all_found, none_so_far, so_far_more}
use Rattle.decl_rules.proofs.denoting.follow.Goals as goal

pub loop-number-init : goal.loop-number-init
loop-number-init c =
    none_so_far c.args.nodes.now.list c.args.through c.deref-number-items.result.now c.in_ok-found.found.items
    (c.in_ok-found.ensures ∙ ap (λ n. replicate {A = Option Denoted} n None) c.len.ensures)

pub loop-number-preserved : goal.loop-number-preserved
loop-number-preserved c =
    let list = c.args.nodes.now.list in
    let through = c.args.through in
    let graph = c.in_ok-graph.graph.items in
    let of = c.in_ok-order.order.of.items in
    let order = c.in_ok-order.order.nodes.items in
    let marks = c.in_ok-order.order.cyclic.items in
    let items = c.deref-number-items.result.now in
    let n = c.loop-number.number-index in
    let x = get_or items n 0 in
    let found = c.loop-number.found.items in
    let read = c.deref-number-items.ensures.value in
    let ordered : IsOrder (rows_of graph) of order marks = subst (λ l. IsOrder (rows_of l) of order marks) c.as_slice.ensures.value c.in_ok-order.ensures in
    let count : length (rows_of graph) ≡ length list = length-map graph (λ (r : Vec ℕ Global). r.items) ∙ c.in_ok-graph.ensures.size in
    let so_far : IsSoFar list through order n found = subst (λ l. IsSoFar list through l n found) read c.loop-number.invariant in
    let at : slice_get order n ≡ Some x = subst (λ l. slice_get l n ≡ Some x) read (slice_get-get_or items n 0 c.loop-number-test.true) in
    let made : c.settle.new.found.items ≡ settled list through marks x found = c.settle.ensures ∙ ap (λ (l : List Bool). settled list through l x found) c.deref.ensures.value in
    subst (λ l. IsSoFar list through l (n + 1) c.settle.new.found.items) (sym read)
    (subst (λ l. IsSoFar list through order (n + 1) l) (sym made) (so_far_more list through (rows_of graph) of order marks c.in_ok-graph.ensures.rows count ordered n x found so_far at))

pub returns : goal.returns
returns c =
    let list = c.args.nodes.now.list in
    let graph = c.in_ok-graph.graph.items in
    let of = c.in_ok-order.order.of.items in
    let order = c.in_ok-order.order.nodes.items in
    let marks = c.in_ok-order.order.cyclic.items in
    let read = c.deref-number-items.ensures.value in
    let ordered : IsOrder (rows_of graph) of order marks = subst (λ l. IsOrder (rows_of l) of order marks) c.as_slice.ensures.value c.in_ok-order.ensures in
    let count : length (rows_of graph) ≡ length list = length-map graph (λ (r : Vec ℕ Global). r.items) ∙ c.in_ok-graph.ensures.size in
    let so_far = subst (λ l. IsSoFar list c.args.through l c.loop-number.number-index c.loop-number.found.items) read c.loop-number.invariant in
    let past : length order ≤ c.loop-number.number-index = (let a = c.loop-number-test.false in let b = ap length read in omega arith) in
    all_found list c.args.through (rows_of graph) of order marks c.in_ok-graph.ensures.rows count ordered c.loop-number.number-index c.loop-number.found.items past so_far
