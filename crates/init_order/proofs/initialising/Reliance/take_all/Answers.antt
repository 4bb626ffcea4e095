use Rattle.std.proofs.Common.{◌≡◌, ◌<◌, ◌∙◌, ℕ, None, length, vec_len, sym, ap, subst, Vec, Global, arith}
use Rattle.std.specs.Prelude.{slice_index_or}
use Rattle.go_graph.proofs.Ends.{row_read}
use Rattle.init_order.specs.Groups.{State}
use Rattle.init_order.specs.Taking.{state, steps_of}
use Rattle.init_order.specs.Order.{IsInitOrder}
use Rattle.init_order.proofs.Whole.{ends, edges_within, starting, all_within, step_within, group_less, sources_within, turn}
use Rattle.init_order.proofs.initialising.Reliance.take_all.Goals as goal

pub counts_of-requires-clause-within : goal.counts_of-requires-clause-within
counts_of-requires-clause-within c =
    edges_within c.args.self.now c.args.components.now.of.items c.args.components.now.order.items c.args.edges.now c.args.labels.now c.requires.parts c.len-count.result
    (c.len-count.ensures ∙ c.args.components.now.order.ok.0)

pub sources_of-requires : goal.sources_of-requires
sources_of-requires c =
    edges_within c.args.self.now c.args.components.now.of.items c.args.components.now.order.items c.args.edges.now c.args.labels.now c.requires.parts c.len-count.result
    (c.len-count.ensures ∙ c.args.components.now.order.ok.0)

pub tell_all-requires-clause-within : goal.tell_all-requires-clause-within
tell_all-requires-clause-within c =
    let size : c.new-taking.result.waiting.items ≡ c.in_ok-waiting.waiting.items = ap (λ (s : State). s.waiting) c.new-taking.ensures in
    let ok = c.new-taking.result.waiting.ok.0 in
    let ok2 = c.in_ok-waiting.waiting.ok.0 in
    let same = ap length size in
    let made = c.in_ok-waiting.ensures.size in
    all_within c.len-count.result c.new-taking.result.waiting.len c.deref.result.now (c.deref.ensures.value ∙ c.in_ok-all.ensures) (omega arith)

pub loop-taking-init : goal.loop-taking-init
loop-taking-init c =
    starting c.args.self.now c.args.components.now.of.items c.args.components.now.order.items c.args.edges.now c.args.labels.now c.requires.parts c.len-count.result
    (c.len-count.ensures ∙ c.args.components.now.order.ok.0) c.in_ok-waiting.waiting.items (sym c.in_ok-waiting.waiting.ok.0 ∙ c.in_ok-waiting.ensures.size) c.in_ok-waiting.ensures.counts
    c.deref.result.now (c.deref.ensures.value ∙ c.in_ok-all.ensures) (state c.new-taking.result) (state c.tell_all.new.self) c.new-taking.ensures c.in_ok-tell_all.ensures.told

pub next-requires : goal.next-requires
next-requires c = step_within c.args.self.now c.args.components.now.of.items c.args.components.now.order.items c.args.edges.now c.args.labels.now c.requires.parts c.args.groups.now c.requires.groups (state c.loop-taking.taking) c.loop-taking.invariant

pub index-requires : goal.index-requires
index-requires c =
    let takes = rw c.in-Some.is at c.in_ok-group.ensures.next in
    let less = group_less c.args.self.now c.args.components.now.of.items c.args.components.now.order.items c.args.edges.now c.args.labels.now c.requires.parts c.args.groups.now c.requires.groups c.in-Some.group (state c.loop-taking.taking) (state c.next.new.self) c.loop-taking.invariant takes in
    let size = c.in_ok-back.ensures.size in
    let count = c.len-count.ensures in
    let ok = c.args.components.now.order.ok.0 in
    omega arith

pub tell_all-requires-in-Some-clause-within : goal.tell_all-requires-in-Some-clause-within
tell_all-requires-in-Some-clause-within c =
    let takes = rw c.in-Some.is at c.in_ok-group.ensures.next in
    let less = group_less c.args.self.now c.args.components.now.of.items c.args.components.now.order.items c.args.edges.now c.args.labels.now c.requires.parts c.args.groups.now c.requires.groups c.in-Some.group (state c.loop-taking.taking) (state c.next.new.self) c.loop-taking.invariant takes in
    let count = c.len-count.ensures ∙ c.args.components.now.order.ok.0 in
    let low : c.in-Some.group < c.len-count.result = omega arith in
    let made = c.in_ok-back.ensures.size in
    let ok = c.in_ok-back.back.ok.0 in
    let row = c.deref-in-Some.ensures.value ∙ row_read c.in_ok-back.back.items c.in-Some.group c.index.result.now (omega arith) c.index.ensures ∙ c.in_ok-back.ensures.sources c.in-Some.group low in
    let same = ap vec_len c.in_ok-group.ensures.same in
    let size = c.loop-taking.invariant.keeps.size in
    let ok2 = c.loop-taking.taking.waiting.ok.0 in
    sources_within c.args.self.now c.args.components.now.of.items c.args.components.now.order.items c.args.edges.now c.args.labels.now c.requires.parts c.in-Some.group c.next.new.self.waiting.len c.deref-in-Some.result.now row (omega arith)

pub loop-taking-smaller : goal.loop-taking-smaller
loop-taking-smaller c =
    let takes = rw c.in-Some.is at c.in_ok-group.ensures.next in
    let more = rw c.in-Some.is at c.in_ok-group.ensures.taken in
    let less = group_less c.args.self.now c.args.components.now.of.items c.args.components.now.order.items c.args.edges.now c.args.labels.now c.requires.parts c.args.groups.now c.requires.groups c.in-Some.group (state c.loop-taking.taking) (state c.next.new.self) c.loop-taking.invariant takes in
    let count = c.len-count.ensures ∙ c.args.components.now.order.ok.0 in
    let low : c.in-Some.group < c.len-count.result = omega arith in
    let made = c.in_ok-back.ensures.size in
    let ok = c.in_ok-back.back.ok.0 in
    let row = c.deref-in-Some.ensures.value ∙ row_read c.in_ok-back.back.items c.in-Some.group c.index.result.now (omega arith) c.index.ensures ∙ c.in_ok-back.ensures.sources c.in-Some.group low in
    (turn c.args.self.now c.args.components.now.of.items c.args.components.now.order.items c.args.edges.now c.args.labels.now c.requires.parts c.args.groups.now c.requires.groups c.in-Some.group (state c.loop-taking.taking) (state c.next.new.self) (state c.tell_all-in-Some.new.self) c.deref-in-Some.result.now c.loop-taking.invariant takes
    (ap (λ (v : Vec ℕ Global). v.items) c.in_ok-group.ensures.same) more row c.in_ok-tell_all-2.ensures.told).1

pub loop-taking-preserved : goal.loop-taking-preserved
loop-taking-preserved c =
    let takes = rw c.in-Some.is at c.in_ok-group.ensures.next in
    let more = rw c.in-Some.is at c.in_ok-group.ensures.taken in
    let less = group_less c.args.self.now c.args.components.now.of.items c.args.components.now.order.items c.args.edges.now c.args.labels.now c.requires.parts c.args.groups.now c.requires.groups c.in-Some.group (state c.loop-taking.taking) (state c.next.new.self) c.loop-taking.invariant takes in
    let count = c.len-count.ensures ∙ c.args.components.now.order.ok.0 in
    let low : c.in-Some.group < c.len-count.result = omega arith in
    let made = c.in_ok-back.ensures.size in
    let ok = c.in_ok-back.back.ok.0 in
    let row = c.deref-in-Some.ensures.value ∙ row_read c.in_ok-back.back.items c.in-Some.group c.index.result.now (omega arith) c.index.ensures ∙ c.in_ok-back.ensures.sources c.in-Some.group low in
    (turn c.args.self.now c.args.components.now.of.items c.args.components.now.order.items c.args.edges.now c.args.labels.now c.requires.parts c.args.groups.now c.requires.groups c.in-Some.group (state c.loop-taking.taking) (state c.next.new.self) (state c.tell_all-in-Some.new.self) c.deref-in-Some.result.now c.loop-taking.invariant takes
    (ap (λ (v : Vec ℕ Global). v.items) c.in_ok-group.ensures.same) more row c.in_ok-tell_all-2.ensures.told).0

pub returns : goal.returns
returns c =
    let over = rw c.in_default.is at c.in_ok-group.ensures.taken in
    let same = rw c.in_default.is at c.in_ok-group.ensures.over in
    subst (λ l. IsInitOrder c.args.self.now (steps_of (λ g. slice_index_or c.args.labels.now g None) l)) (sym same)
    (ends c.args.self.now c.args.components.now.of.items c.args.components.now.order.items c.args.edges.now c.args.labels.now c.requires.parts (state c.loop-taking.taking) c.loop-taking.invariant over.0 over.1)
