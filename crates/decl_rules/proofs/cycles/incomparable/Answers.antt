use Rattle.std.proofs.Common.{◌≡◌, ◌∙◌, ℕ, IfOk, Vec, Global, ap, length, map, subst, sym}
use Rattle.std.proofs.lemmas.List.{length-map}
use Rattle.go_graph.specs.Marks.{AreMarks, ReachesMark}
use Rattle.decl_nodes.specs.declared.nodes.Node.{Node}
use Rattle.decl_nodes.proofs.Rows.{rows_of}
use Rattle.decl_rules.specs.Cycles.{NotComparable, held, holds, is_incomparable}
use Rattle.decl_rules.proofs.cycles.incomparable.Goals as goal

pub returns : goal.returns
returns c =
    let list = c.args.nodes.now.list in
    let r = c.reach_marked.result in
    let rows : rows_of c.deref.result.now ≡ holds list = ap rows_of c.deref.ensures.value ∙ c.in_ok-graph.ensures in
    let marks : c.deref-2.result.now ≡ map (λ n. is_incomparable n.kind) list = c.deref-2.ensures.value ∙ c.in_ok-marks.ensures in
    let size : length c.deref.result.now ≡ length list =
    sym (length-map c.deref.result.now (λ (v : Vec ℕ Global). v.items)) ∙ ap length rows ∙ length-map list (λ (n : Node). held n.kind) in
    subst (λ n. IfOk r (λ v. AreMarks n (NotComparable list) v.items)) size
    (subst (λ ms. IfOk r (λ v. AreMarks (length c.deref.result.now) (ReachesMark (holds list) ms) v.items)) marks
    (subst (λ rs. IfOk r (λ v. AreMarks (length c.deref.result.now) (ReachesMark rs c.deref-2.result.now) v.items)) rows c.reach_marked.ensures))
