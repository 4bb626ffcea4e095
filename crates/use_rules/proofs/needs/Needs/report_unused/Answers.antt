use Rattle.std.proofs.Common.{◌≡◌, ◌∙◌, ap, ℕ, List}
use Rattle.std.specs.Prelude.{◌&&◌, ◌==◌}
use Rattle.std.specs.List.{list_any}
use Rattle.go_base.specs.declared.ids.VarId.{VarId}
use Rattle.go_faults.specs.Faults.{least_with}
use Rattle.use_rules.specs.Uses.{Needed, flag_at, is_read, is_used, unused_from}
use Rattle.use_rules.proofs.Marking.{any_same, unused_same}
use Rattle.use_rules.proofs.needs.Needs.report_unused.Goals as goal

pub returns : goal.returns
returns c =
    let mentions = c.args.mentions.now in
    let read_is : (v : VarId) → flag_at c.deref.result.now v.number ≡ is_read mentions v =
    λ v. ap (λ flags. flag_at flags v.number) c.deref.ensures.value ∙ c.in_ok-read.ensures v in
    let used_is : (k : ℕ) → flag_at c.deref-2.result.now k ≡ is_used c.args.self.now mentions k =
    λ k. ap (λ flags. flag_at flags k) c.deref-2.ensures.value ∙ c.in_ok-used.ensures k
    ∙ any_same (λ v. flag_at c.deref.result.now v.number) (is_read mentions) k c.as_slice.result.now read_is
    ∙ ap (λ (named : List (VarId × ℕ)). list_any (λ it. (it.1 == k) && is_read mentions it.0) named)
    (c.as_slice.ensures.value ∙ ap (λ (needs : Needed). needs.variables) c.self.view_is) in
    c.report.ensures
    ∙ ap (λ names. least_with c.args.later.now.fault (unused_from (flag_at c.deref-2.result.now) 0 names))
    (c.as_slice-2.ensures.value ∙ ap (λ (needs : Needed). needs.names) c.self.view_is)
    ∙ ap (least_with c.args.later.now.fault) (unused_same (flag_at c.deref-2.result.now) (is_used c.args.self.now mentions) 0 c.args.self.now.names used_is)
