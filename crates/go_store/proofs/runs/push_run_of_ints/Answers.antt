use Rattle.std.proofs.Common.{[], ◌∙◌, ap, sym, subst, refl, IsSome, Option, List, unwrap_or}
use Rattle.go_store.specs.Arrays.{with_elements}
use Rattle.go_value.specs.Values.{Val}
use Rattle.go_store.specs.Cells.{packed}
use Rattle.go_store.proofs.Overwritten.{on_ok_with, ints_run, bytes_run, numbers_pushed}
use Rattle.go_store.proofs.Reached.{on_ok}
use Rattle.go_store.proofs.runs.push_run_of_ints.Goals as goal

pub returns-in-Ints-clause-ok : goal.returns-in-Ints-clause-ok
returns-in-Ints-clause-ok c = on_ok_with c.push_ints.result c.push_ints.ensures.within c.push_ints.ensures.ok (λ within same.
    same ∙ sym (ap (λ (o : Option (List Val)). with_elements (unwrap_or o []) (packed c.args.all.now.items)) (ints_run c.args.from.now c.in-Ints.ints c.as_slice.result.now c.args.first c.args.len c.in-Ints.is c.as_slice.ensures.value within)))

pub returns-in-Ints-clause-there : goal.returns-in-Ints-clause-there
returns-in-Ints-clause-there c = on_ok c.push_ints.result c.push_ints.ensures.within (λ within.
    subst (λ o. IsSome o) (sym (ints_run c.args.from.now c.in-Ints.ints c.as_slice.result.now c.args.first c.args.len c.in-Ints.is c.as_slice.ensures.value within)) refl)

pub returns-in-Bytes-clause-ok : goal.returns-in-Bytes-clause-ok
returns-in-Bytes-clause-ok c = on_ok_with c.push_wide_run.result c.push_wide_run.ensures.within c.push_wide_run.ensures.ok (λ within same.
    ap packed same
    ∙ numbers_pushed c.args.all.now.items _
    ∙ sym (ap (λ (o : Option (List Val)). with_elements (unwrap_or o []) (packed c.args.all.now.items)) (bytes_run c.args.from.now c.in-Bytes.bytes c.as_slice-in-Bytes.result.now c.args.first c.args.len c.in-Bytes.is c.as_slice-in-Bytes.ensures.value within)))

pub returns-in-Bytes-clause-there : goal.returns-in-Bytes-clause-there
returns-in-Bytes-clause-there c = on_ok c.push_wide_run.result c.push_wide_run.ensures.within (λ within.
    subst (λ o. IsSome o) (sym (bytes_run c.args.from.now c.in-Bytes.bytes c.as_slice-in-Bytes.result.now c.args.first c.args.len c.in-Bytes.is c.as_slice-in-Bytes.ensures.value within)) refl)
