use Rattle.std.proofs.Common.{arith, ◌*◌, ◌≡◌, ◌∙◌, ap, sym, subst, Bool, true, false, ◌+◌, List, drop, Result, Ok, Err}
use Rattle.std.proofs.lemmas.Result.{err_from_is_err_and}
use Rattle.go_value.specs.declared.faults.ValueError.{ValueError}
use Rattle.go_value.specs.declared.values.Dynamic.TheDeep.{deep-Value}
use Rattle.go_value.specs.declared.values.Value.TheVariants as values
use Rattle.go_value.specs.Counts.{count}
use Rattle.go_value.specs.Falls.{heaviest, values_fall}
use Rattle.go_value.specs.Values.{Field, value_of, parts_of}
use Rattle.go_maps.specs.Equality.{Tells, compared, compared_part, compared_parts}
use Rattle.go_maps.proofs.KindsOf.{kind, interfaces, compounds, interface_of, compound_of, interface_kind, compound_kind, not_interfaces, leaves_compared}
use Rattle.go_maps.proofs.Sames.{first_fields, equal_first, unequal_first, failed_first, next_part, drop_whole, empty_parts}
use Rattle.go_maps.proofs.equality.+same.Goals as goal
use Rattle.go_maps.proofs.equality.+same.Goals.{same-in_default-via-in-Interface+in_default, same-in_default-via-in-Parts+in_default, same-in_default-via-in_default}

pub same-returns-in_default : goal.same-returns-in_default
same-returns-in_default t c =
    let a = c.args.a.now in
    let b = c.args.b.now in
    let no_interfaces : kind (value_of a) ≡ interfaces → kind (value_of b) ≡ interfaces → ⊥ =
    λ k k'. elim c.in_default.branch [
      | same-in_default-via-in-Interface+in_default w ↦ (let it = interface_of b k' in w.in_default.not-Interface-1 it.0 it.1)
      | same-in_default-via-in-Parts+in_default w ↦ not_interfaces (kind (value_of a)) (compound_kind a w.in_default.field-0-0 w.in_default.is-0) k
      | same-in_default-via-in_default w ↦ (let it = interface_of a k in w.in_default.not-Interface-0 it.0 it.1)
    ] in
    let no_parts : kind (value_of a) ≡ compounds → kind (value_of b) ≡ compounds → ⊥ =
    λ k k'. elim c.in_default.branch [
      | same-in_default-via-in-Interface+in_default w ↦ not_interfaces (kind (value_of a)) k (interface_kind a w.in_default.field-0-0 w.in_default.is-0)
      | same-in_default-via-in-Parts+in_default w ↦ (let it = compound_of b k' in w.in_default.not-Parts-1 it.0 it.1)
      | same-in_default-via-in_default w ↦ (let it = compound_of a k in w.in_default.not-Parts-0 it.0 it.1)
    ] in
    λ test tells. leaves_compared test (value_of a) (value_of b) no_interfaces no_parts ∙ ap Ok (sym c.same_leaf.ensures)

pub same_parts-returns-in_err-same_part : goal.same_parts-returns-in_err-same_part
same_parts-returns-in_err-same_part t c =
    λ test tells.
    let xs = c.args.a.now in
    let i = c.loop-left.left-index in
    let x = c.left-item.result in
    let y = c.in-Some.right.now in
    let rest = c.in-Some.rest.now in
    let e = c.in_err-same_part.field-0.0 in
    let first = compared_part x.blank y.blank (compared test x.value y.value) in
    let later = compared_parts test (parts_of (drop (i + 1) xs)) (parts_of rest) in
    let all = c.loop-left.invariant test tells ∙ first_fields test x y (drop i xs) c.loop-left.others.now (drop (i + 1) xs) rest (next_part xs i x c.loop-left-test.true c.left-item.is) c.in-Some.ensures.cases.0 in
    let told : Tells (Err e) first = subst (λ (r : Result Bool ValueError). Tells r first) c.in_err-same_part.was (c.same_part.ensures test tells) in
    let p = err_from_is_err_and c.from_residual.result c.from_residual.ensures.1 in
    rw (p.1, p.2) (subst (Tells (Err e)) (sym all) (failed_first e first later told))

pub same_parts-returns-then-not-branch : goal.same_parts-returns-then-not-branch
same_parts-returns-then-not-branch t c =
    λ test tells.
    let xs = c.args.a.now in
    let i = c.loop-left.left-index in
    let x = c.left-item.result in
    let y = c.in-Some.right.now in
    let rest = c.in-Some.rest.now in
    let first = compared_part x.blank y.blank (compared test x.value y.value) in
    let later = compared_parts test (parts_of (drop (i + 1) xs)) (parts_of rest) in
    let told : Tells (Ok false) first = subst (λ (r : Result Bool ValueError). Tells r first) (c.in_ok-same_part.was ∙ ap Ok c.if-not-branch.true) (c.same_part.ensures test tells) in
    c.loop-left.invariant test tells ∙ first_fields test x y (drop i xs) c.loop-left.others.now (drop (i + 1) xs) rest (next_part xs i x c.loop-left-test.true c.left-item.is) c.in-Some.ensures.cases.0 ∙ unequal_first first later told

pub same_parts-loop-left-preserved : goal.same_parts-loop-left-preserved
same_parts-loop-left-preserved t c =
    λ test tells.
    let xs = c.args.a.now in
    let i = c.loop-left.left-index in
    let x = c.left-item.result in
    let y = c.in-Some.right.now in
    let rest = c.in-Some.rest.now in
    let first = compared_part x.blank y.blank (compared test x.value y.value) in
    let later = compared_parts test (parts_of (drop (i + 1) xs)) (parts_of rest) in
    let told : Tells (Ok true) first = subst (λ (r : Result Bool ValueError). Tells r first) (c.in_ok-same_part.was ∙ ap Ok c.if-not-branch.false) (c.same_part.ensures test tells) in
    c.loop-left.invariant test tells ∙ first_fields test x y (drop i xs) c.loop-left.others.now (drop (i + 1) xs) rest (next_part xs i x c.loop-left-test.true c.left-item.is) c.in-Some.ensures.cases.0 ∙ equal_first first later told

pub same_parts-returns : goal.same_parts-returns
same_parts-returns t c =
    λ test tells.
    let ys = c.loop-left.others.now in
    c.loop-left.invariant test tells
    ∙ ap (λ (ps : List Field). compared_parts test (parts_of ps) (parts_of ys)) (drop_whole c.loop-left.left-index c.args.a.now c.loop-left-test.false)
    ∙ ap Ok (sym (c.is_empty.ensures ∙ empty_parts ys))

pub same-same_parts-requires : goal.same-same_parts-requires
same-same_parts-requires t c =
    let deep : 2 * (3 * deep-Value (values.Parts c.in-Parts-Parts.left) + 2) + 0 ≡ t = ap (λ v. 2 * (3 * deep-Value v + 2) + 0) (sym c.in-Parts-Parts.is-0) ∙ c.decreases in
    let same = c.as_slice.ensures.value ∙ ap (λ v. v.items) c.deref-in-Parts-Parts.ensures in
    (rw same (omega (arith, deep, heaviest c.in-Parts-Parts.left.value.items)), tt)

pub same_dynamic-same-requires : goal.same_dynamic-same-requires
same_dynamic-same-requires t c =
    let size : 2 * (3 * (count c.args.a.now.value + 1) + 0) + 0 ≡ t = c.decreases in
    (omega (arith, size, values_fall c.value.result.now, ap count c.value.ensures), tt)
