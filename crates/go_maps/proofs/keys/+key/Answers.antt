use Rattle.std.proofs.Common.{arith, ◌*◌, ◌≡◌, ◌∙◌, ◌+◌, ap, sym, subst, Err, List, drop}
use Rattle.std.proofs.lemmas.Result.{err_from_is_err_and}
use Rattle.go_value.specs.declared.values.Dynamic.TheDeep.{deep-Value}
use Rattle.go_value.specs.declared.values.Value.TheVariants as values
use Rattle.go_value.specs.declared.values.Part.{Part}
use Rattle.go_value.specs.Counts.{count}
use Rattle.go_value.specs.Falls.{heaviest, values_fall}
use Rattle.go_value.specs.Values as vals
use Rattle.go_value.specs.Values.{Typed, value_of, parts_of}
use Rattle.go_maps.specs.Keys.{Hashes, TellsFault, unhashable_part, unhashable_in}
use Rattle.go_maps.proofs.Hashed.{leaf_hashes, next_code, all_code, next_hashes, passed, failed}
use Rattle.go_maps.proofs.KindsOf.{interface_of, compound_of}
use Rattle.go_maps.proofs.Sames.{drop_whole}
use Rattle.go_maps.proofs.keys.+key.Goals as goal

pub push_key-returns-in_ok-push_leaf-in_default : goal.push_key-returns-in_ok-push_leaf-in_default
push_key-returns-in_ok-push_leaf-in_default t c =
    let key = c.args.key.now in
    record {
      code = c.in_ok-push_leaf-in_default.ensures;
      fault = λ test tells. leaf_hashes test (value_of key)
          (λ k. let it = interface_of key k in c.in_default.not-Interface it.0 it.1)
          (λ k. let it = compound_of key k in c.in_default.not-Parts it.0 it.1);
    }

pub push_parts-loop-part-preserved : goal.push_parts-loop-part-preserved
push_parts-loop-part-preserved t c =
    let xs = c.args.parts.now in
    let i = c.loop-part.part-index in
    let x = c.part-item.result in (
      next_code xs i x c.loop-part.bytes.items c.push_part.new.bytes.items _ c.loop-part.invariant.0 c.loop-part-test.true c.part-item.is c.in_ok-push_part.ensures.code,
      λ test tells. c.loop-part.invariant.1 test tells ∙ next_hashes test xs i x c.loop-part-test.true c.part-item.is ∙ passed _ _ (c.in_ok-push_part.ensures.fault test tells),
    )

pub push_parts-returns-in_err-push_part-clause-fault : goal.push_parts-returns-in_err-push_part-clause-fault
push_parts-returns-in_err-push_part-clause-fault t c =
    λ test tells.
    let xs = c.args.parts.now in
    let i = c.loop-part.part-index in
    let x = c.part-item.result in
    let e = c.in_err-push_part.field-0.0 in
    let first = unhashable_part test x in
    let later = unhashable_in test (parts_of (drop (i + 1) xs)) in
    let all = c.loop-part.invariant.1 test tells ∙ next_hashes test xs i x c.loop-part-test.true c.part-item.is in
    let told : TellsFault {A = Unit {0}} (Err e) first = c.in_err-push_part.ensures.fault test tells in
    let p = err_from_is_err_and c.from_residual.result c.from_residual.ensures.1 in
    rw (p.1, p.2) (subst (TellsFault {A = Unit {0}} (Err e)) (sym all) (failed e first later told))

pub push_parts-returns : goal.push_parts-returns
push_parts-returns t c =
    record {
      code = all_code c.args.parts.now c.loop-part.part-index c.loop-part.bytes.items _ c.loop-part.invariant.0 c.loop-part-test.false;
      fault = λ test tells. c.loop-part.invariant.1 test tells ∙ ap (λ (l : List Part). unhashable_in test (parts_of l)) (drop_whole c.loop-part.part-index c.args.parts.now c.loop-part-test.false);
    }

pub push_dynamic-push_key-requires : goal.push_dynamic-push_key-requires
push_dynamic-push_key-requires t c =
    let size : 2 * (3 * (count c.args.held.now.value + 1) + 0) + 0 ≡ t = c.decreases in
    (omega (arith, size, values_fall c.value.result.now, ap count c.value.ensures), tt)

pub push_key-push_parts-requires : goal.push_key-push_parts-requires
push_key-push_parts-requires t c =
    let deep : 2 * (3 * deep-Value (values.Parts c.in-Parts.parts) + 2) + 0 ≡ t = ap (λ v. 2 * (3 * deep-Value v + 2) + 0) (sym c.in-Parts.is) ∙ c.decreases in
    let same = c.as_slice.ensures.value ∙ ap (λ v. v.items) c.deref-in-Parts.ensures in
    (rw same (omega (arith, deep, heaviest c.in-Parts.parts.value.items)), tt)

pub push_key-returns-in-Interface-clause-fault : goal.push_key-returns-in-Interface-clause-fault
push_key-returns-in-Interface-clause-fault t c =
    subst (λ v. Hashes c.args.types.now v c.push_dynamic.result) (sym (ap value_of c.in-Interface.is ∙ ap (λ (d : Typed). vals.dynamic d.of d.value) (sym c.deref.ensures))) c.push_dynamic.ensures.fault
