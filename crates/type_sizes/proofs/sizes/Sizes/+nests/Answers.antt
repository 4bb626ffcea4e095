use Rattle.std.proofs.Common.{◌≡◌, ◌-◌, IfOk, List, Some, sym, ap, subst, ◌∙◌}
use Rattle.std.specs.List.{list_all}
use Rattle.go_base.specs.declared.ids.TypeId.{TypeId}
use Rattle.go_type.specs.declared.term.Field.{Field}
use Rattle.go_type.specs.declared.term.MethodType.{MethodType}
use Rattle.go_type.specs.declared.term.TypeTerm.TheVariants.{Array, Struct, Map, Interface, Tuple}
use Rattle.go_type.specs.Sizes.{nests_within, nests_as_part}
use Rattle.type_sizes.proofs.Anew.{anew, anew_both}
use Rattle.type_sizes.proofs.sizes.Sizes.+nests.Goals as goal

pub nests_anew-returns-in-Some-Array-clause-answer : goal.nests_anew-returns-in-Some-Array-clause-answer
nests_anew-returns-in-Some-Array-clause-answer t c =
    anew c.args.limit c.args.types.now c.args.id (Array _ c.in-Some-Array.elem) c.nests.result c.if-limit-eq0.false (sym (ap Some c.in-Some-Array.field-0-is) ∙ c.in-Some-Array.ensures.term)
    c.nests.ensures.answer

pub nests_anew-returns-in-Some-Struct-clause-answer : goal.nests_anew-returns-in-Some-Struct-clause-answer
nests_anew-returns-in-Some-Struct-clause-answer t c =
    anew c.args.limit c.args.types.now c.args.id (Struct c.in-Some-Struct.fields) c.fields_nest.result c.if-limit-eq0.false (sym (ap Some c.in-Some-Struct.field-0-is) ∙ c.in-Some-Struct.ensures.term)
    (subst (λ (l : List Field). IfOk c.fields_nest.result (λ b. b ≡ list_all (λ field. nests_within (c.args.limit - 1) c.args.types.now field.of) l)) c.as_slice.ensures c.fields_nest.ensures.answer)

pub nests_anew-returns-in-Some-Map-clause-answer : goal.nests_anew-returns-in-Some-Map-clause-answer
nests_anew-returns-in-Some-Map-clause-answer t c =
    anew c.args.limit c.args.types.now c.args.id (Map c.in-Some-Map.key c.in-Some-Map.elem) c.pair_nests.result c.if-limit-eq0.false (sym (ap Some c.in-Some-Map.field-0-is) ∙ c.in-Some-Map.ensures.term)
    c.pair_nests.ensures.answer

pub nests_anew-returns-in-Some-Interface-clause-answer : goal.nests_anew-returns-in-Some-Interface-clause-answer
nests_anew-returns-in-Some-Interface-clause-answer t c =
    anew c.args.limit c.args.types.now c.args.id (Interface c.in-Some-Interface.methods) c.methods_nest.result c.if-limit-eq0.false (sym (ap Some c.in-Some-Interface.field-0-is) ∙ c.in-Some-Interface.ensures.term)
    (subst
    (λ (l : List MethodType). IfOk c.methods_nest.result (λ b. b ≡ list_all (λ method. nests_as_part (c.args.limit - 1) (nests_within (c.args.limit - 1) c.args.types.now) c.args.types.now method.of) l))
    c.as_slice-in-Some-Interface.ensures c.methods_nest.ensures.answer)

pub nests_anew-returns-in-Some-Tuple-clause-answer : goal.nests_anew-returns-in-Some-Tuple-clause-answer
nests_anew-returns-in-Some-Tuple-clause-answer t c =
    anew c.args.limit c.args.types.now c.args.id (Tuple c.in-Some-Tuple.parts) c.parts_nest-in-Some-Tuple.result c.if-limit-eq0.false (sym (ap Some c.in-Some-Tuple.field-0-is) ∙ c.in-Some-Tuple.ensures.term)
    (subst
    (λ (l : List TypeId). IfOk c.parts_nest-in-Some-Tuple.result (λ b. b ≡ list_all (nests_as_part (c.args.limit - 1) (nests_within (c.args.limit - 1) c.args.types.now) c.args.types.now) l))
    c.as_slice-in-Some-Tuple.ensures c.parts_nest-in-Some-Tuple.ensures.answer)

pub nests_anew-returns-else-not-branch-clause-answer : goal.nests_anew-returns-else-not-branch-clause-answer
nests_anew-returns-else-not-branch-clause-answer t c =
    anew_both c.args.limit c.args.types.now c.args.id c.in-Some-Func.signature c.parts_nest-in-Some-Func.result c.in_ok-parts_nest-in-Some-Func.field-0
    c.as_slice-in-Some-Func.result.now c.as_slice-in-Some-Func-2.result.now c.if-limit-eq0.false (sym (ap Some c.in-Some-Func.field-0-is) ∙ c.in-Some-Func.ensures.term)
    c.as_slice-in-Some-Func.ensures c.as_slice-in-Some-Func-2.ensures c.in_ok-parts_nest-in-Some-Func.ensures.answer c.if-not-branch.false c.parts_nest-in-Some-Func.ensures.answer
