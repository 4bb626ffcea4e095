use Rattle.std.proofs.Common.{◌≡◌, refl, sym, ap, ◌∙◌, subst, Some, None, Option}
use Rattle.typed_parts.specs.declared.meaning.Given.{Given}
use Rattle.typed_parts.specs.Judged.{fine}
use Rattle.typed_built_ins.specs.Extremes.{IsOneMore, ended}
use Rattle.typed_built_ins.proofs.Greatest.{not_is_false, not_is_true, one_joined, one_looked_at, one_refused}
use Rattle.typed_built_ins.proofs.extremes.with_argument.Goals as goal

pub returns-then-not-common-clause-joined : goal.returns-then-not-common-clause-joined
returns-then-not-common-clause-joined c =
    one_looked_at c.args.ground.now c.args.common c.args.common c.args.argument.now (IsOneMore.past c.args.argument.now (not_is_true c.args.common.whole c.if-not-common.true))

pub returns-in_default-clause-joined : goal.returns-in_default-clause-joined
returns-in_default-clause-joined c =
    let old = c.args.ground.now in
    let common = c.args.common in
    one_looked_at old common (ended common) c.args.argument.now
    (subst (λ (x : Option Given). IsOneMore old.types common x (fine (ended common))) (sym c.in_default.is) (IsOneMore.unsound (not_is_false common.whole c.if-not-common.false)))

pub returns-in-Some-joined_with-clause-joined : goal.returns-in-Some-joined_with-clause-joined
returns-in-Some-joined_with-clause-joined c =
    one_joined c.args.ground.now c.args.common c.args.argument.now c.in-Some.x c.joined_with.result c.in-Some-joined_with.joined c.in-Some.is (not_is_false c.args.common.whole c.if-not-common.false)
    c.joined_with.ensures c.in-Some-joined_with.is

pub returns-in-None-clause-joined : goal.returns-in-None-clause-joined
returns-in-None-clause-joined c =
    one_refused c.args.ground.now c.report.new.self c.args.common c.args.argument.now c.in-Some.x c.joined_with.result c.in-Some.is (not_is_false c.args.common.whole c.if-not-common.false) c.joined_with.ensures
    c.in-None.is c.report.ensures
