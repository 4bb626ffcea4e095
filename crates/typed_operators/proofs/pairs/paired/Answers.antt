use Rattle.std.proofs.Common.{Some}
use Rattle.go_rules.specs.declared.matching.Matched.TheVariants as match_of
use Rattle.typed_parts.specs.Retyping.{IsDefaulted, IsGiven}
use Rattle.typed_parts.proofs.Steps.{came}
use Rattle.typed_operators.specs.Pairs.{pair}
use Rattle.typed_operators.proofs.Paired.{kinds_pair, left_stays, paired_as, right_stays, typed_pair}
use Rattle.typed_operators.proofs.pairs.paired.Goals as goal

pub returns-in-Typed : goal.returns-in-Typed
returns-in-Typed c =
    paired_as c.args.ground.now c.args.ground.now c.args.how match_of.Typed c.args.left c.args.right (came (Some (pair c.args.left c.args.right))) c.in-Typed.is
    (typed_pair c.args.ground.now c.args.left c.args.right)

pub returns-in-Untyped : goal.returns-in-Untyped
returns-in-Untyped c =
    paired_as c.args.ground.now c.rekinded-right.new.ground c.args.how (match_of.Untyped c.in-Untyped.kind) c.args.left c.args.right c.pair_of.result c.in-Untyped.is
    (kinds_pair c.args.ground.now c.rekinded-left.new.ground c.rekinded-right.new.ground c.in-Untyped.kind c.args.left c.args.right c.rekinded-left.result c.rekinded-right.result c.pair_of.result
    c.rekinded-left.ensures.answer c.rekinded-left.ensures.broken c.rekinded-right.ensures.answer c.rekinded-right.ensures.broken c.pair_of.ensures)

pub returns-in-FirstConverted : goal.returns-in-FirstConverted
returns-in-FirstConverted c =
    paired_as c.args.ground.now c.retyped.new.ground c.args.how match_of.FirstConverted c.args.left c.args.right c.with_right.result c.in-FirstConverted.is
    (right_stays c.args.ground.now c.retyped.new.ground (IsGiven c.args.ground.now.types c.args.right.of c.args.left) c.retyped.result c.args.right c.with_right.result c.retyped.ensures c.with_right.ensures)

pub returns-in-SecondConverted : goal.returns-in-SecondConverted
returns-in-SecondConverted c =
    paired_as c.args.ground.now c.retyped-in-SecondConverted.new.ground c.args.how match_of.SecondConverted c.args.left c.args.right c.with_left.result c.in-SecondConverted.is
    (left_stays c.args.ground.now c.retyped-in-SecondConverted.new.ground (IsGiven c.args.ground.now.types c.args.left.of c.args.right) c.args.left c.retyped-in-SecondConverted.result c.with_left.result c.retyped-in-SecondConverted.ensures c.with_left.ensures)

pub returns-in-FirstDefault : goal.returns-in-FirstDefault
returns-in-FirstDefault c =
    paired_as c.args.ground.now c.defaulted.new.ground c.args.how match_of.FirstDefault c.args.left c.args.right c.with_right-in-FirstDefault.result c.in-FirstDefault.is
    (right_stays c.args.ground.now c.defaulted.new.ground (IsDefaulted c.args.ground.now.types c.args.left) c.defaulted.result c.args.right c.with_right-in-FirstDefault.result c.defaulted.ensures c.with_right-in-FirstDefault.ensures)

pub returns-in-SecondDefault : goal.returns-in-SecondDefault
returns-in-SecondDefault c =
    paired_as c.args.ground.now c.defaulted-in-SecondDefault.new.ground c.args.how match_of.SecondDefault c.args.left c.args.right c.with_left-in-SecondDefault.result c.in-SecondDefault.is
    (left_stays c.args.ground.now c.defaulted-in-SecondDefault.new.ground (IsDefaulted c.args.ground.now.types c.args.right) c.args.left c.defaulted-in-SecondDefault.result c.with_left-in-SecondDefault.result c.defaulted-in-SecondDefault.ensures c.with_left-in-SecondDefault.ensures)
