use Rattle.std.proofs.Common.{◌≡◌, Some, None}
use Rattle.std.specs.Option.{option_zip}
use Rattle.typed_built_ins.specs.Moving.{elem_in}
use Rattle.typed_built_ins.proofs.Moves.{no_source, source_asked}
use Rattle.typed_built_ins.proofs.moving.copied_from.Goals as goal

pub returns-in_default : goal.returns-in_default
returns-in_default c =
    let none : option_zip (elem_in c.args.ground.now.types c.args.to.now) c.args.from ≡ None = cc in
    no_source c.args.ground.now (option_zip (elem_in c.args.ground.now.types c.args.to.now) c.args.from) none

pub returns : goal.returns
returns c =
    let pair : option_zip (elem_in c.args.ground.now.types c.args.to.now) c.args.from ≡ Some (c.in-Some.elem, c.in-Some.from) = cc in
    source_asked c.args.ground.now c.asked.new.ground (option_zip (elem_in c.args.ground.now.types c.args.to.now) c.args.from) c.in-Some.elem c.in-Some.from c.may_copy-may.result c.asked.result
    pair c.may_copy-may.ensures c.asked.ensures.answer c.asked.ensures.broken
