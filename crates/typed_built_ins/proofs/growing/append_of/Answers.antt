use Rattle.std.proofs.Common.{length}
use Rattle.go_tree.specs.declared.exprs.TypedExpr.{TypedExpr}
use Rattle.typed_parts.specs.Several.{place_of}
use Rattle.typed_built_ins.specs.Growing.{IsAppendCall, dots_broken, fits_dots}
use Rattle.typed_built_ins.proofs.Grows.{kept_list, no_list}
use Rattle.typed_built_ins.proofs.growing.append_of.Goals as goal

pub returns-in-Some : goal.returns-in-Some
returns-in-Some c =
    let v = c.args.arguments in
    kept_list c.args.ground.now c.ask_fit-fits.new.ground c.append_call.new.ground v c.in-Some.arguments (fits_dots c.args.call.dots (length v.items)) c.ask_fit-fits.result
    (dots_broken c.args.call.dots (length v.items) (place_of v.items c.args.call.at)) (IsAppendCall c.args.call) c.append_call.result
    (cc) (cc) (cc) c.append_call.ensures

pub returns-in-None : goal.returns-in-None
returns-in-None c =
    let v = c.args.arguments in
    no_list c.args.ground.now c.ask_fit-fits.new.ground v (fits_dots c.args.call.dots (length v.items)) c.ask_fit-fits.result
    (dots_broken c.args.call.dots (length v.items) (place_of v.items c.args.call.at)) (IsAppendCall c.args.call)
    (cc) (cc) (cc)
