use Rattle.typed_literals.proofs.Rows.{plain_type, slice_type}
use Rattle.typed_literals.proofs.arrays.finished_type.Goals as goal

pub returns-in_ok-fits-in-Slice : goal.returns-in_ok-fits-in-Slice
returns-in_ok-fits-in-Slice c =
    slice_type c.args.ground.now c.fit_many.new.self c.args.literal.kind c.args.literal c.args.elem c.in-Slice.elem c.args.len
    c.in_ok-fits-in-Slice.fits c.then_some.result c.in-Slice.is c.in_ok-fits-in-Slice.ensures c.then_some.ensures

pub returns-in-Struct : goal.returns-in-Struct
returns-in-Struct c = plain_type c.args.ground.now c.args.literal.kind c.args.literal c.args.elem c.args.len c.in-Struct.is
