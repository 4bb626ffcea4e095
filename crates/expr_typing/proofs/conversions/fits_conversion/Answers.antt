use Rattle.std.proofs.Common.{◌&&◌, ◌||◌}
use Rattle.std.specs.Prelude.{not}
use Rattle.expr_typing.proofs.conversions.fits_conversion.Goals as goal

pub returns : goal.returns
returns c = λ told. λ i. not (c.is_interface.ensures i) && (c.keeps_value.ensures told i || c.makes_value.ensures told.tests i)
