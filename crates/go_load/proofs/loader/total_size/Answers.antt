use Rattle.std.proofs.Common.{length, rules}
use Rattle.go_load.proofs.NameLaws.{size_next}
use Rattle.go_load.proofs.loader.total_size.Goals as goal

pub files-preserved : goal.files-preserved
files-preserved c =
    size_next c.args.sources.now c.files.source-index c.source-item.result 18446744073709551615 c.files.total c.saturating_add-total.result (length c.as_slice.result.now) c.files-test.true c.source-item.is c.files.invariant (search rules) (search rules)
