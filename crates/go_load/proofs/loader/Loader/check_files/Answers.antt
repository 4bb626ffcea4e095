use Rattle.std.proofs.Common.{arith}
use Rattle.std.proofs.lemmas.List.{nil_from_length}
use Rattle.go_load.proofs.LoaderLaws.{empty_checked}
use Rattle.go_load.proofs.loader.Loader.check_files.Goals as goal

pub returns-in-empty-clause-exact : goal.returns-in-empty-clause-exact
returns-in-empty-clause-exact c =
    empty_checked c.args.number c.args.self.now c.args.sources.now c.refuse_empty.result c.requires (nil_from_length c.args.sources.now (omega arith)) c.refuse_empty.ensures.here
