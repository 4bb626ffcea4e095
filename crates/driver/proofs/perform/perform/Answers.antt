use Rattle.std.proofs.Common.{map, string_bytes}
use Rattle.driver.proofs.Answering.{generated_answers}
use Rattle.driver.proofs.perform.perform.Goals as goal

pub returns-in-Ok-Generate-clause-answers : goal.returns-in-Ok-Generate-clause-answers
returns-in-Ok-Generate-clause-answers g c =
    generated_answers (map string_bytes c.args.words.now) (g.F.Files.tree c.args.files.now) c.in-Ok-Generate.count c.generate.result _ _
    (rw c.in-Ok-Generate.field-0-is at c.in-Ok-Generate.ensures.command) c.generate.ensures.comes
