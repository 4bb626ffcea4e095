use Rattle.std.proofs.Common.{false, codes, sym}
use Rattle.std.proofs.lemmas.Str.Pattern.{ends_text}
use Rattle.command_line.proofs.packages.without_slash.Goals as goal

pub returns-in-None : goal.returns-in-None
returns-in-None c = rw (sym (ends_text false (codes "/") c.args.path.now c.in-None.ensures.cases))
