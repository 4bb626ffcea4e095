use Rattle.std.proofs.Common.{◌≡◌, false, codes, sym, ap, ◌∙◌, nat_eq}
use Rattle.std.specs.List.{ends_with}
use Rattle.std.proofs.lemmas.Str.Pattern.{ends_text}
use Rattle.go_base.specs.declared.target.Target.TheVariants.{Dir}
use Rattle.command_line.proofs.packages.target_of.Goals as goal

pub returns-else-ends_with : goal.returns-else-ends_with
returns-else-ends_with c =
    let no_file : ends_with nat_eq c.args.word.now (codes ".go") ≡ false =
    sym (ends_text c.ends_with.result (codes ".go") c.args.word.now c.ends_with.ensures.cases) ∙ c.if-ends_with.false in
    rw no_file (ap Dir (c.in_ok-path.ensures ∙ c.path_of.ensures))
