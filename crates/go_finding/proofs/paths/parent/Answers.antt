use Rattle.std.proofs.Common.{◌≡◌, Some, None, false, bytes_eq, codes, take, arith, rules}
use Rattle.std.proofs.lemmas.Str.Pattern.{rfind_char}
use Rattle.go_finding.proofs.Governing.{lies_below, lies_there}
use Rattle.go_finding.proofs.paths.parent.Goals as goal

pub returns-in-Some-clause-above : goal.returns-in-Some-clause-above
returns-in-Some-clause-above c =
    let other : bytes_eq c.args.path.now (codes ".") ≡ false = search rules in
    let cut : c.split_at.result.0.now ≡ take c.in-Some.at c.args.path.now = search rules in
    lies_below c.args.path.now c.split_at.result.0.now c.in-Some.at other (rfind_char 47 c.args.path.now (Some c.in-Some.at) c.in-Some.ensures.cases (omega arith)) cut

pub returns-in-None-clause-above : goal.returns-in-None-clause-above
returns-in-None-clause-above c =
    let other : bytes_eq c.args.path.now (codes ".") ≡ false = search rules in
    lies_there c.args.path.now other (rfind_char 47 c.args.path.now None c.in-None.ensures.cases (omega arith))
