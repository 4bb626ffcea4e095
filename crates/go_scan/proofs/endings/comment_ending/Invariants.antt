use Rattle.std.proofs.Common.{◌≡◌, ◌+◌, drop, false}
use Rattle.go_scan.specs.Reach.{comment_ending, ending}
use Rattle.go_scan.proofs.endings.comment_ending.Given as goal

abbrev pub invariant-loop-index : goal.invariant-loop-index
invariant-loop-index l =
    let rest = comment_ending l.star (drop l.index l.text) in
    comment_ending false l.text ≡ ending (l.index + rest.length) rest.closed
