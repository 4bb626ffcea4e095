use Rattle.std.proofs.Common.{◌≡◌, ◌+◌, drop}
use Rattle.go_scan.specs.Reach.{raw_ending, ending}
use Rattle.go_scan.proofs.endings.raw_ending.Given as goal

abbrev pub invariant-loop-index : goal.invariant-loop-index
invariant-loop-index l =
    let rest = raw_ending (drop l.index l.text) in
    raw_ending l.text ≡ ending (l.index + rest.length) rest.closed
