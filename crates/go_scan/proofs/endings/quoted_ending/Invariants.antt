use Rattle.std.proofs.Common.{◌≡◌, ◌+◌, drop, false}
use Rattle.go_scan.specs.Reach.{quoted_ending, ending}
use Rattle.go_scan.proofs.endings.quoted_ending.Given as goal

abbrev pub invariant-loop-index : goal.invariant-loop-index
invariant-loop-index l =
    let rest = quoted_ending l.quote l.escaped (drop l.index l.text) in
    quoted_ending l.quote false l.text ≡ ending (l.index + rest.length) rest.closed
