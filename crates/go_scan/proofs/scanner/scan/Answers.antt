use Rattle.std.proofs.Common.{◌+◌, sym, subst, refl}
use Rattle.go_scan.specs.Scanning.{view_place, IsRefusal}
use Rattle.go_scan.specs.Reading.{view_fault}
use Rattle.go_scan.proofs.ScanLaws.{scanned-more, scanned-end, scanned-fault}
use Rattle.go_scan.proofs.scanner.scan.Goals as goal

pub returns-in-Err-clause-refused : goal.returns-in-Err-clause-refused
returns-in-Err-clause-refused c =
    let fault = c.in-Err.fault in
    subst (IsRefusal c.args.bytes.now) (sym c.refused.ensures)
    (scanned-fault c.args.bytes.now (view_place c.loop-place.place) c.loop-place.tokens (view_fault fault) (c.loop-place.place.at + fault.at) fault.rule
    c.loop-place.invariant.scanned c.loop-place.invariant.within c.in-Err.ensures.fault refl refl)

pub loop-place-preserved : goal.loop-place-preserved
loop-place-preserved c =
    let more = scanned-more c.args.bytes.now (view_place c.loop-place.place) (view_place c.in_ok-place-in-Ok.place) c.loop-place.tokens c.add_piece.new.tokens c.in-Ok.piece
    c.loop-place.invariant.scanned c.loop-place.invariant.within c.in-Ok.ensures.found c.in_ok-place-in-Ok.ensures.place c.in_ok-place-in-Ok.ensures.tokens in
    record { within = more.1; scanned = more.2 }

pub returns-clause-tokens : goal.returns-clause-tokens
returns-clause-tokens c = scanned-end c.args.bytes.now (view_place c.loop-place.place) c.loop-place.tokens c.end_line.new.tokens c.loop-place.invariant.scanned c.loop-place-test.false c.in_ok-end_line.ensures
