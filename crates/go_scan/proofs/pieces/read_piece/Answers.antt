use Rattle.std.proofs.Common.{ap, sym, ◌∙◌, arith, take, length-take-le, inl, option_map}
use Rattle.go_scan.specs.Reading.{view_class, view_fault}
use Rattle.go_scan.proofs.FoundLaws.{IsSpelled, spelled-of, stray-of, fault-within}
use Rattle.go_scan.proofs.pieces.read_piece.Goals as goal

-- the piece that was found, behind the test that there is one
spelled : (c : goal.Else-ending-eq0) → IsSpelled c.args.text.now (view_class c.class_of-class.result) c.ending_of-ending.result.length c.ending_of-ending.result.closed
spelled c = spelled-of c.args.text.now (view_class c.class_of-class.result) c.ending_of-ending.result c.class_of-class.ensures c.ending_of-ending.ensures c.requires (omega (arith, c.if-ending-eq0.false))

pub slice_bounds-spelled-end : goal.slice_bounds-spelled-end
slice_bounds-spelled-end c = sym (length-take-le c.ending_of-ending.result.length c.args.text.now (spelled c).within)

pub returns-then-ending-eq0-clause-fault : goal.returns-then-ending-eq0-clause-fault
returns-then-ending-eq0-clause-fault c =
    stray-of c.args.text.now (view_class c.class_of-class.result) c.ending_of-ending.result (view_fault (record { at = 0; rule = c.stray_rule.result }))
    c.class_of-class.ensures c.ending_of-ending.ensures c.requires c.if-ending-eq0.true (ap (λ rule. record { at = 0; rule = rule }) c.stray_rule.ensures)

pub returns-in-Some-clause-fault : goal.returns-in-Some-clause-fault
returns-in-Some-clause-fault c =
    let n = c.ending_of-ending.result.length in
    let class = view_class c.class_of-class.result in
    let found : IsSpelled c.args.text.now class n c.ending_of-ending.result.closed =
    spelled-of c.args.text.now class c.ending_of-ending.result c.class_of-class.ensures c.ending_of-ending.ensures c.requires (omega (arith, c.if-ending-eq0.false)) in
    inl (take n c.args.text.now, found.longest, found.fault_is ∙ sym c.fault_of.ensures ∙ ap (option_map view_fault) c.in-Some.is)

pub returns-in-Some-clause-place : goal.returns-in-Some-clause-place
returns-in-Some-clause-place c =
    let n = c.ending_of-ending.result.length in
    let class = view_class c.class_of-class.result in
    let found : IsSpelled c.args.text.now class n c.ending_of-ending.result.closed =
    spelled-of c.args.text.now class c.ending_of-ending.result c.class_of-class.ensures c.ending_of-ending.ensures c.requires (omega (arith, c.if-ending-eq0.false)) in
    let bound = fault-within class c.ending_of-ending.result.closed (take n c.args.text.now) (view_fault c.in-Some.fault) (sym c.fault_of.ensures ∙ ap (option_map view_fault) c.in-Some.is) in
    omega (arith, bound, found.within, length-take-le n c.args.text.now found.within)

pub returns-in-None-clause-found : goal.returns-in-None-clause-found
returns-in-None-clause-found c =
    let n = c.ending_of-ending.result.length in
    let class = view_class c.class_of-class.result in
    let found : IsSpelled c.args.text.now class n c.ending_of-ending.result.closed =
    spelled-of c.args.text.now class c.ending_of-ending.result c.class_of-class.ensures c.ending_of-ending.ensures c.requires (omega (arith, c.if-ending-eq0.false)) in
    record {
      least = omega (arith, c.if-ending-eq0.false);
      within = found.within;
      longest = found.longest;
      kind_is = found.kind_is ∙ sym c.kind_of.ensures;
      sound = found.fault_is ∙ sym c.fault_of.ensures ∙ ap (option_map view_fault) c.in-None.is;
    }
