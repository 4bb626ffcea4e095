use Rattle.std.proofs.Common.{◌<◌, ◌∙◌, length, sym, subst}
use Rattle.std.proofs.lemmas.Option.{MatchOption-at_none}
use Rattle.ssa_sane.specs.Checks.{IsCheck, AreRightBelow}
use Rattle.ssa_sane.specs.Sane.{IsFirstFault}
use Rattle.ssa_sane.proofs.Checked.{first_recover, sane_of}
use Rattle.ssa_sane.proofs.Judged.{counts_right, lists_right}
use Rattle.ssa_sane.proofs.checking.sanity.Goals as goal

pub returns-then-not-has_its_recover-clause-insane : goal.returns-then-not-has_its_recover-clause-insane
returns-then-not-has_its_recover-clause-insane c = first_recover c.args.function.now c.has_its_recover.result c.has_its_recover.ensures c.if-not-has_its_recover.true

pub first_insane-requires : goal.first_insane-requires
first_insane-requires c = record {
  recovers = c.has_its_recover.ensures.0 c.if-not-has_its_recover.false;
  rows = c.in_ok-preds.ensures;
  totals = c.in_ok-places.counts;
  are = c.in_ok-places.ensures;
}

pub new-requires-clause-counts : goal.new-requires-clause-counts
new-requires-clause-counts c = λ b l.
    let f = c.args.function.now in
    let check : IsCheck f c.in_ok-preds.preds c.in_ok-places.places = record {
      recovers = c.has_its_recover.ensures.0 c.if-not-has_its_recover.false;
      rows = c.in_ok-preds.ensures;
      totals = c.in_ok-places.counts;
      are = c.in_ok-places.ensures;
    } in
    let right : AreRightBelow f (length f.blocks) = MatchOption-at_none (AreRightBelow f (length f.blocks)) (λ place. IsFirstFault f place.block place.instr) c.in-None.is c.in_ok-place.ensures in
    counts_right f c.in_ok-preds.preds c.in_ok-places.places check right b (subst (λ n. b < n) c.len.ensures l)

pub returns-clause-sane : goal.returns-clause-sane
returns-clause-sane c =
    let f = c.args.function.now in
    sane_of f (c.has_its_recover.ensures.0 c.if-not-has_its_recover.false)
    (MatchOption-at_none (AreRightBelow f (length f.blocks)) (λ place. IsFirstFault f place.block place.instr) c.in-None.is c.in_ok-place.ensures)

pub returns-clause-lists : goal.returns-clause-lists
returns-clause-lists c =
    let f = c.args.function.now in
    let check : IsCheck f c.in_ok-preds.preds c.in_ok-places.places = record {
      recovers = c.has_its_recover.ensures.0 c.if-not-has_its_recover.false;
      rows = c.in_ok-preds.ensures;
      totals = c.in_ok-places.counts;
      are = c.in_ok-places.ensures;
    } in
    let right : AreRightBelow f (length f.blocks) = MatchOption-at_none (AreRightBelow f (length f.blocks)) (λ place. IsFirstFault f place.block place.instr) c.in-None.is c.in_ok-place.ensures in
    lists_right f c.in_ok-preds.preds c.in_ok-places.places check right c.in_ok-available-in-None.available (c.in_ok-available-in-None.ensures.size ∙ c.len.ensures)
    (λ b l. c.in_ok-available-in-None.ensures.lists b (subst (λ n. b < n) (sym c.len.ensures) l))
