use Rattle.std.proofs.Common.{◌≤◌, ◌∙◌, ◌++◌, ◌+◌, [], sym, ap, subst, length, take, drop, map, arith}
use Rattle.std.proofs.lemmas.List.{append-nil}
use Rattle.std.proofs.lemmas.Result.{on_err_weaker}
use Rattle.go_sources.specs.Sources.{files_of}
use Rattle.cg_listing.specs.Listing.{lines_text}
use Rattle.cg_listing.specs.Rows.{line_of_row, Flushes}
use Rattle.cg_listing.proofs.Flushing.{flushes_more, front_before, front_after, line_split, line_more, all_taken, on_any_err}
use Rattle.cg_listing.proofs.listing.write_rows.Goals as goal

pub loop-row-preserved : goal.loop-row-preserved
loop-row-preserved g c =
    let files = files_of c.args.sources.now in
    record {
      written = subst (λ waited. Flushes (g.O.Sink.written c.args.out.now) (g.O.Sink.written c.write_if_long.new.out) waited c.write_if_long.new.text.items)
          (sym (line_more files line_of_row c.args.rows.now c.loop-row.row-index _ (omega arith)))
          (flushes_more _ _ _ _ _ _ _ _ c.loop-row.invariant.written c.in-Ok.ensures.text c.in_ok-write_if_long.ensures.written);
      named = c.in-Ok.ensures.named;
      later = omega (arith, c.loop-row.invariant.later, c.write_if_long.ensures.later);
    }

pub returns-in_default-clause-front : goal.returns-in_default-clause-front
returns-in_default-clause-front g c =
    front_before _ _ _ _ _ _ c.loop-row.invariant.written (line_split (files_of c.args.sources.now) line_of_row c.args.rows.now c.loop-row.row-index)

pub returns-in_err-write_if_long-clause-front : goal.returns-in_err-write_if_long-clause-front
returns-in_err-write_if_long-clause-front g c =
    let files = files_of c.args.sources.now in
    let i = c.loop-row.row-index in
    on_any_err c.from_residual.result
    (front_after _ _ _ _ _ _ _ _ _ c.loop-row.invariant.written c.in-Ok.ensures.text c.in_err-write_if_long.ensures.front
    (line_split files line_of_row c.args.rows.now (i + 1) ∙ ap (λ l. l ++ lines_text files (map line_of_row (drop (i + 1) c.args.rows.now))) (line_more files line_of_row c.args.rows.now i _ (omega arith))))

pub returns-clause-front : goal.returns-clause-front
returns-clause-front g c =
    let files = files_of c.args.sources.now in
    let i = c.loop-row.row-index in
    let all : length c.args.rows.now ≤ i = omega arith in
    let waited = lines_text files (map line_of_row (take i c.args.rows.now)) in
    on_err_weaker c.write_all.result
    (λ h. front_after _ _ _ _ _ [] _ [] _ c.loop-row.invariant.written (sym (append-nil c.loop-row.text.items)) h (sym (append-nil (waited ++ []) ∙ (append-nil waited ∙ all_taken files line_of_row c.args.rows.now i all))))
    c.write_all.ensures.front
