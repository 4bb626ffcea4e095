use Rattle.std.proofs.Common.{◌∙◌, ap, sym, map, subst, refl, inl}
use Rattle.std.proofs.lemmas.Result.{on_err_weaker, on_ok_weaker}
use Rattle.go_sources.specs.Sources.{files_of}
use Rattle.cg_listing.specs.Listing.{IsInOrder, line_by, lines_text, name_in, name_of}
use Rattle.cg_listing.specs.Rows.{line_of_row}
use Rattle.cg_listing.proofs.Flushing.{something_written}
use Rattle.cg_listing.proofs.Order.{lines_by-same}
use Rattle.cg_listing.proofs.listing.write_edges.Goals as goal

pub returns-clause-listing : goal.returns-clause-listing
returns-clause-listing g c =
    let files = files_of c.args.sources.now in
    let lines = map line_of_row c.as_slice-2.result.now in
    let order : IsInOrder (map (line_by (name_of c.args.program.now) files) c.args.edges.now) lines =
    subst (λ rows. IsInOrder (map (line_by (name_of c.args.program.now) files) c.args.edges.now) (map line_of_row rows)) (sym c.as_slice-2.ensures.value)
    (subst (λ these. IsInOrder these (map line_of_row c.in-Ok-rows_in_order.rows.items))
    (ap (λ edges. map (line_by (name_in c.in-Ok.names) files) edges) c.as_slice.ensures ∙ lines_by-same (name_in c.in-Ok.names) (name_of c.args.program.now) c.in-Ok.ensures files c.args.edges.now)
    c.in-Ok-rows_in_order.ensures) in
    on_ok_weaker c.write_rows.result (λ h. record { text = lines_text files lines; listing = record { lines = lines; order = order; whole = refl }; appends = h }) c.write_rows.ensures.written

pub returns-clause-front : goal.returns-clause-front
returns-clause-front g c =
    let files = files_of c.args.sources.now in
    let lines = map line_of_row c.as_slice-2.result.now in
    let order : IsInOrder (map (line_by (name_of c.args.program.now) files) c.args.edges.now) lines =
    subst (λ rows. IsInOrder (map (line_by (name_of c.args.program.now) files) c.args.edges.now) (map line_of_row rows)) (sym c.as_slice-2.ensures.value)
    (subst (λ these. IsInOrder these (map line_of_row c.in-Ok-rows_in_order.rows.items))
    (ap (λ edges. map (line_by (name_in c.in-Ok.names) files) edges) c.as_slice.ensures ∙ lines_by-same (name_in c.in-Ok.names) (name_of c.args.program.now) c.in-Ok.ensures files c.args.edges.now)
    c.in-Ok-rows_in_order.ensures) in
    on_err_weaker c.write_rows.result (λ h. inl record { text = lines_text files lines; listing = record { lines = lines; order = order; whole = refl }; appends = h }) c.write_rows.ensures.front

pub returns-clause-written : goal.returns-clause-written
returns-clause-written g c = something_written c.write_rows.result _ _ _ c.write_rows.ensures.written c.write_rows.ensures.front
