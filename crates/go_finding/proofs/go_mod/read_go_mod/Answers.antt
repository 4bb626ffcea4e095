use Rattle.std.proofs.Common.{◌≡◌, ◌<◌, ◌∙◌, arith, length}
use Rattle.std.specs.List.{slice_split}
use Rattle.go_finding.specs.Words.{is_newline}
use Rattle.go_finding.specs.GoMod.{take_lines, nothing_said}
use Rattle.go_finding.proofs.ReadLines.{last_cut, next_cut}
use Rattle.go_finding.proofs.go_mod.read_go_mod.Goals as goal

pub returns-then-line-rest-clause-says : goal.returns-then-line-rest-clause-says
returns-then-line-rest-clause-says c =
    let all : take_lines 0 (slice_split is_newline c.args.text.now) nothing_said ≡ c.take.new.self =
    c.lines.invariant.said ∙ last_cut c.args.text.now c.split_at.result.1.now c.split_at-in-lines.result.0.now c.line_length.result c.lines.at c.lines.reader c.take.new.self c.split_at.ensures.back c.line_length.ensures.length c.split_at-in-lines.ensures.front c.split_at-in-lines.ensures.front_len c.if-line-rest.true c.take.ensures in
    rw all c.finish.ensures.says

pub returns-then-line-rest-clause-fault : goal.returns-then-line-rest-clause-fault
returns-then-line-rest-clause-fault c =
    let all : take_lines 0 (slice_split is_newline c.args.text.now) nothing_said ≡ c.take.new.self =
    c.lines.invariant.said ∙ last_cut c.args.text.now c.split_at.result.1.now c.split_at-in-lines.result.0.now c.line_length.result c.lines.at c.lines.reader c.take.new.self c.split_at.ensures.back c.line_length.ensures.length c.split_at-in-lines.ensures.front c.split_at-in-lines.ensures.front_len c.if-line-rest.true c.take.ensures in
    rw all c.finish.ensures.fault

pub lines-preserved : goal.lines-preserved
lines-preserved c =
    let below : length c.split_at-in-lines.result.0.now < length c.split_at.result.1.now = omega (arith, c.line_length.ensures.within, c.split_at-in-lines.ensures.front_len) in
    record {
      within = omega (arith, below, c.split_at.ensures.back_len);
      said = c.lines.invariant.said ∙ next_cut c.args.text.now c.split_at.result.1.now c.split_at-in-lines.result.0.now c.line_length.result c.lines.at c.lines.reader c.take.new.self c.split_at.ensures.back c.line_length.ensures.length c.split_at-in-lines.ensures.front c.split_at-in-lines.ensures.front_len below c.take.ensures;
    }
