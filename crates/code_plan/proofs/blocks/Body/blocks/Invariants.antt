use Rattle.std.proofs.Common.{[], take}
use Rattle.std.specs.List.{AllZip}
use Rattle.code_plan.specs.Plans.{IsBlock}
use Rattle.code_plan.specs.Sites.{site_with}
use Rattle.code_plan.proofs.blocks.Body.blocks.Given as goal

abbrev pub invariant-loop-block : goal.invariant-loop-block
invariant-loop-block l =
    let s = site_with l.self [] in
    AllZip (IsBlock s.code s.function s.marks) (take l.block-index l.block-items) l.all.items
