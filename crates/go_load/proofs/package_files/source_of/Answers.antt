use Rattle.std.proofs.Common.{rules}
use Rattle.std.proofs.lemmas.Result.{err_from_is_err_and}
use Rattle.go_load.proofs.FileLaws.{too_much, bad_text, good_text}
use Rattle.go_load.proofs.package_files.source_of.Goals as goal

pub returns-then-len-room-clause-answer : goal.returns-then-len-room-clause-answer
returns-then-len-room-clause-answer c =
    too_much c.args.path.now c.args.bytes.items c.args.room c.refuse_first.result c.requires (search rules) c.refuse_first.ensures

pub returns-in_err-tree-clause-why : goal.returns-in_err-tree-clause-why
returns-in_err-tree-clause-why c =
    let p = err_from_is_err_and c.from_residual-in_err-tree.result c.from_residual-in_err-tree.ensures.1 in
    rw (p.1, p.2) (λ files text. c.in_err-tree.ensures.why files (rw c.as_slice.ensures.value text))

pub returns-in_err-tree-clause-answer : goal.returns-in_err-tree-clause-answer
returns-in_err-tree-clause-answer c =
    let p = err_from_is_err_and c.from_residual-in_err-tree.result c.from_residual-in_err-tree.ensures.1 in
    rw (p.1, p.2) (bad_text c.args.path.now c.args.bytes.items c.as_slice.result.now c.args.room c.in_err-tree.field-0.0 c.requires (search rules) c.as_slice.ensures.value c.in_err-tree.ensures.answer)

pub returns-clause-answer : goal.returns-clause-answer
returns-clause-answer c =
    good_text c.args.path.now c.args.bytes.items c.in_ok-new.field-0 c.without_room.result c.args.room c.in_ok-tree.tree c.requires (search rules) (rw c.as_slice.ensures.value at c.in_ok-tree.ensures.answer) (search rules) (search rules)
