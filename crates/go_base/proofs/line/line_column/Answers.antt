use Rattle.std.proofs.Common.{ℕ, arith, take, not, length-take}
use Rattle.std.proofs.lemmas.List.Sums.{suffix_len-le-length}
use Rattle.go_base.specs.Lines.{is_newline}
use Rattle.go_base.proofs.line.line_column.Goals as goal

pub overflow_add-column : goal.overflow_add-column
overflow_add-column c =
    omega (arith, suffix_len-le-length (λ byte. not (is_newline byte)) (take c.loop-byte.byte-index c.args.bytes.now), length-take {A = ℕ})
