use Rattle.std.proofs.Common.{◌≡◌, ◌++◌, option_map, length, drop}
use Rattle.std.specs.List.{slice_split}
use Rattle.command_line.specs.Values.{is_comma, choices_in}
use Rattle.command_line.proofs.values.choices_of.Given as goal

abbrev pub invariant-loop-part : goal.invariant-loop-part
invariant-loop-part l =
    let parts = slice_split is_comma l.text in
    (goal.iterator-loop-part).can_next l.part-iterator
    × (goal.iterator-loop-part).is_finite l.part-iterator
    × (choices_in parts ≡ option_map (λ more. l.numbers.items ++ more) (choices_in (drop (length l.yielded) parts)))
