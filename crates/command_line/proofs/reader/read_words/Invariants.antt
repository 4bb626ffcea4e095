use Rattle.std.proofs.Common.{◌≡◌, map, string_bytes, length}
use Rattle.command_line.specs.CommandLine.{items_of, command_of}
use Rattle.command_line.specs.Reading.{continued}
use Rattle.command_line.proofs.reader.read_words.Given as goal

abbrev pub invariant-loop-settings : goal.invariant-loop-settings
invariant-loop-settings l = continued l.settings (items_of (map string_bytes l.rest)) ≡ command_of (map string_bytes l.words)

abbrev pub decreases-loop-settings : goal.decreases-loop-settings
decreases-loop-settings l = length l.rest
