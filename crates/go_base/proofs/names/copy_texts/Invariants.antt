use Rattle.std.proofs.Common.{◌≡◌, take, map, string_bytes}
use Rattle.go_base.specs.NameTable.{AreDistinct}
use Rattle.go_base.proofs.names.copy_texts.Given as goal

abbrev pub invariant-loop-text : goal.invariant-loop-text
invariant-loop-text l = record { copied : map string_bytes l.copy.keys ≡ take l.text-index (map string_bytes l.texts); distinct : AreDistinct (map string_bytes l.texts) }
