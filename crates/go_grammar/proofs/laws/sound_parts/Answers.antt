use Rattle.go_grammar.proofs.PartLaws.{parts_sound}
use Rattle.go_grammar.proofs.laws.sound_parts.Goals as goal

pub returns : goal.returns
returns c = parts_sound
