use Rattle.go_grammar.proofs.SoundReading.{file_sound}
use Rattle.go_grammar.proofs.laws.sound_reading.Goals as goal

pub returns : goal.returns
returns c = file_sound
