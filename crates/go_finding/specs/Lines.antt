-- What a line of go.mod says, as it is read.
use Rattle.go_finding.specs.declared.go_mod.Line.{Line}
use Rattle.go_finding.specs.declared.go_mod.Line.TheVariants as lines
use Rattle.go_finding.specs.GoMod.{Form, Blank, Module, Go, Opening, Malformed}

abbrev pub view_line : Line → Form
view_line lines.Blank = Blank
view_line (lines.Module word) = Module word.now
view_line (lines.Go at minor) = Go at minor
view_line lines.Opening = Opening
view_line lines.Malformed = Malformed
