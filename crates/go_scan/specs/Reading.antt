-- What the types of the scanner stand for.
use Rattle.std.specs.Prelude.{ℕ, ◌+◌, List, true, false, Option, is_some, drop, if◌then◌else◌}
use Rattle.go_ast.specs.Characters.{is_letter, is_name_character, is_numeral_character, passing}
use Rattle.go_ast.specs.Literals as literals
use Rattle.go_ast.specs.Literals.{character, item}
use Rattle.go_ast.specs.Pieces as pieces
use Rattle.go_scan.specs.Reach.{run_length, line_length, comment_ending, quoted_ending, raw_ending, mark_length, ending}
use Rattle.go_scan.specs.declared.endings.Ending.{Ending}
use Rattle.go_scan.specs.declared.faults.Fault.{Fault}
use Rattle.go_scan.specs.declared.items.Item.{Item}
use Rattle.go_scan.specs.declared.items.Reading.{Reading}
use Rattle.go_scan.specs.declared.items.Reading.TheVariants.{Plain, Quoted}
use Rattle.go_scan.specs.declared.pieces.Class.{Class}
use Rattle.go_scan.specs.declared.pieces.Class.TheVariants as classes

abbrev pub view_item : Item → literals.Item
view_item it = record { width = it.width; value = it.value; is_byte = it.is_byte }

abbrev pub reading : Reading → List ℕ → Option literals.Item
reading Plain = character
reading (Quoted quote) = item quote

abbrev pub view_fault : Fault → pieces.Fault
view_fault fault = record { at = fault.at; rule = fault.rule }

abbrev pub view_class : Class → pieces.Class
view_class classes.Space = pieces.Space
view_class classes.LineComment = pieces.LineComment
view_class classes.GeneralComment = pieces.GeneralComment
view_class classes.Mark = pieces.Mark
view_class classes.Word = pieces.Word
view_class classes.Numeral = pieces.Numeral
view_class classes.RuneLiteral = pieces.RuneLiteral
view_class classes.StringLiteral = pieces.StringLiteral
view_class classes.RawLiteral = pieces.RawLiteral

-- an ending behind the bytes that open a piece
abbrev pub behind : ℕ → Ending → Ending
behind opening found = record { length = opening + found.length; closed = found.closed }

-- how far the longest piece of a class reaches at the head of a text that begins with it
abbrev pub ending_of : pieces.Class → List ℕ → Ending
ending_of pieces.Space text = ending 1 true
ending_of pieces.LineComment text = ending (line_length text) true
ending_of pieces.GeneralComment text = behind 2 (comment_ending false (drop 2 text))
ending_of pieces.Mark text = ending (mark_length text) true
ending_of pieces.Word text =
    ending (if is_some (passing is_letter text) then run_length (passing is_name_character) 0 text else 0) true
ending_of pieces.Numeral text = ending (run_length (passing is_numeral_character) 0 text) true
ending_of pieces.RuneLiteral text = behind 1 (quoted_ending 39 false (drop 1 text))
ending_of pieces.StringLiteral text = behind 1 (quoted_ending 34 false (drop 1 text))
ending_of pieces.RawLiteral text = behind 1 (raw_ending (drop 1 text))
