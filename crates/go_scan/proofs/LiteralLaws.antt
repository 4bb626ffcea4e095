-- A text that is one piece.
use Rattle.std.proofs.Common.{◌≡◌, ℕ, ◌≤◌, true, Option, Some, None, List, [], length, take, ap, sym, ◌∙◌, arith, append-nil, take_all, drop, length-take-le, ⊎_elim}
use Rattle.std.proofs.Math.Seq.{take-append_seam}
use Rattle.go_ast.specs.declared.token.Kind.{Kind}
use Rattle.go_ast.specs.Pieces.{is_piece, kind_of, fault_of, Fault, IsLiteral}
use Rattle.go_ast.specs.Lexical.{IsLongest, IsFaultOf}
use Rattle.go_scan.specs.declared.pieces.Piece.{Piece}
use Rattle.go_scan.specs.Scanning.{IsFound}

pub literal-found : (text : List ℕ) (piece : Piece) (kind : Kind) → IsFound text piece → piece.length ≡ length text → piece.kind ≡ Some kind → IsLiteral kind text
literal-found text piece kind found whole k =
    let all : take piece.length text ≡ text = take_all piece.length text (omega (arith, whole)) in
    record {
      piece = sym (ap is_piece all) ∙ found.longest.one;
      kind_is = sym (ap kind_of all) ∙ found.kind_is ∙ k;
      sound = sym (ap fault_of all) ∙ found.sound;
    }

-- the longest piece of a literal is the literal
longest_literal : (text piece : List ℕ) → IsLongest text piece → is_piece text ≡ true → length text ≤ length piece
longest_literal text piece longest one = longest.longest text [] one (sym (append-nil text))

pub found-literal : (text : List ℕ) (piece : Piece) (kind : Kind) → IsFound text piece → IsLiteral kind text → (piece.length ≡ length text) × (piece.kind ≡ Some kind)
found-literal text piece kind found literal =
    let long = longest_literal text (take piece.length text) found.longest literal.piece in
    let size = length-take-le piece.length text found.within in
    let whole : piece.length ≡ length text = omega (arith, long, size, found.within) in
    let all : take piece.length text ≡ text = take_all piece.length text (omega (arith, whole)) in
    (whole, sym found.kind_is ∙ ap kind_of all ∙ literal.kind_is)

none_some : {A : Type 0} (x : Option Fault) (fault : Fault) → x ≡ Some fault → x ≡ None → A
none_some x fault e f = absurd cc

pub literal-faultless : (text : List ℕ) (kind : Kind) (fault : Fault) → IsFaultOf text fault → IsLiteral kind text → ⊥
literal-faultless text kind fault breaks literal =
    ⊎_elim
    (λ broken.
    let piece = broken.0 in
    let long = longest_literal text piece broken.1 literal.piece in
    let same : text ≡ piece = sym (take_all (length piece) text long) ∙ ap (take (length piece)) broken.1.begins ∙ take-append_seam piece (drop (length piece) text) in
    none_some (fault_of text) fault (ap fault_of same ∙ broken.2) literal.sound)
    (λ none. none.0 text [] literal.piece (sym (append-nil text)))
    breaks
