use Rattle.std.proofs.Common.{eq-eqb, length}
use Rattle.go_scan.specs.Reading.{view_fault}
use Rattle.go_scan.proofs.LiteralLaws.{literal-found, found-literal, literal-faultless}
use Rattle.go_scan.proofs.pieces.is_literal.Goals as goal

pub returns-then-piece-text-clause-sound : goal.returns-then-piece-text-clause-sound
returns-then-piece-text-clause-sound c = λ yes'. literal-found c.args.text.now c.in-Ok.piece c.args.kind c.in-Ok.ensures.found c.if-piece-text.true (c.is_kind.ensures.same yes')

pub returns-then-piece-text-clause-complete : goal.returns-then-piece-text-clause-complete
returns-then-piece-text-clause-complete c = λ literal. c.is_kind.ensures.other (found-literal c.args.text.now c.in-Ok.piece c.args.kind c.in-Ok.ensures.found literal).1

pub returns-else-piece-text-clause-complete : goal.returns-else-piece-text-clause-complete
returns-else-piece-text-clause-complete c = λ literal. eq-eqb c.in-Ok.piece.length (length c.args.text.now) (found-literal c.args.text.now c.in-Ok.piece c.args.kind c.in-Ok.ensures.found literal).0

pub returns-in-Err-clause-complete : goal.returns-in-Err-clause-complete
returns-in-Err-clause-complete c = λ literal. absurd (literal-faultless c.args.text.now c.args.kind (view_fault c.in-Err.field-0) c.in-Err.ensures.fault literal)
