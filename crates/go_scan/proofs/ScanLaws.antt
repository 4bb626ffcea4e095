-- A scan of a file, piece by piece.
use Rattle.std.proofs.Common.{◌≡◌, ℕ, ◌+◌, ◌-◌, ◌≤◌, Option, Some, None, List, [], ◌∷◌, ◌++◌, length, take, drop, refl, ap, sym, ◌∙◌, subst, arith, append_assoc, append-nil, length-drop, drop-drop, length-take-le}
use Rattle.go_base.specs.declared.rule.Rule.{Rule}
use Rattle.go_ast.specs.declared.token.Kind.{Kind}
use Rattle.go_ast.specs.declared.token.Token.{Token}
use Rattle.go_ast.specs.Pieces.{fault_of, Fault}
use Rattle.go_ast.specs.Lexical.{Place, IsLongest, AreCut, IsFaultOf, IsFault, IsTokenList, mark_width, start_of, tokens_of, place_after, tokens_from, inserted}
use Rattle.go_scan.specs.declared.pieces.Piece.{Piece}
use Rattle.go_scan.specs.Scanning.{IsFound}
use Rattle.go_scan.proofs.RestLaws.{rest-is}
use Rattle.go_scan.proofs.Steps.{drop-end}

-- one more piece
cut-more : (bytes : List ℕ) (front : List (List ℕ)) (rest piece : List ℕ) → AreCut bytes front rest → IsLongest rest piece → fault_of piece ≡ None → AreCut bytes (front ++ piece ∷ []) (drop (length piece) rest)
cut-more bytes [] rest piece cut longest sound = (subst (λ b. IsLongest b piece) (sym cut) longest, sound, ap (drop (length piece)) cut)
cut-more bytes (first ∷ front) rest piece cut longest sound = (cut.0, cut.1, cut-more (drop (length first) bytes) front rest piece cut.2 longest sound)

-- the pieces up to a place, and the tokens up to there
pub record IsScanned (bytes : List ℕ) (place : Place) (tokens : List Token) : Type 0 where
  pub pieces : List (List ℕ)
  pub cut : AreCut (drop (mark_width bytes) bytes) pieces (drop place.at bytes)
  pub tokens_are : (after : List (List ℕ)) → tokens_from (start_of bytes) (pieces ++ after) ≡ tokens ++ tokens_from place after

pub scanned-start : (bytes : List ℕ) → IsScanned bytes (start_of bytes) []
scanned-start bytes = record { pieces = []; cut = refl; tokens_are = λ after. refl }

pub scanned-more : (bytes : List ℕ) (place next : Place) (old new : List Token) (piece : Piece) → IsScanned bytes place old → place.at ≤ length bytes
    → IsFound (take (length bytes - place.at) (drop place.at bytes)) piece
    → next ≡ place_after place (take piece.length (take (length bytes - place.at) (drop place.at bytes))) piece.kind
    → new ≡ old ++ tokens_of place (take piece.length (take (length bytes - place.at) (drop place.at bytes))) piece.kind
    → (next.at ≡ place.at + piece.length) × (next.at ≤ length bytes) × IsScanned bytes next new
scanned-more bytes place next old new piece scanned inside found next_is new_is =
    let rest = drop place.at bytes in
    let whole : take (length bytes - place.at) rest ≡ rest = rest-is bytes place.at in
    let found_here : IsFound rest piece = subst (λ r. IsFound r piece) whole found in
    let text = take piece.length rest in
    let size : length text ≡ piece.length = length-take-le piece.length rest found_here.within in
    let next_here : next ≡ place_after place text piece.kind = next_is ∙ ap (λ r. place_after place (take piece.length r) piece.kind) whole in
    let new_here : new ≡ old ++ tokens_of place text piece.kind = new_is ∙ ap (λ r. old ++ tokens_of place (take piece.length r) piece.kind) whole in
    let moved : next.at ≡ place.at + length text = ap (λ p. p.at) next_here ∙ after_at place text piece.kind in
    let gone : drop (length text) rest ≡ drop next.at bytes = drop-drop (length text) place.at bytes ∙ ap (λ n. drop n bytes) (sym moved) in (
      omega (arith, moved, size),
      omega (arith, moved, size, found_here.within, length-drop place.at bytes),
      record {
        pieces = scanned.pieces ++ text ∷ [];
        cut = subst (AreCut (drop (mark_width bytes) bytes) (scanned.pieces ++ text ∷ [])) gone
            (cut-more (drop (mark_width bytes) bytes) scanned.pieces rest text scanned.cut found_here.longest found_here.sound);
        tokens_are = λ after.
            ap (tokens_from (start_of bytes)) (append_assoc scanned.pieces (text ∷ []) after)
            ∙ scanned.tokens_are (text ∷ after)
            ∙ ap (λ k. old ++ (tokens_of place text k ++ tokens_from (place_after place text k) after)) found_here.kind_is
            ∙ sym (append_assoc old (tokens_of place text piece.kind) (tokens_from (place_after place text piece.kind) after))
            ∙ ap (λ ts. ts ++ tokens_from (place_after place text piece.kind) after) (sym new_here)
            ∙ ap (λ p. new ++ tokens_from p after) (sym next_here);
      },
    )
  where
    after_at : (place : Place) (text : List ℕ) (kind : Option Kind) → (place_after place text kind).at ≡ place.at + length text
    after_at place text None = refl
    after_at place text (Some kind) = refl

pub scanned-end : (bytes : List ℕ) (place : Place) (old new : List Token) → IsScanned bytes place old → length bytes ≤ place.at → new ≡ old ++ inserted place.wanted place.last → IsTokenList bytes new
scanned-end bytes place old new scanned over new_is = record {
  pieces = scanned.pieces;
  cut = subst (AreCut (drop (mark_width bytes) bytes) scanned.pieces) (drop-end bytes place.at over) scanned.cut;
  tokens_are = new_is ∙ sym (scanned.tokens_are []) ∙ ap (tokens_from (start_of bytes)) (append-nil scanned.pieces);
}

pub scanned-fault : (bytes : List ℕ) (place : Place) (old : List Token) (fault : Fault) (offset : ℕ) (rule : Rule) → IsScanned bytes place old → place.at ≤ length bytes
    → IsFaultOf (take (length bytes - place.at) (drop place.at bytes)) fault → offset ≡ place.at + fault.at → rule ≡ fault.rule → IsFault bytes offset rule
scanned-fault bytes place old fault offset rule scanned inside breaks offset_is rule_is = record {
  pieces = scanned.pieces;
  rest = drop place.at bytes;
  fault = fault;
  cut = scanned.cut;
  breaks = subst (λ r. IsFaultOf r fault) (rest-is bytes place.at) breaks;
  offset_is = omega (arith, offset_is, length-drop place.at bytes);
  rule_is = rule_is;
}
