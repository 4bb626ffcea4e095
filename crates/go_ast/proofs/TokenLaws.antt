-- The tokens of a file lie in its bytes, and each is spelled where it lies.
use Rattle.std.proofs.Common.{◌≡◌, ℕ, ◌+◌, ◌-◌, ◌≤◌, Bool, true, false, Option, Some, None, List, [], ◌∷◌, ◌++◌, length, take, drop, refl, ap, sym, ◌∙◌, subst, arith, drop-drop, length-drop, length-append, ◌==◌, ◌&&◌, if◌then◌else◌}
use Rattle.std.proofs.Math.Seq.{take-append_seam}
use Rattle.std.proofs.lemmas.List.Elements.{All-append, All-cons, All-nil}
use Rattle.std.specs.List.{All}
use Rattle.go_ast.specs.declared.token.Kind.{Kind}
use Rattle.go_ast.specs.declared.token.Kind.TheVariants as kinds
use Rattle.go_ast.specs.declared.token.Token.{Token}
use Rattle.go_ast.specs.Pieces.{kind_of, IsLiteral}
use Rattle.go_ast.specs.Lexical.{Place, AreCut, IsTokenList, IsTokenIn, mark_width, start_of, tokens_of, place_after, tokens_from, inserted, breaks_line}
use Rattle.std.specs.Prelude.{nat_eq}
use Rattle.std.specs.List.{starts_with}

all_none : (bytes : List ℕ) → All (IsTokenIn bytes) []
all_none bytes = All-nil (IsTokenIn bytes)

all_one : (bytes : List ℕ) (token : Token) → IsTokenIn bytes token → All (IsTokenIn bytes) (token ∷ [])
all_one bytes token is = All-cons (IsTokenIn bytes) token [] is (All-nil (IsTokenIn bytes))

inserted_in : (bytes : List ℕ) (wanted : Bool) (last : ℕ) → last ≤ length bytes → All (IsTokenIn bytes) (inserted wanted last)
inserted_in bytes false last h = all_none bytes
inserted_in bytes true last h = all_one bytes (record { kind = kinds.Inserted; start = last; end = last }) (record { ordered = omega arith; within = h; spelled = λ other. absurd (other refl) })

-- how far tokens have come in bytes
pub record IsAt (bytes : List ℕ) (place : Place) : Type 0 where
  pub within : place.at ≤ length bytes
  pub behind : place.last ≤ place.at

pub tokens-in : (bytes : List ℕ) (place : Place) (pieces : List (List ℕ)) → IsAt bytes place → AreCut (drop place.at bytes) pieces [] → All (IsTokenIn bytes) (tokens_from place pieces)
tokens-in bytes place [] at cut = inserted_in bytes place.wanted place.last (omega (arith, at.within, at.behind))
tokens-in bytes place (piece ∷ pieces) at cut = go (kind_of piece) refl (λ next is more. tokens-in bytes next pieces is more)
  where
    room : place.at + length piece ≤ length bytes
    room = omega (arith, ap length cut.0.begins, length-append piece (drop (length piece) (drop place.at bytes)), length-drop place.at bytes, at.within)

    rest : AreCut (drop (place.at + length piece) bytes) pieces []
    rest = subst (λ r. AreCut r pieces []) (drop-drop (length piece) place.at bytes) cut.2

    token_in : (kind : Kind) → kind_of piece ≡ Some kind → IsTokenIn bytes (record { kind = kind; start = place.at; end = place.at + length piece })
    token_in kind e =
        let size : place.at + length piece - place.at ≡ length piece = omega arith in
        let text : take (place.at + length piece - place.at) (drop place.at bytes) ≡ piece =
        ap (λ n. take n (drop place.at bytes)) size ∙ ap (take (length piece)) cut.0.begins ∙ take-append_seam piece (drop (length piece) (drop place.at bytes)) in
        record {
          ordered = omega arith;
          within = room;
          spelled = λ other. subst (IsLiteral kind) (sym text) (record { piece = cut.0.one; kind_is = e; sound = cut.1 });
        }

    broken : (v : Bool) → All (IsTokenIn bytes) (if v then inserted place.wanted place.last else [])
    broken true = inserted_in bytes place.wanted place.last (omega (arith, at.within, at.behind))
    broken false = all_none bytes

    go : (k : Option Kind) → kind_of piece ≡ k → ((next : Place) → IsAt bytes next → AreCut (drop next.at bytes) pieces [] → All (IsTokenIn bytes) (tokens_from next pieces))
        → All (IsTokenIn bytes) (tokens_of place piece k ++ tokens_from (place_after place piece k) pieces)
    go (Some kind) e more =
        All-append (IsTokenIn bytes) (tokens_of place piece (Some kind)) (tokens_from (place_after place piece (Some kind)) pieces)
        (all_one bytes (record { kind = kind; start = place.at; end = place.at + length piece }) (token_in kind e))
        (more (place_after place piece (Some kind)) (record { within = room; behind = omega arith }) rest)
    go None e more =
        All-append (IsTokenIn bytes) (tokens_of place piece None) (tokens_from (place_after place piece None) pieces)
        (broken (breaks_line piece))
        (more (place_after place piece None) (record { within = room; behind = omega (arith, at.behind) }) rest)

-- a byte order mark is in the bytes that begin with it
mark-within : (bytes : List ℕ) → mark_width bytes ≤ length bytes
mark-within [] = omega arith
mark-within (a ∷ []) = go (239 == a)
  where
    go : (v : Bool) → (if v && false then 3 else 0) ≤ 1
    go true = omega arith
    go false = omega arith
mark-within (a ∷ b ∷ []) = go (239 == a) (187 == b)
  where
    go : (v w : Bool) → (if v && (w && false) then 3 else 0) ≤ 2
    go true true = omega arith
    go true false = omega arith
    go false w = omega arith
mark-within (a ∷ b ∷ c ∷ bytes) = go (starts_with nat_eq (a ∷ b ∷ c ∷ bytes) (239 ∷ 187 ∷ 191 ∷ []))
  where
    go : (v : Bool) → (if v then 3 else 0) ≤ length (a ∷ b ∷ c ∷ bytes)
    go true = omega arith
    go false = omega arith

pub token-in : (bytes : List ℕ) (tokens : List Token) → IsTokenList bytes tokens → All (IsTokenIn bytes) tokens
token-in bytes tokens list =
    subst (All (IsTokenIn bytes)) (sym list.tokens_are)
    (tokens-in bytes (start_of bytes) list.pieces (record { within = mark-within bytes; behind = omega arith }) list.cut)
