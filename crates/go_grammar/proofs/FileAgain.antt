-- Functions, receivers and files are read again.
use Rattle.std.proofs.Common.{◌≡◌, ℕ, ◌+◌, ◌≤◌, Bool, true, false, List, [], ◌∷◌, ◌++◌, length, Some, refl, sym, ap, ◌∙◌, arith}
use Rattle.std.proofs.lemmas.List.{append-nil, length-append}
use Rattle.std.specs.Prelude.{◌&&◌, ◌||◌, not}
use Rattle.go_ast.specs.declared.token.Kind.{Kind}
use Rattle.go_ast.specs.declared.token.Kind.TheVariants as kinds
use Rattle.go_ast.specs.declared.token.Token.{Token}
use Rattle.go_grammar.specs.Forests.{Forest, empty, leaf, append, yield}
use Rattle.go_grammar.specs.Shapes as shapes
use Rattle.go_grammar.specs.Shapes.{Shape, Fits, is, ◌⨟◌, ◌∣◌}
use Rattle.go_grammar.specs.Grammar as sorts
use Rattle.go_grammar.specs.Grammar.{Sort, Context, grammar, is_semicolon, begins_type}
use Rattle.go_grammar.specs.Reading.{Plan, run, shape_of, Part, Then}
use Rattle.go_grammar.specs.Tests as plans
use Rattle.go_grammar.specs.Tests.{begins, begins_semicolon, begins_type_at, maybe_word, word}
use Rattle.go_grammar.specs.TypeReading.{Parsers, begins_named_param}
use Rattle.go_grammar.specs.StmtReading.{at_part, receiver_plan, at_package, package_plan, at_file, is_more, file_plan, file_in}
use Rattle.go_grammar.specs.Files.{IsTreeOf}
use Rattle.go_grammar.proofs.Forests.{yield-append}
use Rattle.go_grammar.proofs.Again.{IsChosen, AreChosen, run_again, regroup}
use Rattle.go_grammar.proofs.Fronts.{IsFirst}
use Rattle.go_grammar.proofs.Choices.{behind, IsRoomy, Sure, chosen, first_behind, next_is, next_is_not, at_least}
use Rattle.go_grammar.proofs.Plans.{IsPair, unpart, plan_again, is_open, is_closed, flip}
use Rattle.go_grammar.proofs.Cuts.{implies, implied}
use Rattle.go_grammar.proofs.TypeChoices.{anything, type_name_pair}
use Rattle.go_grammar.proofs.TypeAgain.{signature_again}
use Rattle.go_grammar.proofs.ExprAgain.{block_again}
use Rattle.go_grammar.proofs.Rereads.{Rereads}
use Rattle.go_grammar.proofs.DeclChoices.{follow_part, deficit_part, ends_decl}
use Rattle.go_grammar.proofs.DeclAgain.{at_part_again, decl_again, semicolon_first}
use Rattle.go_grammar.proofs.FirstBad.{ReadAgain}

-- ---- receivers

named_pair : (tokens : List Token) {next : Kind → Bool} → IsPair (λ other. is other kinds.Name) next tokens → implies next (λ kind. not (begins_type kind || is kind kinds.Ellipsis)) ≡ true → begins_named_param tokens ≡ false
named_pair tokens {next} p h =
    let s = p.second in
    let other : (begins_type_at p.others || begins kinds.Ellipsis p.others) ≡ false = ap (λ (ws : List Token). begins_type_at ws || begins kinds.Ellipsis ws) s.all ∙ flip (begins_type s.token.kind || is s.token.kind kinds.Ellipsis) (implied next (λ kind. not (begins_type kind || is kind kinds.Ellipsis)) h s.token.kind s.kind) in
    ap begins_named_param p.all ∙ and_false (is p.token.kind kinds.Name) (begins_type_at p.others || begins kinds.Ellipsis p.others) other
  where
    and_false : (a b : Bool) → b ≡ false → (a && b) ≡ false
    and_false true b h = h
    and_false false b h = refl

no_name : (tokens : List Token) → begins kinds.Name tokens ≡ false → begins_named_param tokens ≡ false
no_name [] h = refl
no_name (token ∷ tokens) h = first_false (is token.kind kinds.Name) _ h
  where
    first_false : (a b : Bool) → a ≡ false → (a && b) ≡ false
    first_false false b h = refl
    first_false true b h = absurd cc

abbrev behind_receiver_type : Kind → Bool
behind_receiver_type kind = is kind kinds.Comma || is kind kinds.CloseParen

-- a type without a name before it
unnamed : {tree : Forest} {rest : List Token} → Fits grammar (shapes.Part sorts.AnyType) tree rest → IsFirst behind_receiver_type rest → begins_named_param (yield tree ++ rest) ≡ false
unnamed {tree} {rest} (shapes.part (shapes.first (shapes.part (shapes.first x)))) f = named_pair (yield tree ++ rest) (type_name_pair x f) refl
unnamed {tree} {rest} (shapes.part (shapes.first (shapes.part (shapes.second x)))) f = no_name (yield tree ++ rest) (next_is_not (λ kind. is kind kinds.Name) _ behind_receiver_type refl tree rest x f)
unnamed {tree} {rest} (shapes.part (shapes.second x)) f = no_name (yield tree ++ rest) (next_is_not (λ kind. is kind kinds.Name) _ behind_receiver_type refl tree rest x f)

-- a name, and a type behind it
named : (token : Token) (rest : List Token) → is token.kind kinds.Name ≡ true → IsFirst begins_type rest → begins_named_param (token ∷ rest) ≡ true
named token rest e f = both_true (is token.kind kinds.Name) (begins_type_at rest || begins kinds.Ellipsis rest) e (or_left (begins_type_at rest) _ (ap begins_type_at f.all ∙ f.kind))
  where
    both_true : (a b : Bool) → a ≡ true → b ≡ true → (a && b) ≡ true
    both_true true b h k = k
    both_true false b h k = absurd cc

    or_left : (a b : Bool) → a ≡ true → (a || b) ≡ true
    or_left true b h = refl
    or_left false b h = absurd cc

abbrev end_of_receiver : Plan Sort
end_of_receiver = Then (maybe_word kinds.Comma) (word kinds.CloseParen)

receiver_chosen : (depth : ℕ) {tree : Forest} {rest : List Token} (x : Fits grammar (shape_of receiver_plan) tree rest) → IsFirst anything rest → length (yield tree) ≤ depth → IsChosen grammar (IsRoomy follow_part deficit_part depth) receiver_plan x
receiver_chosen depth (shapes.below (shapes.both (shapes.sign {token = opened} o) (shapes.both {right = end} {rest = rest} (shapes.below (shapes.both {left = name} {right = form} n t)) e))) f le =
    let g = first_behind anything e f in
    let ends = chosen follow_part deficit_part depth end_of_receiver anything 0 ((next_is (λ kind. is kind kinds.Comma) _ _ refl, next_is_not (λ kind. is kind kinds.Comma) _ _ refl, tt, tt), tt) e f (omega (arith, le, all)) in
    let here : IsRoomy follow_part deficit_part depth sorts.AnyType form (yield end ++ rest) = record { next = record { token = g.token; others = g.others; all = g.all; kind = refl }; fits = omega (arith, le, all) } in
    (tt, ((by n, here), ends))
  where
    all : length ((opened ∷ (yield (append name form) ++ yield end)) ++ []) ≡ 1 + length (yield name) + length (yield form) + length (yield end)
    all = omega (arith, ap length (append-nil (opened ∷ (yield (append name form) ++ yield end))), length-append (yield (append name form)) (yield end), ap length (yield-append name form), length-append (yield name) (yield form))

    type_first : IsFirst begins_type (yield form ++ (yield end ++ rest))
    type_first = let g = first_behind (behind (shape_of end_of_receiver) anything) t (first_behind anything e f) in record { token = g.token; others = g.others; all = g.all; kind = implied (behind (shapes.Part sorts.AnyType) (behind (shape_of end_of_receiver) anything)) begins_type refl g.token.kind g.kind }

    by : {nm : Forest} (n : Fits grammar (shapes.word kinds.Name ∣ shapes.Nothing) nm (yield form ++ (yield end ++ rest))) → IsChosen grammar (IsRoomy follow_part deficit_part depth) (plans.maybe begins_named_param (word kinds.Name)) n
    by (shapes.first (shapes.sign {token = token} k)) = (named token _ k type_first, tt)
    by (shapes.second shapes.nothing) = (unnamed t (first_behind anything e f), tt)

-- ---- declarations at package level

abbrev follow_package : Sort → Kind → Bool
follow_package sorts.LocalDecl kind = ends_decl kind
follow_package sorts.Receiver kind = true
follow_package sorts.Signature kind = true
follow_package sorts.Block kind = true
follow_package _ kind = false

abbrev no_deficit : Sort → ℕ
no_deficit sort = 0

package_sure : Sure follow_package no_deficit package_plan ends_decl 0
package_sure = (
  is_open kinds.FuncWord _ _ refl,
  is_closed kinds.FuncWord _ _ refl,
  (refl, refl),
  (
    tt,
    (
      (next_is (λ kind. is kind kinds.OpenParen) _ _ refl, next_is_not (λ kind. is kind kinds.OpenParen) _ _ refl, (refl, refl), tt),
      (tt, ((refl, refl), (next_is (λ kind. is kind kinds.OpenBrace) _ _ refl, next_is_not (λ kind. is kind kinds.OpenBrace) _ _ refl, (refl, refl), tt))),
    ),
  ),
)

module _ (p : Parsers) (depth : ℕ) (r : Rereads p depth) where
  receiver_again : (tree : Forest) (rest : List Token) → Fits grammar (shapes.Part sorts.Receiver) tree rest → IsFirst anything rest → length (yield tree) ≤ depth → run (at_part p) receiver_plan (yield tree ++ rest) ≡ Some (tree, rest)
  receiver_again tree rest x f le = run_again grammar (IsRoomy follow_part deficit_part depth) (at_part p) (at_part_again p depth r) receiver_plan (unpart x) (receiver_chosen depth (unpart x) f le)

  at_package_again : (sort : Sort) (tree : Forest) (rest : List Token) → Fits grammar (shapes.Part sort) tree rest → IsRoomy follow_package no_deficit depth sort tree rest → at_package p sort (yield tree ++ rest) ≡ Some (tree, rest)
  at_package_again sorts.LocalDecl tree rest x room = let le = room.fits in decl_again p depth r tree rest x room.next (omega (arith, le))
  at_package_again sorts.Receiver tree rest x room = let le = room.fits in receiver_again tree rest x room.next (omega (arith, le))
  at_package_again sorts.Signature tree rest x room = let le = room.fits in signature_again p depth r tree rest x room.next (omega (arith, le))
  at_package_again sorts.Block tree rest x room = let le = room.fits in block_again p depth r tree rest x (omega (arith, le))
  at_package_again _ tree rest x room = let clash : false ≡ true = room.next.kind in absurd cc

  pub package_again : ReadAgain p depth sorts.PackageDecl
  package_again tree rest x h le = plan_again follow_package no_deficit depth (at_package p) at_package_again package_plan ends_decl 0 package_sure (unpart x) (semicolon_first rest h) (omega (arith, le))

-- ---- files

-- imports and declarations before a semicolon, and of few enough tokens
abbrev is_line : Sort → Bool
is_line sorts.Import = true
is_line sorts.PackageDecl = true
is_line _ = false

abbrev IsLineAt : ℕ → Sort → Forest → List Token → Type 0
IsLineAt depth sort tree rest = (is_line sort ≡ true) × (begins_semicolon rest ≡ true) × (length (yield tree) ≤ depth)

abbrev line_plan : Sort → Plan Sort
line_plan sort = Then (Part sort) plans.semicolon

lines_chosen : (depth : ℕ) (sort : Sort) (test : List Token → Bool) → is_line sort ≡ true → {tree : Forest} {rest : List Token} (x : Fits grammar (shapes.Many (shape_of (line_plan sort))) tree rest)
    → ((tree : Forest) (rest : List Token) → Fits grammar (shape_of (line_plan sort)) tree rest → test (yield tree ++ rest) ≡ true) → test rest ≡ false → length (yield tree) ≤ depth
    → AreChosen grammar (IsLineAt depth) test (λ tree rest y. IsChosen grammar (IsLineAt depth) (line_plan sort) y) x
lines_chosen depth sort test l shapes.done first last le = last
lines_chosen depth sort test l (shapes.more {right = right} {rest = rest} (shapes.both {left = tree} x (shapes.sign {token = semicolon} e)) y) first last le =
    let one = length-append (yield tree) (semicolon ∷ []) in
    let two : length (yield (append tree (leaf semicolon empty))) ≡ length (yield tree) + 1 = omega (arith, ap length (yield-append tree (leaf semicolon empty)), one) in
    let all = length-append (yield (append tree (leaf semicolon empty))) (yield right) in
    let split = ap length (yield-append (append tree (leaf semicolon empty)) right) in (
      first _ _ (shapes.both x (shapes.sign e)),
      omega (arith, two),
      ((l, e, omega (arith, le, two, all, split)), tt),
      lines_chosen depth sort test l y first last (omega (arith, le, two, all, split)),
    )

starts_import : (tree : Forest) (rest : List Token) → Fits grammar (shape_of (line_plan sorts.Import)) tree rest → begins kinds.ImportWord (yield tree ++ rest) ≡ true
starts_import tree rest (shapes.both {left = left} x (shapes.sign {token = semicolon} e)) =
    let f : IsFirst anything (semicolon ∷ rest) = record { token = semicolon; others = rest; all = refl; kind = refl } in
    ap (begins kinds.ImportWord) (regroup left (leaf semicolon empty) rest) ∙ next_is (λ kind. is kind kinds.ImportWord) (shapes.Part sorts.Import) anything refl left (semicolon ∷ rest) x f

starts_decl : (tree : Forest) (rest : List Token) → Fits grammar (shape_of (line_plan sorts.PackageDecl)) tree rest → begins kinds.ImportWord (yield tree ++ rest) ≡ false
starts_decl tree rest (shapes.both {left = left} x (shapes.sign {token = semicolon} e)) =
    let f : IsFirst anything (semicolon ∷ rest) = record { token = semicolon; others = rest; all = refl; kind = refl } in
    ap (begins kinds.ImportWord) (regroup left (leaf semicolon empty) rest) ∙ next_is_not (λ kind. is kind kinds.ImportWord) (shapes.Part sorts.PackageDecl) anything refl left (semicolon ∷ rest) x f

starts_more : (tree : Forest) (rest : List Token) → Fits grammar (shape_of (line_plan sorts.PackageDecl)) tree rest → is_more (yield tree ++ rest) ≡ true
starts_more tree rest x = go (yield tree) (at_least x)
  where
    go : (front : List Token) → 2 ≤ length front → is_more (front ++ rest) ≡ true
    go [] h = absurd (omega arith)
    go (token ∷ front) h = refl

-- behind the imports there is none
no_imports : {tree : Forest} {rest : List Token} → Fits grammar (shapes.Many (shape_of (line_plan sorts.PackageDecl))) tree rest → rest ≡ [] → begins kinds.ImportWord (yield tree ++ rest) ≡ false
no_imports shapes.done e = ap (begins kinds.ImportWord) e
no_imports (shapes.more {left = left} {right = right} {rest = rest} x y) e = ap (begins kinds.ImportWord) (regroup left right rest) ∙ starts_decl left (yield right ++ rest) x

file_chosen : (depth : ℕ) {tree : Forest} {rest : List Token} (x : Fits grammar (shape_of file_plan) tree rest) → rest ≡ [] → length (yield tree) ≤ depth → IsChosen grammar (IsLineAt depth) file_plan x
file_chosen depth (shapes.below (shapes.both (shapes.sign {token = word} w) (shapes.both (shapes.sign {token = name} n) (shapes.both (shapes.sign {token = semicolon} s) (shapes.both {left = imports} {right = decls} i d))))) e le =
    let all = length-append (yield imports) (yield decls) in
    let split = ap length (yield-append imports decls) in
    let whole = ap length (append-nil (word ∷ name ∷ semicolon ∷ yield (append imports decls))) in (
      tt,
      (
        tt,
        (
          tt,
          (
            lines_chosen depth sorts.Import (begins kinds.ImportWord) refl i starts_import (no_imports d e) (omega (arith, le, all, split, whole)),
            lines_chosen depth sorts.PackageDecl is_more refl d starts_more (ap is_more e) (omega (arith, le, all, split, whole)),
          ),
        ),
      ),
    )

module _ (p : Parsers) (depth : ℕ) (import_again : ReadAgain p depth sorts.Import) (package_again : ReadAgain p depth sorts.PackageDecl) where
  at_file_again : (sort : Sort) (tree : Forest) (rest : List Token) → Fits grammar (shapes.Part sort) tree rest → IsLineAt depth sort tree rest → at_file p sort (yield tree ++ rest) ≡ Some (tree, rest)
  at_file_again sorts.Import tree rest x h = import_again tree rest x h.1 h.2
  at_file_again sorts.PackageDecl tree rest x h = package_again tree rest x h.1 h.2
  at_file_again _ tree rest x h = let clash : false ≡ true = h.0 in absurd cc

  pub file_again : (tokens : List Token) (tree : Forest) → IsTreeOf tokens tree → length tokens ≤ depth → file_in p tokens ≡ Some (tree, [])
  file_again tokens tree h le =
      let x = unpart h.well_formed in
      ap (file_in p) (h.written ∙ sym (append-nil (yield tree))) ∙ run_again grammar (IsLineAt depth) (at_file p) at_file_again file_plan x (file_chosen depth x refl (omega (arith, le, ap length h.written)))
