-- Types are read again.
use Rattle.std.proofs.Common.{◌≡◌, ℕ, ◌+◌, ◌≤◌, ◌<◌, Bool, true, false, List, ◌∷◌, ◌++◌, length, Some, None, refl, arith}
use Rattle.go_ast.specs.declared.token.Kind.{Kind}
use Rattle.go_ast.specs.declared.token.Kind.TheVariants as kinds
use Rattle.go_ast.specs.declared.token.Token.{Token}
use Rattle.go_grammar.specs.Forests.{Forest, yield}
use Rattle.go_grammar.specs.Shapes as shapes
use Rattle.go_grammar.specs.Shapes.{Fits, part, first, is}
use Rattle.go_grammar.specs.Grammar as sorts
use Rattle.go_grammar.specs.Grammar.{Sort, grammar}
use Rattle.go_grammar.specs.Reading.{run}
use Rattle.go_grammar.specs.Tests.{begins}
use Rattle.go_grammar.specs.TypeReading.{Plain, Parsers, type_name_plan, type_name_in, at_signature, signature_plan, signature_in, at_type, chan_plan, bare_plan, bare_in, at_long, long_plan, long_in, at_any, type_plan, type_in}
use Rattle.go_grammar.proofs.TypeTakes.{tight}
use Rattle.go_grammar.proofs.SameKinds.{is_same}
use Rattle.go_grammar.proofs.Fronts.{IsFirst}
use Rattle.go_grammar.proofs.Choices.{IsRoomy, next_is_not}
use Rattle.go_grammar.proofs.Plans.{unpart, plan_again}
use Rattle.go_grammar.proofs.TypeChoices.{anything, follow, follow_long, follow_any, follow_signature, deficit, deficit_signature, type_name_sure, chan_sure, bare_sure, long_sure, type_sure, signature_sure}
use Rattle.go_grammar.proofs.Rereads.{Rereads, ends_operand}
use Rattle.go_grammar.proofs.ParamAgain.{params_again, results_again}

abbrev no_sort : Sort → Kind → Bool
no_sort sort kind = false

abbrev no_deficit : Sort → ℕ
no_deficit sort = 0

-- before a closing bracket no operand goes on, and no operator binds
pub bracket_ends : (rest : List Token) → IsFirst (λ kind. is kind kinds.CloseBracket) rest → (ends_operand Plain rest ≡ true) × (tight rest < 1)
bracket_ends rest f = rw f.all (go f.token f.others (is_same f.token.kind kinds.CloseBracket f.kind))
  where
    go : (token : Token) (others : List Token) → token.kind ≡ kinds.CloseBracket → (ends_operand Plain (token ∷ others) ≡ true) × (tight (token ∷ others) < 1)
    go token others e = rw e (refl, omega arith)

pub type_name_again : (tree : Forest) (rest : List Token) → Fits grammar (shapes.Part sorts.TypeName) tree rest → IsFirst anything rest → type_name_in (yield tree ++ rest) ≡ Some (tree, rest)
type_name_again tree rest x f =
    plan_again no_sort no_deficit (length (yield tree) + 0) (λ sort tokens. None) (λ sort tree rest y r. let clash : false ≡ true = r.next.kind in absurd cc)
    type_name_plan anything 0 (type_name_sure no_sort no_deficit 0) (unpart x) f (omega arith)

module _ (p : Parsers) (depth : ℕ) (r : Rereads p depth) where
  result_again : (tree : Forest) (rest : List Token) → Fits grammar (shapes.Part sorts.LongType) tree rest → IsRoomy follow_signature deficit_signature depth sorts.LongType tree rest → at_signature p sorts.LongType (yield tree ++ rest) ≡ Some (tree, rest)
  result_again tree rest x room =
      let f : IsFirst anything rest = record { token = room.next.token; others = room.next.others; all = room.next.all; kind = refl } in
      let no_paren : begins kinds.OpenParen (yield tree ++ rest) ≡ false = next_is_not (λ other. is other kinds.OpenParen) (shapes.Part sorts.LongType) anything refl tree rest x f in
      let le = room.fits in
      rw no_paren (r.type_expr tree rest (part (first x)) f (omega (arith, le)))

  at_signature_again : (sort : Sort) (tree : Forest) (rest : List Token) → Fits grammar (shapes.Part sort) tree rest → IsRoomy follow_signature deficit_signature depth sort tree rest → at_signature p sort (yield tree ++ rest) ≡ Some (tree, rest)
  at_signature_again sorts.Params tree rest x room = let le = room.fits in params_again p depth r tree rest x room.next (omega (arith, le))
  at_signature_again sorts.Results tree rest x room = let le = room.fits in results_again p depth r tree rest x room.next (omega (arith, le))
  at_signature_again sorts.LongType tree rest x room = result_again tree rest x room
  at_signature_again _ tree rest x room = let clash : false ≡ true = room.next.kind in absurd cc

  pub signature_again : (tree : Forest) (rest : List Token) → Fits grammar (shapes.Part sorts.Signature) tree rest → IsFirst anything rest → length (yield tree) ≤ depth → signature_in p (yield tree ++ rest) ≡ Some (tree, rest)
  signature_again tree rest x f le = plan_again follow_signature deficit_signature depth (at_signature p) at_signature_again signature_plan anything 0 signature_sure (unpart x) f (omega (arith, le))

  pub at_type_again : (sort : Sort) (tree : Forest) (rest : List Token) → Fits grammar (shapes.Part sort) tree rest → IsRoomy follow deficit depth sort tree rest → at_type p sort (yield tree ++ rest) ≡ Some (tree, rest)
  at_type_again sorts.AnyType tree rest x room = let le = room.fits in r.type_expr tree rest x room.next (omega (arith, le))
  at_type_again sorts.TypeName tree rest x room = type_name_again tree rest x room.next
  at_type_again sorts.Signature tree rest x room = let le = room.fits in signature_again tree rest x room.next (omega (arith, le))
  at_type_again (sorts.Binary sorts.Disjunction sorts.Plain) tree rest x room =
      let le = room.fits in
      let ends = bracket_ends rest room.next in
      r.expr Plain 1 tree rest (omega arith) (omega arith) x ends.0 ends.1 (omega (arith, le))
  at_type_again _ tree rest x room = let clash : false ≡ true = room.next.kind in absurd cc

  pub bare_again : (tree : Forest) (rest : List Token) → Fits grammar (shapes.Part sorts.BareType) tree rest → IsFirst anything rest → length (yield tree) ≤ depth → bare_in p (yield tree ++ rest) ≡ Some (tree, rest)
  bare_again tree rest x f le = plan_again follow deficit depth (at_type p) at_type_again bare_plan anything 0 bare_sure (unpart x) f (omega (arith, le))

  pub chan_again : (tree : Forest) (rest : List Token) → Fits grammar sorts.chan_type tree rest → IsFirst anything rest → length (yield tree) ≤ depth → run (at_type p) chan_plan (yield tree ++ rest) ≡ Some (tree, rest)
  chan_again tree rest x f le = plan_again follow deficit depth (at_type p) at_type_again chan_plan anything 0 chan_sure x f (omega (arith, le))

  at_long_again : (sort : Sort) (tree : Forest) (rest : List Token) → Fits grammar (shapes.Part sort) tree rest → IsRoomy follow_long deficit depth sort tree rest → at_long p sort (yield tree ++ rest) ≡ Some (tree, rest)
  at_long_again sorts.BareType tree rest x room = let le = room.fits in bare_again tree rest x room.next (omega (arith, le))
  at_long_again sort tree rest x room = at_type_again sort tree rest x (record { next = room.next; fits = room.fits })

  pub long_again : (tree : Forest) (rest : List Token) → Fits grammar (shapes.Part sorts.LongType) tree rest → IsFirst anything rest → length (yield tree) ≤ depth → long_in p (yield tree ++ rest) ≡ Some (tree, rest)
  long_again tree rest x f le = plan_again follow_long deficit depth (at_long p) at_long_again long_plan anything 0 long_sure (unpart x) f (omega (arith, le))

  at_any_again : (sort : Sort) (tree : Forest) (rest : List Token) → Fits grammar (shapes.Part sort) tree rest → IsRoomy follow_any deficit depth sort tree rest → at_any p sort (yield tree ++ rest) ≡ Some (tree, rest)
  at_any_again sorts.LongType tree rest x room = let le = room.fits in long_again tree rest x room.next (omega (arith, le))
  at_any_again sort tree rest x room = at_type_again sort tree rest x (record { next = room.next; fits = room.fits })

  pub type_again : (tree : Forest) (rest : List Token) → Fits grammar (shapes.Part sorts.AnyType) tree rest → IsFirst anything rest → length (yield tree) ≤ depth → type_in p (yield tree ++ rest) ≡ Some (tree, rest)
  type_again tree rest x f le = plan_again follow_any deficit depth (at_any p) at_any_again type_plan anything 0 type_sure (unpart x) f (omega (arith, le))
