-- What was asked of types before, and methods by name.
use Rattle.std.proofs.Common.{◌≡◌, ◌∙◌, Bool, true, false, List, [], ◌∷◌, Option, Some, sym, ap, refl, cond, arith, ℕ}
use Rattle.std.specs.Prelude.{IsTrue, ◌↔◌, option_map}
use Rattle.std.specs.List.{find}
use Rattle.std.specs.declared.hash.BuildHasherDefault.{BuildHasherDefault}
use Rattle.std.specs.declared.hash.FoldHasher.{FoldHasher}
use Rattle.std.specs.Map.{lookup}
use Rattle.indexmap.specs.IndexMap.{get, IndexMap}
use Rattle.code_plan.specs.contracts.steps.MethodOfPartialEq.TheImpl as generated
use Rattle.code_plan.specs.declared.steps.MethodOf.{MethodOf}
use Rattle.go_base.specs.declared.ids.TypeId.{TypeId}
use Rattle.interp_state.specs.Asked.{same_pair, AreAsked}
use Rattle.interp_state.specs.declared.machine.TypePair.{TypePair}
use Rattle.plan_mean.specs.Calls.{is_method}

pair_parts : (a b c d : TypeId) → same_pair (record { of = a; interface = b }) (record { of = c; interface = d }) ≡ true
    → (a ≡ c) × (b ≡ d)
pair_parts a b c d h = search arith

-- one more answer is kept
pub asked_more : (test : TypeId → TypeId → Bool) (old new : IndexMap TypePair Bool (BuildHasherDefault FoldHasher))
    (pair : TypePair) (answer : Bool) → AreAsked test old → answer ≡ test pair.of pair.interface
    → ((other : TypePair) → get same_pair new other ≡ cond (same_pair pair other) (Some answer) (get same_pair old other))
    → AreAsked test new
asked_more test old new pair answer asked is updates it given found = by_test (same_pair pair it) refl
  where
    by_test : (b : Bool) → same_pair pair it ≡ b → given ≡ test it.of it.interface
    by_test true same =
        let parts = pair_parts pair.of pair.interface it.of it.interface same in
        let one : Some given ≡ Some answer = sym found ∙ updates it ∙ ap (λ b. cond b (Some answer) (get same_pair old it)) same in
        let given_is : given ≡ answer = cc in
        given_is ∙ is ∙ ap (λ of. test of pair.interface) parts.0 ∙ ap (test it.of) parts.1
    by_test false other =
        asked it given (sym (updates it ∙ ap (λ b. cond b (Some answer) (get same_pair old it)) other) ∙ found)

-- two tests that tell one fact are one
pub tells_one : {P : Type 0} (a b : Bool) → IsTrue a ↔ P → IsTrue b ↔ P → a ≡ b
tells_one true true h k = refl
tells_one true false h k = let no : ⊥ = search arith in absurd no
tells_one false true h k = let no : ⊥ = search arith in absurd no
tells_one false false h k = refl

-- ---- methods by name

pick : {A B : Type 0} (b : Bool) (e : A × B) (x : Option B) (y : Option (A × B)) → x ≡ option_map (λ line. line.1) y
    → cond b (Some e.1) x ≡ option_map (λ line. line.1) (cond b (Some e) y)
pick true e x y h = refl
pick false e x y h = h

pub method_is : (it : MethodOf) (lines : List (MethodOf × ℕ))
    → lookup (generated.ghosts.eq it) lines ≡ option_map (λ line. line.1) (find (λ line. is_method it line.0) lines)
method_is it [] = refl
method_is it (line ∷ lines) =
    pick (is_method it line.0) line (lookup (generated.ghosts.eq it) lines) (find (λ line. is_method it line.0) lines)
    (method_is it lines)
