-- The functions of answers, and the edges of questions.
use Rattle.std.proofs.Common.{◌≡◌, ◌⊎◌, ◌+◌, ◌*◌, ◌/◌, ◌%◌, ℕ, Bool, true, false, List, [], ◌∷◌, ◌++◌, inl, inr, refl, sym, ap, ◌∙◌, subst, map, flat_map, arith, eq-eqb}
use Rattle.std.proofs.lemmas.Bool.{eqb-true}
use Rattle.std.specs.Prelude.{◌==◌, if◌then◌else◌}
use Rattle.go_base.specs.declared.ids.FuncId.{FuncId}
use Rattle.go_base.specs.declared.place.Pos.{Pos}
use Rattle.cg_solve.specs.declared.solving.Rule.{Rule}
use Rattle.cg_solve.specs.LeastSets.{Derives}
use Rattle.cg_solve.specs.Lists.{Has}
use Rattle.cg_solve.proofs.Members.{Has-left, Has-right, Has-cases, Has-flat_map, from_flat_map, Has-map, from_map}
use Rattle.cg_sets.specs.declared.asking.Asked.{Asked}
use Rattle.cg_sets.specs.declared.asking.Asked.TheVariants as asked_of
use Rattle.cg_sets.specs.declared.asking.Question.{Question}
use Rattle.cg_sets.specs.declared.edges.Edge.{Edge}
use Rattle.cg_sets.specs.Asking.{answer_number, function_number, function_from, functions_in, answers_of, if_so, edge_to, asked_edges, question_edges, Gives, Calls, HasEdge, AreSound, AsksOf, AnswersAll, Grows}

-- ---- the functions among numbers

odd_number : (n m : ℕ) → n % 2 ≡ 1 → m ≡ n / 2 → n ≡ m * 2 + 1
odd_number n m h e = omega arith

from_test : (n : ℕ) (f : FuncId) (b : Bool) → (n % 2 == 1) ≡ b → Has (if b then record { number = n / 2 } ∷ [] else []) f → n ≡ function_number f
from_test n f true e (inl h) = odd_number n f.number (eqb-true (n % 2) 1 e) (sym (ap (λ (g : FuncId). g.number) h))
from_test n f true e (inr h) = absurd h
from_test n f false e h = absurd h

from_function : (n : ℕ) (f : FuncId) → Has (function_from n) f → n ≡ function_number f
from_function n f h = from_test n f (n % 2 == 1) refl h

remainder_one : (m : ℕ) → (m * 2 + 1) % 2 ≡ 1
remainder_one m = omega arith

half_of : (m : ℕ) → (m * 2 + 1) / 2 ≡ m
half_of m = omega arith

has_test : (f : FuncId) (b : Bool) → b ≡ true → Has (if b then record { number = function_number f / 2 } ∷ [] else []) f
has_test f true e = inl (ap (λ n. record { number = n }) (half_of f.number))
has_test f false e = absurd (cc)

function_has : (f : FuncId) → Has (function_from (function_number f)) f
function_has f = has_test f (function_number f % 2 == 1) (eq-eqb (function_number f % 2) 1 (remainder_one f.number))

in_if_so : (b : Bool) (fs : List FuncId) (f : FuncId) → Has (if_so b fs) f → (b ≡ true) × Has fs f
in_if_so true fs f h = (refl, h)
in_if_so false fs f h = absurd h

so_has : (b : Bool) (fs : List FuncId) (f : FuncId) → b ≡ true → Has fs f → Has (if_so b fs) f
so_has true fs f e h = h
so_has false fs f e h = absurd (cc)

-- the functions among the numbers that an answer has are put to it
pub grows : (rules : List Rule) (old new : ℕ → List FuncId) (answer : ℕ) (found : List ℕ)
    → ((k : ℕ) → new k ≡ old k ++ if_so (answer == k) (functions_in found))
    → ((n : ℕ) → Has found n → Derives (answer_number answer ∷ []) rules n)
    → ((n : ℕ) → Derives (answer_number answer ∷ []) rules n → Has found n)
    → Grows rules old new answer
grows rules old new answer found put sound whole = record {
  sound = λ s k f h. elim (Has-cases (old k) (if_so (answer == k) (functions_in found)) f (subst (λ l. Has l f) (put k) h)) [ inl g ↦ s k f g | inr g ↦ of_new k f (in_if_so (answer == k) (functions_in found) f g) ];
  kept = λ k f h. subst (λ l. Has l f) (sym (put k)) (Has-left (old k) (if_so (answer == k) (functions_in found)) f h);
  whole = λ f d. subst (λ l. Has l f) (sym (put answer)) (Has-right (old answer) (if_so (answer == answer) (functions_in found)) f (so_has (answer == answer) (functions_in found) f (eq-eqb answer answer refl) (Has-flat_map function_from found (function_number f) f (whole (function_number f) d) (function_has f))));
}
  where
    of_new : (k : ℕ) (f : FuncId) → ((answer == k) ≡ true) × Has (functions_in found) f → Gives rules k f
    of_new k f h =
        let one = from_flat_map function_from found f h.1 in
        subst (λ a. Gives rules a f) (eqb-true answer k h.0) (subst (Derives (answer_number answer ∷ []) rules) (from_function one.0 f one.2) (sound one.0 one.1))

-- ---- the answers that are asked for

pub asks_of : (questions : List Question) → AsksOf questions (flat_map (λ (q : Question). answers_of q.asked) questions)
asks_of questions = λ q h answer e. Has-flat_map (λ (q : Question). answers_of q.asked) questions q answer h (subst (λ a. Has (answers_of a) answer) (sym e) (inl refl))

-- ---- the edges of questions

same_edge : (a b : FuncId) (c d : Pos) (f g : FuncId) → a ≡ b → c ≡ d → f ≡ g → (let x : Edge = record { caller = a; site = c; callee = f } in let y : Edge = record { caller = b; site = d; callee = g } in x ≡ y)
same_edge a b c d f g h i j = cc

edge_from : (rules : List Rule) (given : ℕ → List FuncId) (q : Question) (e : Edge) (a : Asked) → AreSound rules given → Has (asked_edges given q a) e → (q.caller ≡ e.caller) × (q.at ≡ e.site) × Calls rules a e.callee
edge_from rules given q e (asked_of.Fixed f) s (inl h) = (ap (λ (x : Edge). x.caller) h, ap (λ (x : Edge). x.site) h, ap (λ (x : Edge). x.callee) h)
edge_from rules given q e (asked_of.Fixed f) s (inr h) = absurd h
edge_from rules given q e (asked_of.Answer answer) s h =
    let one = from_map (edge_to q) (given answer) e h in
    (ap (λ (x : Edge). x.caller) one.2, ap (λ (x : Edge). x.site) one.2, subst (Gives rules answer) (ap (λ (x : Edge). x.callee) one.2) (s answer one.0 one.1))

pub has_edge : (rules : List Rule) (given : ℕ → List FuncId) (questions : List Question) (e : Edge) → AreSound rules given → Has (flat_map (question_edges given) questions) e → HasEdge questions rules e
has_edge rules given questions e s h =
    let one = from_flat_map (question_edges given) questions e h in
    let parts = edge_from rules given one.0 e one.0.asked s one.2 in
    record { question = one.0; stands = one.1; caller = parts.0; site = parts.1; calls = parts.2 }

edge_of : (rules : List Rule) (given : ℕ → List FuncId) (questions : List Question) (q : Question) (e : Edge) (a : Asked) → AnswersAll questions rules given → Has questions q → q.asked ≡ a → q.caller ≡ e.caller → q.at ≡ e.site → Calls rules a e.callee → Has (asked_edges given q a) e
edge_of rules given questions q e (asked_of.Fixed f) w h i j k c = inl (same_edge q.caller e.caller q.at e.site f e.callee j k c)
edge_of rules given questions q e (asked_of.Answer answer) w h i j k c =
    subst (Has (map (edge_to q) (given answer))) (same_edge q.caller e.caller q.at e.site e.callee e.callee j k refl) (Has-map (edge_to q) (given answer) e.callee (w q h answer i e.callee c))

pub edge_given : (rules : List Rule) (given : ℕ → List FuncId) (questions : List Question) (e : Edge) → AnswersAll questions rules given → HasEdge questions rules e → Has (flat_map (question_edges given) questions) e
edge_given rules given questions e w h =
    Has-flat_map (question_edges given) questions h.question e h.stands (edge_of rules given questions h.question e h.question.asked w h.stands refl h.caller h.site h.calls)
