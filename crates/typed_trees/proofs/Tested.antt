-- The tests that tell what is true of types are one.
use mathlib.Core.Path.{fun_ext}
use Rattle.std.proofs.Common.{◌≡◌, Option, Some, None, Bool, true, false, IsTrue, ◌↔◌, refl, sym}
use Rattle.go_type.specs.Table.{Table}
use Rattle.type_shapes.specs.Answers.{Answers, AreAnswers}
use Rattle.typed_trees.specs.Programs.{OneTests}

same_test : (a b : Bool) → IsTrue a ↔ IsTrue b → a ≡ b
same_test true true h = refl
same_test false false h = refl
same_test true false h = sym (h.0 refl)
same_test false true h = h.1 refl

both_tell : {A B C : Type 0} → A ↔ C → B ↔ C → A ↔ B
both_tell p q = (λ a. q.1 (p.0 a), λ b. p.1 (q.0 b))

same_option : {A : Type 0} (a b : Option A) → ((x : A) → (a ≡ Some x) ↔ (b ≡ Some x)) → a ≡ b
same_option (Some x) b h = sym ((h x).0 refl)
same_option None (Some x) h = (h x).1 refl
same_option None None h = refl

same_answers : (types : Table) (a b : Answers) → AreAnswers types a → AreAnswers types b → a ≡ b
same_answers types a b p q =
    let one : a.comparable ≡ b.comparable =
    fun_ext (λ of. same_test (a.comparable of) (b.comparable of) (both_tell (p.comparable of) (q.comparable of))) in
    let other : a.implements ≡ b.implements =
    fun_ext (λ of. fun_ext (λ wanted. same_test (a.implements of wanted) (b.implements of wanted)
    (both_tell (p.implements of wanted) (q.implements of wanted)))) in
    λ i. record { comparable = one i; implements = other i }

pub one_tests : OneTests
one_tests types a b p q =
    let one : a.answers ≡ b.answers = same_answers types a.answers b.answers p.answers q.answers in
    let other : a.alike ≡ b.alike =
    fun_ext (λ x. fun_ext (λ y. same_test (a.alike x y) (b.alike x y) (both_tell (p.alike x y) (q.alike x y)))) in
    let third : a.method_of ≡ b.method_of =
    fun_ext (λ of. fun_ext (λ name. fun_ext (λ owner. same_option (a.method_of of name owner) (b.method_of of name owner)
    (λ method. both_tell (p.method_of of name owner method) (q.method_of of name owner method))))) in
    λ i. record { answers = one i; alike = other i; method_of = third i }
