-- The cases of a `select`, from one on.
use Rattle.std.proofs.Common.{◌≡◌, ℕ, suc, zero, ◌+◌, ◌<◌, ◌≤◌, true, false, ◌&&◌, nat_eq, List, [], ◌∷◌, length, drop, get_or, refl, sym, ◌∙◌, ap, arith, add-one, drop-cons}
use Rattle.std.specs.Prelude.{slice_get}
use Rattle.std.proofs.Math.Seq.{drop-nil}
use Rattle.std.proofs.lemmas.Bool.Decides.{nat_tests}
use Rattle.go_base.specs.declared.ids.TypeId.{TypeId}
use Rattle.ssa_ir.specs.declared.code.Code.{Code}
use Rattle.ssa_ir.specs.declared.code.Function.{Function}
use Rattle.ssa_ir.specs.declared.operands.Operand.{Operand}
use Rattle.ssa_ir.specs.declared.ops.SelectCase.{SelectCase}
use Rattle.ssa_ir.specs.declared.ops.SelectCase.TheVariants.{Send, Receive}
use Rattle.ssa_typed.specs.Forms.{takes_cases, receives_at}
use Rattle.ssa_typed.specs.Operands.{shape, is_where}
use Rattle.type_shapes.specs.Shapes.{sent_elem}

drop-at : {A : Type 0} (xs : List A) (i : ℕ) (x d : A) → i < length xs → x ≡ get_or xs i d → drop i xs ≡ x ∷ drop (i + 1) xs
drop-at xs i x d h e = rw add-one (drop-cons xs i d h ∙ ap (λ y. y ∷ drop (suc i) xs) (sym e))

pub drop-past : {A : Type 0} (xs : List A) (i : ℕ) → length xs ≤ i → drop i xs ≡ []
drop-past [] i h = drop-nil i
drop-past (x ∷ xs) zero h = absurd (omega arith)
drop-past (x ∷ xs) (suc i) h = drop-past xs i (omega arith)

zero-suc : (n : ℕ) → false ≡ nat_eq 0 (suc n)
zero-suc n = grind (arith, nat_tests)

suc-suc : (p n : ℕ) → nat_eq p n ≡ nat_eq (suc p) (suc n)
suc-suc p n = grind (arith, nat_tests)

module _ (c : Code) (f : Function) where
  receive-head : (channel : Operand) (rest : List SelectCase) (received : List TypeId) (p : ℕ)
      → takes_cases c f (Receive channel ∷ rest) (drop p received) ≡ receives_at c f channel (slice_get received p) && takes_cases c f rest (drop (suc p) received)
  receive-head channel rest [] zero = refl
  receive-head channel rest [] (suc p) = refl
  receive-head channel rest (of ∷ received) zero = refl
  receive-head channel rest (of ∷ received) (suc p) = receive-head channel rest received p

  -- a case that sends
  pub takes-send : (cases : List SelectCase) (received : List TypeId) (i p : ℕ) (item d : SelectCase) (channel value : Operand)
      → i < length cases → item ≡ get_or cases i d → item ≡ Send channel value
      → takes_cases c f (drop i cases) (drop p received) ≡ is_where c f value (sent_elem (shape c f channel)) && takes_cases c f (drop (i + 1) cases) (drop p received)
  takes-send cases received i p item d channel value h e form =
      ap (λ l. takes_cases c f l (drop p received)) (drop-at cases i item d h e ∙ ap (λ y. y ∷ drop (i + 1) cases) form)

  -- a case that receives
  pub takes-receive : (cases : List SelectCase) (received : List TypeId) (i p : ℕ) (item d : SelectCase) (channel : Operand)
      → i < length cases → item ≡ get_or cases i d → item ≡ Receive channel
      → takes_cases c f (drop i cases) (drop p received) ≡ receives_at c f channel (slice_get received p) && takes_cases c f (drop (i + 1) cases) (drop (p + 1) received)
  takes-receive cases received i p item d channel h e form =
      ap (λ l. takes_cases c f l (drop p received)) (drop-at cases i item d h e ∙ ap (λ y. y ∷ drop (i + 1) cases) form)
      ∙ receive-head channel (drop (i + 1) cases) received p
      ∙ ap (λ k. receives_at c f channel (slice_get received p) && takes_cases c f (drop (i + 1) cases) (drop k received)) (sym (add-one p))

  -- what receives has a part
  pub receives-within : (channel : Operand) (received : List TypeId) (p : ℕ) → receives_at c f channel (slice_get received p) ≡ true → p < length received
  receives-within channel [] p h = cc
  receives-within channel (of ∷ received) zero h = omega arith
  receives-within channel (of ∷ received) (suc p) h = let k : p < length received = receives-within channel received p h in omega arith

  none-left : (received : List TypeId) (p : ℕ) → p ≤ length received → takes_cases c f [] (drop p received) ≡ nat_eq p (length received)
  none-left [] zero h = refl
  none-left [] (suc p) h = absurd (omega arith)
  none-left (of ∷ received) zero h = zero-suc (length received)
  none-left (of ∷ received) (suc p) h = none-left received p (omega arith) ∙ suc-suc p (length received)

  -- behind the last case
  pub takes-none : (cases : List SelectCase) (received : List TypeId) (i p : ℕ) → length cases ≤ i → p ≤ length received
      → takes_cases c f (drop i cases) (drop p received) ≡ nat_eq p (length received)
  takes-none cases received i p h k = ap (λ l. takes_cases c f l (drop p received)) (drop-past cases i h) ∙ none-left received p k
