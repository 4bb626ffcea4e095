-- There is one order at most.
use Rattle.std.proofs.Common.{◌≡◌, ℕ, List, [], ◌∷◌, refl, sym, subst, arith}
use Rattle.init_order.specs.Naming.{Naming}
use Rattle.init_order.specs.Order.{IsOrderAfter}

pub one_after : (names : Naming) (taken a b : List ℕ) → IsOrderAfter names taken a → IsOrderAfter names taken b → a ≡ b
one_after names taken [] [] h k = refl
one_after names taken [] (t ∷ b) h k = absurd (k.0.ready.is_left (h t k.0.ready.is_step))
one_after names taken (s ∷ a) [] h k = absurd (h.0.ready.is_left (k s h.0.ready.is_step))
one_after names taken (s ∷ a) (t ∷ b) h k =
    let low = h.0.first t k.0.ready in
    let high = k.0.first s h.0.ready in
    let same : s ≡ t = omega arith in
    let rest : a ≡ b = one_after names (s ∷ taken) a b h.1 (subst (λ x. IsOrderAfter names (x ∷ taken) b) (sym same) k.1) in
    cc
