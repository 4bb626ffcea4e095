-- A text that is added to piece by piece.
use Rattle.std.proofs.Common.{◌≡◌, List, ℕ, ◌++◌, ◌∙◌, ap, append_assoc}

-- a piece, and then the rest
pub then : (old now later piece rest : List ℕ) → now ≡ old ++ piece → later ≡ now ++ rest → later ≡ old ++ (piece ++ rest)
then old now later piece rest p q = q ∙ ap (λ text. text ++ rest) p ∙ append_assoc old piece rest
