use Rattle.std.proofs.Common.{◌≡◌, ◌∙◌, ◌++◌, ℕ, List, [], append_assoc, ap}
use Rattle.go_gen.proofs.generating.generated.Goals as goal

-- texts that are added one behind another
joined : (t u v w x y a b c d e : List ℕ) → t ≡ [] → u ≡ t ++ a → v ≡ u ++ b → w ≡ v ++ c → x ≡ w ++ d → y ≡ x ++ e → y ≡ a ++ (b ++ (c ++ (d ++ e)))
joined t u v w x y a b c d e h i j k l m =
    m ∙ ap (λ s. s ++ e) (l ∙ ap (λ s. s ++ d) (k ∙ ap (λ s. s ++ c) (j ∙ ap (λ s. s ++ b) (i ∙ ap (λ s. s ++ a) h)))) ∙ simp append_assoc

pub returns : goal.returns
returns c =
    c.new.ensures
    ∙ joined _ _ _ _ _ _ _ _ _ _ _ c.new-text.ensures.items c.in_ok-push.ensures c.in_ok-push_types.ensures c.in_ok-push-2.ensures c.in_ok-push_calls.ensures c.in_ok-push-3.ensures
