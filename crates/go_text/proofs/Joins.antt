-- The parameters of a variadic function, one more at a time.
use Rattle.std.proofs.Common.{◌≡◌, ℕ, List, [], ◌∷◌, ◌++◌, length, take, refl, sym, ◌∙◌, ap, append_assoc, codes, append-nil}
use Rattle.std.specs.List.{flat_map}
use Rattle.std.proofs.Math.Seq.{take-length}
use Rattle.go_base.specs.declared.ids.TypeId.{TypeId}
use Rattle.go_text.specs.Naming.{Naming}
use Rattle.go_text.specs.TypeText.{variadic_text, last_param_text}

-- the parameters of a variadic function: those before the last, and the last
pub variadic_text-split : (n : Naming) (part : TypeId → List ℕ) (front : List TypeId) (last : TypeId)
    → variadic_text n part (front ++ last ∷ []) ≡ flat_map (λ id. part id ++ codes ", ") front ++ last_param_text n part last
variadic_text-split n part [] last = refl
variadic_text-split n part (p ∷ []) last = simp (append_assoc, append-nil)
variadic_text-split n part (p ∷ (q ∷ rest)) last =
    ap (λ t. part p ++ (codes ", " ++ t)) (variadic_text-split n part (q ∷ rest) last) ∙ simp append_assoc

-- the same at the end of a loop over those before the last
pub variadic_text-end : (n : Naming) (part : TypeId → List ℕ) (front : List TypeId) (last : TypeId) (params : List TypeId) (k : ℕ) (old before after : List ℕ)
    → params ≡ front ++ last ∷ [] → k ≡ length front
    → before ≡ old ++ flat_map (λ id. part id ++ codes ", ") (take k front)
    → after ≡ before ++ last_param_text n part last
    → after ≡ old ++ variadic_text n part params
variadic_text-end n part front last params k old before after is ends p q =
    let whole : take k front ≡ front = ap (λ j. take j front) ends ∙ take-length front in
    q ∙ ap (λ t. t ++ last_param_text n part last) (p ∙ ap (λ ids. old ++ flat_map (λ id. part id ++ codes ", ") ids) whole)
    ∙ append_assoc old (flat_map (λ id. part id ++ codes ", ") front) (last_param_text n part last)
    ∙ ap (λ t. old ++ t) (sym (variadic_text-split n part front last) ∙ ap (variadic_text n part) (sym is))
