-- A type whose parts are looked at.
use Rattle.std.proofs.Common.{◌≡◌, ◌∙◌, ℕ, zero, suc, ◌-◌, ◌++◌, ◌∷◌, [], ◌+◌, ◌<◌, Bool, true, ◌&&◌, List, length, map, take, Option, Some, Result, IfOk, refl, sym, ap, arith, append_assoc}
use Rattle.std.specs.List.{list_all}
use Rattle.std.proofs.Math.ListN.{get_or}
use Rattle.std.proofs.lemmas.Grind.{take_at_read}
use Rattle.std.proofs.lemmas.List.{map-append}
use Rattle.std.proofs.lemmas.Result.{IfOk-weaker}
use Rattle.go_base.specs.declared.ids.TypeId.{TypeId}
use Rattle.go_base.specs.declared.memory.NoMemory.{NoMemory}
use Rattle.go_type.specs.declared.term.TypeTerm.{TypeTerm}
use Rattle.go_type.specs.declared.term.Signature.{Signature}
use Rattle.go_type.specs.declared.term.TypeTerm.TheVariants.{Func}
use Rattle.go_type.specs.Sizes.{parts_pass, nests_as_part, nests_within}
use Rattle.go_type.specs.Table.{Table, term_at, underlying_of}

-- whether the parts of a term are nested within a limit
abbrev pub nest_below : ℕ → Table → Option TypeTerm → Bool
nest_below n types t = parts_pass (nests_within n types) (nests_as_part n (nests_within n types) types) t

one_less : (limit : ℕ) (types : Table) (id : TypeId) → (limit ≡ 0 → ⊥) → nest_below (limit - 1) types (term_at types (underlying_of types id)) ≡ nests_within limit types id
one_less zero types id h = absurd (h refl)
one_less (suc n) types id h = let is : suc n - 1 ≡ n = omega arith in ap (λ m. nest_below m types (term_at types (underlying_of types id))) is

pub anew : (limit : ℕ) (types : Table) (id : TypeId) (t : TypeTerm) (r : Result Bool NoMemory) → (limit ≡ 0 → ⊥) → Some t ≡ term_at types (underlying_of types id)
    → IfOk r (λ b. b ≡ nest_below (limit - 1) types (Some t)) → IfOk r (λ b. b ≡ nests_within limit types id)
anew limit types id t r some is h = IfOk-weaker r (λ b. b ≡ nest_below (limit - 1) types (Some t)) (λ b. b ≡ nests_within limit types id) (λ b e. e ∙ ap (nest_below (limit - 1) types) is ∙ one_less limit types id some) h

-- two lists of parts, of which the first is nested
pub anew_both : (limit : ℕ) (types : Table) (id : TypeId) (signature : Signature) (r : Result Bool NoMemory) (first : Bool) (params results : List TypeId) → (limit ≡ 0 → ⊥)
    → Some (Func signature) ≡ term_at types (underlying_of types id) → params ≡ signature.params → results ≡ signature.results
    → first ≡ list_all (nests_as_part (limit - 1) (nests_within (limit - 1) types) types) params → first ≡ true
    → IfOk r (λ b. b ≡ list_all (nests_as_part (limit - 1) (nests_within (limit - 1) types) types) results) → IfOk r (λ b. b ≡ nests_within limit types id)
anew_both limit types id signature r first params results some is same_params same_results gives first_true h =
    let part : TypeId → Bool = nests_as_part (limit - 1) (nests_within (limit - 1) types) types in
    anew limit types id (Func signature) r some is
    (IfOk-weaker r (λ b. b ≡ list_all part results) (λ b. b ≡ (list_all part signature.params && list_all part signature.results))
    (λ b e. e ∙ ap (list_all part) same_results ∙ ap (λ p. p && list_all part signature.results) (sym first_true ∙ gives ∙ ap (list_all part) same_params)) h)

-- what is made of each item, one item more
pub mapped_turn : {X Y : Type 0} (f : X → Y) (old now next : List Y) (xs : List X) (i : ℕ) (d : X) → i < length xs → now ≡ old ++ map f (take i xs)
    → next ≡ now ++ f (get_or xs i d) ∷ [] → next ≡ old ++ map f (take (i + 1) xs)
mapped_turn f old now next xs i d h before e =
    e ∙ ap (λ l. l ++ f (get_or xs i d) ∷ []) before ∙ append_assoc old (map f (take i xs)) (f (get_or xs i d) ∷ [])
    ∙ ap (λ l. old ++ l) (sym (ap (map f) (take_at_read xs i d h).1 ∙ map-append f (take i xs) (get_or xs i d ∷ [])))
