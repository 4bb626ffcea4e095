-- A directory lies in one other at most, and one go.mod counts for it.
use Rattle.std.proofs.Common.{◌≡◌, ◌⊎◌, inl, inr, ◌<◌, ℕ, true≢false, List, take, Option, Some, None, Result, codes, refl, sym, ap, subst, ◌∙◌, arith}
use Rattle.go_base.specs.Devices.{Tree}
use Rattle.go_base.specs.declared.target.Target.{Target}
use Rattle.go_base.specs.declared.target.Target.TheVariants as targets
use Rattle.std.proofs.lemmas.Slice.Eq.{bytes_eq-Decides}
use Rattle.go_finding.specs.Modules.{Broken, Module, own_module, Governs, Own, Nowhere, Above, IsTargetDir}
use Rattle.go_finding.specs.Paths.{LiesIn, IsLastSlash, HasNoSlash}

order : (i j : ℕ) → (i < j) ⊎ ((j < i) ⊎ (i ≡ j))
order i j = grind arith

last_slash : (path : List ℕ) (i j : ℕ) → IsLastSlash path i → IsLastSlash path j → i ≡ j
last_slash path i j h k = by (order i j)
  where
    by : (i < j) ⊎ ((j < i) ⊎ (i ≡ j)) → i ≡ j
    by (inl less) = absurd (h.last j less k.within k.slash)
    by (inr (inl more)) = absurd (k.last i more h.within h.slash)
    by (inr (inr e)) = e

abbrev Above_is : List ℕ → List ℕ → Type 0
Above_is path dir = ((at : ℕ) × IsLastSlash path at × (dir ≡ take at path)) ⊎ (HasNoSlash path × (dir ≡ codes "."))

one_above : (path a b : List ℕ) → Above_is path a → Above_is path b → a ≡ b
one_above path a b (inl h) (inl k) = h.2 ∙ ap (λ (at : ℕ). take at path) (last_slash path h.0 k.0 h.1 k.1) ∙ sym k.2
one_above path a b (inl h) (inr k) = absurd (k.0 h.0 h.1.within h.1.slash)
one_above path a b (inr h) (inl k) = absurd (h.0 k.0 k.1.within k.1.slash)
one_above path a b (inr h) (inr k) = h.1 ∙ sym k.1

pub lies_in_one : (path : List ℕ) (a b : Option (List ℕ)) → LiesIn path a → LiesIn path b → a ≡ b
lies_in_one path None None h k = refl
lies_in_one path None (Some b) h k = absurd (true≢false (sym h ∙ k.0))
lies_in_one path (Some a) None h k = absurd (true≢false (sym k ∙ h.0))
lies_in_one path (Some a) (Some b) h k = ap Some (one_above path a b h.1 k.1)

abbrev Said : Type 0
Said = Option (Result Module Broken)

some_same : {A : Type 0} (o : Option A) (a b : A) → o ≡ Some a → o ≡ Some b → a ≡ b
some_same o a b p q = cc (p, q)

never_none : {A : Type 0} {P : Type 0} (o : Option A) (a : A) → o ≡ None → o ≡ Some a → P
never_none o a p q = absurd (cc (p, q))

pub one_module : (files : Tree) (dir : List ℕ) (a b : Said) → Governs files dir a → Governs files dir b → a ≡ b
one_module files _ _ _ (Own dir said e) (Own _ other f) = ap Some (some_same (own_module files dir) said other e f)
one_module files _ _ _ (Own dir said e) (Nowhere _ f last) = never_none (own_module files dir) said f e
one_module files _ _ _ (Own dir said e) (Above _ above other f next h) = never_none (own_module files dir) said f e
one_module files _ _ _ (Nowhere dir f last) (Own _ said e) = never_none (own_module files dir) said f e
one_module files _ _ _ (Nowhere dir f last) (Nowhere _ g end) = refl
one_module files _ _ b (Nowhere dir f last) (Above _ above other g next h) = absurd (clash (lies_in_one dir None (Some above) last next))
  where
    clash : None ≡ Some above → ⊥
    clash e = cc e
one_module files _ a _ (Above dir above said f next h) (Own _ other e) = never_none (own_module files dir) other f e
one_module files _ a _ (Above dir above said f next h) (Nowhere _ g last) = absurd (clash (lies_in_one dir None (Some above) last next))
  where
    clash : None ≡ Some above → ⊥
    clash e = cc e
one_module files _ a b (Above dir above said f next h) (Above _ other more g on k) =
    one_module files above said more h (subst (λ (d : List ℕ). Governs files d more) (some_same (Some other) other above refl (sym (ap (λ o. o) (lies_in_one dir (Some above) (Some other) next on)))) k)

pub one_target_dir : (target : Target) (a b : List ℕ) → IsTargetDir target a → IsTargetDir target b → a ≡ b
one_target_dir (targets.File path) a b (inl h) (inl k) = some_same (Some b) a b (sym (lies_in_one path (Some a) (Some b) h k)) refl
one_target_dir (targets.File path) a b (inl h) (inr k) = absurd (true≢false (sym ((bytes_eq-Decides path (codes ".")).1 k.0) ∙ h.0))
one_target_dir (targets.File path) a b (inr h) (inl k) = absurd (true≢false (sym ((bytes_eq-Decides path (codes ".")).1 h.0) ∙ k.0))
one_target_dir (targets.File path) a b (inr h) (inr k) = h.1 ∙ sym k.1
one_target_dir (targets.Dir path) a b h k = h ∙ sym k
