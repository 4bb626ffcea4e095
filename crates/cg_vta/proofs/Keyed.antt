-- Groups, standings and asks by their places.
use Rattle.std.proofs.Common.{◌≡◌, ℕ, true, List, Option, Some, None, sym, ap, ◌∙◌, arith}
use Rattle.std.specs.Prelude.{IfSome, is_some}
use Rattle.std.specs.List.{list_any, position}
use Rattle.cg_nodes.specs.contracts.nodes.GroupPartialEq.TheImpl as same_group
use Rattle.cg_nodes.specs.contracts.nodes.GroupEq.TheImpl.Laws as group_laws
use Rattle.cg_nodes.specs.declared.nodes.Group.{Group}
use Rattle.cg_nodes.specs.declared.nodes.Group.TheVariants as group_of
use Rattle.cg_nodes.specs.declared.nodes.Selector.{Selector}
use Rattle.cg_numbers.specs.Numbered.{IsAt}
use Rattle.cg_sets.proofs.Keys.{found_some, none_any, not_found}
use Rattle.cg_vta.specs.contracts.goals.StandingPartialEq.TheImpl as same_standing
use Rattle.cg_vta.specs.contracts.goals.StandingEq.TheImpl.Laws as standing_laws
use Rattle.cg_vta.specs.declared.goals.Standing.{Standing}

selected_parts : (a b c d e f : ℕ) → same_group.ghosts.eq (group_of.Selected (record { of = record { number = a }; name = record { number = b }; «package» = c })) (group_of.Selected (record { of = record { number = d }; name = record { number = e }; «package» = f })) ≡ true → (a ≡ d) × (b ≡ e) × (c ≡ f)
selected_parts a b c d e f h = search arith

signed_parts : (a b : ℕ) → same_group.ghosts.eq (group_of.Signed (record { number = a })) (group_of.Signed (record { number = b })) ≡ true → a ≡ b
signed_parts a b h = search arith

selected_signed : (s : Selector) (a : ℕ) → same_group.ghosts.eq (group_of.Selected s) (group_of.Signed (record { number = a })) ≡ true → ⊥
selected_signed s a h = search arith

signed_selected : (s : Selector) (a : ℕ) → same_group.ghosts.eq (group_of.Signed (record { number = a })) (group_of.Selected s) ≡ true → ⊥
signed_selected s a h = search arith

pub group_same : (x y : Group) → same_group.ghosts.eq x y ≡ true → x ≡ y
group_same (group_of.Selected s) (group_of.Selected t) h =
    let r = selected_parts s.of.number s.name.number s.«package» t.of.number t.name.number t.«package» h in
    λ i. group_of.Selected (record { of = record { number = r.0 i }; name = record { number = r.1 i }; «package» = r.2 i })
group_same (group_of.Signed a) (group_of.Signed b) h = let r = signed_parts a.number b.number h in λ i. group_of.Signed (record { number = r i })
group_same (group_of.Selected s) (group_of.Signed a) h = absurd (selected_signed s a.number h)
group_same (group_of.Signed a) (group_of.Selected s) h = absurd (signed_selected s a.number h)

standing_parts : (a b c d : ℕ) → same_standing.ghosts.eq (record { group = a; value = b }) (record { group = c; value = d }) ≡ true → (a ≡ c) × (b ≡ d)
standing_parts a b c d h = search arith

pub standing_same : (x y : Standing) → same_standing.ghosts.eq x y ≡ true → x ≡ y
standing_same x y h = let r = standing_parts x.group x.value y.group y.value h in λ i. record { group = r.0 i; value = r.1 i }

module _ (xs : List Group) (k : Group) (o : Option ℕ) where
  pub group_found : o ≡ position (same_group.ghosts.eq k) xs → IfSome o (λ i. IsAt xs i k)
  group_found h = found_some same_group.ghosts.eq group_same xs k o h

  pub group_none : is_some o ≡ list_any (same_group.ghosts.eq k) xs → o ≡ None → (i : ℕ) → IsAt xs i k → ⊥
  group_none h e = not_found same_group.ghosts.eq group_laws.laws-law.refl xs k (none_any o (list_any (same_group.ghosts.eq k) xs) h e)

module _ (xs : List Standing) (k : Standing) (o : Option ℕ) where
  pub standing_found : o ≡ position (same_standing.ghosts.eq k) xs → IfSome o (λ i. IsAt xs i k)
  standing_found h = found_some same_standing.ghosts.eq standing_same xs k o h

  pub standing_none : is_some o ≡ list_any (same_standing.ghosts.eq k) xs → o ≡ None → (i : ℕ) → IsAt xs i k → ⊥
  standing_none h e = not_found same_standing.ghosts.eq standing_laws.laws-law.refl xs k (none_any o (list_any (same_standing.ghosts.eq k) xs) h e)

pub standing_stored : (xs : List Standing) (i : ℕ) (x k : Standing) → IsAt xs i k → same_standing.ghosts.eq x k ≡ true → IsAt xs i x
standing_stored xs i x k at h = at ∙ ap Some (sym (standing_same x k h))
