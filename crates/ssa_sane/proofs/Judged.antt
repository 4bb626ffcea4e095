-- The lists of the registers that are available in a sane function.
use Rattle.std.proofs.Common.{◌≡◌, ◌⊎◌, ◌↔◌, ◌<◌, ℕ, zero, suc, List, [], ◌∷◌, true, false, Some, Contains, refl, sym, ◌∙◌, subst, inl, inr, length, arith}
use Rattle.std.specs.Prelude.{slice_get}
use Rattle.std.specs.List.Sorted.{IsStrictlyIncreasing}
use Rattle.std.proofs.lemmas.Option.{slice_get_within}
use Rattle.cg_solve.specs.declared.table.Table.{Table}
use Rattle.ssa_ir.specs.declared.code.Function.{Function}
use Rattle.ssa_sane.specs.Checks.{IsCheck, AreRightBelow}
use Rattle.ssa_sane.specs.Places.{registers_at, CountsAt, AreNowhere}
use Rattle.ssa_sane.specs.Sane.{IsAvailable, ListsAvailable}
use Rattle.ssa_sane.specs.Trees.{place_at, AreDominators}
use Rattle.ssa_sane.specs.declared.places.Places.{Places}
use Rattle.ssa_sane.proofs.Dominance.{enters_placed}
use Rattle.ssa_sane.proofs.Exact.{IsReached, walk_reached, open_available}
use Rattle.ssa_sane.proofs.Listed.{registers_rise, registers_iff, counts_at}

some_within : {A : Type 0} (xs : List A) (i : ℕ) → i < length xs → (x : A) × (slice_get xs i ≡ Some x)
some_within [] i h = absurd (omega arith)
some_within (x ∷ xs) zero h = (x, refl)
some_within (x ∷ xs) (suc i) h = some_within xs i (omega arith)

module _ (f : Function) (preds : Table ℕ) (places : Places) (check : IsCheck f preds places) (right : AreRightBelow f (length f.blocks)) where
  reached : (b : ℕ) → b < length f.blocks → IsReached f b
  reached b l =
      let block = some_within f.blocks b l in
      let r = right b block.0 l block.1 in
      walk_reached f check.recovers b r.itself.reached.0 r.itself.reached.1

  pub counts_right : (b : ℕ) → b < length f.blocks → CountsAt places check.totals b
  counts_right b l = counts_at f places check.totals check.are b l (by check.are.either)
    where
      by : AreDominators f check.totals.own.items places.tree.places.items ⊎ AreNowhere f places → 0 < (place_at places.tree.places.items b).depth ⊎ AreNowhere f places
      by (inl dominators) = inl (let d = enters_placed f check.totals.own.items places.tree.places.items dominators (λ from. false) true b (omega arith) (reached b l) in omega arith)
      by (inr none) = inr none

  pub lists_right : (lists : List (List ℕ)) → length lists ≡ length f.blocks → ((b : ℕ) → b < length f.blocks → slice_get lists b ≡ Some (registers_at places b)) → ListsAvailable f lists
  lists_right lists size each = record {
    counts = size;
    ascend = λ b list e. subst IsStrictlyIncreasing (same b list e) (registers_rise places check.are.ordered b);
    exact = λ b list e register. exact b list e register;
  }
    where
      within : (b : ℕ) (list : List ℕ) → slice_get lists b ≡ Some list → b < length f.blocks
      within b list e = let l = slice_get_within lists b list e in omega arith

      same : (b : ℕ) (list : List ℕ) → slice_get lists b ≡ Some list → registers_at places b ≡ list
      same b list e = let eq : Some (registers_at places b) ≡ Some list = sym (each b (within b list e)) ∙ e in cc

      exact : (b : ℕ) (list : List ℕ) → slice_get lists b ≡ Some list → (register : ℕ) → Contains list register ↔ IsAvailable f b 0 register
      exact b list e register =
          let l = within b list e in
          let is = registers_iff places check.are.ordered b register in
          let open_is = open_available f check.recovers places check.totals check.are register b (omega arith) (reached b l) in (
            λ c. open_is.0 (is.1 (subst (λ (xs : List ℕ). Contains xs register) (sym (same b list e)) c)),
            λ a. subst (λ (xs : List ℕ). Contains xs register) (same b list e) (is.0 (open_is.1 a)),
          )
