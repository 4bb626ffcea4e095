use Rattle.std.proofs.Common.{◌≡◌, ℕ, ◌<◌, ◌≤◌, length, [], ◌∙◌, ap, sym, true≢false, arith}
use Rattle.go_type.specs.declared.sights.Sight.TheVariants as sight
use Rattle.go_type.specs.Selector.{members_below, is_pointer}
use Rattle.go_type.specs.Sights.{summary}
use Rattle.go_type.specs.Table.{term_at}
use Rattle.go_type.proofs.Selections.{none_at_all, none_more}
use Rattle.go_type.proofs.Summaries.{sees_first, none_summed}
use Rattle.go_type.proofs.sights.sight_unaided.Goals as goal
use Rattle.go_type.proofs.sights.sight_unaided.Goals.{in-Nothing, in_default}

deeper : (k n m : ℕ) → k < n → n ≤ m → k < m
deeper k n m h g = omega arith

pub returns-then-not-matches : goal.returns-then-not-matches
returns-then-not-matches c =
    let at = c.sight_below-found.ensures []
    ∙ (λ i. summary (members_below c.depths.depth c.args.types.now c.args.wanted (record { of = c.base-of.ensures i; path = []; indirect = (c.is_pointer_type-indirect.ensures ∙ ap (λ u. is_pointer (term_at c.args.types.now u)) c.underlying.ensures) i }))) in
    let some : c.sight_below-found.result ≡ sight.Nothing → ⊥ =
    elim c.match-matches.branch [ in-Nothing w ↦ λ e. true≢false (sym w.matches-is ∙ c.if-not-matches.true) | in_default w ↦ w.in_default.not-Nothing ] in
    sees_first c.args.types.now c.args.wanted c.args.a c.depths.depth c.sight_below-found.result at some c.depths.invariant

pub depths-preserved : goal.depths-preserved
depths-preserved c =
    let at = c.sight_below-found.ensures []
    ∙ (λ i. summary (members_below c.depths.depth c.args.types.now c.args.wanted (record { of = c.base-of.ensures i; path = []; indirect = (c.is_pointer_type-indirect.ensures ∙ ap (λ u. is_pointer (term_at c.args.types.now u)) c.underlying.ensures) i }))) in
    let none : c.sight_below-found.result ≡ sight.Nothing =
    elim c.match-matches.branch [ in-Nothing w ↦ w.in-Nothing.is | in_default w ↦ absurd (true≢false (sym c.if-not-matches.false ∙ w.matches-is)) ] in
    none_more c.args.types.now c.args.wanted c.args.a c.depths.depth c.depths.invariant (none_summed _ (sym none ∙ at))

pub returns : goal.returns
returns c =
    let all : length c.args.types.now.terms ≤ c.depths.depth = omega (arith, c.len-depth-end.ensures.value) in
    none_at_all c.args.types.now c.len-depth-end.ensures.counts c.args.wanted c.args.a (λ k less. c.depths.invariant k (deeper k _ _ less all))
