use Rattle.std.proofs.Common.{◌≡◌, ℕ, List, Some, slice_get, map, string_bytes, subst, sym, ◌∙◌, ap}
use Rattle.go_base.specs.NameTable.{with_text, place_of, AreDistinct}
use Rattle.go_base.proofs.Texts.{found_place, found_stays, new_place, added, distinct_more, place_holds}
use Rattle.go_base.specs.declared.names.Names.TheInside.{Inside}
use Rattle.go_base.proofs.names.Names.intern.Goals as goal

named_at : (t : List ℕ) (old new : List (List ℕ)) (i : ℕ) → i ≡ place_of t old → new ≡ with_text t old → slice_get new i ≡ Some t
named_at t old new i at is = ap (λ texts. slice_get texts i) is ∙ ap (slice_get (with_text t old)) at ∙ place_holds t old

still_distinct : (t : List ℕ) (a : Inside) (old new : List (List ℕ)) → map string_bytes a.texts.keys ≡ old
    → AreDistinct (map string_bytes a.texts.keys) → new ≡ with_text t old → AreDistinct new
still_distinct t a old new was d is = subst AreDistinct (sym is) (distinct_more t old (subst AreDistinct was d))

pub returns-in-Some-clause-ok : goal.returns-in-Some-clause-ok
returns-in-Some-clause-ok c = rw (← c.self.view_is) (found_place string_bytes c.args.text.now c.self.inside.texts.keys _ c.in-Some.ensures.index)

pub returns-in-Some-clause-held : goal.returns-in-Some-clause-held
returns-in-Some-clause-held c = rw (← c.self.view_is) (found_stays string_bytes c.args.text.now c.self.inside.texts.keys c.in-Some.ensures.found)

pub returns-in-Some-clause-named : goal.returns-in-Some-clause-named
returns-in-Some-clause-named c = named_at c.args.text.now c.args.self.now c.args.self.now _ (returns-in-Some-clause-ok c) (returns-in-Some-clause-held c)

pub returns-clause-ok : goal.returns-clause-ok
returns-clause-ok c =
    rw (← c.self.view_is) (new_place string_bytes c.args.text.now c.self.inside.texts.keys c.in_ok-owned.owned _ c.in_ok-owned.ensures.ok c.in_ok-index.ensures.index)

pub returns-clause-held : goal.returns-clause-held
returns-clause-held c =
    rw (← c.self.view_is) (added string_bytes c.args.text.now c.self.inside.texts.keys c.insert_full.new.self.keys c.in_ok-owned.owned c.in_ok-owned.ensures.ok c.in_default.ensures.found c.in_ok-index.ensures.keys)

pub returns-clause-named : goal.returns-clause-named
returns-clause-named c = named_at c.args.text.now c.args.self.now _ _ (returns-clause-ok c) (returns-clause-held c)

pub returns-clause-distinct : goal.returns-clause-distinct
returns-clause-distinct c = still_distinct c.args.text.now c.self.inside c.args.self.now _ c.self.view_is c.self.invariant (returns-clause-held c)

pub invariant_of-self-2 : goal.invariant_of-self-2
invariant_of-self-2 c = returns-clause-distinct c
