-- What is summed up of members.
use Rattle.std.proofs.Common.{◌≡◌, ℕ, zero, suc, ◌+◌, ◌<◌, Bool, List, [], ◌∷◌, ◌++◌, length, take, refl, sym, ap, ◌∙◌, arith, Option, Some, append-nil, ◌-◌}
use Rattle.std.specs.List.{flat_map}
use Rattle.std.proofs.Math.ListN.{get_or}
use Rattle.std.proofs.lemmas.Grind.{flat_map-append, take_at_read}
use Rattle.go_base.specs.declared.ids.TypeId.{TypeId}
use Rattle.go_type.specs.declared.members.Wanted.{Wanted}
use Rattle.go_type.specs.Selector.{Place}
use Rattle.go_type.specs.declared.term.Field.{Field}
use Rattle.go_type.specs.declared.term.TypeTerm.{TypeTerm}
use Rattle.go_type.specs.declared.term.TypeTerm.TheVariants.{Struct}
use Rattle.go_type.specs.declared.members.Member.{Member}
use Rattle.go_type.specs.declared.sights.Sight.{Sight}
use Rattle.go_type.specs.declared.sights.Sight.TheVariants as sight
use Rattle.go_type.specs.Selector.{flat_map_from, selected_in, selected_at, NoneAbove, members_below, embedded_from, embedded_of, embedded_in}
use Rattle.go_type.specs.Sights.{summary, both_sights, Sees, fields_in}
use Rattle.go_type.specs.Table.{Table, term_at, underlying_of}
use Rattle.go_type.proofs.Numbered.{step}

pub summary_append : (xs ys : List Member) → summary (xs ++ ys) ≡ both_sights (summary xs) (summary ys)
summary_append [] ys = refl
summary_append (x ∷ []) [] = refl
summary_append (x ∷ []) (y ∷ []) = refl
summary_append (x ∷ []) (y ∷ z ∷ ys) = refl
summary_append (x ∷ w ∷ xs) [] = refl
summary_append (x ∷ w ∷ xs) (y ∷ []) = refl
summary_append (x ∷ w ∷ xs) (y ∷ z ∷ ys) = refl

-- one more turn of a loop that sums up what it makes of each item and its number
pub numbered_turn : {X Y : Type 0} (f : ℕ → X → List Y) (g : Y → List Member) (xs : List X) (i : ℕ) (x : X) (now next one : Sight) → i < length xs
    → now ≡ summary (flat_map g (flat_map_from f 0 (take i xs))) → x ≡ get_or xs i x → one ≡ summary (flat_map g (f i x)) → next ≡ both_sights now one
    → next ≡ summary (flat_map g (flat_map_from f 0 (take (i + 1) xs)))
numbered_turn f g xs i x now next one less before is here e =
    e ∙ (λ j. both_sights (before j) (here j)) ∙ sym (summary_append (flat_map g (flat_map_from f 0 (take i xs))) (flat_map g (f i x)))
    ∙ ap summary (sym (flat_map-append g (flat_map_from f 0 (take i xs)) (f i x)))
    ∙ ap (λ l. summary (flat_map g l)) (step f [] (flat_map_from f 0 (take i xs)) (flat_map_from f 0 (take i xs) ++ f i x) xs i x less refl is refl)

pub plain_turn : {X : Type 0} (f : ℕ → X → List Member) (xs : List X) (i : ℕ) (x : X) (now next one : Sight) → i < length xs
    → now ≡ summary (flat_map_from f 0 (take i xs)) → x ≡ get_or xs i x → one ≡ summary (f i x) → next ≡ both_sights now one
    → next ≡ summary (flat_map_from f 0 (take (i + 1) xs))
plain_turn f xs i x now next one less before is here e =
    e ∙ (λ j. both_sights (before j) (here j)) ∙ sym (summary_append (flat_map_from f 0 (take i xs)) (f i x))
    ∙ ap summary (step f [] (flat_map_from f 0 (take i xs)) (flat_map_from f 0 (take i xs) ++ f i x) xs i x less refl is refl)

-- what is summed up at the least depth
pub sees_first : (types : Table) (wanted : Wanted) (a : TypeId) (n : ℕ) (found : Sight) → found ≡ summary (selected_at n types wanted a)
    → (found ≡ sight.Nothing → ⊥) → NoneAbove n types wanted a → Sees types a wanted found
sees_first types wanted a n found is some none = by found (selected_at n types wanted a) refl is some
  where
    by : (found : Sight) (members : List Member) → selected_at n types wanted a ≡ members → found ≡ summary members → (found ≡ sight.Nothing → ⊥) → Sees types a wanted found
    by sight.Nothing members e h some = absurd (some refl)
    by (sight.One kind of usable) [] e h some = absurd cc
    by (sight.One kind of usable) (x ∷ []) e h some = (x, ((n, e, none), cc, cc, cc))
    by (sight.One kind of usable) (x ∷ y ∷ rest) e h some = absurd cc
    by sight.Several [] e h some = absurd cc
    by sight.Several (x ∷ []) e h some = absurd cc
    by sight.Several (x ∷ y ∷ rest) e h some = (x.path, (y.path, (n, (x, (y, (rest, (e, refl, refl, none)))))))

pub none_summed : (xs : List Member) → sight.Nothing ≡ summary xs → xs ≡ []
none_summed [] h = refl
none_summed (x ∷ []) h = cc
none_summed (x ∷ y ∷ rest) h = cc

pub listed_turn : {X : Type 0} (f : X → List Member) (xs : List X) (i : ℕ) (d x : X) (now next one : Sight) → i < length xs
    → now ≡ summary (flat_map f (take i xs)) → x ≡ get_or xs i d → one ≡ summary (f x) → next ≡ both_sights now one
    → next ≡ summary (flat_map f (take (i + 1) xs))
listed_turn f xs i d x now next one less before is here e =
    let longer : take (i + 1) xs ≡ take i xs ++ x ∷ [] = (take_at_read xs i d less).1 ∙ sym (ap (λ y. take i xs ++ y ∷ []) is) in
    e ∙ (λ j. both_sights (before j) (here j)) ∙ sym (summary_append (flat_map f (take i xs)) (f x))
    ∙ ap summary (sym (flat_map-append f (take i xs) (x ∷ []) ∙ ap (λ l. flat_map f (take i xs) ++ l) (append-nil (f x))))
    ∙ ap (λ l. summary (flat_map f l)) (sym longer)

-- ---- by depth

module _ (types : Table) (wanted : Wanted) (of : TypeId) (path : List ℕ) (indirect : Bool) where
  abbrev there : Place
  there = record { of = of; path = path; indirect = indirect }

  pub zero_below : (depth : ℕ) → depth ≡ 0 → members_below depth types wanted there ≡ selected_in types wanted there
  unfolding members_below
  zero_below depth h = ap (λ d. members_below d types wanted there) h

  fields_embedded : (t : Option TypeTerm) → embedded_from types path indirect (fields_in t) ≡ embedded_of types path indirect t
  fields_embedded (Some (Struct fields)) = refl
  fields_embedded _ = refl

  deeper : (depth : ℕ) → (depth ≡ 0 → ⊥) → flat_map (members_below (depth - 1) types wanted) (embedded_in types there) ≡ members_below depth types wanted there
  unfolding members_below
  deeper zero h = absurd (h refl)
  deeper (suc n) h = let is : suc n - 1 ≡ n = omega arith in ap (λ d. flat_map (members_below d types wanted) (embedded_in types there)) is

  pub next_below : (depth : ℕ) (r : Sight) (fields : List Field) → (depth ≡ 0 → ⊥) → fields ≡ fields_in (term_at types (underlying_of types of))
      → r ≡ summary (flat_map (members_below (depth - 1) types wanted) (embedded_from types path indirect fields)) → r ≡ summary (members_below depth types wanted there)
  next_below depth r fields h is e =
      e ∙ ap (λ l. summary (flat_map (members_below (depth - 1) types wanted) l)) (ap (embedded_from types path indirect) is ∙ fields_embedded (term_at types (underlying_of types of)))
      ∙ ap summary (deeper depth h)
