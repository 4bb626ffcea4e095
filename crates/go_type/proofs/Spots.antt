-- Spots and the places that they stand for.
use Rattle.std.proofs.Common.{◌≡◌, ℕ, suc, ◌+◌, ◌<◌, List, [], ◌∷◌, ◌++◌, map, cond, Result, Ok, Err, OnOk, reverse, take, length, Bool, ◌||◌, Option, Some, None, slice_get, refl, sym, ap, ◌∙◌, arith, append_assoc, append-nil}
use Rattle.std.specs.List.{flat_map, list_any}
use Rattle.std.proofs.Math.ListN.{get_or}
use Rattle.std.proofs.lemmas.List.{map-append, reverse-append}
use Rattle.std.proofs.lemmas.Grind.{take_at_read, flat_map-append}
use Rattle.go_base.specs.declared.ids.TypeId.{TypeId}
use Rattle.go_type.specs.declared.members.Spot.{Spot}
use Rattle.go_type.specs.declared.members.Found.{Found}
use Rattle.go_type.specs.declared.members.Member.{Member}
use Rattle.go_type.specs.declared.members.Wanted.{Wanted}
use Rattle.go_type.specs.declared.methods.MethodEntry.{MethodEntry}
use Rattle.go_type.specs.declared.methods.SelectError.TheVariants as error
use Rattle.go_type.specs.declared.term.TypeTerm.{TypeTerm}
use Rattle.go_type.specs.Same.{same_id}
use Rattle.go_type.specs.Levels.{StandFor, SeenIn, Thins, path_in, path_of, path_at, place_in, place_at, place_by, member_by}
use Rattle.go_type.specs.Selector.{Place, IsFirst, flat_map_from, embedded_in, selected_in, method_named, members_named}
use Rattle.go_type.specs.Table.{Table, term_at, definition_at, underlying_of}
use Rattle.go_type.proofs.Stands.{stand_next, seen_more, inserted}

-- what is made of the places of a level
module _ {Y : Type 0} (f : Place → List Y) (above : List (List Spot)) (level : List Spot) where
  rest_of_level : (rest : List Spot) (n : ℕ) → ((k : ℕ) → slice_get level (n + k) ≡ slice_get rest k)
      → flat_map_from (λ i spot. f (place_at (path_at above level) i spot)) n rest ≡ flat_map f (map (place_in above) rest)
  rest_of_level [] n at = refl
  rest_of_level (spot ∷ rest) n at =
      let index : n + 0 ≡ n = omega arith in
      let here : slice_get level n ≡ Some spot = sym (ap (slice_get level) index) ∙ at 0 in
      (λ i. f (record { of = spot.of; path = path_in (path_of above) (here i); indirect = spot.indirect }) ++ flat_map_from (λ i spot. f (place_at (path_at above level) i spot)) (n + 1) rest)
      ∙ ap (λ l. f (place_in above spot) ++ l) (rest_of_level rest (n + 1) (λ k. let next : n + 1 + k ≡ n + suc k = omega arith in ap (slice_get level) next ∙ at (suc k)))

  pub of_level : flat_map_from (λ i spot. f (place_at (path_at above level) i spot)) 0 level ≡ flat_map f (map (place_in above) level)
  of_level = rest_of_level level 0 (λ k. let is : 0 + k ≡ k = omega arith in ap (slice_get level) is)

-- one level further
pub next_stands : (types : Table) (a : TypeId) (n : ℕ) (above longer : List (List Spot)) (spots next kept : List Spot) (seen more : List TypeId)
    → StandFor types a n (map (place_in (reverse above)) spots) seen → SeenIn (map (place_in (reverse above)) spots) seen more
    → map (place_by (path_at (reverse above) spots)) next ≡ flat_map_from (λ i spot. embedded_in types (place_at (path_at (reverse above) spots) i spot)) 0 spots
    → Thins types more (map (place_by (path_at (reverse above) spots)) next) (map (place_by (path_at (reverse above) spots)) kept)
    → longer ≡ above ++ spots ∷ [] → StandFor types a (n + 1) (map (place_in (reverse longer)) kept) more
next_stands types a n above longer spots next kept seen more stand sees is thins e =
    let back : reverse longer ≡ spots ∷ reverse above = ap reverse e ∙ reverse-append above (spots ∷ []) in
    rw back (stand_next types a n (map (place_in (reverse above)) spots) (map (place_by (path_at (reverse above) spots)) next) (map (place_in (spots ∷ reverse above)) kept) seen more
    stand sees (is ∙ of_level (embedded_in types) (reverse above) spots) thins)

-- a step of a path
pub path_step : (above rest : List (List Spot)) (level : List Spot) (here : Spot) (was steps more : List ℕ) → above ≡ rest ++ level ∷ []
    → was ≡ path_in (path_of (reverse above)) (Some here) ++ reverse steps → more ≡ steps ++ here.number ∷ []
    → was ≡ path_in (path_of (reverse rest)) (slice_get level here.from) ++ reverse more
path_step above rest level here was steps more e is longer =
    let back : reverse above ≡ level ∷ reverse rest = ap reverse e ∙ reverse-append rest (level ∷ []) in
    let turned : reverse more ≡ here.number ∷ reverse steps = ap reverse longer ∙ reverse-append steps (here.number ∷ []) in
    is ∙ ap (λ l. path_of l here ++ reverse steps) back ∙ append_assoc (path_in (path_of (reverse rest)) (slice_get level here.from)) (here.number ∷ []) (reverse steps)
    ∙ ap (λ l. path_in (path_of (reverse rest)) (slice_get level here.from) ++ l) (sym turned)

pub path_start : (above : List (List Spot)) (spot : Option Spot) (steps : List ℕ) → above ≡ [] → path_in (path_of (reverse above)) spot ++ reverse steps ≡ reverse steps
path_start above None steps e = refl
path_start above (Some spot) steps e = ap (λ l. path_of (reverse l) spot ++ reverse steps) e

-- one more turn of a loop that adds what it makes of each
pub each_turn : {X Y : Type 0} (f : X → List Y) (old now next : List Y) (xs : List X) (i : ℕ) (d : X) → i < length xs → now ≡ old ++ flat_map f (take i xs)
    → next ≡ now ++ f (get_or xs i d) → next ≡ old ++ flat_map f (take (i + 1) xs)
each_turn f old now next xs i d h before e =
    e ∙ ap (λ l. l ++ f (get_or xs i d)) before ∙ append_assoc old (flat_map f (take i xs)) (f (get_or xs i d))
    ∙ ap (λ l. old ++ l) (sym (ap (flat_map f) (take_at_read xs i d h).1 ∙ flat_map-append f (take i xs) (get_or xs i d ∷ []) ∙ ap (λ l. flat_map f (take i xs) ++ l) (append-nil (f (get_or xs i d)))))

-- one more item, which stands for something
pub one_longer : {X Y : Type 0} (g : X → Y) (old new : List X) (x : X) (ys : List Y) → new ≡ old ++ x ∷ [] → ys ≡ g x ∷ [] → map g new ≡ map g old ++ ys
one_longer g old new x ys e is = ap (map g) e ∙ map-append g old (x ∷ []) ∙ ap (λ l. map g old ++ l) (sym is)

-- what is selected in a type are its methods and then the members of its term
pub both_added : {A E : Type 0} (r : Result A E) (types : Table) (wanted : Wanted) (place : Place) (old mid new named : List Member) (methods : List MethodEntry) (t : Option TypeTerm)
    → methods ≡ (definition_at types place.of).methods → mid ≡ old ++ flat_map (method_named wanted place.path place.indirect) methods
    → t ≡ term_at types (underlying_of types place.of) → named ≡ members_named wanted place.path place.indirect t
    → OnOk r (new ≡ mid ++ named) → OnOk r (new ≡ old ++ selected_in types wanted place)
both_added (Ok x) types wanted place old mid new named methods t own first term is e =
    e ∙ (λ i. first i ++ is i) ∙ append_assoc old (flat_map (method_named wanted place.path place.indirect) methods) (members_named wanted place.path place.indirect t)
    ∙ (λ i. old ++ (flat_map (method_named wanted place.path place.indirect) (own i) ++ members_named wanted place.path place.indirect (term i)))
both_added (Err x) types wanted place old mid new named methods t own first term is e = e

-- one more type is seen
pub seen_turn : (above : List (List Spot)) (spots : List Spot) (i : ℕ) (d : Spot) (old mid new : List TypeId) → i < length spots
    → SeenIn (map (place_in above) (take i spots)) old mid → new ≡ cond (list_any (same_id (get_or spots i d).of) mid) mid (mid ++ (get_or spots i d).of ∷ [])
    → SeenIn (map (place_in above) (take (i + 1) spots)) old new
seen_turn above spots i d old mid new h sees is =
    let longer : map (place_in above) (take (i + 1) spots) ≡ map (place_in above) (take i spots) ++ place_in above (get_or spots i d) ∷ [] =
    ap (map (place_in above)) (take_at_read spots i d h).1 ∙ map-append (place_in above) (take i spots) (get_or spots i d ∷ []) in
    rw longer (seen_more (map (place_in above) (take i spots)) old mid new (place_in above (get_or spots i d)) sees (λ id at. inserted mid new (get_or spots i d).of id is at))

-- what is found in a level
pub found_all : (types : Table) (wanted : Wanted) (above : List (List Spot)) (spots slice : List Spot) (found : List Found) → slice ≡ spots
    → ((paths : ℕ → List ℕ) → map (member_by paths) found ≡ flat_map_from (λ i spot. selected_in types wanted (place_at paths i spot)) 0 slice)
    → map (member_by (path_at above spots)) found ≡ flat_map (selected_in types wanted) (map (place_in above) spots)
found_all types wanted above spots slice found is finds =
    finds (path_at above spots) ∙ ap (flat_map_from (λ i spot. selected_in types wanted (place_at (path_at above spots) i spot)) 0) is ∙ of_level (selected_in types wanted) above spots

pub any_place : (p : TypeId → Bool) (above : List (List Spot)) (spots : List Spot) → list_any (λ (spot : Spot). p spot.of) spots ≡ list_any (λ (place : Place). p place.of) (map (place_in above) spots)
any_place p above [] = refl
any_place p above (spot ∷ spots) = ap (λ b. p spot.of || b) (any_place p above spots)

pub two_first : (g : Found → Member) (found : List Found) (d e : Found) (first second : Member) → 0 < length found → (length found ≡ 1 → ⊥) → first ≡ g (get_or found 0 d) → second ≡ g (get_or found 1 e)
    → IsFirst (map g found) (Err (error.Ambiguous first.path second.path))
two_first g [] d e first second some more is also = absurd (omega arith)
two_first g (x ∷ []) d e first second some more is also = absurd (more refl)
two_first g (x ∷ y ∷ rest) d e first second some more is also =
    (g x, (g y, (map g rest, (refl, ap (λ (m : Member). m.path) (sym is), ap (λ (m : Member). m.path) (sym also)))))
