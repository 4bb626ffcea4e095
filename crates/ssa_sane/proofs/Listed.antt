-- The list of the registers that are available at the entry of a block.
use Rattle.std.proofs.Common.{◌≡◌, ◌⊎◌, ◌↔◌, ◌<◌, ◌≤◌, ◌+◌, ◌||◌, ℕ, zero, suc, List, [], ◌∷◌, Bool, true, false, cond, Contains, Option, Some, None, refl, sym, ap, ◌∙◌, subst, inl, inr, length, map, get_or, arith}
use Rattle.std.specs.Prelude.{nat_eq, nat_lt, filter, count_by, if◌then◌else◌}
use Rattle.std.specs.BTreeMap.{IsOrdered, values, keys}
use Rattle.std.specs.List.Sorted.{IsStrictlySortedBy, IsStrictlyIncreasing}
use Rattle.std.specs.Ordering.{nat_cmp}
use Rattle.std.specs.declared.cmp.Ordering.TheVariants.{Less, Equal, Greater}
use Rattle.std.proofs.lemmas.Bool.{cases_lt, false≢true, ltb-true, ne_eqb}
use Rattle.std.proofs.lemmas.List.{length-map, get_or_past}
use Rattle.std.proofs.lemmas.List.Sums.{length-filter, count_by-le-length}
use Rattle.std.proofs.lemmas.Map.Keys.{Less-from_sorted, sorted_tail}
use Rattle.std.proofs.lemmas.Map.Lookups.{exact_unsigned}
use Rattle.std.proofs.lemmas.Cmp.{nat_cmp_total}
use Rattle.std.proofs.lemmas.Map.Views.{btree_map_get_iff}
use Rattle.cg_solve.specs.Lists.{Has}
use Rattle.cg_solve.proofs.Members.{Has-Contains, Contains-Has, Has-map, from_map}
use Rattle.ssa_ir.specs.declared.code.Function.{Function}
use Rattle.ssa_sane.specs.Counts.{is_at, is_start, is_other}
use Rattle.ssa_sane.specs.Homes.{home_of, is_block, IsHome}
use Rattle.ssa_sane.specs.Trees.{nowhere, place_at, own_at, is_above, AreDominators}
use Rattle.ssa_sane.specs.Places.{open_at, has_open, registers_at, CountsAt, ArePlaces, AreNowhere}
use Rattle.ssa_sane.specs.declared.counts.Counts.{Counts}
use Rattle.ssa_sane.specs.declared.homes.Home.{Home}
use Rattle.ssa_sane.specs.declared.homes.Home.TheVariants as home
use Rattle.ssa_sane.specs.declared.places.Places.{Places}
use Rattle.ssa_sane.specs.declared.tree.Place.{Place}
use Rattle.ssa_sane.proofs.Aboves.{above_step, above_once, above_lowest}
use Rattle.ssa_sane.proofs.Counted.{count_cons, count_either, count_none, count_same}
use Rattle.ssa_sane.proofs.Exact.{only_exists}
use Rattle.ssa_sane.proofs.Rising.{Rising}

abbrev Entry : Type 0
Entry = ℕ × Home

-- ---- filtered entries

has_filter : {A : Type 0} (p : A → Bool) (xs : List A) (x : A) → Has xs x → p x ≡ true → Has (filter p xs) x
has_filter p [] x h t = absurd h
has_filter p (y ∷ ys) x h t = by (λ g. has_filter p ys x g t) (p y) refl h
  where
    by : (Has ys x → Has (filter p ys) x) → (b : Bool) → p y ≡ b → (y ≡ x) ⊎ Has ys x → Has (cond b (y ∷ filter p ys) (filter p ys)) x
    by rest true e (inl s) = inl s
    by rest true e (inr g) = inr (rest g)
    by rest false e (inl s) = absurd (false≢true (sym e ∙ (ap p s ∙ t)))
    by rest false e (inr g) = rest g

from_filter : {A : Type 0} (p : A → Bool) (xs : List A) (x : A) → Has (filter p xs) x → Has xs x × (p x ≡ true)
from_filter p [] x h = absurd h
from_filter p (y ∷ ys) x h = by (λ g. from_filter p ys x g) (p y) refl h
  where
    by : (Has (filter p ys) x → Has ys x × (p x ≡ true)) → (b : Bool) → p y ≡ b → Has (cond b (y ∷ filter p ys) (filter p ys)) x → Has (y ∷ ys) x × (p x ≡ true)
    by rest true e (inl s) = (inl s, sym (ap p s) ∙ e)
    by rest true e (inr g) = let r = rest g in (inr r.0, r.1)
    by rest false e g = let r = rest g in (inr r.0, r.1)

-- keys that rise still do after a filter
rising_filter : (p : Entry → Bool) (es : List Entry) → Rising (map (λ e. e.0) es) → Rising (map (λ e. e.0) (filter p es))
rising_filter p [] rising = tt
rising_filter p (e ∷ es) rising = by (p e) (rising_filter p es rising.1)
  where
    by : (b : Bool) → Rising (map (λ e. e.0) (filter p es)) → Rising (map (λ e. e.0) (cond b (e ∷ filter p es) (filter p es)))
    by true rest = ((λ y h. let m = from_map (λ (e : Entry). e.0) (filter p es) y h in rising.0 y (subst (Has (map (λ e. e.0) es)) m.2 (Has-map (λ (e : Entry). e.0) es m.0 (from_filter p es m.0 m.1).0))), rest)
    by false rest = rest

less_of : (a b : ℕ) → nat_cmp a b ≡ Less → a < b
less_of a b h = by (nat_lt a b) (nat_eq a b) refl h
  where
    by : (s t : Bool) → nat_lt a b ≡ s → cond s Less (cond t Equal Greater) ≡ Less → a < b
    by true t e g = ltb-true a b e
    by false true e g = absurd (cc)
    by false false e g = absurd (cc)

ordered_rising : (ks : List ℕ) → IsStrictlySortedBy nat_cmp ks → Rising ks
ordered_rising [] sorted = tt
ordered_rising (k ∷ ks) sorted = (first, ordered_rising ks (sorted_tail nat_cmp k ks sorted))
  where
    first : (y : ℕ) → Has ks y → k < y
    first y h =
        let c = Has-Contains ks y h in
        less_of k y (subst (λ v. nat_cmp k v ≡ Less) c.2 (Less-from_sorted nat_cmp (k ∷ ks) 0 (suc c.0) y sorted (omega arith) (let b = c.1 in omega arith)))

rising_increases : (xs : List ℕ) → Rising xs → (k : ℕ) → k + 1 < length xs → get_or xs k 0 < get_or xs (k + 1) 0
rising_increases [] rising k h = absurd (omega arith)
rising_increases (x ∷ []) rising k h = absurd (omega arith)
rising_increases (x ∷ y ∷ ys) rising zero h =
    let next : zero + 1 ≡ suc zero = omega arith in
    subst (λ j. x < get_or (x ∷ y ∷ ys) j 0) (sym next) (rising.0 y (inl refl))
rising_increases (x ∷ y ∷ ys) rising (suc k) h =
    let next : suc k + 1 ≡ suc (k + 1) = omega arith in
    subst (λ j. get_or (x ∷ y ∷ ys) (suc k) 0 < get_or (x ∷ y ∷ ys) j 0) (sym next) (rising_increases (y ∷ ys) rising.1 k (omega arith))

module _ (places : Places) (ordered : IsOrdered nat_cmp places.homes.map) (block : ℕ) where
  abbrev entries : List Entry
  entries = places.homes.map.entries

  abbrev passes : Entry → Bool
  passes e = open_at places block e.1

  pub registers_rise : IsStrictlyIncreasing (registers_at places block)
  registers_rise k h = rising_increases (registers_at places block) (rising_filter passes entries (ordered_rising (keys places.homes.map) ordered)) k h

  has_some : (register : ℕ) (o : Option Home) → home_of places.homes register ≡ o → has_open places block o ≡ true → Contains (registers_at places block) register
  has_some register (Some home) e t =
      let c = (btree_map_get_iff nat_cmp_total exact_unsigned places.homes.map ordered register home).0 e in
      Has-Contains (registers_at places block) register
      (Has-map (λ (e : Entry). e.0) (filter passes entries) (register, home) (has_filter passes entries (register, home) (Contains-Has entries (register, home) c) t))
  has_some register None e t = absurd (false≢true t)

  some_has : (register : ℕ) → Contains (registers_at places block) register → has_open places block (home_of places.homes register) ≡ true
  some_has register c =
      let m = from_map (λ (e : Entry). e.0) (filter passes entries) register (Contains-Has (registers_at places block) register c) in
      let r = from_filter passes entries m.0 m.1 in
      let e : home_of places.homes m.0.0 ≡ Some m.0.1 = (btree_map_get_iff nat_cmp_total exact_unsigned places.homes.map ordered m.0.0 m.0.1).1 (Has-Contains entries m.0 r.0) in
      subst (λ x. has_open places block (home_of places.homes x) ≡ true) m.2 (ap (has_open places block) e ∙ r.1)

  pub registers_iff : (register : ℕ) → (has_open places block (home_of places.homes register) ≡ true) ↔ Contains (registers_at places block) register
  registers_iff register = (has_some register (home_of places.homes register) refl, some_has register)

-- ---- how many there are

count_map : {A B : Type 0} (g : A → B) (p : B → Bool) (xs : List A) → count_by (λ x. p (g x)) xs ≡ count_by p (map g xs)
count_map g p [] = refl
count_map g p (x ∷ xs) =
    let a = count_cons (λ y. p (g y)) x xs in let b = count_cons p (g x) (map g xs) in let rest = count_map g p xs in omega arith

-- a register is given in one block alone, that stands above
abbrev is_over : List Place → ℕ → Home → Bool
is_over places block (home.Block h) = is_above places h block
is_over places block home.Start = false
is_over places block (home.Several index) = false

abbrev is_early : ℕ → Home → Bool
is_early block home.Start = nat_lt 0 block
is_early block (home.Block h) = false
is_early block (home.Several index) = false

module _ (f : Function) (places : Places) (totals : Counts) (are : ArePlaces f places totals) where
  abbrev n : ℕ
  n = length f.blocks

  abbrev homes : List Home
  homes = values places.homes.map

  abbrev tree : List Place
  tree = places.tree.places.items

  -- a home of a register is among them
  home_found : (home : Home) → Has homes home → (register : ℕ) × (home_of places.homes register ≡ Some home)
  home_found home h =
      let m = from_map (λ (e : Entry). e.1) places.homes.map.entries home h in
      let e = (btree_map_get_iff nat_cmp_total exact_unsigned places.homes.map are.ordered m.0.0 m.0.1).1 (Has-Contains places.homes.map.entries m.0 m.1) in
      (m.0.0, e ∙ ap Some m.2)

  block_exists : (h : ℕ) → Has homes (home.Block h) → h < n
  block_exists h in_homes =
      let r = home_found (home.Block h) in_homes in
      only_exists f r.0 h (subst (IsHome f places.homes.lacking.items n 0 r.0) r.1 (are.homes r.0))

  at_root : count_by (is_at n) homes ≡ 0
  at_root = count_none (is_at n) homes by
    where
      by : (home : Home) → Has homes home → is_at n home ≡ false
      by (home.Block h) g = let l = block_exists h g in ne_eqb h n (omega arith)
      by home.Start g = refl
      by (home.Several index) g = refl

  own_root : own_at totals.own.items n ≡ 0
  own_root = get_or_past totals.own.items n 0 (let s = are.counts.own_size in omega arith)

  -- what is above a block is its parent, or above that
  over_step : (b : ℕ) → 1 < (place_at tree b).depth → count_by (is_over tree b) homes ≡ count_by (is_at (place_at tree b).parent) homes + count_by (is_over tree (place_at tree b).parent) homes
  over_step b placed = count_either (is_at (place_at tree b).parent) (is_over tree (place_at tree b).parent) (is_over tree b) is once homes
    where
      is : (home : Home) → is_over tree b home ≡ (is_at (place_at tree b).parent home || is_over tree (place_at tree b).parent home)
      is (home.Block h) = above_step tree are.tree h b placed
      is home.Start = refl
      is (home.Several index) = refl

      once : (home : Home) → is_at (place_at tree b).parent home ≡ true → is_over tree (place_at tree b).parent home ≡ false
      once (home.Block h) e = above_once tree are.tree h (place_at tree b).parent e
      once home.Start e = absurd (false≢true e)
      once (home.Several index) e = absurd (false≢true e)

  over_lowest : (b : ℕ) → (place_at tree b).depth ≤ 1 → count_by (is_over tree b) homes ≡ 0
  over_lowest b low = count_none (is_over tree b) homes by
    where
      by : (home : Home) → Has homes home → is_over tree b home ≡ false
      by (home.Block h) g = above_lowest tree are.tree h b low
      by home.Start g = refl
      by (home.Several index) g = refl

  module _ (dominators : AreDominators f totals.own.items tree) where
    parent_own : (p : ℕ) → p < n ⊎ (p ≡ n) → own_at totals.own.items p ≡ count_by (is_at p) homes
    parent_own p (inl l) = are.counts.own p l
    parent_own p (inr e) = subst (λ x. own_at totals.own.items x ≡ count_by (is_at x) homes) (sym e) (own_root ∙ sym at_root)

    in_tree : (p : ℕ) → 0 < (place_at tree p).depth → p < n ⊎ (p ≡ n)
    in_tree p some = by (cases_lt p n) (cases_lt n p)
      where
        by : (p < n) ⊎ (n ≤ p) → (n < p) ⊎ (p ≤ n) → p < n ⊎ (p ≡ n)
        by (inl l) c = inl l
        by (inr g) (inr l) = inr (omega arith)
        by (inr g) (inl past) =
            let size = dominators.begun.counted.size in
            let z : (place_at tree p).depth ≡ 0 = ap (λ (q : Place). q.depth) (get_or_past tree p nowhere (omega arith)) in
            absurd (omega arith)

    over_is : (m b : ℕ) → (place_at tree b).depth ≤ m → 0 < (place_at tree b).depth → (place_at tree b).count ≡ count_by (is_over tree b) homes
    over_is zero b low some = absurd (omega arith)
    over_is (suc m) b low some = by (cases_lt 1 (place_at tree b).depth) (λ d. over_is m (place_at tree b).parent (let l = are.tree.falls b d in omega arith) (are.tree.parents b d))
      where
        by : (1 < (place_at tree b).depth) ⊎ ((place_at tree b).depth ≤ 1)
            → (1 < (place_at tree b).depth → (place_at tree (place_at tree b).parent).count ≡ count_by (is_over tree (place_at tree b).parent) homes)
            → (place_at tree b).count ≡ count_by (is_over tree b) homes
        by (inl d) rest =
            let c = dominators.begun.counted.counts b d in
            let s = over_step b d in
            let o = parent_own (place_at tree b).parent (in_tree (place_at tree b).parent (are.tree.parents b d)) in
            let r = rest d in
            omega arith
        by (inr l) rest =
            let e : b ≡ n = dominators.begun.counted.alone b (omega arith) in
            let z : (place_at tree b).count ≡ 0 = ap (λ x. (place_at tree x).count) e ∙ dominators.begun.counted.none in
            z ∙ sym (over_lowest b l)

  over_never : AreNowhere f places → (b : ℕ) → count_by (is_over tree b) homes ≡ 0
  over_never none b = count_none (is_over tree b) homes by
    where
      by : (home : Home) → Has homes home → is_over tree b home ≡ false
      by (home.Block h) g = let r = home_found (home.Block h) g in absurd (false≢true (sym (none.none r.0) ∙ ap is_block r.1))
      by home.Start g = refl
      by (home.Several index) g = refl

  over_total : (b : ℕ) → b < n → 0 < (place_at tree b).depth ⊎ AreNowhere f places → (place_at tree b).count ≡ count_by (is_over tree b) homes
  over_total b l h = by are.either h
    where
      by : AreDominators f totals.own.items tree ⊎ AreNowhere f places → 0 < (place_at tree b).depth ⊎ AreNowhere f places → (place_at tree b).count ≡ count_by (is_over tree b) homes
      by (inl dominators) (inl some) = over_is dominators (place_at tree b).depth b (omega arith) some
      by (inr none) other = none.counts b l ∙ sym (over_never none b)
      by other (inr none) = none.counts b l ∙ sym (over_never none b)

  -- the three kinds together
  kinds : (b : ℕ) → count_by (open_at places b) homes ≡ count_by (is_over tree b) homes + (count_by (is_early b) homes + count_by (is_other places.homes.lacking.items b) homes)
  kinds b =
      let first = count_either (is_over tree b) (λ home. is_early b home || is_other places.homes.lacking.items b home) (open_at places b) is once homes in
      let rest = count_either (is_early b) (is_other places.homes.lacking.items b) (λ home. is_early b home || is_other places.homes.lacking.items b home) (λ home. refl) apart homes in
      omega arith
    where
      or_false : (t : Bool) → t ≡ (t || false)
      or_false true = refl
      or_false false = refl

      is : (home : Home) → open_at places b home ≡ (is_over tree b home || (is_early b home || is_other places.homes.lacking.items b home))
      is (home.Block h) = or_false (is_above tree h b)
      is home.Start = or_false (nat_lt 0 b)
      is (home.Several index) = refl

      once : (home : Home) → is_over tree b home ≡ true → (is_early b home || is_other places.homes.lacking.items b home) ≡ false
      once (home.Block h) e = refl
      once home.Start e = absurd (false≢true e)
      once (home.Several index) e = absurd (false≢true e)

      apart : (home : Home) → is_early b home ≡ true → is_other places.homes.lacking.items b home ≡ false
      apart (home.Block h) e = refl
      apart home.Start e = refl
      apart (home.Several index) e = absurd (false≢true e)

  early_is : (b : ℕ) → count_by (is_early b) homes ≡ (if nat_lt 0 b then totals.starts else 0)
  early_is b = by (nat_lt 0 b) refl
    where
      by : (t : Bool) → nat_lt 0 b ≡ t → count_by (is_early b) homes ≡ (if t then totals.starts else 0)
      by true e = count_same (is_early b) is_start homes (λ home g. same home) ∙ sym are.counts.starts
        where
          same : (home : Home) → is_early b home ≡ is_start home
          same (home.Block h) = refl
          same home.Start = e
          same (home.Several index) = refl
      by false e = count_none (is_early b) homes (λ home g. none home)
        where
          none : (home : Home) → is_early b home ≡ false
          none (home.Block h) = refl
          none home.Start = e
          none (home.Several index) = refl

  length_is : (b : ℕ) → length (registers_at places b) ≡ count_by (open_at places b) homes
  length_is b =
      length-map (filter (λ (e : Entry). open_at places b e.1) places.homes.map.entries) (λ e. e.0)
      ∙ (length-filter (λ (e : Entry). open_at places b e.1) places.homes.map.entries ∙ count_map (λ (e : Entry). e.1) (open_at places b) places.homes.map.entries)

  pub counts_at : (b : ℕ) → b < n → 0 < (place_at tree b).depth ⊎ AreNowhere f places → CountsAt places totals b
  counts_at b l h =
      let o = over_total b l h in
      let k = kinds b in
      let e = early_is b in
      let t = are.counts.others b l in
      let s = length_is b in
      let m = count_by-le-length (open_at places b) homes in
      let few = are.small in
      record { counts = omega arith; small = omega arith }
