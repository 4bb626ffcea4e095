-- The marks on components say which faults are silenced.
use Rattle.std.proofs.Common.{◌≡◌, ◌≢◌, ◌⊎◌, ◌∙◌, inl, inr, sym, refl, ap, subst, ℕ, zero, suc, ◌<◌, ◌≤◌, ◌+◌, Bool, true, false, cond, not, ◌&&◌, ◌||◌, List, [], ◌∷◌, length, set, replicate, slice_index, slice_get, All, Option, Some, None, MatchOption, arith}
use Rattle.std.proofs.lemmas.List.{length-set}
use Rattle.go_graph.specs.declared.fault.Fault.{Fault}
use Rattle.go_graph.specs.Graph.{IsAmong, Reaches, here, along, StandsOn, next, IsGraph, AreComponents}
use Rattle.go_graph.specs.Marks.{marked, AreMarks, AreReaching, leaves}
use Rattle.go_graph.specs.Silence.{Silences, IsUnsilenced, IsFirst, is_silenced, AreSilencedBelow, IsFirstByMarks, AreAllSilenced, placed, with_cycle, cycles_in, below_one, IsBelowMarks}
use Rattle.go_graph.proofs.Lists.{same_or, before_or, among_at, at_among, get_within, trans}
use Rattle.go_graph.proofs.MarkLaws.{among_get, test_or, marked_set_same, marked_set_other, marked_set_on, marked_none, length_none, leaves_sound, leaves_complete, reach_down}

-- the marks of components that stand on another with a flag
pub below_none : (rows : List (List ℕ)) (of : List ℕ) (size : ℕ) (flags marks : List Bool) → marks ≡ replicate size false → IsBelowMarks rows of size flags 0 marks
below_none rows of size flags marks e = record {
  len = ap length e ∙ length_none size;
  sound = λ g h. (let none = ap (λ l. marked l g) e ∙ marked_none size g in cc);
  complete = λ x y less. absurd (omega arith);
}

module _ (rows : List (List ℕ)) (of : List ℕ) (size : ℕ) (flags marks : List Bool) (x : ℕ) (h : IsBelowMarks rows of size flags x marks) (less : x < length rows) (within : slice_index of x < size) where
  below_hit : leaves of flags (slice_index of x) (next rows x) ≡ true → IsBelowMarks rows of size flags (x + 1) (set marks (slice_index of x) true)
  below_hit hit = record {
    len = length-set marks (slice_index of x) true ∙ h.len;
    sound = λ g e. elim (same_or g (slice_index of x)) [
      | inl same ↦ (let found = leaves_sound of flags (slice_index of x) (next rows x) hit in record { from = x; to = found.0; within = less; is_in = sym same; edge = found.1; other = λ e. found.2 (e ∙ same); flag = found.3 })
      | inr differ ↦ h.sound g (sym (marked_set_other marks (slice_index of x) g differ) ∙ e)
    ];
    complete = λ y z under edge differ flag. elim (before_or y x) [
      | inl before ↦ marked_set_on marks (slice_index of x) (slice_index of y) (h.complete y z before edge differ flag)
      | inr after ↦ (let same : y ≡ x = omega arith in let len = h.len in marked_set_same marks (slice_index of x) (slice_index of y) (ap (slice_index of) same) (omega arith))
    ];
  }

  below_miss : leaves of flags (slice_index of x) (next rows x) ≡ false → IsBelowMarks rows of size flags (x + 1) marks
  below_miss miss = record {
    len = h.len;
    sound = h.sound;
    complete = λ y z under edge differ flag. elim (before_or y x) [
      | inl before ↦ h.complete y z before edge differ flag
      | inr after ↦ (
          let same : y ≡ x = omega arith in
          let bad = leaves_complete of flags (slice_index of x) z (next rows x) (subst (λ w. IsAmong z (next rows w)) same edge) (λ e. differ (e ∙ ap (slice_index of) (sym same))) flag in
          cc
          )
    ];
  }

  pub below_more : IsBelowMarks rows of size flags (x + 1) (below_one rows of flags x marks)
  below_more = by_test (leaves of flags (slice_index of x) (next rows x)) refl
    where
      by_test : (b : Bool) → leaves of flags (slice_index of x) (next rows x) ≡ b → IsBelowMarks rows of size flags (x + 1) (cond b (set marks (slice_index of x) true) marks)
      by_test true e = below_hit e
      by_test false e = below_miss e

-- the marks of faults
placed_on : (fs : List Fault) (marks : List Bool) (x : ℕ) → marked marks x ≡ true → marked (placed fs marks) x ≡ true
placed_on [] marks x h = h
placed_on (f ∷ fs) marks x h = placed_on fs (set marks f.node true) x (marked_set_on marks f.node x h)

placed_has : (fs : List Fault) (marks : List Bool) (f : Fault) → IsAmong f fs → f.node < length marks → marked (placed fs marks) f.node ≡ true
placed_has [] marks f h less = absurd h
placed_has (g ∷ fs) marks f (inl same) less = placed_on fs (set marks g.node true) f.node (marked_set_same marks g.node f.node (ap (λ f. f.node) same) (let e = ap (λ f. f.node) same in omega arith))
placed_has (g ∷ fs) marks f (inr more) less = placed_has fs (set marks g.node true) f more (let len = length-set marks g.node true in omega arith)

placed_from : (fs : List Fault) (marks : List Bool) (x : ℕ) → marked (placed fs marks) x ≡ true → (marked marks x ≡ true) ⊎ ((f : Fault) × IsAmong f fs × (f.node ≡ x))
placed_from [] marks x h = inl h
placed_from (f ∷ fs) marks x h = elim (placed_from fs (set marks f.node true) x h) [
  | inl was ↦ elim (same_or x f.node) [
    | inl same ↦ inr (f, inl refl, sym same)
    | inr differ ↦ inl (sym (marked_set_other marks f.node x differ) ∙ was)
  ]
  | inr later ↦ inr (later.0, inr later.1, later.2)
]

with_on : (of : List ℕ) (f : Fault) (marks : List Bool) (x : ℕ) → marked marks x ≡ true → marked (with_cycle of f marks) x ≡ true
with_on of f marks x h = elim (f.on_cycle) as (λ b. marked (cond b (set marks (slice_index of f.node) true) marks) x ≡ true) [ true ↦ marked_set_on marks (slice_index of f.node) x h | false ↦ h ]

with_len : (of : List ℕ) (f : Fault) (marks : List Bool) → length (with_cycle of f marks) ≡ length marks
with_len of f marks = elim (f.on_cycle) as (λ b. length (cond b (set marks (slice_index of f.node) true) marks) ≡ length marks) [ true ↦ length-set marks (slice_index of f.node) true | false ↦ refl ]

cycles_on : (of : List ℕ) (fs : List Fault) (marks : List Bool) (x : ℕ) → marked marks x ≡ true → marked (cycles_in of fs marks) x ≡ true
cycles_on of [] marks x h = h
cycles_on of (f ∷ fs) marks x h = cycles_on of fs (with_cycle of f marks) x (with_on of f marks x h)

cycles_has : (of : List ℕ) (fs : List Fault) (marks : List Bool) (f : Fault) → IsAmong f fs → f.on_cycle ≡ true → slice_index of f.node < length marks → marked (cycles_in of fs marks) (slice_index of f.node) ≡ true
cycles_has of [] marks f h e less = absurd h
cycles_has of (g ∷ fs) marks f (inl same) e less =
    cycles_on of fs (with_cycle of g marks) (slice_index of f.node)
    (let test : g.on_cycle ≡ true = ap (λ f. f.on_cycle) (sym same) ∙ e in
    let at : slice_index of f.node ≡ slice_index of g.node = ap (λ f. slice_index of f.node) same in
    subst (λ b. marked (cond b (set marks (slice_index of g.node) true) marks) (slice_index of f.node) ≡ true) (sym test) (marked_set_same marks (slice_index of g.node) (slice_index of f.node) at (omega arith)))
cycles_has of (g ∷ fs) marks f (inr more) e less = cycles_has of fs (with_cycle of g marks) f more e (let len = with_len of g marks in omega arith)

cycles_from : (of : List ℕ) (fs : List Fault) (marks : List Bool) (x : ℕ) → marked (cycles_in of fs marks) x ≡ true → (marked marks x ≡ true) ⊎ ((f : Fault) × IsAmong f fs × (f.on_cycle ≡ true) × (slice_index of f.node ≡ x))
cycles_from of [] marks x h = inl h
cycles_from of (f ∷ fs) marks x h = elim (cycles_from of fs (with_cycle of f marks) x h) [
  | inl was ↦ by_test (f.on_cycle) refl was
  | inr later ↦ inr (later.0, inr later.1, later.2, later.3)
]
  where
    by_test : (b : Bool) → f.on_cycle ≡ b → marked (cond b (set marks (slice_index of f.node) true) marks) x ≡ true
        → (marked marks x ≡ true) ⊎ ((g : Fault) × IsAmong g (f ∷ fs) × (g.on_cycle ≡ true) × (slice_index of g.node ≡ x))
    by_test true e was = elim (same_or x (slice_index of f.node)) [
      | inl same ↦ inr (f, inl refl, e, sym same)
      | inr differ ↦ inl (sym (marked_set_other marks (slice_index of f.node) x differ) ∙ was)
    ]
    by_test false e was = inl was

-- standing on something
stands : (edges : ℕ → List ℕ) (a b c d : ℕ) → Reaches edges a b → IsAmong c (edges b) → Reaches edges c d → StandsOn edges a d
stands edges a b c d here edge more = record { part = c; is_part = edge; rest = more }
stands edges a b c d (along {y = y} first then) edge more = record { part = y; is_part = first; rest = trans then (along edge more) }

stands_back : (edges : ℕ → List ℕ) (x m : ℕ) → Reaches edges m x → StandsOn edges x m → StandsOn edges m x
stands_back edges x m here s = s
stands_back edges x m (along {y = y} first more) s = record { part = y; is_part = first; rest = more }

tests : (a b c : Bool) → (a || (b && c)) ≡ true → (a ≡ true) ⊎ ((b ≡ true) × (c ≡ true))
tests true b c h = inl refl
tests false true c h = inr (refl, h)
tests false false c h = cc

both_true : (a b : Bool) → (a && b) ≡ true → (a ≡ true) × (b ≡ true)
both_true true b h = (refl, h)
both_true false b h = cc

not_true : (a : Bool) → not a ≡ true → a ≡ false
not_true true h = cc
not_true false h = refl

first_true : (a b : Bool) → a ≡ true → (a || b) ≡ true
first_true true b h = refl
first_true false b h = cc

second_true : (a b : Bool) → b ≡ true → (a || b) ≡ true
second_true true b h = refl
second_true false b h = h

all_true : (a b c : Bool) → a ≡ true → b ≡ true → c ≡ false → (a && (b && not c)) ≡ true
all_true a b c h k l = rw (h, k, l) refl

-- of faults in components
module _ (rows : List (List ℕ)) (of order : List ℕ) (graph : IsGraph rows) (g : AreComponents rows of order) (cyclic : List Bool) (on : AreMarks (length rows) (λ x. StandsOn (next rows) x x) cyclic) (faults : List Fault) (in_rows : (f : Fault) → IsAmong f faults → f.node < length rows)
    (faulty below cycles : List Bool) (reaching : AreReaching rows of order (placed faults (replicate (length rows) false)) faulty) (under : IsBelowMarks rows of (length order) faulty (length rows) below) (cycles_are : cycles ≡ cycles_in of faults (replicate (length order) false)) where
  fault_at : (x : ℕ) → marked (placed faults (replicate (length rows) false)) x ≡ true → (f : Fault) × IsAmong f faults × (f.node ≡ x)
  fault_at x h = elim (placed_from faults (replicate (length rows) false) x h) [
    | inl bad ↦ (let none = marked_none (length rows) x in cc)
    | inr found ↦ found
  ]

  at_fault : (f : Fault) → IsAmong f faults → marked (placed faults (replicate (length rows) false)) f.node ≡ true
  at_fault f h = placed_has faults (replicate (length rows) false) f h (let less = in_rows f h in let len = length_none (length rows) in omega arith)

  silenced_sound : (f : Fault) → f.node < length rows → is_silenced of below cyclic cycles f ≡ true → (h : Fault) × IsAmong h faults × Silences (next rows) h f
  silenced_sound f less s = elim (tests (marked below (slice_index of f.node)) (marked cyclic f.node) (marked cycles (slice_index of f.node) && not (f.on_cycle)) s) [
    | inl low ↦ (
        let out = under.sound (slice_index of f.node) low in
        let to_in = graph out.from out.to out.edge in
        let more = reaching.sound out.to to_in out.flag in
        let found = fault_at more.end more.is_marked in
        let reaches = subst (Reaches (next rows) out.to) (sym found.2) more.reaches in (
          found.0,
          found.1,
          record {
            stands = stands (next rows) f.node out.from out.to (found.0).node (g.together f.node out.from less out.within (sym out.is_in)) out.edge reaches;
            below = inl (λ back. (
                let one = reach_down rows of order graph g out.to (found.0).node reaches in
                let two = reach_down rows of order graph g (found.0).node f.node (along back.is_part back.rest) in
                let three = g.downward out.from out.to out.edge in
                let same = out.is_in in
                out.other (omega arith)
                ));
          },
        )
        )
    | inr cycle ↦ (
        let rest = both_true (marked cycles (slice_index of f.node)) (not (f.on_cycle)) cycle.1 in
        let found = cycle_fault (slice_index of f.node) rest.0 in
        let loop = on.sound f.node cycle.0 in (
          found.0,
          found.1,
          record {
            stands = record { part = loop.part; is_part = loop.is_part; rest = trans loop.rest (g.together f.node (found.0).node less (in_rows found.0 found.1) (sym found.3)) };
            below = inr (found.2, not_true (f.on_cycle) rest.1);
          },
        )
        )
  ]
    where
      cycle_fault : (x : ℕ) → marked cycles x ≡ true → (h : Fault) × IsAmong h faults × (h.on_cycle ≡ true) × (slice_index of h.node ≡ x)
      cycle_fault x is = elim (cycles_from of faults (replicate (length order) false) x (sym (ap (λ l. marked l x) cycles_are) ∙ is)) [
        | inl bad ↦ (let none = marked_none (length order) x in cc)
        | inr found ↦ found
      ]

  -- A way out of a component goes over an edge out of it.
  leave : (x : ℕ) (h : Fault) (G : ℕ) → x < length rows → IsAmong h faults → Reaches (next rows) x h.node → slice_index of x ≡ G → slice_index of h.node ≢ G → marked below G ≡ true
  leave x h G less is way at ne = go x h.node way less at refl
    where
      go : (y z : ℕ) → Reaches (next rows) y z → y < length rows → slice_index of y ≡ G → z ≡ h.node → marked below G ≡ true
      go y z here less at same = absurd (ne (ap (slice_index of) (sym same) ∙ at))
      go y z (along {y = w} edge more) less at same = elim (same_or (slice_index of w) G) [
        | inl inside ↦ go w z more (graph y w edge) inside same
        | inr outside ↦ (
            let flag = reaching.complete w (graph y w edge) (record { end = h.node; reaches = subst (Reaches (next rows) w) same more; is_marked = at_fault h is }) in
            subst (λ n. marked below n ≡ true) at (under.complete y w less edge (λ e. outside (e ∙ at)) flag)
            )
      ]

  silenced_complete : (f h : Fault) → f.node < length rows → IsAmong h faults → Silences (next rows) h f → is_silenced of below cyclic cycles f ≡ true
  silenced_complete f h less is s = elim (same_or (slice_index of h.node) (slice_index of f.node)) [
    | inr differ ↦ first_true (marked below (slice_index of f.node)) (marked cyclic f.node && (marked cycles (slice_index of f.node) && not (f.on_cycle)))
        (leave f.node h (slice_index of f.node) less is (along (s.stands).is_part (s.stands).rest) refl differ)
    | inl same ↦ (
        let back = g.together h.node f.node (in_rows h is) less same in
        elim s.below [
          | inl no_way ↦ absurd (no_way (stands_back (next rows) f.node h.node back s.stands))
          | inr cycle ↦ second_true (marked below (slice_index of f.node)) (marked cyclic f.node && (marked cycles (slice_index of f.node) && not (f.on_cycle)))
              (all_true (marked cyclic f.node) (marked cycles (slice_index of f.node)) (f.on_cycle)
              (on.complete f.node less (record { part = (s.stands).part; is_part = (s.stands).is_part; rest = trans (s.stands).rest back }))
              (ap (λ l. marked l (slice_index of f.node)) cycles_are ∙ subst (λ n. marked (cycles_in of faults (replicate (length order) false)) n ≡ true) same (cycles_has of faults (replicate (length order) false) h is cycle.0 (let low = g.within h.node (in_rows h is) in let len = length_none (length order) in omega arith)))
              cycle.1)
        ]
        )
  ]

  pub unsilenced : (f : Fault) → IsAmong f faults → is_silenced of below cyclic cycles f ≡ false → IsUnsilenced (next rows) faults f
  unsilenced f is e = record { is_fault = is; unsilenced = λ h among s. (let bad = silenced_complete f h (in_rows f is) among s in let clash : true ≡ false = sym bad ∙ e in cc) }

  pub heard : (f : Fault) → IsUnsilenced (next rows) faults f → is_silenced of below cyclic cycles f ≡ false
  heard f u = elim (test_or (is_silenced of below cyclic cycles f)) [
    | inl bad ↦ (let found = silenced_sound f (in_rows f u.is_fault) bad in absurd (u.unsilenced found.0 found.1 found.2))
    | inr good ↦ good
  ]

  -- What silences a fault is lighter: so not all are silenced.
  weight : Fault → ℕ
  weight f = slice_index of f.node + slice_index of f.node + cond (f.on_cycle) 0 1

  lighter : (h f : Fault) → IsAmong h faults → f.node < length rows → Silences (next rows) h f → weight h < weight f
  unfolding weight
  lighter h f is less s =
      let down = reach_down rows of order graph g f.node h.node (along (s.stands).is_part (s.stands).rest) in
      elim s.below [
        | inl no_way ↦ (
            let ne : slice_index of h.node ≢ slice_index of f.node = λ same. no_way (stands_back (next rows) f.node h.node (g.together h.node f.node (in_rows h is) less same) s.stands) in
            let small : cond (h.on_cycle) 0 1 ≤ 1 = at_most_one (h.on_cycle) in
            omega arith
            )
        | inr cycle ↦ (
            let one : ◌≡◌ {A = ℕ} (cond (h.on_cycle) 0 1) 0 = rw cycle.0 refl in
            let two : ◌≡◌ {A = ℕ} (cond (f.on_cycle) 0 1) 1 = rw cycle.1 refl in
            omega arith
            )
      ]
    where
      at_most_one : (b : Bool) → cond b 0 1 ≤ 1
      at_most_one true = omega arith
      at_most_one false = omega arith

  lightest : (f : Fault) (fs : List Fault) → (h : Fault) × IsAmong h (f ∷ fs) × ((k : Fault) → IsAmong k (f ∷ fs) → weight h ≤ weight k)
  lightest f [] = (f, inl refl, λ k among. elim among [ inl same ↦ (let e = ap weight same in omega arith) | inr bad ↦ absurd bad ])
  lightest f (f' ∷ fs) =
      let rest = lightest f' fs in
      elim (before_or (weight f) (weight rest.0)) [
        | inl less ↦ (f, inl refl, λ k among. elim among [ inl same ↦ (let e = ap weight same in omega arith) | inr more ↦ (let le = rest.2 k more in omega arith) ])
        | inr more ↦ (rest.0, inr rest.1, λ k among. elim among [ inl same ↦ (let e = ap weight same in omega arith) | inr later ↦ rest.2 k later ])
      ]

  pub not_all : ((f : Fault) → IsAmong f faults → is_silenced of below cyclic cycles f ≡ true) → faults ≡ []
  not_all all = go faults refl
    where
      go : (fs : List Fault) → faults ≡ fs → faults ≡ []
      go [] e = e
      go (f ∷ fs) e =
          let low = lightest f fs in
          let among : IsAmong low.0 faults = subst (IsAmong low.0) (sym e) low.1 in
          let found = silenced_sound low.0 (in_rows low.0 among) (all low.0 among) in
          let less = lighter found.0 low.0 found.1 (in_rows low.0 among) found.2 in
          let le = low.2 found.0 (subst (IsAmong found.0) e found.1) in
          absurd (omega arith)

  -- Silencing goes on: what silences something that silences a fault silences it too.
  silences_through : (k h f : Fault) → Silences (next rows) k h → Silences (next rows) h f → Silences (next rows) k f
  silences_through k h f one two = record {
    stands = record { part = (two.stands).part; is_part = (two.stands).is_part; rest = trans (two.stands).rest (along (one.stands).is_part (one.stands).rest) };
    below = elim one.below [
      | inl no_way ↦ inl (λ up. no_way (record { part = up.part; is_part = up.is_part; rest = trans up.rest (along (two.stands).is_part (two.stands).rest) }))
      | inr cycle ↦ elim two.below [
        | inl no_way ↦ inl (λ up. no_way (record { part = (one.stands).part; is_part = (one.stands).is_part; rest = trans (one.stands).rest (along up.is_part up.rest) }))
        | inr bad ↦ (let clash : true ≡ false = sym bad.0 ∙ cycle.1 in cc)
      ]
    ];
  }

  -- So what is silenced at all is silenced by something that is not: the lightest of what silences it.
  pub settled : (f : Fault) → IsAmong f faults → ((h : Fault) → IsUnsilenced (next rows) faults h → Silences (next rows) h f → ⊥) → IsUnsilenced (next rows) faults f
  settled f is none = record { is_fault = is; unsilenced = λ h among s. down (suc (weight h)) h among (omega arith) s }
    where
      down : (n : ℕ) (h : Fault) → IsAmong h faults → weight h < n → Silences (next rows) h f → ⊥
      down zero h among less s = absurd (omega arith)
      down (suc n) h among less s =
          none h (record { is_fault = among; unsilenced = λ k more t. down n k more (let light = lighter k h more (in_rows h among) t in omega arith) (silences_through k h f t s) }) s

-- ---- the first fault that is not silenced

before_next : (n i : ℕ) → n < i + 1 → (n < i) ⊎ (n ≡ i)
before_next n i h = elim (before_or n i) [ inl under ↦ inl under | inr over ↦ inr (omega arith) ]

-- one more fault is silenced
pub silenced_next : (of : List ℕ) (below cyclic cycles : List Bool) (faults : List Fault) (i : ℕ) (f : Fault) → slice_get faults i ≡ Some f → is_silenced of below cyclic cycles f ≡ true → AreSilencedBelow of below cyclic cycles faults i → AreSilencedBelow of below cyclic cycles faults (i + 1)
silenced_next of below cyclic cycles faults i f at is before = λ k g less there. elim (before_next k i less) [
  | inl under ↦ before k g under there
  | inr same ↦ (
      let both : Some g ≡ Some f = sym there ∙ ap (slice_get faults) same ∙ at in
      let equal : g ≡ f = cc in
      ap (is_silenced of below cyclic cycles) equal ∙ is
      )
]

pub silenced_all : (of : List ℕ) (below cyclic cycles : List Bool) (faults : List Fault) (i : ℕ) → length faults ≤ i → AreSilencedBelow of below cyclic cycles faults i → AreAllSilenced of below cyclic cycles faults
silenced_all of below cyclic cycles faults i h before = λ k g there. (let within = get_within faults k g there in before k g (omega arith) there)

module _ (rows : List (List ℕ)) (of order : List ℕ) (graph : IsGraph rows) (g : AreComponents rows of order) (cyclic : List Bool) (on : AreMarks (length rows) (λ x. StandsOn (next rows) x x) cyclic) (faults : List Fault) (in_rows : (f : Fault) → IsAmong f faults → f.node < length rows)
    (faulty below cycles : List Bool) (reaching : AreReaching rows of order (placed faults (replicate (length rows) false)) faulty) (under : IsBelowMarks rows of (length order) faulty (length rows) below) (cycles_are : cycles ≡ cycles_in of faults (replicate (length order) false)) where
  first_is : (index : ℕ) → IsFirstByMarks of below cyclic cycles faults index → IsFirst (next rows) faults index
  first_is index is = record {
    fault = is.fault;
    fault_is = is.fault_is;
    unsilenced = unsilenced rows of order graph g cyclic on faults in_rows faulty below cycles reaching under cycles_are is.fault (among_at faults index is.fault is.fault_is) is.unsilenced;
    before = λ k f less there u. (
        let heard_it = heard rows of order graph g cyclic on faults in_rows faulty below cycles reaching under cycles_are f u in
        let clash : true ≡ false = sym (is.before k f less there) ∙ heard_it in
        cc
        );
  }

  none_is : AreAllSilenced of below cyclic cycles faults → faults ≡ []
  none_is all =
      not_all rows of order graph g cyclic on faults in_rows faulty below cycles reaching under cycles_are (λ f among. (let at = at_among f faults among in all at.0 f at.1))

pub first_or_none : (rows : List (List ℕ)) (of order : List ℕ) (cyclic : List Bool) (faults : List Fault) (faulty below cycles : List Bool) (index : Option ℕ) → IsGraph rows → AreComponents rows of order → AreMarks (length rows) (λ x. StandsOn (next rows) x x) cyclic → ((f : Fault) → IsAmong f faults → f.node < length rows)
    → AreReaching rows of order (placed faults (replicate (length rows) false)) faulty → IsBelowMarks rows of (length order) faulty (length rows) below → cycles ≡ cycles_in of faults (replicate (length order) false)
    → MatchOption index (AreAllSilenced of below cyclic cycles faults) (IsFirstByMarks of below cyclic cycles faults) → MatchOption index (faults ≡ []) (IsFirst (next rows) faults)
first_or_none rows of order cyclic faults faulty below cycles None graph g on in_rows reaching under cycles_are is =
    none_is rows of order graph g cyclic on faults in_rows faulty below cycles reaching under cycles_are is
first_or_none rows of order cyclic faults faulty below cycles (Some index) graph g on in_rows reaching under cycles_are is =
    first_is rows of order graph g cyclic on faults in_rows faulty below cycles reaching under cycles_are index is

-- sizes, for what the code reads
pub length-placed : (fs : List Fault) (marks : List Bool) → length (placed fs marks) ≡ length marks
length-placed [] marks = refl
length-placed (f ∷ fs) marks = length-placed fs (set marks f.node true) ∙ length-set marks f.node true

pub length-cycles_in : (of : List ℕ) (fs : List Fault) (marks : List Bool) → length (cycles_in of fs marks) ≡ length marks
length-cycles_in of [] marks = refl
length-cycles_in of (f ∷ fs) marks = length-cycles_in of fs (with_cycle of f marks) ∙ with_len of f marks

pub faults_below : (faults : List Fault) (n m : ℕ) → n ≡ m → ((f : Fault) → IsAmong f faults → f.node < n) → All (λ f. f.node < m) faults
faults_below faults n m e h = λ k d less. (let low = h _ (among_get faults k d less) in omega arith)
