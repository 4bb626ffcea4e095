-- Groups are taken one after the other, once those are to which their edges lead.
use Rattle.std.proofs.Common.{◌≡◌, ◌≢◌, ◌<◌, ◌+◌, ◌-◌, ◌∙◌, ℕ, suc, zero, Bool, true, false, List, [], ◌∷◌, ◌++◌, ◌⊎◌, inl, inr, Option, Some, None, refl, sym, ap, subst, arith, eq-eqb}
use Rattle.std.specs.Prelude.{◌||◌, nat_eq, if◌then◌else◌}
use Rattle.std.proofs.lemmas.Bool.{eqb-true}
use Rattle.go_graph.specs.Graph.{IsAmong}
use Rattle.go_graph.proofs.Lists.{among_split, among_last, among_left, among_one, same_or}
use Rattle.init_order.specs.declared.edges.Edge.{Edge}
use Rattle.init_order.specs.Groups.{has, waits, sources, times}
use Rattle.init_order.specs.Taking.{AreDistinct, OfReady, Waitless, IsTaking, TakesFree, TakesStep}
use Rattle.init_order.proofs.Counting.{by_bool, has_more, waits_less, is_open, waits_none, source, taken_stays}

distinct_end : (x : ℕ) (xs : List ℕ) → AreDistinct xs → (IsAmong x xs → ⊥) → AreDistinct (xs ++ x ∷ [])
distinct_end x [] d new = ((λ h. h), tt)
distinct_end x (y ∷ ys) d new =
    ((λ h. elim (among_split y ys (x ∷ []) h) [ inl old ↦ d.0 old | inr is ↦ new (inl (sym (among_one y x is))) ]), distinct_end x ys d.1 (λ h. new (inr h)))

pub distinct_front : (x : ℕ) (xs : List ℕ) → AreDistinct (xs ++ x ∷ []) → (AreDistinct xs) × (IsAmong x xs → ⊥)
distinct_front x [] d = (tt, λ h. h)
distinct_front x (y ∷ ys) d =
    let rest = distinct_front x ys d.1 in
    (((λ h. d.0 (among_left y ys (x ∷ []) h)), rest.0), (λ h. elim h [ inl e ↦ d.0 (subst (λ z. IsAmong z (ys ++ x ∷ [])) e (among_last x ys)) | inr k ↦ rest.1 k ]))

times_here : (p : ℕ) (xs : List ℕ) → times p (p ∷ xs) ≡ suc (times p xs)
times_here p xs = ap (λ b. if b then suc (times p xs) else times p xs) (eq-eqb p p refl)

not_same : (x y : ℕ) → x ≢ y → nat_eq x y ≡ false
not_same x y differ = elim (by_bool (nat_eq x y)) [ inl e ↦ absurd (differ (eqb-true x y e)) | inr e ↦ e ]

times_other : (g p : ℕ) (xs : List ℕ) → g ≢ p → times g (p ∷ xs) ≡ times g xs
times_other g p xs differ = ap (λ b. if b then suc (times g xs) else times g xs) (not_same p g (λ e. differ (sym e)))

-- what a group that is told becomes
pub record Stays (free ready free2 ready2 : List ℕ) : Type 0 where
  pub same_free : free2 ≡ free
  pub same_ready : ready2 ≡ ready

pub record Freed (label : ℕ → Option ℕ) (p : ℕ) (v : ℕ → ℕ) (free ready free2 ready2 : List ℕ) : Type 0 where
  pub none : v p ≡ 0
  pub is_label : label p ≡ None
  pub more_free : free2 ≡ free ++ p ∷ []
  pub same_ready : ready2 ≡ ready

pub record Readied (label : ℕ → Option ℕ) (p : ℕ) (v : ℕ → ℕ) (free ready free2 ready2 : List ℕ) : Type 0 where
  pub step : ℕ
  pub none : v p ≡ 0
  pub is_label : label p ≡ Some step
  pub same_free : free2 ≡ free
  pub new : IsAmong step ready2
  pub old : (x : ℕ) → IsAmong x ready → IsAmong x ready2
  pub only : (x : ℕ) → IsAmong x ready2 → (x ≡ step) ⊎ IsAmong x ready

module _ (n : ℕ) (edges : List Edge) (label : ℕ → Option ℕ) (group : ℕ → ℕ) (p : ℕ) (pending : List ℕ) (w v : ℕ → ℕ) (free ready free2 ready2 taken : List ℕ)
    (inv : IsTaking n edges label group (p ∷ pending) w free ready taken) (it : v p ≡ w p - 1) (others : (g : ℕ) → g ≢ p → v g ≡ w g) where
  here_counts : v p ≡ waits edges taken p + times p pending
  here_counts =
      let old = inv.counts p (inv.to_tell p (inl refl)).0 in
      let one = times_here p pending in
      omega arith

  waited : w p ≢ 0
  waited = λ none. (
      let old = inv.counts p (inv.to_tell p (inl refl)).0 in
      let one = times_here p pending in
      omega arith
      )

  new_counts : (g : ℕ) → g < n → v g ≡ waits edges taken g + times g pending
  new_counts g less =
      elim (same_or g p) [
        | inl e ↦ subst (λ x. v x ≡ waits edges taken x + times x pending) (sym e) here_counts
        | inr differ ↦ others g differ ∙ inv.counts g less ∙ ap (λ t. waits edges taken g + t) (times_other g p pending differ)
      ]

  still : (g : ℕ) → Waitless n w taken g → Waitless n v taken g
  still g h =
      let differ : g ≢ p = λ e. waited (ap w (sym e) ∙ h.none) in
      record { less = h.less; is_left = h.is_left; none = others g differ ∙ h.none }

  here_waitless : v p ≡ 0 → Waitless n v taken p
  here_waitless none = record { less = (inv.to_tell p (inl refl)).0; is_left = (inv.to_tell p (inl refl)).1; none = none }

  pub told_stays : v p ≢ 0 → Stays free ready free2 ready2 → IsTaking n edges label group pending v free2 ready2 taken
  told_stays some s =
      record {
        counts = new_counts;
        kept = λ g less left none. (
            let differ : g ≢ p = λ e. some (ap v (sym e) ∙ none) in
            subst (λ f. IsAmong g f ⊎ OfReady label ready2 g) (sym s.same_free) (subst (λ r. IsAmong g free ⊎ OfReady label r g) (sym s.same_ready) (inv.kept g less left (sym (others g differ) ∙ none)))
            );
        is_free = λ g h. (let old = inv.is_free g (subst (IsAmong g) s.same_free h) in (still g old.0, old.1));
        is_ready = λ x h. (let old = inv.is_ready x (subst (IsAmong x) s.same_ready h) in (still (group x) old.0, old.1));
        to_tell = λ g h. inv.to_tell g (inr h);
        distinct = subst AreDistinct (sym s.same_free) inv.distinct;
        closed = inv.closed;
      }

  pub told_frees : Freed label p v free ready free2 ready2 → IsTaking n edges label group pending v free2 ready2 taken
  told_frees s =
      record {
        counts = new_counts;
        kept = λ g less left none. elim (same_or g p) [
          | inl e ↦ inl (subst (IsAmong g) (sym s.more_free) (subst (λ x. IsAmong x (free ++ p ∷ [])) (sym e) (among_last p free)))
          | inr differ ↦ elim (inv.kept g less left (sym (others g differ) ∙ none)) [
            | inl old ↦ inl (subst (IsAmong g) (sym s.more_free) (among_left g free (p ∷ []) old))
            | inr old ↦ inr (subst (λ r. OfReady label r g) (sym s.same_ready) old)
          ]
        ];
        is_free = λ g h. elim (among_split g free (p ∷ []) (subst (IsAmong g) s.more_free h)) [
          | inl was ↦ (let old = inv.is_free g was in (still g old.0, old.1))
          | inr is ↦ subst (λ x. Waitless n v taken x × (label x ≡ None)) (sym (among_one g p is)) (here_waitless s.none, s.is_label)
        ];
        is_ready = λ x h. (let old = inv.is_ready x (subst (IsAmong x) s.same_ready h) in (still (group x) old.0, old.1));
        to_tell = λ g h. inv.to_tell g (inr h);
        distinct = subst AreDistinct (sym s.more_free) (distinct_end p free inv.distinct (λ h. waited (inv.is_free p h).0.none));
        closed = inv.closed;
      }

  pub told_readies : ((g s : ℕ) → label g ≡ Some s → group s ≡ g) → Readied label p v free ready free2 ready2 → IsTaking n edges label group pending v free2 ready2 taken
  told_readies of_label s =
      record {
        counts = new_counts;
        kept = λ g less left none. elim (same_or g p) [
          | inl e ↦ inr (record { step = s.step; is_label = ap label e ∙ s.is_label; is_ready = s.new })
          | inr differ ↦ elim (inv.kept g less left (sym (others g differ) ∙ none)) [
            | inl old ↦ inl (subst (IsAmong g) (sym s.same_free) old)
            | inr old ↦ inr (record { step = old.step; is_label = old.is_label; is_ready = s.old old.step old.is_ready })
          ]
        ];
        is_free = λ g h. (let old = inv.is_free g (subst (IsAmong g) s.same_free h) in (still g old.0, old.1));
        is_ready = λ x h. elim (s.only x h) [
          | inl e ↦ (let at : group x ≡ p = ap group e ∙ of_label p s.step s.is_label in
              (subst (Waitless n v taken) (sym at) (here_waitless s.none), ap label at ∙ s.is_label ∙ ap Some (sym e)))
          | inr was ↦ (let old = inv.is_ready x was in (still (group x) old.0, old.1))
        ];
        to_tell = λ g h. inv.to_tell g (inr h);
        distinct = subst AreDistinct (sym s.same_free) inv.distinct;
        closed = inv.closed;
      }

or_false_left : (a b : Bool) → (a || b) ≡ false → a ≡ false
or_false_left true b h = cc
or_false_left false b h = refl

or_false_right : (a b : Bool) → (a || b) ≡ false → b ≡ false
or_false_right true b h = cc
or_false_right false b h = h

or_none : (a b : Bool) → a ≡ false → b ≡ false → (a || b) ≡ false
or_none true b h k = cc
or_none false b h k = k

module _ (n : ℕ) (edges : List Edge) (label : ℕ → Option ℕ) (group : ℕ → ℕ) (w : ℕ → ℕ) (free ready taken : List ℕ)
    (inv : IsTaking n edges label group [] w free ready taken)
    (down : (e : Edge) → IsAmong e edges → (e.leaves < n) × (e.enters < e.leaves)) (g : ℕ) (is_g : Waitless n w taken g) where
  waits_zero : waits edges taken g ≡ 0
  waits_zero = let e = inv.counts g is_g.less in let z = is_g.none in omega arith

  still_left : (x : ℕ) → x ≢ g → has x taken ≡ false → has x (taken ++ g ∷ []) ≡ false
  still_left x differ left = has_more x g taken ∙ or_none (nat_eq x g) (has x taken) (not_same x g differ) left

  was_left : (x : ℕ) → has x (taken ++ g ∷ []) ≡ false → (x ≢ g) × (has x taken ≡ false)
  was_left x left =
      let both = sym (has_more x g taken) ∙ left in
      ((λ e. (let t = eq-eqb x g e in let f = or_false_left (nat_eq x g) (has x taken) both in cc)), or_false_right (nat_eq x g) (has x taken) both)

  counts_more : (x : ℕ) → x < n → w x ≡ waits edges (taken ++ g ∷ []) x + times x (sources edges g)
  counts_more x less = let e = inv.counts x less in let f = waits_less edges taken g x is_g.is_left in omega arith

  tells : (x : ℕ) → IsAmong x (sources edges g) → (x < n) × (has x (taken ++ g ∷ []) ≡ false)
  tells x h =
      let from = source edges x g h in
      let bound = down (record { leaves = x; enters = g }) from.is_edge in
      let differ : x ≢ g = λ e. (let low = bound.1 in omega arith) in (
        bound.0,
        still_left x differ (elim (by_bool (has x taken)) [
          | inl t ↦ (let no = inv.closed (record { leaves = x; enters = g }) from.is_edge t in let left = is_g.is_left in cc)
          | inr f ↦ f
        ]),
      )

  closed_more : (e : Edge) → IsAmong e edges → has e.leaves (taken ++ g ∷ []) ≡ true → has e.enters (taken ++ g ∷ []) ≡ true
  closed_more e is h =
      elim (same_or e.leaves g) [
        | inl same ↦ taken_stays e.enters g taken (waits_none edges taken g e waits_zero is same)
        | inr differ ↦ taken_stays e.enters g taken (inv.closed e is (elim (by_bool (has e.leaves taken)) [
          | inl t ↦ t
          | inr f ↦ (let no = still_left e.leaves differ f in cc)
        ]))
      ]

  fewer : (x : ℕ) → x ≢ g → Waitless n w taken x → Waitless n w (taken ++ g ∷ []) x
  fewer x differ h = record { less = h.less; is_left = still_left x differ h.is_left; none = h.none }

  pub takes_free : (free2 ready2 : List ℕ) → label g ≡ None → TakesFree g free ready free2 ready2 → IsTaking n edges label group (sources edges g) w free2 ready2 (taken ++ g ∷ [])
  takes_free free2 ready2 no_label t =
      let apart = distinct_front g free2 (subst AreDistinct t.last inv.distinct) in
      record {
        counts = counts_more;
        kept = λ x less left none. (
            let was = was_left x left in
            elim (inv.kept x less was.1 none) [
              | inl f ↦ elim (among_split x free2 (g ∷ []) (subst (IsAmong x) t.last f)) [ inl old ↦ inl old | inr is ↦ absurd (was.0 (among_one x g is)) ]
              | inr r ↦ inr (subst (λ l. OfReady label l x) (sym t.same_ready) r)
            ]
            );
        is_free = λ x h. (
            let old = inv.is_free x (subst (IsAmong x) (sym t.last) (among_left x free2 (g ∷ []) h)) in
            (fewer x (λ e. apart.1 (subst (λ y. IsAmong y free2) e h)) old.0, old.1)
            );
        is_ready = λ s h. (
            let old = inv.is_ready s (subst (IsAmong s) t.same_ready h) in
            (fewer (group s) (λ e. (let a = ap label e in let b = old.1 in cc)) old.0, old.1)
            );
        to_tell = tells;
        distinct = apart.0;
        closed = closed_more;
      }

  pub takes_step : (free2 ready2 : List ℕ) → ((x s : ℕ) → label x ≡ Some s → group s ≡ x) → TakesStep group g free ready free2 ready2
      → IsTaking n edges label group (sources edges g) w free2 ready2 (taken ++ g ∷ [])
  takes_step free2 ready2 of_label t =
      let it = inv.is_ready t.step (subst (IsAmong t.step) (sym t.first) (inl refl)) in
      record {
        counts = counts_more;
        kept = λ x less left none. (
            let was = was_left x left in
            elim (inv.kept x less was.1 none) [
              | inl f ↦ absurd (subst (IsAmong x) t.none_free f)
              | inr r ↦ elim (subst (IsAmong r.step) t.first r.is_ready) [
                | inl e ↦ absurd (was.0 (sym (of_label x r.step r.is_label) ∙ ap group e ∙ t.of_group))
                | inr k ↦ inr (record { step = r.step; is_label = r.is_label; is_ready = k })
              ]
            ]
            );
        is_free = λ x h. absurd (subst (IsAmong x) t.none_free2 h);
        is_ready = λ s h. (
            let old = inv.is_ready s (subst (IsAmong s) (sym t.first) (inr h)) in
            let more = t.above s h in (
              fewer (group s) (λ e. (
                  let a : label (group s) ≡ label (group t.step) = ap label (e ∙ sym t.of_group) in
                  let b : Some s ≡ Some t.step = sym old.1 ∙ a ∙ it.1 in
                  let c : s ≡ t.step = cc in
                  omega arith
                  )) old.0,
              old.1,
            )
            );
        to_tell = tells;
        distinct = subst AreDistinct (sym t.none_free2) tt;
        closed = closed_more;
      }

-- where nothing is free or ready, all groups are taken
pub all_taken : (n : ℕ) (edges : List Edge) (label : ℕ → Option ℕ) (group : ℕ → ℕ) (w : ℕ → ℕ) (taken : List ℕ)
    → IsTaking n edges label group [] w [] [] taken → ((e : Edge) → IsAmong e edges → (e.leaves < n) × (e.enters < e.leaves))
    → (k g : ℕ) → g < k → g < n → has g taken ≡ true
all_taken n edges label group w taken inv down zero g low less = absurd (omega arith)
all_taken n edges label group w taken inv down (suc k) g low less =
    elim (by_bool (has g taken)) [
      | inl t ↦ t
      | inr f ↦ elim (is_open edges taken g) [
        | inl zero_waits ↦ elim (inv.kept g less f (inv.counts g less ∙ ap (λ t. t + 0) zero_waits)) [ inl h ↦ absurd h | inr r ↦ absurd r.is_ready ]
        | inr o ↦ (
            let bound = down (record { leaves = g; enters = o.to }) o.is_edge in
            let lower = bound.1 in
            let t = all_taken n edges label group w taken inv down k o.to (omega arith) (omega arith) in
            let left = o.is_left in cc
            )
      ]
    ]
