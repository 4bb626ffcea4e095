-- All groups are taken, in the order of the definition.
use Rattle.std.proofs.Common.{◌≡◌, ◌<◌, ◌≤◌, ◌+◌, ◌-◌, ◌∙◌, ℕ, suc, zero, Bool, true, false, List, [], ◌∷◌, ◌++◌, inl, inr, Option, Some, None, length, take, drop, All, refl, sym, ap, subst, arith}
use Rattle.std.specs.Prelude.{◌==◌, nat_eq, slice_index, slice_index_or, slice_set, if◌then◌else◌}
use Rattle.std.proofs.lemmas.Bool.{eq-eqb}
use Rattle.go_graph.proofs.Lists.{among_last, among_split, among_one, same_or}
use Rattle.init_order.proofs.EdgeLists.{not_eqb, among_get}
use Rattle.go_graph.specs.Graph.{IsAmong}
use Rattle.init_order.specs.declared.edges.Edge.{Edge}
use Rattle.init_order.specs.Naming.{Naming}
use Rattle.init_order.specs.Order.{IsInitOrder, IsNext}
use Rattle.init_order.specs.Groups.{State, below, waits, sources, released, passed, told, times}
use Rattle.init_order.specs.Taking.{IsTaking, Waitless, TakesStep, Takes, AreParts, IsBeginning, steps_of}
use Rattle.init_order.proofs.Counting.{untaken, untaken_fewer, source}
use Rattle.init_order.proofs.Kahn.{takes_free, takes_step, all_taken}
use Rattle.init_order.proofs.Taken.{group, down, ready_step, is_first, AreBefore, nothing_taken, free_goes_on, step_goes_on, whole_order}
use Rattle.init_order.proofs.Telling.{Keeps, keeps_told}

-- what is kept from one group that is taken to the next
pub record GoesOn (names : Naming) (of order : List ℕ) (edges : List Edge) (labels : List (Option ℕ)) (s : State) : Type 0 where
  pub keeps : Keeps (length order) edges (λ g. slice_index_or labels g None) (λ s. slice_index of (names.variables + s)) [] s
  pub begins : IsBeginning names of (λ g. slice_index_or labels g None) s.taken

released_taken : (o : Option ℕ) (p : ℕ) (s : State) → (released o p s).taken ≡ s.taken
released_taken None p s = refl
released_taken (Some step) p s = refl

passed_taken : (b : Bool) (o : Option ℕ) (p : ℕ) (s : State) → (if b then released o p s else s).taken ≡ s.taken
passed_taken true o p s = released_taken o p s
passed_taken false o p s = refl

pub told_taken : (labels : List (Option ℕ)) (pending : List ℕ) (s : State) → (told labels pending s).taken ≡ s.taken
told_taken labels [] s = refl
told_taken labels (p ∷ pending) s =
    told_taken labels pending (passed labels p s)
    ∙ passed_taken (slice_index s.waiting p - 1 == 0) (slice_index_or labels p None) p (record s { waiting = slice_set s.waiting p (slice_index s.waiting p - 1) })

index_take : (xs : List ℕ) (n s : ℕ) → s < n → slice_index (take n xs) s ≡ slice_index xs s
index_take xs zero s less = absurd (omega arith)
index_take [] (suc n) s less = refl
index_take (x ∷ xs) (suc n) zero less = refl
index_take (x ∷ xs) (suc n) (suc s) less = index_take xs n s (omega arith)

index_drop : (xs : List ℕ) (v s : ℕ) → slice_index (drop v xs) s ≡ slice_index xs (v + s)
index_drop xs zero s = ap (slice_index xs) (let e : s ≡ 0 + s = omega arith in e)
index_drop [] (suc v) s = refl
index_drop (x ∷ xs) (suc v) s = index_drop xs v s ∙ ap (slice_index (x ∷ xs)) (let e : suc (v + s) ≡ suc v + s = omega arith in e)

pub index_group : (of : List ℕ) (variables steps s : ℕ) → s < steps → slice_index (take steps (drop variables of)) s ≡ slice_index of (variables + s)
index_group of variables steps s less = index_take (drop variables of) steps s less ∙ index_drop of variables s

module _ (names : Naming) (of order : List ℕ) (edges : List Edge) (labels : List (Option ℕ)) (parts : AreParts names of order edges (λ g. slice_index_or labels g None)) where
  of_label : (g s : ℕ) → slice_index_or labels g None ≡ Some s → slice_index of (names.variables + s) ≡ g
  of_label g s h = (parts.of_label g s h).1

  -- a group is taken
  pub takes_one : (g : ℕ) (s t : State) → GoesOn names of order edges labels s → Takes (take names.steps (drop names.variables of)) g s t → t.waiting ≡ s.waiting → t.taken ≡ s.taken ++ g ∷ []
      → Keeps (length order) edges (λ g. slice_index_or labels g None) (λ s. slice_index of (names.variables + s)) (sources edges g) t × IsBeginning names of (λ g. slice_index_or labels g None) t.taken × (untaken (length order) t.taken < untaken (length order) s.taken)
  takes_one g s t on (inl f) waits_same more =
      let inv = on.keeps.taking in
      let at = inv.is_free g (subst (IsAmong g) (sym f.last) (among_last g t.free)) in
      let down_all = down names of order edges (λ g. slice_index_or labels g None) parts in
      let taken2 = takes_free (length order) edges (λ g. slice_index_or labels g None) (λ s. slice_index of (names.variables + s)) (slice_index s.waiting) s.free s.ready s.taken inv down_all g at.0 t.free t.ready at.1 f in (
        record {
          size = ap length waits_same ∙ on.keeps.size;
          taking = subst (λ l. IsTaking (length order) edges (λ g. slice_index_or labels g None) (λ s. slice_index of (names.variables + s)) (sources edges g) (slice_index t.waiting) t.free t.ready l) (sym more)
              (subst (λ l. IsTaking (length order) edges (λ g. slice_index_or labels g None) (λ s. slice_index of (names.variables + s)) (sources edges g) (slice_index l) t.free t.ready (s.taken ++ g ∷ [])) (sym waits_same) taken2);
        },
        subst (IsBeginning names of (λ g. slice_index_or labels g None)) (sym more) (free_goes_on names of order edges (λ g. slice_index_or labels g None) parts g s.taken on.begins at.1),
        subst (λ l. untaken (length order) l < untaken (length order) s.taken) (sym more) (untaken_fewer (length order) g s.taken at.0.less at.0.is_left),
      )
  takes_one g s t on (inr f) waits_same more =
      let inv = on.keeps.taking in
      let it = inv.is_ready f.step (subst (IsAmong f.step) (sym f.first) (inl refl)) in
      let is_step = (parts.of_label (slice_index of (names.variables + f.step)) f.step it.1).0 in
      let at : slice_index of (names.variables + f.step) ≡ g = sym (index_group of names.variables names.steps f.step is_step) ∙ f.of_group in
      let waitless = subst (Waitless (length order) (slice_index s.waiting) s.taken) at it.0 in
      let some : slice_index_or labels g None ≡ Some f.step = ap (λ x. slice_index_or labels x None) (sym at) ∙ it.1 in
      let step2 : TakesStep (λ s. slice_index of (names.variables + s)) g s.free s.ready t.free t.ready = record { step = f.step; none_free = f.none_free; none_free2 = f.none_free2; first = f.first; of_group = at; above = f.above } in
      let down_all = down names of order edges (λ g. slice_index_or labels g None) parts in
      let taken2 = takes_step (length order) edges (λ g. slice_index_or labels g None) (λ s. slice_index of (names.variables + s)) (slice_index s.waiting) s.free s.ready s.taken inv down_all g waitless t.free t.ready of_label step2 in
      let inv2 = subst (λ l. IsTaking (length order) edges (λ g. slice_index_or labels g None) (λ s. slice_index of (names.variables + s)) [] (slice_index s.waiting) l s.ready s.taken) f.none_free inv in
      let before : AreBefore names of order edges (λ g. slice_index_or labels g None) parts s.taken on.begins.before = record { there = on.begins.there; back = on.begins.back } in
      let next_one : IsNext names on.begins.before f.step = record {
        ready = ready_step names of order edges (λ g. slice_index_or labels g None) parts (slice_index s.waiting) s.ready s.taken on.begins.before inv2 before f.step (subst (IsAmong f.step) (sym f.first) (inl refl));
        first = is_first names of order edges (λ g. slice_index_or labels g None) parts (slice_index s.waiting) s.ready s.taken on.begins.before inv2 before f.step t.ready f.first f.above;
      } in (
        record {
          size = ap length waits_same ∙ on.keeps.size;
          taking = subst (λ l. IsTaking (length order) edges (λ g. slice_index_or labels g None) (λ s. slice_index of (names.variables + s)) (sources edges g) (slice_index t.waiting) t.free t.ready l) (sym more)
              (subst (λ l. IsTaking (length order) edges (λ g. slice_index_or labels g None) (λ s. slice_index of (names.variables + s)) (sources edges g) (slice_index l) t.free t.ready (s.taken ++ g ∷ [])) (sym waits_same) taken2);
        },
        subst (IsBeginning names of (λ g. slice_index_or labels g None)) (sym more) (step_goes_on names of order edges (λ g. slice_index_or labels g None) parts g s.taken on.begins f.step some next_one),
        subst (λ l. untaken (length order) l < untaken (length order) s.taken) (sym more) (untaken_fewer (length order) g s.taken waitless.less waitless.is_left),
      )

  -- and those are told that wait for it
  pub tells_them : (pending : List ℕ) (s t : State) → Keeps (length order) edges (λ g. slice_index_or labels g None) (λ s. slice_index of (names.variables + s)) pending s
      → IsBeginning names of (λ g. slice_index_or labels g None) s.taken → t ≡ told labels pending s → GoesOn names of order edges labels t
  tells_them pending s t keeps begins is =
      subst (GoesOn names of order edges labels) (sym is)
      (record {
        keeps = keeps_told (length order) edges labels (λ s. slice_index of (names.variables + s)) of_label pending s keeps;
        begins = subst (IsBeginning names of (λ g. slice_index_or labels g None)) (sym (told_taken labels pending s)) begins;
      })

  -- where none waits for nothing, all are taken
  pub ends : (s : State) → GoesOn names of order edges labels s → s.free ≡ [] → s.ready ≡ [] → IsInitOrder names (steps_of (λ g. slice_index_or labels g None) s.taken)
  ends s on no_free no_ready =
      let inv = subst (λ f. IsTaking (length order) edges (λ g. slice_index_or labels g None) (λ s. slice_index of (names.variables + s)) [] (slice_index s.waiting) f [] s.taken) no_free
      (subst (λ r. IsTaking (length order) edges (λ g. slice_index_or labels g None) (λ s. slice_index of (names.variables + s)) [] (slice_index s.waiting) s.free r s.taken) no_ready on.keeps.taking) in
      whole_order names of order edges (λ g. slice_index_or labels g None) parts s.taken on.begins
      (λ g less. all_taken (length order) edges (λ g. slice_index_or labels g None) (λ s. slice_index of (names.variables + s)) (slice_index s.waiting) s.taken inv (down names of order edges (λ g. slice_index_or labels g None) parts) (suc g) g (omega arith) less)

times_end_by : (b : Bool) (t u k : ℕ) → u ≡ t + k → (if b then suc u else u) ≡ (if b then suc t else t) + k
times_end_by true t u k e = omega arith
times_end_by false t u k e = e

times_one : (b : Bool) → (if b then suc 0 else 0) ≡ 0 + (if b then 1 else 0)
times_one true = omega arith
times_one false = omega arith

times_end : (g x : ℕ) (xs : List ℕ) → times g (xs ++ x ∷ []) ≡ times g xs + (if nat_eq x g then 1 else 0)
times_end g x [] = times_one (nat_eq x g)
times_end g x (y ∷ xs) = times_end_by (nat_eq y g) (times g xs) (times g (xs ++ x ∷ [])) (if nat_eq x g then 1 else 0) (times_end g x xs)

times_past : (n g : ℕ) → n ≤ g → times g (below n) ≡ 0
times_past zero g le = refl
times_past (suc n) g le =
    let one = times_end g n (below n) ∙ ap (λ b. times g (below n) + (if b then 1 else 0)) (not_eqb n g (λ e. omega arith)) in
    let rest = times_past n g (omega arith) in
    omega arith

times_below : (n g : ℕ) → g < n → times g (below n) ≡ 1
times_below zero g less = absurd (omega arith)
times_below (suc n) g less =
    elim (same_or g n) [
      | inl e ↦ (
          let one = times_end g n (below n) ∙ ap (λ b. times g (below n) + (if b then 1 else 0)) (eq-eqb n g (sym e)) in
          let rest = times_past n g (omega arith) in
          omega arith
          )
      | inr differ ↦ (
          let one = times_end g n (below n) ∙ ap (λ b. times g (below n) + (if b then 1 else 0)) (not_eqb n g (λ e. differ (sym e))) in
          let rest = times_below n g (omega arith) in
          omega arith
          )
    ]

below_less : (n g : ℕ) → IsAmong g (below n) → g < n
below_less zero g h = absurd h
below_less (suc n) g h = elim (among_split g (below n) (n ∷ []) h) [ inl k ↦ (let less = below_less n g k in omega arith) | inr k ↦ (let e = among_one g n k in omega arith) ]

pub starts : (n : ℕ) (edges : List Edge) (label : ℕ → Option ℕ) (group : ℕ → ℕ) (w : ℕ → ℕ) → ((g : ℕ) → g < n → w g ≡ waits edges [] g + 1) → IsTaking n edges label group (below n) w [] [] []
starts n edges label group w counts =
    record {
      counts = λ g less. (let a = counts g less in let b = times_below n g less in omega arith);
      kept = λ g less left none. absurd (let a = counts g less in omega arith);
      is_free = λ g h. absurd h;
      is_ready = λ s h. absurd h;
      to_tell = λ g h. (below_less n g h, refl);
      distinct = tt;
      closed = λ e h k. cc;
    }

pub all_within : (count size : ℕ) (xs : List ℕ) → xs ≡ below count → count ≤ size → All (λ g. g < size) xs
all_within count size xs is le = λ k d less. (
    let low = below_less count (slice_index_or xs k d) (subst (IsAmong (slice_index_or xs k d)) is (among_get xs k d less)) in
    omega arith
    )

length_take : (n : ℕ) (xs : List ℕ) → n ≤ length xs → length (take n xs) ≡ n
length_take zero xs le = refl
length_take (suc n) [] le = absurd (omega arith)
length_take (suc n) (x ∷ xs) le = let e = length_take n xs (omega arith) in omega arith

pub length_part : (of : List ℕ) (v n : ℕ) → v + n ≤ length of → length (take n (drop v of)) ≡ n
length_part of zero n le = length_take n of (omega arith)
length_part [] (suc v) n le = absurd (omega arith)
length_part (x ∷ of) (suc v) n le = length_part of v n (omega arith)

module _ (names : Naming) (of order : List ℕ) (edges : List Edge) (labels : List (Option ℕ)) (parts : AreParts names of order edges (λ g. slice_index_or labels g None)) where
  pub edges_within : (n : ℕ) → n ≡ length order → (e : Edge) → IsAmong e edges → (e.leaves < n) × (e.enters < n)
  edges_within n is e h =
      let bound = down names of order edges (λ g. slice_index_or labels g None) parts e h in
      let a = bound.0 in let b = bound.1 in
      (omega arith, omega arith)

  pub starting : (n : ℕ) → n ≡ length order → (waiting : List ℕ) → length waiting ≡ n → ((g : ℕ) → g < n → slice_index waiting g ≡ waits edges [] g + 1)
      → (pending : List ℕ) → pending ≡ below n → (s t : State) → s ≡ record { waiting = waiting; free = []; ready = []; taken = [] } → t ≡ told labels pending s → GoesOn names of order edges labels t
  starting n is waiting size counts pending all s t begin is_told =
      let first : State = record { waiting = waiting; free = []; ready = []; taken = [] } in
      let kept : Keeps (length order) edges (λ g. slice_index_or labels g None) (λ s. slice_index of (names.variables + s)) (below (length order)) first = record {
        size = size ∙ is;
        taking = starts (length order) edges (λ g. slice_index_or labels g None) (λ s. slice_index of (names.variables + s)) (slice_index waiting) (λ g less. counts g (omega arith));
      } in
      tells_them names of order edges labels parts pending s t
      (subst (λ l. Keeps (length order) edges (λ g. slice_index_or labels g None) (λ s. slice_index of (names.variables + s)) l s) (sym (all ∙ ap below is))
      (subst (Keeps (length order) edges (λ g. slice_index_or labels g None) (λ s. slice_index of (names.variables + s)) (below (length order))) (sym begin) kept))
      (subst (λ (k : State). IsBeginning names of (λ g. slice_index_or labels g None) k.taken) (sym begin) (nothing_taken names of (λ g. slice_index_or labels g None))) is_told

  pub step_within : (groups : List ℕ) → groups ≡ take names.steps (drop names.variables of) → (s : State) → GoesOn names of order edges labels s → (x : ℕ) → IsAmong x s.ready → x < length groups
  step_within groups is s on x h =
      let it = on.keeps.taking.is_ready x h in
      let less = (parts.of_label (slice_index of (names.variables + x)) x it.1).0 in
      let size = parts.components.sizes in
      let room = parts.room in
      let count = ap length is ∙ length_part of names.variables names.steps (omega arith) in
      omega arith

  -- one turn
  pub group_less : (groups : List ℕ) → groups ≡ take names.steps (drop names.variables of) → (g : ℕ) (s t : State) → GoesOn names of order edges labels s → Takes groups g s t → g < length order
  group_less groups is g s t on (inl f) = (on.keeps.taking.is_free g (subst (IsAmong g) (sym f.last) (among_last g t.free))).0.less
  group_less groups is g s t on (inr f) =
      let it = on.keeps.taking.is_ready f.step (subst (IsAmong f.step) (sym f.first) (inl refl)) in
      let is_step = (parts.of_label (slice_index of (names.variables + f.step)) f.step it.1).0 in
      let at : slice_index of (names.variables + f.step) ≡ g = sym (index_group of names.variables names.steps f.step is_step) ∙ ap (λ l. slice_index l f.step) (sym is) ∙ f.of_group in
      subst (λ x. x < length order) at it.0.less

  pub sources_within : (g size : ℕ) (xs : List ℕ) → xs ≡ sources edges g → size ≡ length order → All (λ x. x < size) xs
  sources_within g size xs is same = λ k d less. (
      let from = source edges (slice_index_or xs k d) g (subst (IsAmong (slice_index_or xs k d)) is (among_get xs k d less)) in
      let bound = (edges_within size same (record { leaves = slice_index_or xs k d; enters = g }) from.is_edge).0 in
      bound
      )

  pub turn : (groups : List ℕ) → groups ≡ take names.steps (drop names.variables of) → (g : ℕ) (s t u : State) (pending : List ℕ) → GoesOn names of order edges labels s → Takes groups g s t → t.waiting ≡ s.waiting
      → t.taken ≡ s.taken ++ g ∷ [] → pending ≡ sources edges g → u ≡ told labels pending t → GoesOn names of order edges labels u × (untaken (length order) u.taken < untaken (length order) s.taken)
  turn groups is g s t u pending on taken_one waits_same more all is_told =
      let parts3 = takes_one names of order edges labels parts g s t on (subst (λ l. Takes l g s t) is taken_one) waits_same more in (
        tells_them names of order edges labels parts pending t u (subst (λ l. Keeps (length order) edges (λ g. slice_index_or labels g None) (λ s. slice_index of (names.variables + s)) l t) (sym all) parts3.0) parts3.1 is_told,
        subst (λ l. untaken (length order) l < untaken (length order) s.taken) (sym (ap (λ (k : State). k.taken) is_told ∙ told_taken labels pending t)) parts3.2,
      )
