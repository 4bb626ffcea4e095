-- A search that follows every rule of a number when it takes the number from the queue finds the least set.
use Rattle.std.proofs.Common.{◌≡◌, ◌≢◌, ◌⊎◌, ◌<◌, ◌≤◌, ◌+◌, ◌*◌, ℕ, zero, suc, List, [], ◌∷◌, ◌++◌, Bool, true, false, refl, sym, ap, ◌∙◌, subst, inl, inr, length, arith, length-append, length-set, get_or-set_same}
use Rattle.std.specs.Prelude.{◌&&◌, not, nat_lt, slice_set, if◌then◌else◌}
use Rattle.std.proofs.lemmas.Bool.{false≢true}
use borrow.Author.Tests.{ltb-true, ltb-false}
use Rattle.cg_solve.specs.declared.solving.Rule.{Rule}
use Rattle.cg_solve.specs.declared.table.Table.{Table}
use Rattle.cg_solve.specs.Lists.{Has}
use Rattle.cg_solve.specs.Tables.{row}
use Rattle.cg_solve.specs.LeastSets.{Derives, IsIndex, marked, Found, added, added_all, followed, Settled, IsSearch, IsSolved, unmarked}
use Rattle.cg_solve.proofs.Members.{Has-left, Has-right, Has-cases}

-- what holds of the seeds and is kept by the rules holds of the least set
pub derived : (seeds : List ℕ) (rules : List Rule) (Q : ℕ → Type 0) → ((n : ℕ) → Has seeds n → Q n) → ((r : Rule) → Has rules r → Q r.left → Q r.right → Q r.then) → (n : ℕ) → Derives seeds rules n → Q n
derived seeds rules Q start step _ (Derives.seed n h) = start n h
derived seeds rules Q start step _ (Derives.rule r h a b) = step r h (derived seeds rules Q start step r.left a) (derived seeds rules Q start step r.right b)

-- what adding a number leaves: nothing changed, or the number is new
pub data Adds (n : ℕ) (s : Found) : Found → Type 0 where
  stays : (length s.marks ≤ n) ⊎ (marked s.marks n ≡ true) → Adds n s s
  grows : n < length s.marks → marked s.marks n ≡ false → Adds n s (record { marks = slice_set s.marks n true; queue = s.queue ++ n ∷ []; found = s.found ++ n ∷ [] })

adds_by : (n : ℕ) (s : Found) (a b : Bool) → nat_lt n (length s.marks) ≡ a → marked s.marks n ≡ b → Adds n s (if a && not b then record { marks = slice_set s.marks n true; queue = s.queue ++ n ∷ []; found = s.found ++ n ∷ [] } else s)
adds_by n s true true e f = Adds.stays (inr f)
adds_by n s true false e f = Adds.grows (omega (arith, ltb-true n (length s.marks) e)) f
adds_by n s false b e f = Adds.stays (inl (omega (arith, ltb-false n (length s.marks) e)))

pub adds : (n : ℕ) (s : Found) → Adds n s (added n s)
adds n s = adds_by n s (nat_lt n (length s.marks)) (marked s.marks n) refl refl

marked_set : (ms : List Bool) (n k : ℕ) → marked ms k ≡ true → marked (slice_set ms n true) k ≡ true
marked_set [] n k h = h
marked_set (b ∷ bs) zero zero h = refl
marked_set (b ∷ bs) zero (suc k) h = h
marked_set (b ∷ bs) (suc n) zero h = h
marked_set (b ∷ bs) (suc n) (suc k) h = marked_set bs n k h

marked_at : (ms : List Bool) (n : ℕ) → n < length ms → marked (slice_set ms n true) n ≡ true
marked_at ms n h = get_or-set_same ms n true false h

marked_cases : (ms : List Bool) (n k : ℕ) → marked (slice_set ms n true) k ≡ true → (marked ms k ≡ true) ⊎ (k ≡ n)
marked_cases [] n k h = inl h
marked_cases (b ∷ bs) zero zero h = inr refl
marked_cases (b ∷ bs) zero (suc k) h = inl h
marked_cases (b ∷ bs) (suc n) zero h = inl h
marked_cases (b ∷ bs) (suc n) (suc k) h = elim (marked_cases bs n k h) [ inl g ↦ inl g | inr e ↦ inr (ap suc e) ]

unmarked_set : (ms : List Bool) (n : ℕ) → n < length ms → marked ms n ≡ false → suc (unmarked (slice_set ms n true)) ≡ unmarked ms
unmarked_set [] n h e = absurd (omega arith)
unmarked_set (true ∷ bs) zero h e = absurd (cc)
unmarked_set (false ∷ bs) zero h e = refl
unmarked_set (true ∷ bs) (suc n) h e = unmarked_set bs n (omega arith) e
unmarked_set (false ∷ bs) (suc n) h e = ap suc (unmarked_set bs n (omega arith) e)

-- what is still to be done
abbrev pub weight : Found → ℕ
weight s = 2 * unmarked s.marks + length s.queue

Adds-marked : (n k : ℕ) (s t : Found) → Adds n s t → marked s.marks k ≡ true → marked t.marks k ≡ true
Adds-marked n k s _ (Adds.stays c) h = h
Adds-marked n k s _ (Adds.grows c e) h = marked_set s.marks n k h

Adds-queue : (n k : ℕ) (s t : Found) → Adds n s t → Has s.queue k → Has t.queue k
Adds-queue n k s _ (Adds.stays c) h = h
Adds-queue n k s _ (Adds.grows c e) h = Has-left s.queue (n ∷ []) k h

Adds-found : (n k : ℕ) (s t : Found) → Adds n s t → Has s.found k → Has t.found k
Adds-found n k s _ (Adds.stays c) h = h
Adds-found n k s _ (Adds.grows c e) h = Has-left s.found (n ∷ []) k h

Adds-only : (n k : ℕ) (s t : Found) → Adds n s t → ((j : ℕ) → Has s.found j → marked s.marks j ≡ true) → Has t.found k → marked t.marks k ≡ true
Adds-only n k s _ (Adds.stays c) f h = f k h
Adds-only n k s _ (Adds.grows c e) f h = elim (Has-cases s.found (n ∷ []) k h) [ inl g ↦ marked_set s.marks n k (f k g) | inr (inl i) ↦ subst (λ j. marked (slice_set s.marks n true) j ≡ true) i (marked_at s.marks n c) | inr (inr g) ↦ absurd g ]

abbrev IsNew : ℕ → Found → ℕ → Type 0
IsNew n t k = (k ≡ n) × Has t.queue k × Has t.found k

Adds-cases : (n k : ℕ) (s t : Found) → Adds n s t → marked t.marks k ≡ true → (marked s.marks k ≡ true) ⊎ IsNew n t k
Adds-cases n k s _ (Adds.stays c) h = inl h
Adds-cases n k s _ (Adds.grows c e) h = elim (marked_cases s.marks n k h) [ inl g ↦ inl g | inr i ↦ inr (i, Has-right s.queue (n ∷ []) k (inl (sym i)), Has-right s.found (n ∷ []) k (inl (sym i))) ]

Adds-length : (n : ℕ) (s t : Found) → Adds n s t → length t.marks ≡ length s.marks
Adds-length n s _ (Adds.stays c) = refl
Adds-length n s _ (Adds.grows c e) = length-set s.marks n true

Adds-at : (n : ℕ) (s t : Found) → Adds n s t → n < length s.marks → marked t.marks n ≡ true
Adds-at n s _ (Adds.stays (inl c)) h = absurd (omega arith)
Adds-at n s _ (Adds.stays (inr c)) h = c
Adds-at n s _ (Adds.grows c e) h = marked_at s.marks n h

Adds-weight : (n : ℕ) (s t : Found) → Adds n s t → weight t ≤ weight s
Adds-weight n s _ (Adds.stays c) = omega arith
Adds-weight n s _ (Adds.grows c e) = let a = unmarked_set s.marks n c e in let b = length-append s.queue (n ∷ []) in omega arith

Settled-more : (n : ℕ) (s t : Found) (r : Rule) → Adds n s t → Settled s r → Settled t r
Settled-more n s t r a (inl h) = inl (Adds-marked n r.then s t a h)
Settled-more n s t r a (inr (inl h)) = inr (inl (Adds-queue n r.left s t a h))
Settled-more n s t r a (inr (inr h)) = inr (inr (Adds-queue n r.right s t a h))

module _ (seeds : List ℕ) (rules : List Rule) where
  -- a number with a derivation is added
  add_kept : (due : List Rule) (n : ℕ) (s t : Found) → Adds n s t → Derives seeds rules n → IsSearch seeds rules due s → IsSearch seeds rules due t
  add_kept due n s t a d i = record {
    sound = λ k h. elim (Adds-cases n k s t a h) [ inl g ↦ i.sound k g | inr g ↦ subst (Derives seeds rules) (sym g.0) d ];
    starts = λ k h. Adds-marked n k s t a (i.starts k h);
    listed = λ k h. elim (Adds-cases n k s t a h) [ inl g ↦ Adds-found n k s t a (i.listed k g) | inr g ↦ g.2 ];
    only = λ k h. Adds-only n k s t a i.only h;
    room = λ r h. let e = Adds-length n s t a in let l = i.room r h in omega arith;
    closed = λ r h l m. closes r h (Adds-cases n r.left s t a l) (Adds-cases n r.right s t a m);
  }
    where
      closes : (r : Rule) → Has rules r → (marked s.marks r.left ≡ true) ⊎ IsNew n t r.left → (marked s.marks r.right ≡ true) ⊎ IsNew n t r.right → Settled t r ⊎ Has due r
      closes r h (inr l) m = inl (inr (inl l.1))
      closes r h (inl l) (inr m) = inl (inr (inr m.1))
      closes r h (inl l) (inl m) = elim (i.closed r h l m) [ inl g ↦ inl (Settled-more n s t r a g) | inr g ↦ inr g ]

  -- a rule that needs what was not found is not due
  drop_due : (r : Rule) (due : List Rule) (s : Found) → IsSearch seeds rules (r ∷ due) s → (marked s.marks r.left ≡ true → marked s.marks r.right ≡ true → ⊥) → IsSearch seeds rules due s
  drop_due r due s i n = record {
    sound = i.sound;
    starts = i.starts;
    listed = i.listed;
    only = i.only;
    room = i.room;
    closed = λ q k l m. elim (i.closed q k l m) [ inl g ↦ inl g | inr (inl g) ↦ absurd (n (subst (λ (x : Rule). marked s.marks x.left ≡ true) (sym g) l) (subst (λ (x : Rule). marked s.marks x.right ≡ true) (sym g) m)) | inr (inr g) ↦ inr g ];
  }

  -- the first rule that is due is followed
  follow_by : (r : Rule) (due : List Rule) (s : Found) (a b : Bool) → marked s.marks r.left ≡ a → marked s.marks r.right ≡ b → Has rules r → IsSearch seeds rules (r ∷ due) s → IsSearch seeds rules due (if a && b then added r.then s else s)
  follow_by r due s true true e f h i =
      let a = adds r.then s in
      let j = add_kept (r ∷ due) r.then s (added r.then s) a (Derives.rule r h (i.sound r.left e) (i.sound r.right f)) i in
      record {
        sound = j.sound;
        starts = j.starts;
        listed = j.listed;
        only = j.only;
        room = j.room;
        closed = λ q k l m. elim (j.closed q k l m) [ inl g ↦ inl g | inr (inl g) ↦ inl (inl (subst (λ (x : Rule). marked (added r.then s).marks x.then ≡ true) g (Adds-at r.then s (added r.then s) a (i.room r h)))) | inr (inr g) ↦ inr g ];
      }
  follow_by r due s true false e f h i = drop_due r due s i (λ l m. false≢true (sym f ∙ m))
  follow_by r due s false b e f h i = drop_due r due s i (λ l m. false≢true (sym e ∙ l))

  pub follow_kept : (due : List Rule) (s : Found) → ((r : Rule) → Has due r → Has rules r) → IsSearch seeds rules due s → IsSearch seeds rules [] (followed due s)
  follow_kept [] s h i = i
  follow_kept (r ∷ due) s h i = follow_kept due _ (λ q k. h q (inr k)) (follow_by r due s (marked s.marks r.left) (marked s.marks r.right) refl refl (h r (inl refl)) i)

  -- a number is taken from the queue: its rules are due
  pub take_kept : (table : Table Rule) → IsIndex rules table → (s : Found) (rest : List ℕ) (n : ℕ) → s.queue ≡ rest ++ n ∷ [] → IsSearch seeds rules [] s → IsSearch seeds rules (row table n) record { marks = s.marks; queue = rest; found = s.found }
  take_kept table x s rest n e i = record {
    sound = i.sound;
    starts = i.starts;
    listed = i.listed;
    only = i.only;
    room = i.room;
    closed = λ r h l m. elim (i.closed r h l m) [ inl g ↦ now r h g | inr g ↦ absurd g ];
  }
    where
      left : (r : Rule) → Has rules r → (r.left ≡ n) → Has (row table n) r
      left r h e = subst (λ k. Has (row table k) r) e (x.left r h)

      right : (r : Rule) → Has rules r → (r.right ≡ n) → Has (row table n) r
      right r h e = subst (λ k. Has (row table k) r) e (x.right r h)

      of_two : (k : ℕ) → Has s.queue k → Has rest k ⊎ (k ≡ n)
      of_two k h = elim (Has-cases rest (n ∷ []) k (subst (λ q. Has q k) e h)) [ inl g ↦ inl g | inr (inl g) ↦ inr (sym g) | inr (inr g) ↦ absurd g ]

      now : (r : Rule) → Has rules r → Settled s r → Settled (record { marks = s.marks; queue = rest; found = s.found }) r ⊎ Has (row table n) r
      now r h (inl g) = inl (inl g)
      now r h (inr (inl g)) = elim (of_two r.left g) [ inl k ↦ inl (inr (inl k)) | inr k ↦ inr (left r h k) ]
      now r h (inr (inr g)) = elim (of_two r.right g) [ inl k ↦ inl (inr (inr k)) | inr k ↦ inr (right r h k) ]

  -- with nothing in the queue, what was found is the least set
  pub exact : (s : Found) → s.queue ≡ [] → IsSearch seeds rules [] s → IsSolved seeds rules s
  exact s e i = record { exact = λ n. (i.sound n, derived seeds rules (λ k. marked s.marks k ≡ true) i.starts closes n); listed = i.listed; only = i.only; room = i.room }
    where
      none : (k : ℕ) → Has s.queue k → ⊥
      none k h = subst (λ q. Has q k) e h

      closes : (r : Rule) → Has rules r → marked s.marks r.left ≡ true → marked s.marks r.right ≡ true → marked s.marks r.then ≡ true
      closes r h l m = elim (i.closed r h l m) [ inl (inl g) ↦ g | inl (inr (inl g)) ↦ absurd (none r.left g) | inl (inr (inr g)) ↦ absurd (none r.right g) | inr g ↦ absurd g ]

le_both : (a b c : ℕ) → a ≤ b → b ≤ c → a ≤ c
le_both a b c h k = omega arith

-- the weight falls when a number is taken and rules are followed
pub followed_weight : (rs : List Rule) (s : Found) → weight (followed rs s) ≤ weight s
followed_weight [] s = omega arith
followed_weight (r ∷ rs) s = le_both _ _ _ (followed_weight rs _) (one_less (marked s.marks r.left && marked s.marks r.right))
  where
    one_less : (b : Bool) → weight (if b then added r.then s else s) ≤ weight s
    one_less true = Adds-weight r.then s (added r.then s) (adds r.then s)
    one_less false = omega arith

-- the numbers that were added, where nothing was found before
record IsStart (all seeds : List ℕ) (rules : List Rule) (s : Found) : Type 0 where
  sound : (n : ℕ) → marked s.marks n ≡ true → Has all n
  queued : (n : ℕ) → marked s.marks n ≡ true → Has s.queue n
  listed : (n : ℕ) → marked s.marks n ≡ true → Has s.found n
  only : (n : ℕ) → Has s.found n → marked s.marks n ≡ true
  added : (n : ℕ) → Has all n → (marked s.marks n ≡ true) ⊎ Has seeds n
  room : (r : Rule) → Has rules r → r.then < length s.marks
  place : (n : ℕ) → Has seeds n → n < length s.marks

start_more : (all : List ℕ) (n : ℕ) (seeds : List ℕ) (rules : List Rule) (s t : Found) → Adds n s t → Has all n → IsStart all (n ∷ seeds) rules s → IsStart all seeds rules t
start_more all n seeds rules s t a h i = record {
  sound = λ k m. elim (Adds-cases n k s t a m) [ inl g ↦ i.sound k g | inr g ↦ subst (Has all) (sym g.0) h ];
  queued = λ k m. elim (Adds-cases n k s t a m) [ inl g ↦ Adds-queue n k s t a (i.queued k g) | inr g ↦ g.1 ];
  listed = λ k m. elim (Adds-cases n k s t a m) [ inl g ↦ Adds-found n k s t a (i.listed k g) | inr g ↦ g.2 ];
  only = λ k m. Adds-only n k s t a i.only m;
  added = λ k m. elim (i.added k m) [ inl g ↦ inl (Adds-marked n k s t a g) | inr (inl e) ↦ inl (subst (λ j. marked t.marks j ≡ true) e (Adds-at n s t a (i.place n (inl refl)))) | inr (inr g) ↦ inr g ];
  room = λ r k. let e = Adds-length n s t a in let l = i.room r k in omega arith;
  place = λ k m. let e = Adds-length n s t a in let l = i.place k (inr m) in omega arith;
}

start_all : (all seeds : List ℕ) (rules : List Rule) (s : Found) → ((n : ℕ) → Has seeds n → Has all n) → IsStart all seeds rules s → IsStart all [] rules (added_all seeds s)
start_all all [] rules s h i = i
start_all all (n ∷ seeds) rules s h i = start_all all seeds rules (added n s) (λ k m. h k (inr m)) (start_more all n seeds rules s (added n s) (adds n s) (h n (inl refl)) i)

-- the search begins with the seeds
pub begun : (seeds : List ℕ) (rules : List Rule) (marks : List Bool) → ((k : ℕ) → marked marks k ≡ false) → ((r : Rule) → Has rules r → r.then < length marks) → ((n : ℕ) → Has seeds n → n < length marks) → IsSearch seeds rules [] (added_all seeds record { marks = marks; queue = []; found = [] })
begun seeds rules marks f room place =
    let i = start_all seeds seeds rules record { marks = marks; queue = []; found = [] } (λ n h. h) record {
      sound = λ n m. absurd (false≢true (sym (f n) ∙ m));
      queued = λ n m. absurd (false≢true (sym (f n) ∙ m));
      listed = λ n m. absurd (false≢true (sym (f n) ∙ m));
      only = λ n m. absurd m;
      added = λ n h. inr h;
      room = room;
      place = place;
    } in
    record {
      sound = λ n m. Derives.seed n (i.sound n m);
      starts = λ n h. elim (i.added n h) [ inl g ↦ g | inr g ↦ absurd g ];
      listed = i.listed;
      only = i.only;
      room = i.room;
      closed = λ r h l m. inl (inr (inl (i.queued r.left l)));
    }

marked_past : (ms : List Bool) (n : ℕ) → length ms ≤ n → marked ms n ≡ true → ⊥
marked_past [] n h e = false≢true e
marked_past (b ∷ bs) zero h e = absurd (omega arith)
marked_past (b ∷ bs) (suc n) h e = marked_past bs n (omega arith) e

marked_unset : (ms : List Bool) (n k : ℕ) → marked (slice_set ms n false) k ≡ true → (marked ms k ≡ true) × (k ≢ n)
marked_unset [] n k h = absurd (false≢true h)
marked_unset (b ∷ bs) zero zero h = absurd (false≢true h)
marked_unset (b ∷ bs) zero (suc k) h = (h, omega arith)
marked_unset (b ∷ bs) (suc n) zero h = (h, omega arith)
marked_unset (b ∷ bs) (suc n) (suc k) h = let r = marked_unset bs n k h in (r.0, (let d = r.1 in omega arith))

last_of : (rest : List ℕ) (n k : ℕ) → Has (rest ++ n ∷ []) k → (Has rest k) ⊎ (n ≡ k)
last_of rest n k h = elim (Has-cases rest (n ∷ []) k h) [ inl g ↦ inl g | inr (inl e) ↦ inr e | inr (inr g) ↦ absurd g ]

-- the mark of a number that was found is taken away
pub cleared : (ms : List Bool) (found rest : List ℕ) (n : ℕ) → found ≡ rest ++ n ∷ [] → ((k : ℕ) → marked ms k ≡ true → Has found k) → (k : ℕ) → marked (slice_set ms n false) k ≡ true → Has rest k
cleared ms found rest n e f k h =
    let r = marked_unset ms n k h in
    elim (last_of rest n k (subst (λ l. Has l k) e (f k r.0))) [ inl g ↦ g | inr i ↦ absurd (r.1 (sym i)) ]

pub past_cleared : (ms : List Bool) (found rest : List ℕ) (n : ℕ) → found ≡ rest ++ n ∷ [] → length ms ≤ n → ((k : ℕ) → marked ms k ≡ true → Has found k) → (k : ℕ) → marked ms k ≡ true → Has rest k
past_cleared ms found rest n e l f k h =
    elim (last_of rest n k (subst (λ l. Has l k) e (f k h))) [ inl g ↦ g | inr i ↦ absurd (marked_past ms n l (subst (λ j. marked ms j ≡ true) (sym i) h)) ]

pub nothing_marked : (ms : List Bool) → ((k : ℕ) → marked ms k ≡ true → ⊥) → (k : ℕ) → marked ms k ≡ false
nothing_marked ms f k = by (marked ms k) (f k)
  where
    by : (b : Bool) → (b ≡ true → ⊥) → b ≡ false
    by true g = absurd (g refl)
    by false g = refl
