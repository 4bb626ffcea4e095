-- Who may run, and channels that change: what stood in them rightly stands so still.
use Rattle.std.proofs.Common.{◌≡◌, ◌⊎◌, inl, inr, ⊎_elim, ◌<◌, ◌==◌, ℕ, zero, suc, Bool, true, false, not, cond, if◌then◌else◌, nat_lt, List, [], ◌∷◌, length, map, filter, Some, refl, sym, subst, ap, ◌∙◌, slice_get, slice_set, true≢false}
use Rattle.std.proofs.lemmas.List.{length-map}
use Rattle.std.proofs.lemmas.Option.{none-some}
use Rattle.std.specs.Cmp.{unsigned_Decides}
use Rattle.std.specs.Option.{option_map_or}
use Rattle.code_safety.proofs.Lists.{get_set, get_set_other, length_set, get_either, get_drop, some_same}
use Rattle.code_safety.proofs.Machines.{SchedFits, ChannelFits, SenderFits, ReceiverFits, WaitsAt, MaySend, MayReceive, IsIn}
use Rattle.code_safety.proofs.Members.{same_or_other}
use Rattle.code_safety.proofs.Shapes.{Alike, alike_trans}
use Rattle.code_safety.proofs.Throwing.{sched_smaller}
use Rattle.code_safety.proofs.Values.{Typing, IsOf, IsChanOf}
use Rattle.go_base.specs.declared.ids.ChanId.{ChanId}
use Rattle.go_base.specs.declared.ids.GoId.{GoId}
use Rattle.go_base.specs.declared.ids.TypeId.{TypeId}
use Rattle.go_sched.specs.Channels.{Chan, Sending, is_other, left_by, with_value, with_sender, with_receiver, without_value, without_receiver, closed_down, moved_on, passed_on}
use Rattle.go_sched.specs.Goroutines.{State, with_chan, changed, inserted, removed, stopped, gone_on}
use Rattle.go_sched.specs.declared.channels.Receiver.{Receiver}
use Rattle.go_value.specs.Values.{Val}
use Rattle.ssa_ir.specs.declared.code.Code.{Code}
use Rattle.ssa_ir.specs.declared.code.Function.{Function}
use Rattle.ssa_ir.specs.declared.ops.Op.{Op}
use Rattle.ssa_ir.specs.declared.ops.Op.TheVariants as op
use Rattle.ssa_mean.specs.State.{Goroutine}

-- ---- who may run

pub in_inserted : (n : ℕ) (xs : List ℕ) → IsIn n (inserted n xs)
in_inserted n [] = inl refl
in_inserted n (x ∷ xs) = by (nat_lt n x) (x == n) refl (in_inserted n xs)
  where
    by : (less same : Bool) → (x == n) ≡ same → IsIn n (inserted n xs)
        → IsIn n (if less then n ∷ x ∷ xs else (if same then x ∷ xs else x ∷ inserted n xs))
    by true same e rest = inl refl
    by false true e rest = inl ((unsigned_Decides x n).0 e)
    by false false e rest = inr rest

pub inserted_keeps : (n k : ℕ) (xs : List ℕ) → IsIn k xs → IsIn k (inserted n xs)
inserted_keeps n k [] h = absurd h
inserted_keeps n k (x ∷ xs) h = by (nat_lt n x) (x == n) h (inserted_keeps n k xs)
  where
    by : (less same : Bool) → IsIn k (x ∷ xs) → (IsIn k xs → IsIn k (inserted n xs))
        → IsIn k (if less then n ∷ x ∷ xs else (if same then x ∷ xs else x ∷ inserted n xs))
    by true same h rest = inr h
    by false true h rest = h
    by false false (inl e) rest = inl e
    by false false (inr h) rest = inr (rest h)

pub inserted_from : (n k : ℕ) (xs : List ℕ) → IsIn k (inserted n xs) → (n ≡ k) ⊎ IsIn k xs
inserted_from n k [] (inl e) = inl e
inserted_from n k [] (inr h) = absurd h
inserted_from n k (x ∷ xs) h = by (nat_lt n x) (x == n) (inserted_from n k xs) h
  where
    by : (less same : Bool) → (IsIn k (inserted n xs) → (n ≡ k) ⊎ IsIn k xs)
        → IsIn k (if less then n ∷ x ∷ xs else (if same then x ∷ xs else x ∷ inserted n xs)) → (n ≡ k) ⊎ IsIn k (x ∷ xs)
    by true same rest (inl e) = inl e
    by true same rest (inr h) = inr h
    by false true rest h = inr h
    by false false rest (inl e) = inr (inl e)
    by false false rest (inr h) = ⊎_elim (λ e. inl e) (λ old. inr (inr old)) (rest h)

pub removed_from : (n k : ℕ) (xs : List ℕ) → IsIn k (removed n xs) → IsIn k xs
removed_from n k [] h = h
removed_from n k (x ∷ xs) h = by (not (x == n)) (removed_from n k xs) h
  where
    by : (b : Bool) → (IsIn k (removed n xs) → IsIn k xs) → IsIn k (cond b (x ∷ removed n xs) (removed n xs))
        → IsIn k (x ∷ xs)
    by true rest (inl e) = inl e
    by true rest (inr h) = inr (rest h)
    by false rest h = inr (rest h)

pub removed_not : (n : ℕ) (xs : List ℕ) → IsIn n (removed n xs) → ⊥
removed_not n [] h = h
removed_not n (x ∷ xs) h = by (x == n) refl (removed_not n xs) h
  where
    by : (same : Bool) → (x == n) ≡ same → (IsIn n (removed n xs) → ⊥)
        → IsIn n (cond (not same) (x ∷ removed n xs) (removed n xs)) → ⊥
    by true e rest h = rest h
    by false e rest (inl same) = true≢false (sym ((unsigned_Decides x n).1 same) ∙ e)
    by false e rest (inr h) = rest h

-- ---- who is in lists

pub filter_from : {A : Type 0} (p : A → Bool) (xs : List A) (n : ℕ) (x : A) → slice_get (filter p xs) n ≡ Some x
    → (k : ℕ) × ((slice_get xs k ≡ Some x) × (p x ≡ true))
filter_from p [] n x is = absurd (none-some x is)
filter_from {A = A} p (y ∷ ys) n x is = by (p y) refl n (filter_from p ys) is
  where
    by : (b : Bool) → p y ≡ b → (n : ℕ)
        → ((n : ℕ) (x : A) → slice_get (filter p ys) n ≡ Some x → (k : ℕ) × ((slice_get ys k ≡ Some x) × (p x ≡ true)))
        → slice_get (cond b (y ∷ filter p ys) (filter p ys)) n ≡ Some x
        → (k : ℕ) × ((slice_get (y ∷ ys) k ≡ Some x) × (p x ≡ true))
    by true e zero rest is = (0, (is, ap p (sym (some_same y x is)) ∙ e))
    by true e (suc n) rest is = let found = rest n x is in (suc found.0, found.1)
    by false e n rest is = let found = rest n x is in (suc found.0, found.1)

pub map_from : {A B : Type 0} (f : A → B) (xs : List A) (n : ℕ) (y : B) → slice_get (map f xs) n ≡ Some y
    → (x : A) × ((slice_get xs n ≡ Some x) × (f x ≡ y))
map_from f [] n y is = absurd (none-some y is)
map_from f (x ∷ xs) zero y is = (x, (refl, some_same (f x) y is))
map_from f (x ∷ xs) (suc n) y is = map_from f xs n y is

pub is_apart : (n : ℕ) (it : GoId) → is_other n it ≡ true → n ≡ it.number → ⊥
is_apart n it h same =
    true≢false (sym h ∙ ap not ((unsigned_Decides it.number n).1 (sym same)))

-- ---- channels that change

pub left_fits : (c : Code) (t : Typing) (goroutines : List Goroutine) (n : ℕ) (runnable : List ℕ) (chan : Chan) (elem : TypeId)
    → ChannelFits c t goroutines runnable chan elem
    → ChannelFits c t goroutines (inserted n runnable) (left_by n chan) elem
left_fits c t goroutines n runnable chan elem fits =
    record {
      queue = fits.queue;
      senders = λ k it is.
          let found = filter_from (λ (it : Sending). is_other n it.goroutine) chan.senders k it is in
          let old = fits.senders found.0 it found.1.0 in
          record {
            value = old.value;
            waits = old.waits;
            sends = old.sends;
            sleeps = λ runs.
                ⊎_elim (is_apart n it.goroutine found.1.1) old.sleeps (inserted_from n it.goroutine.number runnable runs);
          };
      receivers = λ k it is.
          let found = filter_from (λ (it : Receiver). is_other n it.goroutine) chan.receivers k it is in
          let old = fits.receivers found.0 it found.1.0 in
          record {
            waits = old.waits;
            receives = old.receives;
            sleeps = λ runs.
                ⊎_elim (is_apart n it.goroutine found.1.1) old.sleeps (inserted_from n it.goroutine.number runnable runs);
          };
    }

pub gone_on_fits : (c : Code) (t : Typing) (goroutines : List Goroutine) (it : GoId) (state : State)
    → SchedFits c t goroutines state → it.number < length goroutines → SchedFits c t goroutines (gone_on it state)
gone_on_fits c t goroutines it state fits less =
    record {
      count = fits.count;
      below = λ n h.
          ⊎_elim (λ e. subst (λ n. n < length goroutines) e less) (fits.below n)
          (inserted_from it.number n state.runnable h);
      chans = fits.chans ∙ sym (length-map state.channels (left_by it.number));
      channels = λ k chan elem is there.
          let old = map_from (left_by it.number) state.channels k chan is in
          subst (λ chan. ChannelFits c t goroutines (inserted it.number state.runnable) chan elem) old.1.1
          (left_fits c t goroutines it.number state.runnable old.0 elem (fits.channels k old.0 elem old.1.0 there));
    }

pub with_chan_fits : (c : Code) (t : Typing) (goroutines : List Goroutine) (id : ChanId) (old new : Chan) (state : State)
    → SchedFits c t goroutines state → slice_get state.channels id.number ≡ Some old
    → ((elem : TypeId) → slice_get t.chans id.number ≡ Some elem → ChannelFits c t goroutines state.runnable new elem)
    → SchedFits c t goroutines (with_chan id new state)
with_chan_fits c t goroutines id old new state fits there is =
    record {
      count = fits.count;
      below = fits.below;
      chans = fits.chans ∙ sym (length_set state.channels id.number new);
      channels = λ k chan elem at has.
          ⊎_elim (λ same. subst (λ chan. ChannelFits c t goroutines state.runnable chan elem)
          (some_same new chan (sym (get_set state.channels id.number new old there)
          ∙ ap (slice_get (slice_set state.channels id.number new)) (sym same) ∙ at))
          (is elem (ap (slice_get t.chans) (sym same) ∙ has)))
          (λ other. fits.channels k chan elem (sym (get_set_other state.channels id.number k new other) ∙ at) has)
          (same_or_other k id.number);
    }

pub stopped_fits : (c : Code) (t : Typing) (goroutines : List Goroutine) (state : State) → SchedFits c t goroutines state
    → SchedFits c t goroutines (stopped state)
stopped_fits c t goroutines state fits =
    sched_smaller c t goroutines state (stopped state) fits refl refl
    (λ n. removed_from state.current.number n state.runnable)

pub changed_is : (change : Chan → Chan) (id : ChanId) (state : State) (chan : Chan)
    → slice_get state.channels id.number ≡ Some chan → changed change id state ≡ with_chan id (change chan) state
changed_is change id state chan there =
    ap (λ found. option_map_or (λ chan. with_chan id (change chan) state) found state) there

-- ---- what a channel is for

pub may_receive_alike : (c : Code) (f : Function) (index : ℕ) (a b : TypeId) → Alike c.types a b → (it : Op)
    → MayReceive c f index b it → MayReceive c f index a it
may_receive_alike c f index a b like (op.Receive channel comma_ok) h =
    record { of = h.of; is = h.is; alike = alike_trans c.types a b h.of like h.alike }
may_receive_alike c f index a b like (op.Select blocking cases) h =
    (h.0, (h.1.0, record { of = h.1.1.of; is = h.1.1.is; alike = alike_trans c.types a b h.1.1.of like h.1.1.alike }))
may_receive_alike c f index a b like _ h = absurd h

-- the elements of the channel are alike
pub chan_elem : (c : Code) (t : Typing) (id : ChanId) (elem of : TypeId) → IsChanOf c t id elem
    → slice_get t.chans id.number ≡ Some of → Alike c.types of elem
chan_elem c t id elem of is there =
    subst (λ of. Alike c.types of elem) (some_same is.of of (sym is.there ∙ there)) is.alike

-- ---- the current goroutine comes to wait

pub sender_entered : (c : Code) (t : Typing) (goroutines : List Goroutine) (n : ℕ) (runnable : List ℕ)
    (waits : WaitsAt c goroutines n) (it : Sending) → it.goroutine.number ≡ n → MaySend waits.instr.op → (chan : Chan)
    (elem : TypeId) → IsOf c t it.value elem → ChannelFits c t goroutines (removed n runnable) chan elem
    → ChannelFits c t goroutines (removed n runnable) (with_sender it chan) elem
sender_entered c t goroutines n runnable waits it same may chan elem value fits =
    record {
      queue = fits.queue;
      senders = λ k other is.
          ⊎_elim (fits.senders k other)
          (λ e. subst (SenderFits c t goroutines (removed n runnable) elem) e new)
          (get_either chan.senders it k other is);
      receivers = fits.receivers;
    }
  where
    new : SenderFits c t goroutines (removed n runnable) elem it
    new =
        record {
          value = value;
          waits = record {
            g = waits.g;
            there = ap (slice_get goroutines) same ∙ waits.there;
            top = waits.top;
            below = waits.below;
            frames = waits.frames;
            calm = waits.calm;
            runs = waits.runs;
            function = waits.function;
            is_function = waits.is_function;
            instr = waits.instr;
            at = waits.at;
          };
          sends = may;
          sleeps = λ runs. removed_not n runnable (subst (λ k. IsIn k (removed n runnable)) same runs);
        }

pub receiver_entered : (c : Code) (t : Typing) (goroutines : List Goroutine) (n : ℕ) (runnable : List ℕ)
    (waits : WaitsAt c goroutines n) (it : Receiver) → it.goroutine.number ≡ n → (chan : Chan) (elem : TypeId)
    → MayReceive c waits.function it.index elem waits.instr.op → ChannelFits c t goroutines (removed n runnable) chan elem
    → ChannelFits c t goroutines (removed n runnable) (with_receiver it chan) elem
receiver_entered c t goroutines n runnable waits it same chan elem may fits =
    record {
      queue = fits.queue;
      senders = fits.senders;
      receivers = λ k other is.
          ⊎_elim (fits.receivers k other)
          (λ e. subst (ReceiverFits c goroutines (removed n runnable) elem) e new)
          (get_either chan.receivers it k other is);
    }
  where
    new : ReceiverFits c goroutines (removed n runnable) elem it
    new =
        record {
          waits = record {
            g = waits.g;
            there = ap (slice_get goroutines) same ∙ waits.there;
            top = waits.top;
            below = waits.below;
            frames = waits.frames;
            calm = waits.calm;
            runs = waits.runs;
            function = waits.function;
            is_function = waits.is_function;
            instr = waits.instr;
            at = waits.at;
          };
          receives = may;
          sleeps = λ runs. removed_not n runnable (subst (λ k. IsIn k (removed n runnable)) same runs);
        }

-- ---- channels from which one is taken

pub receiver_left : (c : Code) (t : Typing) (goroutines : List Goroutine) (runnable : List ℕ) (chan : Chan) (elem : TypeId)
    → ChannelFits c t goroutines runnable chan elem
    → ChannelFits c t goroutines runnable (without_receiver chan) elem
receiver_left c t goroutines runnable chan elem fits =
    record {
      queue = fits.queue;
      senders = fits.senders;
      receivers = λ k it is. let found = get_drop 1 chan.receivers k it is in fits.receivers found.0 it found.1;
    }

pub value_kept : (c : Code) (t : Typing) (goroutines : List Goroutine) (runnable : List ℕ) (chan : Chan) (elem : TypeId) (it : Val)
    → IsOf c t it elem → ChannelFits c t goroutines runnable chan elem
    → ChannelFits c t goroutines runnable (with_value it chan) elem
value_kept c t goroutines runnable chan elem it value fits =
    record {
      queue = λ k other is.
          ⊎_elim (fits.queue k other) (λ e. subst (λ v. IsOf c t v elem) e value) (get_either chan.queue it k other is);
      senders = fits.senders;
      receivers = fits.receivers;
    }

pub value_drawn : (c : Code) (t : Typing) (goroutines : List Goroutine) (runnable : List ℕ) (chan : Chan) (elem : TypeId)
    → ChannelFits c t goroutines runnable chan elem → ChannelFits c t goroutines runnable (without_value chan) elem
value_drawn c t goroutines runnable chan elem fits =
    record {
      queue = λ k it is. let found = get_drop 1 chan.queue k it is in fits.queue found.0 it found.1;
      senders = fits.senders;
      receivers = fits.receivers;
    }

pub sender_left : (c : Code) (t : Typing) (goroutines : List Goroutine) (runnable : List ℕ) (chan : Chan) (elem : TypeId)
    (first : Sending) (others : List Sending) → chan.senders ≡ first ∷ others
    → ChannelFits c t goroutines runnable chan elem
    → ChannelFits c t goroutines runnable (passed_on chan (first ∷ others)) elem
sender_left c t goroutines runnable chan elem first others are fits =
    record {
      queue = moved chan.queue fits.queue;
      senders = λ k it is. fits.senders (suc k) it (ap (λ its. slice_get its (suc k)) are ∙ is);
      receivers = fits.receivers;
    }
  where
    moved : (queue : List Val) → ((k : ℕ) (it : Val) → slice_get queue k ≡ Some it → IsOf c t it elem) → (k : ℕ) (it : Val)
        → slice_get (moved_on first.value queue) k ≡ Some it → IsOf c t it elem
    moved [] each k it is = absurd (none-some it is)
    moved (x ∷ xs) each k it is =
        ⊎_elim (each (suc k) it)
        (λ e. subst (λ v. IsOf c t v elem) e (fits.senders 0 first (ap (λ its. slice_get its 0) are)).value)
        (get_either xs first.value k it is)

pub closed_down_fits : (c : Code) (t : Typing) (goroutines : List Goroutine) (runnable : List ℕ) (chan : Chan) (elem : TypeId)
    → ChannelFits c t goroutines runnable chan elem → ChannelFits c t goroutines runnable (closed_down chan) elem
closed_down_fits c t goroutines runnable chan elem fits =
    record {
      queue = fits.queue;
      senders = λ k it is. absurd (none-some it is);
      receivers = λ k it is. absurd (none-some it is);
    }
