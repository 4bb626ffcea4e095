-- Whether a number is in a list, and which blocks lead to one.
use Rattle.std.proofs.Common.{◌≡◌, ◌⊎◌, ◌<◌, ◌≤◌, ◌+◌, ◌-◌, ◌||◌, ℕ, zero, suc, List, [], ◌∷◌, ◌++◌, Bool, true, false, cond, Contains, Option, Some, None, refl, sym, ap, ◌∙◌, subst, inl, inr, length, get_or, take, arith, eqb-true, eq-eqb}
use Rattle.std.specs.Prelude.{take_while, nat_eq, slice_get, nat_lt}
use Rattle.std.specs.List.{list_all}
use Rattle.std.proofs.lemmas.Bool.{or_cases, and_parts, and_from, or_left, or_right, false≢true, ltb-true, lt-ltb, ne_eqb}
use Rattle.std.proofs.lemmas.Cmp.{nat_eq_equiv}
use Rattle.std.proofs.lemmas.List.{append-nil, take_more, take_all, length_push}
use Rattle.std.proofs.lemmas.List.Concat.{flat_map-append}
use Rattle.std.proofs.lemmas.List.Folds.{list_any-append}
use Rattle.std.proofs.lemmas.List.Sums.{take_while-cons}
use Rattle.std.proofs.lemmas.Map.Views.{Contains-from_any, list_any-from_Contains, exact_unsigned_eq}
use Rattle.std.proofs.lemmas.Option.{slice_get_within}
use Rattle.cg_solve.specs.Lists.{Has, when}
use Rattle.cg_solve.proofs.Members.{Has-below, from_below, Has-when, when_has}
use Rattle.go_base.specs.declared.ids.BlockId.{BlockId}
use Rattle.ssa_ir.specs.Blocks.{instrs_at, instrs_in, targets_of}
use Rattle.ssa_ir.specs.Uses.{given_register, given_registers}
use Rattle.ssa_ir.specs.declared.code.Block.{Block}
use Rattle.ssa_ir.specs.declared.code.Function.{Function}
use Rattle.ssa_ir.specs.declared.ops.Instr.{Instr}
use Rattle.ssa_ir.specs.declared.ops.Op.{Op}
use Rattle.ssa_sane.specs.Flow.{is_number, is_named, leads, leads_last, preds_of}
use Rattle.ssa_sane.specs.Sane.{Leads, IsTarget}
use Rattle.ssa_sane.specs.Walks.{has}

-- ---- numbers of a list

pub contains_from_has : (xs : List ℕ) (x : ℕ) → has xs x ≡ true → Contains xs x
contains_from_has xs x h = Contains-from_any exact_unsigned_eq x xs h

pub has_from_contains : (xs : List ℕ) (x : ℕ) → Contains xs x → has xs x ≡ true
has_from_contains xs x h = list_any-from_Contains nat_eq_equiv x xs h

pub has_append : (xs ys : List ℕ) (x : ℕ) → has (xs ++ ys) x ≡ (has xs x || has ys x)
has_append xs ys x = list_any-append (nat_eq x) xs ys

-- the registers of one instruction more
pub given_more : (instrs : List Instr) (i : ℕ) (instr d : Instr) → i < length instrs → instr ≡ get_or instrs i d
    → given_registers (take (i + 1) instrs) ≡ given_registers (take i instrs) ++ given_register instr
given_more instrs i instr d h e =
    ap given_registers (take_more instrs i d h ∙ ap (λ v. take i instrs ++ v ∷ []) (sym e))
    ∙ flat_map-append given_register (take i instrs) (instr ∷ []) ∙ ap (λ l. given_registers (take i instrs) ++ l) (append-nil (given_register instr))

pub has_more : (instrs : List Instr) (i register : ℕ) (instr d : Instr) → i < length instrs → instr ≡ get_or instrs i d
    → has (given_registers (take (i + 1) instrs)) register ≡ (has (given_registers (take i instrs)) register || has (given_register instr) register)
has_more instrs i register instr d h e =
    ap (λ l. has l register) (given_more instrs i instr d h e) ∙ has_append (given_registers (take i instrs)) (given_register instr) register

or_false : (a b : Bool) → a ≡ false → b ≡ false → (a || b) ≡ false
or_false true b h k = h
or_false false b h k = k

pub has_none_more : (instrs : List Instr) (i register : ℕ) (instr d : Instr) → i < length instrs → instr ≡ get_or instrs i d
    → has (given_registers (take i instrs)) register ≡ false → has (given_register instr) register ≡ false → has (given_registers (take (i + 1) instrs)) register ≡ false
has_none_more instrs i register instr d h e none here = has_more instrs i register instr d h e ∙ or_false _ _ none here

pub has_kept : (xs ys : List Instr) (register : ℕ) → has (given_registers xs) register ≡ true → has (given_registers (xs ++ ys)) register ≡ true
has_kept xs ys register h =
    ap (λ l. has l register) (flat_map-append given_register xs ys) ∙ has_append (given_registers xs) (given_registers ys) register ∙ or_left _ _ h

pub has_in : (instrs : List Instr) (i register : ℕ) (instr d : Instr) → i < length instrs → instr ≡ get_or instrs i d
    → has (given_register instr) register ≡ true → has (given_registers instrs) register ≡ true
has_in [] i register instr d h e here = absurd (omega arith)
has_in (x ∷ xs) zero register instr d h e here =
    has_append (given_register x) (given_registers xs) register ∙ or_left _ _ (subst (λ (v : Instr). has (given_register v) register ≡ true) e here)
has_in (x ∷ xs) (suc i) register instr d h e here =
    has_append (given_register x) (given_registers xs) register ∙ or_right _ _ (has_in xs i register instr d (omega arith) e here)

-- ---- the front of a list that passes a test

module _ {A : Type 0} (test : A → Bool) where
  front_more : (y : A) (ys zs : List A) → test y ≡ true → zs ≡ take_while test ys → y ∷ zs ≡ take_while test (y ∷ ys)
  front_more y ys zs h e = ap (λ l. y ∷ l) e ∙ sym (take_while-cons test y ys ∙ ap (λ b. cond b (y ∷ take_while test ys) []) h)

  pub front_to : (xs : List A) (i : ℕ) (x d : A) → i < length xs → x ≡ get_or xs i d → test x ≡ false → list_all test (take i xs) ≡ true → take i xs ≡ take_while test xs
  front_to [] i x d h e fails all = absurd (omega arith)
  front_to (y ∷ ys) zero x d h e fails all = sym (take_while-cons test y ys ∙ ap (λ b. cond b (y ∷ take_while test ys) []) (ap test (sym e) ∙ fails))
  front_to (y ∷ ys) (suc i) x d h e fails all =
      let parts = and_parts (test y) (list_all test (take i ys)) all in
      front_more y ys (take i ys) parts.0 (front_to ys i x d (omega arith) e fails parts.1)

  front_all : (xs : List A) → list_all test xs ≡ true → xs ≡ take_while test xs
  front_all [] all = refl
  front_all (y ∷ ys) all = let parts = and_parts (test y) (list_all test ys) all in front_more y ys ys parts.0 (front_all ys parts.1)

  pub front_whole : (xs : List A) (i : ℕ) → length xs ≤ i → list_all test (take i xs) ≡ true → xs ≡ take_while test xs
  front_whole xs i h all = front_all xs (ap (list_all test) (sym (take_all i xs h)) ∙ all)

-- ---- which blocks lead to one

pub is_number_at : (o : Option ℕ) (to : ℕ) → is_number o to ≡ true → o ≡ Some to
is_number_at (Some x) to h = ap Some (eqb-true x to h)
is_number_at None to h = absurd (false≢true h)

pub once_of : (a b to : ℕ) → (a ≡ b → ⊥) → nat_eq a to ≡ true → nat_eq b to ≡ false
once_of a b to apart h = ne_eqb b to (λ e. apart (eqb-true a to h ∙ sym e))

pub named_of : (a b : ℕ) → a ≡ b → (to : ℕ) → (nat_eq a to || false) ≡ (nat_eq a to || nat_eq b to)
named_of a b e to = subst (λ c. (nat_eq a to || false) ≡ (nat_eq a to || nat_eq c to)) e (twice (nat_eq a to))
  where
    twice : (t : Bool) → (t || false) ≡ (t || t)
    twice true = refl
    twice false = refl

pub two_rows : {A : Type 0} (row : List A) (a b : Bool) (x : A) → (a ≡ true → b ≡ false) → (row ++ when a x) ++ when b x ≡ row ++ when (a || b) x
two_rows row true b x once = ap (λ c. (row ++ x ∷ []) ++ when c x) (once refl) ∙ append-nil (row ++ x ∷ [])
two_rows row false b x once = ap (λ l. l ++ when b x) (append-nil row)

last_split : {A : Type 0} (xs : List A) (x : A) → slice_get xs (length xs - 1) ≡ Some x → (front : List A) × (xs ≡ front ++ x ∷ [])
last_split [] x h = absurd (cc)
last_split (y ∷ []) x h = ([], ap (λ v. v ∷ []) (by h))
  where
    by : {A : Type 0} {y x : A} → Some y ≡ Some x → y ≡ x
    by e = cc
last_split (y ∷ z ∷ zs) x h =
    let rest = last_split (z ∷ zs) x (ap (slice_get (y ∷ z ∷ zs)) (back (length zs)) ∙ h) in
    (y ∷ rest.0, ap (λ l. y ∷ l) rest.1)
  where
    back : (n : ℕ) → suc (suc n - 1) ≡ suc (suc n) - 1
    back n = omega arith

last_at : {A : Type 0} (front : List A) (x : A) → slice_get (front ++ x ∷ []) (length (front ++ x ∷ []) - 1) ≡ Some x
last_at [] x = refl
last_at (y ∷ ys) x =
    let n : length (ys ++ x ∷ []) ≡ length ys + 1 = length_push ys x in
    let k : suc (length (ys ++ x ∷ [])) - 1 ≡ suc (length (ys ++ x ∷ []) - 1) = omega arith in
    ap (slice_get (y ∷ (ys ++ x ∷ []))) k ∙ last_at ys x

pub named_target : (o : Option BlockId) (to : ℕ) → is_named o to ≡ true → (id : BlockId) × (o ≡ Some id) × (id.number ≡ to)
named_target (Some id) to h = (id, refl, eqb-true id.number to h)
named_target None to h = absurd (false≢true h)

pub named_from : (o : Option BlockId) (to : ℕ) (id : BlockId) → o ≡ Some id → id.number ≡ to → is_named o to ≡ true
named_from o to id e n = ap (λ (p : Option BlockId). is_named p to) e ∙ eq-eqb id.number to n

target_from : (op : Op) (to : ℕ) → (is_named (targets_of op).0 to || is_named (targets_of op).1 to) ≡ true → IsTarget op to
target_from op to h =
    elim (or_cases (is_named (targets_of op).0 to) (is_named (targets_of op).1 to) h) [
      | inl a ↦ (let t = named_target (targets_of op).0 to a in inl (t.0, (t.1, t.2)))
      | inr b ↦ (let t = named_target (targets_of op).1 to b in inr (t.0, (t.1, t.2)))
    ]

target_to : (op : Op) (to : ℕ) → IsTarget op to → (is_named (targets_of op).0 to || is_named (targets_of op).1 to) ≡ true
target_to op to (inl t) = or_left _ _ (named_from (targets_of op).0 to t.0 t.1.0 t.1.1)
target_to op to (inr t) = or_right _ _ (named_from (targets_of op).1 to t.0 t.1.0 t.1.1)

leads_by_last : (o : Option Instr) (count to : ℕ) → leads_last o count to ≡ true → (last : Instr) × (o ≡ Some last) × (to < count) × IsTarget last.op to
leads_by_last (Some last) count to h =
    let parts = and_parts (nat_lt to count) _ h in
    (last, refl, ltb-true to count parts.0, target_from last.op to parts.1)
leads_by_last None count to h = absurd (false≢true h)

pub leads_to : (f : Function) (from to : ℕ) → leads f from to ≡ true → Leads f from to
leads_to f from to h =
    let by = leads_by_last (slice_get (instrs_at f from) (length (instrs_at f from) - 1)) (length f.blocks) to h in
    let split = last_split (instrs_at f from) by.0 by.1 in
    record { front = split.0; last = by.0; stands = split.1; target = by.3; exists = by.2 }

pub leads_from : (f : Function) (from to : ℕ) → Leads f from to → leads f from to ≡ true
leads_from f from to l =
    ap (λ (instrs : List Instr). leads_last (slice_get instrs (length instrs - 1)) (length f.blocks) to) l.stands
    ∙ ap (λ (o : Option Instr). leads_last o (length f.blocks) to) (last_at l.front l.last)
    ∙ and_from _ _ (lt-ltb to (length f.blocks) l.exists) (target_to l.last.op to l.target)

none_past : (o : Option Block) → length (instrs_in o) ≡ 0 ⊎ ((block : Block) × (o ≡ Some block))
none_past None = inl refl
none_past (Some block) = inr (block, refl)

pub from_exists : (f : Function) (from to : ℕ) → leads f from to ≡ true → from < length f.blocks
from_exists f from to h = by (none_past (slice_get f.blocks from)) (leads_to f from to h)
  where
    by : length (instrs_at f from) ≡ 0 ⊎ ((block : Block) × (slice_get f.blocks from ≡ Some block)) → Leads f from to → from < length f.blocks
    by (inr b) l = slice_get_within f.blocks from b.0 b.1
    by (inl none) l = let n = ap length l.stands in let m = length_push l.front l.last in absurd (omega arith)

pub to_exists : (f : Function) (from to : ℕ) → leads f from to ≡ true → to < length f.blocks
to_exists f from to h = let l = leads_to f from to h in l.exists

pub preds_has : (f : Function) (from to : ℕ) → leads f from to ≡ true → Has (preds_of f to) from
preds_has f from to h = Has-below (λ from. when (leads f from to) from) (length f.blocks) from from (from_exists f from to h) (when_has (leads f from to) from h)

pub preds_only : (f : Function) (from to : ℕ) → Has (preds_of f to) from → leads f from to ≡ true
preds_only f from to h =
    let b = from_below (λ from. when (leads f from to) from) (length f.blocks) from h in
    let w = Has-when (leads f b.0 to) b.0 from b.2 in
    subst (λ x. leads f x to ≡ true) w.1 w.0
