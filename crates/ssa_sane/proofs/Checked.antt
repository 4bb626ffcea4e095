-- A check of blocks and instructions says what is right.
use Rattle.std.proofs.Common.{◌≡◌, ◌⊎◌, ◌↔◌, ◌<◌, ◌≤◌, ◌+◌, ◌||◌, ◌&&◌, ℕ, zero, suc, List, [], ◌∷◌, Bool, true, false, not, Option, Some, None, Contains, refl, sym, ap, ◌∙◌, subst, inl, inr, length, take, get_or, arith, eq-eqb, eqb-true}
use Rattle.std.specs.Prelude.{nat_eq, slice_get, MatchOption}
use Rattle.std.specs.HashMap.{get}
use mathlib.Core.Bool.{beq}
use Rattle.std.proofs.lemmas.Bool.{cases_lt, cases_eq, cases_Bool, cases_order, or_cases, or_left, or_right, and_parts, and_from, ne_eqb, false≢true, both_ways, not-true, not_from_false}
use Rattle.std.proofs.lemmas.List.{get_or_default, nil_from_length}
use Rattle.std.proofs.lemmas.Option.{slice_get_within, slice_get-get_or, get_or_from_slice_get}
use Rattle.cg_solve.specs.LeastSets.{marked}
use Rattle.cg_solve.specs.declared.table.Table.{Table}
use Rattle.go_base.specs.declared.ids.BlockId.{BlockId}
use Rattle.ssa_ir.specs.Blocks.{instrs_at, instrs_in, is_end_op, targets_of}
use Rattle.ssa_ir.specs.Uses.{given_registers, registers_in, used_registers}
use Rattle.ssa_ir.specs.declared.code.Block.{Block}
use Rattle.ssa_ir.specs.declared.code.Function.{Function}
use Rattle.ssa_ir.specs.declared.operands.Operand.TheVariants.{Register}
use Rattle.ssa_ir.specs.declared.ops.Instr.{Instr}
use Rattle.ssa_ir.specs.declared.ops.Op.{Op}
use Rattle.ssa_ir.specs.declared.ops.Op.TheVariants.{Phi}
use Rattle.ssa_ir.specs.declared.ops.PhiEdge.{PhiEdge}
use Rattle.ssa_sane.specs.Checks.{IsCheck, Recovers, Seen, is_seen, HasSeen, Sees, phi_edges, ArePhisBefore, IsEdgeRight, ArePhiRight, AreInstrsBelow, IsRight, IsFirstIn, IsFirstWrong, AreRightBelow, may_stand_in}
use Rattle.ssa_sane.specs.Flow.{is_entry_of, is_named}
use Rattle.ssa_sane.specs.Homes.{home_of}
use Rattle.ssa_sane.specs.Places.{has_open, has_open_behind}
use Rattle.ssa_sane.specs.Sane.{IsSane, IsBlock, IsInstr, IsFault, no_recover, at_block, at_instr, IsFirstFault, IsEntry, IsTarget, ArePreds, HasOperands, IsAvailable, IsAvailableBehind, Walk, is_phi, numbers_of}
use Rattle.ssa_sane.specs.Walks.{has}
use Rattle.ssa_sane.specs.declared.places.Places.{Places}
use Rattle.ssa_sane.proofs.Exact.{before_iff, behind_iff, reached_walk, walk_reached}
use Rattle.ssa_sane.proofs.Homed.{has_new, has_other, has_kept}
use Rattle.ssa_sane.proofs.Members.{named_target, named_from}

-- ---- tests in turn

pub and_then : (a b : Bool) {P : Type 0} → (((a && b) ≡ true) ↔ P) → a ≡ true → (b ≡ true) ↔ P
and_then a b is e = (λ h. is.0 (and_from a b e h), λ p. (and_parts a b (is.1 p)).1)

pub or_then : (a b : Bool) {P : Type 0} → (((a || b) ≡ true) ↔ P) → a ≡ true → (a ≡ true) ↔ P
or_then a b is e = (λ h. is.0 (or_left a b h), λ p. e)

pub or_else : (a b : Bool) {P : Type 0} → (((a || b) ≡ true) ↔ P) → a ≡ false → (b ≡ true) ↔ P
or_else a b {P} is e = (λ h. is.0 (or_right a b h), λ p. by (or_cases a b (is.1 p)))
  where
    by : (a ≡ true) ⊎ (b ≡ true) → b ≡ true
    by (inl t) = absurd (both_ways a e t)
    by (inr t) = t

pub same_test : (a b : Bool) → beq a b ≡ true → a ≡ b
same_test true true e = refl
same_test true false e = absurd (cc)
same_test false true e = absurd (cc)
same_test false false e = refl

-- ---- registers that are available

pub check_available : (f : Function) (preds : Table ℕ) (places : Places) → IsCheck f preds places → 0 < length f.blocks
    → (seen : Seen) (block index register : ℕ) → HasSeen f block index seen → (g t : Bool) → g ≡ is_seen (get nat_eq seen register) block
    → t ≡ (not (marked places.reached.items block) || has_open places block (home_of places.homes register))
    → ((g || t) ≡ true) ↔ IsAvailable f block index register
check_available f preds places check some seen block index register has_seen g t given there =
    let is = before_iff f check.recovers places check.totals check.are register block index some in
    let same : (g || t) ≡ (has (given_registers (take index (instrs_at f block))) register || (not (marked places.reached.items block) || has_open places block (home_of places.homes register))) =
    ap (λ b. b || t) (given ∙ has_seen.here register) ∙ ap (λ b. has (given_registers (take index (instrs_at f block))) register || b) there in
    (λ h. is.0 (sym same ∙ h), λ a. same ∙ is.1 a)

-- what holds at each index holds of each number
pub all_index : (P : ℕ → Type 0) (xs : List ℕ) → ((k : ℕ) → k < length xs → P (get_or xs k 0)) → (x : ℕ) → Contains xs x → P x
all_index P xs all x c = subst P (get_or_default xs c.0 0 x c.1 ∙ c.2) (all c.0 c.1)

-- the operand of a phi
pub edge_register : (f : Function) (preds : Table ℕ) (places : Places) → IsCheck f preds places → 0 < length f.blocks
    → (edge : PhiEdge) (register : ℕ) → edge.value ≡ Register register → (t : Bool)
    → t ≡ (not (marked places.reached.items edge.from.number) || has_open_behind places edge.from.number (home_of places.homes register))
    → (t ≡ true) ↔ IsEdgeRight f edge
edge_register f preds places check some edge register is t e =
    let behind = behind_iff f check.recovers places check.totals check.are register edge.from.number some in
    let one : registers_in edge.value ≡ register ∷ [] = ap registers_in is in (
      λ h other c. subst (IsAvailableBehind f edge.from.number) (only register other (subst (λ (l : List ℕ). Contains l other) one c)) (behind.0 (sym e ∙ h)),
      λ right. e ∙ behind.1 (right register (subst (λ (l : List ℕ). Contains l register) (sym one) (0, omega arith, refl))),
    )
  where
    only : (x y : ℕ) → Contains (x ∷ []) y → x ≡ y
    only x y c = at_only c.0 c.1 c.2
      where
        at_only : (k : ℕ) → k < 1 → get_or (x ∷ []) k y ≡ y → x ≡ y
        at_only zero l e = e
        at_only (suc k) l e = absurd (omega arith)

-- ---- operands

operands_other : (f : Function) (block instr : ℕ) (op : Op) → phi_edges op ≡ None
    → HasOperands f block instr op ↔ ((register : ℕ) → Contains (used_registers op) register → IsAvailable f block instr register)
operands_other f block instr (Phi edges) e = absurd (cc)
operands_other f block instr _ e = (λ h. h, λ h. h)

pub operands_none : (f : Function) (block instr : ℕ) (op : Op) (used : List ℕ) (t : Bool) → phi_edges op ≡ None → used ≡ used_registers op
    → ((t ≡ true) ↔ ((register : ℕ) → Contains used register → IsAvailable f block instr register)) → (t ≡ true) ↔ HasOperands f block instr op
operands_none f block instr op used t none same is =
    let o = operands_other f block instr op none in (
      λ h. o.1 (λ register c. is.0 h register (subst (λ (l : List ℕ). Contains l register) (sym same) c)),
      λ h. is.1 (λ register c. o.0 h register (subst (λ (l : List ℕ). Contains l register) same c)),
    )

operands_phi : (f : Function) (block instr : ℕ) (op : Op) (edges : List PhiEdge) → phi_edges op ≡ Some edges
    → HasOperands f block instr op ↔ (ArePhisBefore f block instr × ArePhiRight f block edges)
operands_phi f block instr (Phi others) edges e =
    let same : others ≡ edges = cc in
    subst (λ (l : List PhiEdge). HasOperands f block instr (Phi others) ↔ (ArePhisBefore f block instr × ArePhiRight f block l)) same (
      (λ h. (h.1, (h.0, λ edge c register r. h.2 edge register c r))),
      (λ h. (h.1.0, h.0, λ edge register c r. h.1.1 edge c register r)),
    )
operands_phi f block instr _ edges e = absurd (cc)

pub operands_some : (f : Function) (block instr : ℕ) (op : Op) (edges : List PhiEdge) (phis fits : Bool) → phi_edges op ≡ Some edges
    → ((phis ≡ true) ↔ ArePhisBefore f block instr) → ((fits ≡ true) ↔ ArePhiRight f block edges) → ((phis && fits) ≡ true) ↔ HasOperands f block instr op
operands_some f block instr op edges phis fits some before right =
    let o = operands_phi f block instr op edges some in (
      λ h. let p = and_parts phis fits h in o.1 (before.0 p.0, right.0 p.1),
      λ h. let p = o.0 h in and_from phis fits (before.1 p.0) (right.1 p.1),
    )

-- ---- targets

module _ (op : Op) (count : ℕ) (pair : Option BlockId × Option BlockId) (is : pair ≡ targets_of op) where
  abbrev AllExist : Type 0
  AllExist = (to : ℕ) → IsTarget op to → to < count

  first_exists : AllExist → (id : BlockId) → pair.0 ≡ Some id → id.number < count
  first_exists all id e = all id.number (inl (id, (ap (λ (p : Option BlockId × Option BlockId). p.0) (sym is) ∙ e, refl)))

  second_exists : AllExist → (id : BlockId) → pair.1 ≡ Some id → id.number < count
  second_exists all id e = all id.number (inr (id, (ap (λ (p : Option BlockId × Option BlockId). p.1) (sym is) ∙ e, refl)))

  both_exist : ((id : BlockId) → pair.0 ≡ Some id → id.number < count) → ((id : BlockId) → pair.1 ≡ Some id → id.number < count) → AllExist
  both_exist first second to (inl t) = subst (λ n. n < count) t.1.1 (first t.0 (ap (λ (p : Option BlockId × Option BlockId). p.0) is ∙ t.1.0))
  both_exist first second to (inr t) = subst (λ n. n < count) t.1.1 (second t.0 (ap (λ (p : Option BlockId × Option BlockId). p.1) is ∙ t.1.0))

  pub targets_then : (a b : Bool) → ((a ≡ true) ↔ ((id : BlockId) → pair.0 ≡ Some id → id.number < count)) → ((b ≡ true) ↔ ((id : BlockId) → pair.1 ≡ Some id → id.number < count))
      → a ≡ true → (b ≡ true) ↔ AllExist
  targets_then a b first second t = (λ h. both_exist (first.0 t) (second.0 h), λ all. second.1 (second_exists all))

  pub targets_else : (a : Bool) → ((a ≡ true) ↔ ((id : BlockId) → pair.0 ≡ Some id → id.number < count)) → a ≡ false → (a ≡ true) ↔ AllExist
  targets_else a first e = (λ h. absurd (both_ways a e h), λ all. first.1 (first_exists all))

-- ---- instructions

pub instr_iff : (f : Function) (block index : ℕ) (at : Instr) (last fits : Bool)
    → ((is_end_op at.op ≡ last) × ((to : ℕ) → IsTarget at.op to → to < length f.blocks))
    → ((last ≡ true) ↔ (index + 1 ≡ length (instrs_at f block))) → ((fits ≡ true) ↔ HasOperands f block index at.op)
    → (fits ≡ true) ↔ IsInstr f block index at
instr_iff f block index at last fits ends is operands = (
  λ h. record {
    ends = (λ e. is.0 (sym ends.0 ∙ e), λ l. ends.0 ∙ is.1 l);
    targets = ends.1;
    operands = operands.0 h;
  },
  λ right. operands.1 right.operands,
)

pub end_wrong : (f : Function) (block index : ℕ) (at : Instr) (last t : Bool)
    → ((t ≡ true) ↔ ((is_end_op at.op ≡ last) × ((to : ℕ) → IsTarget at.op to → to < length f.blocks)))
    → ((last ≡ true) ↔ (index + 1 ≡ length (instrs_at f block))) → t ≡ false → (false ≡ true) ↔ IsInstr f block index at
end_wrong f block index at last t is at_end e = (
  λ h. absurd (false≢true h),
  λ right. absurd (both_ways t e (is.1 (same (is_end_op at.op) last right.ends at_end, right.targets))),
)
  where
    same : {P : Type 0} (a b : Bool) → ((a ≡ true) ↔ P) → ((b ≡ true) ↔ P) → a ≡ b
    same true b x y = sym (y.1 (x.0 refl))
    same false true x y = x.1 (y.0 refl)
    same false false x y = refl

-- ---- what was seen

seen_at : (seen : Seen) (register block : ℕ) → get nat_eq seen register ≡ Some block → is_seen (get nat_eq seen register) block ≡ true
seen_at seen register block e = ap (λ (o : Option ℕ). is_seen o block) e ∙ eq-eqb block block refl

is_some_of : (o : Option ℕ) (x : ℕ) → (o ≡ Some x) ⊎ (o ≡ Some x → ⊥)
is_some_of None x = inr (λ e. none_some e)
  where
    none_some : {y : ℕ} → None ≡ Some y → ⊥
    none_some e = cc
is_some_of (Some y) x = elim (cases_eq y x) [ inl e ↦ inl (ap Some e) | inr apart ↦ inr (λ e. apart (some_same e)) ]
  where
    some_same : Some y ≡ Some x → y ≡ x
    some_same e = cc

module _ (f : Function) (block index : ℕ) (at : Instr) (stands : slice_get (instrs_at f block) index ≡ Some at) (old new : Seen) (sees : Sees at block old new) (before : HasSeen f block index old) where
  abbrev below : index < length (instrs_at f block)
  below = slice_get_within (instrs_at f block) index at stands

  abbrev is : at ≡ get_or (instrs_at f block) index at
  is = sym (get_or_from_slice_get (instrs_at f block) index at at stands)

  here_more : (register : ℕ) → (at.register ≡ Some register) ⊎ (at.register ≡ Some register → ⊥) → is_seen (get nat_eq new register) block ≡ has (given_registers (take (index + 1) (instrs_at f block))) register
  here_more register (inl e) = seen_at new register block (sees.here register e) ∙ sym (has_new (instrs_at f block) index register at at below is e)
  here_more register (inr no_one) =
      ap (λ (o : Option ℕ). is_seen o block) (sees.others register no_one) ∙ before.here register ∙ sym (by at.register refl)
    where
      by : (o : Option ℕ) → at.register ≡ o → has (given_registers (take (index + 1) (instrs_at f block))) register ≡ has (given_registers (take index (instrs_at f block))) register
      by None e = has_kept (instrs_at f block) index 0 at at below is e register
      by (Some x) e = has_other (instrs_at f block) index x at at below is e register (λ s. no_one (e ∙ ap Some (sym s)))

  past_more : (register other : ℕ) → (at.register ≡ Some register) ⊎ (at.register ≡ Some register → ⊥) → get nat_eq new register ≡ Some other → other ≤ block
  past_more register other (inl e) g = let same : Some block ≡ Some other = sym (sees.here register e) ∙ g in let eq : block ≡ other = cc in omega arith
  past_more register other (inr no_one) g = before.past register other (sym (sees.others register no_one) ∙ g)

  pub seen_more : HasSeen f block (index + 1) new
  seen_more = record {
    here = λ register. here_more register (is_some_of at.register register);
    past = λ register other. past_more register other (is_some_of at.register register);
  }

not_seen : (o : Option ℕ) (block : ℕ) → ((other : ℕ) → o ≡ Some other → other ≤ block) → is_seen o (block + 1) ≡ false
not_seen None block past = refl
not_seen (Some other) block past = let l = past other refl in ne_eqb other (block + 1) (λ e. omega arith)

pub seen_next : (f : Function) (block index : ℕ) (seen : Seen) → HasSeen f block index seen → HasSeen f (block + 1) 0 seen
seen_next f block index seen h = record {
  here = λ register. not_seen (get nat_eq seen register) block (h.past register);
  past = λ register other e. let l = h.past register other e in omega arith;
}

pub seen_none : (f : Function) (seen : Seen) → ((register : ℕ) → get nat_eq seen register ≡ None) → HasSeen f 0 0 seen
seen_none f seen none = record {
  here = λ register. ap (λ (o : Option ℕ). is_seen o 0) (none register);
  past = λ register other e. absurd (none_some (sym (none register) ∙ e));
}
  where
    none_some : {y : ℕ} → None ≡ Some y → ⊥
    none_some e = cc

-- ---- instructions in turn

pub stands_at : {A : Type 0} (xs ys : List A) (i : ℕ) (x d : A) → xs ≡ ys → i < length xs → x ≡ get_or xs i d → slice_get ys i ≡ Some x
stands_at {A} xs ys i x d same below is = ap (λ (l : List A). slice_get l i) (sym same) ∙ slice_get-get_or xs i d below ∙ ap Some (sym is)

pub last_of : (xs ys : List Instr) (i : ℕ) (t : Bool) → xs ≡ ys → ((t ≡ true) ↔ (i + 1 ≡ length xs)) → (t ≡ true) ↔ (i + 1 ≡ length ys)
last_of xs ys i t same is = subst (λ (l : List Instr). (t ≡ true) ↔ (i + 1 ≡ length l)) same is

pub phis_none : (f : Function) (block : ℕ) → (true ≡ true) ↔ ArePhisBefore f block 0
phis_none f block = (λ h before other l e. absurd (omega arith), λ h. refl)

pub phis_more : (f : Function) (block index : ℕ) (at : Instr) (phis : Bool) → slice_get (instrs_at f block) index ≡ Some at → ((phis ≡ true) ↔ ArePhisBefore f block index)
    → ((phis && is_phi at) ≡ true) ↔ ArePhisBefore f block (index + 1)
phis_more f block index at phis stands is = (
  λ h before other l e. let p = and_parts phis (is_phi at) h in by p.0 p.1 before other e (cases_lt before index) l,
  λ all. and_from phis (is_phi at) (is.1 (λ before other l e. all before other (omega arith) e)) (all index at (omega arith) stands),
)
  where
    by : phis ≡ true → is_phi at ≡ true → (before : ℕ) (other : Instr) → slice_get (instrs_at f block) before ≡ Some other → (before < index) ⊎ (index ≤ before) → before < index + 1 → is_phi other ≡ true
    by t p before other e (inl l) m = is.0 t before other l e
    by t p before other e (inr g) m =
        let same : before ≡ index = omega arith in
        let eq : Some at ≡ Some other = sym stands ∙ (ap (slice_get (instrs_at f block)) (sym same) ∙ e) in
        let at_is : at ≡ other = cc in
        subst (λ (i : Instr). is_phi i ≡ true) at_is p

pub right_more : (f : Function) (block index : ℕ) (at : Instr) → slice_get (instrs_at f block) index ≡ Some at → IsInstr f block index at → AreInstrsBelow f block index → AreInstrsBelow f block (index + 1)
right_more f block index at stands right below instr other l e = by (cases_lt instr index)
  where
    by : (instr < index) ⊎ (index ≤ instr) → IsInstr f block instr other
    by (inl m) = below instr other m e
    by (inr g) =
        let same : instr ≡ index = omega arith in
        let eq : Some at ≡ Some other = sym stands ∙ (ap (slice_get (instrs_at f block)) (sym same) ∙ e) in
        let at_is : at ≡ other = cc in
        subst (λ k. IsInstr f block k other) (sym same) (subst (λ (i : Instr). IsInstr f block index i) at_is right)

pub first_wrong : (f : Function) (block index : ℕ) (at : Instr) → slice_get (instrs_at f block) index ≡ Some at → (fits : Bool) → ((fits ≡ true) ↔ IsInstr f block index at) → fits ≡ false → AreInstrsBelow f block index
    → IsFirstWrong f block index
first_wrong f block index at stands fits is e below = record { at = at; stands = stands; wrong = λ right. both_ways fits e (is.1 right); before = below }

-- ---- blocks

entry_to : (f : Function) (block : ℕ) → is_entry_of f block ≡ true → IsEntry f block
entry_to f block h = elim (or_cases (nat_eq block 0) (is_named f.recover block) h) [
  | inl z ↦ inl (eqb-true block 0 z)
  | inr n ↦ (let t = named_target f.recover block n in inr (t.0, (t.1, t.2)))
]

entry_from : (f : Function) (block : ℕ) → IsEntry f block → is_entry_of f block ≡ true
entry_from f block (inl z) = or_left _ _ (eq-eqb block 0 z)
entry_from f block (inr t) = or_right (nat_eq block 0) (is_named f.recover block) (named_from f.recover block t.0 t.1.0 t.1.1)

module _ (f : Function) (preds : Table ℕ) (places : Places) (check : IsCheck f preds places) (number : ℕ) (block : Block) where
  abbrev Stands : Type 0
  Stands = ((given : List ℕ) × Walk f number given) × (0 < length block.instrs) × (IsEntry f number → block.preds ≡ [])

  stands_to : may_stand_in f places number block ≡ true → Stands
  stands_to h =
      let p = and_parts (not (nat_eq (length block.instrs) 0)) _ h in
      let q = and_parts (marked places.reached.items number) _ p.1 in (
        reached_walk f number ((check.are.reached number).0 q.0),
        holds p.0,
        λ entry. none (or_cases (nat_eq (length block.preds) 0) (not (is_entry_of f number)) q.1) (entry_from f number entry),
      )
    where
      holds : not (nat_eq (length block.instrs) 0) ≡ true → 0 < length block.instrs
      holds t = by (cases_lt 0 (length block.instrs))
        where
          by : (0 < length block.instrs) ⊎ (length block.instrs ≤ 0) → 0 < length block.instrs
          by (inl l) = l
          by (inr z) = absurd (both_ways (nat_eq (length block.instrs) 0) (not-true (nat_eq (length block.instrs) 0) t) (eq-eqb (length block.instrs) 0 (omega arith)))

      none : (nat_eq (length block.preds) 0 ≡ true) ⊎ (not (is_entry_of f number) ≡ true) → is_entry_of f number ≡ true → block.preds ≡ []
      none (inl z) e = nil_from_length block.preds (eqb-true (length block.preds) 0 z)
      none (inr t) e = absurd (both_ways (is_entry_of f number) (not-true (is_entry_of f number) t) e)

  stands_from : Stands → may_stand_in f places number block ≡ true
  stands_from s =
      and_from _ _ (not_from_false (nat_eq (length block.instrs) 0) (ne_eqb (length block.instrs) 0 (λ e. let l = s.1 in omega arith)))
      (and_from _ _ ((check.are.reached number).1 (walk_reached f check.recovers number s.0.0 s.0.1)) (either (cases_Bool (is_entry_of f number))))
    where
      either : (is_entry_of f number ≡ true) ⊎ (is_entry_of f number ≡ false) → (nat_eq (length block.preds) 0 || not (is_entry_of f number)) ≡ true
      either (inl e) = or_left _ _ (eq-eqb (length block.preds) 0 (ap length (s.2 (entry_to f number e))))
      either (inr e) = or_right (nat_eq (length block.preds) 0) (not (is_entry_of f number)) (not_from_false (is_entry_of f number) e)

  pub block_iff : (t : Bool) → may_stand_in f places number block ≡ true → ((t ≡ true) ↔ ArePreds f number (numbers_of block.preds)) → (t ≡ true) ↔ IsBlock f number block
  block_iff t may is =
      let s = stands_to may in (
        λ h. record { reached = s.0; holds = s.1; preds = is.0 h; entry = s.2 },
        λ right. is.1 right.preds,
      )

  pub block_never : (t : Bool) → t ≡ may_stand_in f places number block → t ≡ false → (false ≡ true) ↔ IsBlock f number block
  block_never t same e = (
    λ h. absurd (false≢true h),
    λ right. absurd (both_ways t e (same ∙ stands_from (right.reached, right.holds, right.entry))),
  )

-- ---- faults

-- a block that is right has no fault
no_fault : (f : Function) → Recovers f → (number : ℕ) (block : Block) → slice_get f.blocks number ≡ Some block → IsBlock f number block
    → (instr : ℕ) → AreInstrsBelow f number (instr + 1) → IsFault f number instr → ⊥
no_fault f exist number block stands right _ instrs (no_recover id is past) = let l = exist id is in omega arith
no_fault f exist number block stands right _ instrs (at_block _ other e wrong) =
    let eq : Some block ≡ Some other = sym stands ∙ e in let same : block ≡ other = cc in wrong (subst (λ (b : Block). IsBlock f number b) same right)
no_fault f exist number block stands right _ instrs (at_instr _ instr at e wrong) = wrong (instrs instr at (omega arith) e)

pub first_at_block : (f : Function) (number : ℕ) (block : Block) → slice_get f.blocks number ≡ Some block → (t : Bool) → ((t ≡ true) ↔ IsBlock f number block) → t ≡ false → IsFirstIn f number 0
first_at_block f number block stands t is e = record {
  fault = at_block number block stands (λ right. both_ways t e (is.1 right));
  before = λ other h. omega arith;
}

pub found_in : (f : Function) → Recovers f → (number : ℕ) (block : Block) → slice_get f.blocks number ≡ Some block → IsBlock f number block → (count : ℕ) → count ≡ length (instrs_at f number)
    → (found : Option ℕ) → MatchOption found (AreInstrsBelow f number count) (IsFirstWrong f number) → MatchOption found (IsRight f number block) (IsFirstIn f number)
found_in f exist number block stands right count whole None all =
    record { itself = right; instrs = λ instr at e. all instr at (let l = slice_get_within (instrs_at f number) instr at e in omega arith) e }
found_in f exist number block stands right count whole (Some instr) wrong = record {
  fault = at_instr number instr wrong.at wrong.stands wrong.wrong;
  before = λ other h. by other h (cases_lt other instr);
}
  where
    by : (other : ℕ) → IsFault f number other → (other < instr) ⊎ (instr ≤ other) → instr ≤ other
    by other h (inl l) = absurd (no_fault f exist number block stands right other (λ i at m e. wrong.before i at (omega arith) e) h)
    by other h (inr g) = g

-- ---- blocks in turn

pub rights_more : (f : Function) (number : ℕ) (block : Block) → slice_get f.blocks number ≡ Some block → IsRight f number block → AreRightBelow f number → AreRightBelow f (number + 1)
rights_more f number block stands right below other at l e = by (cases_lt other number)
  where
    by : (other < number) ⊎ (number ≤ other) → IsRight f other at
    by (inl m) = below other at m e
    by (inr g) =
        let same : other ≡ number = omega arith in
        let eq : Some block ≡ Some at = sym stands ∙ (ap (slice_get f.blocks) (sym same) ∙ e) in
        let at_is : block ≡ at = cc in
        subst (λ k. IsRight f k at) (sym same) (subst (λ (b : Block). IsRight f number b) at_is right)

fault_exists : (f : Function) → Recovers f → (number instr : ℕ) → IsFault f number instr → (block : Block) × (slice_get f.blocks number ≡ Some block)
fault_exists f exist _ _ (no_recover id is past) = let l = exist id is in absurd (omega arith)
fault_exists f exist _ _ (at_block number block e wrong) = (block, e)
fault_exists f exist _ _ (at_instr number instr at e wrong) = by (slice_get f.blocks number) refl e
  where
    by : (o : Option Block) → slice_get f.blocks number ≡ o → slice_get (instrs_in o) instr ≡ Some at → (block : Block) × (slice_get f.blocks number ≡ Some block)
    by (Some block) s g = (block, s)
    by None s g = absurd (cc)

pub first_fault : (f : Function) → Recovers f → (number instr : ℕ) → AreRightBelow f number → IsFirstIn f number instr → IsFirstFault f number instr
first_fault f exist number instr below here = record {
  fault = here.fault;
  first = λ other at h. by other at h (cases_order number other);
}
  where
    by : (other at : ℕ) → IsFault f other at → (number ≡ other) ⊎ ((number < other) ⊎ (other < number)) → (number < other) ⊎ ((number ≡ other) × (instr ≤ at))
    by other at h (inl e) = inr (e, here.before at (subst (λ k. IsFault f k at) (sym e) h))
    by other at h (inr (inl l)) = inl l
    by other at h (inr (inr l)) =
        let b = fault_exists f exist other at h in
        let right = below other b.0 l b.1 in
        absurd (no_fault f exist other b.0 b.1 right.itself at (λ i instr m e. right.instrs i instr e) h)

pub sane_of : (f : Function) → Recovers f → AreRightBelow f (length f.blocks) → IsSane f
sane_of f exist right = record {
  recover = exist;
  blocks = λ number block e. (right number block (slice_get_within f.blocks number block e) e).itself;
  instrs = λ number instr at e. by number instr at e;
}
  where
    by : (number instr : ℕ) (at : Instr) → slice_get (instrs_at f number) instr ≡ Some at → IsInstr f number instr at
    by number instr at e = found (slice_get f.blocks number) refl
      where
        found : (o : Option Block) → slice_get f.blocks number ≡ o → IsInstr f number instr at
        found (Some block) s = (right number block (slice_get_within f.blocks number block s) s).instrs instr at e
        found None s = absurd (none_some (sym (ap (λ (o : Option Block). slice_get (instrs_in o) instr) s) ∙ e))
          where
            none_some : {A : Type 0} {y : A} → None ≡ Some y → ⊥
            none_some q = cc

-- a recover block that does not exist is the first fault
pub first_recover : (f : Function) (t : Bool) → ((t ≡ true) ↔ Recovers f) → t ≡ false → IsFirstFault f 0 0
first_recover f t is e = by f.recover refl
  where
    by : (o : Option BlockId) → f.recover ≡ o → IsFirstFault f 0 0
    by None s = absurd (both_ways t e (is.1 (λ id g. absurd (none_some (sym s ∙ g)))))
      where
        none_some : {A : Type 0} {y : A} → None ≡ Some y → ⊥
        none_some q = cc
    by (Some id) s = record {
      fault = no_recover id s (missing (cases_lt id.number (length f.blocks)));
      first = λ other at h. earlier other at (cases_lt 0 other);
    }
      where
        missing : (id.number < length f.blocks) ⊎ (length f.blocks ≤ id.number) → length f.blocks ≤ id.number
        missing (inr g) = g
        missing (inl l) = absurd (both_ways t e (is.1 (λ other g. let eq : Some id ≡ Some other = sym s ∙ g in let same : id ≡ other = cc in subst (λ (b : BlockId). b.number < length f.blocks) same l)))

        earlier : (other at : ℕ) → (0 < other) ⊎ (other ≤ 0) → (0 < other) ⊎ ((0 ≡ other) × (0 ≤ at))
        earlier other at (inl l) = inl l
        earlier other at (inr z) = inr (omega arith, omega arith)
