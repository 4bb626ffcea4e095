-- Where frames stand: registers that are available are written, and frames that go on stand rightly where they come to.
use Rattle.std.proofs.Common.{◌≡◌, ◌⊎◌, inl, inr, ⊎_elim, ◌<◌, ◌≤◌, ◌+◌, ◌-◌, ◌==◌, arith, ℕ, zero, suc, Bool, true, false, if◌then◌else◌, List, [], ◌∷◌, ◌++◌, length, take, take_all, take_while, Option, Some, None, refl, sym, subst, ap, ◌∙◌, slice_get, slice_set, Contains, find, true≢false, le_refl, append_assoc, append-nil}
use Rattle.std.proofs.lemmas.Option.{none-some, get_or_from_slice_get}
use Rattle.std.specs.Bool.{beq}
use Rattle.std.specs.Cmp.{unsigned_Decides}
use Rattle.std.specs.List.{list_all, prefix_len}
use Rattle.std.specs.Option.{option_map_or}
use Rattle.ssa_runnable.specs.Runnable.{runs, has_edges, has_meaning, operands_of, operands_of_call, operands_of_cases, operands_if}
use Rattle.code_safety.specs.Safety.{IsSafe}
use Rattle.code_safety.proofs.Lists.{below_get, get_below, some_same}
use Rattle.code_safety.proofs.Machines.{Stands, IsBegun, IsFresh, IsWritten}
use Rattle.code_safety.proofs.Members.{both, Member, member, contains, member_left, member_right, member_split, no_member, take_get, get_take_below, last_split, find_first, prefix_within, given_at, at_given}
use Rattle.code_safety.proofs.Sites.{Among}
use Rattle.go_base.specs.declared.ids.BlockId.{BlockId}
use Rattle.go_base.specs.declared.place.Pos.{Pos}
use Rattle.go_value.specs.Values.{Val}
use Rattle.ssa_ir.specs.Blocks.{instrs_at, instrs_in, is_end_op}
use Rattle.ssa_ir.specs.Uses.{registers_in, registers_in_all, registers_in_option, registers_in_call, registers_in_cases, used_registers, given_registers}
use Rattle.ssa_ir.specs.declared.code.Block.{Block}
use Rattle.ssa_ir.specs.declared.code.Code.{Code}
use Rattle.ssa_ir.specs.declared.code.Function.{Function}
use Rattle.ssa_ir.specs.declared.code.FunctionKind.{FunctionKind}
use Rattle.ssa_ir.specs.declared.code.FunctionKind.TheVariants as kind
use Rattle.ssa_ir.specs.declared.operands.Operand.{Operand}
use Rattle.ssa_ir.specs.declared.operands.Operand.TheVariants as operands
use Rattle.ssa_ir.specs.declared.ops.Call.{Call}
use Rattle.ssa_ir.specs.declared.ops.Call.TheVariants as call
use Rattle.ssa_ir.specs.declared.ops.Instr.{Instr}
use Rattle.ssa_ir.specs.declared.ops.Op.{Op}
use Rattle.ssa_ir.specs.declared.ops.Op.TheVariants as op
use Rattle.ssa_ir.specs.declared.ops.PhiEdge.{PhiEdge}
use Rattle.ssa_ir.specs.declared.ops.SelectCase.{SelectCase}
use Rattle.ssa_ir.specs.declared.ops.SelectCase.TheVariants as case
use Rattle.ssa_mean.specs.Calls.{Entry, entered}
use Rattle.ssa_mean.specs.State.{Frame, FrameState, Later, advanced, with_result}
use Rattle.ssa_mean.specs.Step.{front_phis}
use Rattle.ssa_mean.specs.Unwinding.{is_phi, phis_first, at_block, at_recovery}
use Rattle.ssa_sane.specs.Sane as sane
use Rattle.ssa_sane.specs.Sane.{IsSane, IsInstr, IsEntry, IsAvailable, IsAvailableBehind, IsTarget, HasOperands, Leads, Walk, enters, recovers, goes, first_cells, froms_of, numbers_of, ArePreds, is_new}
use Rattle.ssa_typed.specs.Typed.{IsTypedFunction, fits_header, are_value_types, has_rest, is_external}

-- ---- the functions of a code

pub sane_of : (c : Code) → IsSafe c → (n : ℕ) (f : Function) → slice_get c.functions n ≡ Some f → IsSane f
sane_of c safe n f there =
    subst IsSane (get_or_from_slice_get c.functions n f f there) (safe.sane n f (get_below c.functions n f there))

pub typed_of : (c : Code) → IsSafe c → (n : ℕ) (f : Function) → slice_get c.functions n ≡ Some f → IsTypedFunction c f
typed_of c safe n f there = safe.typed n f (get_below c.functions n f there) there

-- functions with bodies have a block 0
abbrev pub has_body : FunctionKind → Bool
has_body kind.External = false
has_body _ = true

-- ---- the blocks of a function

pub record BlockAt (f : Function) (number : ℕ) : Type 0 where
  pub block : Block
  pub there : slice_get f.blocks number ≡ Some block
  pub instrs : instrs_at f number ≡ block.instrs

pub block_at : (f : Function) (number : ℕ) → number < length f.blocks → BlockAt f number
block_at f number less =
    let found = below_get f.blocks number less in
    record { block = found.0; there = found.1; instrs = ap instrs_in found.1 }

-- a block with an instruction is there
holding : (f : Function) (number : ℕ) (found : Option Block) → slice_get f.blocks number ≡ found → (k : ℕ) (instr : Instr)
    → slice_get (instrs_at f number) k ≡ Some instr → BlockAt f number
holding f number None is k instr there =
    absurd (none-some instr (sym (ap (λ b. slice_get (instrs_in b) k) is) ∙ there))
holding f number (Some block) is k instr there = record { block = block; there = is; instrs = ap instrs_in is }

pub block_of : (f : Function) (number k : ℕ) (instr : Instr) → slice_get (instrs_at f number) k ≡ Some instr → BlockAt f number
block_of f number k instr there = holding f number (slice_get f.blocks number) refl k instr there

-- ---- instructions

phi_same : (register : Option ℕ) (at : Pos) (it : Op) → sane.is_phi (record { register = register; op = it; at = at }) ≡ is_phi it
phi_same register at (op.Phi edges) = refl
phi_same register at _ = refl

-- what ends a block is no phi
end_plain : (it : Op) → is_end_op it ≡ true → is_phi it ≡ false
end_plain (op.Phi edges) h = absurd (true≢false (sym h))
end_plain _ h = refl

-- a phi or what makes a cell does not end a block
pub new_goes_on : (register : Option ℕ) (at : Pos) (it : Op) → is_new (record { register = register; op = it; at = at }) ≡ true
    → is_end_op it ≡ false
new_goes_on register at (op.New of) h = refl
new_goes_on register at (op.Jump to) h = absurd (true≢false (sym h))
new_goes_on register at (op.If test one other) h = absurd (true≢false (sym h))
new_goes_on register at (op.Return results) h = absurd (true≢false (sym h))
new_goes_on register at (op.Panic it) h = absurd (true≢false (sym h))
new_goes_on register at _ h = refl

-- what leads to a block ends its own
pub target_ends : (it : Op) (to : ℕ) → IsTarget it to → is_end_op it ≡ true
target_ends (op.Jump block) to h = refl
target_ends (op.If test one other) to h = refl
target_ends _ to (inl h) = absurd (none-some h.0 h.1.0)
target_ends _ to (inr h) = absurd (none-some h.0 h.1.0)

-- ---- phis stand first

phis_within : (instrs : List Instr) (n : ℕ) (instr : Instr) → slice_get instrs n ≡ Some instr → is_phi instr.op ≡ false
    → phis_first instrs ≤ n
phis_within [] n instr is other = absurd (none-some instr is)
phis_within (first ∷ instrs) zero instr is other =
    at (is_phi first.op) (ap (λ (it : Instr). is_phi it.op) (some_same first instr is) ∙ other)
  where
    at : (b : Bool) → b ≡ false → (if b then suc (phis_first instrs) else 0) ≤ 0
    at true e = absurd (true≢false e)
    at false e = omega arith
phis_within (first ∷ instrs) (suc n) instr is other = at (is_phi first.op) (phis_within instrs n instr is other)
  where
    at : (b : Bool) → phis_first instrs ≤ n → (if b then suc (phis_first instrs) else 0) ≤ suc n
    at true h = omega (arith, h)
    at false h = omega arith

-- phis with phis alone before them stand among the first
phis_past : (instrs : List Instr) (n : ℕ) (instr : Instr) → slice_get instrs n ≡ Some instr → is_phi instr.op ≡ true
    → ((k : ℕ) (other : Instr) → k < n → slice_get instrs k ≡ Some other → is_phi other.op ≡ true) → n < phis_first instrs
phis_past [] n instr is phi before = absurd (none-some instr is)
phis_past (first ∷ instrs) zero instr is phi before =
    at (is_phi first.op) (ap (λ (it : Instr). is_phi it.op) (some_same first instr is) ∙ phi)
  where
    at : (b : Bool) → b ≡ true → 0 < (if b then suc (phis_first instrs) else 0)
    at true e = omega arith
    at false e = absurd (true≢false (sym e))
phis_past (first ∷ instrs) (suc n) instr is phi before =
    at (is_phi first.op) (before 0 first (omega arith) refl)
    (phis_past instrs n instr is phi (λ k other less there. before (suc k) other (omega (arith, less)) there))
  where
    at : (b : Bool) → b ≡ true → n < phis_first instrs → suc n < (if b then suc (phis_first instrs) else 0)
    at true e h = omega (arith, h)
    at false e h = absurd (true≢false (sym e))

front_taken : (instrs : List Instr) → take (phis_first instrs) instrs ≡ front_phis instrs
front_taken [] = refl
front_taken (first ∷ instrs) = at (is_phi first.op) (front_taken instrs)
  where
    at : (b : Bool) → take (phis_first instrs) instrs ≡ front_phis instrs
        → take (if b then suc (phis_first instrs) else 0) (first ∷ instrs) ≡ (if b then first ∷ front_phis instrs else [])
    at true h = ap (λ its. first ∷ its) h
    at false h = refl

-- ---- what is written stays so

set_some : (xs : List (Option Val)) (m n : ℕ) (new old : Val) → slice_get xs n ≡ Some (Some old)
    → (it : Val) × (slice_get (slice_set xs m (Some new)) n ≡ Some (Some it))
set_some [] m n new old is = absurd (none-some (Some old) is)
set_some (x ∷ xs) zero zero new old is = (new, refl)
set_some (x ∷ xs) zero (suc n) new old is = (old, is)
set_some (x ∷ xs) (suc m) zero new old is = (old, is)
set_some (x ∷ xs) (suc m) (suc n) new old is = set_some xs m n new old is

pub written_with : (frame : Frame) (given : Option ℕ) (it : Option Val) (register : ℕ) → IsWritten frame register
    → IsWritten (with_result given it frame) register
written_with frame (Some given) (Some it) register h =
    let found = set_some frame.registers given register it h.it h.there in
    record { it = found.0; there = found.1 }
written_with frame (Some given) None register h = h
written_with frame None it register h = h

-- ---- what is available is written

-- an instruction that was passed has written its register
pub passed : (f : Function) (frame : Frame) (pending : Option ℕ) → Stands f frame pending → (k : ℕ) (instr : Instr)
    (register : ℕ) → k < frame.place → slice_get (instrs_at f frame.block) k ≡ Some instr
    → instr.register ≡ Some register → (pending ≡ Some register) ⊎ IsWritten frame register
passed f frame pending stands k instr register less at gives =
    stands.written register
    (contains (stands.given ++ given_registers (take frame.place (instrs_at f frame.block))) register
    (member_right stands.given (given_registers (take frame.place (instrs_at f frame.block))) register
    (at_given (take frame.place (instrs_at f frame.block)) register k instr
    (get_take_below frame.place (instrs_at f frame.block) k instr less at) gives)))

none_pending : (frame : Frame) (register : ℕ) → (None ≡ Some register) ⊎ IsWritten frame register → IsWritten frame register
none_pending frame register (inl h) = absurd (none-some register h)
none_pending frame register (inr h) = h

pub available : (f : Function) (frame : Frame) → Stands f frame None → (register : ℕ)
    → IsAvailable f frame.block frame.place register → IsWritten frame register
available f frame stands register is =
    none_pending frame register (stands.written register (is stands.given stands.walk))

-- the registers among operands
used_cases : (cases : List SelectCase) → registers_in_cases cases ≡ registers_in_all (operands_of_cases cases)
used_cases [] = refl
used_cases (case.Send channel it ∷ cases) =
    append_assoc (registers_in channel) (registers_in it) (registers_in_cases cases)
    ∙ ap (λ its. registers_in channel ++ (registers_in it ++ its)) (used_cases cases)
used_cases (case.Receive channel ∷ cases) = ap (λ its. registers_in channel ++ its) (used_cases cases)

one_used : (it : Operand) → registers_in it ≡ registers_in_all (it ∷ [])
one_used it = sym (append-nil (registers_in it))

two_used : (it other : Operand) → registers_in it ++ registers_in other ≡ registers_in_all (it ∷ other ∷ [])
two_used it other = ap (λ its. registers_in it ++ its) (one_used other)

used_option : (it : Option Operand) (others : List Operand)
    → registers_in_option it ++ registers_in_all others ≡ registers_in_all (operands_if it ++ others)
used_option None others = refl
used_option (Some it) others = refl

last_option : (it : Option Operand) → registers_in_option it ≡ registers_in_all (operands_if it)
last_option None = refl
last_option (Some it) = one_used it

used_call : (it : Call) → registers_in_call it ≡ registers_in_all (operands_of_call it)
used_call (call.Static id arguments) = refl
used_call (call.Dynamic callee arguments) = refl
used_call (call.Invoke receiver name package_number arguments) = refl
used_call (call.Builtin called arguments) = refl

used_are : (at : Op) → is_phi at ≡ false → used_registers at ≡ registers_in_all (operands_of at)
used_are (op.New of) h = refl
used_are (op.Phi edges) h = absurd (true≢false h)
used_are (op.Binary o left right) h = two_used left right
used_are (op.Unary o it) h = one_used it
used_are (op.Load at) h = one_used at
used_are (op.Store at it) h = two_used at it
used_are (op.Field it field) h = one_used it
used_are (op.FieldAddress it field) h = one_used it
used_are (op.Index it index) h = two_used it index
used_are (op.IndexAddress it index) h = two_used it index
used_are (op.Lookup it key comma_ok) h = two_used it key
used_are (op.Update it key new) h = ap (λ its. registers_in it ++ its) (two_used key new)
used_are (op.Slice it low high max) h =
    ap (λ its. registers_in it ++ its)
    (ap (λ its. registers_in_option low ++ its)
    (ap (λ its. registers_in_option high ++ its) (last_option max) ∙ used_option high (operands_if max))
    ∙ used_option low (operands_if high ++ operands_if max))
used_are (op.Convert of it) h = one_used it
used_are (op.ChangeType of it) h = one_used it
used_are (op.MakeInterface of it) h = one_used it
used_are (op.ChangeInterface of it) h = one_used it
used_are (op.MakeClosure id captured) h = refl
used_are (op.MakeMap of) h = refl
used_are (op.MakeChan of size) h = one_used size
used_are (op.MakeSlice of len most) h = two_used len most
used_are (op.TypeAssert it of comma_ok) h = one_used it
used_are (op.Call called) h = used_call called
used_are (op.Go called) h = used_call called
used_are (op.Defer called) h = used_call called
used_are op.RunDefers h = refl
used_are (op.Send channel it) h = two_used channel it
used_are (op.Receive channel comma_ok) h = one_used channel
used_are (op.Select blocking cases) h = used_cases cases
used_are (op.Range it) h = one_used it
used_are (op.Next it) h = one_used it
used_are (op.Extract it part) h = one_used it
used_are op.Tick h = refl
used_are (op.Jump block) h = refl
used_are (op.If test one other) h = one_used test
used_are (op.Return results) h = refl
used_are (op.Panic it) h = one_used it

among_used : (its : List Operand) (it : Operand) (register : ℕ) → Among it its → it ≡ operands.Register register
    → Member register (registers_in_all its)
among_used [] it register among is = absurd among
among_used (first ∷ its) it register (inl same) is =
    member_left (registers_in first) (registers_in_all its) register
    (subst (λ o. Member register (registers_in o)) (sym (same ∙ is)) (0, refl))
among_used (first ∷ its) it register (inr among) is =
    member_right (registers_in first) (registers_in_all its) register (among_used its it register among is)

operands_available : (f : Function) (block place : ℕ) (at : Op) → is_phi at ≡ false → HasOperands f block place at
    → (register : ℕ) → Contains (used_registers at) register → IsAvailable f block place register
operands_available f block place (op.Phi edges) plain has = absurd (true≢false plain)
operands_available f block place _ plain has = has

-- the register of an operand of an instruction that is no phi
pub operand_written : (f : Function) (frame : Frame) (at : Op) → Stands f frame None → is_phi at ≡ false
    → HasOperands f frame.block frame.place at → (it : Operand) → Among it (operands_of at) → (register : ℕ)
    → it ≡ operands.Register register → IsWritten frame register
operand_written f frame at stands plain has it among register is =
    available f frame stands register
    (operands_available f frame.block frame.place at plain has register
    (contains (used_registers at) register
    (subst (λ its. Member register its) (sym (used_are at plain)) (among_used (operands_of at) it register among is))))

-- the instruction at which a frame stands is no phi
pub no_phi : (f : Function) (frame : Frame) (instr : Instr) → Stands f frame None
    → slice_get (instrs_at f frame.block) frame.place ≡ Some instr → IsInstr f frame.block frame.place instr
    → is_phi instr.op ≡ false
no_phi f frame instr stands at sane = decide (is_phi instr.op) refl
  where
    before : (it : Op) → HasOperands f frame.block frame.place it → is_phi it ≡ true → (k : ℕ) (other : Instr)
        → k < frame.place → slice_get (instrs_at f frame.block) k ≡ Some other → is_phi other.op ≡ true
    before (op.Phi edges) has phi k other less there = sym (phi_same other.register other.at other.op) ∙ has.1 k other less there
    before _ has phi k other less there = absurd (true≢false (sym phi))

    decide : (b : Bool) → is_phi instr.op ≡ b → b ≡ false
    decide false e = refl
    decide true e =
        absurd (omega (
          arith,
          stands.behind,
          phis_past (instrs_at f frame.block) frame.place instr at e
              (before instr.op sane.operands e),
        ))

less_or_same : (k n : ℕ) → k < suc n → (k < n) ⊎ (k ≡ n)
less_or_same k n less = ⊎_elim (λ e. inr e) (λ h. inl h) (apart k n less)
  where
    apart : (k n : ℕ) → k < suc n → (k ≡ n) ⊎ (k < n)
    apart zero zero h = inl refl
    apart zero (suc n) h = inr (omega arith)
    apart (suc k) zero h = absurd (omega (arith, h))
    apart (suc k) (suc n) h = ⊎_elim (λ e. inl (ap suc e)) (λ l. inr (omega (arith, l))) (apart k n (omega (arith, h)))

-- ---- the next place

abbrev pub placed_next : Frame → Frame
placed_next frame = advanced frame

-- the same block, one place further
further : (f : Function) (frame new : Frame) (instr : Instr) (pending old : Option ℕ) → Stands f frame old
    → slice_get (instrs_at f frame.block) frame.place ≡ Some instr → IsInstr f frame.block frame.place instr
    → is_end_op instr.op ≡ false → new.block ≡ frame.block → new.place ≡ suc frame.place
    → ((register : ℕ) → (old ≡ Some register) ⊎ IsWritten frame register
    → (pending ≡ Some register) ⊎ IsWritten new register)
    → ((register : ℕ) → instr.register ≡ Some register → (pending ≡ Some register) ⊎ IsWritten new register)
    → Stands f new pending
further f frame new instr pending old stands at sane goes_on same_block next kept given =
    record {
      given = stands.given;
      walk = subst (λ b. Walk f b stands.given) (sym same_block) stands.walk;
      written = λ register h.
          ⊎_elim (λ m. kept register (stands.written register
          (contains (stands.given ++ given_registers (take frame.place (instrs_at f frame.block))) register
          (member_left stands.given (given_registers (take frame.place (instrs_at f frame.block))) register m))))
          (λ m. passing register (given_at (take (suc frame.place) (instrs_at f frame.block)) register m))
          (member_split stands.given (given_registers (take (suc frame.place) (instrs_at f frame.block))) register
          (member (stands.given ++ given_registers (take (suc frame.place) (instrs_at f frame.block))) register
          (subst (λ b. Contains (stands.given ++ given_registers (take (suc frame.place) (instrs_at f b))) register) same_block
          (subst (λ p. Contains (stands.given ++ given_registers (take p (instrs_at f new.block))) register) next h))));
      behind = subst (λ b. phis_first (instrs_at f b) ≤ new.place) (sym same_block)
          (subst (λ p. phis_first (instrs_at f frame.block) ≤ p) (sym next) (omega (arith, stands.behind)));
      within = subst (λ b. new.place < length (instrs_at f b)) (sym same_block)
          (subst (λ p. p < length (instrs_at f frame.block)) (sym next)
          (let last : frame.place + 1 ≡ length (instrs_at f frame.block) → ⊥ =
          λ e. true≢false (sym (sane.ends.1 e) ∙ goes_on) in
          omega (arith, stands.within, last)));
    }
  where
    decide : (k : ℕ) (other : Instr) (register : ℕ) → k < suc frame.place
        → slice_get (instrs_at f frame.block) k ≡ Some other → other.register ≡ Some register
        → (k < frame.place) ⊎ (k ≡ frame.place) → (pending ≡ Some register) ⊎ IsWritten new register
    decide k other register less there gives (inl before) =
        kept register (passed f frame old stands k other register before there gives)
    decide k other register less there gives (inr here) =
        given register (ap (λ (it : Instr). it.register)
        (some_same instr other (sym at ∙ ap (slice_get (instrs_at f frame.block)) (sym here) ∙ there)) ∙ gives)

    passing : (register : ℕ)
        → (k : ℕ) × ((other : Instr) × ((slice_get (take (suc frame.place) (instrs_at f frame.block)) k ≡ Some other)
        × (other.register ≡ Some register)))
        → (pending ≡ Some register) ⊎ IsWritten new register
    passing register m =
        let taken = take_get (suc frame.place) (instrs_at f frame.block) m.0 m.1.0 m.1.1.0 in
        decide m.0 m.1.0 register taken.0 taken.1 m.1.1.1 (less_or_same m.0 frame.place taken.0)

same_block : (given : Option ℕ) (it : Option Val) (frame : Frame) → (with_result given it frame).block ≡ frame.block
same_block (Some given) (Some it) frame = refl
same_block (Some given) None frame = refl
same_block None it frame = refl

same_place : (given : Option ℕ) (it : Option Val) (frame : Frame) → (with_result given it frame).place ≡ frame.place
same_place (Some given) (Some it) frame = refl
same_place (Some given) None frame = refl
same_place None it frame = refl

-- behind an instruction, where its register is written, if there is one
pub next_stands : (f : Function) (frame : Frame) (instr : Instr) → Stands f frame None
    → slice_get (instrs_at f frame.block) frame.place ≡ Some instr → IsInstr f frame.block frame.place instr
    → is_end_op instr.op ≡ false → (it : Option Val)
    → ((register : ℕ) → instr.register ≡ Some register → IsWritten (with_result instr.register it frame) register)
    → Stands f (advanced (with_result instr.register it frame)) None
next_stands f frame instr stands at sane goes_on it written =
    further f frame (advanced (with_result instr.register it frame)) instr None None stands at sane goes_on
    (same_block instr.register it frame) (ap suc (same_place instr.register it frame))
    (λ register h. inr (moved (written_with frame instr.register it register (none_pending frame register h))))
    (λ register is. inr (moved (written register is)))
  where
    moved : {register : ℕ} → IsWritten (with_result instr.register it frame) register
        → IsWritten (advanced (with_result instr.register it frame)) register
    moved h = record { it = h.it; there = h.there }

-- behind a call, whose register waits
pub pending_stands : (f : Function) (frame : Frame) (instr : Instr) → Stands f frame None
    → slice_get (instrs_at f frame.block) frame.place ≡ Some instr → IsInstr f frame.block frame.place instr
    → is_end_op instr.op ≡ false → Stands f (advanced frame) instr.register
pending_stands f frame instr stands at sane goes_on =
    further f frame (advanced frame) instr instr.register None stands at sane goes_on refl refl
    (λ register h. inr (moved (none_pending frame register h))) (λ register is. inl is)
  where
    moved : {register : ℕ} → IsWritten frame register → IsWritten (advanced frame) register
    moved h = record { it = h.it; there = h.there }

-- at the same place
pub elsewhere : (f : Function) (frame new : Frame) (old pending : Option ℕ) → Stands f frame old → new.block ≡ frame.block
    → new.place ≡ frame.place
    → ((register : ℕ) → (old ≡ Some register) ⊎ IsWritten frame register
    → (pending ≡ Some register) ⊎ IsWritten new register)
    → Stands f new pending
elsewhere f frame new old pending stands block place kept =
    record {
      given = stands.given;
      walk = subst (λ b. Walk f b stands.given) (sym block) stands.walk;
      written = λ register h.
          kept register (stands.written register
          (subst (λ b. Contains (stands.given ++ given_registers (take frame.place (instrs_at f b))) register) block
          (subst (λ p. Contains (stands.given ++ given_registers (take p (instrs_at f new.block))) register) place h)));
      behind = subst (λ b. phis_first (instrs_at f b) ≤ new.place) (sym block)
          (subst (λ p. phis_first (instrs_at f frame.block) ≤ p) (sym place) stands.behind);
      within = subst (λ b. new.place < length (instrs_at f b)) (sym block)
          (subst (λ p. p < length (instrs_at f frame.block)) (sym place) stands.within);
    }

-- a register that waited is written
pub given_stands : (f : Function) (frame : Frame) (pending : Option ℕ) (it : Option Val) → Stands f frame pending
    → ((register : ℕ) → pending ≡ Some register → IsWritten (with_result pending it frame) register)
    → Stands f (with_result pending it frame) None
given_stands f frame pending it stands written =
    elsewhere f frame (with_result pending it frame) pending None stands (same_block pending it frame)
    (same_place pending it frame)
    (λ register h. inr (⊎_elim (λ is. written register is) (λ old. written_with frame pending it register old) h))

-- whatever a frame is about, and has put off
pub state_stands : (f : Function) (frame : Frame) (pending : Option ℕ) (state : FrameState) (defers : List Later)
    → Stands f frame pending → Stands f (record frame { state = state; defers = defers }) pending
state_stands f frame pending state defers stands =
    elsewhere f frame (record frame { state = state; defers = defers }) pending pending stands refl refl
    (λ register h. ⊎_elim (λ is. inl is) (λ (old : IsWritten frame register). inr (record { it = old.it; there = old.there })) h)

-- ---- the first cells

pub begun_at : (f : Function) (frame : Frame) (instr : Instr) → Stands f frame None → IsBegun f frame ⊎ IsFresh f frame
    → slice_get (instrs_at f frame.block) frame.place ≡ Some instr → is_new instr ≡ false → IsBegun f frame
begun_at f frame instr stands (inl begun) at other = begun
begun_at f frame instr stands (inr is) at other = λ register h. first register h
  where
    here : slice_get (instrs_at f 0) frame.place ≡ Some instr
    here = subst (λ b. slice_get (instrs_at f b) frame.place ≡ Some instr) is.first at

    first : (register : ℕ) → Contains (first_cells f) register → IsWritten frame register
    first register h =
        let m = given_at (take_while is_new (instrs_at f 0)) register (member (first_cells f) register h) in
        let taken = take_get (prefix_len is_new (instrs_at f 0)) (instrs_at f 0) m.0 m.1.0 m.1.1.0 in
        let within = prefix_within is_new (instrs_at f 0) frame.place instr here other in
        none_pending frame register
        (passed f frame None stands m.0 m.1.0 register (omega (arith, taken.0, within))
        (subst (λ b. slice_get (instrs_at f b) m.0 ≡ Some m.1.0) (sym is.first) taken.1) m.1.1.1)

pub fresh_next : (f : Function) (frame : Frame) (instr : Instr) (it : Option Val) → IsBegun f frame ⊎ IsFresh f frame
    → slice_get (instrs_at f frame.block) frame.place ≡ Some instr → is_new instr ≡ true
    → IsBegun f (advanced (with_result instr.register it frame)) ⊎ IsFresh f (advanced (with_result instr.register it frame))
fresh_next f frame instr it (inl begun) at new =
    inl (λ register h.
    let old = written_with frame instr.register it register (begun register h) in
    record { it = old.it; there = old.there })
fresh_next f frame instr it (inr is) at new =
    inr (record {
      runs = same_state instr.register it ∙ is.runs;
      first = same_block instr.register it frame ∙ is.first;
      news = λ n other less there.
          ⊎_elim (λ before. is.news n other before there)
          (λ here. subst (λ (x : Instr). is_new x ≡ true)
          (some_same instr other (sym at ∙ ap (λ b. slice_get (instrs_at f b) frame.place) is.first
          ∙ ap (slice_get (instrs_at f 0)) (sym here) ∙ there)) new)
          (less_or_same n frame.place (subst (λ p. n < suc p) (same_place instr.register it frame) less));
    })
  where
    same_state : (given : Option ℕ) (it : Option Val) → (with_result given it frame).state ≡ frame.state
    same_state (Some given) (Some it) = refl
    same_state (Some given) None = refl
    same_state None it = refl

pub begun_with : (f : Function) (frame : Frame) (register : Option ℕ) (it : Option Val) → IsBegun f frame
    → IsBegun f (with_result register it frame)
begun_with f frame register it begun n h = written_with frame register it n (begun n h)

-- ---- entries

pub entry_phis : (c : Code) → IsSafe c → (n : ℕ) (f : Function) → slice_get c.functions n ≡ Some f → (block : ℕ)
    → IsEntry f block → phis_first (instrs_at f block) ≡ 0
entry_phis c safe n f there block entry = at (instrs_at f block) refl
  where
    sane : IsSane f
    sane = sane_of c safe n f there

    edges_lead : (edges : List PhiEdge) → has_edges edges ≡ true → ArePreds f block (froms_of edges)
        → (number : ℕ) × Leads f number block
    edges_lead [] some are = absurd (true≢false (sym some))
    edges_lead (edge ∷ edges) some are =
        (edge.from.number, (are.each edge.from.number).0 (contains (froms_of (edge ∷ edges)) edge.from.number (0, refl)))

    none_lead : (number : ℕ) (found : BlockAt f block) → Leads f number block → ⊥
    none_lead number found leads =
        let is = sane.blocks block found.block found.there in
        no_member number
        (member [] number (subst (λ ids. Contains (numbers_of ids) number) (is.entry entry) ((is.preds.each number).1 leads)))

    no_entry : (it : Op) → HasOperands f block 0 it → runs c f it ≡ true → BlockAt f block → is_phi it ≡ false
    no_entry (op.Phi edges) has runs found =
        let leads = edges_lead edges (both (has_edges edges) (list_all (has_meaning c) (operands_of (op.Phi edges))) runs).0 has.0 in
        absurd (none_lead leads.0 found leads.1)
    no_entry _ has runs found = refl

    at : (instrs : List Instr) → instrs_at f block ≡ instrs → phis_first instrs ≡ 0
    at [] e = refl
    at (instr ∷ instrs) e =
        let stands : slice_get (instrs_at f block) 0 ≡ Some instr = ap (λ its. slice_get its 0) e in
        ap (λ b. if b then suc (phis_first instrs) else 0)
        (no_entry instr.op (sane.instrs block 0 instr stands).operands (safe.runnable.instrs n block 0 f instr there stands)
        (block_of f block 0 instr stands))

has_block : (c : Code) (f : Function) → fits_header c f ≡ true → has_body f.kind ≡ true → 0 < length f.blocks
has_block c f header body =
    let one = both (are_value_types c.types f.params) _ header in
    let two = both (are_value_types c.types f.free) _ one.1 in
    let three = both (are_value_types c.types f.results) _ two.1 in
    let four = both (has_rest c.types f.variadic f.params) _ three.1 in
    let five = both (beq (is_external f.kind) (length f.blocks == 0)) _ four.1 in
    positive f.blocks (not_external f.kind body) five.0
  where
    not_external : (it : FunctionKind) → has_body it ≡ true → is_external it ≡ false
    not_external kind.External h = absurd (true≢false (sym h))
    not_external _ h = refl

    positive : (blocks : List Block) → is_external f.kind ≡ false → beq (is_external f.kind) (length blocks == 0) ≡ true
        → 0 < length blocks
    positive [] e h = absurd (true≢false (sym h ∙ ap (λ b. beq b true) e))
    positive (block ∷ blocks) e h = omega arith

pub entry_stands : (c : Code) → IsSafe c → (n : ℕ) (f : Function) → slice_get c.functions n ≡ Some f
    → has_body f.kind ≡ true → (entry : Entry)
    → Stands f (entered f entry) None × IsFresh f (entered f entry)
entry_stands c safe n f there body entry = (
  record {
    given = [];
    walk = enters;
    written = λ register h.
        absurd (no_member register (member [] register
        (subst (λ p. Contains (given_registers (take p (instrs_at f 0))) register) none h)));
    behind = le_refl _;
    within = subst (λ p. p < length (instrs_at f 0)) (sym none)
        (subst (λ its. 0 < length its) (sym found.instrs) (sane.blocks 0 found.block found.there).holds);
  },
  record {
    runs = refl;
    first = refl;
    news = λ k instr less is. absurd (omega (arith, less, none));
  },
)
  where
    sane : IsSane f
    sane = sane_of c safe n f there

    none : phis_first (instrs_at f 0) ≡ 0
    none = entry_phis c safe n f there 0 (inl refl)

    found : BlockAt f 0
    found = block_at f 0 (has_block c f (typed_of c safe n f there).header body)

-- where a frame that panics goes on, if it recovers
pub recovery_stands : (c : Code) → IsSafe c → (n : ℕ) (f : Function) → slice_get c.functions n ≡ Some f → (frame : Frame)
    → IsBegun f frame → (block : BlockId) → f.recover ≡ Some block
    → Stands f (at_recovery (Some f) frame) None × IsBegun f (at_recovery (Some f) frame)
recovery_stands c safe n f there frame begun block is =
    subst (λ (new : Frame). Stands f new None × IsBegun f new) (sym same) (stands, kept)
  where
    sane : IsSane f
    sane = sane_of c safe n f there

    same : at_recovery (Some f) frame ≡ at_block f block.number frame
    same = ap (λ (r : Option BlockId). option_map_or (λ b. at_block f b.number frame) r frame) is

    none : phis_first (instrs_at f block.number) ≡ 0
    none = entry_phis c safe n f there block.number (inr (block, (is, refl)))

    found : BlockAt f block.number
    found = block_at f block.number (sane.recover block is)

    kept : IsBegun f (at_block f block.number frame)
    kept register h = let old = begun register h in record { it = old.it; there = old.there }

    way : (number : ℕ) → number ≡ block.number
        → (given : List ℕ) × (Walk f block.number given × ((register : ℕ) → Member register given → Contains (first_cells f) register))
    way zero e = ([], (subst (λ b. Walk f b []) e enters, λ register m. absurd (no_member register m)))
    way (suc number) e =
        (first_cells f, (recovers block is (omega (arith, e)), λ register m. contains (first_cells f) register m))

    from : (given : List ℕ) × (Walk f block.number given × ((register : ℕ) → Member register given → Contains (first_cells f) register))
    from = way block.number refl

    stands : Stands f (at_block f block.number frame) None
    stands =
        record {
          given = from.0;
          walk = from.1.0;
          written = λ register h.
              inr (kept register (from.1.1 register
              (subst (λ its. Member register its) (append-nil from.0)
              (member (from.0 ++ []) register
              (subst (λ p. Contains (from.0 ++ given_registers (take p (instrs_at f block.number))) register) none h)))));
          behind = le_refl _;
          within = subst (λ p. p < length (instrs_at f block.number)) (sym none)
              (subst (λ its. 0 < length its) (sym found.instrs) (sane.blocks block.number found.block found.there).holds);
        }

-- ---- jumps

-- all that a block gives is written where its last instruction gives nothing
left_written : (f : Function) (frame : Frame) (instr : Instr) (stands : Stands f frame None)
    → slice_get (instrs_at f frame.block) frame.place ≡ Some instr → frame.place + 1 ≡ length (instrs_at f frame.block)
    → instr.register ≡ None → (register : ℕ) → Member register (stands.given ++ given_registers (instrs_at f frame.block))
    → IsWritten frame register
left_written f frame instr stands at last none register m =
    ⊎_elim (λ (m : Member register stands.given). none_pending frame register (stands.written register
    (contains (stands.given ++ given_registers (take frame.place (instrs_at f frame.block))) register
    (member_left stands.given (given_registers (take frame.place (instrs_at f frame.block))) register m))))
    (λ m. within (given_at (instrs_at f frame.block) register m))
    (member_split stands.given (given_registers (instrs_at f frame.block)) register m)
  where
    decide : (k : ℕ) (other : Instr) → slice_get (instrs_at f frame.block) k ≡ Some other → other.register ≡ Some register
        → (k < frame.place) ⊎ (k ≡ frame.place) → IsWritten frame register
    decide k other there gives (inl before) =
        none_pending frame register (passed f frame None stands k other register before there gives)
    decide k other there gives (inr here) =
        absurd (none-some register (sym none ∙ ap (λ (it : Instr). it.register)
        (some_same instr other (sym at ∙ ap (slice_get (instrs_at f frame.block)) (sym here) ∙ there)) ∙ gives))

    within : (k : ℕ) × ((other : Instr) × ((slice_get (instrs_at f frame.block) k ≡ Some other) × (other.register ≡ Some register)))
        → IsWritten frame register
    within m =
        let less = get_below (instrs_at f frame.block) m.0 m.1.0 m.1.1.0 in
        decide m.0 m.1.0 m.1.1.0 m.1.1.1 (less_or_same m.0 frame.place (omega (arith, less, last)))

-- a block does not end with its phis
phis_inside : (f : Function) (block : ℕ) → IsSane f → 0 < length (instrs_at f block)
    → phis_first (instrs_at f block) < length (instrs_at f block)
phis_inside f block sane positive =
    let less : length (instrs_at f block) - 1 < length (instrs_at f block) = omega (arith, positive) in
    let last = below_get (instrs_at f block) (length (instrs_at f block) - 1) less in
    let ends = (sane.instrs block (length (instrs_at f block) - 1) last.0 last.1).ends.1 (omega (arith, positive)) in
    let within = phis_within (instrs_at f block) (length (instrs_at f block) - 1) last.0 last.1 (end_plain last.0.op ends) in
    omega (arith, within, positive)

-- the register of each phi is written
pub jump_stands : (c : Code) → IsSafe c → (n : ℕ) (f : Function) → slice_get c.functions n ≡ Some f → (frame new : Frame)
    (instr : Instr) (to : ℕ) → Stands f frame None → slice_get (instrs_at f frame.block) frame.place ≡ Some instr
    → IsTarget instr.op to → instr.register ≡ None
    → ((register : ℕ) → IsWritten frame register → IsWritten new register)
    → ((register : ℕ) → Contains (given_registers (front_phis (instrs_at f to))) register → IsWritten new register)
    → Stands f (at_block f to new) None
jump_stands c safe n f there frame new instr to stands at target none kept phis =
    record {
      given = stands.given ++ given_registers (instrs_at f frame.block);
      walk = goes frame.block to stands.given stands.walk leads;
      written = λ register h.
          inr (moved register (⊎_elim (λ m. old register m)
          (λ m. phis register (contains (given_registers (front_phis (instrs_at f to))) register
          (subst (λ its. Member register (given_registers its)) (front_taken (instrs_at f to)) m)))
          (member_split (stands.given ++ given_registers (instrs_at f frame.block))
          (given_registers (take (phis_first (instrs_at f to)) (instrs_at f to))) register
          (member ((stands.given ++ given_registers (instrs_at f frame.block))
          ++ given_registers (take (phis_first (instrs_at f to)) (instrs_at f to))) register h))));
      behind = le_refl _;
      within = within;
    }
  where
    sane : IsSane f
    sane = sane_of c safe n f there

    is : IsInstr f frame.block frame.place instr
    is = sane.instrs frame.block frame.place instr at

    last : frame.place + 1 ≡ length (instrs_at f frame.block)
    last = is.ends.0 (target_ends instr.op to target)

    leads : Leads f frame.block to
    leads =
        record {
          front = take frame.place (instrs_at f frame.block);
          last = instr;
          stands = last_split (instrs_at f frame.block) frame.place instr at last;
          target = target;
          exists = is.targets to target;
        }

    moved : (register : ℕ) → IsWritten new register → IsWritten (at_block f to new) register
    moved register h = record { it = h.it; there = h.there }

    old : (register : ℕ) → Member register (stands.given ++ given_registers (instrs_at f frame.block)) → IsWritten new register
    old register m = kept register (left_written f frame instr stands at last none register m)

    found : BlockAt f to
    found = block_at f to (is.targets to target)

    within : phis_first (instrs_at f to) < length (instrs_at f to)
    within = phis_inside f to sane (subst (λ its. 0 < length its) (sym found.instrs) (sane.blocks to found.block found.there).holds)

-- the edge of a phi from the block that is left has an operand that is written
pub edge_written : (f : Function) (frame : Frame) (instr : Instr) (to place : ℕ) (phi : Instr) (edges : List PhiEdge)
    → IsSane f → Stands f frame None → slice_get (instrs_at f frame.block) frame.place ≡ Some instr → IsTarget instr.op to
    → instr.register ≡ None → slice_get (instrs_at f to) place ≡ Some phi → phi.op ≡ op.Phi edges
    → (edge : PhiEdge) × ((find (λ (it : PhiEdge). it.from.number == frame.block) edges ≡ Some edge)
    × ((register : ℕ) → edge.value ≡ operands.Register register → IsWritten frame register))
edge_written f frame instr to place phi edges sane stands at target none there is =
    let has : HasOperands f to place (op.Phi edges) =
    subst (HasOperands f to place) is (sane.instrs to place phi there).operands in
    let numbers = member (froms_of edges) frame.block ((has.0.each frame.block).1 leads) in
    let edge = from_edges edges numbers.0 numbers.1 in
    let first = find_first (λ (it : PhiEdge). it.from.number == frame.block) edges edge.0 edge.1.0 edge.1.1 in
    let same : first.it.from.number ≡ frame.block = (unsigned_Decides first.it.from.number frame.block).0 first.passes in (
      first.it,
      (
        first.found,
        λ register uses.
            left_written f frame instr stands at last none register
            (subst (λ its. Member register (stands.given ++ given_registers its)) (take_all (length (instrs_at f frame.block)) (instrs_at f frame.block) (le_refl _))
            (member (stands.given ++ given_registers (take (length (instrs_at f frame.block)) (instrs_at f frame.block))) register
            (subst (λ b. IsAvailableBehind f b register) same
            (has.2 first.it register (contains edges first.it first.there)
            (contains (registers_in first.it.value) register
            (subst (λ o. Member register (registers_in o)) (sym uses) (0, refl))))
            stands.given stands.walk))),
      ),
    )
  where
    last : frame.place + 1 ≡ length (instrs_at f frame.block)
    last = (sane.instrs frame.block frame.place instr at).ends.0 (target_ends instr.op to target)

    leads : Leads f frame.block to
    leads =
        record {
          front = take frame.place (instrs_at f frame.block);
          last = instr;
          stands = last_split (instrs_at f frame.block) frame.place instr at last;
          target = target;
          exists = (sane.instrs frame.block frame.place instr at).targets to target;
        }

    from_edges : (edges : List PhiEdge) (k : ℕ) → slice_get (froms_of edges) k ≡ Some frame.block
        → (edge : PhiEdge) × (Member edge edges × ((edge.from.number == frame.block) ≡ true))
    from_edges [] k e = absurd (none-some frame.block e)
    from_edges (edge ∷ edges) zero e =
        (edge, ((0, refl), (unsigned_Decides edge.from.number frame.block).1 (some_same edge.from.number frame.block e)))
    from_edges (edge ∷ edges) (suc k) e =
        let r = from_edges edges k e in (r.0, ((suc r.1.0.0, r.1.0.1), r.1.1))
