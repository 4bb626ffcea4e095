-- Jumps: the phis of the block are read, and then written.
use Rattle.std.proofs.Common.{◌≡◌, inl, inr, ℕ, zero, suc, Bool, true, false, true≢false, if◌then◌else◌, cond, ◌&&◌, ◌==◌, List, [], ◌∷◌, Option, Some, None, refl, sym, subst, ap, ◌∙◌, slice_get, option_map}
use Rattle.std.proofs.lemmas.Option.{none-some}
use Rattle.std.specs.List.{list_all, find}
use Rattle.std.specs.Option.{option_and_then}
use Rattle.ssa_runnable.specs.Runnable.{has_meaning, runs, runs_op, operands_of_edges}
use Rattle.code_safety.proofs.Available.{sane_of, typed_of, jump_stands, edge_written, written_with, begun_at}
use Rattle.code_safety.proofs.Going.{operand_reads, result_fits, result_written, result_same}
use Rattle.code_safety.proofs.Lists.{some_same}
use Rattle.code_safety.proofs.Machines.{Safe, FrameFits, IsBegun, IsWritten, begun, Takes, AreBelow, AreFrames}
use Rattle.code_safety.proofs.Members.{both, member, given_at}
use Rattle.code_safety.proofs.Opening.{frames_closed}
use Rattle.code_safety.proofs.Operands.{operand_value, truth_value}
use Rattle.code_safety.proofs.Going.{site_reads}
use Rattle.code_safety.proofs.Sites.{SiteFits, Reads, IsRegister}
use Rattle.code_safety.proofs.Throwing.{moved_fits}
use Rattle.code_safety.proofs.Values.{Typing, IsOf}
use Rattle.go_base.specs.declared.ids.BlockId.{BlockId}
use Rattle.go_base.specs.declared.ids.TypeId.{TypeId}
use Rattle.go_value.specs.Values.{Val}
use Rattle.ssa_ir.specs.Blocks.{instrs_at}
use Rattle.ssa_ir.specs.Uses.{given_registers}
use Rattle.ssa_ir.specs.declared.code.Code.{Code}
use Rattle.ssa_ir.specs.declared.code.Function.{Function}
use Rattle.ssa_ir.specs.declared.operands.Operand.{Operand}
use Rattle.ssa_ir.specs.declared.ops.Instr.{Instr}
use Rattle.ssa_ir.specs.declared.ops.Op.{Op}
use Rattle.ssa_ir.specs.declared.ops.Op.TheVariants as op
use Rattle.ssa_ir.specs.declared.ops.PhiEdge.{PhiEdge}
use Rattle.ssa_mean.specs.State.{Frame, goes, where_there, with_frames, with_result}
use Rattle.ssa_mean.specs.Step.{Site, value, phi_value, with_phis, front_phis, jumps, branches, acts}
use Rattle.ssa_mean.specs.Unwinding.{is_phi, at_block}
use Rattle.ssa_sane.specs.Sane.{IsTarget, is_new}
use Rattle.ssa_typed.specs.Forms.{FitsOp, FitsGiving, fits_giving, fits_alone}
use Rattle.ssa_typed.specs.Operands.{is_operand}
use Rattle.ssa_typed.specs.Typed.{IsTypedInstr, FitsRegister, FitsTyped}

-- ---- instructions that give no register

pub no_register : (s : Site) (it : Op) → ((of : TypeId) → FitsGiving s.code s.function it of → ⊥) → (register : Option ℕ)
    → (of : Option TypeId) → IsRegister s.function register of → FitsOp s.code s.function it of → register ≡ None
no_register s it never None of is typed = refl
no_register s it never (Some register) of is typed =
    absurd (never is.0 (subst (FitsOp s.code s.function it) is.1.0 typed))

-- ---- the phis of a block

front_get : (instrs : List Instr) (k : ℕ) (phi : Instr) → slice_get (front_phis instrs) k ≡ Some phi
    → (slice_get instrs k ≡ Some phi) × (is_phi phi.op ≡ true)
front_get [] k phi is = absurd (none-some phi is)
front_get (instr ∷ instrs) k phi is = by (is_phi instr.op) refl k is (front_get instrs)
  where
    by : (b : Bool) → is_phi instr.op ≡ b → (k : ℕ) → slice_get (if b then instr ∷ front_phis instrs else []) k ≡ Some phi
        → ((k : ℕ) (phi : Instr) → slice_get (front_phis instrs) k ≡ Some phi → (slice_get instrs k ≡ Some phi) × (is_phi phi.op ≡ true))
        → (slice_get (instr ∷ instrs) k ≡ Some phi) × (is_phi phi.op ≡ true)
    by false e k is later = absurd (none-some phi is)
    by true e zero is later = (is, subst (λ (it : Instr). is_phi it.op ≡ true) (some_same instr phi is) e)
    by true e (suc k) is later = later k phi is

edges_of : (it : Op) → is_phi it ≡ true → (edges : List PhiEdge) × (it ≡ op.Phi edges)
edges_of (op.Phi edges) h = (edges, refl)
edges_of _ h = absurd (true≢false (sym h))

-- what holds of all edges holds of the one that is found
found_passes : (test chosen : PhiEdge → Bool) (edges : List PhiEdge) (edge : PhiEdge) → list_all test edges ≡ true
    → find chosen edges ≡ Some edge → test edge ≡ true
found_passes test chosen [] edge all is = absurd (none-some edge is)
found_passes test chosen (first ∷ edges) edge all is =
    let k = both (test first) (list_all test edges) all in
    by (chosen first) is k.0 (found_passes test chosen edges edge k.1)
  where
    by : (b : Bool) → cond b (Some first) (find chosen edges) ≡ Some edge → test first ≡ true
        → (find chosen edges ≡ Some edge → test edge ≡ true) → test edge ≡ true
    by true is now later = subst (λ edge. test edge ≡ true) (some_same first edge is) now
    by false is now later = later is

edges_mean : (c : Code) (edges : List PhiEdge) → list_all (has_meaning c) (operands_of_edges edges) ≡ true
    → list_all (λ edge. has_meaning c edge.value) edges ≡ true
edges_mean c [] h = refl
edges_mean c (edge ∷ edges) h =
    let k = both (has_meaning c edge.value) (list_all (has_meaning c) (operands_of_edges edges)) h in
    ap (λ b. b && list_all (λ edge. has_meaning c edge.value) edges) k.0 ∙ edges_mean c edges k.1

-- what a phi gives
record PhiGives (t : Typing) (s : Site) (phi : Instr) : Type 0 where
  register : ℕ
  is : phi.register ≡ Some register
  of : TypeId
  held : slice_get s.function.registers register ≡ Some of
  it : Val
  value_is : phi_value s phi.op ≡ Some it
  fits : IsOf s.code t it of

record PhiTyped (c : Code) (f : Function) (phi : Instr) (edges : List PhiEdge) : Type 0 where
  register : ℕ
  is : phi.register ≡ Some register
  of : TypeId
  held : slice_get f.registers register ≡ Some of
  typed : list_all (λ edge. is_operand c f edge.value of) edges ≡ true

phi_typed : (c : Code) (f : Function) (phi : Instr) (edges : List PhiEdge) (given : List ℕ) → phi.op ≡ op.Phi edges
    → IsTypedInstr c f given phi → PhiTyped c f phi edges
unfolding FitsGiving fits_giving fits_alone
phi_typed c f phi edges given is typed = by phi.register refl (subst (λ it. FitsRegister c f it given phi.register) is typed.1)
  where
    of_type : (register : ℕ) → phi.register ≡ Some register → (found : Option TypeId) → slice_get f.registers register ≡ found
        → FitsTyped c f (op.Phi edges) found → PhiTyped c f phi edges
    of_type register e None held h = absurd h
    of_type register e (Some of) held h = record { register = register; is = e; of = of; held = held; typed = h }

    by : (register : Option ℕ) → phi.register ≡ register → FitsRegister c f (op.Phi edges) given register → PhiTyped c f phi edges
    by None e h = absurd (true≢false (sym h))
    by (Some register) e h = of_type register e (slice_get f.registers register) refl h.0

phi_gives : (t : Typing) (s : Site) (instr : Instr) → SiteFits t s instr → (to place : ℕ) (phi : Instr) → IsTarget instr.op to
    → instr.register ≡ None → slice_get (instrs_at s.function to) place ≡ Some phi → is_phi phi.op ≡ true → PhiGives t s phi
phi_gives t s instr site to place phi target none there is =
    let c = s.code in
    let f = s.function in
    let n = s.frame.function.number in
    let edges = edges_of phi.op is in
    let typed = phi_typed c f phi edges.0 _ edges.1 ((typed_of c site.safe n f site.fits.there).instrs to place phi there) in
    let edge = edge_written f s.frame instr to place phi edges.0 (sane_of c site.safe n f site.fits.there) site.stands site.at target none there edges.1 in
    let runnable : runs c f (op.Phi edges.0) ≡ true =
    subst (λ it. runs c f it ≡ true) edges.1 (site.safe.runnable.instrs n to place f phi site.fits.there there) in
    let mean = edges_mean c edges.0 (both (runs_op c f (op.Phi edges.0)) _ runnable).1 in
    let v = operand_value t s site.safe.held edge.0.value
    (operand_reads t s instr site edge.0.value edge.1.1
    (found_passes (λ edge. has_meaning c edge.value) (λ edge. edge.from.number == s.frame.block) edges.0 edge.0 mean edge.1.0))
    typed.of
    (found_passes (λ edge. is_operand c f edge.value typed.of) (λ edge. edge.from.number == s.frame.block) edges.0 edge.0 typed.typed edge.1.0) in
    record {
      register = typed.register;
      is = typed.is;
      of = typed.of;
      held = typed.held;
      it = v.0;
      value_is = ap (phi_value s) edges.1 ∙ ap (option_and_then (λ edge. value s edge.value)) edge.1.0 ∙ v.1.0;
      fits = v.1.1;
    }

state_same : (register : Option ℕ) (it : Option Val) (frame : Frame) → (with_result register it frame).state ≡ frame.state
state_same (Some register) (Some it) frame = refl
state_same (Some register) None frame = refl
state_same None it frame = refl

-- the frame with the values of phis
record PhisFit (t : Typing) (s : Site) (phis : List Instr) : Type 0 where
  new : Frame
  is : with_phis s phis s.frame ≡ Some new
  fits : FrameFits s.code t s.function new
  keeps : (register : ℕ) → IsWritten s.frame register → IsWritten new register
  gives : (k : ℕ) (phi : Instr) (register : ℕ) → slice_get phis k ≡ Some phi → phi.register ≡ Some register
      → IsWritten new register
  same_state : new.state ≡ s.frame.state
  same_result : new.result ≡ s.frame.result

phis_fit : (t : Typing) (s : Site) → FrameFits s.code t s.function s.frame → (phis : List Instr)
    → ((k : ℕ) (phi : Instr) → slice_get phis k ≡ Some phi → PhiGives t s phi) → PhisFit t s phis
phis_fit t s fits [] each =
    record {
      new = s.frame;
      is = refl;
      fits = fits;
      keeps = λ register h. h;
      gives = λ k phi register is e. absurd (none-some phi is);
      same_state = refl;
      same_result = refl;
    }
phis_fit t s fits (phi ∷ phis) each =
    let rest = phis_fit t s fits phis (λ k. each (suc k)) in
    let first = each 0 phi refl in
    let registered : IsRegister s.function phi.register (Some first.of) =
    subst (λ register. IsRegister s.function register (Some first.of)) (sym first.is) (first.of, (refl, first.held)) in
    record {
      new = with_result phi.register (Some first.it) rest.new;
      is =
          ap (option_and_then (λ it. option_map (with_result phi.register (Some it)) (with_phis s phis s.frame))) first.value_is
          ∙ ap (option_map (with_result phi.register (Some first.it))) rest.is;
      fits = result_fits s.code t s.function rest.new phi.register (Some first.it) (Some first.of) registered first.fits rest.fits;
      keeps = λ register h. written_with rest.new phi.register (Some first.it) register (rest.keeps register h);
      gives = each_gives (λ register e.
          result_written s.code t s.function rest.new phi.register (Some first.it) (Some first.of) registered first.fits rest.fits register e)
          (λ k other register is e.
          written_with rest.new phi.register (Some first.it) register (rest.gives k other register is e));
      same_state = state_same phi.register (Some first.it) rest.new ∙ rest.same_state;
      same_result = result_same phi.register (Some first.it) rest.new ∙ rest.same_result;
    }
  where
    each_gives : {new : Frame} → ((register : ℕ) → phi.register ≡ Some register → IsWritten new register)
        → ((k : ℕ) (other : Instr) (register : ℕ) → slice_get phis k ≡ Some other → other.register ≡ Some register
        → IsWritten new register) → (k : ℕ) (other : Instr) (register : ℕ) → slice_get (phi ∷ phis) k ≡ Some other
        → other.register ≡ Some register → IsWritten new register
    each_gives now later zero other register is e =
        now register (ap (λ (it : Instr). it.register) (some_same phi other is) ∙ e)
    each_gives now later (suc k) other register is e = later k other register is e

-- ---- a jump

jumps_safe : (t : Typing) (s : Site) (instr : Instr) → SiteFits t s instr → (block : BlockId) → IsTarget instr.op block.number
    → instr.register ≡ None → is_new instr ≡ false → Safe s.code (jumps s block)
jumps_safe t s instr site block target none other =
    let c = s.code in
    let f = s.function in
    let to = block.number in
    let phis = phis_fit t s site.fits (front_phis (instrs_at f to)) (λ k phi is.
    let at = front_get (instrs_at f to) k phi is in
    phi_gives t s instr site to k phi target none at.0 at.1) in
    let new = phis.new in
    let stands = jump_stands c site.safe s.frame.function.number f site.fits.there s.frame new instr to site.stands site.at target none
    phis.keeps
    (λ register h.
    let given = given_at (front_phis (instrs_at f to)) register (member (given_registers (front_phis (instrs_at f to))) register h) in
    phis.gives given.0 given.1.0 register given.1.1.0 given.1.1.1) in
    let old = begun_at f s.frame instr site.stands site.started site.at other in
    let started : IsBegun f (at_block f to new) =
    λ register h. let is = phis.keeps register (old register h) in record { it = is.it; there = is.there } in
    let frames : AreFrames c t (at_block f to new ∷ s.below) = (
      record {
        function = f;
        fits = moved_fits c t f new (at_block f to new).block (at_block f to new).place new.state phis.fits phis.fits.state;
        stands = begun stands started;
        takes = subst (λ r. Takes c f r s.below) (sym phis.same_result) site.takes;
      },
      subst (λ r. AreBelow c t r s.below) (sym phis.same_result) site.lower,
    ) in
    subst (λ found. Safe c (where_there (λ frame. goes (with_frames s.goroutine (at_block f to frame ∷ s.below) s.machine)) found))
    (sym phis.is)
    (t, frames_closed c t s.machine s.goroutine (at_block f to new ∷ s.below) site.there site.machine site.begin site.calm frames)

jump_gives_none : (c : Code) (f : Function) (block : BlockId) (of : TypeId) → FitsGiving c f (op.Jump block) of → ⊥
unfolding FitsGiving fits_giving
jump_gives_none c f block of h = true≢false (sym h)

if_gives_none : (c : Code) (f : Function) (test : Operand) (one other : BlockId) (of : TypeId)
    → FitsGiving c f (op.If test one other) of → ⊥
unfolding FitsGiving fits_giving
if_gives_none c f test one other of h = true≢false (sym h)

pub jump_safe : (t : Typing) (s : Site) (instr : Instr) → SiteFits t s instr → (block : BlockId) → instr.op ≡ op.Jump block
    → Safe s.code (acts s instr.register (op.Jump block))
unfolding acts
jump_safe t s instr site block is =
    jumps_safe t s instr site block (subst (λ it. IsTarget it block.number) (sym is) (inl (block, (refl, refl))))
    (no_register s (op.Jump block) (jump_gives_none s.code s.function block) instr.register site.of site.register
    (subst (λ it. FitsOp s.code s.function it site.of) is site.typed))
    (ap (λ it. is_new (record instr { op = it })) is)

pub if_safe : (t : Typing) (s : Site) (instr : Instr) → SiteFits t s instr → (test : Operand) (one other : BlockId)
    → instr.op ≡ op.If test one other → Safe s.code (acts s instr.register (op.If test one other))
unfolding acts fits_alone
if_safe t s instr site test one other is =
    let none = no_register s (op.If test one other) (if_gives_none s.code s.function test one other) instr.register site.of site.register
    (subst (λ it. FitsOp s.code s.function it site.of) is site.typed) in
    let untyped = subst (λ register. IsRegister s.function register site.of) none site.register in
    let typed = subst (λ of. FitsOp s.code s.function (op.If test one other) of) untyped
    (subst (λ it. FitsOp s.code s.function it site.of) is site.typed) in
    let b = truth_value t s test
    ((subst (λ it. Reads t s it) is (site_reads t s instr site)).values test (inl refl)) typed in
    let plain = ap (λ it. is_new (record instr { op = it })) is in
    subst (λ found. Safe s.code (where_there (branches s one other) found)) (sym b.1)
    (by b.0
    (jumps_safe t s instr site one (subst (λ it. IsTarget it one.number) (sym is) (inl (one, (refl, refl)))) none plain)
    (jumps_safe t s instr site other (subst (λ it. IsTarget it other.number) (sym is) (inr (other, (refl, refl)))) none plain))
  where
    by : (b : Bool) → Safe s.code (jumps s one) → Safe s.code (jumps s other)
        → Safe s.code (if b then jumps s one else jumps s other)
    by true first second = first
    by false first second = second
