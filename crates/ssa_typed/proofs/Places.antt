-- The places of a function, one after another.
use Rattle.std.proofs.Common.{◌≡◌, ℕ, ◌+◌, ◌<◌, ◌≤◌, true, List, [], ◌∷◌, ◌++◌, length, take, get_or, sym, ◌∙◌, ap, arith, subst, inl, inr, append_assoc, below_more}
use Rattle.std.specs.Prelude.{Option, Some, None, slice_get}
use Rattle.std.specs.List.{flat_map}
use Rattle.std.proofs.lemmas.List.{append-nil, take_more, take_all}
use Rattle.std.proofs.lemmas.Option.{get_or_from_slice_get, slice_get-get_or, slice_get_within, slice_get_past}
use Rattle.std.proofs.lemmas.Bool.{cases_lt}
use Rattle.std.proofs.lemmas.Grind.{flat_map-append}
use Rattle.ssa_ir.specs.Blocks.{instrs_at, instrs_in}
use Rattle.ssa_ir.specs.Uses.{given_register, given_registers}
use Rattle.ssa_ir.specs.declared.code.Block.{Block}
use Rattle.ssa_ir.specs.declared.code.Code.{Code}
use Rattle.ssa_ir.specs.declared.code.Function.{Function}
use Rattle.ssa_ir.specs.declared.ops.Instr.{Instr}
use Rattle.ssa_typed.specs.Typed.{IsTypedInstr, IsTypedIn, IsTypedAt, IsFirstIllIn, IsFirstIllAt, IsTypedFunction, IsTypedBelow, IsFirstIllTyped, given_in, fits_header}
use Rattle.ssa_typed.specs.Typed.{in_block}

-- an item that was read is the one that stands there
same-item : {A : Type 0} (xs : List A) (i : ℕ) (x y d : A) → slice_get xs i ≡ Some x → y ≡ get_or xs i d → y ≡ x
same-item xs i x y d h e = e ∙ get_or_from_slice_get xs i x d h

stands-at : {A : Type 0} (xs : List A) (i : ℕ) (y d : A) → i < length xs → y ≡ get_or xs i d → slice_get xs i ≡ Some y
stands-at xs i y d h e = slice_get-get_or xs i d h ∙ ap Some (sym e)

-- what one item more gives
flat-more : {A B : Type 0} (g : A → List B) (xs : List A) (i : ℕ) (y d : A) (old now later : List B)
    → i < length xs → y ≡ get_or xs i d → now ≡ old ++ flat_map g (take i xs) → later ≡ now ++ g y → later ≡ old ++ flat_map g (take (i + 1) xs)
flat-more g xs i y d old now later h e p q =
    let more : take (i + 1) xs ≡ take i xs ++ y ∷ [] = take_more xs i d h ∙ ap (λ v. take i xs ++ v ∷ []) (sym e) in
    q ∙ ap (λ l. l ++ g y) p ∙ append_assoc old (flat_map g (take i xs)) (g y)
    ∙ ap (λ l. old ++ l) (ap (λ l. flat_map g (take i xs) ++ l) (sym (append-nil (g y))) ∙ sym (ap (flat_map g) more ∙ flat_map-append g (take i xs) (y ∷ [])))

module _ (c : Code) (f : Function) where
  -- ---- the instructions of a block

  typed-here : (given keys : List ℕ) (instrs : List Instr) (i : ℕ) (y d : Instr)
      → y ≡ get_or instrs i d → keys ≡ given ++ given_registers (take i instrs) → IsTypedInstr c f keys y → IsTypedIn c f given instrs i
  typed-here given keys instrs i y d e k typed instr h =
      subst (λ (v : Instr). IsTypedInstr c f (given ++ given_registers (take i instrs)) v) (same-item instrs i instr y d h e)
      (subst (λ (g : List ℕ). IsTypedInstr c f g y) k typed)

  pub typed-more : (given keys : List ℕ) (instrs : List Instr) (i : ℕ) (y d : Instr)
      → y ≡ get_or instrs i d → keys ≡ given ++ given_registers (take i instrs) → IsTypedInstr c f keys y
      → ((k : ℕ) → k < i → IsTypedIn c f given instrs k) → (k : ℕ) → k < i + 1 → IsTypedIn c f given instrs k
  typed-more given keys instrs i y d e k typed before = below_more (λ j. IsTypedIn c f given instrs j) i before (typed-here given keys instrs i y d e k typed)

  pub given-more : (given keys later : List ℕ) (instrs : List Instr) (i : ℕ) (y d : Instr) → i < length instrs → y ≡ get_or instrs i d
      → keys ≡ given ++ given_registers (take i instrs) → later ≡ keys ++ given_register y → later ≡ given ++ given_registers (take (i + 1) instrs)
  given-more given keys later instrs i y d h e p q = flat-more given_register instrs i y d given keys later h e p q

  pub typed-all : (given keys : List ℕ) (instrs : List Instr) (i : ℕ) → length instrs ≤ i → keys ≡ given ++ given_registers (take i instrs)
      → ((k : ℕ) → k < i → IsTypedIn c f given instrs k)
      → ((k : ℕ) → IsTypedIn c f given instrs k) × (keys ≡ given ++ given_registers instrs)
  typed-all given keys instrs i h p typed = (
    λ k instr e. typed k (let w : k < length instrs = slice_get_within instrs k instr e in omega arith) instr e,
    p ∙ ap (λ l. given ++ given_registers l) (take_all i instrs h),
  )

  pub ill-at : (given keys : List ℕ) (instrs : List Instr) (i : ℕ) (y d : Instr) → i < length instrs → y ≡ get_or instrs i d
      → keys ≡ given ++ given_registers (take i instrs) → (IsTypedInstr c f keys y → ⊥)
      → ((k : ℕ) → k < i → IsTypedIn c f given instrs k) → IsFirstIllIn c f given instrs i
  ill-at given keys instrs i y d h e p ill typed = record {
    before = typed;
    instr = y;
    stands = stands-at instrs i y d h e;
    ill = subst (λ (g : List ℕ). IsTypedInstr c f g y → ⊥) p ill;
  }

  -- ---- the blocks of a function

  same-block : (blocks : List Block) (number : ℕ) (block d : Block) (instrs : List Instr) → blocks ≡ f.blocks → number < length blocks → block ≡ get_or blocks number d
      → instrs ≡ block.instrs → instrs_at f number ≡ instrs
  same-block blocks number block d instrs s h e k =
      ap (λ l. instrs_in (slice_get l number)) (sym s) ∙ ap instrs_in (stands-at blocks number block d h e) ∙ sym k

  block-here : (blocks : List Block) (number : ℕ) (block d : Block) (instrs : List Instr) (keys : List ℕ) → blocks ≡ f.blocks → number < length blocks
      → block ≡ get_or blocks number d → instrs ≡ block.instrs → keys ≡ given_in (take number f.blocks)
      → ((k : ℕ) → IsTypedIn c f keys instrs k) → (i : ℕ) → IsTypedAt c f number i
  block-here blocks number block d instrs keys s h e k p typed i =
      subst (λ (l : List Instr). IsTypedIn c f (given_in (take number f.blocks)) l i) (sym (same-block blocks number block d instrs s h e k))
      (subst (λ (g : List ℕ). IsTypedIn c f g instrs i) p (typed i))

  pub blocks-more : (blocks : List Block) (number : ℕ) (block d : Block) (instrs : List Instr) (keys : List ℕ) → blocks ≡ f.blocks → number < length blocks
      → block ≡ get_or blocks number d → instrs ≡ block.instrs → keys ≡ given_in (take number f.blocks)
      → ((k : ℕ) → IsTypedIn c f keys instrs k)
      → ((k i : ℕ) → k < number → IsTypedAt c f k i) → (k i : ℕ) → k < number + 1 → IsTypedAt c f k i
  blocks-more blocks number block d instrs keys s h e q p typed before k i m =
      below_more (λ j. IsTypedAt c f j i) number (λ j w. before j i w) (block-here blocks number block d instrs keys s h e q p typed i) k m

  pub given-block : (blocks : List Block) (number : ℕ) (block d : Block) (instrs : List Instr) (keys later : List ℕ) → blocks ≡ f.blocks → number < length blocks
      → block ≡ get_or blocks number d → instrs ≡ block.instrs → keys ≡ given_in (take number f.blocks)
      → later ≡ keys ++ given_registers instrs → later ≡ given_in (take (number + 1) f.blocks)
  given-block blocks number block d instrs keys later s h e q p r =
      subst (λ (l : List Block). later ≡ given_in (take (number + 1) l)) s
      (flat-more (λ (b : Block). given_registers b.instrs) blocks number block d [] keys later h e
      (p ∙ ap (λ l. given_in (take number l)) (sym s)) (r ∙ ap (λ l. keys ++ given_registers l) q))

  pub ill-block : (blocks : List Block) (number i : ℕ) (block d : Block) (instrs : List Instr) (keys : List ℕ) → fits_header c f ≡ true → blocks ≡ f.blocks
      → number < length blocks → block ≡ get_or blocks number d → instrs ≡ block.instrs → keys ≡ given_in (take number f.blocks)
      → ((k j : ℕ) → k < number → IsTypedAt c f k j) → IsFirstIllIn c f keys instrs i → IsFirstIllAt c f number i
  ill-block blocks number i block d instrs keys header s h e q p typed ill =
      in_block number i header typed
      (subst (λ (l : List Instr). IsFirstIllIn c f (given_in (take number f.blocks)) l i) (sym (same-block blocks number block d instrs s h e q))
      (subst (λ (g : List ℕ). IsFirstIllIn c f g instrs i) p ill))

  past-blocks : (k i : ℕ) (instr : Instr) → length f.blocks ≤ k → slice_get (instrs_at f k) i ≡ Some instr → ⊥
  past-blocks k i instr h e = none (sym (ap (λ o. slice_get (instrs_in o) i) (slice_get_past f.blocks k h)) ∙ e)
    where
      none : ◌≡◌ {A = Option Instr} None (Some instr) → ⊥
      none p = cc

  pub function-typed : (blocks : List Block) (number : ℕ) → fits_header c f ≡ true → blocks ≡ f.blocks → length blocks ≤ number
      → ((k i : ℕ) → k < number → IsTypedAt c f k i) → IsTypedFunction c f
  function-typed blocks number header s h typed = record {
    header = header;
    instrs = λ k i instr e. elim (cases_lt k number) [
      | inl w ↦ typed k i w instr e
      | inr w ↦ absurd (past-blocks k i instr (let long : length f.blocks ≤ number = subst (λ (l : List Block). length l ≤ number) s h in omega arith) e)
    ];
  }

-- ---- the functions of a code

module _ (c : Code) where
  pub functions-more : (functions : List Function) (number : ℕ) (f d : Function) → functions ≡ c.functions → number < length functions → f ≡ get_or functions number d
      → IsTypedFunction c f → IsTypedBelow c number → IsTypedBelow c (number + 1)
  functions-more functions number f d s h e typed before k other m is =
      below_more (λ j. (g : Function) → slice_get c.functions j ≡ Some g → IsTypedFunction c g) number (λ j w g. before j g w)
      (λ g r. subst (λ (v : Function). IsTypedFunction c v) (same-item functions number g f d (ap (λ l. slice_get l number) s ∙ r) e) typed) k m other is

  pub functions-typed : (functions : List Function) (number : ℕ) → functions ≡ c.functions → length functions ≤ number → IsTypedBelow c number
      → IsTypedBelow c (length c.functions)
  functions-typed functions number s h typed k f m is =
      typed k f (let long : length c.functions ≤ number = subst (λ (l : List Function). length l ≤ number) s h in omega arith) is

  pub ill-function : (functions : List Function) (number block i : ℕ) (f d : Function) (function other at : ℕ) → functions ≡ c.functions → number < length functions
      → f ≡ get_or functions number d → IsTypedBelow c number → IsFirstIllAt c f block i
      → number ≡ function → block ≡ other → i ≡ at → IsFirstIllTyped c function other at
  ill-function functions number block i f d function other at s h e before ill p q r =
      subst (λ (n : ℕ). IsFirstIllTyped c n other at) p (subst (λ (n : ℕ). IsFirstIllTyped c number n at) q (subst (λ (n : ℕ). IsFirstIllTyped c number block n) r
      (record { before = before; function = f; stands = ap (λ l. slice_get l number) (sym s) ∙ stands-at functions number f d h e; ill = ill })))
