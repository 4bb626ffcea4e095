-- Functions, one after another by their numbers.
use Rattle.std.proofs.Common.{◌≡◌, ◌≢◌, refl, sym, ap, ◌∙◌, ℕ, suc, ◌+◌, ◌<◌, ◌≤◌, List, [], ◌∷◌, drop, length, get_or, add-one}
use Rattle.std.proofs.lemmas.List.{at_drop_more, at_drop_all}
use Rattle.std.specs.Prelude.{Bool, true, false, ◌&&◌, Option, Some, None, if◌then◌else◌, slice_get}
use Rattle.go_base.specs.declared.ids.FuncId.{FuncId}
use Rattle.go_tree.specs.declared.functions.FunctionDecl.{FunctionDecl}
use Rattle.go_tree.specs.declared.program.Body.{Body}
use Rattle.go_tree.specs.declared.program.Program.{Program}
use Rattle.typed_trees.specs.Programs.{fit_bodies, fits_body, initialises, initialiser_from}
use Rattle.go_type.specs.Table.{term_at}
use Rattle.go_type.specs.declared.term.Signature.{Signature}
use Rattle.std.specs.Option.{option_map_or}
use Rattle.typed_trees.specs.Around.{is_plain, signature_in}
use Rattle.typed_trees.specs.Programs as programs
use Rattle.typed_trees.specs.Tests.{Tests}
use Rattle.program_typing.specs.Walk.{is_bare}
use Rattle.program_typing.specs.Initialisers.{function_or, noted}

and_false : (a b : Bool) → b ≡ false → a && b ≡ false
and_false true b h = h
and_false false b h = refl

module _ (p : Program) (tests : Tests) where
  -- ---- bodies

  pub bodies-unequal : (n : ℕ) (decls : List FunctionDecl) (bodies : List (Option Body)) → (length decls ≢ length bodies) → fit_bodies p tests n decls bodies ≡ false
  bodies-unequal n [] [] ne = absurd (ne refl)
  bodies-unequal n [] (b ∷ bs) ne = refl
  bodies-unequal n (d ∷ ds) [] ne = refl
  bodies-unequal n (d ∷ ds) (b ∷ bs) ne = and_false _ _ (bodies-unequal (suc n) ds bs (λ e. ne (ap suc e)))

  body_at : (decls : List FunctionDecl) (bodies : List (Option Body)) (i : ℕ) (decl d : FunctionDecl) (body e : Option Body) → i < length decls → i < length bodies → decl ≡ get_or decls i d → body ≡ get_or bodies i e
      → fit_bodies p tests i (drop i decls) (drop i bodies) ≡ fits_body p tests (record { number = i }) decl body && fit_bodies p tests (i + 1) (drop (i + 1) decls) (drop (i + 1) bodies)
  body_at decls bodies i decl d body e h k q r =
      at_drop_more (λ (ds : List FunctionDecl). fit_bodies p tests i ds (drop i bodies)) decls i d h
      ∙ (at_drop_more (λ (bs : List (Option Body)). fit_bodies p tests i (get_or decls i d ∷ drop (i + 1) decls) bs) bodies i e k
      ∙ ((λ j. fits_body p tests (record { number = i }) (sym q j) (sym r j) && fit_bodies p tests (suc i) (drop (i + 1) decls) (drop (i + 1) bodies))
      ∙ ap (λ (n : ℕ). fits_body p tests (record { number = i }) decl body && fit_bodies p tests n (drop (i + 1) decls) (drop (i + 1) bodies)) (sym (add-one i))))

  pub bodies-kept : (decls : List FunctionDecl) (bodies : List (Option Body)) (i : ℕ) (decl d : FunctionDecl) (body e : Option Body) (ok whole : Bool) → i < length decls → i < length bodies → decl ≡ get_or decls i d → body ≡ get_or bodies i e
      → ok ≡ fits_body p tests (record { number = i }) decl body → ok ≡ true → fit_bodies p tests i (drop i decls) (drop i bodies) ≡ whole → fit_bodies p tests (i + 1) (drop (i + 1) decls) (drop (i + 1) bodies) ≡ whole
  bodies-kept decls bodies i decl d body e ok whole h k q r says fine before =
      ap (λ (b : Bool). b && fit_bodies p tests (i + 1) (drop (i + 1) decls) (drop (i + 1) bodies)) (sym fine ∙ says)
      ∙ (sym (body_at decls bodies i decl d body e h k q r) ∙ before)

  pub bodies-ended : (decls : List FunctionDecl) (bodies : List (Option Body)) (i : ℕ) (decl d : FunctionDecl) (body e : Option Body) (ok whole : Bool) → i < length decls → i < length bodies → decl ≡ get_or decls i d → body ≡ get_or bodies i e
      → ok ≡ fits_body p tests (record { number = i }) decl body → ok ≡ false → fit_bodies p tests i (drop i decls) (drop i bodies) ≡ whole → false ≡ whole
  bodies-ended decls bodies i decl d body e ok whole h k q r says bad before =
      ap (λ (b : Bool). b && fit_bodies p tests (i + 1) (drop (i + 1) decls) (drop (i + 1) bodies)) (sym bad ∙ says)
      ∙ (sym (body_at decls bodies i decl d body e h k q r) ∙ before)

  pub bodies-done : (decls : List FunctionDecl) (bodies : List (Option Body)) (i : ℕ) (whole : Bool) → length decls ≤ i → length bodies ≤ i → fit_bodies p tests i (drop i decls) (drop i bodies) ≡ whole → true ≡ whole
  bodies-done decls bodies i whole h k before =
      sym (at_drop_all (λ (ds : List FunctionDecl). fit_bodies p tests i ds (drop i bodies)) decls i h ∙ at_drop_all (λ (bs : List (Option Body)). fit_bodies p tests i [] bs) bodies i k) ∙ before

  -- ---- initialisers

  kept_if : (n : ℕ) (b : Bool) (rest : Option FuncId) → function_or (if b then Some n else None) rest ≡ (if b then Some (record { number = n }) else rest)
  kept_if n true rest = refl
  kept_if n false rest = refl

  note_step : (n of : ℕ) (decl : FunctionDecl) (found : Option ℕ) (rest : Option FuncId) → function_or (noted p tests n decl of found) rest ≡ function_or found (if initialises p tests of decl then Some (record { number = n }) else rest)
  note_step n of decl (Some m) rest = refl
  note_step n of decl None rest = kept_if n (initialises p tests of decl) rest

  pub noted-kept : (functions : List FunctionDecl) (i of : ℕ) (decl d : FunctionDecl) (found next : Option ℕ) (whole : Option FuncId) → i < length functions → decl ≡ get_or functions i d → next ≡ noted p tests i decl of found
      → function_or found (initialiser_from p tests i of (drop i functions)) ≡ whole → function_or next (initialiser_from p tests (i + 1) of (drop (i + 1) functions)) ≡ whole
  noted-kept functions i of decl d found next whole h q e before =
      ap (λ (o : Option ℕ). function_or o (initialiser_from p tests (i + 1) of (drop (i + 1) functions))) e
      ∙ (ap (λ (n : ℕ). function_or (noted p tests i decl of found) (initialiser_from p tests n of (drop (i + 1) functions))) (add-one i)
      ∙ (note_step i of decl found (initialiser_from p tests (suc i) of (drop (i + 1) functions))
      ∙ (ap (λ (x : FunctionDecl). function_or found (initialiser_from p tests i of (x ∷ drop (i + 1) functions))) q
      ∙ (sym (at_drop_more (λ (fs : List FunctionDecl). function_or found (initialiser_from p tests i of fs)) functions i d h) ∙ before))))

  pub noted-done : (functions : List FunctionDecl) (i of : ℕ) (found : Option ℕ) (whole : Option FuncId) → length functions ≤ i → function_or found (initialiser_from p tests i of (drop i functions)) ≡ whole → function_or found None ≡ whole
  noted-done functions i of found whole h before =
      sym (at_drop_all (λ (fs : List FunctionDecl). function_or found (initialiser_from p tests i of fs)) functions i h) ∙ before

  -- ---- `main`

  bare_is : (o : Option Signature) → is_bare o ≡ programs.is_bare p tests o
  bare_is (Some signature) = refl
  bare_is None = refl

  pub main_is : (id : FuncId) (decl : FunctionDecl) (plain bare : Bool) → slice_get p.functions id.number ≡ Some decl → plain ≡ is_plain decl.form → bare ≡ is_bare (signature_in (term_at p.types decl.signature)) → plain && bare ≡ programs.fits_main p tests (Some id)
  main_is id decl plain bare at q r =
      (λ i. q i && (r ∙ bare_is (signature_in (term_at p.types decl.signature))) i)
      ∙ ap (λ (o : Option FunctionDecl). option_map_or (λ (it : FunctionDecl). is_plain it.form && programs.is_bare p tests (signature_in (term_at p.types it.signature))) o false) (sym at)

  pub main_none : (id : FuncId) → slice_get p.functions id.number ≡ None → false ≡ programs.fits_main p tests (Some id)
  main_none id at = ap (λ (o : Option FunctionDecl). option_map_or (λ (it : FunctionDecl). is_plain it.form && programs.is_bare p tests (signature_in (term_at p.types it.signature))) o false) (sym at)
