-- A semicolon outside all brackets ends a part: the package clause, an import or a declaration.
use Rattle.std.proofs.Common.{◌≡◌, ℕ, zero, suc, ◌≤◌, ◌-◌, ◌+◌, Bool, true, false, cond, List, [], ◌∷◌, ◌++◌, Option, Some, None, refl, sym, ap, ◌∙◌, subst, append_assoc, arith}
use Rattle.std.proofs.lemmas.List.{append-nil}
use Rattle.std.proofs.lemmas.Bool.{eqb-true}
use Rattle.std.specs.Prelude.{◌&&◌, ◌||◌, not, ◌==◌, if◌then◌else◌}
use Rattle.go_ast.specs.declared.token.Kind.{Kind}
use Rattle.go_ast.specs.declared.token.Kind.TheVariants as kinds
use Rattle.go_ast.specs.declared.token.Token.{Token}
use Rattle.go_grammar.specs.Forests.{Forest, empty, append, yield}
use Rattle.go_grammar.specs.Shapes as shapes
use Rattle.go_grammar.specs.Shapes.{Shape, Fits}
use Rattle.go_grammar.specs.Grammar as sorts
use Rattle.go_grammar.specs.Grammar.{Sort, grammar, is_semicolon}
use Rattle.go_grammar.specs.Reading.{◌>>=◌}
use Rattle.go_grammar.specs.Files.{depth_after, ends_part, parts_from, parts_of}
use Rattle.go_grammar.proofs.Forests.{yield-append}
use Rattle.go_grammar.proofs.EachKind.{each_kind, of_each}

-- ---- kinds

abbrev pub opens : Kind → Bool
opens kinds.OpenParen = true
opens kinds.OpenBracket = true
opens kinds.OpenBrace = true
opens _ = false

abbrev pub closes : Kind → Bool
closes kinds.CloseParen = true
closes kinds.CloseBracket = true
closes kinds.CloseBrace = true
closes _ = false

-- no bracket
abbrev pub is_flat_kind : Kind → Bool
is_flat_kind kind = not (opens kind) && not (closes kind)

-- no bracket and no semicolon
abbrev pub is_plain_kind : Kind → Bool
is_plain_kind kind = is_flat_kind kind && not (is_semicolon kind)

-- each kind that passes the one passes the other
abbrev pub implies : (Kind → Bool) → (Kind → Bool) → Bool
implies test other = each_kind (λ kind. not (test kind) || other kind)

pub implied : (test other : Kind → Bool) → implies test other ≡ true → (kind : Kind) → test kind ≡ true → other kind ≡ true
implied test other h kind e = go (test kind) (other kind) (of_each (λ kind. not (test kind) || other kind) h kind) e
  where
    go : (a b : Bool) → (not a || b) ≡ true → a ≡ true → b ≡ true
    go true b h e = h
    go false b h e = absurd cc

-- ---- shapes

-- what is never behind an open bracket alone
abbrev pub is_flat : Sort → Bool
is_flat sorts.File = false
is_flat sorts.Lines = false
is_flat sorts.Statement = false
is_flat sorts.Unlabeled = false
is_flat sorts.IfRest = false
is_flat sorts.Switch = false
is_flat sorts.CaseClause = false
is_flat sorts.Comm = false
is_flat sorts.CommClause = false
is_flat sorts.Loop = false
is_flat (sorts.Simple context) = false
is_flat _ = true

-- no bracket is open, neither before nor in what was read
abbrev pub is_outside : Bool → ℕ → Bool
is_outside outer zero = outer
is_outside outer (suc open_ones) = false

abbrev pub closed : ℕ → Option ℕ
closed zero = None
closed (suc open_ones) = Some open_ones

abbrev pub sign_ends : Bool → (Kind → Bool) → ℕ → Option ℕ
sign_ends outer test n =
    if implies test opens then Some (suc n) else
    if implies test closes then closed n else
    if implies test is_plain_kind then Some n else
    if implies test is_flat_kind && not (is_outside outer n) then Some n else None

abbrev pub same_end : Option ℕ → Option ℕ → Option ℕ
same_end (Some a) (Some b) = if a == b then Some a else None
same_end _ _ = None

-- how many brackets are open behind a shape, where n were open before it
abbrev pub ends : Bool → Shape Sort → ℕ → Option ℕ
ends outer shapes.Nothing n = Some n
ends outer (shapes.Sign test) n = sign_ends outer test n
ends outer (shapes.Before test) n = Some n
ends outer (shapes.Part sort) n = if is_outside outer n && not (is_flat sort) then None else Some n
ends outer (shapes.Node form inner) n = ends outer inner n
ends outer (shapes.Then a b) n = ends outer a n >>= λ m. ends outer b m
ends outer (shapes.Either a b) n = same_end (ends outer a n) (ends outer b n)
ends outer (shapes.Many a) n = same_end (Some n) (ends outer a n)

inside : (sort : Sort) → ends false (grammar sort) 0 ≡ Some 0
inside sorts.File = refl
inside sorts.Import = refl
inside sorts.ImportSpec = refl
inside sorts.PackageDecl = refl
inside sorts.LocalDecl = refl
inside sorts.ConstSpec = refl
inside sorts.TypeSpec = refl
inside sorts.VarSpec = refl
inside sorts.TypeName = refl
inside sorts.AnyType = refl
inside sorts.BareType = refl
inside sorts.LongType = refl
inside sorts.TypeOnly = refl
inside sorts.LiteralType = refl
inside sorts.Signature = refl
inside sorts.Params = refl
inside sorts.Results = refl
inside sorts.Receiver = refl
inside sorts.Block = refl
inside sorts.Lines = refl
inside (sorts.Binary sorts.Disjunction context) = refl
inside (sorts.Binary sorts.Conjunction context) = refl
inside (sorts.Binary sorts.Comparison context) = refl
inside (sorts.Binary sorts.Addition context) = refl
inside (sorts.Binary sorts.Multiplication context) = refl
inside (sorts.Unary context) = refl
inside (sorts.Primary context) = refl
inside (sorts.Operand sorts.Plain) = refl
inside (sorts.Operand sorts.Header) = refl
inside sorts.Item = refl
inside sorts.Braces = refl
inside sorts.Value = refl
inside sorts.Statement = refl
inside sorts.Unlabeled = refl
inside sorts.IfRest = refl
inside sorts.Switch = refl
inside sorts.CaseClause = refl
inside sorts.Comm = refl
inside sorts.CommClause = refl
inside sorts.Loop = refl
inside (sorts.Simple context) = refl

outside : (sort : Sort) → is_flat sort ≡ true → ends true (grammar sort) 0 ≡ Some 0
outside sorts.Import h = refl
outside sorts.ImportSpec h = refl
outside sorts.PackageDecl h = refl
outside sorts.LocalDecl h = refl
outside sorts.ConstSpec h = refl
outside sorts.TypeSpec h = refl
outside sorts.VarSpec h = refl
outside sorts.TypeName h = refl
outside sorts.AnyType h = refl
outside sorts.BareType h = refl
outside sorts.LongType h = refl
outside sorts.TypeOnly h = refl
outside sorts.LiteralType h = refl
outside sorts.Signature h = refl
outside sorts.Params h = refl
outside sorts.Results h = refl
outside sorts.Receiver h = refl
outside sorts.Block h = refl
outside (sorts.Binary sorts.Disjunction context) h = refl
outside (sorts.Binary sorts.Conjunction context) h = refl
outside (sorts.Binary sorts.Comparison context) h = refl
outside (sorts.Binary sorts.Addition context) h = refl
outside (sorts.Binary sorts.Multiplication context) h = refl
outside (sorts.Unary context) h = refl
outside (sorts.Primary context) h = refl
outside (sorts.Operand sorts.Plain) h = refl
outside (sorts.Operand sorts.Header) h = refl
outside sorts.Item h = refl
outside sorts.Braces h = refl
outside sorts.Value h = refl
outside _ h = absurd cc

-- ---- one token

step : (d d' : ℕ) (token : Token) (front rest : List Token) → ends_part d token.kind ≡ false → depth_after d token.kind ≡ d' → parts_from d front (token ∷ rest) ≡ parts_from d' (front ++ token ∷ []) rest
step d d' token front rest h k = rw (h, k) refl

opening : (kind : Kind) → opens kind ≡ true → (is_semicolon kind ≡ false) × ((d : ℕ) → depth_after d kind ≡ suc d)
opening kinds.OpenParen h = (refl, λ d. refl)
opening kinds.OpenBracket h = (refl, λ d. refl)
opening kinds.OpenBrace h = (refl, λ d. refl)
opening _ h = absurd cc

closing : (kind : Kind) → closes kind ≡ true → (is_semicolon kind ≡ false) × ((d : ℕ) → depth_after d kind ≡ d - 1)
closing kinds.CloseParen h = (refl, λ d. refl)
closing kinds.CloseBracket h = (refl, λ d. refl)
closing kinds.CloseBrace h = (refl, λ d. refl)
closing _ h = absurd cc

staying : (kind : Kind) → is_flat_kind kind ≡ true → (d : ℕ) → depth_after d kind ≡ d
staying kinds.OpenParen h d = absurd cc
staying kinds.OpenBracket h d = absurd cc
staying kinds.OpenBrace h d = absurd cc
staying kinds.CloseParen h d = absurd cc
staying kinds.CloseBracket h d = absurd cc
staying kinds.CloseBrace h d = absurd cc
staying _ h d = refl

not_ending : (d : ℕ) (kind : Kind) → is_semicolon kind ≡ false → ends_part d kind ≡ false
not_ending zero kind h = h
not_ending (suc d) kind h = refl

within_not_ending : (d : ℕ) (kind : Kind) → 1 ≤ d → ends_part d kind ≡ false
within_not_ending zero kind h = absurd (omega arith)
within_not_ending (suc d) kind h = refl

plain_parts : (kind : Kind) → is_plain_kind kind ≡ true → (is_flat_kind kind ≡ true) × (is_semicolon kind ≡ false)
plain_parts kind h = go (is_flat_kind kind) (is_semicolon kind) refl refl h
  where
    go : (a b : Bool) → is_flat_kind kind ≡ a → is_semicolon kind ≡ b → (a && not b) ≡ true → (is_flat_kind kind ≡ true) × (is_semicolon kind ≡ false)
    go true false e f h = (e, f)
    go true true e f h = absurd cc
    go false b e f h = absurd cc

some_is : {A : Type 0} (x y : A) → Some x ≡ Some y → x ≡ y
some_is x y e = cc

-- where some bracket is open
not_outside : (outer : Bool) (n base : ℕ) → (outer ≡ false → 1 ≤ base) → is_outside outer n ≡ false → 1 ≤ n + base
not_outside outer zero base h e = omega (arith, h e)
not_outside outer (suc n) base h e = omega arith

sign_step : (outer : Bool) (base : ℕ) → (outer ≡ false → 1 ≤ base) → (test : Kind → Bool) (token : Token) → test token.kind ≡ true → (n m : ℕ) → sign_ends outer test n ≡ Some m → (front rest : List Token) → parts_from (n + base) front (token ∷ rest) ≡ parts_from (m + base) (front ++ token ∷ []) rest
sign_step outer base inner test token t n m e front rest = go (implies test opens) (implies test closes) (implies test is_plain_kind) (implies test is_flat_kind) (is_outside outer n) refl refl refl refl refl e
  where
    closed_at : (n : ℕ) → implies test closes ≡ true → closed n ≡ Some m → parts_from (n + base) front (token ∷ rest) ≡ parts_from (m + base) (front ++ token ∷ []) rest
    closed_at zero c e = absurd cc
    closed_at (suc k) c e =
        let s = closing token.kind (implied test closes c token.kind t) in
        let same : k ≡ m = some_is k m e in
        step (suc k + base) (m + base) token front rest (not_ending (suc k + base) token.kind s.0) (s.1 (suc k + base) ∙ omega (arith, same))

    go : (a b c d f : Bool) → implies test opens ≡ a → implies test closes ≡ b → implies test is_plain_kind ≡ c → implies test is_flat_kind ≡ d → is_outside outer n ≡ f
        → cond a (Some (suc n)) (cond b (closed n) (cond c (Some n) (cond (d && not f) (Some n) None))) ≡ Some m → parts_from (n + base) front (token ∷ rest) ≡ parts_from (m + base) (front ++ token ∷ []) rest
    go true b c d f o c' p l i e =
        let s = opening token.kind (implied test opens o token.kind t) in
        let same : suc n ≡ m = some_is (suc n) m e in
        step (n + base) (m + base) token front rest (not_ending (n + base) token.kind s.0) (s.1 (n + base) ∙ omega (arith, same))
    go false true c d f o c' p l i e = closed_at n c' e
    go false false true d f o c' p l i e =
        let s = plain_parts token.kind (implied test is_plain_kind p token.kind t) in
        let same : n ≡ m = some_is n m e in
        step (n + base) (m + base) token front rest (not_ending (n + base) token.kind s.1) (staying token.kind s.0 (n + base) ∙ omega (arith, same))
    go false false false true false o c' p l i e =
        let same : n ≡ m = some_is n m e in
        step (n + base) (m + base) token front rest (within_not_ending (n + base) token.kind (not_outside outer n base inner i)) (staying token.kind (implied test is_flat_kind l token.kind t) (n + base) ∙ omega (arith, same))
    go false false false true true o c' p l i e = absurd cc
    go false false false false f o c' p l i e = absurd cc

-- ---- trees

bind_some : (o : Option ℕ) (f : ℕ → Option ℕ) (y : ℕ) → (o >>= f) ≡ Some y → (x : ℕ) × (o ≡ Some x) × (f x ≡ Some y)
bind_some None f y e = absurd cc
bind_some (Some x) f y e = (x, refl, e)

same_number : (a b : ℕ) → (a == b) ≡ true → a ≡ b
same_number a b h = eqb-true a b h

same_ends : (x y : Option ℕ) (m : ℕ) → same_end x y ≡ Some m → (x ≡ Some m) × (y ≡ Some m)
same_ends None y m e = absurd cc
same_ends (Some a) None m e = absurd cc
same_ends (Some a) (Some b) m e = go (a == b) refl e
  where
    go : (t : Bool) → (a == b) ≡ t → cond t (Some a) None ≡ Some m → (Some a ≡ Some m) × (Some b ≡ Some m)
    go true h e = (e, ap Some (sym (same_number a b h)) ∙ e)
    go false h e = absurd cc

-- the cut goes on behind a tree
abbrev pub Skips : ℕ → ℕ → Forest → Type 0
Skips d d' tree = (front rest : List Token) → parts_from d front (yield tree ++ rest) ≡ parts_from d' (front ++ yield tree) rest

skips_none : (d d' : ℕ) → d ≡ d' → Skips d d' empty
skips_none d d' e front rest = ap (λ (k : ℕ). parts_from k front rest) e ∙ ap (λ (f : List Token). parts_from d' f rest) (sym (append-nil front))

skips_both : (a b c : ℕ) (left right : Forest) → Skips a b left → Skips b c right → Skips a c (append left right)
skips_both a b c left right h k front rest =
    ap (λ (ws : List Token). parts_from a front (ws ++ rest)) (yield-append left right) ∙ ap (parts_from a front) (append_assoc (yield left) (yield right) rest)
    ∙ h front (yield right ++ rest) ∙ k (front ++ yield left) rest
    ∙ ap (λ (f : List Token). parts_from c f rest) (append_assoc front (yield left) (yield right) ∙ ap (λ (ws : List Token). front ++ ws) (sym (yield-append left right)))

skips : (outer : Bool) (base : ℕ) → (outer ≡ false → 1 ≤ base) → {shape : Shape Sort} {tree : Forest} {behind : List Token} → Fits grammar shape tree behind → (n m : ℕ) → ends outer shape n ≡ Some m → Skips (n + base) (m + base) tree
skips outer base inner shapes.nothing n m e = let same : n ≡ m = some_is n m e in skips_none (n + base) (m + base) (omega (arith, same))
skips outer base inner (shapes.sign {test = test} {token = token} t) n m e = λ front rest. sign_step outer base inner test token t n m e front rest
skips outer base inner (shapes.before t) n m e = let same : n ≡ m = some_is n m e in skips_none (n + base) (m + base) (omega (arith, same))
skips outer base inner (shapes.part {sort = sort} {tree = tree} x) n m e =
    go outer n inner (is_flat sort) refl e (λ f. skips true base (λ z. absurd cc) x 0 0 (outside sort f)) (λ h. skips false (n + base) (λ z. h) x 0 0 (inside sort))
  where
    at : (d d' k k' : ℕ) → d ≡ k → d' ≡ k' → Skips d d' tree → Skips k k' tree
    at d d' k k' e f h = subst (λ (a : ℕ). Skips a k' tree) e (subst (λ (b : ℕ). Skips d b tree) f h)

    go : (outer : Bool) (n : ℕ) → (outer ≡ false → 1 ≤ base) → (f : Bool) → is_flat sort ≡ f → cond (is_outside outer n && not f) None (Some n) ≡ Some m
        → (is_flat sort ≡ true → Skips (0 + base) (0 + base) tree) → (1 ≤ n + base → Skips (0 + (n + base)) (0 + (n + base)) tree) → Skips (n + base) (m + base) tree
    go true zero inner true f e flat within = let same : zero ≡ m = some_is zero m e in at (0 + base) (0 + base) (zero + base) (m + base) (omega arith) (omega (arith, same)) (flat f)
    go true zero inner false f e flat within = absurd cc
    go false zero inner f' f e flat within = let same : zero ≡ m = some_is zero m e in at (0 + (zero + base)) (0 + (zero + base)) (zero + base) (m + base) (omega arith) (omega (arith, same)) (within (omega (arith, inner refl)))
    go outer (suc n) inner f' f e flat within = let same : suc n ≡ m = some_is (suc n) m e in at (0 + (suc n + base)) (0 + (suc n + base)) (suc n + base) (m + base) (omega arith) (omega (arith, same)) (within (omega arith))
skips outer base inner (shapes.below {trees = trees} x) n m e =
    λ front rest. ap (λ (ws : List Token). parts_from (n + base) front (ws ++ rest)) (append-nil (yield trees)) ∙ skips outer base inner x n m e front rest ∙ ap (λ (ws : List Token). parts_from (m + base) (front ++ ws) rest) (sym (append-nil (yield trees)))
skips outer base inner (shapes.both {a = a} {b = b} {left = left} {right = right} x y) n m e =
    let k = bind_some (ends outer a n) (λ i. ends outer b i) m e in
    skips_both (n + base) (k.0 + base) (m + base) left right (skips outer base inner x n k.0 k.1) (skips outer base inner y k.0 m k.2)
skips outer base inner (shapes.first {a = a} {b = b} x) n m e = skips outer base inner x n m (same_ends (ends outer a n) (ends outer b n) m e).0
skips outer base inner (shapes.second {a = a} {b = b} x) n m e = skips outer base inner x n m (same_ends (ends outer a n) (ends outer b n) m e).1
skips outer base inner (shapes.done {a = a}) n m e = let same : n ≡ m = some_is n m (same_ends (Some n) (ends outer a n) m e).0 in skips_none (n + base) (m + base) (omega (arith, same))
skips outer base inner (shapes.more {a = a} {left = left} {right = right} x y) n m e =
    let k = same_ends (Some n) (ends outer a n) m e in
    let same : n ≡ m = some_is n m k.0 in
    let again : ends outer (shapes.Many a) m ≡ Some m = subst (λ (i : ℕ). same_end (Some i) (ends outer a i) ≡ Some m) same e in
    skips_both (n + base) (m + base) (m + base) left right (skips outer base inner x n m k.1) (skips outer base inner y m m again)

-- a semicolon behind a tree outside all brackets ends a part
pub cut_behind : (sort : Sort) (tree : Forest) (semicolon : Token) (behind rest : List Token) → is_flat sort ≡ true → Fits grammar (shapes.Part sort) tree behind → is_semicolon semicolon.kind ≡ true
    → parts_of (yield tree ++ (semicolon ∷ rest)) ≡ (yield tree ++ semicolon ∷ []) ∷ parts_of rest
cut_behind sort tree semicolon behind rest f (shapes.part x) h =
    let all = skips true 0 (λ z. absurd cc) x 0 0 (outside sort f) [] (semicolon ∷ rest) in
    let d : 0 + 0 ≡ 0 = refl in
    all ∙ rw h refl
