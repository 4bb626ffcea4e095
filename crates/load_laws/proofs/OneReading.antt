-- A text is read in one way.
use Rattle.std.proofs.Common.{◌≡◌, ℕ, ◌<◌, ◌≤◌, ◌-◌, List, [], ◌∷◌, length, Option, Some, None, slice_get, Result, Ok, Err, refl, sym, ap, subst, ◌∙◌, arith}
use Rattle.go_ast.proofs.CutLaws.{one-token-list, one-fault, cut-or-fault}
use Rattle.go_ast.specs.Lexical.{IsTokenList, IsFault}
use Rattle.go_ast.specs.declared.token.Token.{Token}
use Rattle.go_base.specs.declared.place.Place.{Place}
use Rattle.go_base.specs.declared.rule.Rule.{Rule}
use Rattle.go_base.specs.declared.rule.Rule.TheVariants as rules
use Rattle.go_grammar.proofs.AllAgain.{same_tree}
use Rattle.go_grammar.proofs.OnePlace.{never_both, one_index}
use Rattle.go_grammar.specs.Files.{IsTreeOf, IsUnexpected}
use Rattle.go_grammar.specs.View.{view_file}
use Rattle.parse_answer.specs.declared.error.ParseError.TheVariants as parses
use Rattle.go_sources.specs.Places.{place_in}
use Rattle.go_sources.specs.Reading.{HasTree}
use Rattle.go_syntax.specs.Reach.{reach_index}
use Rattle.go_syntax.specs.declared.decls.FileTree.{FileTree}
use Rattle.go_finding.specs.Modules.{Broken}
use Rattle.load_laws.specs.OneReading.{IsSameFile, IsSameResult, AreSameFiles, IsSameRead, AreSameRead}
use Rattle.go_finding.specs.Places.{start_in}
use Rattle.go_finding.specs.Programs.{File, Reads, TooLarge, TooMuch, Bad, Good, ReadsAll, Ends, Stops, Continues, with_file}
use Rattle.go_finding.specs.Projects.{FileText}
use Rattle.go_finding.specs.Reading.{IsVerdict, IsBadText, BadBytes, TooDeep, BadSyntax, BreaksText}

some_same : {A : Type 0} (o : Option A) (a b : A) → o ≡ Some a → o ≡ Some b → a ≡ b
some_same o a b p q = cc (p, q)

never_none : {A : Type 0} (o : Option A) (a : A) → o ≡ None → o ≡ Some a → ⊥
never_none o a p q = cc (p, q)

-- ---- the rule that a text breaks

-- a byte and the rule that is broken there
record Spot : Type 0 where
  offset : ℕ
  rule : Rule

abbrev spot_at : ℕ → Rule → Spot
spot_at offset rule = record { offset = offset; rule = rule }

abbrev break_at : Place → Rule → Broken
break_at place rule = record { place = place; rule = rule }

abbrev deep_spot : List ℕ → List Token → ℕ → Spot
deep_spot bytes tokens index = record { offset = start_in bytes (slice_get tokens index); rule = rules.NestedTooDeeply }

abbrev syntax_spot : List ℕ → List Token → ℕ → Spot
syntax_spot bytes tokens index = record { offset = start_in bytes (slice_get tokens index); rule = rules.SyntaxError }

same_spot : (spot : List Token → ℕ → Spot) (a b : List Token) (i j : ℕ) → a ≡ b → i ≡ j → spot a i ≡ spot b j
same_spot spot a b i j e f = ap (λ (tokens : List Token). spot tokens i) e ∙ ap (spot b) f

both_fault : (i j : ℕ) (r s : Rule) → (i ≡ j) × (r ≡ s) → spot_at i r ≡ spot_at j s
both_fault i j r s h = ap (λ (offset : ℕ). spot_at offset r) h.0 ∙ ap (spot_at j) h.1

one_spot : (bytes : List ℕ) {i j : ℕ} {r s : Rule} → IsBadText bytes i r → IsBadText bytes j s → spot_at i r ≡ spot_at j s
one_spot bytes (BadBytes i r h) (BadBytes j s k) = both_fault i j r s (one-fault bytes i j r s h k)
one_spot bytes (BadBytes i r h) (TooDeep tokens index list verdict) = absurd (cut-or-fault bytes tokens i r list h)
one_spot bytes (BadBytes i r h) (BadSyntax tokens index list verdict) = absurd (cut-or-fault bytes tokens i r list h)
one_spot bytes (TooDeep tokens index list verdict) (BadBytes i r h) = absurd (cut-or-fault bytes tokens i r list h)
one_spot bytes (TooDeep a i h v) (TooDeep b j k w) =
    let same : a ≡ b = one-token-list bytes a b h k in
    same_spot (deep_spot bytes) a b i j same (some_same (reach_index b) i j (sym (ap reach_index same) ∙ v.0) w.0)
one_spot bytes (TooDeep a i h v) (BadSyntax b j k w) =
    let same : a ≡ b = one-token-list bytes a b h k in
    absurd (never_none (reach_index b) i w.0 (sym (ap reach_index same) ∙ v.0))
one_spot bytes (BadSyntax tokens index list verdict) (BadBytes i r h) = absurd (cut-or-fault bytes tokens i r list h)
one_spot bytes (BadSyntax a i h v) (TooDeep b j k w) =
    let same : a ≡ b = one-token-list bytes a b h k in
    absurd (never_none (reach_index b) j (sym (ap reach_index same) ∙ v.0) w.0)
one_spot bytes (BadSyntax a i h v) (BadSyntax b j k w) =
    let same : a ≡ b = one-token-list bytes a b h k in
    same_spot (syntax_spot bytes) a b i j same (one_index b i j (subst (λ (tokens : List Token). IsUnexpected tokens i) same v.1) w.1)

one_break : (path bytes : List ℕ) (place at : Place) (rule by : Rule) → BreaksText path bytes place rule → BreaksText path bytes at by → break_at place rule ≡ break_at at by
one_break path bytes place at rule by h k =
    let spots : spot_at h.offset rule ≡ spot_at k.offset by = one_spot bytes h.bad k.bad in
    let places : place ≡ at = h.place_is ∙ ap (λ (s : Spot). place_in path bytes s.offset) spots ∙ sym k.place_is in
    ap (λ (p : Place). break_at p rule) places ∙ ap (λ (s : Spot). break_at at s.rule) spots

-- ---- the tree of a text

one_view : (bytes : List ℕ) (a b : FileTree) → HasTree bytes a → HasTree bytes b → view_file a ≡ view_file b
one_view bytes a b h k =
    let same : h.tokens ≡ k.tokens = one-token-list bytes h.tokens k.tokens h.list k.list in
    same_tree k.tokens (view_file a) (view_file b) (subst (λ (tokens : List Token). IsTreeOf tokens (view_file a)) same h.verdict.1) k.verdict.1

tree_or_fault : (bytes : List ℕ) (tree : FileTree) {offset : ℕ} {rule : Rule} → HasTree bytes tree → IsBadText bytes offset rule → ⊥
tree_or_fault bytes tree h (BadBytes offset rule k) = cut-or-fault bytes h.tokens offset rule h.list k
tree_or_fault bytes tree h (TooDeep tokens index list verdict) =
    let same : h.tokens ≡ tokens = one-token-list bytes h.tokens tokens h.list list in
    never_none (reach_index tokens) index (sym (ap reach_index same) ∙ h.verdict.0) verdict.0
tree_or_fault bytes tree h (BadSyntax tokens index list verdict) =
    let same : h.tokens ≡ tokens = one-token-list bytes h.tokens tokens h.list list in
    never_both tokens index verdict.1 (record { tree = view_file tree; fine = subst (λ (list : List Token). IsTreeOf list (view_file tree)) same h.verdict.1 })

-- ---- files

pub one_read : (room : ℕ) (text : FileText) {a b : Result File Broken} → Reads room text a → Reads room text b → IsSameRead a b
one_read room text (TooLarge h) (TooLarge k) = refl
one_read room text (TooLarge h) (TooMuch k more) = absurd (omega (arith, h, k))
one_read room text (TooLarge h) (Bad k fits place rule breaks) = absurd (omega (arith, h, k))
one_read room text (TooLarge h) (Good k fits tree has) = absurd (omega (arith, h, k))
one_read room text (TooMuch h more) (TooLarge k) = absurd (omega (arith, h, k))
one_read room text (TooMuch h more) (TooMuch k less) = refl
one_read room text (TooMuch h more) (Bad k fits place rule breaks) = absurd (omega (arith, more, fits))
one_read room text (TooMuch h more) (Good k fits tree has) = absurd (omega (arith, more, fits))
one_read room text (Bad h fits place rule breaks) (TooLarge k) = absurd (omega (arith, h, k))
one_read room text (Bad h fits place rule breaks) (TooMuch k more) = absurd (omega (arith, more, fits))
one_read room text (Bad h fits place rule breaks) (Bad k room_too at by broken) = one_break text.path text.bytes place at rule by breaks broken
one_read room text (Bad h fits place rule breaks) (Good k room_too tree is) = tree_or_fault text.bytes tree is breaks.bad
one_read room text (Good h fits tree has) (TooLarge k) = absurd (omega (arith, h, k))
one_read room text (Good h fits tree has) (TooMuch k more) = absurd (omega (arith, more, fits))
one_read room text (Good h fits tree is) (Bad k room_too place rule breaks) = tree_or_fault text.bytes tree is breaks.bad
one_read room text (Good h fits a is) (Good k room_too b are) = record { path = refl; bytes = refl; tree = one_view text.bytes a b is are }

same_with : (file other : File) (a b : Result (List File) Broken) → IsSameFile file other → AreSameRead a b → AreSameRead (with_file file a) (with_file other b)
same_with file other (Ok a) (Ok b) f h = (f, h)
same_with file other (Ok a) (Err broken) f h = h
same_with file other (Err broken) (Ok b) f h = h
same_with file other (Err broken) (Err again) f h = h

pub one_reading : (room : ℕ) (texts : List FileText) {a b : Result (List File) Broken} → ReadsAll room texts a → ReadsAll room texts b → AreSameRead a b
one_reading room _ (Ends _) (Ends _) = tt
one_reading room _ (Stops _ text texts broken h) (Stops _ _ _ other k) = one_read room text h k
one_reading room _ (Stops _ text texts broken h) (Continues _ _ _ file rest k more) = absurd (one_read room text h k)
one_reading room _ (Continues _ text texts file rest h more) (Stops _ _ _ broken k) = absurd (one_read room text h k)
one_reading room _ (Continues _ text texts file rest h more) (Continues _ _ _ other left k others) =
    same_with file other rest left (one_read room text h k) (one_reading (room - length text.bytes) texts more others)
