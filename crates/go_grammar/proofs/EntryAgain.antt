-- Entries of lists of parameters are read again.
use Rattle.std.proofs.Common.{◌≡◌, ℕ, zero, suc, ◌≤◌, ◌<◌, Bool, true, false, List, [], ◌∷◌, ◌++◌, length, Option, Some, None, refl, ap, ◌∙◌, append_assoc, arith}
use Rattle.std.proofs.lemmas.List.{length-append}
use Rattle.std.specs.Prelude.{◌&&◌, ◌||◌, not}
use Rattle.go_ast.specs.declared.token.Kind.{Kind}
use Rattle.go_ast.specs.declared.token.Kind.TheVariants as kinds
use Rattle.go_ast.specs.declared.token.Token.{Token}
use Rattle.go_grammar.specs.Forests.{Forest, append, yield}
use Rattle.go_grammar.specs.Shapes as shapes
use Rattle.go_grammar.specs.Shapes.{Fits, part, first, second, is}
use Rattle.go_grammar.specs.Grammar as sorts
use Rattle.go_grammar.specs.Grammar.{grammar, begins_type}
use Rattle.go_grammar.specs.Reading.{is_next}
use Rattle.go_grammar.specs.Tests.{begins, begins_type_at}
use Rattle.go_grammar.specs.TypeReading.{Parsers, Entry, token_if, optional_in, begins_named_param, param_name_in, separator_in, entry_in, entries_in}
use Rattle.go_grammar.proofs.Forests.{yield-append}
use Rattle.go_grammar.proofs.Fronts.{IsFirst}
use Rattle.go_grammar.proofs.Cuts.{implies}
use Rattle.go_grammar.proofs.SameKinds.{is_same}
use Rattle.go_grammar.proofs.Choices.{at_least, next_is, next_is_not, behind_is_not}
use Rattle.go_grammar.proofs.Plans.{IsPair}
use Rattle.go_grammar.proofs.TypeChoices.{type_name_pair}
use Rattle.go_grammar.proofs.ParamTakes.{IsWord, entry_tree, entries_text, IsEntry, AreEntries}
use Rattle.go_grammar.proofs.Rereads.{Rereads}

-- what may stand behind the type of a parameter
abbrev pub ends_param : Kind → Bool
ends_param kind = is kind kinds.Comma || is kind kinds.CloseParen

pub first_if : (test : Kind → Bool) (tokens : List Token) → is_next test tokens ≡ true → IsFirst test tokens
first_if test [] h = absurd cc
first_if test (token ∷ others) h = record { token = token; others = others; all = refl; kind = h }

-- ---- names and dots

or_false : (a b : Bool) → a ≡ false → b ≡ false → (a || b) ≡ false
or_false true b h k = absurd cc
or_false false b h k = k

or_left : (a b : Bool) → a ≡ true → (a || b) ≡ true
or_left true b h = refl
or_left false b h = absurd cc

or_right : (a b : Bool) → b ≡ true → (a || b) ≡ true
or_right true b h = refl
or_right false b h = h

and_both : (a b : Bool) → a ≡ true → b ≡ true → (a && b) ≡ true
and_both true b h k = k
and_both false b h k = absurd cc

and_first : (a b : Bool) → a ≡ false → (a && b) ≡ false
and_first true b h = absurd cc
and_first false b h = refl

and_second : (a b : Bool) → b ≡ false → (a && b) ≡ false
and_second true b h = h
and_second false b h = refl

no_name : (tokens : List Token) → begins kinds.Name tokens ≡ false → begins_named_param tokens ≡ false
no_name [] h = refl
no_name (token ∷ rest) h = and_first (is token.kind kinds.Name) (begins_type_at rest || begins kinds.Ellipsis rest) h

name_alone : (tokens : List Token) {next : Kind → Bool} → IsPair (λ other. is other kinds.Name) next tokens → implies next (λ kind. not (begins_type kind)) ≡ true → implies next (λ kind. not (is kind kinds.Ellipsis)) ≡ true → begins_named_param tokens ≡ false
name_alone tokens {next} p h k =
    ap begins_named_param p.all ∙ and_second (is p.token.kind kinds.Name) (begins_type_at p.others || begins kinds.Ellipsis p.others)
    (or_false (begins_type_at p.others) (begins kinds.Ellipsis p.others) (behind_is_not begins_type next h p.others p.second) (behind_is_not (λ other. is other kinds.Ellipsis) next k p.others p.second))

-- a type is no name before a type
type_unnamed : (form : Forest) (tail : List Token) → Fits grammar (shapes.Part sorts.AnyType) form tail → IsFirst ends_param tail → begins_named_param (yield form ++ tail) ≡ false
type_unnamed form tail (part (first (part (first x)))) f = name_alone (yield form ++ tail) (type_name_pair x f) refl refl
type_unnamed form tail (part (first (part (second x)))) f = no_name (yield form ++ tail) (next_is_not (λ other. is other kinds.Name) _ ends_param refl form tail x f)
type_unnamed form tail (part (second x)) f = no_name (yield form ++ tail) (next_is_not (λ other. is other kinds.Name) _ ends_param refl form tail x f)

param_name_none : (tokens : List Token) → begins_named_param tokens ≡ false → param_name_in tokens ≡ (None, tokens)
param_name_none [] h = refl
param_name_none (token ∷ rest) h = rw h refl

param_name_some : (token : Token) (rest : List Token) → begins_named_param (token ∷ rest) ≡ true → param_name_in (token ∷ rest) ≡ (Some token, rest)
param_name_some token rest h = rw h refl

optional_none : (kind : Kind) (tokens : List Token) → begins kind tokens ≡ false → optional_in kind tokens ≡ (None, tokens)
optional_none kind [] h = refl
optional_none kind (token ∷ rest) h = rw h refl

is_other : (kind a b : Kind) → is kind a ≡ true → is a b ≡ false → is kind b ≡ false
is_other kind a b h k = let e = is_same kind a h in rw e k

begins_any : (form : Forest) (tail : List Token) → Fits grammar (shapes.Part sorts.AnyType) form tail → IsFirst ends_param tail → begins_type_at (yield form ++ tail) ≡ true
begins_any form tail x f = next_is begins_type (shapes.Part sorts.AnyType) ends_param refl form tail x f

name_again : (name dots : Option Token) (form : Forest) (tail : List Token) → IsWord kinds.Name name → IsWord kinds.Ellipsis dots → Fits grammar (shapes.Part sorts.AnyType) form tail → IsFirst ends_param tail
    → param_name_in (yield (token_if name) ++ (yield (token_if dots) ++ (yield form ++ tail))) ≡ (name, yield (token_if dots) ++ (yield form ++ tail))
name_again None None form tail n d x f = param_name_none (yield form ++ tail) (type_unnamed form tail x f)
name_again None (Some dots) form tail n d x f = param_name_none (dots ∷ (yield form ++ tail)) (no_name (dots ∷ (yield form ++ tail)) (is_other dots.kind kinds.Ellipsis kinds.Name d refl))
name_again (Some name) None form tail n d x f =
    param_name_some name (yield form ++ tail) (and_both (is name.kind kinds.Name) _ n (or_left (begins_type_at (yield form ++ tail)) _ (begins_any form tail x f)))
name_again (Some name) (Some dots) form tail n d x f =
    param_name_some name (dots ∷ (yield form ++ tail)) (and_both (is name.kind kinds.Name) _ n (or_right (begins_type dots.kind) _ d))

dots_again : (dots : Option Token) (form : Forest) (tail : List Token) → IsWord kinds.Ellipsis dots → Fits grammar (shapes.Part sorts.AnyType) form tail → IsFirst ends_param tail
    → optional_in kinds.Ellipsis (yield (token_if dots) ++ (yield form ++ tail)) ≡ (dots, yield form ++ tail)
dots_again None form tail d x f = optional_none kinds.Ellipsis (yield form ++ tail) (next_is_not (λ other. is other kinds.Ellipsis) (shapes.Part sorts.AnyType) ends_param refl form tail x f)
dots_again (Some dots) form tail d x f = rw d refl

-- ---- what stands behind

separator_again : (comma : Option Token) (behind : List Token) → IsWord kinds.Comma comma → (comma ≡ None → begins kinds.CloseParen behind ≡ true) → separator_in kinds.CloseParen (yield (token_if comma) ++ behind) ≡ Some (comma, behind)
separator_again None [] c last = let clash = last refl in absurd cc
separator_again None (token ∷ rest) c last = let closed = last refl in rw closed refl
separator_again (Some comma) behind c last = let open_yet : is comma.kind kinds.CloseParen ≡ false = is_other comma.kind kinds.Comma kinds.CloseParen c refl in rw (open_yet, c) refl

param_ends : (comma : Option Token) (behind : List Token) → IsWord kinds.Comma comma → (comma ≡ None → begins kinds.CloseParen behind ≡ true) → IsFirst ends_param (yield (token_if comma) ++ behind)
param_ends None behind c last =
    let f = first_if (λ other. is other kinds.CloseParen) behind (last refl) in
    record { token = f.token; others = f.others; all = f.all; kind = or_right (is f.token.kind kinds.Comma) (is f.token.kind kinds.CloseParen) f.kind }
param_ends (Some comma) behind c last = record { token = comma; others = behind; all = refl; kind = or_left (is comma.kind kinds.Comma) (is comma.kind kinds.CloseParen) c }

entry_open : (name dots : Option Token) (form : Forest) (tail : List Token) → IsWord kinds.Name name → IsWord kinds.Ellipsis dots → Fits grammar (shapes.Part sorts.AnyType) form tail → IsFirst ends_param tail
    → begins kinds.CloseParen (yield (token_if name) ++ (yield (token_if dots) ++ (yield form ++ tail))) ≡ false
entry_open None None form tail n d x f = next_is_not (λ other. is other kinds.CloseParen) (shapes.Part sorts.AnyType) ends_param refl form tail x f
entry_open None (Some dots) form tail n d x f = is_other dots.kind kinds.Ellipsis kinds.CloseParen d refl
entry_open (Some name) dots form tail n d x f = is_other name.kind kinds.Name kinds.CloseParen n refl

regroup_entry : (a b c d : Forest) (rest : List Token) → yield (append a (append b (append c d))) ++ rest ≡ yield a ++ (yield b ++ (yield c ++ (yield d ++ rest)))
regroup_entry a b c d rest = simp (yield-append, append_assoc) refl

closed_behind : (entry : Entry) (entries : List Entry) (rest : List Token) → IsEntry entry entries rest → begins kinds.CloseParen rest ≡ true → entry.comma ≡ None → begins kinds.CloseParen (entries_text entries ++ rest) ≡ true
closed_behind entry entries rest h closed e = let none = h.last e in rw none closed

module _ (p : Parsers) (depth : ℕ) (r : Rereads p depth) where
  entry_again : (entry : Entry) (entries : List Entry) (rest : List Token) → IsEntry entry entries rest → begins kinds.CloseParen rest ≡ true → length (yield entry.form) < depth
      → entry_in p (yield (entry_tree entry) ++ (entries_text entries ++ rest)) ≡ Some (entry, entries_text entries ++ rest)
  entry_again entry entries rest h closed le =
      let behind = entries_text entries ++ rest in
      let last = closed_behind entry entries rest h closed in
      let tail = yield (token_if entry.comma) ++ behind in
      let f = param_ends entry.comma behind h.comma last in
      let named = name_again entry.name entry.ellipsis entry.form tail h.name h.ellipsis h.form f in
      let dotted = dots_again entry.ellipsis entry.form tail h.ellipsis h.form f in
      let typed = r.type_expr entry.form tail h.form (record { token = f.token; others = f.others; all = f.all; kind = refl }) le in
      let separated = separator_again entry.comma behind h.comma last in
      rw (regroup_entry (token_if entry.name) (token_if entry.ellipsis) entry.form (token_if entry.comma) behind, named, dotted, typed, separated) refl

  entry_long : (entry : Entry) (entries : List Entry) (rest : List Token) → IsEntry entry entries rest → (length (yield entry.form) ≤ length (yield (entry_tree entry))) × (1 ≤ length (yield (entry_tree entry)))
  entry_long entry entries rest h =
      let one : 1 ≤ length (yield entry.form) = at_least h.form in
      let whole = ap length (yield-append (token_if entry.name) (append (token_if entry.ellipsis) (append entry.form (token_if entry.comma)))) in
      let behind_name = ap length (yield-append (token_if entry.ellipsis) (append entry.form (token_if entry.comma))) in
      let behind_dots = ap length (yield-append entry.form (token_if entry.comma)) in
      (omega (arith, length-append {A = Token}), omega (arith, length-append {A = Token}))

  pub entries_again : (entries : List Entry) (rest : List Token) (n : ℕ) → AreEntries entries rest → begins kinds.CloseParen rest ≡ true → length (entries_text entries) < depth → length (entries_text entries) ≤ n
      → entries_in p n (entries_text entries ++ rest) ≡ Some (entries, rest)
  entries_again [] rest zero h closed le enough = refl
  entries_again [] rest (suc n) h closed le enough = rw closed refl
  entries_again (entry ∷ entries) rest zero h closed le enough =
      let long = entry_long entry entries rest h.0 in
      absurd (omega (arith, long, length-append (yield (entry_tree entry)) (entries_text entries)))
  entries_again (entry ∷ entries) rest (suc n) h closed le enough =
      let long = entry_long entry entries rest h.0 in
      let total = length-append (yield (entry_tree entry)) (entries_text entries) in
      let behind = entries_text entries ++ rest in
      let last = closed_behind entry entries rest h.0 closed in
      let tail = yield (token_if entry.comma) ++ behind in
      let open_yet = ap (begins kinds.CloseParen) (regroup_entry (token_if entry.name) (token_if entry.ellipsis) entry.form (token_if entry.comma) behind)
      ∙ entry_open entry.name entry.ellipsis entry.form tail h.0.name h.0.ellipsis h.0.form (param_ends entry.comma behind h.0.comma last) in
      let one = entry_again entry entries rest h.0 closed (omega (arith, long, total)) in
      let more = entries_again entries rest n h.1 closed (omega (arith, long, total)) (omega (arith, long, total)) in
      rw (append_assoc (yield (entry_tree entry)) (entries_text entries) rest, open_yet, one, more) refl
