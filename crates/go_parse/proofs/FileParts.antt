-- What is read of the parts of files, step by step.
use Rattle.std.proofs.Common.{◌≡◌, ℕ, zero, suc, ◌-◌, ◌+◌, ◌≤◌, ◌<◌, Bool, true, false, List, [], ◌∷◌, ◌++◌, length, Option, Some, None, refl, sym, ap, ◌∙◌, subst, arith}
use Rattle.std.proofs.lemmas.Bool.{eqb-true}
use Rattle.std.specs.Prelude.{Result, Ok, Err, IfOk, if◌then◌else◌, not, ◌==◌}
use Rattle.go_ast.specs.declared.token.Kind.TheVariants as kinds
use Rattle.go_ast.specs.declared.token.Token.{Token}
use Rattle.go_grammar.specs.Forests as forms
use Rattle.go_grammar.specs.Forests.{Forest, empty, node, append}
use Rattle.go_grammar.specs.Grammar.{is_semicolon, closes_parens}
use Rattle.go_grammar.specs.Reading.{Reader, sign_in, before_in, either_in}
use Rattle.go_grammar.specs.Tests.{begins, begins_semicolon}
use Rattle.go_grammar.specs.TypeReading.{Parsers}
use Rattle.go_grammar.specs.StmtReading.{is_more}
use Rattle.go_grammar.specs.PartReading.{parts_in, and_then, file_by_parts}
use Rattle.go_grammar.specs.FileReading.{parsers}
use Rattle.go_grammar.specs.Files.{IsUnexpected}
use Rattle.go_grammar.specs.View.{view_file}
use Rattle.go_grammar.proofs.PartLaws.{parts_sound}
use Rattle.go_grammar.proofs.AllAgain.{stops_unexpected}
use Rattle.go_syntax.specs.declared.decls.FileTree.{FileTree}
use Rattle.tree_roles.specs.Roles.{roles_of_file}
use Rattle.go_readers.specs.Funcs.{func_in}
use Rattle.go_fragments.specs.Words.{line_end_in}
use Rattle.go_fragments.proofs.Words.{is_closing_paren}
use Rattle.go_fragments.specs.declared.stop.Stop.{Stop}
use Rattle.go_fragments.specs.declared.stop.Stop.TheVariants as stops
use Rattle.go_fragments.specs.Giving.{Fails}
use Rattle.parse_answer.specs.declared.error.ParseError.{ParseError}
use Rattle.parse_answer.specs.declared.error.ParseError.TheVariants as errors
use Rattle.go_parse.specs.Refusal.{IsRefusalAt}
use Rattle.parse_answer.specs.Refusal.{IsParsed, IsWithin}
use Rattle.go_parse.proofs.Within.{unexpected_within}
use Rattle.go_parse.specs.FileParts.{GivesParts, IsStopped, at_index, clause_in, imports_in, decls_in, path_in, import_line_in, decl_line_in}

line_end_parens : (tokens : List Token) → line_end_in kinds.CloseParen tokens ≡ either_in begins_semicolon (sign_in is_semicolon) (before_in closes_parens) tokens
line_end_parens [] = refl
line_end_parens (token ∷ tokens) = rw (is_closing_paren token.kind) refl

pub import_line_read : (tokens rest after : List Token) (path end : Forest) → path_in tokens ≡ Some (path, rest) → line_end_in kinds.CloseParen rest ≡ Some (end, after)
    → import_line_in tokens ≡ Some (append (node forms.ImportSpecForm path empty) end, after)
import_line_read tokens rest after path end e f = let g = sym (line_end_parens rest) ∙ f in rw (e, g) refl

pub func_line_read : (p : Parsers) (tokens rest after : List Token) (func semicolon : Forest) → begins kinds.FuncWord tokens ≡ true → func_in p tokens ≡ Some (func, rest) → sign_in is_semicolon rest ≡ Some (semicolon, after)
    → decl_line_in p tokens ≡ Some (append func semicolon, after)
func_line_read p tokens rest after func semicolon b e f = rw (b, e, f) refl

-- ---- loops over parts

module _ (all : ℕ) (test : List Token → Bool) (part : Reader) where
  -- at the start no part was read
  pub parts_start : (n i : ℕ) (front : Forest) (tokens : List Token) → i ≡ 0 → front ≡ empty → at_index all (parts_in test part (n - i) front tokens) ≡ at_index all (parts_in test part n empty tokens)
  parts_start n i front tokens e f = let k : n - i ≡ n = omega arith in rw (f, k) refl

  -- a part was read
  pub parts_on : (end i : ℕ) (front longer x : Forest) (tokens rest : List Token) (total : Result (Forest × List Token) ℕ) → i < end → test tokens ≡ true → part tokens ≡ Some (x, rest) → longer ≡ append front x
      → at_index all (parts_in test part (end - i) front tokens) ≡ total → at_index all (parts_in test part (end - (i + 1)) longer rest) ≡ total
  parts_on end i front longer x tokens rest total lt h g f so_far =
      let k : end - i ≡ suc (end - (i + 1)) = omega arith in
      let step : parts_in test part (end - i) front tokens ≡ parts_in test part (end - (i + 1)) longer rest = rw (k, h, g, f) refl in
      sym (ap (at_index all) step) ∙ so_far

  -- no part follows
  pub parts_done : (n : ℕ) (front : Forest) (tokens : List Token) (total : Result (Forest × List Token) ℕ) → test tokens ≡ false → at_index all (parts_in test part n front tokens) ≡ total → total ≡ Ok (front, tokens)
  parts_done n front tokens total h so_far = sym so_far ∙ ap (at_index all) (stops n)
    where
      stops : (k : ℕ) → parts_in test part k front tokens ≡ Ok (front, tokens)
      stops zero = refl
      stops (suc k) = rw h refl

  -- no turn is left
  pub parts_over : (end i : ℕ) (front : Forest) (tokens : List Token) (total : Result (Forest × List Token) ℕ) → end ≤ i → at_index all (parts_in test part (end - i) front tokens) ≡ total → total ≡ Ok (front, tokens)
  parts_over end i front tokens total le so_far =
      let k : end - i ≡ 0 = omega arith in
      let step : parts_in test part (end - i) front tokens ≡ Ok (front, tokens) = rw k refl in
      sym so_far ∙ ap (at_index all) step

  -- a part is not read
  pub parts_fail : (end i : ℕ) (front : Forest) (tokens : List Token) (total : Result (Forest × List Token) ℕ) → i < end → test tokens ≡ true → part tokens ≡ None
      → at_index all (parts_in test part (end - i) front tokens) ≡ total → total ≡ Err (all - length tokens)
  parts_fail end i front tokens total lt h g so_far =
      let k : end - i ≡ suc (end - (i + 1)) = omega arith in
      let step : parts_in test part (end - i) front tokens ≡ Err (length tokens) = rw (k, h, g) refl in
      sym so_far ∙ ap (at_index all) step

-- what is answered where a part is not read
pub refused : {Y : Type 0} (all index : ℕ) (stop : Stop) (error : ParseError) (read : Result Y ℕ) → IsRefusalAt index stop error → (stop ≡ stops.Unexpected → at_index all read ≡ Err index) → IsStopped all error read
refused all index stops.Memory error read h k = subst (λ (e : ParseError). IsStopped all e read) (sym h) tt
refused all index stops.Unexpected error read h k = subst (λ (e : ParseError). IsStopped all e read) (sym h) (k refl)

-- a part that is not read stops for want of memory, or reads nothing
pub not_read : {Y : Type 0} (stop : Stop) (read : Option Y) → Fails stop read → stop ≡ stops.Unexpected → read ≡ None
not_read stops.Memory read h e = absurd cc
not_read stops.Unexpected read h e = h

-- ---- the trees alone

pub trees_done : (all : ℕ) (read : Result (Forest × List Token) ℕ) (front : Forest) (rest : List Token) → at_index all read ≡ Ok (front, rest) → at_index all (and_then read (λ x. Ok x.0)) ≡ Ok front
trees_done all (Ok x) front rest h = ap trees h
  where
    trees : Result (Forest × List Token) ℕ → Result Forest ℕ
    trees (Ok y) = Ok y.0
    trees (Err left) = Err left
trees_done all (Err left) front rest h = absurd cc

pub trees_fail : (all index : ℕ) (read : Result (Forest × List Token) ℕ) → at_index all read ≡ Err index → at_index all (and_then read (λ x. Ok x.0)) ≡ Err index
trees_fail all index (Ok x) h = absurd cc
trees_fail all index (Err left) h = let e : all - left ≡ index = cc in rw e refl

pub more_is : (tokens : List Token) (is_empty : Bool) → is_empty ≡ (length tokens == 0) → is_more tokens ≡ not is_empty
more_is [] is_empty h = rw h refl
more_is (token ∷ tokens) false h = refl
more_is (token ∷ tokens) true h = absurd (omega (arith, eqb-true (suc (length tokens)) 0 (sym h)))

-- ---- the whole file

-- where the first stops, all stops
pub stops_all : {A B : Type 0} (all : ℕ) (error : ParseError) (read : Result A ℕ) (go_on : A → Result B ℕ) → IsStopped all error read → IsStopped all error (and_then read go_on)
stops_all all (errors.TooDeep index) read go_on h = h
stops_all all (errors.Unexpected index) (Ok x) go_on h = absurd cc
stops_all all (errors.Unexpected index) (Err left) go_on h = let e : all - left ≡ index = cc in rw e refl
stops_all all errors.OutOfMemory read go_on h = tt

ok_read : {A : Type 0} (all : ℕ) (read : Result A ℕ) (x : A) → at_index all read ≡ Ok x → read ≡ Ok x
ok_read all (Ok y) x h = h
ok_read all (Err left) x h = absurd cc

-- where the trees alone are not read, nothing is that is made of them
stops_of_trees : {A B : Type 0} (all : ℕ) (error : ParseError) (read : Result (A × B) ℕ) (make : A → A) → IsStopped all error (and_then read (λ x. Ok x.0)) → IsStopped all error (and_then read (λ x. Ok (make x.0)))
stops_of_trees all (errors.TooDeep index) read make h = h
stops_of_trees all (errors.Unexpected index) (Ok x) make h = absurd cc
stops_of_trees all (errors.Unexpected index) (Err left) make h = h
stops_of_trees all errors.OutOfMemory read make h = tt

made_of_trees : {A B : Type 0} (all : ℕ) (read : Result (A × B) ℕ) (make : A → A) (trees : A) → at_index all (and_then read (λ x. Ok x.0)) ≡ Ok trees → at_index all (and_then read (λ x. Ok (make x.0))) ≡ Ok (make trees)
made_of_trees {A} {B} all (Ok x) make trees h = let e : x.0 ≡ trees = cc in rw e refl
made_of_trees all (Err left) make trees h = absurd cc

module _ (p : Parsers) (tokens rest : List Token) (clause : Forest) (first : clause_in tokens ≡ Some (clause, rest)) where
  pub file_stops : (error : ParseError) → IsStopped (length tokens) error (imports_in (length tokens) rest) → IsStopped (length tokens) error (file_by_parts p tokens)
  file_stops error h = rw first (stops_all (length tokens) error (imports_in (length tokens) rest) _ h)

  pub file_stops_later : (error : ParseError) (imports : Forest) (later : List Token) → at_index (length tokens) (imports_in (length tokens) rest) ≡ Ok (imports, later) → IsStopped (length tokens) error (decls_in p (length tokens) later)
      → IsStopped (length tokens) error (file_by_parts p tokens)
  file_stops_later error imports later h k =
      let read = ok_read (length tokens) (imports_in (length tokens) rest) (imports, later) h in
      rw (first, read) (stops_of_trees (length tokens) error (parts_in is_more (decl_line_in p) (length tokens) empty later) (λ (decls : Forest). node forms.FileForm (append clause (append imports decls)) empty) k)

  pub file_read : (imports decls : Forest) (later : List Token) → at_index (length tokens) (imports_in (length tokens) rest) ≡ Ok (imports, later) → at_index (length tokens) (decls_in p (length tokens) later) ≡ Ok decls
      → at_index (length tokens) (file_by_parts p tokens) ≡ Ok (node forms.FileForm (append clause (append imports decls)) empty)
  file_read imports decls later h k =
      let read = ok_read (length tokens) (imports_in (length tokens) rest) (imports, later) h in
      rw (first, read) (made_of_trees (length tokens) (parts_in is_more (decl_line_in p) (length tokens) empty later) (λ (trees : Forest). node forms.FileForm (append clause (append imports trees)) empty) decls k)

-- ---- what was read, or where it stopped

record Stopped (A : Type 0) (all index : ℕ) (read : Result A ℕ) : Type 0 where
  left : ℕ
  is : read ≡ Err left
  at : index ≡ all - left

stopped_at : {A : Type 0} (all index : ℕ) (read : Result A ℕ) → at_index all read ≡ Err index → Stopped A all index read
stopped_at all index (Ok x) h = absurd cc
stopped_at all index (Err left) h = let e : all - left ≡ index = cc in record { left = left; is = refl; at = sym e }

pub parsed_by_parts : (tokens : List Token) (result : Result FileTree ParseError) → GivesParts (length tokens) view_file result (file_by_parts (parsers (length tokens)) tokens) → IfOk result (λ tree. roles_of_file tree ≡ true) → IsParsed tokens result
parsed_by_parts tokens (Ok file) h roles = (parts_sound (length tokens) tokens (view_file file) (ok_read (length tokens) (file_by_parts (parsers (length tokens)) tokens) (view_file file) h), roles)
parsed_by_parts tokens (Err (errors.TooDeep index)) h roles = tt
parsed_by_parts tokens (Err (errors.Unexpected index)) h roles =
    let s = stopped_at (length tokens) index (file_by_parts (parsers (length tokens)) tokens) h in
    subst (IsUnexpected tokens) (sym s.at) (stops_unexpected (length tokens) tokens s.left (omega arith) s.is)
parsed_by_parts tokens (Err errors.OutOfMemory) h roles = tt

-- ---- a tree, where its tokens have the kinds of their fields

pub given_with_roles : (all : ℕ) (tree : FileTree) (result : Result FileTree ParseError) (read : Result Forest ℕ) (b : Bool) → at_index all read ≡ Ok (view_file tree) → result ≡ (if b then Ok tree else Err errors.OutOfMemory) → GivesParts all view_file result read
given_with_roles all tree result read true h e = rw e h
given_with_roles all tree result read false h e = rw e tt

pub has_given_roles : (tree : FileTree) (result : Result FileTree ParseError) (b : Bool) → roles_of_file tree ≡ b → result ≡ (if b then Ok tree else Err errors.OutOfMemory) → IfOk result (λ tree. roles_of_file tree ≡ true)
has_given_roles tree result true roles e = rw e roles
has_given_roles tree result false roles e = rw e tt

pub within_by_parts : (tokens : List Token) (result : Result FileTree ParseError) → IsParsed tokens result → IsWithin (length tokens) result
within_by_parts tokens (Ok file) h = tt
within_by_parts tokens (Err (errors.TooDeep index)) h = tt
within_by_parts tokens (Err (errors.Unexpected index)) h = unexpected_within tokens index h
within_by_parts tokens (Err errors.OutOfMemory) h = tt
