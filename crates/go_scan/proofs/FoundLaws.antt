-- What a reading of the piece at the head of a text says of the text.
use Rattle.std.proofs.Common.{◌≡◌, ℕ, ◌-◌, ◌≤◌, Bool, true, false, ◌==◌, if◌then◌else◌, Option, Some, None, List, [], ◌∷◌, ◌++◌, length, take, drop, refl, ap, sym, ◌∙◌, subst, arith, inr, take-append-drop, length-take-le}
use Rattle.go_base.specs.declared.rule.Rule.{Rule}
use Rattle.go_base.specs.declared.rule.Rule.TheVariants as rules
use Rattle.go_ast.specs.Literals.{first_bad, item_rests, character, item, is_integer}
use Rattle.go_ast.specs.Pieces.{Class, Space, LineComment, GeneralComment, Mark, Word, Numeral, RuneLiteral, StringLiteral, RawLiteral, class_of, extent, is_closed, is_of, is_piece, kind_of, kind_of_class, fault_of, fault_of_class, Fault, fault_at, at_start, or_else, stray_rule, bad_rule}
use Rattle.go_ast.specs.Lexical.{IsLongest, IsFaultOf}
use Rattle.go_scan.specs.Reading.{ending_of}
use Rattle.go_scan.specs.declared.endings.Ending.{Ending}
use Rattle.go_scan.proofs.ClassLaws.{class-front}
use Rattle.go_scan.proofs.PieceLaws.{piece-longest, reach-of, IsReach}

piece-is : (text : List ℕ) → 1 ≤ length text → is_piece text ≡ is_of (class_of text) text
piece-is [] h = absurd (omega arith)
piece-is (a ∷ text) h = refl

longest_at : (text other rest : List ℕ) → is_piece other ≡ true → text ≡ other ++ rest → length other ≤ (ending_of (class_of text) text).length
longest_at text other rest e whole = subst (λ t. length other ≤ (ending_of (class_of t) t).length) (sym whole) (piece-longest other rest e)

-- a piece that was found, with its class and its end
pub record IsSpelled (text : List ℕ) (class : Class) (n : ℕ) (closed : Bool) : Type 0 where
  pub within : n ≤ length text
  pub longest : IsLongest text (take n text)
  pub fault_is : fault_of (take n text) ≡ fault_of_class class closed (take n text)
  pub kind_is : kind_of (take n text) ≡ kind_of_class class (take n text)

pub spelled-of : (text : List ℕ) (class : Class) (found : Ending) → class ≡ class_of text → found ≡ ending_of class text → 1 ≤ length text → 1 ≤ found.length → IsSpelled text class found.length found.closed
spelled-of text class found c e h l =
    let n = found.length in
    let size : n ≡ (ending_of class text).length = ap (λ f. f.length) e in
    let least : 1 ≤ (ending_of class text).length = omega (arith, size) in
    let reach : IsReach class text = reach-of class text (sym c) h in
    let within : n ≤ length text = omega (arith, size, reach.within) in
    let front : length (take n text) ≡ n = length-take-le n text within in
    let size_of : n ≡ (ending_of (class_of text) text).length = size ∙ ap (λ k. (ending_of k text).length) c in
    let same : class_of (take n text) ≡ class = class-front text n l size_of ∙ sym c in
    let one : is_of class (take n text) ≡ true = ap (λ k. is_of class (take k text)) size ∙ reach.one least in
    let closed : is_closed (extent class (take n text)) ≡ found.closed =
    ap (λ k. is_closed (extent class (take k text))) size ∙ reach.closed least ∙ sym (ap (λ f. f.closed) e) in
    record {
      within = within;
      longest = record {
        begins = sym (take-append-drop n text) ∙ ap (λ k. take n text ++ drop k text) (sym front);
        one = piece-is (take n text) (omega (arith, front)) ∙ ap (λ k. is_of k (take n text)) same ∙ one;
        longest = λ other rest p whole. let long = longest_at text other rest p whole in omega (arith, front, size_of, long);
      };
      fault_is = ap (λ k. fault_of_class k (is_closed (extent k (take n text))) (take n text)) same ∙ ap (λ v. fault_of_class class v (take n text)) closed;
      kind_is = ap (λ k. kind_of_class k (take n text)) same;
    }

no_piece : (piece : List ℕ) → is_piece piece ≡ true → length piece ≤ 0 → ⊥
no_piece [] e h = absurd cc
no_piece (a ∷ piece) e h = omega arith

-- no piece was found
pub stray-of : (text : List ℕ) (class : Class) (found : Ending) (fault : Fault) → class ≡ class_of text → found ≡ ending_of class text → 1 ≤ length text → found.length ≡ 0
    → fault ≡ record { at = 0; rule = stray_rule text } → IsFaultOf text fault
stray-of text class found fault c e h z f =
    let size : (ending_of (class_of text) text).length ≡ 0 = ap (λ k. (ending_of k text).length) (sym c) ∙ ap (λ f. f.length) (sym e) ∙ z in
    inr ((λ piece more p whole. no_piece piece p (let long = longest_at text piece more p whole in omega (arith, size, long))), f, h)

-- ---- a fault lies in its piece

some_at : (at : ℕ) (rule : Rule) (fault : Fault) (n : ℕ) → Some (record { at = at; rule = rule }) ≡ Some fault → at ≤ n → fault.at ≤ n
some_at at rule fault n e h =
    let made : Fault = record { at = at; rule = rule } in
    let r : made ≡ fault = cc in
    let same : at ≡ fault.at = ap (λ f. f.at) r in
    omega arith

bad_within : (text : List ℕ) (bad : Option (List ℕ)) (fault : Fault) → fault_at text bad ≡ Some fault → fault.at ≤ length text
bad_within text None fault e = absurd cc
bad_within text (Some rest) fault e = some_at (length text - length rest) (bad_rule rest) fault (length text) e (omega arith)

start_within : (rule : Rule) (fault : Fault) (n : ℕ) → at_start rule ≡ Some fault → fault.at ≤ n
start_within rule fault n e = some_at 0 rule fault n e (omega arith)

choice_within : (b : Bool) (x y : Option Fault) (fault : Fault) (n : ℕ) → (if b then x else y) ≡ Some fault → (x ≡ Some fault → fault.at ≤ n) → (y ≡ Some fault → fault.at ≤ n) → fault.at ≤ n
choice_within true x y fault n e f g = f e
choice_within false x y fault n e f g = g e

rune_within : (text : List ℕ) (bad : Option (List ℕ)) (b : Bool) (fault : Fault) → or_else (fault_at text bad) (if b then None else at_start rules.BadRuneLiteral) ≡ Some fault → fault.at ≤ length text
rune_within text None true fault e = absurd cc
rune_within text None false fault e = start_within rules.BadRuneLiteral fault (length text) e
rune_within text (Some rest) b fault e = some_at (length text - length rest) (bad_rule rest) fault (length text) e (omega arith)

pub fault-within : (class : Class) (closed : Bool) (text : List ℕ) (fault : Fault) → fault_of_class class closed text ≡ Some fault → fault.at ≤ length text
fault-within Space closed text fault e = absurd cc
fault-within LineComment closed text fault e = bad_within text (first_bad character text) fault e
fault-within GeneralComment closed text fault e = choice_within closed _ _ fault (length text) e (bad_within text (first_bad character text) fault) (start_within rules.CommentNotClosed fault (length text))
fault-within Mark closed text fault e = absurd cc
fault-within Word closed text fault e = absurd cc
fault-within Numeral closed text fault e = choice_within (is_integer text) _ _ fault (length text) e (λ e. absurd cc) (start_within rules.NotAnIntegerLiteral fault (length text))
fault-within RuneLiteral closed text fault e = choice_within closed _ _ fault (length text) e (rune_within text (first_bad (item 39) text) (length (item_rests (item 39) text) == 3) fault) (start_within rules.BadRuneLiteral fault (length text))
fault-within StringLiteral closed text fault e = choice_within closed _ _ fault (length text) e (bad_within text (first_bad (item 34) text) fault) (start_within rules.StringLiteralNotClosed fault (length text))
fault-within RawLiteral closed text fault e = choice_within closed _ _ fault (length text) e (bad_within text (first_bad character text) fault) (start_within rules.StringLiteralNotClosed fault (length text))
