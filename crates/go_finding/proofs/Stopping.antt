-- Why files are refused.
use Rattle.std.proofs.Common.{◌≡◌, ℕ, Bool, true, false, Option, Some, None, IfSome, OnOk, Result, Ok, Err, List, length, slice_get, if◌then◌else◌, ◌==◌, inl, inr, refl, ap, subst, is_none}
use Rattle.go_base.specs.Devices.{Tree}
use Rattle.go_base.specs.declared.place.Place.{Place}
use Rattle.go_base.specs.declared.rule.Rule.{Rule}
use Rattle.go_base.specs.declared.rule.Rule.TheVariants as rules
use Rattle.go_ast.specs.declared.token.Token.{Token}
use Rattle.go_ast.specs.Lexical.{IsTokenList, IsFault, IsFaultOf}
use Rattle.go_ast.specs.Pieces.{Class, Space, LineComment, GeneralComment, Mark, Word, Numeral, RuneLiteral, StringLiteral, RawLiteral, Fault, at_start, bad_rule, fault_at, or_else, rune_fault, fault_of_class, stray_rule, class_of, extent, is_closed, bad_item}
use Rattle.go_ast.specs.Literals.{first, first_bad, item, item_rests, character, is_integer}
use Rattle.go_syntax.specs.Reach.{reach_index}
use Rattle.go_scan.specs.Scanning.{IsRefusal}
use Rattle.go_scan.specs.declared.scanner.ScanError.TheVariants as scans
use Rattle.parse_answer.specs.Refusal.{DecidesReach, IsParsed}
use Rattle.parse_answer.specs.declared.error.ParseError.TheVariants as parses
use Rattle.go_sources.specs.Places.{place_in}
use Rattle.go_sources.specs.Sources.{IsText}
use Rattle.go_finding.specs.declared.error.LoadError.{LoadError}
use Rattle.go_finding.specs.declared.error.LoadError.TheVariants.{Refused, ReadFault, OutOfMemory}
use Rattle.go_finding.specs.Places.{start_in, Refuses}
use Rattle.go_finding.specs.Refusals.{OfBytes, subject, Justifies, Stops}

pub refuses_stops : (files : Option Tree) (place : Place) (rule : Rule) (error : LoadError) → Refuses place rule error → Justifies files place rule → Stops files error
refuses_stops files place rule (Refused at by) same h = rw (same.0, same.1) h
refuses_stops files place rule ReadFault same h = absurd same
refuses_stops files place rule OutOfMemory same h = tt

-- ---- faults of pieces break lexical rules

abbrev IsLexical : Rule → Type 0
IsLexical rule = subject rule ≡ OfBytes

bad_rule_lexical : (rest : List ℕ) → IsLexical (bad_rule rest)
bad_rule_lexical rest = go (first rest == 92)
  where
    go : (b : Bool) → IsLexical (if b then rules.BadEscape else rules.InvalidSourceByte)
    go true = refl
    go false = refl

stray_rule_lexical : (rest : List ℕ) → IsLexical (stray_rule rest)
stray_rule_lexical rest = go (is_none (character rest))
  where
    go : (b : Bool) → IsLexical (if b then rules.InvalidSourceByte else rules.UnexpectedCharacter)
    go true = refl
    go false = refl

abbrev AllLexical : Option Fault → Type 0
AllLexical fault = IfSome fault (λ fault. IsLexical fault.rule)

fault_at_lexical : (text : List ℕ) (rest : Option (List ℕ)) → AllLexical (fault_at text rest)
fault_at_lexical text None = tt
fault_at_lexical text (Some rest) = bad_rule_lexical rest

or_else_lexical : (a b : Option Fault) → AllLexical a → AllLexical b → AllLexical (or_else a b)
or_else_lexical None b h k = k
or_else_lexical (Some fault) b h k = h

chosen_lexical : (b : Bool) (x y : Option Fault) → AllLexical x → AllLexical y → AllLexical (if b then x else y)
chosen_lexical true x y h k = h
chosen_lexical false x y h k = k

rune_fault_lexical : (text : List ℕ) → AllLexical (rune_fault text)
rune_fault_lexical text =
    or_else_lexical (bad_item 39 text) (if length (item_rests (item 39) text) == 3 then None else at_start rules.BadRuneLiteral)
    (fault_at_lexical text (first_bad (item 39) text))
    (chosen_lexical (length (item_rests (item 39) text) == 3) None (at_start rules.BadRuneLiteral) tt refl)

class_lexical : (class : Class) (closed : Bool) (text : List ℕ) → AllLexical (fault_of_class class closed text)
class_lexical Space closed text = tt
class_lexical LineComment closed text = fault_at_lexical text (first_bad character text)
class_lexical GeneralComment closed text =
    chosen_lexical closed (fault_at text (first_bad character text)) (at_start rules.CommentNotClosed) (fault_at_lexical text (first_bad character text)) refl
class_lexical Mark closed text = tt
class_lexical Word closed text = tt
class_lexical Numeral closed text = chosen_lexical (is_integer text) None (at_start rules.NotAnIntegerLiteral) tt refl
class_lexical RuneLiteral closed text = chosen_lexical closed (rune_fault text) (at_start rules.BadRuneLiteral) (rune_fault_lexical text) refl
class_lexical StringLiteral closed text =
    chosen_lexical closed (fault_at text (first_bad (item 34) text)) (at_start rules.StringLiteralNotClosed) (fault_at_lexical text (first_bad (item 34) text)) refl
class_lexical RawLiteral closed text =
    chosen_lexical closed (fault_at text (first_bad character text)) (at_start rules.StringLiteralNotClosed) (fault_at_lexical text (first_bad character text)) refl

fault_lexical : (rest : List ℕ) (fault : Fault) → IsFaultOf rest fault → IsLexical fault.rule
fault_lexical rest fault (inl h) =
    subst AllLexical h.2 (class_lexical (class_of h.0) (is_closed (extent (class_of h.0) h.0)) h.0)
fault_lexical rest fault (inr h) = rw h.1 (stray_rule_lexical rest)

rule_lexical : (bytes : List ℕ) (offset : ℕ) (rule : Rule) → IsFault bytes offset rule → IsLexical rule
rule_lexical bytes offset rule h = rw h.rule_is (fault_lexical h.rest h.fault h.breaks)

-- ---- what stops the reading of a file

pub scan_stops : (files : Option Tree) (path bytes : List ℕ) (offset : ℕ) (rule : Rule) (error : LoadError) → IsRefusal bytes (scans.Refused offset rule) → Refuses (place_in path bytes offset) rule error → IsText files path bytes → Stops files error
scan_stops files path bytes offset rule error fault same text =
    refuses_stops files (place_in path bytes offset) rule error same
    (rw (rule_lexical bytes offset rule fault) (record { bytes = bytes; text = text; fault = fault; place_is = refl }))

pub deep_stops : (files : Option Tree) (path bytes : List ℕ) (tokens : List Token) (index at : ℕ) (error : LoadError) → IsTokenList bytes tokens → DecidesReach (Err (parses.TooDeep index)) (reach_index tokens) → at ≡ start_in bytes (slice_get tokens index) → Refuses (place_in path bytes at) rules.NestedTooDeeply error → IsText files path bytes → Stops files error
deep_stops files path bytes tokens index at error list reaches start same text =
    refuses_stops files (place_in path bytes at) rules.NestedTooDeeply error same
    (record { bytes = bytes; tokens = tokens; index = index; text = text; list = list; reaches = reaches; place_is = ap (place_in path bytes) start })

pub syntax_stops : (files : Option Tree) (path bytes : List ℕ) (tokens : List Token) (index at : ℕ) (error : LoadError) → IsTokenList bytes tokens → DecidesReach (Err (parses.Unexpected index)) (reach_index tokens) → IsParsed tokens (Err (parses.Unexpected index)) → at ≡ start_in bytes (slice_get tokens index) → Refuses (place_in path bytes at) rules.SyntaxError error → IsText files path bytes → Stops files error
syntax_stops files path bytes tokens index at error list reaches unexpected start same text =
    refuses_stops files (place_in path bytes at) rules.SyntaxError error same
    (record { bytes = bytes; tokens = tokens; index = index; text = text; list = list; none = reaches; unexpected = unexpected; place_is = ap (place_in path bytes) start })

pub always : {T E P : Type 0} (result : Result T E) → P → OnOk result P
always (Ok x) h = h
always (Err e) h = tt
