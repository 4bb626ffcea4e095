-- What the reading of one text answers.
use Rattle.std.proofs.Common.{◌≡◌, ℕ, List, slice_get, Err}
use Rattle.go_base.specs.declared.rule.Rule.{Rule}
use Rattle.go_base.specs.declared.rule.Rule.TheVariants as rules
use Rattle.go_ast.specs.declared.token.Token.{Token}
use Rattle.go_ast.specs.Lexical.{IsTokenList, IsFault}
use Rattle.parse_answer.specs.declared.error.ParseError.TheVariants as parses
use Rattle.go_sources.specs.Places.{place_in}
use Rattle.go_finding.specs.declared.error.LoadError.{LoadError}
use Rattle.go_finding.specs.declared.error.LoadError.TheVariants.{Refused, ReadFault, OutOfMemory}
use Rattle.go_finding.specs.Places.{start_in, Refuses}
use Rattle.go_finding.specs.Reading.{IsVerdict, IsBadText, BadBytes, TooDeep, BadSyntax, ReadsTree}

breaks_text : (path bytes : List ℕ) (offset : ℕ) (rule : Rule) (error : LoadError) → IsBadText bytes offset rule → Refuses (place_in path bytes offset) rule error → ReadsTree path bytes (Err error)
breaks_text path bytes offset rule (Refused at by) bad same = rw same.1 (record { offset = offset; bad = bad; place_is = same.0 })
breaks_text path bytes offset rule ReadFault bad same = tt
breaks_text path bytes offset rule OutOfMemory bad same = tt

pub bad_bytes : (path bytes : List ℕ) (offset : ℕ) (rule : Rule) (error : LoadError) → IsFault bytes offset rule → Refuses (place_in path bytes offset) rule error → ReadsTree path bytes (Err error)
bad_bytes path bytes offset rule error fault same = breaks_text path bytes offset rule error (BadBytes offset rule fault) same

pub too_deep : (path bytes : List ℕ) (tokens : List Token) (index at : ℕ) (error : LoadError) → IsTokenList bytes tokens → IsVerdict tokens (Err (parses.TooDeep index)) → at ≡ start_in bytes (slice_get tokens index) → Refuses (place_in path bytes at) rules.NestedTooDeeply error → ReadsTree path bytes (Err error)
too_deep path bytes tokens index at error list verdict start same =
    breaks_text path bytes _ rules.NestedTooDeeply error (TooDeep tokens index list verdict) (rw start at same)

pub bad_syntax : (path bytes : List ℕ) (tokens : List Token) (index at : ℕ) (error : LoadError) → IsTokenList bytes tokens → IsVerdict tokens (Err (parses.Unexpected index)) → at ≡ start_in bytes (slice_get tokens index) → Refuses (place_in path bytes at) rules.SyntaxError error → ReadsTree path bytes (Err error)
bad_syntax path bytes tokens index at error list verdict start same =
    breaks_text path bytes _ rules.SyntaxError error (BadSyntax tokens index list verdict) (rw start at same)
