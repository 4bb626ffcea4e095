-- What a go.mod breaks asks nothing of Go files.
use Rattle.std.proofs.Common.{◌≡◌, ℕ, ◌+◌, Bool, true, false, Option, Some, None, is_some, IfSome, Result, Err, IfErr, List, [], ◌∷◌, length, if◌then◌else◌, nat_lt, unwrap_or, refl, subst}
use Rattle.go_base.specs.declared.rule.Rule.{Rule}
use Rattle.go_base.specs.declared.rule.Rule.TheVariants as rules
use Rattle.go_base.specs.Devices.{Tree}
use Rattle.go_base.specs.declared.place.Place.{Place}
use Rattle.std.specs.List.{slice_split}
use Rattle.go_sources.specs.Sources.{newest_minor}
use Rattle.go_finding.specs.declared.error.LoadError.{LoadError}
use Rattle.go_finding.specs.declared.go_mod.Fault.{Fault}
use Rattle.go_finding.specs.GoMod as says
use Rattle.go_finding.specs.GoMod.{Form, Blank, Module, Go, Opening, Malformed, Said, Contents, is_closing, lone_word, line_of, nothing_said}
use Rattle.go_finding.specs.Places.{Refuses}
use Rattle.go_finding.specs.Words.{is_newline, without_comment}
use Rattle.go_finding.specs.Refusals.{OfProgram, subject, Stops}
use Rattle.go_finding.proofs.Stopping.{refuses_stops}

abbrev IsFree : Option Fault → Type 0
IsFree fault = IfSome fault (λ fault. subject fault.rule ≡ OfProgram)

abbrev IsFreeSaid : Said → Type 0
IsFreeSaid said = IsFree said.fault

either : (b : Bool) (x y : Said) → IsFreeSaid x → IsFreeSaid y → IsFreeSaid (if b then x else y)
either true x y h k = h
either false x y h k = k

refuse_free : (offset : ℕ) (rule : Rule) (said : Said) → subject rule ≡ OfProgram → IsFreeSaid said → IsFreeSaid (says.refuse offset rule said)
refuse_free offset rule said r h = either (is_some said.fault) said (record said { fault = Some (record { offset = offset; rule = rule }) }) h r

path_free : (at : ℕ) (path : Option (List ℕ)) (said : Said) → IsFreeSaid said → IsFreeSaid (says.with_path at path said)
path_free at None said h = refuse_free at rules.MalformedGoMod (record said { path = Some [] }) refl h
path_free at (Some path) said h = h

minor_free : (word minor : ℕ) (said : Said) → IsFreeSaid said → IsFreeSaid (says.with_minor word minor said)
minor_free word minor said h =
    either (nat_lt newest_minor minor) (says.refuse word rules.GoVersionNotSupported (record said { minor = Some minor })) (record said { minor = Some minor })
    (refuse_free word rules.GoVersionNotSupported (record said { minor = Some minor }) refl h) h

line_free : (at : ℕ) (form : Form) (said : Said) → IsFreeSaid said → IsFreeSaid (says.take_line at form said)
line_free at Blank said h = h
line_free at (Module word) said h =
    either (is_some said.path) (says.refuse at rules.MalformedGoMod said) (says.with_path at (says.module_path word) said)
    (refuse_free at rules.MalformedGoMod said refl h) (path_free at (says.module_path word) said h)
line_free at (Go word minor) said h =
    either (is_some said.minor) (says.refuse at rules.MalformedGoMod said) (says.with_minor word minor said)
    (refuse_free at rules.MalformedGoMod said refl h) (minor_free word minor said h)
line_free at Opening said h = h
line_free at Malformed said h = refuse_free at rules.MalformedGoMod said refl h

text_free : (at : ℕ) (text : List ℕ) (said : Said) → IsFreeSaid said → IsFreeSaid (says.take_text at text said)
text_free at text said h =
    either (is_some said.block) (if is_closing (lone_word text) then record said { block = None } else said) (says.take_line at (line_of at text) said)
    (either (is_closing (lone_word text)) (record said { block = None }) said h h) (line_free at (line_of at text) said h)

lines_free : (at : ℕ) (lines : List (List ℕ)) (said : Said) → IsFreeSaid said → IsFreeSaid (says.take_lines at lines said)
lines_free at [] said h = h
lines_free at (line ∷ lines) said h = lines_free (at + length line + 1) lines (says.take_text at (without_comment line) said) (text_free at (without_comment line) said h)

abbrev IsFreeAnswer : Result Contents Fault → Type 0
IsFreeAnswer answer = IfErr answer (λ fault. subject fault.rule ≡ OfProgram)

block_free : (path : List ℕ) (minor : ℕ) (block : Option ℕ) → IsFreeAnswer (says.with_block path minor block)
block_free path minor None = tt
block_free path minor (Some at) = refl

fault_free : (fault : Option Fault) (answer : Result Contents Fault) → IsFree fault → IsFreeAnswer answer → IsFreeAnswer (says.with_fault fault answer)
fault_free None answer h k = k
fault_free (Some fault) answer h k = h

all_free : (path : Option (List ℕ)) (said : Said) → IsFreeSaid said → IsFreeAnswer (says.said_in_all path said)
all_free None said h = refl
all_free (Some path) said h = fault_free said.fault (says.with_block path (unwrap_or said.minor newest_minor) said.block) h (block_free path (unwrap_or said.minor newest_minor) said.block)

answer_free : (answer : Result Contents Fault) (fault : Fault) → answer ≡ Err fault → IsFreeAnswer answer → subject fault.rule ≡ OfProgram
answer_free answer fault same h = subst IsFreeAnswer same h

-- a go.mod that is refused stops loading
pub go_mod_stops : (files : Option Tree) (text : List ℕ) (fault : Fault) (place : Place) (error : LoadError) → says.go_mod text ≡ Err fault → Refuses place fault.rule error → Stops files error
go_mod_stops files text fault place error same refuses =
    let said = says.take_lines 0 (slice_split is_newline text) nothing_said in
    let free : subject fault.rule ≡ OfProgram = answer_free (says.go_mod text) fault same (all_free said.path said (lines_free 0 (slice_split is_newline text) nothing_said tt)) in
    refuses_stops files place fault.rule error refuses (rw free tt)
