-- What lines of go.mod say: one answer, which a reader finds.
use Rattle.std.proofs.Common.{◌≡◌, ◌⊎◌, inl, inr, ◌<◌, ℕ, List, [], length, Option, Some, None, unwrap_or, Result, Ok, Err, refl, sym, ap, subst, ◌∙◌, arith, ◌↔◌}
use Rattle.std.proofs.lemmas.Option.{slice_get_within}
use Rattle.std.specs.List.{slice_split}
use Rattle.go_base.specs.declared.rule.Rule.TheVariants as rules
use Rattle.go_sources.specs.Sources.{newest_minor}
use Rattle.go_finding.specs.declared.go_mod.Fault.{Fault}
use Rattle.go_finding.specs.GoMod.{Form, Module, Go, Opening, Said, Contents, line_of, module_path, said_in_all, nothing_said, go_mod}
use Rattle.go_finding.specs.GoModLines.{Line, lines_of, StaysOpen, IsInBlock, HasForm, HasModule, HasGo, malformed_at, Violates, NoForm, NoPath, SecondModule, SecondGo, TooNew, AreSound, GivesPath, GivesMinor, IsGoMod, IsBadGoMod, NoModule, FirstLine, Unclosed}
use Rattle.go_finding.specs.Words.{is_newline}
use Rattle.load_laws.proofs.ModLines.{Holds, HasPath, PathHolds, MinorHolds, BlockHolds, FaultHolds, all_lines, all_hold, same_line, same_form, said_by, take_all}

-- ---- what a reader answers

abbrev pub Answers : List Line → Result Contents Fault → Type 0
Answers lines (Ok contents) = IsGoMod lines contents
Answers lines (Err fault) = IsBadGoMod lines fault

has_module : (lines : List Line) (path : List ℕ) → HasPath lines (length lines) path → HasModule lines (length lines)
has_module lines path h = (h.i, h.line, h.word, h.before, h.says)

gives_path : (lines : List Line) (path : List ℕ) → AreSound lines (length lines) → HasPath lines (length lines) path → GivesPath lines path
gives_path lines path sound h = by (module_path h.word) refl
  where
    by : (o : Option (List ℕ)) → module_path h.word ≡ o → GivesPath lines path
    by None e = absurd (sound h.i h.line (malformed_at h.line.at) h.before (NoPath h.word h.says e))
    by (Some found) e =
        let same : found ≡ path = sym (ap (λ (o : Option (List ℕ)). unwrap_or o []) e) ∙ h.path_is in
        (h.i, h.line, h.word, h.says, e ∙ ap Some same)

gives_minor : (lines : List Line) (minor : Option ℕ) → MinorHolds lines (length lines) minor → GivesMinor lines (unwrap_or minor newest_minor)
gives_minor lines None h = inr (h, refl)
gives_minor lines (Some minor) h = inl (h.i, h.line, h.at, h.says)

answer : (lines : List Line) (path : Option (List ℕ)) (minor block : Option ℕ) (fault : Option Fault) → PathHolds lines (length lines) path → MinorHolds lines (length lines) minor → BlockHolds lines (length lines) block → FaultHolds lines (length lines) fault → Answers lines (said_in_all path (record { path = path; minor = minor; block = block; fault = fault }))
answer lines None minor block fault p m b f = NoModule p
answer lines (Some path) minor block (Some fault) p m b f = FirstLine f.i f.line fault (has_module lines path p) f.violates f.sound
answer lines (Some path) minor None None p m b f = record {
  sound = f;
  path = gives_path lines path f p;
  minor = gives_minor lines minor m;
  closed = b;
}
answer lines (Some path) minor (Some at) None p m b f =
    subst (λ (place : ℕ). IsBadGoMod lines (malformed_at place)) b.place (Unclosed b.i b.line (has_module lines path p) f b.says b.unclosed)

pub answers : (text : List ℕ) → Answers (lines_of text) (go_mod text)
answers text =
    let lines : List Line = lines_of text in
    let said : Said = take_all lines nothing_said in
    let h : Holds lines (length lines) said = all_hold lines in
    let here : Answers lines (said_in_all said.path said) = answer lines said.path said.minor said.block said.fault h.path h.minor h.block h.fault in
    subst (λ (s : Said). Answers lines (said_in_all s.path s)) (sym (all_lines 0 (slice_split is_newline text) nothing_said)) here

-- ---- there is one answer

abbrev Order : ℕ → ℕ → Type 0
Order i j = (i < j) ⊎ ((j < i) ⊎ (i ≡ j))

order : (i j : ℕ) → Order i j
order i j = grind arith

within : (lines : List Line) (i : ℕ) (line : Line) {form : Form} → HasForm lines i line form → i < length lines
within lines i line s = slice_get_within lines i line s.stands

-- a module line that breaks no rule is the first
module_first : (lines : List Line) (i j : ℕ) (line other : Line) (word second : List ℕ) → AreSound lines (length lines) → HasForm lines i line (Module word) → HasForm lines j other (Module second) → i < j → ⊥
module_first lines i j line other word second sound s t b =
    sound j other (malformed_at other.at) (within lines j other t) (SecondModule second t (i, line, word, b, s))

go_first : (lines : List Line) (i j : ℕ) (line other : Line) (at minor place version : ℕ) → AreSound lines (length lines) → HasForm lines i line (Go at minor) → HasForm lines j other (Go place version) → i < j → ⊥
go_first lines i j line other at minor place version sound s t b =
    sound j other (malformed_at other.at) (within lines j other t) (SecondGo place version t (i, line, at, minor, b, s))

moved_says : (lines : List Line) (i j : ℕ) (line : Line) (form : Form) → i ≡ j → HasForm lines i line form → HasForm lines j line form
moved_says lines i j line form e s = subst (λ (k : ℕ). HasForm lines k line form) e s

-- forms at one place are the same
form_at : (lines : List Line) (i j : ℕ) (line other : Line) (form second : Form) → i ≡ j → HasForm lines i line form → HasForm lines j other second → form ≡ second
form_at lines i j line other form second e s t = same_form lines j line other form second (moved_says lines i j line form e s) t

one_path : (lines : List Line) (a b : List ℕ) → AreSound lines (length lines) → GivesPath lines a → GivesPath lines b → a ≡ b
one_path lines a b sound g h = by (order g.0 h.0)
  where
    same_path : (u v : List ℕ) → Module u ≡ Module v → module_path u ≡ Some a → module_path v ≡ Some b → a ≡ b
    same_path u v e p q = cc (e, p, q)

    by : Order g.0 h.0 → a ≡ b
    by (inl less) = absurd (module_first lines g.0 h.0 g.1 h.1 g.2 h.2 sound g.3 h.3 less)
    by (inr (inl more)) = absurd (module_first lines h.0 g.0 h.1 g.1 h.2 g.2 sound h.3 g.3 more)
    by (inr (inr e)) = same_path g.2 h.2 (form_at lines g.0 h.0 g.1 h.1 (Module g.2) (Module h.2) e g.3 h.3) g.4 h.4

same_minor : (at minor place version : ℕ) → Go at minor ≡ Go place version → minor ≡ version
same_minor at minor place version e = cc e

one_minor : (lines : List Line) (a b : ℕ) → AreSound lines (length lines) → GivesMinor lines a → GivesMinor lines b → a ≡ b
one_minor lines a b sound (inl g) (inl h) = by (order g.0 h.0)
  where
    by : Order g.0 h.0 → a ≡ b
    by (inl less) = absurd (go_first lines g.0 h.0 g.1 h.1 g.2 a h.2 b sound g.3 h.3 less)
    by (inr (inl more)) = absurd (go_first lines h.0 g.0 h.1 g.1 h.2 b g.2 a sound h.3 g.3 more)
    by (inr (inr e)) = same_minor g.2 a h.2 b (form_at lines g.0 h.0 g.1 h.1 (Go g.2 a) (Go h.2 b) e g.3 h.3)
one_minor lines a b sound (inl g) (inr h) = absurd (h.0 (g.0, g.1, g.2, a, within lines g.0 g.1 g.3, g.3))
one_minor lines a b sound (inr g) (inl h) = absurd (g.0 (h.0, h.1, h.2, b, within lines h.0 h.1 h.3, h.3))
one_minor lines a b sound (inr g) (inr h) = g.1 ∙ sym h.1

same_contents : (a b : Contents) → a.path ≡ b.path → a.minor ≡ b.minor → a ≡ b
same_contents a b p m =
    ap (λ (path : List ℕ). record { path = path; minor = a.minor }) p ∙ ap (λ (minor : ℕ). record { path = b.path; minor = minor }) m

one_contents : (lines : List Line) (a b : Contents) → IsGoMod lines a → IsGoMod lines b → a ≡ b
one_contents lines a b g h =
    same_contents a b (one_path lines a.path b.path g.sound g.path h.path) (one_minor lines a.minor b.minor g.sound g.minor h.minor)

module_in : (lines : List Line) (path : List ℕ) → GivesPath lines path → HasModule lines (length lines)
module_in lines path g = (g.0, g.1, g.2, within lines g.0 g.1 g.3, g.3)

place_within : (lines : List Line) (i : ℕ) (line : Line) {fault : Fault} → Violates lines i line fault → i < length lines
place_within lines i line v = within lines i line (said_by lines i line v).1

in_block : (lines : List Line) (i n : ℕ) (line : Line) → i < n → HasForm lines i line Opening → StaysOpen lines i n → IsInBlock lines n
in_block lines i n line b s o = record { i = i; line = line; stands = s.stands; before = b; opens = s.says; unclosed = o }

never_both : (lines : List Line) (contents : Contents) {fault : Fault} → IsGoMod lines contents → IsBadGoMod lines fault → ⊥
never_both lines contents g (NoModule none) = none (module_in lines contents.path g.path)
never_both lines contents g (FirstLine i line fault m v s) = g.sound i line fault (place_within lines i line v) v
never_both lines contents g (Unclosed i line m s says o) = g.closed (in_block lines i (length lines) line (within lines i line says) says o)

-- ---- there is one fault

-- what a line breaks, in two kinds
abbrev Kind : List Line → ℕ → Line → Fault → Type 0
Kind lines i line fault =
    ((fault ≡ malformed_at line.at) × ((at minor : ℕ) → line_of line.at line.text ≡ Go at minor → HasGo lines i))
    ⊎ ((at : ℕ) × (minor : ℕ) × (line_of line.at line.text ≡ Go at minor) × (HasGo lines i → ⊥) × (fault ≡ record { offset = at; rule = rules.GoVersionNotSupported }))

kind : (lines : List Line) (i : ℕ) (line : Line) {fault : Fault} → Violates lines i line fault → Kind lines i line fault
kind lines i line (NoForm s) = inl (refl, λ at minor e. cc (s.says, e))
kind lines i line (NoPath word s none) = inl (refl, λ at minor e. cc (s.says, e))
kind lines i line (SecondModule word s m) = inl (refl, λ at minor e. cc (s.says, e))
kind lines i line (SecondGo place version s m) = inl (refl, λ at minor e. m)
kind lines i line (TooNew at minor s none newer) = inr (at, minor, s.says, none, refl)

same_place : (at minor place version : ℕ) (form : Form) → form ≡ Go at minor → form ≡ Go place version → at ≡ place
same_place at minor place version form e f = cc (e, f)

one_kind : (lines : List Line) (i : ℕ) (line : Line) (f g : Fault) → Kind lines i line f → Kind lines i line g → f ≡ g
one_kind lines i line f g (inl a) (inl b) = a.0 ∙ sym b.0
one_kind lines i line f g (inl a) (inr b) = absurd (b.3 (a.1 b.0 b.1 b.2))
one_kind lines i line f g (inr a) (inl b) = absurd (a.3 (b.1 a.0 a.1 a.2))
one_kind lines i line f g (inr a) (inr b) =
    a.4 ∙ ap (λ (at : ℕ). record { offset = at; rule = rules.GoVersionNotSupported }) (same_place a.0 a.1 b.0 b.1 (line_of line.at line.text) a.2 b.2) ∙ sym b.4

one_violation : (lines : List Line) (i j : ℕ) (line other : Line) (f g : Fault) → i ≡ j → Violates lines i line f → Violates lines j other g → f ≡ g
one_violation lines i j line other f g e v w =
    let here : Violates lines j line f = subst (λ (k : ℕ). Violates lines k line f) e v in
    let same : line ≡ other = same_line lines j line other (said_by lines j line here).1.stands (said_by lines j other w).1.stands in
    one_kind lines j other f g (kind lines j other (subst (λ (l : Line). Violates lines j l f) same here)) (kind lines j other w)

first_fault : (lines : List Line) (i j : ℕ) (line other : Line) (f g : Fault) → Violates lines i line f → AreSound lines i → Violates lines j other g → AreSound lines j → f ≡ g
first_fault lines i j line other f g v s w t = by (order i j)
  where
    by : Order i j → f ≡ g
    by (inl less) = absurd (t i line f less v)
    by (inr (inl more)) = absurd (s j other g more w)
    by (inr (inr e)) = one_violation lines i j line other f g e v w

last_block : (lines : List Line) (i j : ℕ) (line other : Line) → HasForm lines i line Opening → StaysOpen lines i (length lines) → HasForm lines j other Opening → StaysOpen lines j (length lines) → line.at ≡ other.at
last_block lines i j line other s o t p = by (order i j)
  where
    shorter : (k m : ℕ) → m < length lines → StaysOpen lines k (length lines) → StaysOpen lines k m
    shorter k m b open_to l third x y there = open_to l third x (omega (arith, y, b)) there

    by : Order i j → line.at ≡ other.at
    by (inl less) = absurd (t.outside (in_block lines i j line less s (shorter i j (within lines j other t) o)))
    by (inr (inl more)) = absurd (s.outside (in_block lines j i other more t (shorter j i (within lines i line s) p)))
    by (inr (inr e)) = ap (λ (l : Line). l.at) (same_line lines j line other (moved_says lines i j line Opening e s).stands t.stands)

one_fault : (lines : List Line) {f g : Fault} → IsBadGoMod lines f → IsBadGoMod lines g → f ≡ g
one_fault lines (NoModule none) (NoModule neither) = refl
one_fault lines (NoModule none) (FirstLine i line fault m v s) = absurd (none m)
one_fault lines (NoModule none) (Unclosed i line m s says o) = absurd (none m)
one_fault lines (FirstLine i line fault m v s) (NoModule none) = absurd (none m)
one_fault lines (FirstLine i line f m v s) (FirstLine j other g n w t) = first_fault lines i j line other f g v s w t
one_fault lines (FirstLine i line f m v s) (Unclosed j other n t says o) = absurd (t i line f (place_within lines i line v) v)
one_fault lines (Unclosed i line m s says o) (NoModule none) = absurd (none m)
one_fault lines (Unclosed j other n t says o) (FirstLine i line f m v s) = absurd (t i line f (place_within lines i line v) v)
one_fault lines (Unclosed i line m s says o) (Unclosed j other n t tells p) = ap malformed_at (last_block lines i j line other says o tells p)

one_answer : (lines : List Line) (a b : Result Contents Fault) → Answers lines a → Answers lines b → a ≡ b
one_answer lines (Ok a) (Ok b) g h = ap Ok (one_contents lines a b g h)
one_answer lines (Ok a) (Err f) g h = absurd (never_both lines a g h)
one_answer lines (Err f) (Ok a) g h = absurd (never_both lines a h g)
one_answer lines (Err f) (Err e) g h = ap Err (one_fault lines g h)

-- ---- the law

told : (text : List ℕ) (answer : Result Contents Fault) → go_mod text ≡ answer ↔ Answers (lines_of text) answer
told text answer = (λ e. subst (Answers (lines_of text)) e (answers text), λ a. one_answer (lines_of text) (go_mod text) answer (answers text) a)

pub read_lines : (text : List ℕ) (contents : Contents) → go_mod text ≡ Ok contents ↔ IsGoMod (lines_of text) contents
read_lines text contents = told text (Ok contents)

pub refused_lines : (text : List ℕ) (fault : Fault) → go_mod text ≡ Err fault ↔ IsBadGoMod (lines_of text) fault
refused_lines text fault = told text (Err fault)
