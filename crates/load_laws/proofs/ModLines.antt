-- Lines of go.mod, and how far a reader has come.
use Rattle.std.proofs.Common.{◌≡◌, ◌⊎◌, inl, inr, ◌<◌, ◌≤◌, ℕ, ◌+◌, ◌-◌, zero, suc, drop, length-drop, nat_lt, Bool, true, false, true≢false, if◌then◌else◌, ◌||◌, not, List, [], ◌∷◌, length, slice_get, Option, Some, None, MatchOption, unwrap_or, bytes_eq, codes, refl, sym, ap, subst, ◌∙◌, arith}
use Rattle.std.proofs.lemmas.Slice.Eq.{bytes_eq-Decides}
use Rattle.std.proofs.lemmas.Bool.{ltb-true, ltb-false}
use Rattle.std.proofs.lemmas.Option.{slice_get_within}
use Rattle.go_base.specs.declared.rule.Rule.{Rule}
use Rattle.go_base.specs.declared.rule.Rule.TheVariants as rules
use Rattle.go_sources.specs.Sources.{newest_minor}
use Rattle.go_finding.specs.declared.go_mod.Fault.{Fault}
use Rattle.go_finding.specs.GoMod.{Form, Blank, Module, Go, Opening, Malformed, Said, module_line, go_line, is_passed_over, lone_word, is_closing, line_of, module_path, refuse, with_path, take_line, take_text, take_lines, nothing_said}
use Rattle.go_finding.specs.GoModLines.{Line, lines_from, closes, StaysOpen, IsInBlock, HasForm, HasModule, HasGo, Violates, NoForm, NoPath, SecondModule, SecondGo, TooNew, AreSound}
use Rattle.go_finding.specs.Words.{first_word, after_word, ends_in_opening, without_comment}

-- ---- lines one after another

abbrev pub take_all : List Line → Said → Said
take_all [] said = said
take_all (line ∷ lines) said = take_all lines (take_text line.at line.text said)

pub all_lines : (at : ℕ) (texts : List (List ℕ)) (said : Said) → take_lines at texts said ≡ take_all (lines_from at texts) said
all_lines at [] said = refl
all_lines at (text ∷ texts) said = all_lines (at + length text + 1) texts (take_text at (without_comment text) said)

-- ---- what a reader knows of the lines before line n

-- a block is open that a line at this byte opens
pub record OpenSince (lines : List Line) (n at : ℕ) : Type 0 where
  pub i : ℕ
  pub line : Line
  pub before : i < n
  pub says : HasForm lines i line Opening
  pub unclosed : StaysOpen lines i n
  pub place : line.at ≡ at

-- a module line with this path; it is empty where the word is none
pub record HasPath (lines : List Line) (n : ℕ) (path : List ℕ) : Type 0 where
  pub i : ℕ
  pub line : Line
  pub word : List ℕ
  pub before : i < n
  pub says : HasForm lines i line (Module word)
  pub path_is : unwrap_or (module_path word) [] ≡ path

pub record HasMinor (lines : List Line) (n minor : ℕ) : Type 0 where
  pub i : ℕ
  pub line : Line
  pub at : ℕ
  pub before : i < n
  pub says : HasForm lines i line (Go at minor)

pub record FirstFault (lines : List Line) (n : ℕ) (fault : Fault) : Type 0 where
  pub i : ℕ
  pub line : Line
  pub before : i < n
  pub violates : Violates lines i line fault
  pub sound : AreSound lines i

abbrev pub PathHolds : List Line → ℕ → Option (List ℕ) → Type 0
PathHolds lines n path = MatchOption path (HasModule lines n → ⊥) (HasPath lines n)

abbrev pub MinorHolds : List Line → ℕ → Option ℕ → Type 0
MinorHolds lines n minor = MatchOption minor (HasGo lines n → ⊥) (HasMinor lines n)

abbrev pub BlockHolds : List Line → ℕ → Option ℕ → Type 0
BlockHolds lines n block = MatchOption block (IsInBlock lines n → ⊥) (OpenSince lines n)

abbrev pub FaultHolds : List Line → ℕ → Option Fault → Type 0
FaultHolds lines n fault = MatchOption fault (AreSound lines n) (FirstFault lines n)

pub record Holds (lines : List Line) (n : ℕ) (said : Said) : Type 0 where
  pub path : PathHolds lines n said.path
  pub minor : MinorHolds lines n said.minor
  pub block : BlockHolds lines n said.block
  pub fault : FaultHolds lines n said.fault

-- ---- what a line says

pub same_line : (lines : List Line) (i : ℕ) (a b : Line) → slice_get lines i ≡ Some a → slice_get lines i ≡ Some b → a ≡ b
same_line lines i a b p q = cc (p, q)

pub same_form : (lines : List Line) (i : ℕ) (a b : Line) (f g : Form) → HasForm lines i a f → HasForm lines i b g → f ≡ g
same_form lines i a b f g s t =
    sym s.says ∙ ap (λ (l : Line). line_of l.at l.text) (same_line lines i a b s.stands t.stands) ∙ t.says

-- what a line that breaks a rule says
pub said_by : (lines : List Line) (i : ℕ) (line : Line) {fault : Fault} → Violates lines i line fault → (form : Form) × HasForm lines i line form
said_by lines i line (NoForm s) = (Malformed, s)
said_by lines i line (NoPath word s e) = (Module word, s)
said_by lines i line (SecondModule word s h) = (Module word, s)
said_by lines i line (SecondGo at minor s h) = (Go at minor, s)
said_by lines i line (TooNew at minor s h n) = (Go at minor, s)

-- what a line may say without breaking a rule
abbrev Permits : List Line → ℕ → Form → Type 0
Permits lines i Blank = Unit {0}
Permits lines i (Module word) = (path : List ℕ) × (module_path word ≡ Some path) × (HasModule lines i → ⊥)
Permits lines i (Go at minor) = (HasGo lines i → ⊥) × (newest_minor < minor → ⊥)
Permits lines i Opening = Unit {0}
Permits lines i Malformed = ⊥

no_path : (o : Option (List ℕ)) (path : List ℕ) → o ≡ None → o ≡ Some path → ⊥
no_path o path e f = cc (e, f)

no_fault : (lines : List Line) (i : ℕ) (line other : Line) (form : Form) → HasForm lines i line form → Permits lines i form → {fault : Fault} → Violates lines i other fault → ⊥
no_fault lines i line other form s p (NoForm t) = subst (Permits lines i) (same_form lines i line other form Malformed s t) p
no_fault lines i line other form s p (NoPath word t e) =
    let h : Permits lines i (Module word) = subst (Permits lines i) (same_form lines i line other form (Module word) s t) p in
    no_path (module_path word) h.0 e h.1
no_fault lines i line other form s p (SecondModule word t h) = (subst (Permits lines i) (same_form lines i line other form (Module word) s t) p).2 h
no_fault lines i line other form s p (SecondGo at minor t h) = (subst (Permits lines i) (same_form lines i line other form (Go at minor) s t) p).0 h
no_fault lines i line other form s p (TooNew at minor t h n) = (subst (Permits lines i) (same_form lines i line other form (Go at minor) s t) p).1 n

-- ---- a closing line opens no block

abbrev verb_line : ℕ → List ℕ → List ℕ → List ℕ → Form
verb_line at text rest verb =
    if bytes_eq verb [] then Blank
    else if bytes_eq verb (codes "module") then module_line (lone_word rest)
    else if bytes_eq verb (codes "go") then go_line (at + (length text - length rest)) rest (lone_word rest)
    else if not (is_passed_over verb) then Malformed
    else if ends_in_opening true rest then Opening
    else Blank

closing_word : (b : Bool) (word : List ℕ) → is_closing (if b then None else Some word) ≡ true → word ≡ codes ")"
closing_word true word h = cc h
closing_word false word h = (bytes_eq-Decides word (codes ")")).0 h

closing_verb : (text : List ℕ) → is_closing (lone_word text) ≡ true → first_word text ≡ codes ")"
closing_verb text h = closing_word (bytes_eq (first_word text) [] || not (bytes_eq (first_word (after_word text)) [])) (first_word text) h

closing_form : (at : ℕ) (text : List ℕ) → is_closing (lone_word text) ≡ true → line_of at text ≡ Malformed
closing_form at text h = ap (verb_line at text (after_word text)) (closing_verb text h)

pub closes_none : (line : Line) → line_of line.at line.text ≡ Opening → closes line ≡ true → ⊥
closes_none line o c = clash (line_of line.at line.text) o (closing_form line.at line.text c)
  where
    clash : (form : Form) → form ≡ Opening → form ≡ Malformed → ⊥
    clash form e f = cc (e, f)

-- ---- one more line

pub split : (k n : ℕ) → k < n + 1 → (k < n) ⊎ (k ≡ n)
split k n h = grind arith

later : (k n : ℕ) → k < n → k < n + 1
later k n h = omega (arith, h)

behind : (n : ℕ) → n < n + 1
behind n = omega arith

nothing_between : {P : Type 0} (n k : ℕ) → n < k → k < n + 1 → P
nothing_between n k a b = absurd (omega (arith, a, b))

later_block : (lines : List Line) (n at : ℕ) (line : Line) → slice_get lines n ≡ Some line → closes line ≡ false → OpenSince lines n at → OpenSince lines (n + 1) at
later_block lines n at line here c h = record {
  i = h.i;
  line = h.line;
  before = later h.i n h.before;
  says = h.says;
  unclosed = λ k other a b there. by k other there (split k n b) a;
  place = h.place;
}
  where
    by : (k : ℕ) (other : Line) → slice_get lines k ≡ Some other → (k < n) ⊎ (k ≡ n) → h.i < k → closes other ≡ false
    by k other there (inl b) a = h.unclosed k other a b there
    by k other there (inr e) a =
        let there_too : slice_get lines n ≡ Some other = subst (λ (m : ℕ). slice_get lines m ≡ Some other) e there in
        ap closes (same_line lines n other line there_too here) ∙ c

later_path : (lines : List Line) (n : ℕ) (path : List ℕ) → HasPath lines n path → HasPath lines (n + 1) path
later_path lines n path h = record { i = h.i; line = h.line; word = h.word; before = later h.i n h.before; says = h.says; path_is = h.path_is }

later_minor : (lines : List Line) (n minor : ℕ) → HasMinor lines n minor → HasMinor lines (n + 1) minor
later_minor lines n minor h = record { i = h.i; line = h.line; at = h.at; before = later h.i n h.before; says = h.says }

later_fault : (lines : List Line) (n : ℕ) (fault : Fault) → FirstFault lines n fault → FirstFault lines (n + 1) fault
later_fault lines n fault h = record { i = h.i; line = h.line; before = later h.i n h.before; violates = h.violates; sound = h.sound }

module _ (lines : List Line) (n : ℕ) (line : Line) (here : slice_get lines n ≡ Some line) where
  moved : (k : ℕ) (other : Line) (form : Form) → k ≡ n → HasForm lines k other form → HasForm lines n line form
  moved k other form e s =
      let there : HasForm lines n other form = subst (λ (m : ℕ). HasForm lines m other form) e s in
      subst (λ (l : Line). HasForm lines n l form) (same_line lines n other line there.stands here) there

  keep_path : (path : Option (List ℕ)) → ((word : List ℕ) → HasForm lines n line (Module word) → ⊥) → PathHolds lines n path → PathHolds lines (n + 1) path
  keep_path None quiet h = λ m. by m (split m.0 n m.3)
    where
      by : (m : HasModule lines (n + 1)) → (m.0 < n) ⊎ (m.0 ≡ n) → ⊥
      by m (inl b) = h (m.0, m.1, m.2, b, m.4)
      by m (inr e) = quiet m.2 (moved m.0 m.1 (Module m.2) e m.4)
  keep_path (Some path) quiet h = later_path lines n path h

  keep_minor : (minor : Option ℕ) → ((at minor : ℕ) → HasForm lines n line (Go at minor) → ⊥) → MinorHolds lines n minor → MinorHolds lines (n + 1) minor
  keep_minor None quiet h = λ m. by m (split m.0 n m.4)
    where
      by : (m : HasGo lines (n + 1)) → (m.0 < n) ⊎ (m.0 ≡ n) → ⊥
      by m (inl b) = h (m.0, m.1, m.2, m.3, b, m.5)
      by m (inr e) = quiet m.2 m.3 (moved m.0 m.1 (Go m.2 m.3) e m.5)
  keep_minor (Some minor) quiet h = later_minor lines n minor h

  still_sound : ((other : Line) (fault : Fault) → Violates lines n other fault → ⊥) → AreSound lines n → AreSound lines (n + 1)
  still_sound quiet h i other fault b v = by (split i n b)
    where
      by : (i < n) ⊎ (i ≡ n) → ⊥
      by (inl below) = h i other fault below v
      by (inr e) = quiet other fault (subst (λ (m : ℕ). Violates lines m other fault) e v)

  keep_fault : (fault : Option Fault) → ((other : Line) (fault : Fault) → Violates lines n other fault → ⊥) → FaultHolds lines n fault → FaultHolds lines (n + 1) fault
  keep_fault None quiet h = still_sound quiet h
  keep_fault (Some fault) quiet h = later_fault lines n fault h

  -- no block is open behind a line that opens none, or closes that which was open
  still_closed : (IsInBlock lines n → closes line ≡ true) → (line_of line.at line.text ≡ Opening → ⊥) → IsInBlock lines (n + 1) → ⊥
  still_closed closed plain h = by (split h.i n h.before)
    where
      by : (h.i < n) ⊎ (h.i ≡ n) → ⊥
      by (inl b) =
          let open_before : IsInBlock lines n = record { i = h.i; line = h.line; stands = h.stands; before = b; opens = h.opens; unclosed = λ k other p q there. h.unclosed k other p (later k n q) there } in
          true≢false (sym (closed open_before) ∙ h.unclosed n line b (behind n) here)
      by (inr e) =
          let there : slice_get lines n ≡ Some h.line = subst (λ (m : ℕ). slice_get lines m ≡ Some h.line) e h.stands in
          plain (ap (λ (l : Line). line_of l.at l.text) (same_line lines n line h.line here there) ∙ h.opens)

  -- ---- a line in a block

  in_block : (path : Option (List ℕ)) (minor : Option ℕ) (at : ℕ) (fault : Option Fault) → Holds lines n (record { path = path; minor = minor; block = Some at; fault = fault }) → Holds lines (n + 1) (take_text line.at line.text (record { path = path; minor = minor; block = Some at; fault = fault }))
  in_block path minor at fault h = by (closes line) refl
    where
      inside : IsInBlock lines n
      inside = record { i = h.block.i; line = h.block.line; stands = h.block.says.stands; before = h.block.before; opens = h.block.says.says; unclosed = h.block.unclosed }

      silent : (other : Line) (found : Fault) → Violates lines n other found → ⊥
      silent other found v = (said_by lines n other v).1.outside inside

      by : (b : Bool) → closes line ≡ b → Holds lines (n + 1) (if b then record { path = path; minor = minor; block = None; fault = fault } else record { path = path; minor = minor; block = Some at; fault = fault })
      by true c = record {
        path = keep_path path (λ word s. s.outside inside) h.path;
        minor = keep_minor minor (λ word version s. s.outside inside) h.minor;
        block = still_closed (λ open_before. c) (λ o. closes_none line o c);
        fault = keep_fault fault silent h.fault;
      }
      by false c = record {
        path = keep_path path (λ word s. s.outside inside) h.path;
        minor = keep_minor minor (λ word version s. s.outside inside) h.minor;
        block = later_block lines n at line here c h.block;
        fault = keep_fault fault silent h.fault;
      }

  -- ---- a line outside blocks

  refused : (path : Option (List ℕ)) (minor block : Option ℕ) (fault : Option Fault) (offset : ℕ) (rule : Rule) → Violates lines n line (record { offset = offset; rule = rule }) → PathHolds lines (n + 1) path → MinorHolds lines (n + 1) minor → BlockHolds lines (n + 1) block → FaultHolds lines n fault → Holds lines (n + 1) (refuse offset rule (record { path = path; minor = minor; block = block; fault = fault }))
  refused path minor block None offset rule v p m b h = record {
    path = p;
    minor = m;
    block = b;
    fault = record { i = n; line = line; before = behind n; violates = v; sound = h };
  }
  refused path minor block (Some fault) offset rule v p m b h = record { path = p; minor = m; block = b; fault = later_fault lines n fault h }

  -- ---- a line outside blocks, with what it says

  silent_line : (form : Form) → HasForm lines n line form → Permits lines n form → (other : Line) (fault : Fault) → Violates lines n other fault → ⊥
  silent_line form s p other fault v = no_fault lines n line other form s p v

  no_module : (form : Form) → HasForm lines n line form → ((word : List ℕ) → form ≡ Module word → ⊥) → (word : List ℕ) → HasForm lines n line (Module word) → ⊥
  no_module form s other word t = other word (same_form lines n line line form (Module word) s t)

  no_go : (form : Form) → HasForm lines n line form → ((at minor : ℕ) → form ≡ Go at minor → ⊥) → (at minor : ℕ) → HasForm lines n line (Go at minor) → ⊥
  no_go form s other at minor t = other at minor (same_form lines n line line form (Go at minor) s t)

  not_open : (form : Form) → HasForm lines n line form → (form ≡ Opening → ⊥) → IsInBlock lines (n + 1) → ⊥
  not_open form s other = still_closed (λ b. absurd (s.outside b)) (λ o. other (sym s.says ∙ o))

  blank_line : (path : Option (List ℕ)) (minor : Option ℕ) (fault : Option Fault) → HasForm lines n line Blank → Holds lines n (record { path = path; minor = minor; block = None; fault = fault }) → Holds lines (n + 1) (record { path = path; minor = minor; block = None; fault = fault })
  blank_line path minor fault s h = record {
    path = keep_path path (no_module Blank s (λ word e. cc e)) h.path;
    minor = keep_minor minor (no_go Blank s (λ at version e. cc e)) h.minor;
    block = not_open Blank s (λ e. cc e);
    fault = keep_fault fault (silent_line Blank s tt) h.fault;
  }

  opening_line : (path : Option (List ℕ)) (minor : Option ℕ) (fault : Option Fault) → HasForm lines n line Opening → Holds lines n (record { path = path; minor = minor; block = None; fault = fault }) → Holds lines (n + 1) (record { path = path; minor = minor; block = Some line.at; fault = fault })
  opening_line path minor fault s h = record {
    path = keep_path path (no_module Opening s (λ word e. cc e)) h.path;
    minor = keep_minor minor (no_go Opening s (λ at version e. cc e)) h.minor;
    block = record { i = n; line = line; before = behind n; says = s; unclosed = λ k other a b there. nothing_between n k a b; place = refl };
    fault = keep_fault fault (silent_line Opening s tt) h.fault;
  }

  malformed_line : (path : Option (List ℕ)) (minor : Option ℕ) (fault : Option Fault) → HasForm lines n line Malformed → Holds lines n (record { path = path; minor = minor; block = None; fault = fault }) → Holds lines (n + 1) (refuse line.at rules.MalformedGoMod (record { path = path; minor = minor; block = None; fault = fault }))
  malformed_line path minor fault s h =
      refused path minor None fault line.at rules.MalformedGoMod (NoForm s) (keep_path path (no_module Malformed s (λ word e. cc e)) h.path) (keep_minor minor (no_go Malformed s (λ at version e. cc e)) h.minor) (not_open Malformed s (λ e. cc e)) h.fault

  module_at : (word path : List ℕ) → HasForm lines n line (Module word) → unwrap_or (module_path word) [] ≡ path → HasPath lines (n + 1) path
  module_at word path s e = record { i = n; line = line; word = word; before = behind n; says = s; path_is = e }

  first_module : (minor : Option ℕ) (fault : Option Fault) (word : List ℕ) (o : Option (List ℕ)) → module_path word ≡ o → HasForm lines n line (Module word) → Holds lines n (record { path = None; minor = minor; block = None; fault = fault }) → Holds lines (n + 1) (with_path line.at o (record { path = None; minor = minor; block = None; fault = fault }))
  first_module minor fault word None e s h =
      refused (Some []) minor None fault line.at rules.MalformedGoMod (NoPath word s e) (module_at word [] s (ap (λ (o : Option (List ℕ)). unwrap_or o []) e)) (keep_minor minor (no_go (Module word) s (λ at version f. cc f)) h.minor) (not_open (Module word) s (λ f. cc f)) h.fault
  first_module minor fault word (Some path) e s h = record {
    path = module_at word path s (ap (λ (o : Option (List ℕ)). unwrap_or o []) e);
    minor = keep_minor minor (no_go (Module word) s (λ at version f. cc f)) h.minor;
    block = not_open (Module word) s (λ f. cc f);
    fault = keep_fault fault (silent_line (Module word) s (path, e, h.path)) h.fault;
  }

  module_line_holds : (path : Option (List ℕ)) (minor : Option ℕ) (fault : Option Fault) (word : List ℕ) → HasForm lines n line (Module word) → Holds lines n (record { path = path; minor = minor; block = None; fault = fault }) → Holds lines (n + 1) (take_line line.at (Module word) (record { path = path; minor = minor; block = None; fault = fault }))
  module_line_holds None minor fault word s h = first_module minor fault word (module_path word) refl s h
  module_line_holds (Some path) minor fault word s h =
      refused (Some path) minor None fault line.at rules.MalformedGoMod (SecondModule word s (h.path.i, h.path.line, h.path.word, h.path.before, h.path.says)) (later_path lines n path h.path) (keep_minor minor (no_go (Module word) s (λ at version f. cc f)) h.minor) (not_open (Module word) s (λ f. cc f)) h.fault

  go_at : (at minor : ℕ) → HasForm lines n line (Go at minor) → HasMinor lines (n + 1) minor
  go_at at minor s = record { i = n; line = line; at = at; before = behind n; says = s }

  first_go : (path : Option (List ℕ)) (fault : Option Fault) (at minor : ℕ) (b : Bool) → nat_lt newest_minor minor ≡ b → HasForm lines n line (Go at minor) → Holds lines n (record { path = path; minor = None; block = None; fault = fault }) → Holds lines (n + 1) (if b then refuse at rules.GoVersionNotSupported (record { path = path; minor = Some minor; block = None; fault = fault }) else record { path = path; minor = Some minor; block = None; fault = fault })
  first_go path fault at minor true e s h =
      refused path (Some minor) None fault at rules.GoVersionNotSupported (TooNew at minor s h.minor (ltb-true newest_minor minor e)) (keep_path path (no_module (Go at minor) s (λ word f. cc f)) h.path) (go_at at minor s) (not_open (Go at minor) s (λ f. cc f)) h.fault
  first_go path fault at minor false e s h = record {
    path = keep_path path (no_module (Go at minor) s (λ word f. cc f)) h.path;
    minor = go_at at minor s;
    block = not_open (Go at minor) s (λ f. cc f);
    fault = keep_fault fault (silent_line (Go at minor) s (h.minor, λ newer. absurd (omega (arith, newer, ltb-false newest_minor minor e)))) h.fault;
  }

  go_line_holds : (path : Option (List ℕ)) (minor : Option ℕ) (fault : Option Fault) (at version : ℕ) → HasForm lines n line (Go at version) → Holds lines n (record { path = path; minor = minor; block = None; fault = fault }) → Holds lines (n + 1) (take_line line.at (Go at version) (record { path = path; minor = minor; block = None; fault = fault }))
  go_line_holds path None fault at version s h = first_go path fault at version (nat_lt newest_minor version) refl s h
  go_line_holds path (Some minor) fault at version s h =
      refused path (Some minor) None fault line.at rules.MalformedGoMod (SecondGo at version s (h.minor.i, h.minor.line, h.minor.at, minor, h.minor.before, h.minor.says)) (keep_path path (no_module (Go at version) s (λ word f. cc f)) h.path) (later_minor lines n minor h.minor) (not_open (Go at version) s (λ f. cc f)) h.fault

  line_holds : (path : Option (List ℕ)) (minor : Option ℕ) (fault : Option Fault) (form : Form) → HasForm lines n line form → Holds lines n (record { path = path; minor = minor; block = None; fault = fault }) → Holds lines (n + 1) (take_line line.at form (record { path = path; minor = minor; block = None; fault = fault }))
  line_holds path minor fault Blank s h = blank_line path minor fault s h
  line_holds path minor fault (Module word) s h = module_line_holds path minor fault word s h
  line_holds path minor fault (Go at version) s h = go_line_holds path minor fault at version s h
  line_holds path minor fault Opening s h = opening_line path minor fault s h
  line_holds path minor fault Malformed s h = malformed_line path minor fault s h

  step : (path : Option (List ℕ)) (minor block : Option ℕ) (fault : Option Fault) → Holds lines n (record { path = path; minor = minor; block = block; fault = fault }) → Holds lines (n + 1) (take_text line.at line.text (record { path = path; minor = minor; block = block; fault = fault }))
  step path minor None fault h = line_holds path minor fault (line_of line.at line.text) (record { stands = here; outside = h.block; says = refl }) h
  step path minor (Some at) fault h = in_block path minor at fault h

-- ---- all lines

-- what is left behind n lines begins with line n
first_left : (lines rest : List Line) (n : ℕ) (line : Line) → drop n lines ≡ line ∷ rest → slice_get lines n ≡ Some line
first_left [] rest zero line e = cc e
first_left [] rest (suc n) line e = cc e
first_left (first ∷ lines) rest zero line e = cc e
first_left (first ∷ lines) rest (suc n) line e = first_left lines rest n line e

next_left : (lines rest : List Line) (n : ℕ) (line : Line) → drop n lines ≡ line ∷ rest → drop (n + 1) lines ≡ rest
next_left [] rest zero line e = cc e
next_left [] rest (suc n) line e = cc e
next_left (first ∷ lines) rest zero line e = cc e
next_left (first ∷ lines) rest (suc n) line e =
    let more : suc n + 1 ≡ suc (n + 1) = omega arith in
    ap (λ (k : ℕ). drop k (first ∷ lines)) more ∙ next_left lines rest n line e

none_left : (lines : List Line) (n : ℕ) → drop n lines ≡ [] → n ≤ length lines → n ≡ length lines
none_left lines n e within = omega (arith, length-drop n lines, ap length e, within)

walk : (lines rest : List Line) (n : ℕ) (said : Said) → drop n lines ≡ rest → n ≤ length lines → Holds lines n said → Holds lines (length lines) (take_all rest said)
walk lines [] n said e within h = subst (λ (k : ℕ). Holds lines k said) (none_left lines n e within) h
walk lines (line ∷ rest) n said e within h =
    let here : slice_get lines n ≡ Some line = first_left lines rest n line e in
    walk lines rest (n + 1) (take_text line.at line.text said) (next_left lines rest n line e) (omega (arith, slice_get_within lines n line here)) (step lines n line here said.path said.minor said.block said.fault h)

at_start : (lines : List Line) → Holds lines 0 nothing_said
at_start lines = record {
  path = λ m. absurd (omega (arith, m.3));
  minor = λ m. absurd (omega (arith, m.4));
  block = λ b. absurd (omega (arith, b.before));
  fault = λ i line fault b v. absurd (omega (arith, b));
}

pub all_hold : (lines : List Line) → Holds lines (length lines) (take_all lines nothing_said)
all_hold lines = walk lines lines 0 nothing_said refl (omega arith) (at_start lines)
