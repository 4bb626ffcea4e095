-- Where reading part after part stops, the part there is the first bad one.
use Rattle.std.proofs.Common.{◌≡◌, ℕ, zero, suc, ◌+◌, ◌≤◌, ◌-◌, Bool, true, false, cond, List, [], ◌∷◌, ◌++◌, length, take, Option, Some, None, Result, Ok, Err, ◌⊎◌, inl, inr, refl, sym, ap, ◌∙◌, subst, append_assoc, arith}
use Rattle.std.proofs.lemmas.List.{append-nil, length-append}
use Rattle.go_ast.specs.declared.token.Kind.{Kind}
use Rattle.go_ast.specs.declared.token.Kind.TheVariants as kinds
use Rattle.go_ast.specs.declared.token.Token.{Token}
use Rattle.go_grammar.specs.Forests as forms
use Rattle.go_grammar.specs.Forests.{Forest, empty, leaf, node, append, yield}
use Rattle.go_grammar.specs.Shapes as shapes
use Rattle.go_grammar.specs.Shapes.{Shape, Fits, is, ◌⨟◌}
use Rattle.go_grammar.specs.Grammar as sorts
use Rattle.go_grammar.specs.Grammar.{Sort, grammar, is_semicolon}
use Rattle.go_grammar.specs.Files.{IsTreeOf, IsFileText, IsFirstBad, IsUnexpected, parts_of, join}
use Rattle.go_grammar.specs.Reading.{run, Part, Then}
use Rattle.go_grammar.specs.Tests as plans
use Rattle.go_grammar.specs.Tests.{begins, begins_semicolon}
use Rattle.go_grammar.specs.TypeReading.{Parsers}
use Rattle.go_grammar.specs.StmtReading.{at_file, is_more}
use Rattle.go_grammar.specs.PartReading.{package_clause_plan, part_in, or_stop, and_then, parts_in, file_by_parts}
use Rattle.go_grammar.proofs.Outcome.{Yields}
use Rattle.go_grammar.proofs.Forests.{yield-append, append-assoc, append-empty}
use Rattle.go_grammar.proofs.Takes.{Took, run_takes}
use Rattle.go_grammar.proofs.TypeTakes.{Got}
use Rattle.go_grammar.proofs.SameKinds.{true_not_false}
use Rattle.go_grammar.proofs.Again.{regroup}
use Rattle.go_grammar.proofs.Fronts.{IsFirst, Front, none, some, front, heads, is_empty}
use Rattle.go_grammar.proofs.FileParts.{IsLine, IsClause, AreLines, AreParts, refits, line_of, all_cut, join_more, imports_parts, parts_taken, parts_last, parts_of_file, file_of_parts, first_part, first_of_all}

-- ---- what reading ends with

-- a tree with P, or a number of tokens left with Q
record Ends {A : Type 0} (r : Result A ℕ) (P : A → Type 0) (Q : ℕ → Type 0) : Type 0 where
  pub ok : (x : A) → r ≡ Ok x → P x
  pub err : (left : ℕ) → r ≡ Err left → Q left

ok_is : {A : Type 0} (x y : A) → (the : Result A ℕ) → the ≡ Ok x → the ≡ Ok y → x ≡ y
ok_is x y r e f = cc

err_is : {A : Type 0} (x y : ℕ) → (the : Result A ℕ) → the ≡ Err x → the ≡ Err y → x ≡ y
err_is x y r e f = cc

ends_ok : {A : Type 0} {P : A → Type 0} {Q : ℕ → Type 0} {x : A} → P x → Ends (Ok x) P Q
ends_ok {A} {P} {Q} {x} h = record { ok = λ y e. subst P (ok_is x y (Ok x) refl e) h; err = λ left e. absurd cc }

ends_err : {A : Type 0} {P : A → Type 0} {Q : ℕ → Type 0} {left : ℕ} → Q left → Ends (Err left) P Q
ends_err {A} {P} {Q} {left} h = record { ok = λ y e. absurd cc; err = λ k e. subst Q (err_is {A = A} left k (Err left) refl e) h }

ends_as : {A : Type 0} {r : Result A ℕ} {P P' : A → Type 0} {Q Q' : ℕ → Type 0} → Ends r P Q → ((x : A) → P x → P' x) → ((left : ℕ) → Q left → Q' left) → Ends r P' Q'
ends_as h k l = record { ok = λ x e. k x (h.ok x e); err = λ left e. l left (h.err left e) }

ends_stop : {A B : Type 0} {P : B → Type 0} {Q : ℕ → Type 0} (o : Option A) (left : ℕ) (f : A → Result B ℕ) → ((x : A) → o ≡ Some x → Ends (f x) P Q) → (o ≡ None → Q left) → Ends (or_stop o left f) P Q
ends_stop None left f h k = ends_err (k refl)
ends_stop (Some x) left f h k = h x refl

ends_then : {A B : Type 0} {P : A → Type 0} {P' : B → Type 0} {Q Q' : ℕ → Type 0} (r : Result A ℕ) (f : A → Result B ℕ) → Ends r P Q → ((x : A) → P x → Ends (f x) P' Q') → ((left : ℕ) → Q left → Q' left) → Ends (and_then r f) P' Q'
ends_then (Ok x) f h k l = k x (h.ok x refl)
ends_then (Err left) f h k l = ends_err (l left (h.err left refl))

ends_if : {A : Type 0} {P : A → Type 0} {Q : ℕ → Type 0} (b : Bool) {x y : Result A ℕ} → (b ≡ true → Ends x P Q) → (b ≡ false → Ends y P Q) → Ends (cond b x y) P Q
ends_if true h k = h refl
ends_if false h k = k refl

-- ---- with what parts begin

first_of_line : (sort : Sort) → is_empty sort ≡ false → {part : List Token} → IsLine sort part → IsFirst (heads sort) part
first_of_line sort f {part} line = go (front line.fine)
  where
    go : Front (shapes.Part sort) (yield line.tree) → IsFirst (heads sort) part
    go (none e h) = true_not_false h f
    go (some g) = record { token = g.token; others = g.others ++ line.semicolon ∷ []; all = line.text ∙ ap (λ (ws : List Token). ws ++ line.semicolon ∷ []) g.all; kind = g.kind }

begins_import : (part behind : List Token) → IsLine sorts.Import part → begins kinds.ImportWord (part ++ behind) ≡ true
begins_import part behind line =
    let f = first_of_line sorts.Import refl line in
    ap (λ (ws : List Token). begins kinds.ImportWord (ws ++ behind)) f.all ∙ f.kind

no_import_kind : (kind : Kind) → heads sorts.PackageDecl kind ≡ true → is kind kinds.ImportWord ≡ false
no_import_kind kinds.ImportWord h = absurd cc
no_import_kind _ h = refl

begins_no_import : (part behind : List Token) → IsLine sorts.PackageDecl part → begins kinds.ImportWord (part ++ behind) ≡ false
begins_no_import part behind line =
    let f = first_of_line sorts.PackageDecl refl line in
    ap (λ (ws : List Token). begins kinds.ImportWord (ws ++ behind)) f.all ∙ no_import_kind f.token.kind f.kind

not_both : (part : List Token) → IsLine sorts.Import part → IsLine sorts.PackageDecl part → ⊥
not_both part x y = true_not_false (begins_import part [] x) (begins_no_import part [] y)

-- behind a declaration there is no import
lines_at : (sort : Sort) (parts : List (List Token)) (part : List Token) (others : List (List Token)) → AreLines sort (parts ++ part ∷ others) → IsLine sort part
lines_at sort [] part others h = h.0
lines_at sort (p ∷ parts) part others h = lines_at sort parts part others h.1

-- ---- the first bad part

some_none : {A : Type 0} {o : Option A} {x : A} → o ≡ Some x → o ≡ None → ⊥
some_none e f = cc

tail_is : (a b : List Token) (x y : List (List Token)) → a ∷ x ≡ b ∷ y → x ≡ y
tail_is a b x y e = cc

head_is : (a b : List Token) (x y : List (List Token)) → a ∷ x ≡ b ∷ y → a ≡ b
head_is a b x y e = cc

left_out : (n k m : ℕ) → n ≡ k + m → n - m ≡ k
left_out n k m e = omega arith

-- one part alone, with what stood behind it
record OnePart (rest : List Token) : Type 0 where
  pub bad : List Token
  pub later : List (List Token)
  pub behind : List Token
  pub all : parts_of rest ≡ bad ∷ later
  pub text : rest ≡ bad ++ behind
  pub alone : parts_of bad ≡ bad ∷ []

one_part : (token : Token) (tokens : List Token) → OnePart (token ∷ tokens)
one_part token tokens =
    let h = first_of_all token tokens in
    let f = first_part 0 [] (token ∷ tokens) h.bad h.later h.all in
    record { bad = h.bad; later = h.later; behind = f.behind; all = h.all; text = f.text ∙ ap (λ (ws : List Token). ws ++ f.behind) (sym f.all); alone = ap parts_of f.all ∙ f.alone }

-- what is left, with its first part, is no file
first_bad : (clause : List Token) (parts : List (List Token)) (tokens : List Token) (token : Token) (others : List Token) → IsClause clause → AreParts parts → tokens ≡ join (clause ∷ parts) ++ (token ∷ others)
    → ((part behind : List Token) → token ∷ others ≡ part ++ behind → AreLines sorts.Import parts → IsLine sorts.Import part → ⊥)
    → ((part behind : List Token) → token ∷ others ≡ part ++ behind → IsLine sorts.PackageDecl part → ⊥)
    → IsFirstBad tokens (length tokens - length (token ∷ others))
first_bad clause parts tokens token others c h text import decl =
    let one = one_part token others in
    let cut = all_cut clause parts c h in
    record {
      good = clause ∷ parts;
      bad = one.bad;
      later = one.later;
      parts = ap parts_of text ∙ cut (token ∷ others) ∙ ap (λ (ps : List (List Token)). (clause ∷ parts) ++ ps) one.all;
      at = left_out (length tokens) (length (join (clause ∷ parts))) (length (token ∷ others)) (ap length text ∙ length-append (join (clause ∷ parts)) (token ∷ others));
      before = λ n k. file_of_parts clause (take n parts) c (parts_taken n parts h);
      not = λ file. none_there one cut file;
    }
  where
    by : (one : OnePart (token ∷ others)) → (AreLines sorts.Import parts × IsLine sorts.Import one.bad) ⊎ IsLine sorts.PackageDecl one.bad → ⊥
    by one (inl k) = import one.bad one.behind one.text k.0 k.1
    by one (inr k) = decl one.bad one.behind one.text k

    none_there : (one : OnePart (token ∷ others)) → ((rest : List Token) → parts_of (join (clause ∷ parts) ++ rest) ≡ (clause ∷ parts) ++ parts_of rest) → IsFileText (join ((clause ∷ parts) ++ (one.bad ∷ []))) → ⊥
    none_there one cut file =
        let whole = join ((clause ∷ parts) ++ (one.bad ∷ [])) in
        let split : parts_of whole ≡ clause ∷ (parts ++ (one.bad ∷ [])) = ap parts_of (join_more (clause ∷ parts) one.bad) ∙ cut one.bad ∙ ap (λ (ps : List (List Token)). (clause ∷ parts) ++ ps) one.alone in
        let f = parts_of_file file.fine.well_formed in
        let same : f.clause ∷ f.others ≡ clause ∷ (parts ++ (one.bad ∷ [])) = sym f.all ∙ ap parts_of (sym file.fine.written) ∙ split in
        by one (parts_last parts one.bad (subst AreParts (tail_is f.clause clause f.others (parts ++ (one.bad ∷ [])) same) f.are_parts))

-- ---- reading lines

-- what is read again: a tree that fits before a semicolon
abbrev pub ReadAgain : Parsers → ℕ → Sort → Type 0
ReadAgain p depth sort = (tree : Forest) (rest : List Token) → Fits grammar (shapes.Part sort) tree rest → begins_semicolon rest ≡ true → length (yield tree) ≤ depth → at_file p sort (yield tree ++ rest) ≡ Some (tree, rest)

-- lines that were read, behind a front, and where they ended
record LinesRead (sort : Sort) (test : List Token → Bool) (n : ℕ) (front : Forest) (tokens : List Token) (x : Forest × List Token) : Type 0 where
  pub trees : Forest
  pub parts : List (List Token)
  pub lines : AreLines sort parts
  pub joined : join parts ≡ yield trees
  pub all : x.0 ≡ append front trees
  pub fine : Fits grammar (shapes.Many (shapes.Part sort ⨟ sorts.semicolon)) trees x.1
  pub text : tokens ≡ yield trees ++ x.1
  pub over : length tokens ≤ n → test x.1 ≡ false

module _ (p : Parsers) (at_takes : (sort : Sort) (tokens : List Token) → Yields (at_file p sort tokens) (Got sort tokens)) where
  -- lines that were read, and what is no line
  record LinesStuck (sort : Sort) (test : List Token → Bool) (tokens : List Token) (left : ℕ) : Type 0 where
    pub parts : List (List Token)
    pub rest : List Token
    pub lines : AreLines sort parts
    pub text : tokens ≡ join parts ++ rest
    pub count : left ≡ length rest
    pub goes_on : test rest ≡ true
    pub stuck : part_in p sort rest ≡ None

  part_takes : (sort : Sort) (tokens : List Token) (x : Forest × List Token) → part_in p sort tokens ≡ Some x → Took grammar (shapes.Part sort ⨟ sorts.semicolon) tokens x
  part_takes sort tokens x e = (run_takes grammar (at_file p) at_takes (Then (Part sort) plans.semicolon) tokens).given x e

  lines_none : (sort : Sort) (test : List Token → Bool) (n : ℕ) (front : Forest) (tokens : List Token) → (length tokens ≤ n → test tokens ≡ false) → LinesRead sort test n front tokens (front, tokens)
  lines_none sort test n front tokens over = record { trees = empty; parts = []; lines = tt; joined = refl; all = sym (append-empty front); fine = shapes.done; text = refl; over = over }

  read_more : (sort : Sort) (test : List Token → Bool) (n : ℕ) (front : Forest) (tokens : List Token) (x y : Forest × List Token) → Took grammar (shapes.Part sort ⨟ sorts.semicolon) tokens x → LinesRead sort test n (append front x.0) x.1 y → LinesRead sort test (suc n) front tokens y
  read_more sort test n front tokens x y took h =
      let line = line_of took.fine in
      record {
        trees = append x.0 h.trees;
        parts = yield x.0 ∷ h.parts;
        lines = (line, h.lines);
        joined = ap (λ (ws : List Token). yield x.0 ++ ws) h.joined ∙ sym (yield-append x.0 h.trees);
        all = h.all ∙ append-assoc front x.0 h.trees;
        fine = shapes.more (subst (λ (rest : List Token). Fits grammar (shapes.Part sort ⨟ sorts.semicolon) x.0 rest) h.text took.fine) h.fine;
        text = took.text ∙ ap (λ (ws : List Token). yield x.0 ++ ws) h.text ∙ sym (regroup x.0 h.trees y.1);
        over = λ le. h.over (omega (arith, ap length line.text, length-append (yield line.tree) (line.semicolon ∷ []), ap length took.text, length-append (yield x.0) x.1));
      }

  stuck_more : (sort : Sort) (test : List Token → Bool) (tokens : List Token) (x : Forest × List Token) (left : ℕ) → Took grammar (shapes.Part sort ⨟ sorts.semicolon) tokens x → LinesStuck sort test x.1 left → LinesStuck sort test tokens left
  stuck_more sort test tokens x left took h = record {
    parts = yield x.0 ∷ h.parts;
    rest = h.rest;
    lines = (line_of took.fine, h.lines);
    text = took.text ∙ ap (λ (ws : List Token). yield x.0 ++ ws) h.text ∙ sym (append_assoc (yield x.0) (join h.parts) h.rest);
    count = h.count;
    goes_on = h.goes_on;
    stuck = h.stuck;
  }

  short : (test : List Token → Bool) → test [] ≡ false → (tokens : List Token) → length tokens ≤ 0 → test tokens ≡ false
  short test f [] le = f
  short test f (token ∷ tokens) le = absurd (omega arith)

  lines_end : (sort : Sort) (test : List Token → Bool) → test [] ≡ false → (n : ℕ) (front : Forest) (tokens : List Token) → Ends (parts_in test (part_in p sort) n front tokens) (LinesRead sort test n front tokens) (LinesStuck sort test tokens)
  lines_end sort test f zero front tokens = ends_ok (lines_none sort test zero front tokens (short test f tokens))
  lines_end sort test f (suc n) front tokens =
      ends_if (test tokens)
      (λ t. ends_stop (part_in p sort tokens) (length tokens) (λ x. parts_in test (part_in p sort) n (append front x.0) x.1)
      (λ x e. let took = part_takes sort tokens x e in ends_as (lines_end sort test f n (append front x.0) x.1) (λ y h. read_more sort test n front tokens x y took h) (λ left h. stuck_more sort test tokens x left took h))
      (λ e. record { parts = []; rest = tokens; lines = tt; text = refl; count = refl; goes_on = t; stuck = e }))
      (λ t. ends_ok (lines_none sort test (suc n) front tokens (λ le. t)))

  -- ---- reading a file

  data FileStuck (tokens : List Token) (left : ℕ) : Type 0 where
    at_clause : left ≡ length tokens → run (at_file p) package_clause_plan tokens ≡ None → FileStuck tokens left
    at_import : (clause rest : List Token) → IsClause clause → tokens ≡ clause ++ rest → LinesStuck sorts.Import (begins kinds.ImportWord) rest left → FileStuck tokens left
    at_decl : (clause : List Token) (imports : List (List Token)) (rest : List Token) → IsClause clause → AreLines sorts.Import imports → tokens ≡ clause ++ (join imports ++ rest) → begins kinds.ImportWord rest ≡ false
        → LinesStuck sorts.PackageDecl is_more rest left → FileStuck tokens left

  abbrev clause_shape : Shape Sort
  clause_shape = shapes.word kinds.PackageWord ⨟ shapes.word kinds.Name ⨟ sorts.semicolon

  clause_of : {tree : Forest} {rest : List Token} → Fits grammar clause_shape tree rest → IsClause (yield tree)
  clause_of (shapes.both (shapes.sign {token = word} w) (shapes.both (shapes.sign {token = name} n) (shapes.sign {token = semicolon} s))) =
      record { word = word; name = name; semicolon = semicolon; is_word = w; is_name = n; ends = s; text = refl }

  file_fits : {clause imports decls : Forest} {rest : List Token} → Fits grammar clause_shape clause rest → Fits grammar (shapes.Many (shapes.Part sorts.Import ⨟ sorts.semicolon)) imports (yield decls ++ [])
      → Fits grammar (shapes.Many (shapes.Part sorts.PackageDecl ⨟ sorts.semicolon)) decls [] → Fits grammar (shapes.Part sorts.File) (node forms.FileForm (append clause (append imports decls)) empty) []
  file_fits (shapes.both (shapes.sign w) (shapes.both (shapes.sign n) (shapes.sign s))) i d = shapes.part (shapes.below (shapes.both (shapes.sign w) (shapes.both (shapes.sign n) (shapes.both (shapes.sign s) (shapes.both i d)))))

  no_more : (tokens : List Token) → is_more tokens ≡ false → tokens ≡ []
  no_more [] h = refl
  no_more (token ∷ tokens) h = absurd cc

  file_read : (n : ℕ) (tokens : List Token) (clause imports decls : Forest × List Token) → length tokens ≤ n → Took grammar clause_shape tokens clause → LinesRead sorts.Import (begins kinds.ImportWord) n empty clause.1 imports → LinesRead sorts.PackageDecl is_more n empty imports.1 decls
      → IsTreeOf tokens (node forms.FileForm (append clause.0 (append imports.0 decls.0)) empty)
  file_read n tokens clause imports decls le c i d =
      subst (λ (t : Forest). IsTreeOf tokens (node forms.FileForm (append clause.0 t) empty)) (sym same) (record {
        well_formed = file_fits c.fine (subst (λ (rest : List Token). Fits grammar (shapes.Many (shapes.Part sorts.Import ⨟ sorts.semicolon)) i.trees rest) behind i.fine) (subst (λ (rest : List Token). Fits grammar (shapes.Many (shapes.Part sorts.PackageDecl ⨟ sorts.semicolon)) d.trees rest) over d.fine);
        written = c.text ∙ ap (λ (ws : List Token). yield clause.0 ++ ws) (i.text ∙ ap (λ (ws : List Token). yield i.trees ++ ws) behind ∙ sym (regroup i.trees d.trees [])) ∙ sym (regroup clause.0 (append i.trees d.trees) []);
      })
    where
      same : append imports.0 decls.0 ≡ append i.trees d.trees
      same = ap (λ (t : Forest). append t decls.0) i.all ∙ ap (append i.trees) d.all

      over : decls.1 ≡ []
      over = no_more decls.1 (d.over (omega (arith, ap length c.text, length-append (yield clause.0) clause.1, ap length i.text, length-append (yield i.trees) imports.1)))

      behind : imports.1 ≡ yield d.trees ++ []
      behind = d.text ∙ ap (λ (ws : List Token). yield d.trees ++ ws) over

  file_ends : (tokens : List Token) → Ends (file_by_parts p tokens) (IsTreeOf tokens) (FileStuck tokens)
  file_ends tokens =
      ends_stop (run (at_file p) package_clause_plan tokens) (length tokens) _
      (λ clause e. let c = (run_takes grammar (at_file p) at_takes package_clause_plan tokens).given clause e in
      ends_then (parts_in (begins kinds.ImportWord) (part_in p sorts.Import) (length tokens) empty clause.1) _ (lines_end sorts.Import (begins kinds.ImportWord) refl (length tokens) empty clause.1)
      (λ imports i. ends_then (parts_in is_more (part_in p sorts.PackageDecl) (length tokens) empty imports.1) _ (lines_end sorts.PackageDecl is_more refl (length tokens) empty imports.1)
      (λ decls d. ends_ok (file_read (length tokens) tokens clause imports decls (omega arith) c i d))
      (λ left s. at_decl (yield clause.0) i.parts imports.1 (clause_of c.fine) i.lines (c.text ∙ ap (λ (ws : List Token). yield clause.0 ++ ws) (i.text ∙ ap (λ (ws : List Token). ws ++ imports.1) (sym i.joined))) (i.over (omega (arith, ap length c.text, length-append (yield clause.0) clause.1))) s))
      (λ left s. at_import (yield clause.0) clause.1 (clause_of c.fine) c.text s))
      (λ e. at_clause refl e)

  pub by_parts_sound : (tokens : List Token) (tree : Forest) → file_by_parts p tokens ≡ Ok tree → IsTreeOf tokens tree
  by_parts_sound tokens tree e = (file_ends tokens).ok tree e

  -- ---- where it stops

  stuck_line : (depth : ℕ) (sort : Sort) → ReadAgain p depth sort → (rest part behind : List Token) → length rest ≤ depth → part_in p sort rest ≡ None → rest ≡ part ++ behind → IsLine sort part → ⊥
  stuck_line depth sort again rest part behind le stuck text line =
      let whole : rest ≡ yield line.tree ++ (line.semicolon ∷ behind) = text ∙ ap (λ (ws : List Token). ws ++ behind) line.text ∙ append_assoc (yield line.tree) (line.semicolon ∷ []) behind in
      let read = again line.tree (line.semicolon ∷ behind) (refits line.fine (line.semicolon ∷ behind) (λ test h. h)) line.ends (omega (arith, ap length whole, length-append (yield line.tree) (line.semicolon ∷ behind))) in
      let all : part_in p sort (yield line.tree ++ (line.semicolon ∷ behind)) ≡ Some (append line.tree (leaf line.semicolon empty), behind) = rw (read, line.ends) refl in
      some_none (ap (part_in p sort) whole ∙ all) stuck

  clause_read : (word name semicolon : Token) (rest : List Token) → is word.kind kinds.PackageWord ≡ true → is name.kind kinds.Name ≡ true → is_semicolon semicolon.kind ≡ true
      → run (at_file p) package_clause_plan (word ∷ name ∷ semicolon ∷ rest) ≡ Some (leaf word (leaf name (leaf semicolon empty)), rest)
  clause_read word name semicolon rest w n s = rw (w, n, s) refl

  stuck_clause : (tokens part behind : List Token) → run (at_file p) package_clause_plan tokens ≡ None → tokens ≡ part ++ behind → IsClause part → ⊥
  stuck_clause tokens part behind stuck text c =
      some_none (ap (run (at_file p) package_clause_plan) (text ∙ ap (λ (ws : List Token). ws ++ behind) c.text) ∙ clause_read c.word c.name c.semicolon behind c.is_word c.is_name c.ends) stuck

  -- behind imports that ended, or declarations, there is no import
  no_import_there : (imports decls : List (List Token)) (middle rest part behind : List Token) → AreLines sorts.PackageDecl decls → begins kinds.ImportWord middle ≡ false → middle ≡ join decls ++ rest → rest ≡ part ++ behind
      → AreLines sorts.Import (imports ++ decls) → IsLine sorts.Import part → ⊥
  no_import_there imports [] middle rest part behind d f text e i line = true_not_false (ap (begins kinds.ImportWord) (text ∙ e) ∙ begins_import part behind line) f
  no_import_there imports (decl ∷ decls) middle rest part behind d f text e i line = not_both decl (lines_at sorts.Import imports decl decls i) d.0

  no_decl_there : (rest part behind : List Token) → begins kinds.ImportWord rest ≡ true → rest ≡ part ++ behind → IsLine sorts.PackageDecl part → ⊥
  no_decl_there rest part behind t e line = true_not_false t (ap (begins kinds.ImportWord) e ∙ begins_no_import part behind line)

  first_bad_at : (clause : List Token) (parts : List (List Token)) (tokens rest : List Token) (left : ℕ) → IsClause clause → AreParts parts → tokens ≡ join (clause ∷ parts) ++ rest → left ≡ length rest → (rest ≡ [] → ⊥)
      → ((part behind : List Token) → rest ≡ part ++ behind → AreLines sorts.Import parts → IsLine sorts.Import part → ⊥)
      → ((part behind : List Token) → rest ≡ part ++ behind → IsLine sorts.PackageDecl part → ⊥)
      → IsFirstBad tokens (length tokens - left)
  first_bad_at clause parts tokens [] left c h text e filled import decl = absurd (filled refl)
  first_bad_at clause parts tokens (token ∷ others) left c h text e filled import decl = subst (λ (n : ℕ). IsFirstBad tokens (length tokens - n)) (sym e) (first_bad clause parts tokens token others c h text import decl)

  no_such : {A : Type 0} (good : List (List Token)) (bad : List Token) (later : List (List Token)) → [] ≡ good ++ (bad ∷ later) → A
  no_such [] bad later e = absurd cc
  no_such (part ∷ good) bad later e = absurd cc

  unexpected_of : (tokens : List Token) (index : ℕ) → IsFirstBad tokens index → IsUnexpected tokens index
  unexpected_of [] index h = no_such h.good h.bad h.later h.parts
  unexpected_of (token ∷ tokens) index h = h

  bad_clause : (token : Token) (others : List Token) (left : ℕ) → left ≡ length (token ∷ others) → run (at_file p) package_clause_plan (token ∷ others) ≡ None → IsFirstBad (token ∷ others) (length (token ∷ others) - left)
  bad_clause token others left e stuck =
      let one = one_part token others in
      record {
        good = [];
        bad = one.bad;
        later = one.later;
        parts = one.all;
        at = omega (arith, e);
        before = λ n le. absurd (omega (arith, le));
        not = λ file. none_there one file;
      }
    where
      none_there : (one : OnePart (token ∷ others)) → IsFileText (join (one.bad ∷ [])) → ⊥
      none_there one file =
          let f = parts_of_file file.fine.well_formed in
          let same : f.clause ∷ f.others ≡ one.bad ∷ [] = sym f.all ∙ ap parts_of (sym file.fine.written ∙ append-nil one.bad) ∙ one.alone in
          stuck_clause (token ∷ others) f.clause one.behind stuck (one.text ∙ ap (λ (ws : List Token). ws ++ one.behind) (sym (head_is f.clause one.bad f.others [] same))) f.is_clause

  clause_unexpected : (tokens : List Token) (left : ℕ) → left ≡ length tokens → run (at_file p) package_clause_plan tokens ≡ None → IsUnexpected tokens (length tokens - left)
  clause_unexpected [] left e stuck = omega arith
  clause_unexpected (token ∷ others) left e stuck = bad_clause token others left e stuck

  module _ (depth : ℕ) (import_again : ReadAgain p depth sorts.Import) (decl_again : ReadAgain p depth sorts.PackageDecl) where
    stuck_unexpected : (tokens : List Token) (left : ℕ) → length tokens ≤ depth → FileStuck tokens left → IsUnexpected tokens (length tokens - left)
    stuck_unexpected tokens left le (at_clause e stuck) = clause_unexpected tokens left e stuck
    stuck_unexpected tokens left le (at_import clause rest c text s) =
        let whole : tokens ≡ join (clause ∷ s.parts) ++ s.rest = text ∙ ap (λ (ws : List Token). clause ++ ws) s.text ∙ sym (append_assoc clause (join s.parts) s.rest) in
        let long : length s.rest ≤ depth = omega (arith, ap length whole, length-append (join (clause ∷ s.parts)) s.rest) in
        unexpected_of tokens (length tokens - left) (first_bad_at clause s.parts tokens s.rest left c (imports_are s.parts s.lines) whole s.count (λ e. nothing_there (begins kinds.ImportWord) s.rest refl e s.goes_on)
        (λ part behind e i line. stuck_line depth sorts.Import import_again s.rest part behind long s.stuck e line)
        (λ part behind e line. no_decl_there s.rest part behind s.goes_on e line))
      where
        nothing_there : (test : List Token → Bool) (rest : List Token) → test [] ≡ false → rest ≡ [] → test rest ≡ true → ⊥
        nothing_there test rest f e t = true_not_false t (ap test e ∙ f)

        imports_are : (parts : List (List Token)) → AreLines sorts.Import parts → AreParts parts
        imports_are parts h = subst AreParts (append-nil parts) (imports_parts parts [] h tt)
    stuck_unexpected tokens left le (at_decl clause imports rest c i text f s) =
        let whole : tokens ≡ join (clause ∷ (imports ++ s.parts)) ++ s.rest = text ∙ ap (λ (ws : List Token). clause ++ (join imports ++ ws)) s.text ∙ sym (joined clause imports s.parts s.rest) in
        let long : length s.rest ≤ depth = omega (arith, ap length whole, length-append (join (clause ∷ (imports ++ s.parts))) s.rest) in
        unexpected_of tokens (length tokens - left) (first_bad_at clause (imports ++ s.parts) tokens s.rest left c (imports_parts imports s.parts i s.lines) whole s.count (λ e. nothing_there s.rest e s.goes_on)
        (λ part behind e k line. no_import_there imports s.parts rest s.rest part behind s.lines f s.text e k line)
        (λ part behind e line. stuck_line depth sorts.PackageDecl decl_again s.rest part behind long s.stuck e line))
      where
        nothing_there : (rest : List Token) → rest ≡ [] → is_more rest ≡ true → ⊥
        nothing_there rest e t = true_not_false t (ap is_more e)

        join_both : (a b : List (List Token)) → join (a ++ b) ≡ join a ++ join b
        join_both [] b = refl
        join_both (part ∷ a) b = ap (λ (ws : List Token). part ++ ws) (join_both a b) ∙ sym (append_assoc part (join a) (join b))

        joined : (clause : List Token) (a b : List (List Token)) (rest : List Token) → join (clause ∷ (a ++ b)) ++ rest ≡ clause ++ (join a ++ (join b ++ rest))
        joined clause a b rest = append_assoc clause (join (a ++ b)) rest ∙ ap (λ (ws : List Token). clause ++ ws) (ap (λ (ws : List Token). ws ++ rest) (join_both a b) ∙ append_assoc (join a) (join b) rest)

    -- the part where it stops is the first bad one
    pub by_parts_unexpected : (tokens : List Token) (left : ℕ) → length tokens ≤ depth → file_by_parts p tokens ≡ Err left → IsUnexpected tokens (length tokens - left)
    by_parts_unexpected tokens left le e = stuck_unexpected tokens left le ((file_ends tokens).err left e)
