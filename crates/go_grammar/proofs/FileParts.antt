-- The parts of a file are its package clause, its imports and its declarations.
use Rattle.std.proofs.Common.{◌≡◌, ℕ, zero, suc, Bool, true, false, cond, List, [], ◌∷◌, ◌++◌, take, ◌⊎◌, inl, inr, refl, sym, ap, ◌∙◌, append_assoc}
use Rattle.std.proofs.lemmas.List.{append-nil}
use Rattle.go_ast.specs.declared.token.Kind.{Kind}
use Rattle.go_ast.specs.declared.token.Kind.TheVariants as kinds
use Rattle.go_ast.specs.declared.token.Token.{Token}
use Rattle.go_grammar.specs.Forests as forms
use Rattle.go_grammar.specs.Forests.{Forest, empty, leaf, node, append, yield}
use Rattle.go_grammar.specs.Shapes as shapes
use Rattle.go_grammar.specs.Shapes.{Shape, Fits, IsNext, is, ◌⨟◌}
use Rattle.go_grammar.specs.Grammar as sorts
use Rattle.go_grammar.specs.Grammar.{Sort, grammar, is_semicolon}
use Rattle.go_grammar.specs.Files.{IsFileText, depth_after, ends_part, last_part, parts_from, parts_of, join}
use Rattle.go_grammar.proofs.Forests.{yield-append}
use Rattle.go_grammar.proofs.SameKinds.{is_same}
use Rattle.go_grammar.proofs.Again.{regroup}
use Rattle.go_grammar.proofs.Cuts.{is_flat, cut_behind}

-- ---- of what stands behind a tree the first token alone counts

abbrev pub SameNext : List Token → List Token → Type 0
SameNext rest other = (test : Kind → Bool) → IsNext test rest → IsNext test other

same_behind : (front rest other : List Token) → SameNext rest other → SameNext (front ++ rest) (front ++ other)
same_behind [] rest other h = h
same_behind (token ∷ front) rest other h = λ test k. k

pub refits : {shape : Shape Sort} {tree : Forest} {rest : List Token} → Fits grammar shape tree rest → (other : List Token) → SameNext rest other → Fits grammar shape tree other
refits shapes.nothing other h = shapes.nothing
refits (shapes.sign e) other h = shapes.sign e
refits (shapes.before {test = test} e) other h = shapes.before (h test e)
refits (shapes.part x) other h = shapes.part (refits x other h)
refits (shapes.below x) other h = shapes.below (refits x other h)
refits (shapes.both {right = right} {rest = rest} x y) other h = shapes.both (refits x (yield right ++ other) (same_behind (yield right) rest other h)) (refits y other h)
refits (shapes.first x) other h = shapes.first (refits x other h)
refits (shapes.second x) other h = shapes.second (refits x other h)
refits shapes.done other h = shapes.done
refits (shapes.more {right = right} {rest = rest} x y) other h = shapes.more (refits x (yield right ++ other) (same_behind (yield right) rest other h)) (refits y other h)

-- ---- parts

-- an import or a declaration, and a semicolon
pub record IsLine (sort : Sort) (part : List Token) : Type 0 where
  pub tree : Forest
  pub semicolon : Token
  pub ends : is_semicolon semicolon.kind ≡ true
  pub fine : Fits grammar (shapes.Part sort) tree (semicolon ∷ [])
  pub text : part ≡ yield tree ++ semicolon ∷ []

pub record IsClause (part : List Token) : Type 0 where
  pub word : Token
  pub name : Token
  pub semicolon : Token
  pub is_word : is word.kind kinds.PackageWord ≡ true
  pub is_name : is name.kind kinds.Name ≡ true
  pub ends : is_semicolon semicolon.kind ≡ true
  pub text : part ≡ word ∷ name ∷ semicolon ∷ []

-- it is one part, whatever follows it
abbrev pub IsCut : List Token → Type 0
IsCut part = (rest : List Token) → parts_of (part ++ rest) ≡ part ∷ parts_of rest

pub line_cut : (sort : Sort) → is_flat sort ≡ true → {part : List Token} → IsLine sort part → IsCut part
line_cut sort f {part} line rest =
    let all : part ++ rest ≡ yield line.tree ++ (line.semicolon ∷ rest) = ap (λ (ws : List Token). ws ++ rest) line.text ∙ append_assoc (yield line.tree) (line.semicolon ∷ []) rest in
    ap parts_of all ∙ cut_behind sort line.tree line.semicolon (line.semicolon ∷ []) rest f line.fine line.ends ∙ ap (λ (p : List Token). p ∷ parts_of rest) (sym line.text)

clause_step : (word name semicolon : Token) (rest : List Token) → word.kind ≡ kinds.PackageWord → name.kind ≡ kinds.Name → is_semicolon semicolon.kind ≡ true → parts_of (word ∷ name ∷ semicolon ∷ rest) ≡ (word ∷ name ∷ semicolon ∷ []) ∷ parts_of rest
clause_step word name semicolon rest w n s = rw (w, n, s) refl

pub clause_cut : {part : List Token} → IsClause part → IsCut part
clause_cut {part} c rest =
    ap (λ (ws : List Token). parts_of (ws ++ rest)) c.text ∙ clause_step c.word c.name c.semicolon rest (is_same c.word.kind kinds.PackageWord c.is_word) (is_same c.name.kind kinds.Name c.is_name) c.ends
    ∙ ap (λ (p : List Token). p ∷ parts_of rest) (sym c.text)

-- such parts one behind the other
abbrev pub AreCut : List (List Token) → Type 0
AreCut parts = (rest : List Token) → parts_of (join parts ++ rest) ≡ parts ++ parts_of rest

pub join_more : (parts : List (List Token)) (part : List Token) → join (parts ++ part ∷ []) ≡ join parts ++ part
join_more [] part = append-nil part
join_more (p ∷ parts) part = ap (λ (ws : List Token). p ++ ws) (join_more parts part) ∙ sym (append_assoc p (join parts) part)

cut_first : (part : List Token) (parts : List (List Token)) → IsCut part → AreCut parts → AreCut (part ∷ parts)
cut_first part parts h k rest = ap parts_of (append_assoc part (join parts) rest) ∙ h (join parts ++ rest) ∙ ap (λ (ps : List (List Token)). part ∷ ps) (k rest)

-- ---- lists of parts

abbrev pub AreLines : Sort → List (List Token) → Type 0
AreLines sort [] = Unit {0}
AreLines sort (part ∷ parts) = IsLine sort part × AreLines sort parts

-- imports, and then declarations
abbrev pub AreParts : List (List Token) → Type 0
AreParts [] = Unit {0}
AreParts (part ∷ parts) = (IsLine sorts.Import part × AreParts parts) ⊎ (IsLine sorts.PackageDecl part × AreLines sorts.PackageDecl parts)

pub lines_more : (sort : Sort) (parts : List (List Token)) (part : List Token) → AreLines sort parts → IsLine sort part → AreLines sort (parts ++ part ∷ [])
lines_more sort [] part h k = (k, tt)
lines_more sort (p ∷ parts) part h k = (h.0, lines_more sort parts part h.1 k)

pub decls_parts : (parts : List (List Token)) → AreLines sorts.PackageDecl parts → AreParts parts
decls_parts [] h = tt
decls_parts (p ∷ parts) h = inr (h.0, h.1)

pub imports_parts : (imports decls : List (List Token)) → AreLines sorts.Import imports → AreLines sorts.PackageDecl decls → AreParts (imports ++ decls)
imports_parts [] decls h k = decls_parts decls k
imports_parts (p ∷ imports) decls h k = inl (h.0, imports_parts imports decls h.1 k)

pub parts_more : (parts : List (List Token)) (part : List Token) → AreParts parts → IsLine sorts.PackageDecl part → AreParts (parts ++ part ∷ [])
parts_more [] part h k = inr (k, tt)
parts_more (p ∷ parts) part (inl h) k = inl (h.0, parts_more parts part h.1 k)
parts_more (p ∷ parts) part (inr h) k = inr (h.0, lines_more sorts.PackageDecl parts part h.1 k)

lines_cut : (sort : Sort) → is_flat sort ≡ true → (parts : List (List Token)) → AreLines sort parts → AreCut parts
lines_cut sort f [] h = λ rest. refl
lines_cut sort f (part ∷ parts) h = cut_first part parts (line_cut sort f h.0) (lines_cut sort f parts h.1)

parts_cut : (parts : List (List Token)) → AreParts parts → AreCut parts
parts_cut [] h = λ rest. refl
parts_cut (part ∷ parts) (inl h) = cut_first part parts (line_cut sorts.Import refl h.0) (parts_cut parts h.1)
parts_cut (part ∷ parts) (inr h) = cut_first part parts (line_cut sorts.PackageDecl refl h.0) (lines_cut sorts.PackageDecl refl parts h.1)

pub all_cut : (clause : List Token) (parts : List (List Token)) → IsClause clause → AreParts parts → AreCut (clause ∷ parts)
all_cut clause parts c h = cut_first clause parts (clause_cut c) (parts_cut parts h)

lines_taken : (sort : Sort) (n : ℕ) (parts : List (List Token)) → AreLines sort parts → AreLines sort (take n parts)
lines_taken sort zero parts h = tt
lines_taken sort (suc n) [] h = tt
lines_taken sort (suc n) (p ∷ parts) h = (h.0, lines_taken sort n parts h.1)

pub parts_taken : (n : ℕ) (parts : List (List Token)) → AreParts parts → AreParts (take n parts)
parts_taken zero parts h = tt
parts_taken (suc n) [] h = tt
parts_taken (suc n) (p ∷ parts) (inl h) = inl (h.0, parts_taken n parts h.1)
parts_taken (suc n) (p ∷ parts) (inr h) = inr (h.0, lines_taken sorts.PackageDecl n parts h.1)

lines_last : (sort : Sort) (parts : List (List Token)) (part : List Token) → AreLines sort (parts ++ part ∷ []) → IsLine sort part
lines_last sort [] part h = h.0
lines_last sort (p ∷ parts) part h = lines_last sort parts part h.1

-- the last part is a declaration, or an import behind imports alone
pub parts_last : (parts : List (List Token)) (part : List Token) → AreParts (parts ++ part ∷ []) → (AreLines sorts.Import parts × IsLine sorts.Import part) ⊎ IsLine sorts.PackageDecl part
parts_last [] part (inl h) = inl (tt, h.0)
parts_last [] part (inr h) = inr h.0
parts_last (p ∷ parts) part (inl h) = go (parts_last parts part h.1)
  where
    go : (AreLines sorts.Import parts × IsLine sorts.Import part) ⊎ IsLine sorts.PackageDecl part → (AreLines sorts.Import (p ∷ parts) × IsLine sorts.Import part) ⊎ IsLine sorts.PackageDecl part
    go (inl k) = inl ((h.0, k.0), k.1)
    go (inr k) = inr k
parts_last (p ∷ parts) part (inr h) = inr (lines_last sorts.PackageDecl parts part h.1)

-- ---- the parts of a file

pub line_of : {sort : Sort} {tree : Forest} {rest : List Token} → Fits grammar (shapes.Part sort ⨟ sorts.semicolon) tree rest → IsLine sort (yield tree)
line_of (shapes.both {left = left} {rest = rest} x (shapes.sign {token = token} e)) =
    record { tree = left; semicolon = token; ends = e; fine = refits x (token ∷ []) (λ test h. h); text = yield-append left (leaf token empty) }

-- the parts of lines, one behind the other
record LinesOf (sort : Sort) (tree : Forest) : Type 0 where
  pub parts : List (List Token)
  pub lines : AreLines sort parts
  pub cut : (rest : List Token) → parts_of (yield tree ++ rest) ≡ parts ++ parts_of rest

lines_of : (sort : Sort) → is_flat sort ≡ true → {tree : Forest} {rest : List Token} → Fits grammar (shapes.Many (shapes.Part sort ⨟ sorts.semicolon)) tree rest → LinesOf sort tree
lines_of sort f shapes.done = record { parts = []; lines = tt; cut = λ rest. refl }
lines_of sort f (shapes.more {left = left} {right = right} x y) =
    let one = line_of x in
    let others = lines_of sort f y in
    record {
      parts = yield left ∷ others.parts;
      lines = (one, others.lines);
      cut = λ rest. ap parts_of (regroup left right rest) ∙ line_cut sort f one (yield right ++ rest) ∙ ap (λ (ps : List (List Token)). yield left ∷ ps) (others.cut rest);
    }

pub record FileParts (text : List Token) : Type 0 where
  pub clause : List Token
  pub others : List (List Token)
  pub is_clause : IsClause clause
  pub are_parts : AreParts others
  pub all : parts_of text ≡ clause ∷ others

pub parts_of_file : {tree : Forest} {rest : List Token} → Fits grammar (shapes.Part sorts.File) tree rest → FileParts (yield tree)
parts_of_file (shapes.part (shapes.below (shapes.both (shapes.sign {token = word} w) (shapes.both (shapes.sign {token = name} n) (shapes.both (shapes.sign {token = semicolon} s) (shapes.both {left = imports} {right = decls} x y)))))) =
    let i = lines_of sorts.Import refl x in
    let d = lines_of sorts.PackageDecl refl y in
    let clause : IsClause (word ∷ name ∷ semicolon ∷ []) = record { word = word; name = name; semicolon = semicolon; is_word = w; is_name = n; ends = s; text = refl } in
    let behind : parts_of (yield (append imports decls) ++ []) ≡ i.parts ++ d.parts = ap parts_of (regroup imports decls []) ∙ i.cut (yield decls ++ []) ∙ ap (λ (ps : List (List Token)). i.parts ++ ps) (d.cut [] ∙ append-nil d.parts) in
    record {
      clause = word ∷ name ∷ semicolon ∷ [];
      others = i.parts ++ d.parts;
      is_clause = clause;
      are_parts = imports_parts i.parts d.parts i.lines d.lines;
      all = clause_cut clause (yield (append imports decls) ++ []) ∙ ap (λ (ps : List (List Token)). (word ∷ name ∷ semicolon ∷ []) ∷ ps) behind;
    }

-- ---- such parts are a file

pub line_fits : {sort : Sort} {part : List Token} (line : IsLine sort part) (rest : List Token) → Fits grammar (shapes.Part sort ⨟ sorts.semicolon) (append line.tree (leaf line.semicolon empty)) rest
line_fits line rest = shapes.both (refits line.fine (line.semicolon ∷ rest) (λ test h. h)) (shapes.sign line.ends)

record LinesTree (sort : Sort) (parts : List (List Token)) : Type 0 where
  pub tree : Forest
  pub fine : (rest : List Token) → Fits grammar (shapes.Many (shapes.Part sort ⨟ sorts.semicolon)) tree rest
  pub text : join parts ≡ yield tree

line_text : {sort : Sort} {part : List Token} (line : IsLine sort part) (parts : List (List Token)) (tree : Forest) (texts : List Token) → join parts ≡ yield tree ++ texts → part ++ join parts ≡ yield (append (append line.tree (leaf line.semicolon empty)) tree) ++ texts
line_text {sort} {part} line parts tree texts e =
    let one : part ≡ yield (append line.tree (leaf line.semicolon empty)) = line.text ∙ sym (yield-append line.tree (leaf line.semicolon empty)) in
    ap (λ (ws : List Token). ws ++ join parts) one ∙ ap (λ (ws : List Token). yield (append line.tree (leaf line.semicolon empty)) ++ ws) e ∙ sym (regroup (append line.tree (leaf line.semicolon empty)) tree texts)

lines_tree : (sort : Sort) (parts : List (List Token)) → AreLines sort parts → LinesTree sort parts
lines_tree sort [] h = record { tree = empty; fine = λ rest. shapes.done; text = refl }
lines_tree sort (part ∷ parts) h =
    let others = lines_tree sort parts h.1 in
    record {
      tree = append (append h.0.tree (leaf h.0.semicolon empty)) others.tree;
      fine = λ rest. shapes.more (line_fits h.0 (yield others.tree ++ rest)) (others.fine rest);
      text = line_text h.0 parts others.tree [] (others.text ∙ sym (append-nil (yield others.tree))) ∙ append-nil (yield (append (append h.0.tree (leaf h.0.semicolon empty)) others.tree));
    }

record PartsTree (parts : List (List Token)) : Type 0 where
  pub imports : Forest
  pub decls : Forest
  pub imports_fine : (rest : List Token) → Fits grammar (shapes.Many (shapes.Part sorts.Import ⨟ sorts.semicolon)) imports rest
  pub decls_fine : (rest : List Token) → Fits grammar (shapes.Many (shapes.Part sorts.PackageDecl ⨟ sorts.semicolon)) decls rest
  pub text : join parts ≡ yield imports ++ yield decls

parts_tree : (parts : List (List Token)) → AreParts parts → PartsTree parts
parts_tree [] h = record { imports = empty; decls = empty; imports_fine = λ rest. shapes.done; decls_fine = λ rest. shapes.done; text = refl }
parts_tree (part ∷ parts) (inl h) =
    let others = parts_tree parts h.1 in
    record {
      imports = append (append h.0.tree (leaf h.0.semicolon empty)) others.imports;
      decls = others.decls;
      imports_fine = λ rest. shapes.more (line_fits h.0 (yield others.imports ++ rest)) (others.imports_fine rest);
      decls_fine = others.decls_fine;
      text = line_text h.0 parts others.imports (yield others.decls) others.text;
    }
parts_tree (part ∷ parts) (inr h) =
    let all = lines_tree sorts.PackageDecl (part ∷ parts) (h.0, h.1) in
    record { imports = empty; decls = all.tree; imports_fine = λ rest. shapes.done; decls_fine = all.fine; text = all.text }

pub file_of_parts : (clause : List Token) (parts : List (List Token)) → IsClause clause → AreParts parts → IsFileText (clause ++ join parts)
file_of_parts clause parts c h =
    let trees = parts_tree parts h in
    let below = leaf c.word (leaf c.name (leaf c.semicolon (append trees.imports trees.decls))) in
    let written : clause ++ join parts ≡ yield below = ap (λ (ws : List Token). ws ++ join parts) c.text ∙ ap (λ (ws : List Token). c.word ∷ c.name ∷ c.semicolon ∷ ws) (trees.text ∙ sym (yield-append trees.imports trees.decls)) in
    record {
      tree = node forms.FileForm below empty;
      fine = record {
        well_formed = shapes.part (shapes.below (shapes.both (shapes.sign c.is_word) (shapes.both (shapes.sign c.is_name) (shapes.both (shapes.sign c.ends) (shapes.both (trees.imports_fine (yield trees.decls ++ [])) (trees.decls_fine []))))));
        written = written ∙ sym (append-nil (yield below));
      };
    }

-- ---- the first part of tokens

pub record FirstPart (front tokens bad : List Token) (later : List (List Token)) (depth : ℕ) : Type 0 where
  pub taken : List Token
  pub behind : List Token
  pub text : tokens ≡ taken ++ behind
  pub all : bad ≡ front ++ taken
  pub alone : parts_from depth front taken ≡ bad ∷ []

heads_same : {A : Type 0} (x y : A) (xs ys : List A) → x ∷ xs ≡ y ∷ ys → x ≡ y
heads_same x y xs ys e = cc

no_parts : {A : Type 0} {B : Type 0} (x : A) (xs : List A) → [] ≡ x ∷ xs → B
no_parts x xs e = absurd cc

pub first_part : (depth : ℕ) (front tokens bad : List Token) (later : List (List Token)) → parts_from depth front tokens ≡ bad ∷ later → FirstPart front tokens bad later depth
first_part depth [] [] bad later e = no_parts bad later e
first_part depth (token ∷ front) [] bad later e =
    let same : token ∷ front ≡ bad = heads_same (token ∷ front) bad [] later e in
    record { taken = []; behind = []; text = refl; all = sym same ∙ sym (append-nil (token ∷ front)); alone = ap (λ (p : List Token). p ∷ []) same }
first_part depth front (token ∷ tokens) bad later e = go (ends_part depth token.kind) refl e (first_part (depth_after depth token.kind) (front ++ token ∷ []) tokens bad later)
  where
    go : (b : Bool) → ends_part depth token.kind ≡ b → cond b ((front ++ token ∷ []) ∷ parts_from 0 [] tokens) (parts_from (depth_after depth token.kind) (front ++ token ∷ []) tokens) ≡ bad ∷ later
        → (parts_from (depth_after depth token.kind) (front ++ token ∷ []) tokens ≡ bad ∷ later → FirstPart (front ++ token ∷ []) tokens bad later (depth_after depth token.kind)) → FirstPart front (token ∷ tokens) bad later depth
    go true h e others =
        let same : front ++ token ∷ [] ≡ bad = heads_same (front ++ token ∷ []) bad (parts_from 0 [] tokens) later e in
        record { taken = token ∷ []; behind = tokens; text = refl; all = sym same; alone = rw h (ap (λ (p : List Token). p ∷ []) same) }
    go false h e others =
        let more = others e in
        record { taken = token ∷ more.taken; behind = more.behind; text = ap (λ (ws : List Token). token ∷ ws) more.text; all = more.all ∙ append_assoc front (token ∷ []) more.taken; alone = rw h more.alone }

-- tokens have a first part
pub record HasPart (tokens : List Token) : Type 0 where
  pub bad : List Token
  pub later : List (List Token)
  pub all : parts_of tokens ≡ bad ∷ later

pub has_part : (depth : ℕ) (front tokens : List Token) (token : Token) → (bad : List Token) × (later : List (List Token)) × (parts_from depth (front ++ token ∷ []) tokens ≡ bad ∷ later)
has_part depth front [] token = go front
  where
    go : (front : List Token) → (bad : List Token) × (later : List (List Token)) × (last_part (front ++ token ∷ []) ≡ bad ∷ later)
    go [] = (token ∷ [], [], refl)
    go (t ∷ front) = (t ∷ (front ++ token ∷ []), [], refl)
has_part depth front (other ∷ tokens) token = go (ends_part depth other.kind) refl (has_part (depth_after depth other.kind) (front ++ token ∷ []) tokens other)
  where
    go : (b : Bool) → ends_part depth other.kind ≡ b → (bad : List Token) × (later : List (List Token)) × (parts_from (depth_after depth other.kind) ((front ++ token ∷ []) ++ other ∷ []) tokens ≡ bad ∷ later)
        → (bad : List Token) × (later : List (List Token)) × (parts_from depth (front ++ token ∷ []) (other ∷ tokens) ≡ bad ∷ later)
    go true h more = ((front ++ token ∷ []) ++ other ∷ [], parts_from 0 [] tokens, rw h refl)
    go false h more = (more.0, more.1, rw h more.2)

pub first_of_all : (token : Token) (tokens : List Token) → HasPart (token ∷ tokens)
first_of_all token tokens = go (ends_part 0 token.kind) refl
  where
    go : (b : Bool) → ends_part 0 token.kind ≡ b → HasPart (token ∷ tokens)
    go true h = record { bad = token ∷ []; later = parts_of tokens; all = rw h refl }
    go false h =
        let more = has_part (depth_after 0 token.kind) [] tokens token in
        record { bad = more.0; later = more.1; all = rw h more.2 }
