-- What a sink holds while lines are written piece by piece.
use Rattle.std.proofs.Common.{◌≡◌, ◌<◌, ◌≤◌, ◌+◌, add-one, arith, length, get_or, Result, Ok, Err, ℕ, List, [], ◌∷◌, ◌++◌, map, take, drop, zero, suc, refl, sym, ap, subst, ◌∙◌, append_assoc, Option, Some, None}
use Rattle.std.specs.Io.KnownBytes.{Appends}
use Rattle.std.specs.Prelude.{OnErr, OnOk}
use Rattle.std.proofs.lemmas.List.{append-nil}
use Rattle.go_base.specs.Devices.{AppendsFront}
use Rattle.go_sources.specs.declared.sources.SourceFile.{SourceFile}
use Rattle.cg_listing.specs.Listing.{Line, line_text, lines_text}
use Rattle.cg_listing.specs.Rows.{Flushes}

pub appends_both : (a b c : Option (List ℕ)) (x y : List ℕ) → Appends a b x → Appends b c y → Appends a c (x ++ y)
appends_both None b c x y h k = tt
appends_both (Some a) None c x y h k = absurd h
appends_both (Some a) (Some b) None x y h k = absurd k
appends_both (Some a) (Some b) (Some c) x y h k = k ∙ (ap (λ l. l ++ y) h ∙ append_assoc a x y)

pub appends_none : (a : Option (List ℕ)) → Appends a a []
appends_none None = tt
appends_none (Some a) = sym (append-nil a)

-- one line more was put, and a front of what waits was written
pub flushes_more : (a b c : Option (List ℕ)) (waited text line grown rest : List ℕ) → Flushes a b waited text → grown ≡ text ++ line → Flushes b c grown rest → Flushes a c (waited ++ line) rest
flushes_more a b c waited text line grown rest f e g = record {
  front = f.front ++ g.front;
  parts = ap (λ l. l ++ line) f.parts ∙ (append_assoc f.front text line ∙ (ap (λ l. f.front ++ l) (sym e ∙ g.parts) ∙ sym (append_assoc f.front g.front rest)));
  appends = appends_both a b c f.front g.front f.appends g.appends;
}

-- nothing more could be put
pub front_before : (a b : Option (List ℕ)) (waited text more all : List ℕ) → Flushes a b waited text → all ≡ waited ++ more → AppendsFront a b all
front_before a b waited text more all f e = record {
  front = f.front;
  rest = text ++ more;
  parts = e ∙ (ap (λ l. l ++ more) f.parts ∙ append_assoc f.front text more);
  appends = f.appends;
}

-- a front of what waited could be written
pub front_after : (a b c : Option (List ℕ)) (waited text line grown more all : List ℕ) → Flushes a b waited text → grown ≡ text ++ line → AppendsFront b c grown → all ≡ (waited ++ line) ++ more → AppendsFront a c all
front_after a b c waited text line grown more all f e g h = record {
  front = f.front ++ g.front;
  rest = g.rest ++ more;
  parts = h ∙ (ap (λ l. (l ++ line) ++ more) f.parts ∙ (ap (λ l. l ++ more) (append_assoc f.front text line ∙ ap (λ l. f.front ++ l) (sym e ∙ g.parts)) ∙ (simp append_assoc)));
  appends = appends_both a b c f.front g.front f.appends g.appends;
}

-- all was written
pub all_written : (a b c : Option (List ℕ)) (waited text : List ℕ) → Flushes a b waited text → Appends b c text → Appends a c waited
all_written a b c waited text f g = subst (Appends a c) (sym f.parts) (appends_both a b c f.front text f.appends g)

pub line_split : {R : Type 0} (files : List SourceFile) (line : R → Line) (rows : List R) (i : ℕ) → lines_text files (map line rows) ≡ lines_text files (map line (take i rows)) ++ lines_text files (map line (drop i rows))
line_split files line [] zero = refl
line_split files line [] (suc i) = refl
line_split files line (r ∷ rows) zero = refl
line_split files line (r ∷ rows) (suc i) =
    ap (λ l. line_text files (line r) ++ l) (line_split files line rows i) ∙ sym (append_assoc (line_text files (line r)) (lines_text files (map line (take i rows))) (lines_text files (map line (drop i rows))))

line_next : {R : Type 0} (files : List SourceFile) (line : R → Line) (rows : List R) (i : ℕ) (d : R) → i < length rows → lines_text files (map line (take (suc i) rows)) ≡ lines_text files (map line (take i rows)) ++ line_text files (line (get_or rows i d))
line_next files line [] i d h = absurd (omega arith)
line_next files line (r ∷ rows) zero d h = append-nil (line_text files (line r))
line_next files line (r ∷ rows) (suc i) d h =
    ap (λ l. line_text files (line r) ++ l) (line_next files line rows i d (omega arith)) ∙ sym (append_assoc (line_text files (line r)) (lines_text files (map line (take i rows))) (line_text files (line (get_or rows i d))))

-- the text of one line more
pub line_more : {R : Type 0} (files : List SourceFile) (line : R → Line) (rows : List R) (i : ℕ) (d : R) → i < length rows → lines_text files (map line (take (i + 1) rows)) ≡ lines_text files (map line (take i rows)) ++ line_text files (line (get_or rows i d))
line_more files line rows i d h = rw add-one (line_next files line rows i d h)

pub all_taken : {R : Type 0} (files : List SourceFile) (line : R → Line) (rows : List R) (i : ℕ) → length rows ≤ i → lines_text files (map line (take i rows)) ≡ lines_text files (map line rows)
all_taken files line [] zero h = refl
all_taken files line [] (suc i) h = refl
all_taken files line (r ∷ rows) zero h = absurd (omega arith)
all_taken files line (r ∷ rows) (suc i) h = ap (λ l. line_text files (line r) ++ l) (all_taken files line rows i (omega arith))

pub on_any_err : {T E P : Type 0} (r : Result T E) → P → OnErr r P
on_any_err (Ok x) p = tt
on_any_err (Err e) p = p

-- all was written or a front of it: something was
pub something_written : {T E : Type 0} (r : Result T E) (a b : Option (List ℕ)) (all : List ℕ) → OnOk r (Appends a b all) → OnErr r (AppendsFront a b all) → (text : List ℕ) × Appends a b text
something_written (Ok x) a b all h k = (all, h)
something_written (Err e) a b all h k = (k.front, k.appends)
