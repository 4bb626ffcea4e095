-- The listing of a call graph.
use Rattle.std.specs.Prelude.{◌≡◌, ◌⊎◌, ℕ, nat_le, Bool, false, List, [], ◌++◌, length, map, flat_map, decimal, Option}
use Rattle.std.specs.Prelude.{Some, None, slice_get, unwrap_or, if◌then◌else◌, IsPermutation, codes}
use Rattle.std.specs.List.Sorted.{IsSortedBy}
use Rattle.std.specs.declared.cmp.Ordering.{Ordering}
use Rattle.std.specs.Ordering.{is_lt, nat_cmp, ordering_then}
use Rattle.std.specs.Cmp.Lexicographic.{slice_cmp}
use Rattle.std.specs.Io.KnownBytes.{Appends}
use Rattle.go_base.specs.Devices.{AppendsFront}
use Rattle.go_base.specs.declared.place.Place.{Place}
use Rattle.go_base.specs.declared.place.Pos.{Pos}
use Rattle.go_sources.specs.declared.sources.SourceFile.{SourceFile}
use Rattle.go_sources.specs.Places.{place_in}
use Rattle.go_text.specs.Naming.{Naming}
use Rattle.go_tree.specs.declared.program.Program.{Program}
use Rattle.tree_facts.specs.FunctionNames.{function_text}
use Rattle.cg_sets.specs.declared.edges.Edge.{Edge}

-- ---- names and places

abbrev pub naming : Program → Naming
naming p = record { names = p.names; labels = map (λ one. one.label) p.packages; types = p.types }

abbrev pub name_of : Program → ℕ → List ℕ
name_of p function = function_text (naming p) p.functions function

-- the text of a number, of a list of texts
abbrev pub name_in : List (List ℕ) → ℕ → List ℕ
name_in names number = unwrap_or (slice_get names number) []

-- the texts are the names of all functions, by number
abbrev pub AreNames : Program → List (List ℕ) → Type 0
AreNames p names = (function : ℕ) → name_in names function ≡ name_of p function

abbrev pub path_in : Option SourceFile → List ℕ
path_in None = []
path_in (Some file) = file.path

abbrev pub path_of : List SourceFile → ℕ → List ℕ
path_of files number = path_in (slice_get files number)

abbrev pub place_text : Place → List ℕ
place_text place = place.path ++ (codes ":" ++ (decimal place.line ++ (codes ":" ++ decimal place.column)))

abbrev pub within : ℕ → Option SourceFile → Bool
within offset None = false
within offset (Some file) = nat_le offset (length file.bytes)

-- whether a position lies in a file, or at its end
abbrev pub is_within : List SourceFile → Pos → Bool
is_within files site = within site.offset (slice_get files site.file)

abbrev pub text_in : ℕ → Option SourceFile → List ℕ
text_in offset None = []
text_in offset (Some file) =
    if nat_le offset (length file.bytes) then place_text (place_in file.path file.bytes offset) else []

-- path, line and column; nothing where there is no such place
abbrev pub site_text : List SourceFile → Pos → List ℕ
site_text files site = text_in site.offset (slice_get files site.file)

-- ---- lines

-- a line, by what lines are ordered by
pub record Line : Type 0 where
  pub caller : List ℕ
  pub path : List ℕ
  pub site : Pos
  pub callee : List ℕ

abbrev pub line_by : (ℕ → List ℕ) → List SourceFile → Edge → Line
line_by name files e =
    record {
      caller = name e.caller.number;
      path = path_of files e.site.file;
      site = e.site;
      callee = name e.callee.number;
    }

-- by the bytes of the caller and of the path, then by offset, then by the bytes of the callee
abbrev pub line_cmp : Line → Line → Ordering
line_cmp a b =
    ordering_then (slice_cmp nat_cmp a.caller b.caller)
    (ordering_then (slice_cmp nat_cmp a.path b.path)
    (ordering_then (nat_cmp a.site.offset b.site.offset) (slice_cmp nat_cmp a.callee b.callee)))

-- caller, site and callee, with tabs between
abbrev pub line_text : List SourceFile → Line → List ℕ
line_text files line =
    line.caller ++ (codes "\t" ++ (site_text files line.site ++ (codes "\t" ++ (line.callee ++ codes "\n"))))

abbrev pub lines_text : List SourceFile → List Line → List ℕ
lines_text files lines = flat_map (line_text files) lines

-- the same lines, ascending
pub record IsInOrder (lines sorted : List Line) : Type 0 where
  pub same : IsPermutation lines sorted
  pub ascending : IsSortedBy (λ a b. is_lt (line_cmp a b)) sorted

-- a line for each edge, in order
pub record IsListing (files : List SourceFile) (p : Program) (edges : List Edge) (text : List ℕ) : Type 0 where
  pub lines : List Line
  pub order : IsInOrder (map (line_by (name_of p) files) edges) lines
  pub whole : text ≡ lines_text files lines

-- ---- what a sink holds

-- the listing was written
pub record Writes (files : List SourceFile) (p : Program) (edges : List Edge) (old new : Option (List ℕ)) : Type 0 where
  pub text : List ℕ
  pub listing : IsListing files p edges text
  pub appends : Appends old new text

pub record WritesPart (files : List SourceFile) (p : Program) (edges : List Edge) (old new : Option (List ℕ)) :
    Type 0 where
  pub text : List ℕ
  pub listing : IsListing files p edges text
  pub appends : AppendsFront old new text

-- a front of the listing was written, or nothing
abbrev pub WritesFront : List SourceFile → Program → List Edge → Option (List ℕ) → Option (List ℕ) → Type 0
WritesFront files p edges old new = WritesPart files p edges old new ⊎ Appends old new []
