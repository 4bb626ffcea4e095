-- The names and the sizes of a package's files, file after file.
use Rattle.std.proofs.Common.{◌≡◌, ℕ, suc, ◌+◌, ◌<◌, min, Bool, true, false, if◌then◌else◌, bytes_eq, Option, Some, List, ◌∷◌, length, map, take, drop, get_or, sym, ap, ◌∙◌, arith, add-one, drop-cons}
use Rattle.std.specs.List.{sum_by}
use Rattle.std.proofs.lemmas.List.{map_more}
use Rattle.std.proofs.lemmas.List.Sums.{sum_by_push}
use Rattle.go_base.specs.declared.rule.Rule.TheVariants as rules
use Rattle.go_sources.specs.declared.sources.SourceFile.{SourceFile}
use Rattle.go_finding.specs.Finding.{view_file}
use Rattle.go_finding.specs.Modules.{Broken}
use Rattle.go_finding.specs.Programs.{File, broken_at, name_of, other_name}

-- ---- sizes

abbrev pub bytes_in : List SourceFile → ℕ
bytes_in sources = sum_by (λ file. length file.bytes) (map view_file sources)

pub bytes_in-more : (sources : List SourceFile) (index : ℕ) (source : SourceFile) → index < length sources → source ≡ get_or sources index source → bytes_in (take (index + 1) sources) ≡ bytes_in (take index sources) + length source.bytes
bytes_in-more sources index source h e =
    ap (sum_by (λ (file : File). length file.bytes)) (map_more view_file sources index source h)
    ∙ sum_by_push (λ (file : File). length file.bytes) (map view_file (take index sources)) (view_file (get_or sources index source))
    ∙ ap (λ (one : SourceFile). bytes_in (take index sources) + length one.bytes) (sym e)

-- ---- names

-- what the file at an index says, before those behind it
abbrev name_here : List ℕ → SourceFile → Option Broken → Option Broken
name_here name source later =
    if bytes_eq (name_of (view_file source)) name then later else Some (broken_at (view_file source) source.tree.name rules.SecondPackageName)

names_here : (name : List ℕ) (sources : List SourceFile) (index : ℕ) (source : SourceFile) → index < length sources → source ≡ get_or sources index source → other_name name (map view_file (drop index sources)) ≡ name_here name source (other_name name (map view_file (drop (index + 1) sources)))
names_here name sources index source h e =
    let here : drop index sources ≡ source ∷ drop (index + 1) sources = rw add-one (drop-cons sources index source h ∙ ap (λ (one : SourceFile). one ∷ drop (suc index) sources) (sym e)) in
    ap (λ (these : List SourceFile). other_name name (map view_file these)) here

pub same_name_next : (name : List ℕ) (sources : List SourceFile) (index : ℕ) (source : SourceFile) → index < length sources → source ≡ get_or sources index source → bytes_eq (name_of (view_file source)) name ≡ true → other_name name (map view_file (drop index sources)) ≡ other_name name (map view_file (drop (index + 1) sources))
same_name_next name sources index source h e same =
    names_here name sources index source h e ∙ ap (λ (b : Bool). if b then other_name name (map view_file (drop (index + 1) sources)) else Some (broken_at (view_file source) source.tree.name rules.SecondPackageName)) same

pub other_name_here : (name : List ℕ) (sources : List SourceFile) (index : ℕ) (source : SourceFile) → index < length sources → source ≡ get_or sources index source → bytes_eq (name_of (view_file source)) name ≡ false → other_name name (map view_file (drop index sources)) ≡ Some (broken_at (view_file source) source.tree.name rules.SecondPackageName)
other_name_here name sources index source h e other =
    names_here name sources index source h e ∙ ap (λ (b : Bool). if b then other_name name (map view_file (drop (index + 1) sources)) else Some (broken_at (view_file source) source.tree.name rules.SecondPackageName)) other

-- one more file, where sums stop at a limit
pub size_next : (sources : List SourceFile) (index : ℕ) (source : SourceFile) (limit total now size : ℕ) → index < length sources → source ≡ get_or sources index source → min (bytes_in (take index sources)) limit ≡ total → size ≡ length source.bytes → now ≡ min (total + size) limit → min (bytes_in (take (index + 1) sources)) limit ≡ now
size_next sources index source limit total now size h e before s after =
    go (bytes_in (take index sources)) (bytes_in (take (index + 1) sources)) (length source.bytes) (bytes_in-more sources index source h e) before s after
  where
    go : (front whole one : ℕ) → whole ≡ front + one → min front limit ≡ total → size ≡ one → now ≡ min (total + size) limit → min whole limit ≡ now
    go front whole one a b c d = omega arith
