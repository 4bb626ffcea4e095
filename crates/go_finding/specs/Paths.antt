-- Paths of files and directories.
use Rattle.std.specs.Prelude.{◌≡◌, ◌≢◌, ◌⊎◌, ℕ, ◌+◌, ◌<◌, true, false, List, length, take, slice_index_or, ◌++◌}
use Rattle.std.specs.Prelude.{Option, Some, None, if◌then◌else◌, codes, bytes_eq}

-- two texts with a slash between them
abbrev pub with_slash : List ℕ → List ℕ → List ℕ
with_slash front rest = (front ++ codes "/") ++ rest

-- the path of what has this name in a directory
abbrev pub path_in : List ℕ → List ℕ → List ℕ
path_in dir name = if bytes_eq dir (codes ".") then name else with_slash dir name

-- the last slash of a path
pub record IsLastSlash (path : List ℕ) (at : ℕ) : Type 0 where
  pub within : at < length path
  pub slash : slice_index_or path at 0 ≡ 47
  pub last : (i : ℕ) → at < i → i < length path → slice_index_or path i 0 ≢ 47

abbrev pub HasNoSlash : List ℕ → Type 0
HasNoSlash path = (i : ℕ) → i < length path → slice_index_or path i 0 ≢ 47

-- a path lies in the directory before its last slash, or, where it has none, in `.`; the path `.` itself lies in none
abbrev pub LiesIn : List ℕ → Option (List ℕ) → Type 0
LiesIn path None = bytes_eq path (codes ".") ≡ true
LiesIn path (Some dir) =
    (bytes_eq path (codes ".") ≡ false)
    × (((at : ℕ) × IsLastSlash path at × (dir ≡ take at path)) ⊎ (HasNoSlash path × (dir ≡ codes ".")))

-- a bound on the directories above
abbrev pub depth : List ℕ → ℕ
depth dir = if bytes_eq dir (codes ".") then 0 else length dir + 1
