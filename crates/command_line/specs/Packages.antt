-- Package words: the paths of files and directories.
use Rattle.std.specs.Prelude.{ℕ, ◌-◌, List, [], ◌∷◌, length, take, drop, Bool, ◌||◌, ◌==◌, if◌then◌else◌, codes}
use Rattle.std.specs.Prelude.{bytes_eq, nat_eq}
use Rattle.std.specs.List.{starts_with, ends_with, list_any, slice_split}
use Rattle.go_base.specs.declared.target.Target.{Target}
use Rattle.go_base.specs.declared.target.Target.TheVariants.{File, Dir}

-- without the `./` before it
abbrev pub without_dot : List ℕ → List ℕ
without_dot word = if starts_with nat_eq word (codes "./") then drop 2 word else word

-- without the `/` behind it
abbrev pub without_slash : List ℕ → List ℕ
without_slash word = if ends_with nat_eq word (codes "/") then take (length word - 1) word else word

-- what is left, and `.` where nothing is
abbrev pub or_dot : List ℕ → List ℕ
or_dot [] = codes "."
or_dot (byte ∷ bytes) = byte ∷ bytes

abbrev pub path_of : List ℕ → List ℕ
path_of word = or_dot (without_slash (without_dot word))

-- empty, or `..`
abbrev pub is_bad_component : List ℕ → Bool
is_bad_component component = bytes_eq component [] || bytes_eq component (codes "..")

-- `/`
abbrev pub is_slash : ℕ → Bool
is_slash byte = byte == 47

-- components are joined by `/`
abbrev pub has_bad_component : List ℕ → Bool
has_bad_component path = list_any is_bad_component (slice_split is_slash path)

-- empty, absolute, or with a bad component in its path
abbrev pub is_bad_package : List ℕ → Bool
is_bad_package word = bytes_eq word [] || starts_with nat_eq word (codes "/") || has_bad_component (path_of word)

-- a file where the word ends in `.go`, and else a directory
abbrev pub target_of : List ℕ → Target
target_of word = if ends_with nat_eq word (codes ".go") then File (path_of word) else Dir (path_of word)
