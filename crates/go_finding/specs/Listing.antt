-- The Go files of a directory.
use Rattle.std.specs.Prelude.{ℕ, Bool, not, ◌&&◌, ◌||◌, List, codes, nat_eq}
use Rattle.std.specs.List.{starts_with, ends_with}

abbrev pub is_hidden : List ℕ → Bool
is_hidden name = starts_with nat_eq name (codes "_") || starts_with nat_eq name (codes ".")

-- whether a file of this name belongs to the package of its directory
abbrev pub is_go_file : List ℕ → Bool
is_go_file name =
    ends_with nat_eq name (codes ".go") && (not (ends_with nat_eq name (codes "_test.go")) && not (is_hidden name))
