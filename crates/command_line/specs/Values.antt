-- The values of flags.
use Rattle.std.specs.Prelude.{ℕ, ◌+◌, ◌-◌, ◌*◌, List, [], ◌∷◌, Bool, true, false, ◌||◌, ◌==◌, nat_le, Option, Some}
use Rattle.std.specs.Prelude.{None, option_map, option_and_then, if◌then◌else◌, codes, bytes_eq}
use Rattle.std.specs.Char.{is_ascii_digit}
use Rattle.std.specs.List.{list_any, list_all, slice_split}
use Rattle.command_line.specs.declared.command.Letters.{Letters}
use Rattle.command_line.specs.declared.command.Graph.{Graph}
use Rattle.command_line.specs.declared.command.Graph.TheVariants.{Cha, Rta, Vta}
use Rattle.command_line.specs.declared.flags.Flag.{Flag}
use Rattle.command_line.specs.declared.flags.Flag.TheVariants as flags
use Rattle.command_line.specs.declared.values.Setting.{Setting}
use Rattle.command_line.specs.declared.values.Setting.TheVariants.{Build, Callgraph, Run, Bound, Choices, Generate}

-- the number that decimal digits write behind those of n
abbrev pub number_behind : ℕ → List ℕ → Option ℕ
number_behind n [] = Some n
number_behind n (digit ∷ digits) = if is_ascii_digit digit then number_behind (n * 10 + (digit - 48)) digits else None

-- a number: one or more decimal digits, of which zeros may lead
abbrev pub number : List ℕ → Option ℕ
number [] = None
number (digit ∷ digits) = number_behind 0 (digit ∷ digits)

-- a number that is at most this
abbrev pub up_to : ℕ → Option ℕ → Option ℕ
up_to most found = option_and_then (λ n. if nat_le n most then Some n else None) found

-- `C`, `F` or `N`
abbrev pub is_letter : ℕ → Bool
is_letter byte = (byte == 67) || (byte == 70) || (byte == 78)

-- C, F and N in any order, with repeats, or none
abbrev pub letters_of : List ℕ → Option Letters
letters_of text =
    if list_all is_letter text
    then Some (record {
      counts = list_any (λ letter. letter == 67) text;
      functions = list_any (λ letter. letter == 70) text;
      naive = list_any (λ letter. letter == 78) text;
    })
    else None

-- the graph of a name
abbrev pub graph_of : List ℕ → Option Graph
graph_of text =
    if bytes_eq text (codes "cha") then Some Cha
    else if bytes_eq text (codes "rta") then Some Rta
    else if bytes_eq text (codes "vta") then Some Vta
    else None

-- a boolean, as Go's `strconv.ParseBool` reads one
abbrev pub boolean_of : List ℕ → Option Bool
boolean_of text =
    if list_any (bytes_eq text) (codes "1" ∷ codes "t" ∷ codes "T" ∷ codes "TRUE" ∷ codes "true" ∷ codes "True" ∷ [])
    then Some true
    else if list_any (bytes_eq text) (codes "0" ∷ codes "f" ∷ codes "F" ∷ codes "FALSE" ∷ codes "false" ∷ codes "False"
    ∷ []) then Some false
    else None

-- from 1 to 1,000
abbrev pub count_of : List ℕ → Option ℕ
count_of text = option_and_then (λ n. if n == 0 then None else Some n) (up_to 1000 (number text))

-- the numbers of the parts, where each is one
abbrev pub choices_in : List (List ℕ) → Option (List ℕ)
choices_in [] = Some []
choices_in (part ∷ parts) =
    option_and_then (λ n. option_map (λ ns. n ∷ ns) (choices_in parts)) (up_to 4294967295 (number part))

-- `,`
abbrev pub is_comma : ℕ → Bool
is_comma byte = byte == 44

-- numbers with commas between them, or the empty text
abbrev pub choices_of : List ℕ → Option (List ℕ)
choices_of [] = Some []
choices_of (byte ∷ bytes) = choices_in (slice_split is_comma (byte ∷ bytes))

-- a flag with the value that a text is to it
abbrev pub setting_of : Flag → List ℕ → Option Setting
setting_of flags.Build text = option_map Build (letters_of text)
setting_of flags.Callgraph text = option_map Callgraph (graph_of text)
setting_of flags.Run text = option_map Run (boolean_of text)
setting_of flags.Bound text = option_map Bound (up_to 1000000000 (number text))
setting_of flags.Choices text = option_map Choices (choices_of text)
setting_of flags.Generate text = option_map Generate (count_of text)
