use Rattle.std.proofs.Common.{◌≡◌, ◌++◌, ◌-◌, length, drop}
use Rattle.std.specs.Prelude.{string_bytes}
use Rattle.interp_state.proofs.Characters.{characters_within}
use Rattle.interp_state.proofs.throwing.push_characters.Given as goal

-- what was pushed, with the characters of what is left, is all
abbrev pub invariant-loop : goal.invariant-loop
invariant-loop l =
    string_bytes l.text ++ characters_within (l.end - l.counter) (drop l.at l.bytes)
    ≡ string_bytes l.fn.text ++ characters_within (length l.fn.bytes) l.fn.bytes
