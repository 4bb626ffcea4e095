-- Which statements are terminating, by what is known of their parts. Go specification, "Terminating statements".
use Rattle.std.specs.Prelude.{Bool, false, not, ◌&&◌, Option, Some, None}

-- "An "if" statement in which: the "else" branch is present, and both branches are terminating statements."
abbrev pub choice_ends : Bool → Option Bool → Bool
choice_ends arms None = false
choice_ends arms (Some otherwise) = arms && otherwise

-- "A "for" statement in which there are no "break" statements referring to the "for" statement, and the loop condition
-- is absent, and the "for" statement does not use a range clause."
abbrev pub loop_ends : Bool → Bool → Bool
loop_ends has_condition is_left = not has_condition && not is_left

-- "A "switch" statement in which: there are no "break" statements referring to the "switch" statement, there is a
-- default case, and the statement lists in each case, including the default, end in a terminating statement, or a
-- possibly labeled "fallthrough" statement."
abbrev pub switch_ends : Bool → Bool → Bool → Bool
switch_ends has_default clauses is_left = has_default && clauses && not is_left

-- "A "select" statement in which: there are no "break" statements referring to the "select" statement, and the
-- statement lists in each case, including the default if present, end in a terminating statement."
abbrev pub select_ends : Bool → Bool → Bool
select_ends clauses is_left = clauses && not is_left
