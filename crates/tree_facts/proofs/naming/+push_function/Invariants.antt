use Rattle.tree_facts.proofs.naming.+push_function.Given as goal

abbrev pub decreases-push_function : goal.decreases-push_function
decreases-push_function l = l.depth
