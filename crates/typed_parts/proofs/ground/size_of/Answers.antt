use Rattle.typed_parts.proofs.ground.size_of.Goals as goal

-- of no sizes that are known all are right
pub of-size-requires : goal.of-size-requires
of-size-requires c = c.new-sizes.ensures c.args.types.now
