-- What is done with the maps of a store is what code does with them.
pub use Rattle.ssa_mean.specs.MapCalls.{looked_up, updated, deleted}
