-- The declared types of the layers below that a replay speaks of.
pub use Rattle.number.specs.declared.Numbered.{Numbered}
pub use Rattle.kind.specs.declared.Step.{Step}
pub use Rattle.schedule.specs.declared.Header.{Header}
