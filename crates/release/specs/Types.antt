-- The types of the layers below that one step of a release names.
pub use Rattle.store.specs.declared.Store.{Store}
pub use Rattle.message.specs.declared.Message.{Message}
pub use Rattle.kind.specs.declared.Step.{Step}
pub use Rattle.rules.specs.declared.Outcome.{Outcome}
pub use Rattle.rules.specs.declared.Release.{Release}
pub use Rattle.rules.specs.declared.Report.{Report}
pub use Rattle.call.specs.declared.Stepped.{Stepped}
