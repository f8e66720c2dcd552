-- The types of the layers below that a store call names.
pub use Rattle.store.specs.declared.LogPair.{LogPair}
pub use Rattle.store.specs.declared.Store.{Store}
pub use Rattle.store.specs.declared.Logged.{Logged}
pub use Rattle.participant.specs.declared.Participant.{Participant}
pub use Rattle.coordinator.specs.declared.Coordinator.{Coordinator}
pub use Rattle.rules.specs.declared.Outcome.{Outcome}
pub use Rattle.rules.specs.declared.Release.{Release}
pub use Rattle.rules.specs.declared.Report.{Report}
pub use Rattle.call.specs.declared.Stepped.{Stepped}
