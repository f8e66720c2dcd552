-- The types of the layers below that the state of a release names.
pub use Rattle.store.specs.declared.Store.{Store}
pub use Rattle.message.specs.declared.Message.{Message}
pub use Rattle.participant.specs.declared.Participant.{Participant}
pub use Rattle.coordinator.specs.declared.Coordinator.{Coordinator}
pub use Rattle.kind.specs.declared.Step.{Step}
pub use Rattle.rules.specs.declared.Site.{Site}
pub use Rattle.rules.specs.declared.Release.{Release}
