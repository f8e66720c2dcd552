-- The declared types of the tail, and those of the layers below that its fields come from.
pub use Rattle.store.specs.declared.LogPair.{LogPair}
pub use Rattle.store.specs.declared.Store.{Store}
pub use Rattle.message.specs.declared.Message.{Message}
pub use Rattle.participant.specs.declared.Participant.{Participant}
pub use Rattle.coordinator.specs.declared.Coordinator.{Coordinator}
pub use Rattle.kind.specs.declared.Kind.{Kind}
pub use Rattle.kind.specs.declared.Step.{Step}
pub use Rattle.schedule.specs.declared.Header.{Header}
pub use Rattle.schedule.specs.declared.Context.{Context}
pub use Rattle.rules.specs.declared.Site.{Site}
pub use Rattle.rules.specs.declared.Release.{Release}
pub use Rattle.rules.specs.declared.Outcome.{Outcome}
pub use Rattle.rules.specs.declared.Report.{Report}
pub use Rattle.tail.specs.declared.ParticipantFields.{ParticipantFields}
pub use Rattle.tail.specs.declared.Tail.{Tail}
pub use Rattle.tail.specs.declared.single.Stepped.{Stepped}
pub use Rattle.number.specs.declared.Refusal.{Refusal}
