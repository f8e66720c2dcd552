-- The declared types of the layers below that a run speaks of.
pub use Rattle.store.specs.declared.LogRecord.{LogRecord}
pub use Rattle.store.specs.declared.LogPair.{LogPair}
pub use Rattle.participant.specs.declared.Participant.{Participant}
pub use Rattle.kind.specs.declared.Kind.{Kind}
pub use Rattle.kind.specs.declared.Step.{Step}
pub use Rattle.schedule.specs.declared.Header.{Header}
pub use Rattle.schedule.specs.declared.Context.{Context}
pub use Rattle.schedule.specs.declared.Record.{Record}
pub use Rattle.number.specs.declared.Refusal.{Refusal}
pub use Rattle.number.specs.declared.Refused.{Refused}
pub use Rattle.rules.specs.declared.Release.{Release}
pub use Rattle.rules.specs.declared.Outcome.{Outcome}
pub use Rattle.rules.specs.declared.Report.{Report}
pub use Rattle.tail.specs.declared.ParticipantFields.{ParticipantFields}
pub use Rattle.tail.specs.declared.Tail.{Tail}
pub use Rattle.form.specs.declared.Form.{Form}
