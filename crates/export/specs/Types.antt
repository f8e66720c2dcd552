-- The declared types of the layers below that the exported functions name.
pub use Rattle.store.specs.declared.LogPair.{LogPair}
pub use Rattle.kind.specs.declared.Kind.{Kind}
pub use Rattle.schedule.specs.declared.Header.{Header}
pub use Rattle.rules.specs.declared.Release.{Release}
pub use Rattle.tail.specs.declared.ParticipantFields.{ParticipantFields}
pub use Rattle.tail.specs.declared.Tail.{Tail}
pub use Rattle.tail.specs.declared.single.Stepped.{Stepped}
pub use Rattle.form.specs.declared.Form.{Form}
pub use Rattle.number.specs.declared.Refusal.{Refusal}
