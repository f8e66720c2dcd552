-- The declared types of a tail's form.
pub use Rattle.kind.specs.declared.Kind.{Kind}
pub use Rattle.rules.specs.declared.Release.{Release}
pub use Rattle.tail.specs.declared.ParticipantFields.{ParticipantFields}
pub use Rattle.tail.specs.declared.Tail.{Tail}
pub use Rattle.form.specs.declared.Form.{Form}
