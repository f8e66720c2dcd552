-- The declared types of a tail's layout.
pub use Rattle.store.specs.declared.LogPair.{LogPair}
pub use Rattle.store.specs.declared.Store.{Store}
pub use Rattle.rules.specs.declared.Release.{Release}
pub use Rattle.tail.specs.declared.ParticipantFields.{ParticipantFields}
pub use Rattle.tail.specs.declared.Tail.{Tail}
pub use Rattle.form.specs.declared.Form.{Form}
