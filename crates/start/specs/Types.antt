-- The declared type of a start, and those of the layers below that it speaks of.
pub use Rattle.kind.specs.declared.Kind.{Kind}
pub use Rattle.kind.specs.declared.Step.{Step}
pub use Rattle.schedule.specs.declared.Header.{Header}
pub use Rattle.schedule.specs.declared.Context.{Context}
pub use Rattle.rules.specs.declared.Release.{Release}
pub use Rattle.tail.specs.declared.Tail.{Tail}
pub use Rattle.number.specs.declared.Refusal.{Refusal}
pub use Rattle.number.specs.declared.Refused.{Refused}
pub use Rattle.number.specs.declared.Numbered.{Numbered}
pub use Rattle.start.specs.declared.Start.{Start}
pub use Rattle.form.specs.declared.Form.{Form}
