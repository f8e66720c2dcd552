-- The declared types of a schedule, the kinds and steps that its records have, and the refusals of its bytes.
pub use Rattle.kind.specs.declared.Kind.{Kind}
pub use Rattle.kind.specs.declared.Step.{Step}
pub use Rattle.schedule.specs.declared.Header.{Header}
pub use Rattle.schedule.specs.declared.Record.{Record}
pub use Rattle.schedule.specs.declared.Context.{Context}
pub use Rattle.number.specs.declared.Refusal.{Refusal}
pub use Rattle.number.specs.declared.Refused.{Refused}
