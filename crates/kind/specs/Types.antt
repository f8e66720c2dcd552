-- The declared types of kinds and steps, and the messages that steps name.
pub use Rattle.message.specs.declared.Message.{Message}
pub use Rattle.kind.specs.declared.Kind.{Kind}
pub use Rattle.kind.specs.declared.Step.{Step}
pub use Rattle.number.specs.declared.Refusal.{Refusal}
