-- The declared types of messages, under one name.
pub use Rattle.message.specs.declared.Message.{Message}
pub use Rattle.message.specs.declared.Decision.{Decision}
