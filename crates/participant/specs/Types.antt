-- The declared types of a participant, and those of the layers below that its rules name.
pub use Rattle.store.specs.declared.LogRecord.{LogRecord}
pub use Rattle.store.specs.declared.LogRecord.TheVariants.{None, Yes, Abort, Commit}
pub use Rattle.store.specs.declared.Call.{Call}
pub use Rattle.message.specs.declared.Message.{Message}
pub use Rattle.message.specs.declared.Decision.{Decision}
pub use Rattle.participant.specs.declared.Participant.{Participant}
pub use Rattle.participant.specs.declared.Participant.TheVariants.{Waiting, VotingYes, Closing, Uncertain, Terminating, RecordingCommit, RecordingAbort, DoneCommit, DoneAbort, Down}
