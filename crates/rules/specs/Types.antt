-- The declared types of a release, and those of the layers below that its rules name.
pub use Rattle.store.specs.declared.LogRecord.{LogRecord}
pub use Rattle.store.specs.declared.LogRecord.TheVariants.{None, Yes, Abort, Commit}
pub use Rattle.store.specs.declared.LogPair.{LogPair}
pub use Rattle.store.specs.declared.Store.{Store}
pub use Rattle.store.specs.declared.Call.{Call}
pub use Rattle.store.specs.declared.Logged.{Logged}
pub use Rattle.message.specs.declared.Message.{Message}
pub use Rattle.message.specs.Message.{Transition}
pub use Rattle.message.specs.declared.Decision.{Decision}
pub use Rattle.participant.specs.declared.Participant.{Participant}
pub use Rattle.participant.specs.declared.Participant.TheVariants.{Waiting, VotingYes, Closing, Uncertain, Terminating, RecordingCommit, RecordingAbort, DoneCommit, DoneAbort, Down}
pub use Rattle.coordinator.specs.declared.Coordinator.{Coordinator}
pub use Rattle.rules.specs.declared.Site.{Site}
pub use Rattle.rules.specs.declared.Release.{Release}
pub use Rattle.kind.specs.declared.Step.{Step}
pub use Rattle.kind.specs.declared.Step.TheVariants.{Start, Deliver, Copy, Lose, Timeout, Crash, Restart}
pub use Rattle.rules.specs.declared.Outcome.{Outcome}
pub use Rattle.rules.specs.declared.Report.{Report}
