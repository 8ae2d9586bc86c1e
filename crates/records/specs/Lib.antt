pub mod Library
pub mod Answers
pub mod Bytes
pub mod Counters
pub mod Glyphs
pub mod Ranges
pub mod View
pub mod inner
-- The types that src/ declares, for the crates above.
pub use declared.{DonePlace.DonePlace, InputPlace.InputPlace, Position.Position, Limits.Limits}
pub use declared.Phase.{Phase, TheVariants.Plain, TheVariants.Output, TheVariants.Positions, TheVariants.Spoiled}
pub use Answers.{Answer}
pub use declared.Refusal.{Refusal, TheVariants.Contradiction, TheVariants.WrongPhase, TheVariants.OutOfRange, TheVariants.BadOperand}
pub use declared.Refusal.{TheVariants.OverCapacity, TheVariants.Unreadable}
