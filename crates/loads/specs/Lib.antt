-- The definitions that contracts speak of, and what is stated of them.
pub mod Params
pub mod Refusals
pub mod Making
pub mod Tasks
pub mod Places
pub mod FixedVecs
pub mod Channels
pub mod Slots
pub mod Train
pub mod TrainRests
pub mod TrainRows
pub mod Steps
pub mod Statements
pub mod Cases
-- Lemmas, up to the proof that tasks and trains keep the laws of a load. An impl of `Load` cites that proof, and so they
-- stand here and not under proofs/.
pub mod Quotients
pub mod OneTask
pub mod TaskJobs
pub mod TasksLaws
pub mod TaskMarks
pub mod Ranged
pub mod TrainRanges
pub mod TrainCounts
pub mod TrainCircle
pub mod TrainTally
pub mod TrainLaws
