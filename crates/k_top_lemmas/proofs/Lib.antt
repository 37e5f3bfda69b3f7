mod Requesting
pub mod Growing
pub mod LatencyLemmas
pub mod RegionLemmas
pub mod SourceLemmas
mod StepLemmas
pub mod ProgramLemmas
mod Agreeing
mod Showing
pub mod ReadyLemmas
pub mod RunLemmas
pub mod Machine
pub mod Reporting
pub mod SummaryLemmas
mod Statuses
pub mod DemoLemmas
pub mod PageLemmas
pub mod AnnotateLemmas
mod OneListing
mod OnePage
mod OneAnnotation
mod OneReport
mod OneStorage
pub mod OneSum
pub mod Merging
mod OneMerge
pub mod MergeLemmas
pub mod AskedLemmas
pub mod ReplayLemmas
pub mod FileLemmas
mod Sounding
mod OneSummary
pub mod OneAnswer
mod NothingPut
mod Putting
mod Delivering
pub mod Streaming
pub mod Keeping
