-- Lemmas of gateways of replays.
mod AnsweredLemmas
mod CallLemmas
mod DeliveredLemmas
mod FileLemmas
mod GoesLemmas
mod ListLemmas
mod OpeningLemmas
mod RangeLemmas
mod RedirectLemmas
mod ReportLemmas
mod RestLemmas
mod WriterLemmas
pub mod Names
