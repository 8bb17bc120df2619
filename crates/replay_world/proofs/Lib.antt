-- Lemmas of replays.
mod BeginningLemmas
mod CalmLemmas
mod DeliverLemmas
mod GatewayEventLemmas
mod HandedLemmas
mod LineLemmas
mod MomentLemmas
mod NodeEventLemmas
mod NodeStepLemmas
mod NodeSubmitLemmas
mod QuietLemmas
mod RefusalLemmas
mod RunLemmas
mod SettleLemmas
mod SettledLemmas
mod StandsLemmas
mod StepsLemmas
mod SummaryLemmas
mod TakenLines
mod TakenScripts
mod TakenSteps
mod TakenWorlds
pub mod Names
