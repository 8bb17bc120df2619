-- What public clauses cite.
pub mod Comes
pub mod Fit
pub mod Follows
pub mod Format
pub mod OpenPlan
pub mod Outcomes
pub mod Results
pub mod Tally
pub mod Trail
-- Laws for the layers above.
pub mod BatchLaws
-- Steps of proofs, and private clauses.
pub mod Contents
pub mod Held
pub mod Judged
pub mod Kept
pub mod Keys
pub mod Merged
pub mod Opening
pub mod Rank
pub mod Reserved
pub mod Sorted
pub mod Sound
pub mod Sums
