-- what public clauses cite
pub mod AreaLaws
pub mod Armed
pub mod Course
pub mod Disk
pub mod Moments
pub mod Past
pub mod Plan
pub mod Record
pub mod Stretch
-- what the members of the areas in memory are made of
pub mod Memory
pub mod Quiet
pub mod Sound
-- lemmas, which layers above use too
pub mod ArmedLaws
pub mod CourseLaws
pub mod MomentLaws
-- steps of proofs
pub mod Hull
pub mod Octets
pub mod Outside
pub mod PastLaws
