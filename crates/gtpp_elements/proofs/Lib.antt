pub mod FirstLemmas
pub mod NumberLemmas
pub mod ReadingLemmas
pub mod SpellingLemmas
