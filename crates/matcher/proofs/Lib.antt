pub mod MatchLaws
pub mod NextLaws
pub mod AnswerLaws
