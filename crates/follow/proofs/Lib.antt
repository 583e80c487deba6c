pub mod EventLaws
pub mod FollowLaws
