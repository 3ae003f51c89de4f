pub mod Meetings
pub mod Walks
