pub mod Hands
pub mod Inbox
pub mod Rule
