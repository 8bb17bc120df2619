pub mod Datagrams
pub mod FaultText
pub mod Making
pub mod Memory
pub mod Net
pub mod Steps
pub mod Turns
pub mod Udp
