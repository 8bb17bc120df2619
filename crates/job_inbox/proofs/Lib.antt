pub mod Deals
pub mod Orders
pub mod Sublists
pub mod Totals
