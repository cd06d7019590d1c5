pub mod Items
pub mod ItemReport
pub mod TakenBackWalk
pub mod Summary
pub mod ItemTotals
pub mod Item
pub mod Held
pub mod Texts
