pub mod BitLaws
pub mod Through
pub mod Narrowed
pub mod Mirror
pub mod Rooms
pub mod RemoveOne
pub mod RemoveItems
pub mod RemoveSet
