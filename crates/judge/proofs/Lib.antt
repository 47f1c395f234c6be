pub mod CallLaws
pub mod LineLaws
pub mod RoomLaws
