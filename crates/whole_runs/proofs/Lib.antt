pub mod MiddleLaws
pub mod LoopLaws
pub mod TextLaws
pub mod StopLaws
pub mod WholeLaws
pub mod FaultLaws
