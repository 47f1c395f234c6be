pub mod CallLoops
pub mod JudgeLaws
pub mod ObjectLaws
pub mod OrderLaws
pub mod RefusalLaws
