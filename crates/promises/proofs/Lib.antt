pub mod RefusalLaws
pub mod StationRefusals
pub mod MoirRefusals
pub mod TextRuns
pub mod Promises
