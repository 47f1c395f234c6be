pub mod FarLaws
pub mod FirstCommands
pub mod FirstStateLaws
pub mod CountedRuns
