pub mod MoirCallLaws
pub mod MoirPoints
