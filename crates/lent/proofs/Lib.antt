pub mod GatheredLaws
mod MadeLaws
