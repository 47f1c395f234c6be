pub mod MarkedRun
