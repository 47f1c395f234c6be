pub mod MoirCalls
