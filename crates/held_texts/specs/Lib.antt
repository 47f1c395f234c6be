pub mod HeldRuns
