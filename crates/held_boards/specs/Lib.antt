pub mod FileDone
