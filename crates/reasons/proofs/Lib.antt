pub mod ToldAnswers
