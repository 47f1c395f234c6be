pub mod SetUpByValue
