pub mod CommandRows
