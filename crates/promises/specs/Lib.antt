pub mod Promises
pub mod TextRunPromises
pub mod LogPromises
pub mod InputPromises
pub mod MoirPromises
