pub mod Numbers
pub mod Ids
pub mod Amounts
pub mod NodeIds
pub mod Digits
