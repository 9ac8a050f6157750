pub mod PhoneFields
pub mod Steps
