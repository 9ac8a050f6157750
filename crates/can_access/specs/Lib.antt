pub mod Approval
