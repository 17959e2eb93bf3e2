pub mod Responses
pub mod Handling
pub mod Statuses
pub mod Clients
pub mod Connections
