-- HTTP/1.1 requests and responses on the wire (RFC 9112).
pub mod Connection
pub mod Fields
pub mod Filling
pub mod Found
pub mod Head
pub mod Named
pub mod Requests
pub mod Responses
pub mod Stream
