pub mod SpellingValues
pub mod ProperRequests
pub mod SpellingRequests
pub mod ProperDeliveries
pub mod SpellingDeliveries
pub mod ProperMessages
pub mod SpellingDocuments
