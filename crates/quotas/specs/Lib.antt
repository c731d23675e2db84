pub mod Climbs
pub mod Keys
pub mod Laws
pub mod Quotas
pub mod Groups
pub mod QuotaLaws
