pub mod Offers
pub mod Offer
