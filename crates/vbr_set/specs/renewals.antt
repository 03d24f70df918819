-- Renewals: a fresh set opens with what the old one had.
pub mod Renewing
pub mod RenewingAll
pub mod RenewingWithSlots
pub mod RenewalRoom
