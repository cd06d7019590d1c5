mod Listings
mod Turns
mod Ranges
