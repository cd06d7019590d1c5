mod Parting
mod Placing
