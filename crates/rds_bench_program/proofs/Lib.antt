mod Slots
mod Mapped
