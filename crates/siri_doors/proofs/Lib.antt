mod Orders
mod Places
mod Prospects
mod Slots
mod Wiring
