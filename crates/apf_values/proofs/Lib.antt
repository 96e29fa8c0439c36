mod Readings
mod Usually
mod Numbers
mod Lookups
mod Listed
mod Documents
