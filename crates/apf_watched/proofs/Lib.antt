mod Told
mod Logs
mod Arriving
mod Finishing
