mod Cutting
mod Finding
mod Judging
