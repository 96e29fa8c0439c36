mod Cutting
mod Filling
