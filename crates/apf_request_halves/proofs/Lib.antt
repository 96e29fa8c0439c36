pub mod Answering
pub mod Falling
pub mod Judging
pub mod Store
pub mod Taking
pub mod Turning
