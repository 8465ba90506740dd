mod Told
mod Reasons
