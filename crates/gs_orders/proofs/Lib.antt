mod Handing
mod Emitting
