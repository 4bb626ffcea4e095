mod Calls
mod Entries
mod Frames
mod Puts
mod Readied
mod Slots
mod Unwound
