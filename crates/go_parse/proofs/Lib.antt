mod Reaching
mod Within
mod FileParts
