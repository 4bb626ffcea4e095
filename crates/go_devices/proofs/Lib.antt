mod Listed
mod Trees
mod Streams
