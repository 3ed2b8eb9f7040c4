mod Levels
mod Taken
mod Accepted
mod Commands
mod Getters
