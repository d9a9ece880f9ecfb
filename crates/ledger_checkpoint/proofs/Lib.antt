mod Standing
mod Taken
mod Picked
mod Leading
