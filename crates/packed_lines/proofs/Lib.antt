mod Standing
mod Gathering
