mod Firsts
mod Tying
