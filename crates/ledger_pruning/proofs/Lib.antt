mod Splitting
mod Greatest
