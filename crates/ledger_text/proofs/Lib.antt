mod Reading
mod Taking
mod Saying
