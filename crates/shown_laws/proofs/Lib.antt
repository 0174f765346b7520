mod Bodies
mod Held
mod Turning
mod ShownLaws
