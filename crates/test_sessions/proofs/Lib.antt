mod Blank
mod FreshSeats
