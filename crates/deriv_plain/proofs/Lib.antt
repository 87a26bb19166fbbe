mod Alike
mod Joined
mod Steady
mod FirstWay
mod Knowing
