mod Dues
mod Scattered
mod NeedsFall
