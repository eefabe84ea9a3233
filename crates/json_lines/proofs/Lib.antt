mod OneLine
mod Puts
