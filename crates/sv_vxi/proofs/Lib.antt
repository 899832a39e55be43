mod Spelled
mod ArgumentBytes
mod PrefixFree
