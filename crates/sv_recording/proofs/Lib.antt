mod Traces
mod Taping
