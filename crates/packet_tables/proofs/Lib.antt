mod CounterSends
mod Counts
mod FuncRules
