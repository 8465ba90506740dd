mod Greedy
mod Ranking
mod Rows
