mod Grouping
mod Numbered
mod Written
