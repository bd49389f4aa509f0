-- The laws of the tree, by subject: what a parent is, what the path to bucket 0 is, which numbers are powers of two.
-- Assumes nothing.
pub mod Parent
pub mod Path
pub mod Power
pub use Parent.{par_suc, par_zero, par_small, par_half, par_more, parent_zero, parent_lt, parent_le, parent_clears, parent_cleared}
pub use Path.{ancestors_zero, ancestors_up, on_path_here, on_path_root, on_path_parent, next_down_root, next_down_here, next_down_up, along_path, on_path_self, on_path_below, on_path_up, on_path_le, next_down_parent}
pub use Power.{power_means, top_bit, power_counted}

-- one turn of each recursion
pub ruleset paths = (on_path_here, on_path_root, on_path_parent, parent_lt)

pub ruleset downs = (next_down_root, next_down_here, next_down_up, parent_lt)
