-- Bounds on the orders that begin and end with some jobs, by one more job.
pub use Rattle.pfs_exact.proofs.Arrays.{all_zero}
pub use Rattle.pfs_exact.proofs.GrownEnds.{back_every, by_itself, from_none, front_every, none_shorter-le}
pub use Rattle.pfs_exact.proofs.MachineBounds.{IsAfter, IsBefore, after-le, after_max, after_on, after_rest, back_left}
pub use Rattle.pfs_exact.proofs.MachineBounds.{back_start, before_on, before_zero, bound_at, bound_behind_at, end_at}
pub use Rattle.pfs_exact.proofs.MachineBounds.{front_left, front_rest, left_all, ready_end, ready_zero, rest_zero}
pub use Rattle.pfs_exact.proofs.MachineBounds.{start_zero, tail_after}
