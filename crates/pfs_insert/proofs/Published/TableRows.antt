-- The recurrences of heads and tails, the operations of a sequence with an inserted job, and the exchange law.
pub use Rattle.pfs_insert.proofs.Exchange.{back_none, operation_at, exchange_law}
pub use Rattle.pfs_insert.proofs.TailRows.{back_last, back_more, same_heads}
