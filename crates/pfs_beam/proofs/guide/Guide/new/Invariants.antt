use Rattle.std.proofs.Common.{◌≡◌, ◌<◌, All, length, vec_capacity}
use Rattle.pfs_beam.proofs.guide.Guide.new.Given as goal

abbrev pub invariant-loop-job : goal.invariant-loop-job
invariant-loop-job l = record {
  likes : length l.likes.items ≡ l.job;
  totals : length l.totals.items ≡ l.job;
  small : All (λ like. like < l.instance.shop.jobs) l.likes.items;
  likes_room : vec_capacity l.likes ≡ l.instance.shop.jobs;
  totals_room : vec_capacity l.totals ≡ l.instance.shop.jobs;
}
