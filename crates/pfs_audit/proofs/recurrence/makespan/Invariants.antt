use Rattle.std.proofs.Common.{◌≡◌, ℕ, ◌+◌, ◌*◌, ◌<◌, ◌≤◌, get_or, vec_len}
use Rattle.pfs_base.specs.Paths.{operation}
use Rattle.pfs_base.proofs.Published.Heads.{head, head_before}
use Rattle.pfs_audit.proofs.recurrence.makespan.Given as goal

abbrev pub invariant-loop-place : goal.invariant-loop-place
invariant-loop-place g l =
    let shop = g.B.Bench.shop l.fn.bench in
    let number = g.B.Span.Length.number in
    record {
      same_shop : g.B.Bench.shop l.bench ≡ shop;
      counted : g.B.Bench.counted l.bench ≡ g.B.Bench.counted l.fn.bench + l.place * shop.machines;
      width : vec_len l.row ≡ shop.machines;
      heads : (m : ℕ) (d : _) → m < shop.machines
          → number (get_or l.row.items m d) ≡ head (operation shop l.seq.jobs) l.place m;
    }

abbrev pub invariant-loop-machine : goal.invariant-loop-machine
invariant-loop-machine g l =
    let shop = g.B.Bench.shop l.fn.bench in
    let number = g.B.Span.Length.number in
    let weigh = operation shop l.seq.jobs in
    record {
      same_shop : g.B.Bench.shop l.bench ≡ shop;
      counted : g.B.Bench.counted l.bench ≡ g.B.Bench.counted l.fn.bench + l.place * shop.machines + l.machine;
      width : vec_len l.row ≡ shop.machines;
      done : (m : ℕ) (d : _) → m < l.machine → number (get_or l.row.items m d) ≡ head weigh (l.place + 1) m;
      to_do : (m : ℕ) (d : _) → l.machine ≤ m → m < shop.machines
          → number (get_or l.row.items m d) ≡ head weigh l.place m;
      before_it : number l.before ≡ head_before weigh l.place l.machine;
    }
