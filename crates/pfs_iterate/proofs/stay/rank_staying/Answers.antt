use Rattle.std.proofs.Common.{◌≡◌, ◌+◌, ◌-◌, ◌++◌, ◌∷◌, [], true, false, length, get_or, take, drop, sym, ap, ◌∙◌, rules, arith}
use Rattle.std.proofs.lemmas.List.{length-append, length-drop, length-take-le, nil_from_length, take_more}
use Rattle.pfs_iterate.proofs.Among.{all_free}
use Rattle.pfs_iterate.proofs.Ranks.{count_free, count_other, ranks_free, ranks_none, ranks_other}
use Rattle.pfs_iterate.specs.Iterated.{is_free}
use Rattle.pfs_iterate.specs.Private.Steps.{ranks_of}
use Rattle.pfs_iterate.proofs.stay.rank_staying.Goals as goal
use Rattle.pfs_iterate.proofs.stay.rank_staying.Goals.{then-is_free, else-is_free}

pub returns-then-is_empty-clause-count : goal.returns-then-is_empty-clause-count
returns-then-is_empty-clause-count c =
    let jobs = c.args.jobs.now in
    let held = c.args.held in
    let none : c.args.stay.now ≡ [] = nil_from_length c.args.stay.now (search rules) in
    rw (none, all_free (drop held jobs), length-drop held jobs)
    (length-take-le (length jobs - held) (drop held jobs) (omega (arith, length-drop held jobs)))

pub returns-then-is_empty-clause-ranks : goal.returns-then-is_empty-clause-ranks
returns-then-is_empty-clause-ranks c =
    let none : c.args.stay.now ≡ [] = nil_from_length c.args.stay.now (search rules) in
    rw (none, ranks_none (drop c.args.held c.args.jobs.now)) (search rules)

pub loop-job-preserved : goal.loop-job-preserved
loop-job-preserved c =
    let free = is_free c.args.stay.now in
    let jobs = take (length c.args.jobs.now - c.args.held) (drop c.args.held c.args.jobs.now) in
    let i = c.loop-job.job-index in
    let job = get_or jobs i 0 in
    let front = take i jobs in
    let invariant = c.loop-job.invariant in
    let more : take (i + 1) jobs ≡ front ++ job ∷ [] = take_more jobs i 0 c.loop-job-test.true in
    elim c.if-is_free.branch [
      | then-is_free w ↦
          let here : free job ≡ true = sym c.is_free.ensures ∙ w.if-is_free.true in
          record {
            few = omega (arith, w.free-is, invariant.few);
            long = rw w.ranks-is (omega (arith, invariant.long));
            count = rw more (omega (arith, w.free-is, invariant.count, count_free free job front here));
            ranks = rw (w.ranks-is, more, ranks_free free job front here) invariant.ranks;
            room = rw w.ranks-is invariant.room;
          }
      | else-is_free w ↦
          let other : free job ≡ false = sym c.is_free.ensures ∙ w.if-is_free.false in
          let pushed = w.push_reserved.ensures.items in
          record {
            few = omega (arith, w.free-is, invariant.few);
            long = rw w.ranks-is (omega (
              arith,
              ap length pushed,
              length-append c.loop-job.ranks.items (c.loop-job.free ∷ []),
              invariant.long,
            ));
            count = rw more (omega (arith, w.free-is, invariant.count, count_other free job front other));
            ranks = rw (w.ranks-is, pushed, invariant.ranks, more, ranks_other free job front other)
                (ap (λ n. ranks_of free front ++ n ∷ []) invariant.count);
            room = rw w.ranks-is (omega (arith, w.push_reserved.ensures.capacity, invariant.room));
          }
    ]
