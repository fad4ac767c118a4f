use Rattle.std.proofs.Common.{◌≡◌, ◌-◌, length, drop, [], rules, arith}
use Rattle.std.proofs.lemmas.List.{length-drop, length-take-le, nil_from_length}
use Rattle.pfs_iterate.proofs.Among.{all_free}
use Rattle.pfs_iterate.proofs.stay.count_movable.Goals as goal

pub returns-then-is_empty : goal.returns-then-is_empty
returns-then-is_empty c =
    let jobs = c.args.jobs.now in
    let held = c.args.held in
    let none : c.args.stay.now ≡ [] = nil_from_length c.args.stay.now (search rules) in
    rw (none, all_free (drop held jobs), length-drop held jobs)
    (length-take-le (length jobs - held) (drop held jobs) (omega (arith, length-drop held jobs)))
