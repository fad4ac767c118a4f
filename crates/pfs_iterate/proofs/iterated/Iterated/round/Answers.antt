use Rattle.std.proofs.Common.{sym, ◌∙◌, rules}
use Rattle.pfs_iterate.proofs.Taking.{same_count}
use Rattle.pfs_iterate.proofs.iterated.Iterated.round.Goals as goal

pub returns-then-accepts-clause-ready : goal.returns-then-accepts-clause-ready
returns-then-accepts-clause-ready c =
    let old = c.args.self.now.current.order in
    let ready = c.requires.ready in
    let found = c.find-span.ensures in
    record {
      own = search rules;
      current = search rules;
      best = search rules;
      front = search rules;
      free = rw (
        c.copy_from-then-accepts.ensures,
        same_count c.args.options.now.held c.args.stay.now old
            c.find-span.new.work.seq.jobs found.front found.staying (found.all ∙ sym ready.current.all),
      ) ready.free;
    }
