use Rattle.std.proofs.Common.{rules}
use Rattle.pfs_desk.specs.Engine.{CheckOutput}
use Rattle.pfs_desk.specs.OutputText.{verdict_text, outcome_of}
use Rattle.pfs_desk.proofs.engines.check.run_check.Goals as goal

pub returns-in_err-put_verdict-clause-written : goal.returns-in_err-put_verdict-clause-written
returns-in_err-put_verdict-clause-written g c =
    let output : CheckOutput c.args.layout (g.R.Source.left c.args.reader.now) c.args.block
    (g.O.Source.left c.args.order_reader.now) (outcome_of c.in_ok-verdict.verdict)
    (verdict_text c.in_ok-verdict.verdict) = search rules in
    search rules
