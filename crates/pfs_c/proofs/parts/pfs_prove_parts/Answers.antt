use Rattle.std.proofs.Common.{◌≡◌, Some, rules}
use Rattle.pfs_c.proofs.Returning.{rejected}
use Rattle.pfs_c.proofs.parts.pfs_prove_parts.Goals as goal

pub returns-in-Err-clause-number : goal.returns-in-Err-clause-number
returns-in-Err-clause-number c =
    let is : c.args.instance.now.shop ≡ Some c.instance.result.now.shop = search rules in
    rw is (rejected (Unit {0}) c.in-Err.why _ _ c.in-Err.ensures.rejected (search rules))
