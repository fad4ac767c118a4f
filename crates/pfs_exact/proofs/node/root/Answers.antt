use Rattle.std.proofs.Common.{[], ◌-◌, sym, subst, arith}
use Rattle.std.proofs.lemmas.List.{get_or-replicate}
use Rattle.pfs_exact.specs.declared.prove.TheConstants.{MOST_PROVED_MACHINES}
use Rattle.pfs_exact.specs.Private.Nodes.{IsRest, IsStart}
use Rattle.pfs_exact.proofs.MachineBounds.{start_zero, rest_zero, left_all}
use Rattle.pfs_exact.proofs.node.root.Goals as goal

pub returns : goal.returns
returns c = let shop = c.args.instance.now.shop in record {
  starts = λ machine small. subst (IsStart shop [] [] machine)
      (sym (get_or-replicate MOST_PROVED_MACHINES machine 0 0 (omega arith))) (start_zero shop [] [] machine);
  rests = λ turn small. subst (IsRest shop [] [] (shop.machines - 1 - turn))
      (sym (get_or-replicate MOST_PROVED_MACHINES turn 0 0 (omega arith))) (rest_zero shop [] _ (omega arith));
  left = λ machine small. left_all shop machine _ (omega (arith, c.copy.ensures machine (omega (arith, small, c.machines.ensures.value)), c.sums_of.ensures.load.values machine small));
}
