use Rattle.std.proofs.Common.{◌∙◌, ℕ, List, length, take_all, get_or, All, Contains, sym, arith}
use Rattle.std.proofs.lemmas.List.Sorted.{Contains-permutation}
use Rattle.pfs_base.specs.FlowShop.{FlowShop}
use Rattle.pfs_order.specs.Sequence.{IsSequence}
use Rattle.pfs_order.proofs.Published.Sequences.{IsSequence-permutation}
use Rattle.pfs_search.specs.Greedy.{passes_over}
use Rattle.pfs_search.proofs.Published.Moves.{passes_keep, passes_more}
use Rattle.pfs_c.proofs.Building.{pass_is}
use Rattle.pfs_c.proofs.kept.Kept.visit.Goals as goal

module _ (shop : FlowShop) (start list : List ℕ) (distinct : IsSequence shop.jobs start)
    (among : All (λ job. Contains start job) list) (passes : ℕ) where
  abbrev so_far : List ℕ
  so_far = passes_over shop list passes start

  still_distinct : IsSequence shop.jobs so_far
  still_distinct =
      IsSequence-permutation shop.jobs start so_far (passes_keep shop start distinct list passes among).same distinct

  still_among : All (λ job. Contains so_far job) list
  still_among k d lt =
      Contains-permutation start so_far (get_or list k d) (passes_keep shop start distinct list passes among).same
      (among k d lt)

pub build-span-requires-in-loop-pass-clause-together : goal.build-span-requires-in-loop-pass-clause-together
build-span-requires-in-loop-pass-clause-together c =
    let whole = take_all (length c.args.order.now) c.loop-pass.order (omega (arith, c.loop-pass.auto.order))
    ∙ c.loop-pass.invariant.order in
    rw (c.loop-pass.invariant.shop, whole)
    (still_distinct c.args.self.now c.args.order.now c.args.list.now c.requires.sequence c.requires.members
    c.loop-pass._pass)

pub loop-pass-preserved : goal.loop-pass-preserved
loop-pass-preserved c =
    let shop = c.args.self.now in
    let start = c.args.order.now in
    let list = c.args.list.now in
    let pass = c.loop-pass._pass in
    let whole = take_all (length start) c.loop-pass.order (omega (arith, c.loop-pass.auto.order))
    ∙ c.loop-pass.invariant.order in
    let found = c.build-span-in-loop-pass in
    let built = rw (c.loop-pass.invariant.shop, whole) at found.ensures.built in
    record {
      shop = found.ensures.shop ∙ c.loop-pass.invariant.shop;
      order = built.found
          ∙ pass_is c.first.ensures shop list (passes_over shop list pass start)
          (still_distinct shop start list c.requires.sequence c.requires.members pass)
          (still_among shop start list c.requires.sequence c.requires.members pass)
          ∙ sym (passes_more shop list pass start);
      span = built.spanned;
    }
