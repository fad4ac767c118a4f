use Rattle.std.proofs.Common.{inl, inr, refl}
use Rattle.std.proofs.lemmas.Result.{err_from_is_err_and}
use Rattle.pfs_order.specs.Private.Reading.{read_text}
use Rattle.pfs_order.proofs.CodeLemmas.{lines_follow, more_follows, none_follows}
use Rattle.pfs_order.proofs.reading.parse.Goals as goal

pub returns-then-end-text : goal.returns-then-end-text
returns-then-end-text c =
    let lines = lines_follow c.args.text.now _ _ _ _ _ _ _ c.in_ok-head.ensures.read.0 c.in_ok-start.ensures.0
    c.in_ok-makespan.ensures.read.0 in
    inr (more_follows c.args.text.now c.in_ok-makespan.end _ lines c.if-end-text.true)

pub returns-in_err-order : goal.returns-in_err-order
unfolding read_text
returns-in_err-order c =
    let p = err_from_is_err_and c.from_residual-in_err-order.result c.from_residual-in_err-order.ensures.1 in
    let lines = lines_follow c.args.text.now _ _ _ _ _ _ _ c.in_ok-head.ensures.read.0 c.in_ok-start.ensures.0
    c.in_ok-makespan.ensures.read.0 in
    let (has, text) = none_follows c.args.text.now c.in_ok-makespan.end _ lines c.if-end-text.false in
    rw (p.1, p.2) (elim c.in_err-order.ensures [
      | inl memory ↦ inl (memory, (_, (_, (_, has))))
      | inr fault ↦ inr (rw (text, fault) refl)
    ])
