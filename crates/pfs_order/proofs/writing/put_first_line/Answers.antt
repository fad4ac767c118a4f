use Rattle.std.proofs.Common.{rules, ◌∷◌, [], decimal}
use Rattle.pfs_base.proofs.Published.SendsLemmas.{then_all, then_front, then_sends, front_of}
use Rattle.pfs_order.proofs.writing.put_first_line.Goals as goal

pub returns-in_err-sent-in-Some-2 : goal.returns-in_err-sent-in-Some-2
returns-in_err-sent-in-Some-2 g c =
    let jobs = then_front c.in_ok-sent-in-Some.ensures c.in_err-sent-in-Some-2.ensures.text in
    let front = front_of (10 ∷ []) (front_of (32 ∷ decimal c.in-Some.machines) jobs) in
    search rules

pub returns-in_err-sent-in-Some-3 : goal.returns-in_err-sent-in-Some-3
returns-in_err-sent-in-Some-3 g c =
    let jobs = then_all c.in_ok-sent-in-Some.ensures c.in_ok-sent-in-Some-2.ensures.text in
    let front = front_of (10 ∷ []) (then_front jobs c.in_err-sent-in-Some-3.ensures.text) in
    search rules

pub returns-in_ok-sent-in-Some-3 : goal.returns-in_ok-sent-in-Some-3
returns-in_ok-sent-in-Some-3 g c =
    let jobs = then_all c.in_ok-sent-in-Some.ensures c.in_ok-sent-in-Some-2.ensures.text in
    let machines = then_all jobs c.in_ok-sent-in-Some-3.ensures.text in
    let line = then_sends _ _ _ c.put-in-Some.result machines c.put-in-Some.ensures in
    search rules
