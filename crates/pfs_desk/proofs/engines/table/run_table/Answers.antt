use Rattle.std.proofs.Common.{◌≡◌, length, ap, ◌∙◌, sym, rules}
use Rattle.pfs_audit.specs.Verdicts.{SizesMatch}
use Rattle.pfs_desk.specs.OutputText.{IsLeastTable}
use Rattle.pfs_desk.proofs.OutputLemmas.{fitting_prints, least_of, wrong_machines_prints, wrong_size_prints}
use Rattle.pfs_desk.proofs.engines.table.run_table.Goals as goal

pub returns-in_err-put_verdict-clause-written : goal.returns-in_err-put_verdict-clause-written
returns-in_err-put_verdict-clause-written g c =
    let prints = wrong_size_prints c.in_ok-instance.instance.shop c.in_ok-file.file c.len-size.result
    c.jobs-jobs.result (c.len-size.ensures.value ∙ ap length c.order-order.ensures.value) c.jobs-jobs.ensures.value
    c.if-size-jobs.true in
    search rules

pub returns-in_err-put_verdict-2-clause-written : goal.returns-in_err-put_verdict-2-clause-written
returns-in_err-put_verdict-2-clause-written g c =
    let size : length c.in_ok-file.file.order ≡ c.in_ok-instance.instance.shop.jobs =
    ap length (sym c.order-order.ensures.value) ∙ sym c.len-size.ensures.value ∙ c.if-size-jobs.false
    ∙ c.jobs-jobs.ensures.value in
    let prints = wrong_machines_prints c.in_ok-instance.instance.shop c.in_ok-file.file c.in-Some.order
    c.machines-machines.result size (sym c.machines.ensures.value ∙ c.in-Some.is) c.machines-machines.ensures.value
    c.if-order-machines.true in
    search rules

pub returns-in_err-put_table-clause-written : goal.returns-in_err-put_table-clause-written
returns-in_err-put_table-clause-written g c =
    let shop = c.in_ok-instance.instance.shop in
    let fits : SizesMatch shop c.in_ok-file.file = search rules in
    let least : IsLeastTable shop c.order-order.result.now c.in_ok-table.table = search rules in
    let prints = fitting_prints shop c.in_ok-file.file c.in_ok-table.table fits
    (least_of shop c.order-order.result.now _ c.in_ok-table.table c.order-order.ensures.value least) in
    search rules

pub returns-2-clause-written : goal.returns-2-clause-written
returns-2-clause-written g c =
    let shop = c.in_ok-instance.instance.shop in
    let fits : SizesMatch shop c.in_ok-file.file = search rules in
    let least : IsLeastTable shop c.order-order.result.now c.in_ok-table.table = search rules in
    let prints = fitting_prints shop c.in_ok-file.file c.in_ok-table.table fits
    (least_of shop c.order-order.result.now _ c.in_ok-table.table c.order-order.ensures.value least) in
    search rules
