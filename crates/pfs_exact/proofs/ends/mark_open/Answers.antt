use Rattle.std.proofs.Common.{sym, ◌∙◌, true, false, arith}
use Rattle.std.proofs.lemmas.List.{get_or-replicate}
use Rattle.pfs_exact.specs.declared.prove.TheConstants.{MOST_PROVED_JOBS}
use Rattle.std.proofs.lemmas.Bool.{true≢false}
use Rattle.pfs_exact.proofs.ends.mark_open.Goals as goal

pub returns : goal.returns
returns c =
    let front = c.clear.ensures in
    let back = c.clear-2.ensures in
    record {
      marked = λ job small outside. back.kept job outside.1 ∙ front.kept job outside.0
          ∙ get_or-replicate MOST_PROVED_JOBS job true false (omega arith);
      only = λ job small is. (
        λ among. true≢false (sym (back.fewer job is) ∙ front.cleared job among),
        λ among. true≢false (sym is ∙ back.cleared job among),
      );
    }
