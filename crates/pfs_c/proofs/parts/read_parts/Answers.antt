use Rattle.std.proofs.Common.{◌≡◌, ◌∷◌, [], ◌++◌, length, ap, sym, ◌∙◌, subst, arith, rules, All, List}
use Rattle.std.proofs.lemmas.List.{length-append}
use Rattle.std.proofs.lemmas.List.Elements.{All-push}
use Rattle.pfs_batch.specs.SequenceLists.{sequence_at}
use Rattle.pfs_exact.specs.declared.parts.Part.{Part}
use Rattle.pfs_exact.specs.Parts.{IsPart}
use Rattle.pfs_c.specs.Private.PartRows.{AreRows, IsRow}
use Rattle.pfs_c.proofs.ManyLemmas.{same_slice}
use Rattle.pfs_c.proofs.PartSteps.{rows_more}
use Rattle.pfs_c.proofs.parts.read_parts.Goals as goal

pub loop-index-preserved : goal.loop-index-preserved
loop-index-preserved c =
    let shop = c.args.instance.now.shop in
    let jobs = shop.jobs in
    let parts = c.loop-index.parts.items in
    let part = c.in_ok-part.part in
    let rows = c.args.rows.now in
    let invariant = c.loop-index.invariant in
    let more : c.push.new.self.items ≡ parts ++ part ∷ [] = search rules in
    let row : IsRow jobs part (sequence_at jobs rows (length parts)) = rw (invariant.count, ← same_slice jobs rows c.loop-index.index)
    (rw (c.jobs-jobs.ensures.value) at c.in_ok-part.ensures.row) in
    record {
      count = ap (λ (l : List Part). length l) more ∙ length-append parts (part ∷ []) ∙ omega arith;
      parts = subst (All (IsPart shop)) (sym more) (All-push (IsPart shop) parts part invariant.parts c.in_ok-part.ensures.part);
      rows = subst (λ (l : List Part). AreRows jobs l rows) (sym more) (rows_more jobs parts part rows invariant.rows row);
    }
