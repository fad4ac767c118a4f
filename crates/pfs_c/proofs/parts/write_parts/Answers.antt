use Rattle.std.proofs.Common.{◌≡◌, ◌+◌, ◌-◌, ◌*◌, ◌≤◌, inl, inr, List, ℕ, length, get_or, set, ap, sym, ◌∙◌, subst, arith, rules}
use Rattle.std.proofs.Math.Nat.{mul-le-mul_right}
use Rattle.std.proofs.lemmas.Bool.{cases_lt}
use Rattle.std.proofs.lemmas.List.{get_or-set_same, get_or-set_other, get_or_default}
use Rattle.pfs_batch.specs.SequenceLists.{sequence_at}
use Rattle.pfs_exact.specs.declared.parts.Part.{Part}
use Rattle.pfs_c.specs.Private.PartRows.{IsRow}
use Rattle.pfs_c.proofs.PartSteps.{row_here, row_there}
use Rattle.pfs_c.proofs.parts.write_parts.Goals as goal
use borrow.Rule.Slice.PartMut.{put_mid}

pub loop-index-preserved : goal.loop-index-preserved
loop-index-preserved c =
    let jobs = c.args.jobs in
    let index = c.loop-index.index in
    let invariant = c.loop-index.invariant in
    let parts = c.args.parts.now in
    let part = c.index-parts-index.result in
    let is : (d : Part) → part ≡ get_or parts index d = λ d. c.index-parts-index.is ∙ get_or_default parts index _ d (omega arith) in
    let n = index * jobs + jobs - index * jobs in
    let rows = c.loop-index.rows in
    let row = c.write_part.new.row in
    let fits : (index + 1) * jobs ≤ length parts * jobs = mul-le-mul_right jobs (omega arith) in
    let same : n ≡ jobs = omega arith in
    let long : length row ≡ n = search rules in
    let room : index * jobs + n ≤ length rows = omega (arith, fits, c.requires.rows, c.loop-index.auto.rows) in
    record {
      rows = λ k d lt. elim (cases_lt k index) [
        | inl before ↦ subst (IsRow jobs (get_or parts k d)) (sym (row_there jobs index n rows row same long room k before))
            (invariant.rows k d before)
        | inr last ↦
            let here : index ≡ k = omega arith in
            let size = sym c.write_part.ensures.long ∙ long ∙ same in
            let one = subst (λ (m : ℕ). IsRow m part row) size c.write_part.ensures in
            subst (λ (i : ℕ). IsRow jobs (get_or parts i d) (sequence_at jobs (put_mid (index * jobs) n rows row) i)) here
            (subst (λ (l : List ℕ). IsRow jobs (get_or parts index d) l)
            (sym (row_here jobs index n rows row same long room)) (subst (λ (p : Part). IsRow jobs p row) (is d) one))
      ];
      bounds = λ k d lt. elim (cases_lt k index) [
        | inl before ↦ get_or-set_other c.loop-index.bounds index k part.bound 0 (omega arith)
            ∙ invariant.bounds k d before
        | inr last ↦
            let here : index ≡ k = omega arith in
            subst (λ (i : ℕ). get_or (set c.loop-index.bounds index part.bound) i 0 ≡ (get_or parts i d).bound) here
            (get_or-set_same c.loop-index.bounds index part.bound 0 (omega (arith, c.requires.bounds, c.loop-index.auto.bounds))
            ∙ ap (λ (p : Part). p.bound) (is d))
      ];
    }
