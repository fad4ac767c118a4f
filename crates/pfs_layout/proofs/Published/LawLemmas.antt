-- The law of one verdict, and the laws on what computes it.
use Rattle.pfs_layout.proofs.Words.{inl, inr, rejection, cases_option}
use Rattle.pfs_layout.specs.Laws.{OneVerdict, AcceptedLaw}
use Rattle.pfs_layout.proofs.Published.PlaceLemmas.{rejection_is, one_fault}
use Rattle.pfs_layout.proofs.Files.FileLemmas.{file_completes, completes_file}
use Rattle.pfs_layout.proofs.Files.VerdictLemmas.{one_held, unrejected_holds, holds_unrejected, holds_accepted}
use Rattle.pfs_layout.proofs.Files.VerdictLemmas.{accepted_holds}

pub accepted_law : AcceptedLaw
accepted_law layout input k problem some = (
  λ e. completes_file layout input k problem (accepted_holds layout k some input problem e),
  λ file. holds_accepted layout k input problem (file_completes layout input k problem file),
)

pub one_verdict : OneVerdict
one_verdict layout input k some = elim (cases_option (rejection layout input k)) [
  | inr rejected ↦ inr (
    let has = (rejection_is layout input k rejected.0).0 rejected.1 in
        record { one = rejected.0; has = has; no_other = λ other r. one_fault layout input k other rejected.0 r has },
    λ problem file.
        let none = holds_unrejected layout k input problem (file_completes layout input k problem file) in
        let fault = rejected.1 in
        cc,
  )
  | inl none ↦
      let held = unrejected_holds layout k some input none in
      inl (
        record {
          one = held.0;
          has = completes_file layout input k held.0 held.1;
          no_other = λ other file. one_held layout k input other held.0
              (file_completes layout input k other file) held.1;
        },
        λ fault rejected. let there = (rejection_is layout input k fault).1 rejected in cc,
      )
]
