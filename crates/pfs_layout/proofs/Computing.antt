-- All definitions that the examples compute with, under one name.
use Rattle.std.specs.Fmt.{digits}
use Rattle.pfs_layout.proofs.Words.{lines, ended_parts, open_part, numbers, ended_numbers, due_row, due, stated_size}
use Rattle.pfs_layout.proofs.Words.{due_at, are_due, canonical_text, seed_after, generated, stand_after, stand}
use Rattle.pfs_layout.proofs.Words.{instance_of, mixed_line, wrong_number, wrong_size, ends_early, fault_of_place}
use Rattle.pfs_layout.proofs.Words.{rejection, accepted, byte_fault}

unfoldable pub computing : Unit {0}
unfolding lines ended_parts open_part numbers ended_numbers due_row due stated_size due_at are_due canonical_text
    seed_after generated stand_after stand instance_of mixed_line wrong_number wrong_size ends_early fault_of_place
    rejection accepted byte_fault digits
computing = tt
