-- The lines of a time table, part by part.
use Rattle.std.proofs.Common.{◌≡◌, ℕ, ◌+◌, ◌<◌, Bool, List, [], ◌∷◌, ◌++◌, Option, length, decimal, codes, get_or, refl}
use Rattle.std.proofs.Common.{append_assoc, append-nil, add-one}
use Rattle.std.specs.List.{flat_map}
use Rattle.pfs_base.specs.Lists.{below}
use Rattle.pfs_base.specs.Sends.{SendsAll, SendsFront}
use Rattle.pfs_base.specs.Text.{named_number}
use Rattle.pfs_base.proofs.Published.SendsLemmas.{then_all, then_front, front_of}
use Rattle.pfs_base.proofs.Published.SpacedLemmas.{flat_map_more, flat_map_from, spaced-cons, spaced_pairs}
use Rattle.pfs_audit.specs.Schedule.{Timing, start_in, end_in, last_end}
use Rattle.pfs_desk.specs.OutputText.{row_text, sizes_text, table_text}

-- ---- a row

module _ (timing : Timing) (row : ℕ) where
  abbrev start_part : ℕ → List ℕ
  start_part machine = 32 ∷ decimal (start_in timing row machine)

  abbrev end_part : ℕ → List ℕ
  end_part machine = 32 ∷ decimal (end_in timing row machine)

  abbrev machine_part : ℕ → List ℕ
  machine_part machine = start_part machine ++ end_part machine

  -- a row's text before this machine
  unfoldable pub row_to : ℕ → List ℕ
  row_to machine = decimal (get_or timing.jobs row 0 + 1) ++ flat_map machine_part (below machine)

  row_to-more : (machine : ℕ) → row_to (machine + 1) ≡ (row_to machine ++ start_part machine) ++ end_part machine
  unfolding row_to
  row_to-more machine = rw (add-one machine, flat_map_more machine_part machine) (simp append_assoc)

  -- the line is the row's text before the machine after the last one, and a line end
  row_whole : row_text timing row ≡ row_to timing.machines ++ 10 ∷ []
  unfolding row_text row_to
  row_whole = rw (spaced-cons, spaced_pairs (start_in timing row) (end_in timing row))

  row_front : {a b : Option (List ℕ)} {failed : Bool} {sent reached : ℕ} (machine : ℕ) → machine < timing.machines
      → SendsFront a b failed sent ((row_to machine ++ start_part machine) ++ end_part machine) reached
      → SendsFront a b failed sent (row_text timing row) reached
  unfolding row_to
  row_front machine h front =
      let (rest, parts) = flat_map_from machine_part machine timing.machines h in
      let whole : row_text timing row
      ≡ ((row_to machine ++ start_part machine) ++ end_part machine) ++ (rest ++ 10 ∷ []) =
      rw (row_whole, parts) (simp append_assoc) in
      rw whole (front_of (rest ++ 10 ∷ []) front)

  -- all of the row's first number was sent, and next, a prefix of it
  pub row_job : {a b : Option (List ℕ)} {failed : Bool} {sent total : ℕ} (job : ℕ) → job ≡ get_or timing.jobs row 0
      → SendsAll a b failed sent (decimal (job + 1)) total → SendsAll a b failed sent (row_to 0) total
  unfolding row_to
  row_job job e all = rw append-nil (rw e at all)

  pub row_job_front : {a b : Option (List ℕ)} {failed : Bool} {sent reached : ℕ} (job : ℕ)
      → job ≡ get_or timing.jobs row 0 → SendsFront a b failed sent (decimal (job + 1)) reached
      → SendsFront a b failed sent (row_text timing row) reached
  unfolding row_to
  row_job_front job e front =
      rw row_whole (front_of (10 ∷ []) (front_of (flat_map machine_part (below timing.machines)) (rw e at front)))

  -- a prefix of a start was sent after the row's earlier numbers
  pub row_start_front : {a b c : Option (List ℕ)} {working failed : Bool} {sent middle reached : ℕ}
      (machine start : ℕ) → machine < timing.machines → start ≡ start_in timing row machine
      → SendsAll a b working sent (row_to machine) middle → SendsFront b c failed middle (32 ∷ decimal start) reached
      → SendsFront a c failed sent (row_text timing row) reached
  row_start_front machine start h e all front =
      row_front machine h (front_of (end_part machine) (then_front all (rw e at front)))

  -- a prefix of an end was sent after the row's earlier numbers
  pub row_end_front : {a b c d : Option (List ℕ)} {working started failed : Bool} {sent middle next reached : ℕ}
      (machine start finish : ℕ) → machine < timing.machines → start ≡ start_in timing row machine
      → finish ≡ end_in timing row machine → SendsAll a b working sent (row_to machine) middle
      → SendsAll b c started middle (32 ∷ decimal start) next → SendsFront c d failed next (32 ∷ decimal finish) reached
      → SendsFront a d failed sent (row_text timing row) reached
  row_end_front machine start finish h e f all one front =
      row_front machine h (then_front (then_all all (rw e at one)) (rw f at front))

  -- one more start and one more end were sent
  pub row_next : {a b c d : Option (List ℕ)} {working started failed : Bool} {sent middle next total : ℕ}
      (machine start finish : ℕ) → start ≡ start_in timing row machine → finish ≡ end_in timing row machine
      → SendsAll a b working sent (row_to machine) middle → SendsAll b c started middle (32 ∷ decimal start) next
      → SendsAll c d failed next (32 ∷ decimal finish) total → SendsAll a d failed sent (row_to (machine + 1)) total
  row_next machine start finish e f all one other =
      rw (row_to-more machine) (then_all (then_all all (rw e at one)) (rw f at other))

  -- a line end completes the row
  pub row_end : (machine : ℕ) → machine ≡ timing.machines → row_text timing row ≡ row_to machine ++ 10 ∷ []
  row_end machine e = rw e row_whole

-- ---- a table

-- a table's text before this row
unfoldable pub table_to : Timing → ℕ → List ℕ
table_to timing row = sizes_text timing ++ flat_map (row_text timing) (below row)

pub table_to-zero : (timing : Timing) → table_to timing 0 ≡ sizes_text timing
unfolding table_to
table_to-zero timing = append-nil (sizes_text timing)

pub table_to-more : (timing : Timing) (row : ℕ) → table_to timing (row + 1) ≡ table_to timing row ++ row_text timing row
unfolding table_to
table_to-more timing row = rw (add-one row, flat_map_more (row_text timing) row) (simp append_assoc)

table_whole : (timing : Timing)
    → table_text timing ≡ table_to timing (length timing.jobs) ++ named_number (codes "makespan") (last_end timing)
unfolding table_text table_to
table_whole timing = refl

pub table_front : {a b : Option (List ℕ)} {failed : Bool} {sent reached : ℕ} (timing : Timing) (row : ℕ)
    → row < length timing.jobs → SendsFront a b failed sent (table_to timing row ++ row_text timing row) reached
    → SendsFront a b failed sent (table_text timing) reached
unfolding table_to
table_front timing row h front =
    let (rest, parts) = flat_map_from (row_text timing) row (length timing.jobs) h in
    let last : List ℕ = named_number (codes "makespan") (last_end timing) in
    let whole : table_text timing ≡ (table_to timing row ++ row_text timing row) ++ (rest ++ last) =
    rw (table_whole timing, parts) (simp append_assoc) in
    rw whole (front_of (rest ++ last) front)

-- a prefix of the first line is a prefix of the table
pub sizes_front : {a b : Option (List ℕ)} {failed : Bool} {sent reached : ℕ} (timing : Timing)
    → SendsFront a b failed sent (sizes_text timing) reached → SendsFront a b failed sent (table_text timing) reached
unfolding table_to
sizes_front timing front = rw (table_whole timing) (front_of _ (front_of _ front))

-- the line of the makespan completes the table
pub table_end : (timing : Timing) (row makespan : ℕ) → row ≡ length timing.jobs → makespan ≡ last_end timing
    → table_text timing ≡ table_to timing row ++ named_number (codes "makespan") makespan
table_end timing row makespan e f = rw (e, f) (table_whole timing)
