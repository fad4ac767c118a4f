-- Jobs that words remove from those that may move.
use Rattle.std.proofs.Common.{◌≡◌, ℕ, ◌+◌, ◌<◌, ◌%◌, true, not, List, [], ◌∷◌, ◌++◌, length}
use Rattle.std.proofs.Common.{get_or, take, drop, remove, refl, arith, append_assoc, sym, ◌∙◌, ap, ap₂}
use Rattle.std.proofs.lemmas.List.{get_or-drop, length-append, length-drop, take-append-drop}
use Rattle.std.proofs.lemmas.List.Edits.{length-remove}
use Rattle.std.proofs.lemmas.List.Elements.{All-get_or, filter-append, filter_passes}
use Rattle.std.proofs.lemmas.List.Filters.{length-filter_both}
use Rattle.pfs_search.specs.Greedy.{jobs_taken}
use Rattle.pfs_iterate.specs.Iterated.{is_free, left_among, movable, place_among}
use Rattle.pfs_iterate.specs.Rounds.{staying}
use Rattle.pfs_iterate.specs.Private.Steps.{before, ranks_of, ranks_without}
use Rattle.pfs_iterate.proofs.Among.{IsAmong, is_among}
use Rattle.pfs_iterate.proofs.Ranks.{place_by_ranks, ranks_removed}
use Rattle.pfs_iterate.proofs.Fronts.{drop-remove, take-remove}

staying_parts : (held : ℕ) (stay jobs : List ℕ) → staying stay jobs ≡ staying stay (take held jobs) ++ staying stay (drop held jobs)
staying_parts held stay jobs =
    ap (staying stay) (sym (take-append-drop held jobs))
    ∙ filter-append (λ job. not (is_free stay job)) (take held jobs) (drop held jobs)

-- where the same jobs are held, and the same ones stay, as many jobs may move
pub same_count : (held : ℕ) (stay old new : List ℕ) → take held new ≡ take held old → staying stay new ≡ staying stay old
    → length new ≡ length old → length (movable held stay new) ≡ length (movable held stay old)
same_count held stay old new front same long =
    let both = λ (jobs : List ℕ). length-filter_both (is_free stay) (λ job. not (is_free stay job)) (λ _. refl) (drop held jobs) in
    let parts = λ (jobs : List ℕ). ap length (staying_parts held stay jobs)
    ∙ length-append (staying stay (take held jobs)) (staying stay (drop held jobs)) in
    omega (
      arith,
      both old,
      both new,
      parts old,
      parts new,
      ap length same,
      ap (λ jobs. length (staying stay jobs)) front,
      length-drop held old,
      length-drop held new,
      long,
    )

-- a word removes the next job
module _ (held : ℕ) (stay : List ℕ) (word : ℕ) (jobs : List ℕ) (some : 0 < length (movable held stay jobs)) where
  abbrev count : ℕ
  count = length (movable held stay jobs)

  abbrev number : ℕ
  number = word % count

  abbrev pub among : ℕ
  among = place_among (is_free stay) (drop held jobs) number

  names : IsAmong (is_free stay) (drop held jobs) number among
  names = is_among (is_free stay) (drop held jobs) number (omega (arith, some))

  pub place_within : held + among < length jobs
  place_within = omega (arith, names.within, length-drop held jobs)

  gone : drop held (remove jobs (held + among)) ≡ remove (drop held jobs) among
  gone = drop-remove held among jobs place_within

  pub left_behind : (rest : List ℕ) → left_among (is_free stay) (drop held (remove jobs (held + among))) rest
      ≡ left_among (is_free stay) (drop held jobs) (word ∷ rest)
  left_behind rest = rw gone refl

  pub movable_left : movable held stay (remove jobs (held + among)) ≡ remove (movable held stay jobs) number
  movable_left = rw gone names.gone

  pub count_left : length (movable held stay (remove jobs (held + among))) + 1 ≡ count
  count_left = rw movable_left (omega (arith, some, length-remove (movable held stay jobs) number (omega (arith, some))))

  -- the job that is removed
  pub job_named : get_or jobs (held + among) 0 ≡ get_or (movable held stay jobs) number 0
  job_named = sym (get_or-drop held jobs among 0) ∙ names.at

  pub is_free_job : is_free stay (get_or jobs (held + among) 0) ≡ true
  is_free_job = rw job_named (All-get_or (λ job. is_free stay job ≡ true) (movable held stay jobs) number 0
      (omega (arith, some)) (filter_passes (is_free stay) (drop held jobs)))

  pub taken_behind : (done rest : List ℕ) (job : ℕ) → job ≡ get_or jobs (held + among) 0
      → (done ++ job ∷ []) ++ jobs_taken (movable held stay (remove jobs (held + among))) rest
      ≡ done ++ jobs_taken (movable held stay jobs) (word ∷ rest)
  taken_behind done rest job at = rw (movable_left, append_assoc, at, job_named) refl

  -- the ranks say where it is, and what they are without it
  pub by_ranks : among ≡ number + before number (ranks_of (is_free stay) (drop held jobs))
  by_ranks = place_by_ranks (is_free stay) (drop held jobs) number (omega (arith, some))

  pub ranks_left : ranks_of (is_free stay) (drop held (remove jobs (held + among)))
      ≡ ranks_without number (ranks_of (is_free stay) (drop held jobs))
  ranks_left = rw gone (ranks_removed (is_free stay) (drop held jobs) number (omega (arith, some)))

  pub staying_left : staying stay (remove jobs (held + among)) ≡ staying stay jobs
  staying_left =
      staying_parts held stay (remove jobs (held + among))
      ∙ ap₂ (λ a b. a ++ b) (ap (staying stay) (take-remove held (held + among) jobs (omega arith)))
      (ap (staying stay) gone ∙ names.others)
      ∙ sym (staying_parts held stay jobs)
