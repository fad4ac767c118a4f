-- Some instance files, and the problems in them.
use Rattle.std.specs.Prelude.{ℕ, List, [], ◌∷◌, ◌++◌, codes, flat_map, if◌then◌else◌}
use Rattle.pfs_base.specs.Problem.{Problem}
use Rattle.pfs_layout.specs.Block.{problem_of, size_from}
use Rattle.pfs_layout.specs.Lines.{is_line_end}

-- the first line of a file in Taillard's layout
abbrev pub heading : List ℕ
heading = codes "number of jobs, number of machines, initial seed, upper bound and lower bound :\n"

-- three jobs on two machines, as a file with these bytes as its last line
abbrev pub ending_with : List ℕ → List ℕ
ending_with last = heading ++ codes "3 2 0 0 0\nprocessing times :\n3 2 4\n" ++ last ++ codes "\n"

abbrev pub three_jobs_file : List ℕ
three_jobs_file = ending_with (codes "2 5 1")

-- the problem of such a file, with this time of the last job on the last machine
abbrev pub three_jobs_with : ℕ → Problem
three_jobs_with last = record {
  shop = record { jobs = 3; machines = 2; times = 3 ∷ 2 ∷ 2 ∷ 5 ∷ 4 ∷ last ∷ [] };
  notes = record { seed = 0; upper = 0; lower = 0 };
}

abbrev pub three_jobs_problem : Problem
three_jobs_problem = three_jobs_with 1

-- the text with a carriage return before each line end
abbrev pub with_returns : List ℕ → List ℕ
with_returns text = flat_map (λ byte. if is_line_end byte then 13 ∷ byte ∷ [] else byte ∷ []) text

-- in the OR-Library's layout: one job with time 7, and then the three jobs
abbrev pub two_blocks_file : List ℕ
two_blocks_file = codes "+++\ninstance one 1\n+++\nfirst\n1 1\n0 7\n+++\nsecond\n3 2\n0 3 1 2\n0 2 1 5\n0 4 1 1\n+++\n"

abbrev pub one_job_problem : Problem
one_job_problem = problem_of (size_from (1 ∷ 1 ∷ [])) (λ job machine. 7)
